use Rattle.std.proofs.Common.{rules, ◌≡◌, ◌∙◌}
use Rattle.std.proofs.lemmas.List.Elements.{same_from_all_zip}
use Rattle.sb_local.proofs.Sound.{fits_in_sound, thinned_is_sound}
use Rattle.sb_local.specs.Thinning.{thin_targets}
use Rattle.sb_statements.specs.declared.scripts.StartLine.{StartLine}
use Rattle.sb_local.proofs.thinning.thin.Goals as goal

pub thin_targets-requires-clause-fits : goal.thin_targets-requires-clause-fits
thin_targets-requires-clause-fits g c κs within =
    let fits = fits_in_sound c.args.script.now c.establish_sound.ensures.sound in search rules

pub of-requires : goal.of-requires
of-requires g c =
    let policies = g.J.Judge.policies c.args.judge.now in
    let script = c.args.script.now in
    let start : c.in_ok-start.start ≡ script.start =
    same_from_all_zip (λ (x y : StartLine). y ≡ x) _ c.in_ok-start.start c.in_ok-start.ensures.cases (λ x y h. h) ∙ search rules in
    let targets : c.in_ok-targets.targets ≡ thin_targets policies 0 script.targets = search rules in
    let patience : c.deref-3.result.now.patience ≡ script.patience = search rules in
    thinned_is_sound policies script c.deref-3.result.now.patience c.in_ok-start.start c.in_ok-targets.targets patience start targets
    c.establish_sound.ensures.sound c.establish_sound.ensures.units c.establish_sound.ensures.short
