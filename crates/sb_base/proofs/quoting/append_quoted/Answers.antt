use Rattle.std.proofs.Common.{◌∙◌, ◌++◌, ◌∷◌, [], ap, append_assoc}
use Rattle.std.proofs.lemmas.List.{append-nil}
use Rattle.std.specs.List.{flat_map}
use Rattle.sb_base.specs.Quoting.{quoted_unit}
use Rattle.sb_base.proofs.Kept.{on_err, kept, kept_before}
use Rattle.sb_base.proofs.quoting.append_quoted.Goals as goal

pub returns-in_err-push-clause-err : goal.returns-in_err-push-clause-err
returns-in_err-push-clause-err c =
    on_err c.from_residual.result (kept c.args.out.now.len c.args.out.now.items [] c.push.new.self.items c.args.out.now.ok.0 (rw append-nil c.in_err-push.ensures.items))

pub returns-in_err-append_units-clause-err : goal.returns-in_err-append_units-clause-err
returns-in_err-append_units-clause-err c =
    on_err c.from_residual-in_err-append_units.result (kept_before c.args.out.now.len c.push.new.self.len 34 c.args.out.now.items c.append_units.new.out.items c.args.out.now.ok.0 c.in_ok-push.ensures.len (c.in_err-append_units.ensures.err ∙ c.in_ok-push.ensures.items))

pub returns-in_err-push-2-clause-err : goal.returns-in_err-push-2-clause-err
returns-in_err-push-2-clause-err c =
    let units = flat_map quoted_unit c.args.units.now in
    on_err c.from_residual-in_err-push-2.result (kept c.args.out.now.len c.args.out.now.items (34 ∷ units) c.push-2.new.self.items c.args.out.now.ok.0
    (c.in_err-push-2.ensures.items ∙ c.in_ok-append_units.ensures.ok ∙ ap (λ o. o ++ units) c.in_ok-push.ensures.items ∙ append_assoc c.args.out.now.items (34 ∷ []) units))

pub returns-clause-ok : goal.returns-clause-ok
returns-clause-ok c = rw (c.in_ok-push-2.ensures.items, c.in_ok-append_units.ensures.ok, c.in_ok-push.ensures.items) (simp append_assoc)
