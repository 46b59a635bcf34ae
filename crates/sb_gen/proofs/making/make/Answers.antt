use Rattle.std.proofs.Common.{rules, ◌≡◌, ◌∙◌, subst, sym, true, false, refl, Bool, Option, None, Some}
use Rattle.std.proofs.lemmas.Bool.{false≢true}
use Rattle.std.specs.Prelude.{IsSome, MatchOption}
use Rattle.sb_book.specs.Readiness.{is_ready}
use Rattle.sb_statements.specs.Scripts.{is_clean}
use Rattle.sb_statements.specs.SoundScripts.{IsSoundScript}
use Rattle.sb_statements.specs.declared.scripts.Script.{Script}
use Rattle.sb_gen.specs.Scripts.{script_of}
use Rattle.sb_gen.proofs.Readiness.{scripts_are_ready, scripts_are_clean}
use Rattle.sb_gen.proofs.ScriptUnits.{scripts_are_kept}
use Rattle.sb_gen.proofs.making.make.Goals as goal

pub of-requires : goal.of-requires
of-requires c =
    let made : c.in_ok-script.script ≡ script_of c.args.seed c.args.targets c.args.calls = search rules in
    subst IsSoundScript (sym made) (scripts_are_kept c.args.seed c.args.targets c.args.calls c.requires.targets.1 c.requires.calls.1)

-- what is ready is opened
is_opened : {A : Type 0} (is_opened_as : A → Type 0) (opened : Option A) (ready : Bool) → ready ≡ true → MatchOption opened (ready ≡ false) is_opened_as → IsSome opened
is_opened is_opened_as None ready h unready = absurd (false≢true (sym unready ∙ h))
is_opened is_opened_as (Some made) ready h made_so = refl

pub unwrap-requires : goal.unwrap-requires
unwrap-requires c =
    let policies = c.in_ok-policies.policies.list in
    let made : c.of.result ≡ script_of c.args.seed c.args.targets c.args.calls = search rules in
    let ready = scripts_are_ready policies c.args.seed c.args.targets c.args.calls c.requires.targets.1 c.requires.calls.1
    c.in_ok-policies.ensures.one c.policies-well_made.ensures.well_made in
    is_opened _ c.in_ok-opened.opened _ (subst (λ (script : Script). is_ready policies script ≡ true) (sym made) ready) c.in_ok-opened.ensures

pub returns-clause-clean : goal.returns-clause-clean
returns-clause-clean c =
    let made : c.unwrap.result.script ≡ script_of c.args.seed c.args.targets c.args.calls = search rules in
    λ target channel. subst (λ (script : Script). is_clean script target channel ≡ true) (sym made) (scripts_are_clean target channel c.args.seed c.args.targets c.args.calls)
