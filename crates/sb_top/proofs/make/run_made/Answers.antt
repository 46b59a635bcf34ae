use Rattle.std.proofs.Common.{◌≡◌, ◌∙◌, ap, sym, subst}
use Rattle.sb_book.specs.ReadyScripts.{Ready}
use Rattle.std.specs.Prelude.{IfOk}
use Rattle.sb_core.specs.Runs.{IsSomeRun}
use Rattle.sb_gen.specs.Policies.{AreMade}
use Rattle.sb_gen.specs.Scripts.{script_of}
use Rattle.sb_top.specs.Totals.{AllClean}
use Rattle.sb_top.proofs.Made.{made_lines, made_reports}
use Rattle.sb_top.proofs.make.run_made.Goals as goal

pub returns-clause-report : goal.returns-clause-report
returns-clause-report g c =
    let ready = c.into_parts-ready.result.0 in
    let is = c.into_parts-ready.ensures.ready in
    let made : AreMade ready.policies = subst (λ (z : Ready). AreMade z.policies) (sym is) c.in_ok-make.ensures.policies in
    let same : ready.script ≡ script_of c.args.seed c.args.targets c.args.calls = ap (λ (z : Ready). z.script) is ∙ c.in_ok-make.ensures.script in
    let P : Ready → Type 0 = λ (z : Ready). IfOk c.run_judged.result (λ r. IsSomeRun z.policies z.script r) in
    let some : P ready = subst P c.of.ensures c.run_judged.ensures.report in
    made_reports c.args.seed c.args.targets c.args.calls ready.policies ready.script c.run_judged.result made same some

pub returns-clause-totals : goal.returns-clause-totals
returns-clause-totals g c =
    let ready = c.into_parts-ready.result.0 in
    let is = c.into_parts-ready.ensures.ready in
    let made : AreMade ready.policies = subst (λ (z : Ready). AreMade z.policies) (sym is) c.in_ok-make.ensures.policies in
    let same : ready.script ≡ script_of c.args.seed c.args.targets c.args.calls = ap (λ (z : Ready). z.script) is ∙ c.in_ok-make.ensures.script in
    let clean : AllClean ready.script = subst (λ (z : Ready). AllClean z.script) (sym is) c.in_ok-make.ensures.clean in
    let P : Ready → Type 0 = λ (z : Ready). IfOk c.run_judged.result (λ r. IsSomeRun z.policies z.script r) in
    let some : P ready = subst P c.of.ensures c.run_judged.ensures.report in
    made_lines c.totals_are_of_verdicts.ensures c.runs_are_sound.ensures c.args.seed c.args.targets c.args.calls ready.policies ready.script
    c.run_judged.result made same clean some
