use Rattle.std.proofs.Common.{◌≡◌, ◌∙◌, rules, subst}
use Rattle.std.specs.Prelude.{IfOk}
use Rattle.sb_book.specs.ReadyScripts.{Ready}
use Rattle.sb_core.specs.declared.runs.Ran.{Ran}
use Rattle.sb_statements.specs.declared.scripts.Script.{Script}
use Rattle.sb_plain.specs.Readings.{reported_run}
use Rattle.sb_plain.specs.Replay.{whole_run}
use Rattle.sb_plain.proofs.replay.replay_script.Goals as goal

pub returns : goal.returns
returns c =
    let script = c.args.opened.script in
    let schedule = c.args.schedule.now in
    let r = c.in_ok-ran.ran in
    let P : Ready → Type 0 = λ z. r ≡ whole_run z.policies z.script schedule in
    let whole : P c.args.opened = subst P (c.of.ensures ∙ c.into_parts-ready.ensures.ready) c.in_ok-ran.ensures.value in
    let same : c.deref.result.now ≡ script = search rules in
    let Q : Script → Ran → Type 0 = λ s x. IfOk c.end_of_run.result (λ end. end ≡ reported_run s x) in
    let told : Q script r = subst (λ s. Q s r) same c.end_of_run.ensures in
    subst (Q script) whole told
