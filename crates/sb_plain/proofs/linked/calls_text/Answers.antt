use Rattle.std.proofs.Common.{◌≡◌, ◌∙◌, rules, subst}
use Rattle.std.specs.Prelude.{IfOk}
use Rattle.sb_book.specs.ReadyScripts.{Ready}
use Rattle.sb_link.specs.LinkedHistories.{LinkedHistory}
use Rattle.sb_link.specs.Lines.{log_text}
use Rattle.sb_link.specs.ScriptCalls.{script_answered}
use Rattle.sb_statements.specs.declared.scripts.Script.{Script}
use Rattle.sb_plain.specs.Linked.{calls_text}
use Rattle.sb_plain.proofs.linked.calls_text.Goals as goal

pub returns : goal.returns
unfolding calls_text
returns c =
    let script = c.args.opened.script in
    let book = c.in_ok-book.book in
    let P : Ready → Type 0 = λ z. book ≡ script_answered z.policies z.script c.args.links in
    let answered : P c.args.opened = subst P (c.of.ensures ∙ c.into_parts-ready.ensures.ready) c.in_ok-book.ensures in
    let same : c.deref-2.result.now ≡ script = search rules in
    let Q : Script → LinkedHistory → Type 0 = λ s b. IfOk c.text.result (λ text. text.items ≡ log_text s b) in
    let told : Q script book = subst (λ s. Q s book) same c.text.ensures in
    subst (Q script) answered told
