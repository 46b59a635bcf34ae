use Rattle.std.proofs.Common.{rules, ◌≡◌, ◌∙◌, ap, sym, List}
use Rattle.sb_block.specs.Blocks.{block}
use Rattle.sb_block.specs.Copies.{whole}
use Rattle.sb_call.specs.declared.arguments.Arg.{Arg}
use Rattle.sb_statements.specs.declared.statements.Statement.{Statement}
use Rattle.sb_statements.specs.declared.statements.Statement.TheVariants.{Call}
use Rattle.sb_link.specs.LinkedHistories.{LinkedHistory, all_answered, answered_linked}
use Rattle.sb_link.specs.ScriptCalls.{asked_at}
use Rattle.sb_link.proofs.Asking.{setting_stays}
use Rattle.sb_link.proofs.script_calls.answer_statement.Goals as goal

pub returns-in_ok-answer-in-Call-clause-answered : goal.returns-in_ok-answer-in-Call-clause-answered
returns-in_ok-answer-in-Call-clause-answered g c =
    let old = c.args.book.now in
    let target = c.args.target in
    let mark = c.args.mark in
    let answered : c.answer.new.self ≡ answered_linked old target 0 c.whole_copy-copy.result = search rules in
    let args : c.as_slice.result.now ≡ c.in-Call.args = search rules in
    let copy : c.whole_copy-copy.result ≡ whole (block c.in-Call.tag c.as_slice.result.now mark) = search rules in
    let is : c.args.statement.now ≡ Call c.in-Call.tag c.in-Call.args = search rules in
    answered ∙ ap (answered_linked old target 0) copy ∙ ap (λ (a : List Arg). answered_linked old target 0 (whole (block c.in-Call.tag a mark))) args
    ∙ ap (λ (s : Statement). all_answered old (asked_at target mark s)) (sym is)

pub returns-in_ok-answer-in-Call-clause-setting : goal.returns-in_ok-answer-in-Call-clause-setting
returns-in_ok-answer-in-Call-clause-setting g c =
    let old = c.args.book.now in
    let target = c.args.target in
    let answered : c.answer.new.self ≡ answered_linked old target 0 c.whole_copy-copy.result = search rules in
    ap (λ (s : LinkedHistory). s.history.setting) answered ∙ setting_stays old target 0 c.whole_copy-copy.result
