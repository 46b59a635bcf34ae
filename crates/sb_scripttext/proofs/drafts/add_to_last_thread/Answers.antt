use Rattle.std.proofs.Common.{rules, ◌≡◌, [], List, Result, Ok}
use Rattle.std.proofs.lemmas.Result.{err_from_is_err_and}
use Rattle.sb_statements.specs.declared.scripts.TargetScript.{TargetScript}
use Rattle.sb_statements.specs.declared.statements.Statement.{Statement}
use Rattle.sb_scripttext.proofs.LastChanged.{last_missing, last_refused, last_changed}
use Rattle.sb_scripttext.specs.Drafts.{one_statement_more}
use Rattle.sb_scripttext.specs.declared.faults.ScriptKind.{ScriptKind}
use Rattle.sb_scripttext.proofs.drafts.add_to_last_thread.Goals as goal

abbrev with_threads : TargetScript → List (List Statement) → Result TargetScript ScriptKind
with_threads target threads = Ok (record target { threads = threads })

pub returns-in_default : goal.returns-in_default
returns-in_default c =
    let none : c.args.target.now.threads ≡ [] = search rules in
    last_missing (one_statement_more c.args.statement) (with_threads c.args.target.now) c.args.target.now.threads none

pub returns-in_err-add_statement_to : goal.returns-in_err-add_statement_to
returns-in_err-add_statement_to c =
    let p = err_from_is_err_and c.from_residual.result c.from_residual.ensures.1 in
    rw (p.1, p.2) (last_refused (one_statement_more c.args.statement) (with_threads c.args.target.now) c.args.target.now.threads c.pop.new.self c.in-Some.last
    c.add_statement_to.new.statements _ c.in_err-add_statement_to.field-0.0 c.in-Some.ensures c.in_err-add_statement_to.ensures)

pub returns : goal.returns
returns c =
    last_changed (one_statement_more c.args.statement) (with_threads c.args.target.now) c.args.target.now.threads c.pop.new.self c.push.new.self c.in-Some.last
    c.add_statement_to.new.statements c.in-Some.ensures c.in_ok-add_statement_to.ensures c.in_ok-push.ensures.ok
