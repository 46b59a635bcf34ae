use Rattle.std.proofs.Common.{rules, ◌≡◌, [], ◌∙◌, ◌++◌, ap, sym, List, Result, Ok}
use Rattle.std.proofs.lemmas.Result.{err_from_is_err_and}
use Rattle.sb_statements.specs.declared.scripts.TargetScript.{TargetScript}
use Rattle.sb_statements.specs.declared.statements.Statement.{Statement}
use Rattle.sb_scripttext.proofs.LastChanged.{last_missing, last_refused, last_changed}
use Rattle.sb_scripttext.specs.Drafts.{in_last_thread, named_by}
use Rattle.sb_scripttext.specs.declared.drafts.Draft.{Draft}
use Rattle.sb_scripttext.specs.declared.drafts.Named.{Named}
use Rattle.sb_scripttext.specs.declared.drafts.StatementAt.{StatementAt}
use Rattle.sb_scripttext.specs.declared.faults.ScriptKind.{ScriptKind}
use Rattle.sb_scripttext.proofs.drafts.Draft.add_statement.Goals as goal

abbrev with_targets : Draft → StatementAt → Statement → List TargetScript → Result Draft ScriptKind
with_targets draft at statement targets = Ok (record draft { targets = targets; named = draft.named ++ named_by at statement })

pub returns-in_default : goal.returns-in_default
returns-in_default c =
    let none : c.args.self.now.targets ≡ [] = search rules in
    last_missing (in_last_thread c.args.statement) (with_targets c.args.self.now c.args.at c.args.statement) c.args.self.now.targets none

pub returns-in_err-add_to_last_thread : goal.returns-in_err-add_to_last_thread
returns-in_err-add_to_last_thread c =
    let p = err_from_is_err_and c.from_residual-in_err-add_to_last_thread.result c.from_residual-in_err-add_to_last_thread.ensures.1 in
    rw (p.1, p.2) (last_refused (in_last_thread c.args.statement) (with_targets c.args.self.now c.args.at c.args.statement) c.args.self.now.targets c.pop.new.self
    c.in-Some.last c.add_to_last_thread.new.target _ c.in_err-add_to_last_thread.field-0.0 c.in-Some.ensures c.in_err-add_to_last_thread.ensures)

pub returns : goal.returns
returns c =
    let draft = c.args.self.now in
    last_changed (in_last_thread c.args.statement) (with_targets draft c.args.at c.args.statement) draft.targets c.pop.new.self c.push.new.self c.in-Some.last
    c.add_to_last_thread.new.target c.in-Some.ensures c.in_ok-add_to_last_thread.ensures c.in_ok-push.ensures.ok
    ∙ ap (λ (named : List Named). Ok (record draft { targets = c.push.new.self; named = named })) (sym c.in_ok-add_named.ensures)
