use Rattle.std.proofs.Common.{rules, ◌≡◌, [], List, Result, Ok}
use Rattle.std.proofs.lemmas.Result.{err_from_is_err_and}
use Rattle.sb_statements.specs.declared.scripts.TargetScript.{TargetScript}
use Rattle.sb_scripttext.proofs.LastChanged.{last_missing, last_refused, last_changed}
use Rattle.sb_scripttext.specs.Drafts.{one_thread_more}
use Rattle.sb_scripttext.specs.declared.drafts.Draft.{Draft}
use Rattle.sb_scripttext.specs.declared.faults.ScriptKind.{ScriptKind}
use Rattle.sb_scripttext.proofs.drafts.Draft.add_thread.Goals as goal

abbrev with_targets : Draft → List TargetScript → Result Draft ScriptKind
with_targets draft targets = Ok (record draft { targets = targets })

pub returns-in_default : goal.returns-in_default
returns-in_default c =
    let none : c.args.self.now.targets ≡ [] = search rules in
    last_missing one_thread_more (with_targets c.args.self.now) c.args.self.now.targets none

pub returns-in_err-add_thread_to : goal.returns-in_err-add_thread_to
returns-in_err-add_thread_to c =
    let p = err_from_is_err_and c.from_residual.result c.from_residual.ensures.1 in
    rw (p.1, p.2) (last_refused one_thread_more (with_targets c.args.self.now) c.args.self.now.targets c.pop.new.self c.in-Some.last
    c.add_thread_to.new.target _ c.in_err-add_thread_to.field-0.0 c.in-Some.ensures c.in_err-add_thread_to.ensures)

pub returns : goal.returns
returns c =
    last_changed one_thread_more (with_targets c.args.self.now) c.args.self.now.targets c.pop.new.self c.push.new.self c.in-Some.last c.add_thread_to.new.target
    c.in-Some.ensures c.in_ok-add_thread_to.ensures c.in_ok-push.ensures.ok
