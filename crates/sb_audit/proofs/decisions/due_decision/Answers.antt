use Rattle.std.proofs.Common.{◌≡◌, sym, subst, true}
use Rattle.sb_call.specs.Arguments.{fits}
use Rattle.sb_statements.specs.declared.statements.Statement.{Statement}
use Rattle.sb_actor.specs.Found.{is_encoded}
use Rattle.sb_audit.proofs.Calls.{call_fits}
use Rattle.sb_audit.proofs.decisions.due_decision.Goals as goal

pub judge-requires-clause-fits : goal.judge-requires-clause-fits
judge-requires-clause-fits g c =
    subst (λ a. fits c.in-Call.tag a ≡ true) (sym c.as_slice.ensures)
    (call_fits c.in-Call.tag c.in-Call.args (subst (λ (s : Statement). is_encoded s ≡ true) c.in-Call.is c.requires.encoded))
