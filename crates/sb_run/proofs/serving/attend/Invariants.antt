use Rattle.sb_run.specs.Servers.{IsSameServer, IsServer}
use Rattle.sb_run.proofs.serving.attend.Given as goal

abbrev pub invariant-loop : goal.invariant-loop
invariant-loop g l = IsServer l.context l.server × IsSameServer l.fn.server l.server
