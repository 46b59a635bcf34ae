use Rattle.sb_run.specs.Servers.{IsSameServer}
use Rattle.sb_run.specs.Started.{StartedServerAt}
use Rattle.sb_run.proofs.Firsts.{joined_more}
use Rattle.sb_run.proofs.groups.join_servers.Goals as goal

pub loop-server-preserved : goal.loop-server-preserved
loop-server-preserved g c =
    joined_more (λ (s : StartedServerAt). s.first) IsSameServer c.loop-server.yielded c.loop-server.back.items _ c.in-Some.server c.in_ok-seat.seat c.in_ok-push.ensures.items c.loop-server.invariant c.in_ok-seat.ensures
