use Rattle.std.proofs.lemmas.List.Elements.{All-rest}
use Rattle.std.specs.Vec.Iter.{into_iter_items}
use Rattle.sb_run.specs.Servers.{IsServer}
use Rattle.sb_run.proofs.Firsts.{firsts_more}
use Rattle.sb_run.specs.Started.{StartedServerAt}
use Rattle.sb_run.proofs.groups.start_servers.Goals as goal

pub loop-server-preserved : goal.loop-server-preserved
loop-server-preserved g c = (
  firsts_more (λ (s : StartedServerAt). s.first) c.loop-server.started.items _ c.in_ok-serving.serving c.loop-server.yielded c.in-Some.server c.in_ok-push.ensures.items c.loop-server.invariant.0
      c.in_ok-serving.ensures,
  All-rest (IsServer c.args.context.now) c.in-Some.server (into_iter_items c.next.new.self) (into_iter_items c.loop-server.server-iterator) c.in-Some.ensures.steps.0 c.loop-server.invariant.1,
)
