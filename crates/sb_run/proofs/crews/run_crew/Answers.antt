use Rattle.std.proofs.Common.{◌≡◌, sym, subst, All}
use Rattle.std.proofs.lemmas.Result.{IfOk-weaker}
use Rattle.sb_shared.specs.Closing.{IsKeeper, IsThreadSeat}
use Rattle.sb_run.specs.Contexts.{ContextAt}
use Rattle.sb_run.specs.Servers.{IsServer}
use Rattle.sb_run.specs.Crews.{AreAll, CanRun}
use Rattle.sb_run.proofs.crews.run_crew.Goals as goal

pub scoped-requires : goal.scoped-requires
scoped-requires g c =
    let x : ContextAt = record { script = c.context.inside.script.now; world = c.context.inside.world.now; pool = c.context.inside.pool.now; policies = g.J.Judge.policies c.context.inside.judge.now } in
    let is : x ≡ c.args.context.now = c.context.view_is in
    let can : CanRun x c.args.threads.items c.args.servers.items c.args.keeper =
    record {
      context = c.context.invariant;
      its_threads = subst (λ (z : ContextAt). All (IsThreadSeat z.world) c.args.threads.items) (sym is) c.requires.threads;
      all = subst (λ (z : ContextAt). AreAll z.world c.args.threads.items) (sym is) c.requires.all;
      its_servers = subst (λ (z : ContextAt). All (IsServer z) c.args.servers.items) (sym is) c.requires.servers;
      its_keeper = subst (λ (z : ContextAt). IsKeeper z.world c.args.keeper) (sym is) c.requires.keeper;
    } in
    record {
      at = λ s. (can, (record { shared = c.type_bounds.sync-J.shared }, record { shared = c.type_bounds.sync-G.shared }, record { shared = c.type_bounds.sync-R.shared }));
    }

pub returns-clause-keeper : goal.returns-clause-keeper
returns-clause-keeper g c =
    let x : ContextAt = record { script = c.context.inside.script.now; world = c.context.inside.world.now; pool = c.context.inside.pool.now; policies = g.J.Judge.policies c.context.inside.judge.now } in
    let is : x ≡ c.args.context.now = c.context.view_is in
    IfOk-weaker c.scoped.result _ _ (λ r h. subst (λ (z : ContextAt). IsKeeper z.world r.2) is h.its_keeper) c.scoped.ensures.1
