use Rattle.std.proofs.Common.{◌∙◌, ap, subst, sym, List}
use Rattle.std.proofs.lemmas.Result.{IfOk-weaker}
use Rattle.sb_book.specs.Histories.{setting_of}
use Rattle.sb_core.specs.Runs.{IsSomeRun}
use Rattle.sb_rule.specs.declared.policies.Policy.{Policy}
use Rattle.sb_statements.specs.declared.scripts.Script.{Script}
use Rattle.sb_run.specs.Openings.{IsOpened, OpenedAt}
use Rattle.sb_run.proofs.Running.{all_servers_ready, can_end, is_context, judges_are, keeper_ready, threads_all, threads_ready}
use Rattle.sb_run.proofs.runs.run_targets.Goals as goal

pub invariant_of-context : goal.invariant_of-context
invariant_of-context g c =
    let s = c.opened.inside in
    let x : OpenedAt = record { world = s.world; keeper = s.keeper; threads = s.threads.items; pool = s.pool; servers = s.servers.items; last = s.last } in
    let is = subst (λ (z : Script). IsOpened c.args.start.policies z x) (sym c.script_of-script.ensures.same) (subst (IsOpened c.args.start.policies c.args.start.script) (sym c.opened.view_is) c.in_ok-opened.ensures) in
    is_context c.args.start.policies c.script_of-script.result.now (g.J.Judge.policies c.args.judge.now) x is (c.requires.judge ∙ ap (λ (z : Script). (setting_of c.args.start.policies z).policies) (sym c.script_of-script.ensures.same))

pub run_crew-requires-clause-threads : goal.run_crew-requires-clause-threads
run_crew-requires-clause-threads g c κs within =
    let s = c.opened.inside in
    let x : OpenedAt = record { world = s.world; keeper = s.keeper; threads = s.threads.items; pool = s.pool; servers = s.servers.items; last = s.last } in
    let is = subst (λ (z : Script). IsOpened c.args.start.policies z x) (sym c.script_of-script.ensures.same) (subst (IsOpened c.args.start.policies c.args.start.script) (sym c.opened.view_is) c.in_ok-opened.ensures) in
    threads_ready c.args.start.policies c.script_of-script.result.now (g.J.Judge.policies c.args.judge.now) x is

pub run_crew-requires-clause-all : goal.run_crew-requires-clause-all
run_crew-requires-clause-all g c κs within =
    let s = c.opened.inside in
    let x : OpenedAt = record { world = s.world; keeper = s.keeper; threads = s.threads.items; pool = s.pool; servers = s.servers.items; last = s.last } in
    let is = subst (λ (z : Script). IsOpened c.args.start.policies z x) (sym c.script_of-script.ensures.same) (subst (IsOpened c.args.start.policies c.args.start.script) (sym c.opened.view_is) c.in_ok-opened.ensures) in
    threads_all c.args.start.policies c.script_of-script.result.now (g.J.Judge.policies c.args.judge.now) x is

pub run_crew-requires-clause-servers : goal.run_crew-requires-clause-servers
run_crew-requires-clause-servers g c κs within =
    let s = c.opened.inside in
    let x : OpenedAt = record { world = s.world; keeper = s.keeper; threads = s.threads.items; pool = s.pool; servers = s.servers.items; last = s.last } in
    let is = subst (λ (z : Script). IsOpened c.args.start.policies z x) (sym c.script_of-script.ensures.same) (subst (IsOpened c.args.start.policies c.args.start.script) (sym c.opened.view_is) c.in_ok-opened.ensures) in
    all_servers_ready c.args.start.policies c.script_of-script.result.now (g.J.Judge.policies c.args.judge.now) x is

pub run_crew-requires-clause-keeper : goal.run_crew-requires-clause-keeper
run_crew-requires-clause-keeper g c κs within =
    let s = c.opened.inside in
    let x : OpenedAt = record { world = s.world; keeper = s.keeper; threads = s.threads.items; pool = s.pool; servers = s.servers.items; last = s.last } in
    let is = subst (λ (z : Script). IsOpened c.args.start.policies z x) (sym c.script_of-script.ensures.same) (subst (IsOpened c.args.start.policies c.args.start.script) (sym c.opened.view_is) c.in_ok-opened.ensures) in
    keeper_ready c.args.start.policies c.script_of-script.result.now (g.J.Judge.policies c.args.judge.now) x is

pub end_run-requires-clause-ended : goal.end_run-requires-clause-ended
end_run-requires-clause-ended g c κs within =
    let s = c.opened.inside in
    let x : OpenedAt = record { world = s.world; keeper = s.keeper; threads = s.threads.items; pool = s.pool; servers = s.servers.items; last = s.last } in
    let is = subst (λ (z : Script). IsOpened c.args.start.policies z x) (sym c.script_of-script.ensures.same) (subst (IsOpened c.args.start.policies c.args.start.script) (sym c.opened.view_is) c.in_ok-opened.ensures) in
    let e = c.in_ok-ended in
    can_end c.args.start.policies c.script_of-script.result.now (g.J.Judge.policies c.args.judge.now) x is e.ended.items e.servers.items e.keeper e.ensures.ended e.ensures.served e.ensures.keeper

pub end_run-requires-clause-judge : goal.end_run-requires-clause-judge
end_run-requires-clause-judge g c κs within =
    let s = c.opened.inside in
    let x : OpenedAt = record { world = s.world; keeper = s.keeper; threads = s.threads.items; pool = s.pool; servers = s.servers.items; last = s.last } in
    let is = subst (λ (z : Script). IsOpened c.args.start.policies z x) (sym c.script_of-script.ensures.same) (subst (IsOpened c.args.start.policies c.args.start.script) (sym c.opened.view_is) c.in_ok-opened.ensures) in
    judges_are c.args.start.policies c.script_of-script.result.now (g.J.Judge.policies c.args.judge.now) x is (c.requires.judge ∙ ap (λ (z : Script). (setting_of c.args.start.policies z).policies) (sym c.script_of-script.ensures.same))

pub returns : goal.returns
returns g c =
    let s = c.opened.inside in
    let x : OpenedAt = record { world = s.world; keeper = s.keeper; threads = s.threads.items; pool = s.pool; servers = s.servers.items; last = s.last } in
    let is = subst (λ (z : Script). IsOpened c.args.start.policies z x) (sym c.script_of-script.ensures.same) (subst (IsOpened c.args.start.policies c.args.start.script) (sym c.opened.view_is) c.in_ok-opened.ensures) in
    record { run = IfOk-weaker c.end_run.result _ _ (λ r h. subst (λ (z : List Policy × Script). IsSomeRun z.0 z.1 r) (λ k. (is.policies_are k, (is.script_is ∙ c.script_of-script.ensures.same) k)) h) c.end_run.ensures.run }
