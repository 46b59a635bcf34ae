-- A run from its start to its end, and one of a script without targets.
use Rattle.std.proofs.Common.{◌≡◌, refl, sym, subst, ap, ◌∙◌, ℕ, zero, suc, ◌<◌, List, [], length, None, arith}
use Rattle.std.specs.List.{All, AllZip}
use Rattle.sb_book.specs.Histories.{setting_of}
use Rattle.sb_book.specs.Readiness.{IsReady}
use Rattle.sb_core.specs.Runs.{CanRun, IsSomeRun, ended, ran}
use Rattle.sb_core.specs.Threads.{first_unfinished}
use Rattle.sb_core.specs.Worlds.{start_threads, start_world}
use Rattle.sb_rule.specs.declared.policies.Policy.{Policy}
use Rattle.sb_shared.specs.Closing.{IsKeeper, IsThreadSeat}
use Rattle.sb_shared.specs.Opening.{thread_places}
use Rattle.sb_shared.specs.Origins.{setting_in}
use Rattle.sb_shared.specs.Seats.{KeeperValue, ThreadSeatValue}
use Rattle.sb_statements.specs.declared.schedules.Schedule.{Schedule}
use Rattle.sb_statements.specs.declared.scripts.Script.{Script}
use Rattle.sb_run.specs.Contexts.{ContextAt, IsContext}
use Rattle.sb_run.specs.Servers.{IsSameServer, IsServer, ServerAt}
use Rattle.sb_run.specs.Crews.{AreAll}
use Rattle.sb_run.specs.Threads.{HasEnded}
use Rattle.sb_run.specs.Endings.{CanEnd}
use Rattle.sb_run.specs.Openings.{IsOpened, OpenedAt, worker_homes}
use Rattle.sb_run.proofs.Crewed.{pairs_length, still_seats}
use Rattle.sb_run.proofs.Ended.{fresh_own, fresh_places, threads_ended, threads_finished}
use Rattle.sb_run.proofs.Opened.{servers_ready}

-- what the threads of a run share
abbrev pub context_of : Script → List Policy → OpenedAt → ContextAt
context_of script judges x = record { script = script; world = x.world; pool = x.pool; policies = judges }

module _ (policies : List Policy) (script : Script) (judges : List Policy) (x : OpenedAt) (is : IsOpened policies script x) where
  setting_is : (setting_of policies script).policies ≡ (setting_in x.world.key).policies
  setting_is = sym (ap (λ (z : List Policy × Script). (setting_of z.0 z.1).policies) (λ k. (is.policies_are k, is.script_is k)))

  pub judges_are : judges ≡ (setting_of policies script).policies → judges ≡ (setting_in x.world.key).policies
  judges_are e = e ∙ setting_is

  pub is_context : judges ≡ (setting_of policies script).policies → IsContext (context_of script judges x)
  is_context e = record { its_script = is.script_is; judges = judges_are e }

  pub threads_ready : All (IsThreadSeat x.world) x.threads
  threads_ready = subst (All (IsThreadSeat x.world)) (sym is.its_threads) (fresh_own x.world (thread_places x.world.key.script.value.targets))

  pub threads_all : AreAll x.world x.threads
  threads_all = subst (AreAll x.world) (sym is.its_threads) (fresh_places x.world.table x.world.key (thread_places x.world.key.script.value.targets))

  pub all_servers_ready : All (IsServer (context_of script judges x)) x.servers
  all_servers_ready = servers_ready (context_of script judges x) (worker_homes x.world) x.servers x.last refl is.seats

  pub keeper_ready : IsKeeper x.world x.keeper
  keeper_ready = record {
    table = ap (λ (k : KeeperValue). k.table) is.its_keeper;
    key = ap (λ (k : KeeperValue). k.key) is.its_keeper;
    empty = ap (λ (k : KeeperValue). k.parts) is.its_keeper;
  }

  module _ (finished : List ThreadSeatValue) (back : List ServerAt) (keeper : KeeperValue) (all : AllZip HasEnded x.threads finished) (served : AllZip IsSameServer x.servers back)
      (kept : IsKeeper x.world keeper) where
    some_back : 0 < length back
    some_back = let e : length back ≡ length x.servers = pairs_length IsSameServer x.servers back served in let l : 0 < length x.servers = is.some in omega (arith, e, l)

    pub can_end : CanEnd (record { world = x.world; keeper = keeper; threads = finished; pool = x.pool; servers = back; last = x.last })
    can_end = record {
      its_keeper = kept;
      its_threads = threads_ended x.world x.threads finished threads_ready all threads_all;
      finished = threads_finished x.world x.threads finished threads_ready all;
      some = some_back;
      seats = still_seats x.pool (worker_homes x.world) x.servers back x.last is.seats served;
    }

-- a script without targets has no thread
none_unfinished : (script : Script) (n : ℕ) → n ≡ 0 → first_unfinished script (start_threads script n) ≡ None
none_unfinished script zero e = refl
none_unfinished script (suc n) e = absurd (omega (arith, e))

abbrev pub no_steps : Schedule
no_steps = record { steps = []; rounds = 0 }

module _ (policies : List Policy) (script : Script) (ready : IsReady policies script) where
  pub can_run_none : CanRun policies script no_steps
  can_run_none = record { ready = ready; there = refl }

  pub some_run_none : length script.targets ≡ 0 → IsSomeRun policies script (ran policies script no_steps).report
  some_run_none none = record {
    schedule = no_steps;
    can = can_run_none;
    no_rounds = refl;
    finished = ap (λ u. (ended (start_world policies script) u).unfinished) (none_unfinished script (length script.targets) none);
    is = refl;
  }
