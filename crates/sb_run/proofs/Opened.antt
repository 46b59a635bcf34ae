-- The seats with which a run is opened.
use Rattle.std.proofs.Common.{◌≡◌, refl, sym, subst, ap, ◌∙◌, ℕ, zero, suc, ◌+◌, ◌<◌, true, List, [], ◌∷◌, ◌++◌, length, map, Some, arith, slice_get, slice_index_or}
use Rattle.std.proofs.lemmas.List.Elements.{All-cons, All-nil}
use Rattle.std.specs.List.{All, range_with_len}
use Rattle.atomic_table.specs.Seated.{TableId}
use Rattle.sb_actor.specs.WorkerStages.{WorkerAt}
use Rattle.sb_actor.specs.WorkerTable.{is_looking}
use Rattle.sb_core.specs.Worlds.{first_worker, first_workers, no_worker}
use Rattle.sb_pool.specs.Pools.{AreNumbered, AreSeats, PoolValue, seen}
use Rattle.sb_pool.specs.declared.protocol.PoolView.{PoolView}
use Rattle.sb_rule.specs.declared.policies.Policy.{Policy}
use Rattle.sb_shared.specs.Closing.{IsWorkerOf}
use Rattle.sb_shared.specs.Opening.{target_places, thread_places}
use Rattle.sb_shared.specs.Seats.{KeeperValue, SharedValue, ThreadSeatValue, WorkerSeatValue, fresh_keeper, fresh_thread, fresh_worker}
use Rattle.sb_shared.specs.declared.views.Origin.{Origin}
use Rattle.sb_statements.specs.declared.scripts.Script.{Script}
use Rattle.sb_statements.specs.declared.scripts.TargetScript.{TargetScript}
use Rattle.sb_run.specs.Contexts.{ContextAt}
use Rattle.sb_run.specs.Servers.{IsServer, ServerAt}
use Rattle.sb_run.specs.Works.{home_of, number_of}
use Rattle.sb_run.specs.Openings.{IsOpened, worker_homes}
use Rattle.sb_run.proofs.Pooled.{all_from, get_front}

-- what each element has, and the default
with_last : {X : Type 0} (P : X → Type 0) (d : X) (xs : List X) (y : X) → P d → ((t : ℕ) → P (slice_index_or xs t d)) → P y → (t : ℕ) → P (slice_index_or (xs ++ y ∷ []) t d)
with_last P d [] y default each last zero = last
with_last P d [] y default each last (suc t) = default
with_last P d (x ∷ xs) y default each last zero = each 0
with_last P d (x ∷ xs) y default each last (suc t) = with_last P d xs y default (λ k. each (suc k)) last t

-- a worker before its first step is looking
first_looks : (targets : List TargetScript) (n t : ℕ) → is_looking (slice_index_or (first_workers targets n) t no_worker).stage ≡ true
first_looks targets zero t = refl
first_looks targets (suc n) t =
    with_last (λ (x : WorkerAt). is_looking x.stage ≡ true) no_worker (first_workers targets n) (first_worker targets n) refl (first_looks targets n) refl t

pub fresh_look : (table : TableId) (key : Origin) (ts : List ℕ) → All (λ (s : WorkerSeatValue). is_looking s.state.stage ≡ true) (map (fresh_worker table key) ts)
fresh_look table key [] = All-nil (λ (s : WorkerSeatValue). is_looking s.state.stage ≡ true)
fresh_look table key (t ∷ ts) =
    All-cons (λ (s : WorkerSeatValue). is_looking s.state.stage ≡ true) (fresh_worker table key t) (map (fresh_worker table key) ts)
    (first_looks key.script.value.targets (length key.script.value.targets) t) (fresh_look table key ts)

-- and is numbered by its place
numbered_from : (table : TableId) (key : Origin) (from count n : ℕ) (s : WorkerSeatValue) → slice_get (map (fresh_worker table key) (range_with_len from count)) n ≡ Some s → number_of s ≡ from + n
numbered_from table key from zero n s e = absurd (cc)
numbered_from table key from (suc count) zero s e = let same : fresh_worker table key from ≡ s = cc in sym (ap (λ (z : WorkerSeatValue). z.target) same) ∙ plus_zero from
  where
    plus_zero : (k : ℕ) → k ≡ k + 0
    plus_zero k = omega arith
numbered_from table key from (suc count) (suc n) s e = numbered_from table key (from + 1) count n s e ∙ plus_one from n
  where
    plus_one : (k m : ℕ) → k + 1 + m ≡ k + suc m
    plus_one k m = omega arith

pub fresh_numbered : (table : TableId) (key : Origin) (count : ℕ) → AreNumbered number_of (map (fresh_worker table key) (range_with_len 0 count))
fresh_numbered table key count n s e = numbered_from table key 0 count n s e ∙ zero_plus n
  where
    zero_plus : (k : ℕ) → 0 + k ≡ k
    zero_plus k = omega arith

-- all that is known of a run that was opened
module _ (policies : List Policy) (script : Script) (world : SharedValue) (keeper : KeeperValue) (threads : List ThreadSeatValue) (works : List WorkerSeatValue) (pool : PoolValue) (servers : List ServerAt) (last : ServerAt) where
  pub works_are : world.key.script.value ≡ script → works ≡ map (fresh_worker world.table world.key) (target_places script.targets)
      → works ≡ map (fresh_worker world.table world.key) (target_places world.key.script.value.targets)
  works_are is made = made ∙ ap (λ (s : Script). map (fresh_worker world.table world.key) (target_places s.targets)) (sym is)

  pub opened : world.key.policies.value.list ≡ policies → world.key.script.value ≡ script → keeper ≡ fresh_keeper world.table world.key
      → threads ≡ map (fresh_thread world.table world.key) (thread_places script.targets)
      → works ≡ map (fresh_worker world.table world.key) (target_places script.targets)
      → 0 < length servers → AreSeats pool (map home_of works) (servers ++ last ∷ [])
      → IsOpened policies script (record { world = world; keeper = keeper; threads = threads; pool = pool; servers = servers; last = last })
  opened by_policies by_script by_keeper by_threads by_works some seats = record {
    policies_are = by_policies;
    script_is = by_script;
    its_keeper = by_keeper;
    its_threads = by_threads ∙ ap (λ (s : Script). map (fresh_thread world.table world.key) (thread_places s.targets)) (sym by_script);
    some = some;
    seats = subst (λ (hs : List WorkerSeatValue). AreSeats pool hs (servers ++ last ∷ [])) (ap (map home_of) (works_are by_script by_works)) seats;
  }

-- the homes of the pool are seats of the world
home_own : (world : SharedValue) (ts : List ℕ) (n : ℕ) (h : WorkerSeatValue) → slice_get (map home_of (map (fresh_worker world.table world.key) ts)) n ≡ Some h → IsWorkerOf world h
home_own world [] n h e = absurd (cc)
home_own world (t ∷ ts) zero h e = let same : home_of (fresh_worker world.table world.key t) ≡ h = cc in subst (IsWorkerOf world) same (record { table = refl; key = refl })
home_own world (t ∷ ts) (suc n) h e = home_own world ts n h e

-- so it can begin
module _ (x : ContextAt) (homes : List WorkerSeatValue) (servers : List ServerAt) (last : ServerAt) (homes_are : homes ≡ worker_homes x.world) (seats : AreSeats x.pool homes (servers ++ last ∷ [])) where
  server_at : (n : ℕ) (s : ServerAt) → slice_get servers n ≡ Some s → IsServer x s
  server_at n s e =
      let one = seats n s (get_front servers (last ∷ []) n s e) in
      let known : (seen s).homes ≡ worker_homes x.world = ap (λ (v : PoolView WorkerSeatValue). v.homes) one.1 ∙ homes_are in
      record {
        own = one.0;
        none = ap (λ (v : PoolView WorkerSeatValue). v.out) one.1;
        homes = λ t h f. home_own x.world (target_places x.world.key.script.value.targets) t h (ap (λ (hs : List WorkerSeatValue). slice_get hs t) (sym known) ∙ f);
      }

  pub servers_ready : All (IsServer x) servers
  servers_ready = all_from (IsServer x) servers server_at
