-- A thread gives up no clean channel.
use Rattle.std.proofs.Common.{◌≡◌, refl, ℕ, zero, suc, ◌+◌, Bool, true, false, cond, eqb, ◌&&◌, List, [], ◌∷◌, ◌++◌, length, get_or, Option, None, Some}
use Rattle.sb_actor.specs.Acts.{value_in}
use Rattle.sb_actor.specs.Places.{statement_at, first_stage, thread_start}
use Rattle.sb_actor.specs.ThreadFollowing.{GivesUp, GivingUpIsKept}
use Rattle.sb_actor.specs.ThreadStages.{ThreadStage, ThreadAt}
use Rattle.sb_actor.specs.ThreadStages as stage
use Rattle.sb_actor.specs.ThreadTable.{ThreadNext, thread_row, stray_row, goes_on, ends, after_round, after_fill, after_wait, after_fetch, is_clean_at, has_clean}
use Rattle.sb_actor.specs.Observations.{Observation}
use Rattle.sb_statements.specs.declared.results.CallResult.TheVariants as result
use Rattle.sb_statements.specs.declared.results.StmtResult.{StmtResult}
use Rattle.sb_statements.specs.declared.results.StmtResult.TheVariants as ended
use Rattle.sb_statements.specs.declared.scripts.Script.{Script}
use Rattle.sb_statements.specs.declared.statements.Statement.{Statement}
use Rattle.sb_statements.specs.declared.statements.Statement.TheVariants as statement

-- a channel that is there and not clean is not clean
not_clean : (clean : List Bool) (c : ℕ) → get_or clean c true ≡ false → get_or clean c false ≡ false
not_clean [] c e = refl
not_clean (m ∷ ms) zero e = e
not_clean (m ∷ ms) (suc c) e = not_clean ms c e

starts_so : (clean : List Bool) (o : Option Statement) → GivesUp clean (first_stage o)
starts_so clean (Some (statement.Call tag args)) = tt
starts_so clean _ = tt

module _ (script : Script) (x : ThreadAt) where
  abbrev Kept : ThreadNext → Type 0
  Kept next = GivesUp next.thread.clean next.thread.stage

  over : (r : StmtResult) → Kept (ends script x r)
  over r = starts_so x.clean (statement_at script x.target x.thread (x.place + 1))

  either : (b : Bool) (p q : ThreadNext) → Kept p → Kept q → Kept (cond b p q)
  either true p q h k = h
  either false p q h k = k

  round : (rounds : ℕ) (all_abandoned : Bool) → Kept (after_round script x rounds all_abandoned)
  round rounds all_abandoned =
      either all_abandoned (ends script x (ended.Call result.NoChannel)) _ (over (ended.Call result.NoChannel))
      (either (has_clean x.clean) (goes_on x (stage.Try 0 rounds true)) _ tt
      (either (eqb (rounds + 1) x.patience) (ends script x (ended.Call result.NoChannel)) (goes_on x (stage.Try 0 (rounds + 1) true)) (over (ended.Call result.NoChannel)) tt))

  waited : (c loads n : ℕ) → GivesUp x.clean (after_wait x c loads n)
  waited c loads n = by_tests (eqb n 4) (is_clean_at x c) refl (eqb (loads + 1) x.patience)
    where
      by_tests : (a b : Bool) → is_clean_at x c ≡ b → (d : Bool) → GivesUp x.clean (cond a (stage.Fetch c []) (cond b (stage.Wait c loads) (cond d (stage.Abandon c) (stage.Wait c (loads + 1)))))
      by_tests true b e d = tt
      by_tests false true e d = tt
      by_tests false false e true = not_clean x.clean c e
      by_tests false false e false = tt

  filled : (c i : ℕ) → GivesUp x.clean (after_fill x c i)
  filled c i = by_test (eqb (i + 1) (length x.block))
    where
      by_test : (b : Bool) → GivesUp x.clean (cond b (stage.Send c) (stage.Fill c (i + 1)))
      by_test true = tt
      by_test false = tt

  fetched : (c : ℕ) (ws : List ℕ) → GivesUp x.clean (after_fetch c ws)
  fetched c ws = by_test (eqb (length ws) 12)
    where
      by_test : (b : Bool) → GivesUp x.clean (cond b (stage.Free c ws) (stage.Fetch c ws))
      by_test true = tt
      by_test false = tt

  stray : (loads most : ℕ) (o : Option Statement) (seen : Observation) → GivesUp x.clean x.stage → Kept ((stray_row script x loads most o).next seen)
  stray loads most (Some (statement.Store t w y)) seen h = over ended.Stored
  stray loads most (Some (statement.Exchange t w from to)) seen h = over (ended.Found (value_in seen))
  stray loads most (Some (statement.Load t w)) seen h = over (ended.Found (value_in seen))
  stray loads most (Some (statement.Wait t w y k)) seen h =
      either (eqb (value_in seen) y) (ends script x (ended.Met (loads + 1))) _ (over (ended.Met (loads + 1)))
      (either (eqb (loads + 1) most) (ends script x (ended.Unmet most)) (goes_on x (stage.Stray (loads + 1) most)) (over (ended.Unmet most)) tt)
  stray loads most _ seen h = h

  kept : (s : ThreadStage) (seen : Observation) → GivesUp x.clean x.stage → Kept ((thread_row script x s).next seen)
  kept (stage.Try c rounds all_abandoned) seen h =
      either (eqb (value_in seen) 1) (goes_on x (stage.Fill c 0)) _ tt
      (either (eqb (c + 1) (length x.clean)) (after_round script x rounds (all_abandoned && eqb (value_in seen) 5)) (goes_on x (stage.Try (c + 1) rounds (all_abandoned && eqb (value_in seen) 5)))
      (round rounds (all_abandoned && eqb (value_in seen) 5)) tt)
  kept (stage.Fill c i) seen h = filled c i
  kept (stage.Send c) seen h = either (eqb (value_in seen) 2) (goes_on x (stage.Wait c 0)) (ends script x (ended.Call (result.SendLost c (value_in seen)))) tt (over (ended.Call (result.SendLost c (value_in seen))))
  kept (stage.Wait c loads) seen h = waited c loads (value_in seen)
  kept (stage.Fetch c ws) seen h = fetched c (ws ++ value_in seen ∷ [])
  kept (stage.Free c ws) seen h = starts_so x.clean (statement_at script x.target x.thread (x.place + 1))
  kept (stage.Abandon c) seen h = over (ended.Call (result.TimedOut c))
  kept (stage.Stray loads most) seen h = stray loads most (statement_at script x.target x.thread x.place) seen h
  kept stage.Over seen h = h

pub giving_up_is_kept : GivingUpIsKept
giving_up_is_kept = (
  λ script target thread. starts_so (thread_start script target thread).clean (statement_at script target thread 0),
  λ script x seen h. kept script x x.stage seen h,
)
