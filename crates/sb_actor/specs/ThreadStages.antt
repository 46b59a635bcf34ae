-- The stages of a thread.
use Rattle.std.specs.Prelude.{ℕ, Bool, true, nat_lt, List, take}
use Rattle.sb_actor.specs.declared.stages.ThreadStage.{ThreadStage as StageOf}
use Rattle.sb_actor.specs.declared.stages.ThreadStage.TheVariants as code
use Rattle.sb_statements.specs.Limits.{most_statements}

-- named by the next step: in a call the channel with what belongs to the step (rounds counted and whether this round found nothing
-- but 5, words filled, loads counted, words fetched); at a store, exchange, load or wait statement the loads made and the most; or
-- all statements have ended
pub data ThreadStage : Type 0 where
  Try : ℕ → ℕ → Bool → ThreadStage
  Fill : ℕ → ℕ → ThreadStage
  Send : ℕ → ThreadStage
  Wait : ℕ → ℕ → ThreadStage
  Fetch : ℕ → List ℕ → ThreadStage
  Free : ℕ → List ℕ → ThreadStage
  Abandon : ℕ → ThreadStage
  Stray : ℕ → ℕ → ThreadStage
  Over : ThreadStage

-- a thread of a target, with what it keeps of its script (the patience, and for each channel of its target whether it is clean), at
-- one of its statements, with the block of that if it is a call
pub record ThreadAt : Type 0 where
  pub target : ℕ
  pub thread : ℕ
  pub patience : ℕ
  pub clean : List Bool
  pub place : ℕ
  pub block : List ℕ
  pub stage : ThreadStage

-- the stage of a thread that has these words of a reply
abbrev pub thread_stage : StageOf → List ℕ → ThreadStage
thread_stage (code.Try c rounds all_abandoned) reply = Try c rounds all_abandoned
thread_stage (code.Fill c i) reply = Fill c i
thread_stage (code.Send c) reply = Send c
thread_stage (code.Wait c loads) reply = Wait c loads
thread_stage (code.Fetch c i) reply = Fetch c (take i reply)
thread_stage (code.Free c) reply = Free c reply
thread_stage (code.Abandon c) reply = Abandon c
thread_stage (code.Stray loads most) reply = Stray loads most
thread_stage code.Over reply = Over

-- a thread that is not finished is at one of at most 4,096 places
abbrev pub is_placed : StageOf → ℕ → Bool
is_placed code.Over place = true
is_placed _ place = nat_lt place most_statements
