-- The stages of a worker.
use Rattle.std.specs.Prelude.{ℕ, List}
use Rattle.sb_block.specs.Copies.{Copied}
use Rattle.sb_actor.specs.declared.stages.WorkerStage.{WorkerStage as StageOf}
use Rattle.sb_actor.specs.declared.stages.WorkerStage.TheVariants as code

-- named by the next step: what the worker has seen of the count and the end, the words of the copy so far, the whole copy, and
-- the twelve words of the reply with how many of them are stored
pub data WorkerStage : Type 0 where
  Look : WorkerStage
  Count : WorkerStage
  End : ℕ → WorkerStage
  Copy : ℕ → ℕ → List ℕ → WorkerStage
  Take : Copied → WorkerStage
  Answer : Copied → WorkerStage
  Give : Copied → List ℕ → WorkerStage
  Reply : Copied → List ℕ → ℕ → WorkerStage
  Ack : Copied → List ℕ → WorkerStage

-- a worker of a target with this many channels, at one of them
pub record WorkerAt : Type 0 where
  pub target : ℕ
  pub channels : ℕ
  pub channel : ℕ
  pub stage : WorkerStage

-- the stage of a worker that has copied these words, has this copy and stores this reply
abbrev pub worker_stage : StageOf → List ℕ → Copied → List ℕ → WorkerStage
worker_stage code.Look words taken reply = Look
worker_stage code.Count words taken reply = Count
worker_stage (code.End count) words taken reply = End count
worker_stage (code.Copy count end) words taken reply = Copy count end words
worker_stage code.Take words taken reply = Take taken
worker_stage code.Answer words taken reply = Answer taken
worker_stage code.Give words taken reply = Give taken reply
worker_stage (code.Reply at) words taken reply = Reply taken reply at
worker_stage code.Ack words taken reply = Ack taken reply
