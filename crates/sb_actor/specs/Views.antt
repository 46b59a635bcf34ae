-- What rule S knows of a target's actors. Words are numbered over all channels of the target: word j of channel c is `c * words_of_channel + j`, where 0
-- is the state and 1 + i is block word i.
use Rattle.std.specs.Prelude.{ℕ, Bool, List}
use Rattle.sb_block.specs.Copies.{Copied}

-- a call that the worker served: its channel, the copy that was answered, and the twelve words of the reply
pub record Served : Type 0 where
  pub channel : ℕ
  pub taken : Copied
  pub reply : List ℕ

-- a call of a thread that ended on a clean channel: its channel, its block, and the twelve words of the reply
pub record EndedCall : Type 0 where
  pub channel : ℕ
  pub block : List ℕ
  pub reply : List ℕ

-- Where a worker is at its channel: it looks at the state; it found the channel ready; it saw a count; it saw a count and an end, and copied
-- words; it has the whole copy; it stored words of the reply to its copy
pub data WorkerPlace : Type 0 where
  Look : WorkerPlace
  Count : WorkerPlace
  End : ℕ → WorkerPlace
  Copy : ℕ → ℕ → List ℕ → WorkerPlace
  Whole : Copied → WorkerPlace
  Reply : Copied → List ℕ → WorkerPlace

-- Where a thread is within its call, at a channel: it tries to take it, and so far this round found all channels abandoned, or not; it has
-- the channel, and filled words; it handed its block over; it found the reply to its block, and fetched words. Outside a call it tries channel 0
pub data ThreadPlace : Type 0 where
  Try : ℕ → Bool → ThreadPlace
  Fill : ℕ → List ℕ → ThreadPlace
  Wait : ℕ → List ℕ → ThreadPlace
  Fetch : ℕ → List ℕ → List ℕ → ThreadPlace

-- of the worker: which channels are clean, the channel at which it is, where it is there, and the calls that it served, in order
pub record WorkerView : Type 0 where
  pub clean : List Bool
  pub channel : ℕ
  pub place : WorkerPlace
  pub served : List Served

-- of a thread: its number, which channels are clean, where it is, and its ended calls on clean channels, in order
pub record ThreadView : Type 0 where
  pub number : ℕ
  pub clean : List Bool
  pub place : ThreadPlace
  pub ended_calls : List EndedCall
