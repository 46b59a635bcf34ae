-- What holds of each stage of an actor. Of a worker: its numbers are in their ranges, what it has copied until it is answered keeps the rule of a copy, and
-- its reply has twelve words and the mark of its copy.
use Rattle.std.specs.Prelude.{◌≡◌, ℕ, ◌+◌, ◌<◌, ◌≤◌, true, List, length, slice_index}
use Rattle.sb_block.specs.Copies.{Copied, is_copy, mark_of}
use Rattle.sb_actor.specs.ThreadStages.{ThreadStage}
use Rattle.sb_actor.specs.ThreadStages as thread
use Rattle.sb_actor.specs.WorkerStages.{WorkerStage, Look, Count, End, Copy, Take, Answer, Give, Reply, Ack}
use Rattle.sb_block.specs.Layout.{most_words, most_parameters, reply_length, first_offset}

-- a reply of twelve words, the first of which is the mark of the copy
pub record IsReplyTo (taken : Copied) (reply : List ℕ) : Type 0 where
  pub size : length reply ≡ reply_length
  pub mark : slice_index reply 0 ≡ mark_of taken

abbrev pub IsSoundStage : WorkerStage → Type 0
IsSoundStage (End count) = count ≤ most_parameters
IsSoundStage (Copy count end words) = (count ≤ most_parameters) × (first_offset count ≤ end) × (end ≤ most_words) × (length words < end)
IsSoundStage (Take taken) = is_copy taken ≡ true
IsSoundStage (Answer taken) = is_copy taken ≡ true
IsSoundStage (Give taken reply) = IsReplyTo taken reply
IsSoundStage (Reply taken reply at) = (at < reply_length) × IsReplyTo taken reply
IsSoundStage (Ack taken reply) = IsReplyTo taken reply
IsSoundStage _ = Unit {0}

-- and of a thread with this patience and this block, on this many channels: it is at one of them, its rounds and loads are fewer than the
-- patience, and what it fills and fetches is within the block and the reply
abbrev pub IsSoundThreadStage : ℕ → ℕ → List ℕ → ThreadStage → Type 0
IsSoundThreadStage channels patience block (thread.Try c rounds all_abandoned) = (c < channels) × (rounds < patience) × (0 < length block)
IsSoundThreadStage channels patience block (thread.Fill c i) = (c < channels) × (i < length block)
IsSoundThreadStage channels patience block (thread.Send c) = c < channels
IsSoundThreadStage channels patience block (thread.Wait c loads) = (c < channels) × (loads < patience)
IsSoundThreadStage channels patience block (thread.Fetch c words) = (c < channels) × (length words < reply_length)
IsSoundThreadStage channels patience block (thread.Free c words) = (c < channels) × (length words ≡ reply_length)
IsSoundThreadStage channels patience block (thread.Abandon c) = c < channels
IsSoundThreadStage channels patience block (thread.Stray loads most) = loads < most
IsSoundThreadStage channels patience block thread.Over = Unit {0}
