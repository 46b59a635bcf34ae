-- Moves of words in a row. While words of its copy or of its reply are left, each step of a worker moves one of them, whatever it finds.
use Rattle.std.specs.Prelude.{◌≡◌, ℕ, ◌+◌, ◌-◌, ◌==◌, Bool, true, false, nat_lt, List, [], drop, length, Option, None, Some, if◌then◌else◌}
use Rattle.sb_block.specs.Packing.{offset_of}
use Rattle.sb_actor.specs.Acts.{value_in}
use Rattle.sb_actor.specs.Observations.{Observation}
use Rattle.sb_actor.specs.WorkerStages.{WorkerStage, Copy, Give, Reply}
use Rattle.sb_actor.specs.declared.acts.Act.{Act}
use Rattle.sb_actor.specs.declared.acts.Act.TheVariants as act

-- the next step loads a word of the block into the copy
abbrev pub is_copying_at : WorkerStage → Bool
is_copying_at (Copy count end words) = true
is_copying_at _ = false

-- how many words are left to copy
abbrev pub words_to_copy : WorkerStage → ℕ
words_to_copy (Copy count end words) = end - length words
words_to_copy _ = 0

-- the place in the reply of the word that the next step stores, if it stores one
abbrev pub place_in_reply : WorkerStage → Option ℕ
place_in_reply (Reply copy reply i) = Some i
place_in_reply _ = None

-- the place that a step which stores names: the reply begins at block word 3
abbrev pub place_of : Act → Option ℕ
place_of (act.Store target word value) = Some (word.at - 4)
place_of _ = None

-- how many words are left to copy, or of the reply to store
abbrev pub moves_left : WorkerStage → ℕ
moves_left (Copy count end words) = end - length words
moves_left (Reply copy reply i) = 12 - i
moves_left _ = 0

-- the values of the reply that are left to store
abbrev pub values_left : WorkerStage → List ℕ
values_left (Reply copy reply i) = drop i reply
values_left _ = []

-- A host's worker counts the words that are left to copy: the count begins with the end that was loaded before the first word, which is that of no
-- other step, and each word that is loaded takes one off
abbrev pub begins_copy : Act → Bool
begins_copy (act.Load target word) = word.at == 1
begins_copy _ = false

abbrev pub left_after : ℕ → Act → Observation → ℕ
left_after left next seen = if nat_lt 0 left then left - 1 else (if begins_copy next then offset_of (value_in seen) else 0)

-- and it keeps the words of a reply from the answer until they are stored
abbrev pub IsReplyKept : WorkerStage → List ℕ → Type 0
IsReplyKept (Give copy reply) kept = reply ≡ kept
IsReplyKept (Reply copy reply i) kept = reply ≡ kept
IsReplyKept _ kept = Unit {0}
