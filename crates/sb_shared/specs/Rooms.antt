-- The memory that `close` fills.
use Rattle.std.specs.Prelude.{◌≡◌, ◌≤◌, ◌+◌, ◌*◌, ◌/◌, ◌%◌, ℕ, List, [], ◌∷◌, drop, length, map, slice_get, slice_index, take, vec_capacity}
use Rattle.std.specs.List.{range_with_len}
use Rattle.std.specs.declared.alloc.Global.{Global}
use Rattle.std.specs.declared.vec.Vec.{Vec}
use Rattle.sb_statements.specs.Actors.{thread_count}
use Rattle.sb_statements.specs.Soundness.{channels_of}
use Rattle.sb_statements.specs.declared.scripts.TargetScript.{TargetScript}
use Rattle.sb_shared.specs.Opening.{target_places, thread_places}
use Rattle.sb_shared.specs.Rule.{spot}
use Rattle.sb_shared.specs.declared.rooms.Rooms.{Rooms}

-- an empty list with room for n elements
abbrev pub IsRoom : {A : Type 0} → ℕ → Vec A Global → Type 0
IsRoom n v = (v.items ≡ []) × (n ≤ vec_capacity v)

-- how many channels each target has, and how many threads
abbrev pub channel_counts : List TargetScript → List ℕ
channel_counts targets = map (λ t. channels_of (slice_get targets t)) (target_places targets)

abbrev pub thread_counts : List TargetScript → List ℕ
thread_counts targets = map (λ t. thread_count (slice_get targets t)) (target_places targets)

-- there is room for the words of each target, for the workers, and for the results of each thread
pub record AreRooms (targets : List TargetScript) (rooms : Rooms) : Type 0 where
  pub few : length targets ≤ 8
  pub words : rooms.words.items ≡ channel_counts targets
  pub all_words : IsRoom (length targets) rooms.all_words
  pub workers : IsRoom (length targets) rooms.workers
  pub threads : IsRoom (length (thread_places targets)) rooms.threads
  pub results : rooms.results.items ≡ thread_counts targets
  pub all_results : IsRoom (length targets) rooms.all_results

-- the words of n channels of target t, by channel, taken from those of the table
abbrev pub words_from : List ℕ → ℕ → ℕ → List ℕ
words_from rows t n = map (λ i. slice_index rows (spot t (i / 65) (i % 65))) (range_with_len 0 (n * 65))

-- the words of targets with this many channels each, the first of which is target t
abbrev pub all_words_from : List ℕ → ℕ → List ℕ → List (List ℕ)
all_words_from rows t [] = []
all_words_from rows t (n ∷ ns) = words_from rows t n ∷ all_words_from rows (t + 1) ns

-- the first n of a list, then the next, and so on, for each of these numbers
abbrev pub grouped : {A : Type 0} → List ℕ → List A → List (List A)
grouped [] xs = []
grouped (n ∷ ns) xs = take n xs ∷ grouped ns (drop n xs)
