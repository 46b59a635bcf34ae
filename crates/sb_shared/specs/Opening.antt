-- What the first seat knows, the words of the table at the start, and in which order the seats are made.
use Rattle.std.specs.Prelude.{◌≡◌, ℕ, ◌+◌, ◌/◌, ◌%◌, ◌<◌, ◌==◌, ◌&&◌, nat_lt, List, [], ◌∷◌, ◌++◌, length, map, slice_get, slice_index, if◌then◌else◌}
use Rattle.std.specs.List.{range_with_len}
use Rattle.sb_statements.specs.Soundness.{channels_of}
use Rattle.sb_statements.specs.declared.schedules.Actor.{Actor}
use Rattle.sb_statements.specs.declared.schedules.Actor.TheVariants.{Worker, Thread}
use Rattle.sb_statements.specs.declared.scripts.TargetScript.{TargetScript}
use Rattle.sb_shared.specs.Origins.{start_of}
use Rattle.sb_shared.specs.Parts.{part_of}
use Rattle.sb_shared.specs.Rule.{channel_stride, target_stride}
use Rattle.sb_shared.specs.declared.views.Origin.{Origin}
use Rattle.sb_shared.specs.declared.views.View.{View}

-- the numbers of these targets
abbrev pub target_places : List TargetScript → List ℕ
target_places targets = range_with_len 0 (length targets)

-- target and number of each thread of these targets, the first of which is target t
abbrev pub places_from : ℕ → List TargetScript → List (ℕ × ℕ)
places_from t [] = []
places_from t (x ∷ xs) = map (λ k. (t, k)) (range_with_len 0 (length x.threads)) ++ places_from (t + 1) xs

-- target and number of each thread
abbrev pub thread_places : List TargetScript → List (ℕ × ℕ)
thread_places targets = places_from 0 targets

abbrev pub thread_of : ℕ × ℕ → Actor
thread_of place = Thread place.0 place.1

-- all workers, then all threads
abbrev pub all_actors : List TargetScript → List Actor
all_actors targets = map Worker (target_places targets) ++ map thread_of (thread_places targets)

-- the first seat has all actors
abbrev pub first_view : Origin → View
first_view key = record { key = key; parts = map (part_of (start_of key)) (all_actors key.script.value.targets); found = 0; history = []; taken = [] }

-- the word at a place: each state is free, and all else is 0
abbrev pub first_word : List TargetScript → ℕ → ℕ
first_word targets place = if nat_lt (place % target_stride / channel_stride) (channels_of (slice_get targets (place / target_stride))) && (place % channel_stride == 0) then 1 else 0

-- the first n words
abbrev pub AreFirst : List TargetScript → ℕ → List ℕ → Type 0
AreFirst targets n words = (length words ≡ n) × ((i : ℕ) → i < n → slice_index words i ≡ first_word targets i)
