-- What a list of slots says of handles. The slots have numbers, one more each, and a slot is empty once its handle is closed.
use Rattle.std.specs.Prelude.{◌+◌, ℕ, ◌==◌, List, [], ◌∷◌, Option, None, Some, if◌then◌else◌}
use Rattle.sb_handles.specs.declared.objects.Held.{Held}
use Rattle.sb_handles.specs.declared.objects.OpenHandle.{OpenHandle}
use Rattle.sb_handles.specs.declared.tables.Slot.{Slot}

-- the open handles, if the first slot has this number
abbrev pub open_from : ℕ → List (Option Slot) → List OpenHandle
open_from first [] = []
open_from first (None ∷ slots) = open_from (first + 1) slots
open_from first (Some slot ∷ slots) =
    (record { target = slot.target; number = first; held = slot.held }) ∷ open_from (first + 1) slots

-- the slot of a number, if the first slot has the number first
abbrev pub slot_of : ℕ → List (Option Slot) → ℕ → Option Slot
slot_of first [] number = None
slot_of first (slot ∷ slots) number = if first == number then slot else slot_of (first + 1) slots number

-- what a target holds by a slot
abbrev pub held_in : ℕ → Option Slot → Option Held
held_in target None = None
held_in target (Some slot) = if slot.target == target then Some slot.held else None
