-- Slots by number, and the handles that they hold.
use Rattle.std.proofs.Common.{◌≡◌, ℕ, ◌+◌, ◌<◌, ◌≤◌, ◌==◌, Bool, true, false, zero, suc, refl, sym, ◌∙◌, arith, List, [], ◌∷◌, ◌++◌, length, if◌then◌else◌}
use Rattle.std.proofs.lemmas.Bool.Decides.{nat_tests}
use Rattle.std.specs.Prelude.{Option, None, Some, map, nat_le, option_map, not, ◌&&◌}
use Rattle.std.proofs.Common.{set, get_or, length-set}
use Rattle.std.specs.List.{filter, find, list_all, AllByRecursion}
use Rattle.std.specs.List.Sorted.{IsStrictlySortedBy}
use Rattle.std.specs.Ordering.{nat_cmp}
use Rattle.std.specs.declared.cmp.Ordering.TheVariants.{Less}
use Rattle.sb_handles.specs.Slots.{open_from, slot_of, held_in}
use Rattle.sb_handles.specs.Tables.{IsTable, is_of, without_handle}
use Rattle.sb_handles.specs.declared.objects.Held.{Held}
use Rattle.sb_handles.specs.declared.objects.OpenHandle.{OpenHandle}
use Rattle.sb_handles.specs.declared.tables.Slot.{Slot}

-- a number below the first has no slot
pub slot_below : (first number : ℕ) (slots : List (Option Slot)) → number < first → slot_of first slots number ≡ None
slot_below first number [] h = refl
slot_below first number (slot ∷ slots) h =
    let e : (first == number) ≡ false = grind (arith, nat_tests) in
    rw e (slot_below (first + 1) number slots (omega arith))

-- a number has the slot at its place
pub slot_at : (first place number : ℕ) (slots : List (Option Slot)) → number ≡ first + place
    → slot_of first slots number ≡ get_or slots place None
slot_at first place number [] n = refl
slot_at first zero number (slot ∷ slots) n = grind (arith, nat_tests)
slot_at first (suc place) number (slot ∷ slots) n =
    let e : (first == number) ≡ false = grind (arith, nat_tests) in
    rw e (slot_at (first + 1) place number slots (omega arith))

-- a slot that holds something is in its place
pub slot_in : (first number : ℕ) (slots : List (Option Slot)) (slot : Slot) → slot_of first slots number ≡ Some slot
    → (first ≤ number) × (number < first + length slots)
slot_in first number [] slot h = absurd (cc)
slot_in first number (other ∷ slots) slot h = by (first == number) refl h (slot_in (first + 1) number slots slot)
  where
    by : (b : Bool) → b ≡ (first == number) → (if b then other else slot_of (first + 1) slots number) ≡ Some slot
        → (slot_of (first + 1) slots number ≡ Some slot → (first + 1 ≤ number) × (number < first + 1 + length slots))
        → (first ≤ number) × (number < first + length (other ∷ slots))
    by true e h f = grind (arith, nat_tests)
    by false e h f = grind (arith, f h)

module _ (target : ℕ) where
  -- the handle of a number that this target holds, if any
  abbrev among : ℕ → List OpenHandle → Option Held
  among number handles = option_map (λ handle. handle.held) (find (is_of target number) handles)

  by_slot : (first number : ℕ) (slot : Slot) (rest : List OpenHandle) (later : Option Slot) (b c : Bool)
      → (slot.target == target) ≡ c → among number rest ≡ held_in target later → (b ≡ true → later ≡ None)
      → option_map (λ handle. handle.held) (if b && c then Some (record { target = slot.target; number = first; held = slot.held }) else find (is_of target number) rest)
      ≡ held_in target (if b then Some slot else later)
  by_slot first number slot rest later false c t h l = h
  by_slot first number slot rest later true true t h l = rw t refl
  by_slot first number slot rest later true false t h l = rw t (h ∙ rw (l refl) refl)

  by_empty : (number : ℕ) (rest : List OpenHandle) (later : Option Slot) (b : Bool)
      → among number rest ≡ held_in target later → (b ≡ true → later ≡ None)
      → among number rest ≡ held_in target (if b then None else later)
  by_empty number rest later false h l = h
  by_empty number rest later true h l = h ∙ rw (l refl) refl

  -- a target holds what is in its slot
  pub found_slot : (first number : ℕ) (slots : List (Option Slot)) → among number (open_from first slots) ≡ held_in target (slot_of first slots number)
  found_slot first number [] = refl
  found_slot first number (None ∷ slots) =
      by_empty number (open_from (first + 1) slots) (slot_of (first + 1) slots number) (first == number) (found_slot (first + 1) number slots)
      (λ e. slot_below (first + 1) number slots (grind (arith, nat_tests)))
  found_slot first number (Some slot ∷ slots) =
      by_slot first number slot (open_from (first + 1) slots) (slot_of (first + 1) slots number) (first == number) (slot.target == target) refl
      (found_slot (first + 1) number slots) (λ e. slot_below (first + 1) number slots (grind (arith, nat_tests)))

  abbrev others : ℕ → List OpenHandle → List OpenHandle
  others number handles = filter (λ handle. not (is_of target number handle)) handles

  -- no handle below the first number is there
  none_below : (first number : ℕ) (slots : List (Option Slot)) → number < first → others number (open_from first slots) ≡ open_from first slots
  none_below first number [] h = refl
  none_below first number (None ∷ slots) h = none_below (first + 1) number slots (omega arith)
  none_below first number (Some slot ∷ slots) h =
      let e : (first == number) ≡ false = grind (arith, nat_tests) in
      rw (e, none_below (first + 1) number slots (omega arith)) refl

  -- a slot that is emptied leaves all other handles
  pub emptied : (first place number : ℕ) (slots : List (Option Slot)) (slot : Slot) → number ≡ first + place
      → slot_of first slots number ≡ Some slot → (slot.target == target) ≡ true
      → others number (open_from first slots) ≡ open_from first (set slots place None)
  emptied first place number [] slot n h t = refl
  emptied first zero number (None ∷ slots) slot n h t =
      let e : (first == number) ≡ true = grind (arith, nat_tests) in
      absurd (grind (arith, e, h))
  emptied first zero number (Some other ∷ slots) slot n h t =
      let e : (first == number) ≡ true = grind (arith, nat_tests) in
      let same : Some other ≡ Some slot = grind (arith, e, h) in
      let o : (other.target == target) ≡ true = grind (arith, same, t) in
      rw (e, o) (none_below (first + 1) number slots (omega arith))
  emptied first (suc place) number (None ∷ slots) slot n h t =
      let e : (first == number) ≡ false = grind (arith, nat_tests) in
      emptied (first + 1) place number slots slot (omega arith) (grind (arith, e, h)) t
  emptied first (suc place) number (Some other ∷ slots) slot n h t =
      let e : (first == number) ≡ false = grind (arith, nat_tests) in
      let rest = emptied (first + 1) place number slots slot (omega arith) (grind (arith, e, h)) t in
      rw (e, rest) refl

-- the number of an open handle is not below the first, nor past the last
abbrev is_between : ℕ → ℕ → OpenHandle → Bool
is_between first last handle = nat_le first handle.number && nat_le handle.number last

within : (first last low : ℕ) (slots : List (Option Slot)) → low ≤ first → first + length slots ≤ last + 1
    → list_all (is_between low last) (open_from first slots) ≡ true
within first last low [] l h = refl
within first last low (None ∷ slots) l h = within (first + 1) last low slots (omega arith) (omega arith)
within first last low (Some slot ∷ slots) l h =
    let e : nat_le low first ≡ true = grind (arith, nat_tests) in
    let g : nat_le first last ≡ true = grind (arith, nat_tests) in
    rw (e, g) (within (first + 1) last low slots (omega arith) (omega arith))

above : (first low : ℕ) (slots : List (Option Slot)) → low < first → AllByRecursion (λ n. nat_cmp low n ≡ Less) (map (λ handle. handle.number) (open_from first slots))
above first low [] h = tt
above first low (None ∷ slots) h = above (first + 1) low slots (omega arith)
above first low (Some slot ∷ slots) h = (less low first h, above (first + 1) low slots (omega arith))
  where
    less : (x y : ℕ) → x < y → nat_cmp x y ≡ Less
    less x y h = grind (arith, nat_tests)

rising : (first : ℕ) (slots : List (Option Slot)) → IsStrictlySortedBy nat_cmp (map (λ handle. handle.number) (open_from first slots))
unfolding IsStrictlySortedBy
rising first [] = tt
rising first (None ∷ slots) = rising (first + 1) slots
rising first (Some slot ∷ slots) = (above (first + 1) first slots (omega arith), rising (first + 1) slots)

-- the handles of slots are a table
pub slots_rise : (slots : List (Option Slot)) → IsTable (record { handles = open_from 1 slots; granted = length slots })
slots_rise slots = (rising 1 slots, within 1 (length slots) 1 slots (omega arith) (omega arith))

-- one slot more is one handle more
pub one_more : (first : ℕ) (slots : List (Option Slot)) (slot : Slot)
    → open_from first (slots ++ Some slot ∷ []) ≡ open_from first slots ++ (record { target = slot.target; number = first + length slots; held = slot.held }) ∷ []
one_more first [] slot = rw (by first) refl
  where
    by : (n : ℕ) → n + 0 ≡ n
    by n = omega arith
one_more first (None ∷ slots) slot =
    one_more (first + 1) slots slot ∙ (λ i. open_from (first + 1) slots ++ (record { target = slot.target; number = moves i; held = slot.held }) ∷ [])
  where
    moves : first + 1 + length slots ≡ first + suc (length slots)
    moves = omega arith
one_more first (Some other ∷ slots) slot =
    (λ i. (record { target = other.target; number = first; held = other.held }) ∷ (one_more (first + 1) slots slot i))
    ∙ (λ i. (record { target = other.target; number = first; held = other.held }) ∷ open_from (first + 1) slots ++ (record { target = slot.target; number = moves i; held = slot.held }) ∷ [])
  where
    moves : first + 1 + length slots ≡ first + suc (length slots)
    moves = omega arith

-- a table without a handle is that of the slots without its slot
pub cleared : (target place number : ℕ) (slots : List (Option Slot)) (slot : Slot) → number ≡ 1 + place
    → slot_of 1 slots number ≡ Some slot → (slot.target == target) ≡ true
    → record { handles = open_from 1 (set slots place None); granted = length (set slots place None) }
    ≡ without_handle (record { handles = open_from 1 slots; granted = length slots }) target number
cleared target place number slots slot n h t =
    let e = emptied target 1 place number slots slot n h t in
    let l : length (set slots place None) ≡ length slots = length-set slots place None in
    λ i. record { handles = sym e i; granted = l i }
