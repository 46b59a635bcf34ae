-- Rules that are put to the slots in which they may hold.
use Rattle.std.specs.Prelude.{◌≡◌, ◌<◌, ◌≤◌, ℕ, zero, suc, ◌-◌, Bool, false, ◌&&◌, ◌||◌, List, [], length, slice_index_or}
use Rattle.sb_call.specs.declared.tags.CallTag.{CallTag}
use Rattle.sb_rule.specs.declared.policies.Rule.{Rule}
use Rattle.sb_index.specs.Bounds.{first_of, last_of}
use Rattle.sb_index.specs.Questions.{may_pass}
use Rattle.sb_index.specs.Sets.{has}
use Rattle.sb_index.specs.Tables.{rules_for}
use Rattle.sb_index.specs.declared.marks.Marks.{Marks}
use Rattle.sb_index.specs.declared.questions.Feature.{Feature}
use Rattle.sb_index.specs.declared.questions.Question.TheVariants.{Within}

-- one of the first n sets has the number
abbrev pub up_to : List (List ℕ) → ℕ → ℕ → Bool
up_to sets zero k = false
up_to sets (suc n) k = up_to sets n k || has (slice_index_or sets n []) k

-- the rule is put to this slot alone, or it begins at the slot or before it and ends at the slot or after it
abbrev pub is_marked : Marks → ℕ → ℕ → Bool
is_marked marks slot k =
    has (slice_index_or marks.points.items slot []) k
    || (up_to marks.begins.items (suc slot) k && up_to marks.ends.items (length marks.ends.items - slot) k)

-- there are as many sets as slots
abbrev pub AreSized : Marks → ℕ → Type 0
AreSized marks slots = (length marks.points.items ≡ slots) × (length marks.begins.items ≡ slots) × (length marks.ends.items ≡ slots)

-- no rule with a number from this one on is put to any slot
abbrev pub AreFresh : Marks → ℕ → Type 0
AreFresh marks from = (n : ℕ) (k : ℕ) → from ≤ k
    → (has (slice_index_or marks.points.items n []) k ≡ false) × (up_to marks.begins.items n k ≡ false) × (up_to marks.ends.items n k ≡ false)

-- each of the rules for a tag is marked in a slot exactly if it passes the question of the slot
abbrev pub AreMarked : List Rule → CallTag → Feature → List ℕ → Marks → Type 0
AreMarked rules tag feature bounds marks = (slot : ℕ) → slot ≤ length bounds → (j : ℕ) (d : Rule) → j < length (rules_for tag rules)
    → is_marked marks slot j ≡ may_pass (Within feature (first_of bounds slot) (last_of bounds slot)) (slice_index_or (rules_for tag rules) j d)
