-- Where a fragment fits a string, and what each way of seeking it leaves.
use Rattle.std.specs.Prelude.{◌≡◌, ◌↔◌, ◌≤◌, ◌<◌, ℕ, ◌+◌, ◌-◌, Bool, true, List, [], ◌∷◌, ◌++◌, length, drop, slice_index_or, None, Some}
use Rattle.sb_rule.specs.declared.cells.Cell.{Cell}
use Rattle.sb_rule.specs.declared.cells.Cell.TheVariants.{One, Any}
use Rattle.sb_opcode.specs.Options.{has, FOLD, EXACT}
use Rattle.sb_opcode.specs.declared.opcodes.Seek.{Seek}
use Rattle.sb_opcode.specs.declared.opcodes.Seek.TheVariants.{Skip, Forward, ToEnd}
use Rattle.sb_opcode.specs.declared.options.Options.{Options}
use Rattle.sb_opcode.specs.Fragments.{unit_fits, after_seek}
use Rattle.sb_opcode.specs.Meaning.{after_text}

-- a fragment fits at a place: it ends within the string, and each of its cells fits the unit there
abbrev pub FitsAt : Bool → List Cell → List ℕ → ℕ → Type 0
FitsAt fold cells units place =
    (place + length cells ≤ length units)
    × ((i : ℕ) → i < length cells → unit_fits fold (slice_index_or cells i One) (slice_index_or units (place + i) 0) ≡ true)

-- and at no place before
abbrev pub FirstFitsAt : Bool → List Cell → List ℕ → ℕ → Type 0
FirstFitsAt fold cells units place = FitsAt fold cells units place × ((before : ℕ) → before < place → FitsAt fold cells units before → ⊥)

-- Skip leaves what follows the fragment, exactly if it fits this many units on
abbrev pub SkipLeavesWhatFollows : Type 0
SkipLeavesWhatFollows = (fold : Bool) (cells : List Cell) (units rest : List ℕ) (n : ℕ)
    → (after_seek (Skip n) fold cells units ≡ Some rest) ↔ (FitsAt fold cells units n × (rest ≡ drop (n + length cells) units))

-- Forward leaves what follows the fragment at the first place where it fits
abbrev pub ForwardTakesTheFirstPlace : Type 0
ForwardTakesTheFirstPlace = (fold : Bool) (cells : List Cell) (units rest : List ℕ)
    → (after_seek Forward fold cells units ≡ Some rest)
    ↔ ((place : ℕ) × FirstFitsAt fold cells units place × (rest ≡ drop (place + length cells) units))

-- and finds none exactly if the fragment fits nowhere
abbrev pub ForwardMissesNoPlace : Type 0
ForwardMissesNoPlace = (fold : Bool) (cells : List Cell) (units : List ℕ)
    → (after_seek Forward fold cells units ≡ None) ↔ ((place : ℕ) → FitsAt fold cells units place → ⊥)

-- ToEnd leaves nothing, exactly if the fragment fits at the end
abbrev pub EndIsTheLastPlace : Type 0
EndIsTheLastPlace = (fold : Bool) (cells : List Cell) (units rest : List ℕ)
    → (after_seek ToEnd fold cells units ≡ Some rest) ↔ (FitsAt fold cells units (length units - length cells) × (rest ≡ []))

-- with EXACT nothing is left, exactly if nothing is left without it
abbrev pub ExactLeavesNothing : Type 0
ExactLeavesNothing = (cells : List Cell) (seek : Seek) (options : Options) (units rest : List ℕ) → has options EXACT ≡ true
    → (after_text cells seek options units ≡ Some rest) ↔ ((after_seek seek (has options FOLD) cells units ≡ Some []) × (rest ≡ []))

-- a fragment that holds a `*` fits nowhere
abbrev pub StarsFitNowhere : Type 0
StarsFitNowhere = (fold : Bool) (before after : List Cell) (units : List ℕ) (place : ℕ) → FitsAt fold (before ++ Any ∷ after) units place → ⊥
