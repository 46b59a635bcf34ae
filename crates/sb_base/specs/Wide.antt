-- Wide strings: their units, and when two are the same after folding.
use Rattle.std.specs.Prelude.{◌≡◌, ◌↔◌, IsTrue, ℕ, ◌-◌, Bool, true, not, ◌&&◌, ◌==◌, nat_eq, nat_le, nat_lt, List, map, length, if◌then◌else◌, slice_index}
use Rattle.std.specs.List.{flat_map}
use Rattle.std.specs.Char.Escape.{encode_utf16}
use Rattle.std.specs.Cmp.{IsEquivalence}
use Rattle.std.specs.Cmp.Lexicographic.{pointwise}

-- a unit is below 65,536
abbrev pub is_unit : ℕ → Bool
is_unit u = nat_lt u 65536

-- a unit of 16 bits that is neither a control unit nor `"`
abbrev pub is_text_unit : ℕ → Bool
is_text_unit u = nat_le 32 u && is_unit u && not (u == 34)

-- the UTF-16 units of characters
abbrev pub utf16_of : List ℕ → List ℕ
utf16_of cs = flat_map encode_utf16 cs

-- `a` to `z` become `A` to `Z`
abbrev pub folded : ℕ → ℕ
folded u = if nat_le 97 u && nat_le u 122 then u - 32 else u

-- two wide strings are the same: they are equal once each unit is folded
abbrev pub IsSame : List ℕ → List ℕ → Type 0
IsSame a b = map folded a ≡ map folded b

-- the test of it
abbrev pub is_same : List ℕ → List ℕ → Bool
is_same a b = pointwise nat_eq (map folded a) (map folded b)

-- folding twice is folding once
abbrev pub FoldsOnce : Type 0
FoldsOnce = (u : ℕ) → folded (folded u) ≡ folded u

-- the test holds exactly if two wide strings are the same
abbrev pub TestsSame : Type 0
TestsSame = (a b : List ℕ) → IsTrue (is_same a b) ↔ IsSame a b

-- the test is reflexive, symmetric and transitive
abbrev pub SameIsEquivalence : Type 0
SameIsEquivalence = IsEquivalence is_same

-- the same strings are equally long, and their units have equal foldings at each place
abbrev pub SameAtEachPlace : Type 0
SameAtEachPlace = (a b : List ℕ) → is_same a b ≡ true
    → (length a ≡ length b) × ((i : ℕ) → folded (slice_index a i) ≡ folded (slice_index b i))

-- a wide string is the same as its folding
abbrev pub SameAsFolded : Type 0
SameAsFolded = (a : List ℕ) → is_same a (map folded a) ≡ true
