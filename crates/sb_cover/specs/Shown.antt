-- Strings that a script can have, and others in their place.
use Rattle.std.specs.Prelude.{◌≡◌, ◌&&◌, ◌||◌, ◌==◌, ℕ, Bool, true, false, not, nat_le, List, [], ◌∷◌, if◌then◌else◌}
use Rattle.std.specs.List.{list_all}
use Rattle.sb_base.specs.Surrogates.{is_high, is_low, is_surrogate, is_paired}
use Rattle.sb_rule.specs.declared.cells.Cell.{Cell}
use Rattle.sb_rule.specs.declared.cells.Cell.TheVariants.{Lit, One, Any}

-- a unit that a script can have by itself: no control unit, no `"` and no half of a pair
abbrev pub is_plain_unit : ℕ → Bool
is_plain_unit u = nat_le 32 u && not (u == 34) && not (is_surrogate u)

-- a string that a script can have
abbrev pub is_shown : List ℕ → Bool
is_shown us = list_all (λ u. nat_le 32 u && not (u == 34)) us && is_paired us

-- the units begin with the second half of a pair
abbrev pub starts_low : List ℕ → Bool
starts_low [] = false
starts_low (u ∷ us) = is_low u

-- the unit that is shown in place of one before others
abbrev pub unit_for : ℕ → Bool → ℕ → List ℕ → ℕ
unit_for other follows u us = if follows || ((is_high u && starts_low us) || is_plain_unit u) then u else other

-- the unit is the first half of a pair
abbrev pub begins_pair : Bool → ℕ → List ℕ → Bool
begins_pair follows u us = not follows && (is_high u && starts_low us)

-- another unit in place of each that no script can have; the test tells whether the first half of a pair is before the units
abbrev pub mended : ℕ → Bool → List ℕ → List ℕ
mended other follows [] = []
mended other true (u ∷ us) = u ∷ mended other false us
mended other false (u ∷ us) =
    (if (is_high u && starts_low us) || is_plain_unit u then u else other) ∷ mended other (is_high u && starts_low us) us

-- the literals of the cells are what a script can have; the test tells whether the first half of a pair is before the cells
abbrev pub are_plain : Bool → List Cell → Bool
are_plain follows [] = not follows
are_plain follows (One ∷ rest) = not follows && are_plain false rest
are_plain follows (Any ∷ rest) = not follows && are_plain false rest
are_plain true (Lit w ∷ rest) = is_low w && are_plain false rest
are_plain false (Lit w ∷ rest) = if is_high w then are_plain true rest else is_plain_unit w && are_plain false rest

-- the cell can be after these, and whether it is the first half of a pair
abbrev pub fits_after : Bool → Cell → Bool
fits_after follows One = not follows
fits_after follows Any = not follows
fits_after true (Lit w) = is_low w
fits_after false (Lit w) = is_high w || is_plain_unit w

abbrev pub begins_after : Bool → Cell → Bool
begins_after follows One = false
begins_after follows Any = false
begins_after true (Lit w) = false
begins_after false (Lit w) = is_high w
