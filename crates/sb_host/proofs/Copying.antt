-- Copies have at most 64 words.
use Rattle.std.specs.Prelude.{nat_le, nat_lt}
use Rattle.std.proofs.Common.{◌≡◌, ℕ, ◌<◌, Bool, true, false, ◌&&◌, ◌==◌, List, length, refl, arith}
use Rattle.std.proofs.lemmas.Bool.{and_parts}
use Rattle.std.proofs.lemmas.Bool.Decides.{nat_tests}
use Rattle.sb_block.specs.Copies.{copied, is_copy, is_end}
use Rattle.sb_block.specs.Layout.{first_offset, most_parameters, most_words}

pub long_is_no_copy : (count end : ℕ) (words : List ℕ) → 64 < length words → is_copy (copied count end words) ≡ false
long_is_no_copy count end words long = by (nat_lt most_parameters count) refl
  where
    none : (length words == 0) ≡ false
    none = grind (arith, nat_tests, long)

    whole : (b : Bool) → nat_lt most_parameters count ≡ false → is_end count end ≡ b → is_copy (copied count end words) ≡ false
    whole true few e =
        let high = (and_parts (nat_le (first_offset count) end) (nat_le end most_words) e).1 in
        let other : (length words == end) ≡ false = grind (arith, nat_tests, long, high) in
        rw (few, e) other
    whole false few e = rw (few, e) none

    by : (b : Bool) → nat_lt most_parameters count ≡ b → is_copy (copied count end words) ≡ false
    by true many = rw (many) (ended (end == 0))
      where
        ended : (b : Bool) → (b && length words == 0) ≡ false
        ended true = none
        ended false = refl
    by false few = whole (is_end count end) few refl
