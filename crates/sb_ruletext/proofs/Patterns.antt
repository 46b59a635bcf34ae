-- The strings and patterns that are read can be written between quotes.
use Rattle.std.proofs.Common.{◌≡◌, refl, sym, subst, ℕ, List, Bool, true, false, nat_le, nat_lt, length, Option, Some, Ok, arith, cond}
use Rattle.std.proofs.lemmas.Bool.{and_from}
use Rattle.std.proofs.lemmas.Bool.Decides.{nat_tests}
use Rattle.std.specs.List.{list_all}
use Rattle.sb_rule.specs.PatternReading.{reading, star_fault, cells_of, unless, TextsComeBack, ReadingGivesPatterns}
use Rattle.sb_rule.specs.declared.cells.Cell.{Cell}
use Rattle.sb_rule.specs.declared.pattern_faults.PatternFault.{PatternFault}
use Rattle.sb_rule.specs.declared.pattern_faults.PatternFault.TheVariants.{TooLong}
use Rattle.sb_rule.specs.WellMade.{is_policy_text, is_like_text}
use Rattle.sb_base.specs.Wide.{is_text_unit}
use Rattle.sb_base.specs.Surrogates.{is_paired}

-- text of at most 256 units
pub short_text : (text : List ℕ) → nat_le (length text) 256 ≡ true
    → (list_all is_text_unit text ≡ true) × (is_paired text ≡ true) → is_policy_text text ≡ true
short_text text h k = and_from _ _ (and_from _ _ h k.0) k.1

too_long : (b : Bool) (fault : Option PatternFault) (cells read : List Cell)
    → unless (cond b (Some TooLong) fault) cells ≡ Ok read → b ≡ false
too_long false fault cells read h = refl
too_long true fault cells read h = search h

-- a text that is read as a pattern is short
pub read_is_short : (text : List ℕ) (cells : List Cell) → reading text ≡ Ok cells → nat_le (length text) 256 ≡ true
read_is_short text cells h =
    let t : nat_lt 256 (length text) ≡ false = too_long (nat_lt 256 (length text)) (star_fault 0 text) (cells_of text) cells h in
    grind (arith, nat_tests)

-- a pattern that was read from such a text
pub read_like : TextsComeBack → ReadingGivesPatterns → (text : List ℕ) (cells : List Cell) → reading text ≡ Ok cells
    → (list_all is_text_unit text ≡ true) × (is_paired text ≡ true) → is_like_text cells ≡ true
read_like texts patterns text cells h k =
    and_from _ _ (patterns text cells h) (subst (λ us. is_policy_text us ≡ true) (sym (texts text cells h)) (short_text text (read_is_short text cells h) k))
