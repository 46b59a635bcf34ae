-- Reading and writing texts.
use Rattle.std.specs.Prelude.{Option, None, Some, Result, Ok, Err}
use Rattle.std.proofs.Common.{◌≡◌, ◌∙◌, ◌≤◌, ℕ, Bool, true, false, cond, List, [], ◌∷◌, ◌++◌, ◌&&◌, eqb, leb, ltb, length, refl, ap, sym, arith}
use Rattle.std.proofs.lemmas.Bool.{and_parts, eqb-true, false≢true}
use Rattle.std.proofs.lemmas.Bool.Decides.{nat_tests}
use Rattle.std.proofs.lemmas.List.{length-append}
use Rattle.sb_rule.specs.PatternReading.{cell_of, cells_of, cell_text, text_of, fault_of, star_fault, unless, reading, is_spellable, is_pattern, PatternsAreRead, TextsComeBack, ReadingGivesPatterns}
use Rattle.sb_rule.specs.declared.cells.Cell.{Cell}
use Rattle.sb_rule.specs.declared.cells.Cell.TheVariants.{Lit, One, Any}
use Rattle.sb_rule.specs.declared.pattern_faults.PatternFault.{PatternFault}
use Rattle.sb_rule.specs.declared.pattern_faults.PatternFault.TheVariants.{TooLong}
use Rattle.sb_rule.proofs.Spellings.{text_spellable, spelling_faultless, spelling_read}

cell_kept : (u : ℕ) → cell_text (cell_of u) ≡ u ∷ []
cell_kept u = by (eqb u 42) (eqb u 63) refl refl
  where
    by : (s q : Bool) → eqb u 42 ≡ s → eqb u 63 ≡ q → cell_text (cond s Any (cond q One (Lit u))) ≡ u ∷ []
    by true q h k = ap (λ n. n ∷ []) (sym (eqb-true u 42 h))
    by false true h k = ap (λ n. n ∷ []) (sym (eqb-true u 63 k))
    by false false h k = ap (λ b. cond b (47 ∷ 63 ∷ []) (u ∷ [])) k

kept_step : (u v : ℕ) (us : List ℕ) (b : Bool) → (eqb u 47 && eqb v 63) ≡ b → text_of (cells_of us) ≡ us → text_of (cells_of (v ∷ us)) ≡ v ∷ us
    → text_of (cond b (Lit 63 ∷ cells_of us) (cell_of u ∷ cells_of (v ∷ us))) ≡ u ∷ v ∷ us
kept_step u v us true h e f =
    let p = and_parts (eqb u 47) (eqb v 63) h in
    λ i. sym (eqb-true u 47 p.0) i ∷ sym (eqb-true v 63 p.1) i ∷ e i
kept_step u v us false h e f = λ i. cell_kept u i ++ f i

-- the text of the cells of a text is that text
text_kept : (text : List ℕ) → text_of (cells_of text) ≡ text
text_kept [] = refl
text_kept (u ∷ []) = ap (λ l. l ++ []) (cell_kept u)
text_kept (u ∷ v ∷ us) = kept_step u v us (eqb u 47 && eqb v 63) refl (text_kept us) (text_kept (v ∷ us))

abbrev cells_in : List Cell → Result (List Cell) PatternFault → List Cell
cells_in none (Ok cells) = cells
cells_in none (Err fault) = none

abbrev is_ok : Result (List Cell) PatternFault → Bool
is_ok (Ok cells) = true
is_ok (Err fault) = false

read_cells : (read cells : List Cell) (fault : Option PatternFault) → unless fault read ≡ Ok cells → read ≡ cells
read_cells read cells None e = ap (cells_in []) e
read_cells read cells (Some fault) e = absurd (false≢true (ap is_ok e))

pub texts_come_back : TextsComeBack
texts_come_back text cells e = ap text_of (sym (read_cells (cells_of text) cells (fault_of text) e)) ∙ text_kept text

abbrev is_none : Option PatternFault → Bool
is_none None = true
is_none (Some fault) = false

no_fault : (read cells : List Cell) (fault : Option PatternFault) → unless fault read ≡ Ok cells → fault ≡ None
no_fault read cells None e = refl
no_fault read cells (Some fault) e = absurd (false≢true (ap is_ok e))

-- the cells of a text without a fault
pub read_is_pattern : (text : List ℕ) (cells : List Cell) → fault_of text ≡ None → cells ≡ cells_of text → is_pattern cells ≡ true
read_is_pattern text cells none e = ap is_pattern e ∙ by (ltb 256 (length text)) refl none
  where
    by : (b : Bool) → ltb 256 (length text) ≡ b → cond b (Some TooLong) (star_fault 0 text) ≡ None → is_pattern (cells_of text) ≡ true
    by true h f = absurd (false≢true (ap is_none f))
    by false h f =
        let short : leb (length text) 256 ≡ true = grind (arith, nat_tests) in
        λ i. (ap (λ t. leb (length t) 256) (text_kept text) ∙ short) i && text_spellable 0 text f i

pub reading_gives_patterns : ReadingGivesPatterns
reading_gives_patterns text cells e =
    read_is_pattern text cells (no_fault (cells_of text) cells (fault_of text) e) (sym (read_cells (cells_of text) cells (fault_of text) e))

pattern_read : (cells : List Cell) → is_pattern cells ≡ true → reading (text_of cells) ≡ Ok cells
pattern_read cells h =
    let p = and_parts (leb (length (text_of cells)) 256) (is_spellable cells) h in
    let short : ltb 256 (length (text_of cells)) ≡ false = grind (arith, nat_tests, p.0) in
    λ i. unless (cond (short i) (Some TooLong) (spelling_faultless cells 0 p.1 i)) (spelling_read cells p.1 i)

-- the text of a pattern is read back
pub text_read : (cells : List Cell) (text : List ℕ) → is_pattern cells ≡ true → text ≡ text_of cells → reading text ≡ Ok cells
text_read cells text h e = ap reading e ∙ pattern_read cells h

pub patterns_are_read : PatternsAreRead
patterns_are_read cells = (pattern_read cells, reading_gives_patterns (text_of cells) cells)

-- each cell is written with a unit at least
one_unit : (c : Cell) → 1 ≤ length (cell_text c)
one_unit One = omega arith
one_unit Any = omega arith
one_unit (Lit u) = by (eqb u 63)
  where
    by : (b : Bool) → 1 ≤ length (cond b (47 ∷ 63 ∷ []) (u ∷ []))
    by true = omega arith
    by false = omega arith

text_longer : (cells : List Cell) → length cells ≤ length (text_of cells)
text_longer [] = omega arith
text_longer (c ∷ cells) = omega (arith, one_unit c, text_longer cells, length-append (cell_text c) (text_of cells))

pub few_cells : (cells : List Cell) → is_pattern cells ≡ true → length cells ≤ 256
few_cells cells h =
    let p = and_parts (leb (length (text_of cells)) 256) (is_spellable cells) h in
    let short : length (text_of cells) ≤ 256 = grind (arith, nat_tests, p.0) in
    omega (arith, text_longer cells, short)
