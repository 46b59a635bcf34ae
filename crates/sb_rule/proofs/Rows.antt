-- Rows of matching, made from the end of the cells to their front.
use Rattle.std.proofs.Common.{◌≡◌, ◌≢◌, ◌∙◌, ◌≤◌, ◌<◌, ◌+◌, ℕ, Bool, true, false, List, [], ◌∷◌, eqb, length, drop, set, get_or, refl, ap, sym, arith}
use Rattle.std.proofs.Math.ListN.{drop_of_length-le}
use Rattle.std.proofs.lemmas.Bool.{eqb-true}
use Rattle.std.proofs.lemmas.Bool.Decides.{nat_tests}
use Rattle.std.proofs.lemmas.Grind.{get_or-set_at}
use Rattle.std.proofs.lemmas.List.{get_or-set_other, at_drop_more}
use Rattle.sb_rule.specs.Matching.{matches}
use Rattle.sb_rule.specs.Rows.{IsRow}
use Rattle.sb_rule.specs.declared.cells.Cell.{Cell}

-- from a place on, the row tells whether the cells from there on match the units
abbrev pub IsRowFrom : ℕ → List Cell → List ℕ → List Bool → Type 0
IsRowFrom from cells units row = (at : ℕ) → from ≤ at → at ≤ length cells → get_or row at false ≡ matches (drop at cells) units

-- the end of the cells
pub row_end : (cells : List Cell) (units : List ℕ) (row : List Bool) (matched : Bool) → length cells < length row → matched ≡ matches [] units
    → IsRowFrom (length cells) cells units (set row (length cells) matched)
row_end cells units row matched within here at low high =
    let e : at ≡ length cells = omega arith in
    get_or-set_at row (length cells) at matched false e within ∙ here ∙ ap (λ later. matches later units) (sym (drop_of_length-le cells low))

-- one place more
pub row_more : (cells : List Cell) (units : List ℕ) (row : List Bool) (place next : ℕ) (matched : Bool) → next ≡ place + 1 → place < length row
    → matched ≡ matches (drop place cells) units → IsRowFrom next cells units row → IsRowFrom place cells units (set row place matched)
row_more cells units row place next matched one within here later at low high = by (eqb at place) refl
  where
    by : (b : Bool) → eqb at place ≡ b → get_or (set row place matched) at false ≡ matches (drop at cells) units
    by true h =
        let e = eqb-true at place h in
        get_or-set_at row place at matched false e within ∙ here ∙ ap (λ p. matches (drop p cells) units) (sym e)
    by false h =
        let other : at ≢ place = grind (arith, nat_tests) in
        let above : next ≤ at = grind (arith, nat_tests) in
        get_or-set_other row place at matched false other ∙ later at above high

-- the cells from a place on are the cell there and those after it
from_here : (cells : List Cell) (units : List ℕ) (place next : ℕ) (d : Cell) → next ≡ place + 1 → place < length cells
    → matches (drop place cells) units ≡ matches (get_or cells place d ∷ drop next cells) units
from_here cells units place next d one within =
    at_drop_more (λ later. matches later units) cells place d within ∙ ap (λ n. matches (get_or cells place d ∷ drop n cells) units) (sym one)

-- the result is right wherever the three that are given are
abbrev pub Tells : (cell : Cell) (unit : ℕ) (without_unit without_both without_cell result : Bool) → Type 0
Tells cell unit without_unit without_both without_cell result =
    (cells : List Cell) (units : List ℕ) → without_unit ≡ matches (cell ∷ cells) units → without_both ≡ matches cells units
    → without_cell ≡ matches cells (unit ∷ units) → result ≡ matches (cell ∷ cells) (unit ∷ units)

-- one place more of the row with one unit more
pub unit_more : (cells : List Cell) (units : List ℕ) (old row : List Bool) (unit place next : ℕ) (d : Cell) (without_both matched : Bool)
    → next ≡ place + 1 → place < length cells → length cells < length row → Tells (get_or cells place d) unit (get_or row place false) without_both (get_or row next false) matched
    → without_both ≡ get_or old next false → get_or row place false ≡ get_or old place false
    → IsRow cells units old → IsRowFrom next cells (unit ∷ units) row → IsRowFrom place cells (unit ∷ units) (set row place matched)
unit_more cells units old row unit place next d without_both matched one within long tells e kept known later =
    let here = kept ∙ known place (omega arith) ∙ from_here cells units place next d one within in
    let there = e ∙ known next (omega arith) in
    let result = tells (drop next cells) units here there (later next (omega arith) (omega arith)) in
    row_more cells (unit ∷ units) row place next matched one (omega arith) (result ∙ sym (from_here cells (unit ∷ units) place next d one within)) later
