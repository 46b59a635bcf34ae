-- The text of a fragment tells its cells.
use Rattle.std.specs.List.{list_all}
use Rattle.std.proofs.Common.{◌≡◌, ◌∙◌, ℕ, Bool, true, false, not, cond, eqb, ◌&&◌, List, [], ◌∷◌, ◌++◌, drop, get_or, refl, ap, sym}
use Rattle.std.proofs.lemmas.Bool.{and_parts, false≢true, eqb-true}
use Rattle.sb_base.specs.Wide.{is_unit}
use Rattle.sb_rule.specs.PatternReading.{cell_text, text_of, begins_with_one}
use Rattle.sb_rule.specs.declared.cells.Cell.{Cell}
use Rattle.sb_rule.specs.declared.cells.Cell.TheVariants.{Lit, One, Any}
use Rattle.sb_compile.specs.ListingLaws.{is_told_before, is_fragment}
use Rattle.sb_compile.proofs.Splits.{apart, clash, same_head}

-- how a literal is written, where the test says whether it is `?`
abbrev written : Bool → ℕ → List ℕ
written b u = cond b (47 ∷ 63 ∷ []) (u ∷ [])

pub fragments_are_units : (cells : List Cell) → is_fragment cells ≡ true → list_all is_unit (text_of cells) ≡ true
fragments_are_units [] h = refl
fragments_are_units (One ∷ cells) h = fragments_are_units cells h
fragments_are_units (Any ∷ cells) h = absurd (false≢true h)
fragments_are_units (Lit u ∷ cells) h =
    let p = and_parts (is_told_before u cells) (is_fragment cells) h in
    by (eqb u 63) (and_parts (is_unit u) (not (eqb u 47 && begins_with_one cells)) p.0).0 (fragments_are_units cells p.1)
  where
    by : (b : Bool) → is_unit u ≡ true → list_all is_unit (text_of cells) ≡ true → list_all is_unit (written b u ++ text_of cells) ≡ true
    by true one rest = rest
    by false one rest = λ i. one i && rest i

abbrev is_empty : List ℕ → Bool
is_empty [] = true
is_empty (b ∷ bs) = false

not_empty : (b : Bool) (u : ℕ) (rest : List ℕ) → is_empty (written b u ++ rest) ≡ false
not_empty true u rest = refl
not_empty false u rest = refl

not_one : (b : Bool) (u : ℕ) (rest : List ℕ) → eqb u 63 ≡ b → eqb (get_or (written b u ++ rest) 0 0) 63 ≡ false
not_one true u rest e = refl
not_one false u rest e = e

-- a text begins with `?` if its cells do
begins_alike : (cells : List Cell) → is_fragment cells ≡ true → eqb (get_or (text_of cells) 0 0) 63 ≡ begins_with_one cells
begins_alike [] h = refl
begins_alike (One ∷ cells) h = refl
begins_alike (Any ∷ cells) h = absurd (false≢true h)
begins_alike (Lit u ∷ cells) h = not_one (eqb u 63) u (text_of cells) refl

-- no literal `/` is written before a `?`
abbrev is_told : ℕ → List ℕ → Bool
is_told u rest = not (eqb u 47 && eqb (get_or rest 0 0) 63)

same_literal : (b c : Bool) (u v : ℕ) (r s : List ℕ) → eqb u 63 ≡ b → eqb v 63 ≡ c → is_told u r ≡ true → is_told v s ≡ true → written b u ++ r ≡ written c v ++ s
    → (u ≡ v) × (r ≡ s)
same_literal true true u v r s eu ev tu tv e = (eqb-true u 63 eu ∙ sym (eqb-true v 63 ev), ap (drop 2) e)
same_literal true false u v r s eu ev tu tv e =
    clash (eqb v 47 && eqb (get_or s 0 0) 63) ((λ i. eqb (same_head (sym e) i) 47 && eqb (get_or (ap (drop 1) (sym e) i) 0 0) 63)) tv
same_literal false true u v r s eu ev tu tv e =
    clash (eqb u 47 && eqb (get_or r 0 0) 63) ((λ i. eqb (same_head e i) 47 && eqb (get_or (ap (drop 1) e i) 0 0) 63)) tu
same_literal false false u v r s eu ev tu tv e = (same_head e, ap (drop 1) e)

pub same_cells : (xs bs : List Cell) → is_fragment xs ≡ true → is_fragment bs ≡ true → text_of xs ≡ text_of bs → xs ≡ bs
same_cells [] [] ha hb e = refl
same_cells [] (One ∷ bs) ha hb e = apart is_empty [] (63 ∷ text_of bs) e refl refl
same_cells [] (Any ∷ bs) ha hb e = absurd (false≢true hb)
same_cells [] (Lit v ∷ bs) ha hb e = apart is_empty [] (cell_text (Lit v) ++ text_of bs) e refl (not_empty (eqb v 63) v (text_of bs))
same_cells (One ∷ xs) [] ha hb e = apart is_empty [] (63 ∷ text_of xs) (sym e) refl refl
same_cells (Any ∷ xs) bs ha hb e = absurd (false≢true ha)
same_cells (Lit u ∷ xs) [] ha hb e = apart is_empty [] (cell_text (Lit u) ++ text_of xs) (sym e) refl (not_empty (eqb u 63) u (text_of xs))
same_cells (One ∷ xs) (One ∷ bs) ha hb e = ap (λ l. One ∷ l) (same_cells xs bs ha hb (ap (drop 1) e))
same_cells (One ∷ xs) (Any ∷ bs) ha hb e = absurd (false≢true hb)
same_cells (One ∷ xs) (Lit v ∷ bs) ha hb e =
    apart (λ l. eqb (get_or l 0 0) 63) (63 ∷ text_of xs) (cell_text (Lit v) ++ text_of bs) e refl (not_one (eqb v 63) v (text_of bs) refl)
same_cells (Lit u ∷ xs) (One ∷ bs) ha hb e =
    apart (λ l. eqb (get_or l 0 0) 63) (63 ∷ text_of bs) (cell_text (Lit u) ++ text_of xs) (sym e) refl (not_one (eqb u 63) u (text_of xs) refl)
same_cells (Lit u ∷ xs) (Any ∷ bs) ha hb e = absurd (false≢true hb)
same_cells (Lit u ∷ xs) (Lit v ∷ bs) ha hb e =
    let p = and_parts (is_told_before u xs) (is_fragment xs) ha in
    let q = and_parts (is_told_before v bs) (is_fragment bs) hb in
    let told_u : is_told u (text_of xs) ≡ true =
    ap (λ b. not (eqb u 47 && b)) (begins_alike xs p.1) ∙ (and_parts (is_unit u) (not (eqb u 47 && begins_with_one xs)) p.0).1 in
    let told_v : is_told v (text_of bs) ≡ true =
    ap (λ b. not (eqb v 47 && b)) (begins_alike bs q.1) ∙ (and_parts (is_unit v) (not (eqb v 47 && begins_with_one bs)) q.0).1 in
    let first = same_literal (eqb u 63) (eqb v 63) u v (text_of xs) (text_of bs) refl refl told_u told_v e in
    let later = same_cells xs bs p.1 q.1 first.1 in
    λ i. Lit (first.0 i) ∷ later i
