-- Units that are alike at some positions.
use Rattle.std.specs.List.{list_all, list_any}
use Rattle.std.proofs.Common.{◌≡◌, ◌⊎◌, ◌∙◌, ◌≤◌, ◌<◌, ◌+◌, ◌/◌, ◌%◌, ℕ, zero, suc, Bool, true, false, cond, not, List, [], ◌∷◌, ◌++◌, ◌&&◌, ◌||◌, eqb, leb, length, take, drop, get_or, refl, ap, sym, subst, arith}
use Rattle.std.proofs.lemmas.Bool.{and_parts, eqb-true, false≢true}
use Rattle.std.proofs.lemmas.Bool.Decides.{nat_tests, Decides-eqb}
use Rattle.std.proofs.lemmas.List.Folds.{list_all_more}
use Rattle.sb_base.specs.Names.{is_ordinary}
use Rattle.sb_base.specs.Wide.{folded}
use Rattle.sb_explore.specs.Exploring.{is_letter}
use Rattle.sb_rule.specs.Matching.{matches, matches_some_rest}
use Rattle.sb_rule.specs.declared.cells.Cell.{Cell}
use Rattle.sb_rule.specs.declared.cells.Cell.TheVariants.{Lit, One, Any}
use Rattle.sb_cover.specs.Letters.{are_noted, has_letter, is_noted, is_apart, AreKept, IsStandIn}
use Rattle.sb_cover.specs.Modes.{mode_after, mode_inside, accepts}
use Rattle.sb_cover.specs.Positions.{cells_at, cells_from, is_position_of, tells}
use Rattle.sb_cover.specs.TextMachines.{mode_in, positions_in, IsLike}
use Rattle.sb_cover.proofs.ModeLemmas.{mode_folded, mode_other}

cells_kept : (old new : List ℕ) → AreKept old new → (cells : List Cell) → are_noted old cells ≡ true → are_noted new cells ≡ true
cells_kept old new kept [] h = refl
cells_kept old new kept (Any ∷ rest) h = cells_kept old new kept rest h
cells_kept old new kept (One ∷ rest) h = refl
cells_kept old new kept (Lit w ∷ rest) h = kept w h

positions_kept : (patterns : List (List Cell)) (old new : List ℕ) → AreKept old new → (positions : List ℕ) → list_all (is_noted patterns old) positions ≡ true
    → list_all (is_noted patterns new) positions ≡ true
positions_kept patterns old new kept [] h = refl
positions_kept patterns old new kept (p ∷ positions) h =
    let parts = and_parts (is_noted patterns old p) (list_all (is_noted patterns old) positions) h in
    λ i. cells_kept old new kept (cells_from patterns p) parts.0 i && positions_kept patterns old new kept positions parts.1 i

-- one position more
pub noted_more : (patterns : List (List Cell)) (old new positions : List ℕ) (i : ℕ) → i < length positions → AreKept old new
    → list_all (is_noted patterns old) (take i positions) ≡ true → is_noted patterns new (get_or positions i 0) ≡ true
    → list_all (is_noted patterns new) (take (i + 1) positions) ≡ true
noted_more patterns old new positions i low kept before here =
    list_all_more (is_noted patterns new) positions i 0 low ∙ (λ j. positions_kept patterns old new kept (take i positions) before j && here j)

-- units with which the cells go on alike
abbrev AreMet : (cells : List Cell) (a b : ℕ) → Type 0
AreMet cells a b = (later : List ℕ) → matches cells (a ∷ later) ≡ matches cells (b ∷ later)

-- a unit and its folding
fold_once : (u : ℕ) → folded (folded u) ≡ folded u
fold_once u = grind (arith, nat_tests)

folded_alike : (u : ℕ) (cells : List Cell) → AreMet cells u (folded u)
folded_alike u [] later = refl
folded_alike u (Any ∷ rest) later = ap (λ b. b || matches_some_rest (matches rest) later) (folded_alike u rest later)
folded_alike u (One ∷ rest) later = refl
folded_alike u (Lit w ∷ rest) later = ap (λ n. eqb n (folded w) && matches rest later) (sym (fold_once u))

-- a unit that is not among the letters, and one that no literal matches
other_alike : (letters : List ℕ) (u other : ℕ) → has_letter letters u ≡ false → folded other ≡ other → (cells : List Cell) → are_noted letters cells ≡ true
    → list_all (is_apart other) cells ≡ true → AreMet cells u other
other_alike letters u other none own [] noted apart later = refl
other_alike letters u other none own (Any ∷ rest) noted apart later =
    ap (λ b. b || matches_some_rest (matches rest) later) (other_alike letters u other none own rest noted apart later)
other_alike letters u other none own (One ∷ rest) noted apart later = refl
other_alike letters u other none own (Lit w ∷ rest) noted apart later =
    let parts = and_parts (not (eqb (folded w) other)) (list_all (is_apart other) rest) apart in
    let one : eqb (folded u) (folded w) ≡ false = differ (eqb (folded u) (folded w)) refl in
    let two : eqb (folded other) (folded w) ≡ false = ap (λ n. eqb n (folded w)) own ∙ flip other (folded w) parts.0 in
    ap (λ b. b && matches rest later) (one ∙ sym two)
  where
    differ : (b : Bool) → eqb (folded u) (folded w) ≡ b → eqb (folded u) (folded w) ≡ false
    differ true e = absurd (false≢true (sym none ∙ ap (λ n. list_any (λ v. eqb (folded v) n) letters) (eqb-true (folded u) (folded w) e) ∙ noted))
    differ false e = e

    flip : (x y : ℕ) → not (eqb y x) ≡ true → eqb x y ≡ false
    flip x y h = grind (arith, nat_tests)

all_drop : (test : Cell → Bool) (n : ℕ) (cells : List Cell) → list_all test cells ≡ true → list_all test (drop n cells) ≡ true
all_drop test zero cells h = h
all_drop test (suc n) [] h = refl
all_drop test (suc n) (c ∷ cells) h = all_drop test n cells (and_parts (test c) (list_all test cells) h).1

-- what positions tell after units that their cells meet alike
met_alike : (patterns : List (List Cell)) (a b : ℕ) (k : ℕ) (later : List ℕ) (positions : List ℕ) → ((p : ℕ) → AreMet (cells_from patterns p) a b)
    → tells patterns positions k (a ∷ later) ≡ tells patterns positions k (b ∷ later)
met_alike patterns a b k later [] met = refl
met_alike patterns a b k later (p ∷ positions) met = λ i. (eqb (p / 512) k && met p later i) || met_alike patterns a b k later positions met i

met_noted : (patterns : List (List Cell)) (letters : List ℕ) (u other k : ℕ) (later : List ℕ) → has_letter letters u ≡ false → IsStandIn patterns other
    → (positions : List ℕ) → list_all (is_noted patterns letters) positions ≡ true → tells patterns positions k (u ∷ later) ≡ tells patterns positions k (other ∷ later)
met_noted patterns letters u other k later none is [] noted = refl
met_noted patterns letters u other k later none is (p ∷ positions) noted =
    let parts = and_parts (is_noted patterns letters p) (list_all (is_noted patterns letters) positions) noted in
    let apart = all_drop (is_apart other) (p % 512) (cells_at patterns (p / 512)) (is.apart (p / 512)) in
    λ i. (eqb (p / 512) k && other_alike letters u other none is.own (cells_from patterns p) parts.0 apart later i)
    || met_noted patterns letters u other k later none is positions parts.1 i

-- a unit is read in place of one that differs in case alone
same_alike : (u v : ℕ) → folded v ≡ folded u → (cells : List Cell) → AreMet cells u v
same_alike u v e cells later =
    folded_alike u cells later ∙ ap (λ n. matches cells (n ∷ later)) (sym e) ∙ sym (folded_alike v cells later)

pub like_same : (patterns : List (List Cell)) (state : List ℕ) (u v : ℕ) → folded v ≡ folded u → IsLike patterns state u v
like_same patterns state u v e = record {
  mode = λ later h. ap (λ m. accepts m later)
      (sym (mode_folded (mode_in state) v) ∙ ap (mode_after (mode_in state)) e ∙ mode_folded (mode_in state) u) ∙ h;
  tells = λ k later. met_alike patterns u v k later (positions_in state) (λ p. same_alike u v e (cells_from patterns p));
}

pub like_through : (patterns : List (List Cell)) (state : List ℕ) (a b c : ℕ) → IsLike patterns state a b → IsLike patterns state b c → IsLike patterns state a c
like_through patterns state a b c h k = record {
  mode = λ later x. k.mode later (h.mode later x);
  tells = λ n later. h.tells n later ∙ k.tells n later;
}

-- the letter that is a unit, whatever its case
pub letter_in : (letters : List ℕ) (u : ℕ) → has_letter letters u ≡ true → (v : ℕ) × (is_letter letters v ≡ true) × (folded v ≡ folded u)
letter_in [] u h = absurd (false≢true h)
letter_in (x ∷ letters) u h = by (letter_in letters u) (eqb (folded x) (folded u)) refl
  where
    itself : (n : ℕ) → eqb n n ≡ true
    itself n = grind (arith, nat_tests)

    or_right : (b : Bool) {c : Bool} → c ≡ true → (b || c) ≡ true
    or_right true h = refl
    or_right false h = h

    by : (has_letter letters u ≡ true → (v : ℕ) × (is_letter letters v ≡ true) × (folded v ≡ folded u))
        → (b : Bool) → eqb (folded x) (folded u) ≡ b → (v : ℕ) × (is_letter (x ∷ letters) v ≡ true) × (folded v ≡ folded u)
    by later true e = (x, ap (λ b. b || is_letter letters x) (itself x), eqb-true (folded x) (folded u) e)
    by later false e =
        let l = later (sym (ap (λ b. b || has_letter letters u) e) ∙ h) in
        (l.0, or_right (eqb x l.0) l.1, l.2)

-- one unit is read in place of all that are not among the letters
pub like_other : (patterns : List (List Cell)) (letters state : List ℕ) (u other : ℕ) → has_letter letters u ≡ false → IsStandIn patterns other
    → list_all (is_noted patterns letters) (positions_in state) ≡ true → (eqb u 92 ≡ false) ⊎ (eqb (mode_in state) 5 ≡ true)
    → IsLike patterns state u other
like_other patterns letters state u other none is noted apart = record {
  mode = mode_other (mode_in state) u other is apart;
  tells = λ k later. met_noted patterns letters u other k later none is (positions_in state) noted;
}

pub like_itself : (patterns : List (List Cell)) (state : List ℕ) (u : ℕ) → IsLike patterns state u u
like_itself patterns state u = record { mode = λ later h. h; tells = λ k later. refl }
