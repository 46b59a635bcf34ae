-- The first star of some cells.
use Rattle.std.specs.Prelude.{Option, None, Some, position}
use Rattle.std.specs.List.{slice_split, onto_first, prefix_len}
use Rattle.std.proofs.Common.{◌≡◌, ◌∙◌, ◌≤◌, ℕ, ◌+◌, suc, Bool, true, false, not, cond, List, [], ◌∷◌, ltb, length, take, drop, refl, ap, sym, arith}
use Rattle.std.proofs.lemmas.Bool.{false≢true, lt-ltb, ltb-true}
use Rattle.std.proofs.lemmas.Bool.Decides.{nat_tests}
use Rattle.sb_rule.specs.Chunks.{is_any}
use Rattle.sb_rule.specs.declared.cells.Cell.{Cell}
use Rattle.sb_rule.specs.declared.cells.Cell.TheVariants.{Lit, One, Any}

abbrev before_star : List Cell → ℕ
before_star cells = prefix_len (λ c. not (is_any c)) cells

-- the runs, by the number of cells before the first star
abbrev parts_at : List Cell → ℕ → List (List Cell)
parts_at cells n = cond (ltb n (length cells)) (take n cells ∷ slice_split is_any (drop 1 (drop n cells))) (cells ∷ [])

cut_more : (c : Cell) (cells : List Cell) → parts_at (c ∷ cells) (1 + before_star cells) ≡ onto_first c (parts_at cells (before_star cells))
cut_more c cells =
    let n = before_star cells in
    let e : 1 + n ≡ suc n = omega arith in
    let f : ltb (suc n) (suc (length cells)) ≡ ltb n (length cells) = grind (arith, nat_tests) in
    ap (parts_at (c ∷ cells)) e
    ∙ ap (λ b. cond b ((c ∷ take n cells) ∷ slice_split is_any (drop 1 (drop n cells))) ((c ∷ cells) ∷ [])) f
    ∙ by (ltb n (length cells)) (take n cells) (slice_split is_any (drop 1 (drop n cells)))
  where
    by : (b : Bool) (run : List Cell) (runs : List (List Cell)) → cond b ((c ∷ run) ∷ runs) ((c ∷ cells) ∷ []) ≡ onto_first c (cond b (run ∷ runs) (cells ∷ []))
    by true run runs = refl
    by false run runs = refl

cut_at : (cells : List Cell) → slice_split is_any cells ≡ parts_at cells (before_star cells)
cut_at [] = refl
cut_at (Any ∷ cells) =
    let e : ltb 0 (suc (length cells)) ≡ true = lt-ltb 0 (suc (length cells)) (omega arith) in
    ap (λ b. cond b ([] ∷ slice_split is_any cells) ((Any ∷ cells) ∷ [])) (sym e)
cut_at (One ∷ cells) = ap (onto_first One) (cut_at cells) ∙ sym (cut_more One cells)
cut_at (Lit u ∷ cells) = ap (onto_first (Lit u)) (cut_at cells) ∙ sym (cut_more (Lit u) cells)

abbrev is_some_place : Option ℕ → Bool
is_some_place None = false
is_some_place (Some n) = true

abbrev place_in : Option ℕ → ℕ
place_in None = 0
place_in (Some n) = n

none_step : (b : Bool) (n : ℕ) (a others : List (List Cell)) → cond b (Some n) None ≡ None → cond b a others ≡ others
none_step true n a others h = absurd (false≢true (sym (ap is_some_place h)))
none_step false n a others h = refl

some_step : (b : Bool) (n at : ℕ) (f : ℕ → List (List Cell)) (others : List (List Cell)) → cond b (Some n) None ≡ Some at → cond b (f n) others ≡ f at
some_step true n at f others h = ap (λ o. f (place_in o)) h
some_step false n at f others h = absurd (false≢true (ap is_some_place h))

pub no_star : (cells : List Cell) → position is_any cells ≡ None → slice_split is_any cells ≡ cells ∷ []
no_star cells h =
    let n = before_star cells in
    cut_at cells ∙ none_step (ltb n (length cells)) n (take n cells ∷ slice_split is_any (drop 1 (drop n cells))) (cells ∷ []) h

pub first_star : (cells : List Cell) (at : ℕ) → position is_any cells ≡ Some at → slice_split is_any cells ≡ take at cells ∷ slice_split is_any (drop 1 (drop at cells))
first_star cells at h =
    let n = before_star cells in
    cut_at cells ∙ some_step (ltb n (length cells)) n at (λ k. take k cells ∷ slice_split is_any (drop 1 (drop k cells))) (cells ∷ []) h

below_step : (b : Bool) (n at size : ℕ) → ltb n size ≡ b → cond b (Some n) None ≡ Some at → at + 1 ≤ size
below_step true n at size e h = let p : n ≡ at = ap place_in h in omega (arith, p, ltb-true n size e)
below_step false n at size e h = absurd (false≢true (ap is_some_place h))

pub star_below : (cells : List Cell) (at : ℕ) → position is_any cells ≡ Some at → at + 1 ≤ length cells
star_below cells at h = let n = before_star cells in below_step (ltb n (length cells)) n at (length cells) refl h
