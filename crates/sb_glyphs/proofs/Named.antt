-- A token is named by its first glyphs alone.
use Rattle.std.proofs.Common.{◌≡◌, ◌∙◌, ℕ, ◌+◌, ◌≤◌, zero, suc, Bool, true, false, not, cond, nat_lt, List, [], ◌∷◌, ◌++◌, length, take, refl, sym, ap, ap₂, arith}
use Rattle.std.proofs.lemmas.Bool.Decides.{nat_tests}
use Rattle.std.proofs.lemmas.List.{take-take, length-take}
use Rattle.std.specs.List.{prefix_len}
use Rattle.sb_glyphs.specs.declared.glyphs.Glyph.{Glyph}
use Rattle.sb_glyphs.specs.Excerpts.{dots}
use Rattle.sb_glyphs.specs.Glyphs.{shown}
use Rattle.sb_glyphs.specs.Tokens.{is_char, is_blank_glyph, until, first_token, quoted, quoted_token}

-- two lists agree on their first 41
abbrev Alike : List Glyph → List Glyph → Type 0
Alike xs ys = take 41 xs ≡ take 41 ys

-- then they are named alike
alike_quoted : (xs ys : List Glyph) → Alike xs ys → quoted xs ≡ quoted ys
alike_quoted xs ys h =
    let front : take 40 xs ≡ take 40 ys = sym (take-take 40 41 xs (omega arith)) ∙ ap (take 40) h ∙ take-take 40 41 ys (omega arith) in
    let more : nat_lt 40 (length xs) ≡ nat_lt 40 (length ys) = sym (longer xs) ∙ ap (λ l. nat_lt 40 (length l)) h ∙ longer ys in
    ap₂ (λ l b. 34 ∷ shown l ++ dots b ++ 34 ∷ []) front more
  where
    longer : (l : List Glyph) → nat_lt 40 (length (take 41 l)) ≡ nat_lt 40 (length l)
    longer l = let e = length-take 41 l in grind (arith, nat_tests)

pub quoted_front : (xs : List Glyph) → quoted (take 41 xs) ≡ quoted xs
quoted_front xs = alike_quoted (take 41 xs) xs (take-take 41 41 xs (omega arith))

-- what is before the first that passes a test, of the first m
until_front : (test : Glyph → Bool) (k m : ℕ) (xs : List Glyph) → k ≤ m → take k (until test (take m xs)) ≡ take k (until test xs)
until_front test zero m xs h = refl
until_front test (suc k) zero xs h = absurd (omega (arith, h))
until_front test (suc k) (suc m) [] h = refl
until_front test (suc k) (suc m) (x ∷ xs) h = by_test (test x) (prefix_len (λ glyph. not (test glyph)) (take m xs)) (prefix_len (λ glyph. not (test glyph)) xs) (ap (λ l. x ∷ l) (until_front test k m xs (omega (arith, h))))
  where
    one : (n : ℕ) → 1 + n ≡ suc n
    one n = omega arith

    by_test : (b : Bool) (p q : ℕ) → x ∷ take k (take p (take m xs)) ≡ x ∷ take k (take q xs)
        → take (suc k) (take (cond (not b) (1 + p) 0) (x ∷ take m xs)) ≡ take (suc k) (take (cond (not b) (1 + q) 0) (x ∷ xs))
    by_test true p q e = refl
    by_test false p q e = ap (λ n. take (suc k) (take n (x ∷ take m xs))) (one p) ∙ e ∙ ap (λ n. take (suc k) (take n (x ∷ xs))) (sym (one q))

token_front : (m : ℕ) (xs : List Glyph) → 42 ≤ m → Alike (first_token (take m xs)) (first_token xs)
token_front zero xs h = absurd (omega (arith, h))
token_front (suc m) [] h = refl
token_front (suc m) (x ∷ xs) h = by_quote (is_char 34 x) _ _ _ _
    (until_front (is_char 34) 41 m xs (omega (arith, h))) (until_front is_blank_glyph 41 (suc m) (x ∷ xs) (omega (arith, h)))
  where
    by_quote : (b : Bool) (p q r s : List Glyph) → take 41 p ≡ take 41 q → take 41 r ≡ take 41 s → take 41 (cond b p r) ≡ take 41 (cond b q s)
    by_quote true p q r s e f = e
    by_quote false p q r s e f = f

pub named_front : (m : ℕ) (xs : List Glyph) → 42 ≤ m → quoted_token (take m xs) ≡ quoted_token xs
named_front m xs h = alike_quoted (first_token (take m xs)) (first_token xs) (token_front m xs h)
