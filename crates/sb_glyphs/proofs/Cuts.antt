-- Cutting the first glyph off bytes.
use Rattle.std.proofs.Common.{◌≡◌, ◌∙◌, ℕ, ◌+◌, ◌-◌, ◌<◌, ◌≤◌, zero, suc, min, nat_lt, ◌==◌, true, false, List, [], ◌∷◌, ◌++◌, length, take, drop, None, Some, refl, sym, ap, ap₂, arith}
use Rattle.std.proofs.lemmas.List.{append_assoc, length-drop}
use Rattle.std.proofs.lemmas.Bool.{cond-true, cond-false}
use Rattle.std.proofs.lemmas.Bool.Decides.{nat_tests}
use Rattle.bstr.specs.Utf8.{decoded, good}
use Rattle.bstr.proofs.lemmas.PieceLemmas.{piece-bounds}
use Rattle.sb_glyphs.specs.Glyphs.{glyph_by, size_by, first_glyph, first_size, glyphs_after, glyphs_of}
use Rattle.sb_glyphs.specs.declared.glyphs.Glyph.{Glyph}
use Rattle.sb_glyphs.specs.declared.glyphs.Glyph.TheVariants.{Char, Byte}

after_drop : (n : ℕ) (bs : List ℕ) → glyphs_after n bs ≡ glyphs_of (drop n bs)
after_drop zero bs = refl
after_drop (suc n) [] = refl
after_drop (suc n) (b ∷ bs) = after_drop n bs

dropped : (n b : ℕ) (bs : List ℕ) → 1 ≤ n → drop (n - 1) bs ≡ drop n (b ∷ bs)
dropped zero b bs some = absurd (omega arith)
dropped (suc n) b bs some = ap (λ k. drop k bs) (omega arith)

pub size_within : (bs : List ℕ) (n : ℕ) → 0 < length bs → n ≡ (decoded bs).size → n ≤ length bs
size_within bs n some size = let bounds = piece-bounds bs some in omega (arith, size)

-- a character is first, and takes this many bytes
pub char_cut : (bs : List ℕ) (c n : ℕ) → 0 < length bs → (decoded bs).char ≡ Some c → n ≡ (decoded bs).size → glyphs_of bs ≡ Char c ∷ glyphs_of (drop n bs)
char_cut [] c n some char size = absurd (omega arith)
char_cut (b ∷ bs) c n some char size =
    let bounds = piece-bounds (b ∷ bs) some in
    let first : first_glyph (b ∷ bs) ≡ Char c = ap (λ o. glyph_by o b) char in
    let taken : first_size (b ∷ bs) ≡ n = ap (λ o. size_by o (decoded (b ∷ bs)).size) char ∙ sym size in
    let later : glyphs_after (first_size (b ∷ bs) - 1) bs ≡ glyphs_of (drop n (b ∷ bs)) =
    after_drop (first_size (b ∷ bs) - 1) bs ∙ ap glyphs_of (ap (λ k. drop (k - 1) bs) taken ∙ dropped n b bs (omega (arith, size))) in
    ap₂ (λ x xs. x ∷ xs) first later

-- no character is first: the first byte is a glyph
pub byte_cut : (b : ℕ) (bs : List ℕ) → (decoded (b ∷ bs)).char ≡ None → glyphs_of (b ∷ bs) ≡ Byte b ∷ glyphs_of bs
byte_cut b bs char =
    ap₂ (λ o k. glyph_by o b ∷ glyphs_after (k - 1) bs) char (ap (λ o. size_by o (decoded (b ∷ bs)).size) char)

pub char_shorter : (bs : List ℕ) (n : ℕ) → 0 < length bs → n ≡ (decoded bs).size → length (drop n bs) < length bs
char_shorter bs n some size = let bounds = piece-bounds bs some in omega (arith, size, length-drop n bs)

-- an ASCII byte is a character
ascii_decoded : (b : ℕ) (bs : List ℕ) → b < 128 → decoded (b ∷ bs) ≡ good b 1
ascii_decoded b bs low = cond-false _ _ _ (some (length bs)) ∙ cond-true _ _ _ (less b 128 low)
  where
    some : (n : ℕ) → (suc n == 0) ≡ false
    some n = grind (arith, nat_tests)

    less : (a c : ℕ) → a < c → nat_lt a c ≡ true
    less a c h = grind (arith, nat_tests)

pub ascii_cut : (b : ℕ) (bs : List ℕ) → b < 128 → glyphs_of (b ∷ bs) ≡ Char b ∷ glyphs_of bs
ascii_cut b bs low = ap (λ d. glyph_by d.char b ∷ glyphs_after (size_by d.char d.size - 1) bs) (ascii_decoded b bs low)

-- bytes have at most as many glyphs as they are
pub after_within : (n : ℕ) (bs : List ℕ) → length (glyphs_after n bs) ≤ length bs
after_within n [] = omega arith
after_within (suc n) (b ∷ bs) = let h = after_within n bs in omega (arith, h)
after_within zero (b ∷ bs) = let h = after_within (first_size (b ∷ bs) - 1) bs in omega (arith, h)

pub glyphs_counted : (bs : List ℕ) → min (length bs) (length (glyphs_of bs)) ≡ length (glyphs_of bs)
glyphs_counted bs = let h = after_within 0 bs in omega (arith, h)

-- one more of the first n
pub taken_next : (done rest after all : List Glyph) (glyph : Glyph) (n i : ℕ) → i < n → rest ≡ glyph ∷ after → done ++ take (n - i) rest ≡ all
    → (done ++ glyph ∷ []) ++ take (n - (i + 1)) after ≡ all
taken_next done rest after all glyph n i h cut before =
    let e : suc (n - (i + 1)) ≡ n - i = omega (arith, h) in
    append_assoc done (glyph ∷ []) (take (n - (i + 1)) after) ∙ ap (λ k. done ++ take k (glyph ∷ after)) e ∙ ap (λ l. done ++ take (n - i) l) (sym cut) ∙ before

pub drop_next : {A : Type 0} (n i : ℕ) (x : A) (xs : List A) → i < n → drop (n - i) (x ∷ xs) ≡ drop (n - (i + 1)) xs
drop_next n i x xs h = let e : n - i ≡ suc (n - (i + 1)) = omega (arith, h) in ap (λ k. drop k (x ∷ xs)) e
