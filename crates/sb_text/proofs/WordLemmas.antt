-- The first word of bytes that begin with no blank.
use Rattle.std.proofs.Common.{suc, subst, ◌≡◌, ◌∙◌, ℕ, ◌+◌, ◌<◌, Bool, not, false, List, [], ◌∷◌, ◌++◌, length, take, drop, get_or, ap, sym, refl, arith, true, cond}
use Rattle.std.specs.List.{position_or_len}
use Rattle.std.proofs.lemmas.Bool.{false≢true}
use Rattle.std.proofs.lemmas.List.{append_assoc, append-nil}
use Rattle.sb_text.specs.Lines.{is_blank}
use Rattle.sb_text.specs.Tokens.{Between, InWord, Lexemes, Next, Word, by_words, place_due, scan, words_of}

one_more : (n : ℕ) → suc n ≡ 1 + n
one_more n = omega arith

-- a word goes on up to the first blank, or to the end
abbrev WordTo : ℕ → List ℕ → List ℕ → ℕ → Type 0
WordTo place w bs n = scan by_words (InWord place w) bs ≡ Next place (Word (w ++ take n bs)) (words_of (drop n bs))

word_ends : (place : ℕ) (w : List ℕ) (b : ℕ) (bs : List ℕ) → is_blank b ≡ true → WordTo place w (b ∷ bs) 0
word_ends place w b bs h = rw (h) (ap (λ v. Next place (Word v) (scan by_words (Between (length (b ∷ bs))) bs)) (sym (append-nil w)))

word_on : (place : ℕ) (w : List ℕ) (b : ℕ) (bs : List ℕ) (n : ℕ) → is_blank b ≡ false → WordTo place (w ++ b ∷ []) bs n → WordTo place w (b ∷ bs) (suc n)
word_on place w b bs n h k =
    rw (h) (k ∙ ap (λ v. Next place (Word v) (words_of (drop n bs))) (append_assoc w (b ∷ []) (take n bs)))

word_to : (place : ℕ) (w bs : List ℕ) → WordTo place w bs (position_or_len is_blank bs)
word_to place w [] = ap (λ v. Next place (Word v) (words_of [])) (sym (append-nil w))
word_to place w (b ∷ bs) = by_first (is_blank b) refl (word_to place (w ++ b ∷ []) bs)
  where
    by_first : (t : Bool) → is_blank b ≡ t → WordTo place (w ++ b ∷ []) bs (position_or_len is_blank bs)
        → WordTo place w (b ∷ bs) (cond (not t) (1 + position_or_len is_blank bs) 0)
    by_first true t h = word_ends place w b bs t
    by_first false t h = subst (WordTo place w (b ∷ bs)) (one_more _) (word_on place w b bs (position_or_len is_blank bs) t h)

-- the first word of bytes that begin with none
abbrev FirstTo : ℕ → List ℕ → ℕ → Type 0
FirstTo end bs n = scan by_words (Between end) bs ≡ Next (length bs) (Word (take n bs)) (words_of (drop n bs))

first_to : (end b : ℕ) (bs : List ℕ) (n : ℕ) → is_blank b ≡ false → WordTo (length (b ∷ bs)) (b ∷ []) bs n → FirstTo end (b ∷ bs) (suc n)
first_to end b bs n h k = rw (h) k

pub words_at_first : (end : ℕ) (bs : List ℕ) → 0 < length bs → is_blank (get_or bs 0 0) ≡ false → FirstTo end bs (position_or_len is_blank bs)
words_at_first end [] h k = absurd (omega arith)
words_at_first end (b ∷ bs) h k = at_place (not (is_blank b)) (ap not k)
  where
    at_place : (t : Bool) → t ≡ true → FirstTo end (b ∷ bs) (cond t (1 + position_or_len is_blank bs) 0)
    at_place true e =
        subst (FirstTo end (b ∷ bs)) (one_more _) (first_to end b bs (position_or_len is_blank bs) k (word_to (length (b ∷ bs)) (b ∷ []) bs))
    at_place false e = absurd (false≢true e)

-- the place of the first word
pub place_begun : (line begun : List ℕ) → scan by_words (Between (length line)) begun ≡ words_of line → 0 < length begun
    → is_blank (get_or begun 0 0) ≡ false → length begun ≡ place_due (words_of line)
place_begun line begun e h k = sym (ap place_due (words_at_first (length line) begun h k)) ∙ ap place_due e
