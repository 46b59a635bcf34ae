-- What quoted tokens hold, in a text that is UTF-8.
use Rattle.std.proofs.Common.{◌≡◌, refl, sym, ap, ◌∙◌, subst, arith, ℕ, zero, suc, ◌+◌, ◌-◌, ◌<◌, ◌≤◌, ◌==◌, nat_lt, Bool, true, false, cond, List, [], ◌∷◌, ◌++◌, length, take, drop, slice_index, None, Some}
use Rattle.std.proofs.Math.Seq.{get_or-append_seam, take-append_seam}
use Rattle.std.proofs.lemmas.Bool.Decides.{nat_tests}
use Rattle.std.proofs.lemmas.List.{append_assoc, append-nil, drop_at, length-append}
use Rattle.std.proofs.lemmas.Str.{IsCharBoundary-after_ascii, IsCharBoundary-before_ascii, IsUtf8-drop, IsUtf8-from_is_utf8, IsUtf8-nil, IsUtf8-take, is_utf8-from_IsUtf8, utf8_valid_len_le}
use Rattle.std.specs.List.{list_all, onto_first}
use Rattle.std.specs.Str.{IsUtf8, is_utf8}
use Rattle.std.specs.Str.Lossy.{utf8_valid_len, valid_len_up_to}
use Rattle.sb_text.specs.Lines.{is_blank, is_skipped, has_cr, without_cr, raw_lines, lines_from}
use Rattle.sb_text.specs.TokenLaws.{is_quoted_byte, is_quoted_text, has_quoted_text, QuotedTokensAreText}
use Rattle.sb_text.specs.Tokens.{Word, Quoted, Next, Spot, Between, InWord, InQuote, AfterQuote, broken, by_tokens, lexemes, scan}
use Rattle.sb_text.specs.Utf8.{first_place, not_utf8_place, place_after}
use Rattle.sb_text.proofs.Conjunctions.{both, and_true}
use Rattle.sb_text.proofs.TokenLaws.{all_more, quoted_byte}

-- bytes without a line on which they are not UTF-8 are UTF-8

up_to_le : (bs : List ℕ) (m : ℕ) → valid_len_up_to bs m ≤ m
up_to_le bs zero = omega arith
up_to_le bs (suc m) = by_front (is_utf8 (take (suc m) bs)) (up_to_le bs m)
  where
    by_front : (b : Bool) → valid_len_up_to bs m ≤ m → cond b (suc m) (valid_len_up_to bs m) ≤ suc m
    by_front true h = omega arith
    by_front false h = omega (arith, h)

take_none : (bs : List ℕ) → take 0 bs ≡ []
take_none [] = refl
take_none (b ∷ bs) = refl

front_is_text : (bs : List ℕ) (m : ℕ) → valid_len_up_to bs m ≡ m → IsUtf8 (take m bs)
front_is_text bs zero e = subst IsUtf8 (sym (take_none bs)) IsUtf8-nil
front_is_text bs (suc m) e = by_front (is_utf8 (take (suc m) bs)) refl (up_to_le bs m) e
  where
    by_front : (b : Bool) → is_utf8 (take (suc m) bs) ≡ b → valid_len_up_to bs m ≤ m → cond b (suc m) (valid_len_up_to bs m) ≡ suc m → IsUtf8 (take (suc m) bs)
    by_front true t l e = IsUtf8-from_is_utf8 (take (suc m) bs) t
    by_front false t l e = absurd (omega (arith, e, l))

whole_front : (bs : List ℕ) → utf8_valid_len bs ≡ length bs → IsUtf8 (take (length bs) bs)
unfolding utf8_valid_len
whole_front bs e = front_is_text bs (length bs) e

take_all : (bs : List ℕ) → take (length bs) bs ≡ bs
take_all bs = ap (take (length bs)) (sym (append-nil bs)) ∙ take-append_seam bs []

pub whole_text : (bs : List ℕ) → not_utf8_place bs ≡ None → IsUtf8 bs
whole_text bs h = by_length (nat_lt (utf8_valid_len bs) (length bs)) refl h
  where
    by_length : (b : Bool) → nat_lt (utf8_valid_len bs) (length bs) ≡ b
        → cond b (Some (place_after first_place (take (utf8_valid_len bs) bs))) None ≡ None → IsUtf8 bs
    by_length true t e = absurd cc
    by_length false t e =
        let most = utf8_valid_len_le bs in
        let same : utf8_valid_len bs ≡ length bs = grind (arith, nat_tests, t, most) in
        subst IsUtf8 (take_all bs) (whole_front bs same)

-- a text that is cut at an ASCII byte

pub cut : (a : List ℕ) (c : ℕ) (b : List ℕ) → c < 128 → IsUtf8 (a ++ c ∷ b) → IsUtf8 a × IsUtf8 b
cut a c b small u =
    let within : length a < length (a ++ c ∷ b) = omega (arith, length-append a (c ∷ b)) in
    let here : slice_index (a ++ c ∷ b) (length a) ≡ c = get_or-append_seam a c b 0 in
    let ascii : slice_index (a ++ c ∷ b) (length a) < 128 = omega (arith, here, small) in
    let longer : length (a ++ c ∷ []) ≡ length a + 1 = length-append a (c ∷ []) in
    let rest : drop (length a + 1) (a ++ c ∷ b) ≡ b =
    ap (drop (length a + 1)) (sym (append_assoc a (c ∷ []) b)) ∙ drop_at (a ++ c ∷ []) b (length a + 1) longer in (
      subst IsUtf8 (take-append_seam a (c ∷ b)) (IsUtf8-take (a ++ c ∷ b) (length a) u (IsCharBoundary-before_ascii (a ++ c ∷ b) (length a) within ascii)),
      subst IsUtf8 rest (IsUtf8-drop (a ++ c ∷ b) (length a + 1) u (IsCharBoundary-after_ascii (a ++ c ∷ b) (length a) u within ascii)),
    )

-- lines

-- lines with these bytes before the first
abbrev onto : List ℕ → List (List ℕ) → List (List ℕ)
onto held [] = held ∷ []
onto held (line ∷ lines) = (held ++ line) ∷ lines

onto_none : (lines : List (List ℕ)) → list_all is_utf8 (onto [] lines) ≡ true → list_all is_utf8 lines ≡ true
onto_none [] h = refl
onto_none (line ∷ lines) h = h

onto_more : (held : List ℕ) (b : ℕ) (lines : List (List ℕ)) → list_all is_utf8 (onto (held ++ b ∷ []) lines) ≡ true
    → list_all is_utf8 (onto held (onto_first b lines)) ≡ true
onto_more held b [] h = h
onto_more held b (line ∷ lines) h = subst (λ l. list_all is_utf8 (l ∷ lines) ≡ true) (append_assoc held (b ∷ []) line) h

lf_small : (b : ℕ) → (b == 10) ≡ true → b < 128
lf_small b k = grind (arith, nat_tests)

lines_are_text : (held bs : List ℕ) → IsUtf8 (held ++ bs) → list_all is_utf8 (onto held (raw_lines bs)) ≡ true
lines_are_text held [] h = and_true _ _ (is_utf8-from_IsUtf8 held (subst IsUtf8 (append-nil held) h)) refl
lines_are_text held (b ∷ bs) h = by_first (b == 10) refl (lines_are_text [] bs) (lines_are_text (held ++ b ∷ []) bs)
  where
    by_first : (t : Bool) → (b == 10) ≡ t → (IsUtf8 bs → list_all is_utf8 (onto [] (raw_lines bs)) ≡ true)
        → (IsUtf8 ((held ++ b ∷ []) ++ bs) → list_all is_utf8 (onto (held ++ b ∷ []) (raw_lines bs)) ≡ true)
        → list_all is_utf8 (onto held (cond t ([] ∷ raw_lines bs) (onto_first b (raw_lines bs)))) ≡ true
    by_first true k e f =
        let parts = cut held b bs (lf_small b k) h in
        and_true _ _ (is_utf8-from_IsUtf8 (held ++ []) (subst IsUtf8 (sym (append-nil held)) parts.0)) (onto_none (raw_lines bs) (e parts.1))
    by_first false k e f = onto_more held b (raw_lines bs) (f (subst IsUtf8 (sym (append_assoc held (b ∷ []) bs)) h))

text_without_cr : (line : List ℕ) → IsUtf8 line → IsUtf8 (without_cr line)
text_without_cr line u = by_end (has_cr line) refl
  where
    by_end : (t : Bool) → has_cr line ≡ t → IsUtf8 (cond t (take (length line - 1) line) line)
    by_end true k =
        let some = (both (nat_lt 0 (length line)) (slice_index line (length line - 1) == 13) k).0 in
        let last = (both (nat_lt 0 (length line)) (slice_index line (length line - 1) == 13) k).1 in
        let within : length line - 1 < length line = grind (arith, nat_tests, some) in
        let ascii : slice_index line (length line - 1) < 128 = grind (arith, nat_tests, last) in
        IsUtf8-take line (length line - 1) u (IsCharBoundary-before_ascii line (length line - 1) within ascii)
    by_end false k = u

-- tokens

blank_small : (b : ℕ) → is_blank b ≡ true → b < 128
blank_small b k = grind (arith, nat_tests)

quote_small : (b : ℕ) → (b == 34) ≡ true → b < 128
quote_small b k = grind (arith, nat_tests)

-- what is held at a spot, and the rest of the line, are text
abbrev Holds : Spot → List ℕ → Type 0
Holds (Between end) line = IsUtf8 line
Holds (InWord place w) line = IsUtf8 (w ++ line)
Holds (InQuote place q) line = IsUtf8 (q ++ line) × (list_all is_quoted_byte q ≡ true)
Holds (AfterQuote place q) line = (is_quoted_text (Quoted q) ≡ true) × IsUtf8 line

-- so is what the quoted tokens from there on hold
abbrev IsText : Spot → List ℕ → Type 0
IsText p line = list_all is_quoted_text (lexemes (scan by_tokens p line)) ≡ true

text_from : (p : Spot) (line : List ℕ) → Holds p line → IsText p line
text_from (Between end) [] h = refl
text_from (InWord place w) [] h = refl
text_from (InQuote place q) [] h = refl
text_from (AfterQuote place q) [] h = and_true _ _ h.0 refl
text_from (Between end) (b ∷ line) h =
    by_first (is_blank b) (b == 34) refl refl (text_from (Between end) line) (text_from (InQuote (length (b ∷ line)) []) line)
    (text_from (InWord (length (b ∷ line)) (b ∷ [])) line)
  where
    by_first : (s t : Bool) → is_blank b ≡ s → (b == 34) ≡ t
        → (Holds (Between end) line → IsText (Between end) line)
        → (Holds (InQuote (length (b ∷ line)) []) line → IsText (InQuote (length (b ∷ line)) []) line)
        → (Holds (InWord (length (b ∷ line)) (b ∷ [])) line → IsText (InWord (length (b ∷ line)) (b ∷ [])) line)
        → list_all is_quoted_text (lexemes (cond s (scan by_tokens (Between end) line)
        (cond t (scan by_tokens (InQuote (length (b ∷ line)) []) line) (scan by_tokens (InWord (length (b ∷ line)) (b ∷ [])) line)))) ≡ true
    by_first true t k l e f g = e (cut [] b line (blank_small b k) h).1
    by_first false true k l e f g = f ((cut [] b line (quote_small b l) h).1, refl)
    by_first false false k l e f g = g h
text_from (InWord place w) (b ∷ line) h =
    by_first (is_blank b) (b == 34) refl (text_from (Between (length (b ∷ line))) line) (text_from (InWord place (w ++ b ∷ [])) line)
  where
    by_first : (s t : Bool) → is_blank b ≡ s
        → (Holds (Between (length (b ∷ line))) line → IsText (Between (length (b ∷ line))) line)
        → (Holds (InWord place (w ++ b ∷ [])) line → IsText (InWord place (w ++ b ∷ [])) line)
        → list_all is_quoted_text (lexemes (cond s (Next place (Word w) (scan by_tokens (Between (length (b ∷ line))) line))
        (cond t (broken place) (scan by_tokens (InWord place (w ++ b ∷ [])) line)))) ≡ true
    by_first true t k e g = e (cut w b line (blank_small b k) h).1
    by_first false true k e g = refl
    by_first false false k e g = g (subst IsUtf8 (sym (append_assoc w (b ∷ []) line)) h)
text_from (InQuote place q) (b ∷ line) h =
    by_first (b == 34) (nat_lt b 32) refl refl (text_from (AfterQuote place q) line) (text_from (InQuote place (q ++ b ∷ [])) line)
  where
    by_first : (s t : Bool) → (b == 34) ≡ s → nat_lt b 32 ≡ t
        → (Holds (AfterQuote place q) line → IsText (AfterQuote place q) line)
        → (Holds (InQuote place (q ++ b ∷ [])) line → IsText (InQuote place (q ++ b ∷ [])) line)
        → list_all is_quoted_text (lexemes (cond s (scan by_tokens (AfterQuote place q) line)
        (cond t (broken place) (scan by_tokens (InQuote place (q ++ b ∷ [])) line)))) ≡ true
    by_first true t k l e g =
        let parts = cut q b line (quote_small b k) h.0 in
        e (and_true _ _ (is_utf8-from_IsUtf8 q parts.0) h.1, parts.1)
    by_first false true k l e g = refl
    by_first false false k l e g = g (subst IsUtf8 (sym (append_assoc q (b ∷ []) line)) h.0, all_more is_quoted_byte q b h.1 (quoted_byte b k l))
text_from (AfterQuote place q) (b ∷ line) h = by_first (is_blank b) refl (text_from (Between (length (b ∷ line))) line)
  where
    by_first : (s : Bool) → is_blank b ≡ s → (Holds (Between (length (b ∷ line))) line → IsText (Between (length (b ∷ line))) line)
        → list_all is_quoted_text (lexemes (cond s (Next place (Quoted q) (scan by_tokens (Between (length (b ∷ line))) line)) (broken place))) ≡ true
    by_first true k e = and_true _ _ h.0 (e (cut [] b line (blank_small b k) h.1).1)
    by_first false k e = refl

saying_lines : (n : ℕ) (lines : List (List ℕ)) → list_all is_utf8 lines ≡ true → list_all has_quoted_text (lines_from n lines) ≡ true
saying_lines n [] h = refl
saying_lines n (line ∷ lines) h =
    let parts = both (is_utf8 line) (list_all is_utf8 lines) h in
    by_skip (is_skipped (without_cr line)) (text_from (Between (length (without_cr line))) (without_cr line) (text_without_cr line (IsUtf8-from_is_utf8 line parts.0))) (saying_lines (n + 1) lines parts.1)
  where
    by_skip : (t : Bool) → IsText (Between (length (without_cr line))) (without_cr line) → list_all has_quoted_text (lines_from (n + 1) lines) ≡ true
        → list_all has_quoted_text (cond t (lines_from (n + 1) lines) (record { number = n; text = without_cr line } ∷ lines_from (n + 1) lines)) ≡ true
    by_skip true here later = later
    by_skip false here later = and_true _ _ here later

pub quoted_text : QuotedTokensAreText
quoted_text text h = saying_lines 1 (raw_lines text) (onto_none (raw_lines text) (lines_are_text [] text (whole_text text h)))
