-- The laws of tokens.
use Rattle.std.proofs.Common.{◌≡◌, ◌∙◌, ℕ, ◌+◌, ◌*◌, ◌<◌, ◌≤◌, ◌==◌, nat_lt, Bool, true, false, not, cond, List, [], ◌∷◌, ◌++◌, length, ap, refl, sym, subst, slice_index, map, arith}
use Rattle.std.proofs.lemmas.Grind.{common_steps}
use Rattle.std.proofs.lemmas.Bool.{false≢true}
use Rattle.std.proofs.lemmas.Bool.Decides.{nat_tests}
use Rattle.std.proofs.lemmas.List.{append_assoc, append-nil}
use Rattle.std.specs.List.{list_all}
use Rattle.sb_text.specs.Lines.{is_blank, is_skipped}
use Rattle.sb_text.specs.Tokens.{Lexeme, Lexemes, Word, Quoted, Bad, Next, End, Spot, Between, InWord, InQuote, AfterQuote, broken, by_tokens, by_words, lexemes, scan, tokens_of}
use Rattle.sb_text.specs.TokenLaws.{is_some_word, is_word_byte, is_quoted_byte, is_writable, written_token, written_line, placed, is_parted, are_found, is_quotable, first_byte, WrittenTokensAreRead, TokenIsReadBeforeBlank, BrokenTokensAreBad, BlanksAreNothing, TokensAreFound, PlainLinesHaveWords, SayingLinesHaveTokens, FirstTokenSkips}
use Rattle.sb_text.proofs.Conjunctions.{both, and_true}

-- a blank at either end

-- the tokens do not depend on places
any_place : (m n : ℕ) (line : List ℕ) → lexemes (scan by_tokens (Between m) line) ≡ lexemes (scan by_tokens (Between n) line)
any_place m n [] = refl
any_place m n (b ∷ line) = by_first (is_blank b) (any_place m n line)
  where
    by_first : (t : Bool) → lexemes (scan by_tokens (Between m) line) ≡ lexemes (scan by_tokens (Between n) line)
        → lexemes (cond t (scan by_tokens (Between m) line) (cond (b == 34) (scan by_tokens (InQuote (length (b ∷ line)) []) line) (scan by_tokens (InWord (length (b ∷ line)) (b ∷ [])) line)))
        ≡ lexemes (cond t (scan by_tokens (Between n) line) (cond (b == 34) (scan by_tokens (InQuote (length (b ∷ line)) []) line) (scan by_tokens (InWord (length (b ∷ line)) (b ∷ [])) line)))
    by_first true e = e
    by_first false e = refl

-- the same spot with another place
abbrev placed_at : ℕ → Spot → Spot
placed_at n (Between end) = Between n
placed_at n (InWord place w) = InWord n w
placed_at n (InQuote place w) = InQuote n w
placed_at n (AfterQuote place w) = AfterQuote n w

abbrev Same : List ℕ → List ℕ → ℕ → Spot → Type 0
Same more line n p = lexemes (scan by_tokens (placed_at n p) more) ≡ lexemes (scan by_tokens p line)

last_blank : (b : ℕ) (p : Spot) (line : List ℕ) → is_blank b ≡ true → (n : ℕ) → Same (line ++ b ∷ []) line n p
last_blank b (Between m) [] h n = rw (h) refl
last_blank b (InWord m w) [] h n = rw (h) refl
last_blank b (InQuote m w) [] h n = by_byte (b == 34) (nat_lt b 32) refl
  where
    by_byte : (t u : Bool) → (b == 34) ≡ t → lexemes (cond t (Next n (Quoted w) (End 0)) (cond u (broken n) (broken n))) ≡ Bad ∷ []
    by_byte true u k = absurd (grind (arith, nat_tests, h, k))
    by_byte false true k = refl
    by_byte false false k = refl
last_blank b (AfterQuote m w) [] h n = rw (h) refl
last_blank b (Between m) (c ∷ line) h n =
    by_byte (is_blank c) (c == 34) (last_blank b (Between m) line h n)
    (last_blank b (InQuote (length (c ∷ line)) []) line h (length (c ∷ (line ++ b ∷ []))))
    (last_blank b (InWord (length (c ∷ line)) (c ∷ [])) line h (length (c ∷ (line ++ b ∷ []))))
  where
    more : ℕ
    more = length (c ∷ (line ++ b ∷ []))

    by_byte : (t u : Bool) → Same (line ++ b ∷ []) line n (Between m) → Same (line ++ b ∷ []) line more (InQuote (length (c ∷ line)) [])
        → Same (line ++ b ∷ []) line more (InWord (length (c ∷ line)) (c ∷ []))
        → lexemes (cond t (scan by_tokens (Between n) (line ++ b ∷ []))
        (cond u (scan by_tokens (InQuote more []) (line ++ b ∷ [])) (scan by_tokens (InWord more (c ∷ [])) (line ++ b ∷ []))))
        ≡ lexemes (cond t (scan by_tokens (Between m) line)
        (cond u (scan by_tokens (InQuote (length (c ∷ line)) []) line) (scan by_tokens (InWord (length (c ∷ line)) (c ∷ [])) line)))
    by_byte true u e f g = e
    by_byte false true e f g = f
    by_byte false false e f g = g
last_blank b (InWord m w) (c ∷ line) h n =
    by_byte (is_blank c) (c == 34) (last_blank b (Between (length (c ∷ line))) line h (length (c ∷ (line ++ b ∷ []))))
    (last_blank b (InWord m (w ++ c ∷ [])) line h n)
  where
    more : ℕ
    more = length (c ∷ (line ++ b ∷ []))

    by_byte : (t u : Bool) → Same (line ++ b ∷ []) line more (Between (length (c ∷ line))) → Same (line ++ b ∷ []) line n (InWord m (w ++ c ∷ []))
        → lexemes (cond t (Next n (Word w) (scan by_tokens (Between more) (line ++ b ∷ [])))
        (cond u (broken n) (scan by_tokens (InWord n (w ++ c ∷ [])) (line ++ b ∷ []))))
        ≡ lexemes (cond t (Next m (Word w) (scan by_tokens (Between (length (c ∷ line))) line)) (cond u (broken m) (scan by_tokens (InWord m (w ++ c ∷ [])) line)))
    by_byte true u e f = ap (λ (ts : List Lexeme). Word w ∷ ts) e
    by_byte false true e f = refl
    by_byte false false e f = f
last_blank b (InQuote m w) (c ∷ line) h n =
    by_byte (c == 34) (nat_lt c 32) (last_blank b (AfterQuote m w) line h n) (last_blank b (InQuote m (w ++ c ∷ [])) line h n)
  where
    by_byte : (t u : Bool) → Same (line ++ b ∷ []) line n (AfterQuote m w) → Same (line ++ b ∷ []) line n (InQuote m (w ++ c ∷ []))
        → lexemes (cond t (scan by_tokens (AfterQuote n w) (line ++ b ∷ [])) (cond u (broken n) (scan by_tokens (InQuote n (w ++ c ∷ [])) (line ++ b ∷ []))))
        ≡ lexemes (cond t (scan by_tokens (AfterQuote m w) line) (cond u (broken m) (scan by_tokens (InQuote m (w ++ c ∷ [])) line)))
    by_byte true u e f = e
    by_byte false true e f = refl
    by_byte false false e f = f
last_blank b (AfterQuote m w) (c ∷ line) h n =
    by_byte (is_blank c) (last_blank b (Between (length (c ∷ line))) line h (length (c ∷ (line ++ b ∷ []))))
  where
    more : ℕ
    more = length (c ∷ (line ++ b ∷ []))

    by_byte : (t : Bool) → Same (line ++ b ∷ []) line more (Between (length (c ∷ line)))
        → lexemes (cond t (Next n (Quoted w) (scan by_tokens (Between more) (line ++ b ∷ []))) (broken n))
        ≡ lexemes (cond t (Next m (Quoted w) (scan by_tokens (Between (length (c ∷ line))) line)) (broken m))
    by_byte true e = ap (λ (ts : List Lexeme). Quoted w ∷ ts) e
    by_byte false e = refl

first_blank : (b : ℕ) (line : List ℕ) → is_blank b ≡ true → lexemes (tokens_of (b ∷ line)) ≡ lexemes (tokens_of line)
first_blank b line h = rw (h) (any_place (length (b ∷ line)) (length line) line)

pub blanks : BlanksAreNothing
blanks b line h = (first_blank b line h, last_blank b (Between (length line)) line h (length (line ++ b ∷ [])))

-- tokens that are written are read

not_true : (a : Bool) → not a ≡ true → a ≡ false
not_true false h = refl
not_true true h = sym h

word_end : (place : ℕ) (w rest : List ℕ) → is_parted rest ≡ true → scan by_tokens (InWord place w) rest ≡ Next place (Word w) (tokens_of rest)
word_end place w [] h = refl
word_end place w (b ∷ rest) h = let k : is_blank b ≡ true = h in rw (k) refl

word_more : (place : ℕ) (w : List ℕ) (b : ℕ) (rest : List ℕ) → is_word_byte b ≡ true
    → scan by_tokens (InWord place w) (b ∷ rest) ≡ scan by_tokens (InWord place (w ++ b ∷ [])) rest
word_more place w b rest h =
    let k = not_true (is_blank b) (both _ _ h).0 in
    let l = not_true (b == 34) (both _ _ h).1 in
    rw (k, l) refl

word_run : (place : ℕ) (w v rest : List ℕ) → list_all is_word_byte v ≡ true → is_parted rest ≡ true
    → scan by_tokens (InWord place w) (v ++ rest) ≡ Next place (Word (w ++ v)) (tokens_of rest)
word_run place w [] rest h k = word_end place w rest k ∙ ap (λ v. Next place (Word v) (tokens_of rest)) (sym (append-nil w))
word_run place w (b ∷ v) rest h k =
    word_more place w b (v ++ rest) (both _ _ h).0
    ∙ word_run place (w ++ b ∷ []) v rest (both _ _ h).1 k
    ∙ ap (λ v. Next place (Word v) (tokens_of rest)) (append_assoc w (b ∷ []) v)

quote_end : (place : ℕ) (q rest : List ℕ) → is_parted rest ≡ true → scan by_tokens (AfterQuote place q) rest ≡ Next place (Quoted q) (tokens_of rest)
quote_end place q [] h = refl
quote_end place q (b ∷ rest) h = let k : is_blank b ≡ true = h in rw (k) refl

quote_more : (place : ℕ) (q : List ℕ) (b : ℕ) (rest : List ℕ) → is_quoted_byte b ≡ true
    → scan by_tokens (InQuote place q) (b ∷ rest) ≡ scan by_tokens (InQuote place (q ++ b ∷ [])) rest
quote_more place q b rest h =
    let k = not_true (b == 34) (both _ _ h).0 in
    let l = not_true (nat_lt b 32) (both _ _ h).1 in
    rw (k, l) refl

quote_run : (place : ℕ) (q v rest : List ℕ) → list_all is_quoted_byte v ≡ true
    → scan by_tokens (InQuote place q) (v ++ 34 ∷ rest) ≡ scan by_tokens (AfterQuote place (q ++ v)) rest
quote_run place q [] rest h = ap (λ v. scan by_tokens (AfterQuote place v) rest) (sym (append-nil q))
quote_run place q (b ∷ v) rest h =
    quote_more place q b (v ++ 34 ∷ rest) (both _ _ h).0
    ∙ quote_run place (q ++ b ∷ []) v rest (both _ _ h).1
    ∙ ap (λ v. scan by_tokens (AfterQuote place v) rest) (append_assoc q (b ∷ []) v)

word_begin : (end b : ℕ) (rest : List ℕ) → is_word_byte b ≡ true
    → scan by_tokens (Between end) (b ∷ rest) ≡ scan by_tokens (InWord (length (b ∷ rest)) (b ∷ [])) rest
word_begin end b rest h =
    let k = not_true (is_blank b) (both _ _ h).0 in
    let l = not_true (b == 34) (both _ _ h).1 in
    rw (k, l) refl

token_read : (end : ℕ) (token : Lexeme) (rest : List ℕ) → is_writable token ≡ true → is_parted rest ≡ true
    → scan by_tokens (Between end) (written_token token ++ rest) ≡ Next (length (written_token token ++ rest)) token (tokens_of rest)
token_read end (Word []) rest h k = absurd (false≢true h)
token_read end (Word (b ∷ w)) rest h k =
    word_begin end b (w ++ rest) (both _ _ h).0 ∙ word_run (length (b ∷ (w ++ rest))) (b ∷ []) w rest (both _ _ h).1 k
token_read end (Quoted q) rest h k =
    let place = length (34 ∷ ((q ++ 34 ∷ []) ++ rest)) in
    ap (scan by_tokens (InQuote place [])) (append_assoc q (34 ∷ []) rest) ∙ quote_run place [] q rest h ∙ quote_end place q rest k
token_read end Bad rest h k = absurd (false≢true h)

written_from : (end : ℕ) (token : Lexeme) (tokens : List Lexeme) → list_all is_writable (token ∷ tokens) ≡ true
    → scan by_tokens (Between end) (written_line (token ∷ tokens)) ≡ placed (token ∷ tokens)
written_from end token [] h =
    let e = sym (append-nil (written_token token)) in
    ap (scan by_tokens (Between end)) e ∙ token_read end token [] (both _ _ h).0 refl ∙ ap (λ bytes. Next (length bytes) token (End 0)) (sym e)
written_from end token (next ∷ tokens) h =
    token_read end token (32 ∷ written_line (next ∷ tokens)) (both _ _ h).0 refl
    ∙ ap (Next (length (written_line (token ∷ next ∷ tokens))) token) (written_from (length (32 ∷ written_line (next ∷ tokens))) next tokens (both _ _ h).1)

pub written : WrittenTokensAreRead
written [] h = refl
written (token ∷ tokens) h = written_from (length (written_line (token ∷ tokens))) token tokens h

pub before_blank : TokenIsReadBeforeBlank
before_blank token b rest h k = token_read (length (written_token token ++ b ∷ rest)) token (b ∷ rest) h k

-- tokens that break the rules

word_broken : (place : ℕ) (w v rest : List ℕ) → list_all is_word_byte v ≡ true → scan by_tokens (InWord place w) (v ++ 34 ∷ rest) ≡ broken place
word_broken place w [] rest h = refl
word_broken place w (b ∷ v) rest h = word_more place w b (v ++ 34 ∷ rest) (both _ _ h).0 ∙ word_broken place (w ++ b ∷ []) v rest (both _ _ h).1

broken_word : (w rest : List ℕ) → is_writable (Word w) ≡ true → lexemes (tokens_of (w ++ 34 ∷ rest)) ≡ Bad ∷ []
broken_word [] rest h = absurd (false≢true h)
broken_word (b ∷ w) rest h =
    let place = length (b ∷ (w ++ 34 ∷ rest)) in
    ap lexemes (word_begin place b (w ++ 34 ∷ rest) (both _ _ h).0 ∙ word_broken place (b ∷ []) w rest (both _ _ h).1)

quote_open : (place : ℕ) (q v : List ℕ) → list_all is_quoted_byte v ≡ true → scan by_tokens (InQuote place q) v ≡ broken place
quote_open place q [] h = refl
quote_open place q (b ∷ v) h = quote_more place q b v (both _ _ h).0 ∙ quote_open place (q ++ b ∷ []) v (both _ _ h).1

quote_low : (place : ℕ) (q rest : List ℕ) (c : ℕ) → c < 32 → scan by_tokens (InQuote place q) (c ∷ rest) ≡ broken place
quote_low place q rest c h =
    let k : (c == 34) ≡ false = grind (arith, nat_tests) in
    let l : nat_lt c 32 ≡ true = grind (arith, nat_tests) in
    rw (k, l) refl

quote_broken : (place : ℕ) (q v rest : List ℕ) (c : ℕ) → list_all is_quoted_byte v ≡ true → c < 32
    → scan by_tokens (InQuote place q) (v ++ c ∷ rest) ≡ broken place
quote_broken place q [] rest c h k = quote_low place q rest c k
quote_broken place q (b ∷ v) rest c h k = quote_more place q b (v ++ c ∷ rest) (both _ _ h).0 ∙ quote_broken place (q ++ b ∷ []) v rest c (both _ _ h).1 k

quote_met : (place : ℕ) (q rest : List ℕ) (c : ℕ) → is_blank c ≡ false → scan by_tokens (AfterQuote place q) (c ∷ rest) ≡ broken place
quote_met place q rest c h = rw (h) refl

pub broken_tokens : BrokenTokensAreBad
broken_tokens = (
  broken_word,
  λ q h. ap lexemes (quote_open (length (34 ∷ q)) [] q h),
  λ q rest c h k. ap lexemes (quote_broken (length (34 ∷ (q ++ c ∷ rest))) [] q rest c h k),
  λ q rest c h k. ap lexemes (quote_run (length (34 ∷ (q ++ 34 ∷ c ∷ rest))) [] q (c ∷ rest) h ∙ quote_met (length (34 ∷ (q ++ 34 ∷ c ∷ rest))) q rest c k),
)

-- each token can be written

abbrev is_sound : Spot → Bool
is_sound (Between end) = true
is_sound (InWord place w) = is_writable (Word w)
is_sound (InQuote place q) = is_writable (Quoted q)
is_sound (AfterQuote place q) = is_writable (Quoted q)

pub all_more : (p : ℕ → Bool) (w : List ℕ) (b : ℕ) → list_all p w ≡ true → p b ≡ true → list_all p (w ++ b ∷ []) ≡ true
all_more p [] b h k = and_true _ _ k refl
all_more p (c ∷ w) b h k = and_true _ _ (both _ _ h).0 (all_more p w b (both _ _ h).1 k)

some_more : (w : List ℕ) (b : ℕ) → is_some_word (w ++ b ∷ []) ≡ true
some_more [] b = refl
some_more (c ∷ w) b = refl

word_byte : (b : ℕ) → is_blank b ≡ false → (b == 34) ≡ false → is_word_byte b ≡ true
word_byte b k l = rw (k, l) refl

pub quoted_byte : (b : ℕ) → (b == 34) ≡ false → nat_lt b 32 ≡ false → is_quoted_byte b ≡ true
quoted_byte b k l = rw (k, l) refl

found_from : (p : Spot) (line : List ℕ) → is_sound p ≡ true → are_found (scan by_tokens p line) ≡ true
found_from (Between end) [] h = refl
found_from (InWord place w) [] h = and_true _ _ h refl
found_from (InQuote place q) [] h = refl
found_from (AfterQuote place q) [] h = and_true _ _ h refl
found_from (Between end) (b ∷ line) h =
    by_first (is_blank b) (b == 34) refl refl (found_from (Between end) line refl) (found_from (InQuote (length (b ∷ line)) []) line refl)
    (found_from (InWord (length (b ∷ line)) (b ∷ [])) line)
  where
    by_first : (s t : Bool) → is_blank b ≡ s → (b == 34) ≡ t
        → are_found (scan by_tokens (Between end) line) ≡ true → are_found (scan by_tokens (InQuote (length (b ∷ line)) []) line) ≡ true
        → (is_sound (InWord (length (b ∷ line)) (b ∷ [])) ≡ true → are_found (scan by_tokens (InWord (length (b ∷ line)) (b ∷ [])) line) ≡ true)
        → are_found (cond s (scan by_tokens (Between end) line)
        (cond t (scan by_tokens (InQuote (length (b ∷ line)) []) line) (scan by_tokens (InWord (length (b ∷ line)) (b ∷ [])) line))) ≡ true
    by_first true t k l e f g = e
    by_first false true k l e f g = f
    by_first false false k l e f g = g (and_true _ _ (word_byte b k l) refl)
found_from (InWord place w) (b ∷ line) h =
    by_first (is_blank b) (b == 34) refl refl (found_from (Between (length (b ∷ line))) line refl) (found_from (InWord place (w ++ b ∷ [])) line)
  where
    by_first : (s t : Bool) → is_blank b ≡ s → (b == 34) ≡ t
        → are_found (scan by_tokens (Between (length (b ∷ line))) line) ≡ true
        → (is_sound (InWord place (w ++ b ∷ [])) ≡ true → are_found (scan by_tokens (InWord place (w ++ b ∷ [])) line) ≡ true)
        → are_found (cond s (Next place (Word w) (scan by_tokens (Between (length (b ∷ line))) line)) (cond t (broken place) (scan by_tokens (InWord place (w ++ b ∷ [])) line))) ≡ true
    by_first true t k l e g = and_true _ _ h e
    by_first false true k l e g = refl
    by_first false false k l e g = g (and_true _ _ (some_more w b) (all_more is_word_byte w b (both _ _ h).1 (word_byte b k l)))
found_from (InQuote place q) (b ∷ line) h =
    by_first (b == 34) (nat_lt b 32) refl refl (found_from (AfterQuote place q) line h) (found_from (InQuote place (q ++ b ∷ [])) line)
  where
    by_first : (s t : Bool) → (b == 34) ≡ s → nat_lt b 32 ≡ t
        → are_found (scan by_tokens (AfterQuote place q) line) ≡ true
        → (is_sound (InQuote place (q ++ b ∷ [])) ≡ true → are_found (scan by_tokens (InQuote place (q ++ b ∷ [])) line) ≡ true)
        → are_found (cond s (scan by_tokens (AfterQuote place q) line) (cond t (broken place) (scan by_tokens (InQuote place (q ++ b ∷ [])) line))) ≡ true
    by_first true t k l e g = e
    by_first false true k l e g = refl
    by_first false false k l e g = g (all_more is_quoted_byte q b h (quoted_byte b k l))
found_from (AfterQuote place q) (b ∷ line) h = by_first (is_blank b) (found_from (Between (length (b ∷ line))) line refl)
  where
    by_first : (s : Bool) → are_found (scan by_tokens (Between (length (b ∷ line))) line) ≡ true
        → are_found (cond s (Next place (Quoted q) (scan by_tokens (Between (length (b ∷ line))) line)) (broken place)) ≡ true
    by_first true e = and_true _ _ h e
    by_first false e = refl

pub found : TokensAreFound
found line = found_from (Between (length line)) line refl

-- the first token

-- it is a word that begins with b, or breaks the rules
abbrev WordFirst : ℕ → Lexemes → Type 0
WordFirst b (End end) = false ≡ true
WordFirst b (Next place (Word w) tokens) = slice_index w 0 ≡ b
WordFirst b (Next place (Quoted q) tokens) = false ≡ true
WordFirst b (Next place Bad tokens) = true ≡ true

word_first : (place b : ℕ) (w line : List ℕ) → WordFirst b (scan by_tokens (InWord place (b ∷ w)) line)
word_first place b w [] = refl
word_first place b w (c ∷ line) = by_first (is_blank c) (c == 34) (word_first place b (w ++ c ∷ []) line)
  where
    by_first : (s t : Bool) → WordFirst b (scan by_tokens (InWord place (b ∷ (w ++ c ∷ []))) line)
        → WordFirst b (cond s (Next place (Word (b ∷ w)) (scan by_tokens (Between (length (c ∷ line))) line))
        (cond t (broken place) (scan by_tokens (InWord place (b ∷ (w ++ c ∷ []))) line)))
    by_first true t e = refl
    by_first false true e = refl
    by_first false false e = e

-- it is quoted, or breaks the rules
abbrev QuoteFirst : Lexemes → Type 0
QuoteFirst (End end) = false ≡ true
QuoteFirst (Next place (Word w) tokens) = false ≡ true
QuoteFirst (Next place (Quoted q) tokens) = true ≡ true
QuoteFirst (Next place Bad tokens) = true ≡ true

after_first : (place : ℕ) (q line : List ℕ) → QuoteFirst (scan by_tokens (AfterQuote place q) line)
after_first place q [] = refl
after_first place q (b ∷ line) = by_first (is_blank b)
  where
    by_first : (s : Bool) → QuoteFirst (cond s (Next place (Quoted q) (scan by_tokens (Between (length (b ∷ line))) line)) (broken place))
    by_first true = refl
    by_first false = refl

quote_first : (place : ℕ) (q line : List ℕ) → QuoteFirst (scan by_tokens (InQuote place q) line)
quote_first place q [] = refl
quote_first place q (b ∷ line) = by_first (b == 34) (nat_lt b 32) (after_first place q line) (quote_first place (q ++ b ∷ []) line)
  where
    by_first : (s t : Bool) → QuoteFirst (scan by_tokens (AfterQuote place q) line) → QuoteFirst (scan by_tokens (InQuote place (q ++ b ∷ [])) line)
        → QuoteFirst (cond s (scan by_tokens (AfterQuote place q) line) (cond t (broken place) (scan by_tokens (InQuote place (q ++ b ∷ [])) line)))
    by_first true t e f = e
    by_first false true e f = refl
    by_first false false e f = f

-- what the first token tells of a line that is skipped or not
abbrev FirstSays : List Lexeme → Bool → Type 0
FirstSays [] skipped = skipped ≡ true
FirstSays (Word w ∷ tokens) skipped = skipped ≡ (slice_index w 0 == 35)
FirstSays (Quoted q ∷ tokens) skipped = skipped ≡ false
FirstSays (Bad ∷ tokens) skipped = true ≡ true

word_says : (b : ℕ) (tokens : Lexemes) → WordFirst b tokens → FirstSays (lexemes tokens) (b == 35)
word_says b (End end) h = absurd (false≢true h)
word_says b (Next place (Word w) tokens) h = ap (λ c. c == 35) (sym h)
word_says b (Next place (Quoted q) tokens) h = absurd (false≢true h)
word_says b (Next place Bad tokens) h = refl

quote_says : (b : ℕ) (tokens : Lexemes) → (b == 34) ≡ true → QuoteFirst tokens → FirstSays (lexemes tokens) (b == 35)
quote_says b (End end) k h = absurd (false≢true h)
quote_says b (Next place (Word w) tokens) k h = absurd (false≢true h)
quote_says b (Next place (Quoted q) tokens) k h = grind (arith, nat_tests)
quote_says b (Next place Bad tokens) k h = refl

first_says : (end : ℕ) (line : List ℕ) → FirstSays (lexemes (scan by_tokens (Between end) line)) (is_skipped line)
first_says end [] = refl
first_says end (b ∷ line) =
    by_first (is_blank b) (b == 34) refl (first_says end line) (quote_first (length (b ∷ line)) [] line) (word_first (length (b ∷ line)) b [] line)
  where
    by_first : (s t : Bool) → (b == 34) ≡ t → FirstSays (lexemes (scan by_tokens (Between end) line)) (is_skipped line)
        → QuoteFirst (scan by_tokens (InQuote (length (b ∷ line)) []) line) → WordFirst b (scan by_tokens (InWord (length (b ∷ line)) (b ∷ [])) line)
        → FirstSays (lexemes (cond s (scan by_tokens (Between end) line)
        (cond t (scan by_tokens (InQuote (length (b ∷ line)) []) line) (scan by_tokens (InWord (length (b ∷ line)) (b ∷ [])) line)))) (cond s (is_skipped line) (b == 35))
    by_first true t k e f g = e
    by_first false true k e f g = quote_says b (scan by_tokens (InQuote (length (b ∷ line)) []) line) k f
    by_first false false k e f g = word_says b (scan by_tokens (InWord (length (b ∷ line)) (b ∷ [])) line) g

byte_skips : (end : ℕ) (line : List ℕ) → 0 < length (lexemes (scan by_tokens (Between end) line)) → is_skipped line ≡ (first_byte line == 35)
byte_skips end [] h = absurd (omega arith)
byte_skips end (b ∷ line) h = by_first (is_blank b) h (byte_skips end line)
  where
    by_first : (s : Bool) → 0 < length (lexemes (cond s (scan by_tokens (Between end) line)
        (cond (b == 34) (scan by_tokens (InQuote (length (b ∷ line)) []) line) (scan by_tokens (InWord (length (b ∷ line)) (b ∷ [])) line))))
        → (0 < length (lexemes (scan by_tokens (Between end) line)) → is_skipped line ≡ (first_byte line == 35))
        → cond s (is_skipped line) (b == 35) ≡ (cond s (first_byte line) b == 35)
    by_first true h e = e h
    by_first false h e = refl

pub first_skips : FirstTokenSkips
first_skips = (
  λ line e. subst (λ ts. FirstSays ts (is_skipped line)) e (first_says (length line) line),
  λ line token tokens e. byte_skips (length line) line (subst (λ (ts : List Lexeme). 0 < length ts) (sym e) (omega arith)),
  λ line q tokens e. subst (λ ts. FirstSays ts (is_skipped line)) e (first_says (length line) line),
  λ line w tokens e. subst (λ ts. FirstSays ts (is_skipped line)) e (first_says (length line) line),
)

has_some : (tokens : List Lexeme) (skipped : Bool) → FirstSays tokens skipped → skipped ≡ false → 0 < length tokens
has_some [] skipped h k = absurd (false≢true (sym k ∙ h))
has_some (token ∷ tokens) skipped h k = omega arith

pub have_tokens : SayingLinesHaveTokens
have_tokens line h = has_some (lexemes (tokens_of line)) (is_skipped line) (first_says (length line) line) h

-- words of a line without `"`

-- from between tokens and from within a word
record IsPlain (line : List ℕ) : Type 0 where
  between : (end : ℕ) → scan by_tokens (Between end) line ≡ scan by_words (Between end) line
  in_word : (place : ℕ) (w : List ℕ) → scan by_tokens (InWord place w) line ≡ scan by_words (InWord place w) line

plain_step : (c : ℕ) (line : List ℕ) → not (c == 34) ≡ true → IsPlain line → IsPlain (c ∷ line)
plain_step c line l h =
    let k = not_true (c == 34) l in
    record { between = λ end. rw (k) (from_between end (is_blank c)); in_word = λ place w. rw (k) (from_word place w (is_blank c)) }
  where
    from_between : (end : ℕ) (s : Bool)
        → cond s (scan by_tokens (Between end) line) (scan by_tokens (InWord (length (c ∷ line)) (c ∷ [])) line)
        ≡ cond s (scan by_words (Between end) line) (scan by_words (InWord (length (c ∷ line)) (c ∷ [])) line)
    from_between end true = h.between end
    from_between end false = h.in_word (length (c ∷ line)) (c ∷ [])

    from_word : (place : ℕ) (w : List ℕ) (s : Bool)
        → cond s (Next place (Word w) (scan by_tokens (Between (length (c ∷ line))) line)) (scan by_tokens (InWord place (w ++ c ∷ [])) line)
        ≡ cond s (Next place (Word w) (scan by_words (Between (length (c ∷ line))) line)) (scan by_words (InWord place (w ++ c ∷ [])) line)
    from_word place w true = ap (Next place (Word w)) (h.between (length (c ∷ line)))
    from_word place w false = h.in_word place (w ++ c ∷ [])

plain_line : (line : List ℕ) → list_all (λ c. not (c == 34)) line ≡ true → IsPlain line
plain_line [] h = record { between = λ end. refl; in_word = λ place w. refl }
plain_line (c ∷ line) h = plain_step c line (both _ _ h).0 (plain_line line (both _ _ h).1)

pub plain : PlainLinesHaveWords
plain line h = (plain_line line h).between (length line)

-- so were the tokens that are left of a line
pub found_rest : (line : List ℕ) (tokens : Lexemes) → tokens_of line ≡ tokens → are_found tokens ≡ true
found_rest line tokens e = subst (λ tokens. are_found tokens ≡ true) e (found line)

-- a token that was found can be quoted
pub sound_next : (place : ℕ) (token : Lexeme) (tokens : Lexemes) → are_found (Next place token tokens) ≡ true → is_quotable token ≡ true
sound_next place (Word w) tokens h = refl
sound_next place (Quoted q) tokens h = (both (is_writable (Quoted q)) (are_found tokens) h).0
sound_next place Bad tokens h = refl
