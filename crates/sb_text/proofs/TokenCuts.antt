-- Each line is cut into its tokens.
use Rattle.std.proofs.Common.{◌≡◌, ◌∙◌, ℕ, ◌==◌, nat_lt, Bool, true, false, cond, List, [], ◌∷◌, ◌++◌, length, ap, refl, sym, subst, arith}
use Rattle.std.proofs.lemmas.Bool.{false≢true}
use Rattle.std.proofs.lemmas.Bool.Decides.{nat_tests}
use Rattle.std.proofs.lemmas.List.{append_assoc, append-nil}
use Rattle.std.specs.List.{list_all}
use Rattle.sb_text.proofs.Conjunctions.{and_true}
use Rattle.sb_text.proofs.TokenLaws.{all_more}
use Rattle.sb_text.specs.Lines.{is_blank}
use Rattle.sb_text.specs.TokenLaws.{CutAt, IsCut, TokensAreCut, written_token}
use Rattle.sb_text.specs.Tokens.{Lexemes, Word, Quoted, Next, End, Spot, Between, InWord, InQuote, AfterQuote, broken, is_quote, scan}
use Rattle.sb_text.specs.declared.columns.Layout.{Layout}
use Rattle.sb_text.specs.declared.columns.Layout.TheVariants.{Text, Bytes}

-- these bytes are blanks, then those of the token in which a spot is, and then the rest of the line; the spot has the place of the token, or, between tokens,
-- that of all the bytes
abbrev Holds : Spot → List ℕ → List ℕ → List ℕ → Type 0
Holds (Between end) blanks bytes line = (bytes ≡ blanks ++ line) × (length bytes ≡ end)
Holds (InWord place w) blanks bytes line = (bytes ≡ blanks ++ (w ++ line)) × (length (w ++ line) ≡ place)
Holds (InQuote place q) blanks bytes line = (bytes ≡ blanks ++ (34 ∷ (q ++ line))) × (length (34 ∷ (q ++ line)) ≡ place)
Holds (AfterQuote place q) blanks bytes line = (bytes ≡ blanks ++ (34 ∷ (q ++ 34 ∷ line))) × (length (34 ∷ (q ++ 34 ∷ line)) ≡ place)

-- from any such spot on the line is cut
abbrev Cuts : Layout → Spot → List ℕ → Type 0
Cuts layout spot line = (blanks bytes : List ℕ) → list_all is_blank blanks ≡ true → Holds spot blanks bytes line → IsCut bytes (scan layout spot line)

broken_at : (place : ℕ) (blanks bytes after : List ℕ) → list_all is_blank blanks ≡ true → bytes ≡ blanks ++ after → length after ≡ place → IsCut bytes (broken place)
broken_at place blanks bytes after h e l = (record { blanks = blanks; after = after; cut = e; blank = h; left = l }, refl)

-- with one more byte in the token
moved : (w : List ℕ) (b : ℕ) (line : List ℕ) → w ++ b ∷ line ≡ (w ++ b ∷ []) ++ line
moved w b line = sym (append_assoc w (b ∷ []) line)

quoted_moved : (q line : List ℕ) → 34 ∷ (q ++ 34 ∷ line) ≡ written_token (Quoted q) ++ line
quoted_moved q line = ap (λ bytes. 34 ∷ bytes) (moved q 34 line)

same_byte : (b : ℕ) → (b == 34) ≡ true → b ≡ 34
same_byte b h = grind (arith, nat_tests)

quote_is : (layout : Layout) (b : ℕ) → is_quote layout b ≡ true → b ≡ 34
quote_is Text b h = same_byte b h
quote_is Bytes b h = absurd (false≢true h)

blank_alone : (b : ℕ) → is_blank b ≡ true → list_all is_blank (b ∷ []) ≡ true
blank_alone b h = and_true _ _ h refl

cuts : (layout : Layout) (spot : Spot) (line : List ℕ) → Cuts layout spot line
cuts layout (Between end) [] blanks bytes h k = (subst (λ bs. list_all is_blank bs ≡ true) (sym (k.0 ∙ append-nil blanks)) h, k.1)
cuts layout (InWord place w) [] blanks bytes h k =
    (record { blanks = blanks; after = []; cut = k.0; blank = h; left = k.1 }, refl, (refl, refl))
cuts layout (InQuote place q) [] blanks bytes h k = broken_at place blanks bytes (34 ∷ (q ++ [])) h k.0 k.1
cuts layout (AfterQuote place q) [] blanks bytes h k = (
  record {
    blanks = blanks;
    after = [];
    cut = k.0 ∙ ap (λ bs. blanks ++ bs) (quoted_moved q []);
    blank = h;
    left = sym (ap length (quoted_moved q [])) ∙ k.1;
  },
  refl,
  (refl, refl),
)
cuts layout (Between end) (b ∷ line) blanks bytes h k =
    by_first (is_blank b) (is_quote layout b) refl refl (cuts layout (Between end) line) (cuts layout (InQuote (length (b ∷ line)) []) line)
    (cuts layout (InWord (length (b ∷ line)) (b ∷ [])) line)
  where
    by_first : (s t : Bool) → is_blank b ≡ s → is_quote layout b ≡ t
        → Cuts layout (Between end) line → Cuts layout (InQuote (length (b ∷ line)) []) line → Cuts layout (InWord (length (b ∷ line)) (b ∷ [])) line
        → IsCut bytes (cond s (scan layout (Between end) line)
        (cond t (scan layout (InQuote (length (b ∷ line)) []) line) (scan layout (InWord (length (b ∷ line)) (b ∷ [])) line)))
    by_first true t s l e f g = e (blanks ++ b ∷ []) bytes (all_more is_blank blanks b h s) (k.0 ∙ moved blanks b line, k.1)
    by_first false true s l e f g =
        let is : b ≡ 34 = quote_is layout b l in
        f blanks bytes h (k.0 ∙ ap (λ c. blanks ++ c ∷ line) is, refl)
    by_first false false s l e f g = g blanks bytes h (k.0, refl)
cuts layout (InWord place w) (b ∷ line) blanks bytes h k =
    by_first (is_blank b) (is_quote layout b) refl (cuts layout (Between (length (b ∷ line))) line) (cuts layout (InWord place (w ++ b ∷ [])) line)
  where
    by_first : (s t : Bool) → is_blank b ≡ s → Cuts layout (Between (length (b ∷ line))) line → Cuts layout (InWord place (w ++ b ∷ [])) line
        → IsCut bytes (cond s (Next place (Word w) (scan layout (Between (length (b ∷ line))) line))
        (cond t (broken place) (scan layout (InWord place (w ++ b ∷ [])) line)))
    by_first true t s e g =
        (record { blanks = blanks; after = b ∷ line; cut = k.0; blank = h; left = k.1 }, s, e (b ∷ []) (b ∷ line) (blank_alone b s) (refl, refl))
    by_first false true s e g = broken_at place blanks bytes (w ++ b ∷ line) h k.0 k.1
    by_first false false s e g =
        g blanks bytes h (k.0 ∙ ap (λ bs. blanks ++ bs) (moved w b line), sym (ap length (moved w b line)) ∙ k.1)
cuts layout (InQuote place q) (b ∷ line) blanks bytes h k =
    by_first (b == 34) (nat_lt b 32) refl (cuts layout (AfterQuote place q) line) (cuts layout (InQuote place (q ++ b ∷ [])) line)
  where
    by_first : (s t : Bool) → (b == 34) ≡ s → Cuts layout (AfterQuote place q) line → Cuts layout (InQuote place (q ++ b ∷ [])) line
        → IsCut bytes (cond s (scan layout (AfterQuote place q) line) (cond t (broken place) (scan layout (InQuote place (q ++ b ∷ [])) line)))
    by_first true t s e g =
        let is : b ≡ 34 = same_byte b s in
        e blanks bytes h (k.0 ∙ ap (λ c. blanks ++ (34 ∷ (q ++ c ∷ line))) is, sym (ap (λ c. length (34 ∷ (q ++ c ∷ line))) is) ∙ k.1)
    by_first false true s e g = broken_at place blanks bytes (34 ∷ (q ++ b ∷ line)) h k.0 k.1
    by_first false false s e g =
        g blanks bytes h (k.0 ∙ ap (λ bs. blanks ++ (34 ∷ bs)) (moved q b line), sym (ap (λ bs. length (34 ∷ bs)) (moved q b line)) ∙ k.1)
cuts layout (AfterQuote place q) (b ∷ line) blanks bytes h k = by_first (is_blank b) refl (cuts layout (Between (length (b ∷ line))) line)
  where
    by_first : (s : Bool) → is_blank b ≡ s → Cuts layout (Between (length (b ∷ line))) line
        → IsCut bytes (cond s (Next place (Quoted q) (scan layout (Between (length (b ∷ line))) line)) (broken place))
    by_first true s e = (
      record {
        blanks = blanks;
        after = b ∷ line;
        cut = k.0 ∙ ap (λ bs. blanks ++ bs) (quoted_moved q (b ∷ line));
        blank = h;
        left = sym (ap length (quoted_moved q (b ∷ line))) ∙ k.1;
      },
      s,
      e (b ∷ []) (b ∷ line) (blank_alone b s) (refl, refl),
    )
    by_first false s e = broken_at place blanks bytes (34 ∷ (q ++ 34 ∷ b ∷ line)) h k.0 k.1

pub tokens_cut : TokensAreCut
tokens_cut layout line = cuts layout (Between (length line)) line [] line refl (refl, refl)
