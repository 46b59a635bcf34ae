-- What is shown is clean.
use Rattle.std.proofs.Common.{◌≡◌, ⊎_elim, ◌∙◌, ℕ, ◌-◌, ◌/◌, ◌%◌, ◌<◌, ◌==◌, zero, suc, Bool, true, false, not, cond, eqb, ◌||◌, ◌&&◌, nat_le, nat_lt, List, [], ◌∷◌, ◌++◌, length, take, drop, replicate, Option, None, Some, codes, refl, sym, ap, ap₂, lt-ltb, arith}
use Rattle.std.proofs.Math.Utf8.{scalar, scalars, encode, encodes}
use Rattle.std.proofs.lemmas.Bool.{cases_lt, false≢true}
use Rattle.std.proofs.lemmas.Bool.Decides.{nat_tests}
use Rattle.std.proofs.lemmas.List.{append-nil}
use Rattle.std.proofs.lemmas.List.Folds.{list_all-append}
use Rattle.std.proofs.lemmas.Str.{is_utf8-from_IsUtf8, encodes-append, chars-encodes}
use Rattle.std.specs.Fmt.{decimal, digits, digits_onto, digit_glyph}
use Rattle.std.specs.List.{list_all}
use Rattle.std.specs.Str.{chars}
use Rattle.bstr.specs.Utf8.{decoded}
use Rattle.bstr.proofs.lemmas.SoundLemmas.{SpellsChar-decoded}
use Rattle.ucd_category.specs.GeneralCategory.{general_category}
use Rattle.ucd_category.specs.GeneralCategoryRows.{general_category_rows}
use Rattle.ucd_table.specs.Rows.{value_in}
use Rattle.sb_base.specs.Numbers.{hexadecimal}
use Rattle.sb_glyphs.specs.declared.glyphs.Glyph.{Glyph}
use Rattle.sb_glyphs.specs.declared.glyphs.Glyph.TheVariants.{Char, Byte}
use Rattle.sb_glyphs.specs.CleanTexts.{is_clean, IsClean}
use Rattle.sb_glyphs.specs.Excerpts.{window_start, dots, width, blanks_under, excerpt, caret, excerpt_lines}
use Rattle.sb_glyphs.specs.Glyphs.{is_hidden, is_tab, escaped, glyph_by, first_size, glyphs_after, glyphs_of, shown_glyph, shown, shown_bytes}
use Rattle.sb_glyphs.specs.Laws.{ShownTextsAreClean}
use Rattle.sb_glyphs.specs.Tokens.{until, first_token, is_char, is_blank_glyph, quoted, quoted_bytes, quoted_token}

-- ---- spelling by clean characters

abbrev is_good : ℕ → Bool
is_good c = scalar c && is_clean c

abbrev pub Spelled : List ℕ → Type 0
Spelled text = (cs : List ℕ) × (list_all is_good cs ≡ true) × (encodes cs ≡ text)

left_of : (a b : Bool) → (a && b) ≡ true → a ≡ true
left_of true b h = refl
left_of false b h = h

right_of : (a b : Bool) → (a && b) ≡ true → b ≡ true
right_of true b h = h
right_of false b h = absurd (false≢true h)

scalars_of : (cs : List ℕ) → list_all is_good cs ≡ true → scalars cs ≡ true
scalars_of [] h = refl
scalars_of (c ∷ cs) h =
    let here = left_of (scalar c) (is_clean c) (left_of (is_good c) (list_all is_good cs) h) in
    ap₂ (λ x y. x && y) here (scalars_of cs (right_of (is_good c) (list_all is_good cs) h))

cleans_of : (cs : List ℕ) → list_all is_good cs ≡ true → list_all is_clean cs ≡ true
cleans_of [] h = refl
cleans_of (c ∷ cs) h =
    let here = right_of (scalar c) (is_clean c) (left_of (is_good c) (list_all is_good cs) h) in
    ap₂ (λ x y. x && y) here (cleans_of cs (right_of (is_good c) (list_all is_good cs) h))

pub clean_of : (text : List ℕ) → Spelled text → IsClean text
clean_of text (cs, good, spells) = (
  is_utf8-from_IsUtf8 text (cs, (scalars_of cs good, spells)),
  ap (λ t. list_all is_clean (chars t)) (sym spells) ∙ ap (list_all is_clean) (chars-encodes cs (scalars_of cs good)) ∙ cleans_of cs good,
)

pub both : (a b : List ℕ) → Spelled a → Spelled b → Spelled (a ++ b)
both a b (cs, gc, sc) (ds, gd, sd) = (
  cs ++ ds,
  list_all-append is_good cs ds ∙ ap₂ (λ x y. x && y) gc gd,
  encodes-append cs ds ∙ ap₂ (λ x y. x ++ y) sc sd,
)

-- three to six parts
pub three : (a b c : List ℕ) → Spelled a → Spelled b → Spelled c → Spelled (a ++ b ++ c)
three a b c ha hb hc = both (a ++ b) c (both a b ha hb) hc

pub four : (a b c d : List ℕ) → Spelled a → Spelled b → Spelled c → Spelled d → Spelled (a ++ b ++ c ++ d)
four a b c d ha hb hc hd = both (a ++ b ++ c) d (three a b c ha hb hc) hd

pub five : (a b c d e : List ℕ) → Spelled a → Spelled b → Spelled c → Spelled d → Spelled e → Spelled (a ++ b ++ c ++ d ++ e)
five a b c d e ha hb hc hd he = both (a ++ b ++ c ++ d) e (four a b c d ha hb hc hd) he

pub six : (a b c d e f : List ℕ) → Spelled a → Spelled b → Spelled c → Spelled d → Spelled e → Spelled f → Spelled (a ++ b ++ c ++ d ++ e ++ f)
six a b c d e f ha hb hc hd he hf = both (a ++ b ++ c ++ d ++ e) f (five a b c d e ha hb hc hd he) hf

pub nothing : Spelled []
nothing = ([], refl, refl)

-- ---- ASCII

-- a byte that is a clean character
abbrev pub is_plain : ℕ → Bool
is_plain b = b == 10 || b == 9 || (nat_le 32 b && nat_lt b 127)

each_below : (ℕ → Bool) → ℕ → Bool
each_below p zero = true
each_below p (suc n) = p n && each_below p n

below : (p : ℕ → Bool) (n b : ℕ) → each_below p n ≡ true → b < n → p b ≡ true
unfolding each_below
below p zero b h less = absurd (omega (arith, less))
below p (suc n) b h less = ⊎_elim (λ lower. below p n b (right_of (p n) (each_below p n) h) lower)
    (λ same. ap p (omega (arith, less, same)) ∙ left_of (p n) (each_below p n) h) (cases_lt b n)

plain_checked : each_below (λ b. not (is_plain b) || is_good b) 127 ≡ true
unfolding general_category general_category_rows value_in each_below
plain_checked = refl

plain_low : (b : ℕ) → is_plain b ≡ true → b < 127
plain_low b h = grind (arith, nat_tests)

plain_good : (b : ℕ) → is_plain b ≡ true → is_good b ≡ true
plain_good b h = ap (λ t. not t || is_good b) (sym h) ∙ below (λ b. not (is_plain b) || is_good b) 127 b plain_checked (plain_low b h)

plain_goods : (bs : List ℕ) → list_all is_plain bs ≡ true → list_all is_good bs ≡ true
plain_goods [] h = refl
plain_goods (b ∷ bs) h =
    ap₂ (λ x y. x && y) (plain_good b (left_of (is_plain b) (list_all is_plain bs) h)) (plain_goods bs (right_of (is_plain b) (list_all is_plain bs) h))

ascii_encode : (b : ℕ) → b < 128 → encode b ≡ b ∷ []
unfolding encode
ascii_encode b low = rw (lt-ltb b 128 low)

plain_encodes : (bs : List ℕ) → list_all is_plain bs ≡ true → encodes bs ≡ bs
plain_encodes [] h = refl
plain_encodes (b ∷ bs) h =
    let low : b < 127 = plain_low b (left_of (is_plain b) (list_all is_plain bs) h) in
    ap₂ (λ x y. x ++ y) (ascii_encode b (omega (arith, low))) (plain_encodes bs (right_of (is_plain b) (list_all is_plain bs) h))

pub plain : (bs : List ℕ) → list_all is_plain bs ≡ true → Spelled bs
plain bs h = (bs, plain_goods bs h, plain_encodes bs h)

-- ---- numbers

digit_plain : (upper : Bool) (d : ℕ) → d < 16 → is_plain (digit_glyph upper d) ≡ true
digit_plain true d h = grind (arith, nat_tests)
digit_plain false d h = grind (arith, nat_tests)

by_test : {A : Type 0} (P : A → Type 0) (b : Bool) (x y : A) → (b ≡ true → P x) → (b ≡ false → P y) → P (cond b x y)
by_test P true x y hx hy = hx refl
by_test P false x y hx hy = hy refl

onto_plain : (k base : ℕ) (upper : Bool) (n : ℕ) (acc : List ℕ) → ((m : ℕ) → m % base < 16) → list_all is_plain acc ≡ true
    → list_all is_plain (digits_onto k base upper n acc) ≡ true
onto_plain zero base upper n acc small h = h
onto_plain (suc k) base upper n acc small h =
    let one : list_all is_plain (digit_glyph upper (n % base) ∷ acc) ≡ true = ap₂ (λ x y. x && y) (digit_plain upper (n % base) (small n)) h in
    by_test (λ l. list_all is_plain l ≡ true) (eqb (n / base) 0) (digit_glyph upper (n % base) ∷ acc) _ (λ _. one)
    (λ _. onto_plain k base upper (n / base) (digit_glyph upper (n % base) ∷ acc) small one)

pub hexadecimal_clean : (n : ℕ) → Spelled (hexadecimal n)
unfolding digits
hexadecimal_clean n = plain (hexadecimal n) (onto_plain 64 16 false n [] (λ m. omega arith) refl)

pub decimal_clean : (n : ℕ) → Spelled (decimal n)
unfolding digits
decimal_clean n = plain (decimal n) (onto_plain 64 10 false n [] (λ m. omega arith) refl)

-- ---- glyphs

escaped_clean : (opening : List ℕ) (n : ℕ) → Spelled opening → Spelled (escaped opening n)
escaped_clean opening n h = three opening (hexadecimal n) (125 ∷ []) h (hexadecimal_clean n) (plain (125 ∷ []) refl)

-- a glyph that bytes may have: its character is a scalar value
abbrev is_real : Glyph → Bool
is_real (Char c) = scalar c
is_real (Byte b) = true

abbrev Real : List Glyph → Type 0
Real glyphs = list_all is_real glyphs ≡ true

shown_good : (c : ℕ) → scalar c ≡ true → is_hidden c ≡ false → is_good c ≡ true
shown_good c h hidden = ap₂ (λ x y. x && (c == 10 || not y)) h hidden ∙ either (c == 10)
  where
    either : (b : Bool) → (b || true) ≡ true
    either true = refl
    either false = refl

glyph_clean : (glyph : Glyph) → is_real glyph ≡ true → Spelled (shown_glyph glyph)
glyph_clean (Char c) h = by_test Spelled (is_hidden c) (escaped (codes "\\u{") c) (encode c) (λ _. escaped_clean (codes "\\u{") c (plain (codes "\\u{") refl))
    (λ hidden. (c ∷ [], ap (λ b. b && true) (shown_good c h hidden), append-nil (encode c)))
glyph_clean (Byte b) h = escaped_clean (codes "\\x{") b (plain (codes "\\x{") refl)

shown_clean : (glyphs : List Glyph) → Real glyphs → Spelled (shown glyphs)
shown_clean [] h = nothing
shown_clean (glyph ∷ glyphs) h =
    both (shown_glyph glyph) (shown glyphs) (glyph_clean glyph (left_of (is_real glyph) (list_all is_real glyphs) h))
    (shown_clean glyphs (right_of (is_real glyph) (list_all is_real glyphs) h))

real_take : (n : ℕ) (glyphs : List Glyph) → Real glyphs → Real (take n glyphs)
real_take zero glyphs h = refl
real_take (suc n) [] h = refl
real_take (suc n) (glyph ∷ glyphs) h =
    ap₂ (λ x y. x && y) (left_of (is_real glyph) (list_all is_real glyphs) h) (real_take n glyphs (right_of (is_real glyph) (list_all is_real glyphs) h))

real_drop : (n : ℕ) (glyphs : List Glyph) → Real glyphs → Real (drop n glyphs)
real_drop zero glyphs h = h
real_drop (suc n) [] h = refl
real_drop (suc n) (glyph ∷ glyphs) h = real_drop n glyphs (right_of (is_real glyph) (list_all is_real glyphs) h)

first_real : (bs : List ℕ) (b : ℕ) (o : Option ℕ) → (decoded bs).char ≡ o → is_real (glyph_by o b) ≡ true
first_real bs b None e = refl
first_real bs b (Some c) e = let spelled = SpellsChar-decoded bs c e in spelled.scalar

after_real : (n : ℕ) (bs : List ℕ) → Real (glyphs_after n bs)
after_real n [] = refl
after_real (suc n) (b ∷ bs) = after_real n bs
after_real zero (b ∷ bs) = ap₂ (λ x y. x && y) (first_real (b ∷ bs) b (decoded (b ∷ bs)).char refl) (after_real (first_size (b ∷ bs) - 1) bs)

glyphs_real : (bs : List ℕ) → Real (glyphs_of bs)
glyphs_real bs = after_real 0 bs

pub bytes_clean : (bs : List ℕ) → Spelled (shown_bytes bs)
bytes_clean bs = shown_clean (glyphs_of bs) (glyphs_real bs)

-- ---- tokens

dots_clean : (b : Bool) → Spelled (dots b)
dots_clean true = plain (codes "..") refl
dots_clean false = nothing

quoted_clean : (glyphs : List Glyph) → Real glyphs → Spelled (quoted glyphs)
quoted_clean glyphs h =
    four (34 ∷ []) (shown (take 40 glyphs)) (dots (nat_lt 40 (length glyphs))) (34 ∷ []) (plain (34 ∷ []) refl)
    (shown_clean (take 40 glyphs) (real_take 40 glyphs h)) (dots_clean (nat_lt 40 (length glyphs))) (plain (34 ∷ []) refl)

pub quoted_bytes_clean : (bs : List ℕ) → Spelled (quoted_bytes bs)
quoted_bytes_clean bs = quoted_clean (glyphs_of bs) (glyphs_real bs)

token_real : (glyphs : List Glyph) → Real glyphs → Real (first_token glyphs)
token_real [] h = refl
token_real (glyph ∷ glyphs) h = by_test Real (is_char 34 glyph) (until (is_char 34) glyphs) (until is_blank_glyph (glyph ∷ glyphs))
    (λ _. real_take _ glyphs (right_of (is_real glyph) (list_all is_real glyphs) h)) (λ _. real_take _ (glyph ∷ glyphs) h)

pub token_clean : (place : ℕ) (line : List ℕ) → Spelled (quoted_token (drop place (glyphs_of line)))
token_clean place line =
    let rest = drop place (glyphs_of line) in
    quoted_clean (first_token rest) (token_real rest (real_drop place (glyphs_of line) (glyphs_real line)))

pub shown_texts_clean : ShownTextsAreClean
shown_texts_clean bs = (clean_of (shown_bytes bs) (bytes_clean bs), clean_of (quoted_bytes bs) (quoted_bytes_clean bs))

-- ---- lines

spaces_plain : (n : ℕ) → list_all is_plain (replicate n 32) ≡ true
spaces_plain zero = refl
spaces_plain (suc n) = spaces_plain n

spaces_clean : (n : ℕ) → Spelled (replicate n 32)
spaces_clean n = plain (replicate n 32) (spaces_plain n)

blanks_clean : (text : List ℕ) (glyphs : List Glyph) → Spelled (blanks_under text glyphs)
blanks_clean text [] = spaces_clean (width text)
blanks_clean text (glyph ∷ glyphs) =
    by_test Spelled (is_tab glyph) _ _
    (λ _. both (replicate (width text) 32) (9 ∷ blanks_under [] glyphs) (spaces_clean (width text)) (both (9 ∷ []) (blanks_under [] glyphs) (plain (9 ∷ []) refl) (blanks_clean [] glyphs)))
    (λ _. blanks_clean (text ++ shown_glyph glyph) glyphs)

pub excerpt_clean : (place : ℕ) (glyphs : List Glyph) → Real glyphs → Spelled (excerpt place glyphs)
excerpt_clean place glyphs h =
    let start = window_start place (length glyphs) in
    three (dots (nat_lt 0 start)) (shown (take 120 (drop start glyphs))) (dots (nat_lt 120 (length glyphs - start))) (dots_clean (nat_lt 0 start))
    (shown_clean (take 120 (drop start glyphs)) (real_take 120 (drop start glyphs) (real_drop start glyphs h))) (dots_clean (nat_lt 120 (length glyphs - start)))

pub line_excerpt_clean : (place : ℕ) (line : List ℕ) → Spelled (excerpt place (glyphs_of line))
line_excerpt_clean place line = excerpt_clean place (glyphs_of line) (glyphs_real line)

caret_clean : (place : ℕ) (glyphs : List Glyph) → Spelled (caret place glyphs)
caret_clean place glyphs =
    let start = window_start place (length glyphs) in
    let blanks = blanks_under (dots (nat_lt 0 start)) (take (place - start) (drop start glyphs)) in
    both blanks (94 ∷ []) (blanks_clean (dots (nat_lt 0 start)) (take (place - start) (drop start glyphs))) (plain (94 ∷ []) refl)

pub feed : Spelled (10 ∷ [])
feed = plain (10 ∷ []) refl

pub lines_clean : (place : ℕ) (line : List ℕ) → Spelled (excerpt_lines place (glyphs_of line))
lines_clean place line =
    let glyphs = glyphs_of line in
    three (excerpt place glyphs) (10 ∷ caret place glyphs) (10 ∷ []) (line_excerpt_clean place line)
    (both (10 ∷ []) (caret place glyphs) feed (caret_clean place glyphs)) feed
