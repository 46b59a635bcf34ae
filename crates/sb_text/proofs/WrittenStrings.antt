-- The string of what is written between quotes is the string that was written.
use Rattle.std.proofs.Common.{◌≡◌, ◌∙◌, ℕ, ◌<◌, ◌≤◌, ◌==◌, nat_le, Bool, true, false, not, cond, ◌&&◌, ◌||◌, List, [], ◌∷◌, ◌++◌, map, Some, ap, refl, sym, ⊎_elim, arith}
use Rattle.std.proofs.Math.Utf8.{scalar, scalars, encode, encodes}
use Rattle.std.proofs.lemmas.Bool.{and_parts, false≢true, cases_lt}
use Rattle.std.proofs.lemmas.Bool.Decides.{nat_tests}
use Rattle.std.proofs.lemmas.List.Folds.{list_all-append}
use Rattle.std.proofs.lemmas.Str.{chars-encodes, encode_ascii, utf16_chars-nil, utf16_chars_lone, utf16_chars_pair}
use Rattle.std.proofs.str.Utf16.{IsPair, one_unit, pair_units}
use Rattle.std.specs.Char.Escape.{encode_utf16}
use Rattle.std.specs.Char.Utf16.{lone_unit_char, surrogate_pair_char, utf16_lossy_chars}
use Rattle.std.specs.List.{list_all}
use Rattle.std.specs.Option.{unwrap_or}
use Rattle.sb_base.specs.Surrogates.{is_high, is_low, is_surrogate, is_paired}
use Rattle.sb_text.specs.TokenLaws.{is_quoted_byte}
use Rattle.sb_base.specs.Wide.{is_unit, utf16_of, is_text_unit}
use Rattle.sb_text.specs.Tokens.{utf8_of}
use Rattle.sb_text.specs.Strings.{StringsComeBack}

pub and_true : (a b : Bool) → a ≡ true → b ≡ true → (a && b) ≡ true
and_true true true h k = refl
and_true true false h k = k
and_true false b h k = h

-- a unit alone

lone_char : (u : ℕ) → is_high u ≡ false → is_low u ≡ false → lone_unit_char u ≡ Some u
lone_char u h l = grind (arith, nat_tests)

no_pair : (u v : ℕ) → is_high u ≡ false → IsPair u v → false ≡ true
no_pair u v h p = grind (arith, nat_tests)

lone_scalar : (u : ℕ) → is_high u ≡ false → is_low u ≡ false → u < 65536 → scalar u ≡ true
lone_scalar u h l b = grind (arith, nat_tests)

-- a pair

pair_scalar : (u v : ℕ) → is_high u ≡ true → is_low v ≡ true → scalar (surrogate_pair_char u v) ≡ true
pair_scalar u v h l = grind (arith, nat_tests)

is_pair : (u v : ℕ) → is_high u ≡ true → is_low v ≡ true → IsPair u v
is_pair u v h l = (grind (arith, nat_tests), grind (arith, nat_tests), grind (arith, nat_tests), grind (arith, nat_tests))

pair_high : (u v : ℕ) → IsPair u v → 65536 ≤ surrogate_pair_char u v
pair_high u v p = omega arith

pair_encodes : (u v : ℕ) → IsPair u v → encode_utf16 (surrogate_pair_char u v) ≡ u ∷ v ∷ []
pair_encodes u v p = ap encode_utf16 {x = surrogate_pair_char u v} (omega arith) ∙ pair_units u v p.0 p.2 p.3

-- the bytes of a character

high_bytes : (c : ℕ) → 128 ≤ c → list_all is_quoted_byte (encode c) ≡ true
unfolding encode
high_bytes c h = grind (arith, nat_tests)

low_bytes : (c : ℕ) → c < 128 → is_text_unit c ≡ true → list_all is_quoted_byte (encode c) ≡ true
low_bytes c h k = rw (encode_ascii c h) (grind (arith, nat_tests))

text_bytes : (c : ℕ) → is_text_unit c ≡ true → list_all is_quoted_byte (encode c) ≡ true
text_bytes c k = ⊎_elim (λ h. low_bytes c h k) (λ h. high_bytes c h) (cases_lt c 128)

-- units and the characters that they spell

record Spells (us : List ℕ) : Type 0 where
  units : utf16_of (utf16_lossy_chars us) ≡ us
  scalar : scalars (utf16_lossy_chars us) ≡ true
  quoted : list_all is_quoted_byte (utf8_of us) ≡ true

spells_more : (c : ℕ) (us later : List ℕ) → utf16_lossy_chars us ≡ c ∷ utf16_lossy_chars later → encode_utf16 c ++ later ≡ us
    → scalar c ≡ true → list_all is_quoted_byte (encode c) ≡ true → Spells later → Spells us
spells_more c us later e f s q rest = record {
  units = ap utf16_of e ∙ ap (λ us. encode_utf16 c ++ us) rest.units ∙ f;
  scalar = ap scalars e ∙ and_true _ _ s rest.scalar;
  quoted = ap (λ cs. list_all is_quoted_byte (encodes cs)) e ∙ list_all-append is_quoted_byte (encode c) (utf8_of later) ∙ and_true _ _ q rest.quoted;
}

lone_lossy : (u : ℕ) (us : List ℕ) → is_high u ≡ false → is_low u ≡ false → utf16_lossy_chars (u ∷ us) ≡ u ∷ utf16_lossy_chars us
lone_lossy u us h l =
    ap (map (λ o. unwrap_or o 0xFFFD)) (utf16_chars_lone u us (λ p. absurd (false≢true (no_pair u _ h p))))
    ∙ ap (λ o. unwrap_or o 0xFFFD ∷ utf16_lossy_chars us) (lone_char u h l)

pair_lossy : (u v : ℕ) (us : List ℕ) → IsPair u v → utf16_lossy_chars (u ∷ v ∷ us) ≡ surrogate_pair_char u v ∷ utf16_lossy_chars us
pair_lossy u v us p = ap (map (λ o. unwrap_or o 0xFFFD)) (utf16_chars_pair u v us p)

unit_small : (u : ℕ) → is_unit u ≡ true → u < 65536
unit_small u h = grind (arith, nat_tests)

spells_lone : (u : ℕ) (us : List ℕ) → is_high u ≡ false → is_low u ≡ false → is_text_unit u ≡ true → is_unit u ≡ true → Spells us → Spells (u ∷ us)
spells_lone u us h l t b rest =
    let small = unit_small u b in
    spells_more u (u ∷ us) us (lone_lossy u us h l) (ap (λ e. e ++ us) (one_unit u small)) (lone_scalar u h l small) (text_bytes u t) rest

spells_pair : (u v : ℕ) (us : List ℕ) → is_high u ≡ true → is_low v ≡ true → Spells us → Spells (u ∷ v ∷ us)
spells_pair u v us h l rest =
    let p = is_pair u v h l in
    let c = pair_high u v p in
    spells_more (surrogate_pair_char u v) (u ∷ v ∷ us) us (pair_lossy u v us p) (ap (λ e. e ++ us) (pair_encodes u v p)) (pair_scalar u v h l)
    (high_bytes (surrogate_pair_char u v) (omega arith)) rest

spells_none : Spells []
spells_none =
    let none = ap (map (λ o. unwrap_or o 0xFFFD)) utf16_chars-nil in
    record { units = ap utf16_of none; scalar = ap scalars none; quoted = ap (λ cs. list_all is_quoted_byte (encodes cs)) none }

untrue : (b : Bool) → not b ≡ true → b ≡ false
untrue true h = absurd (false≢true h)
untrue false h = refl

neither : (a b : Bool) → (a || b) ≡ false → (a ≡ false) × (b ≡ false)
neither true b h = absurd (false≢true (sym h))
neither false b h = (refl, h)

-- a unit that is no surrogate
spells_alone : (u : ℕ) (us : List ℕ) → is_surrogate u ≡ false → is_text_unit u ≡ true → is_unit u ≡ true → Spells us → Spells (u ∷ us)
spells_alone u us s t b rest = let p = neither (is_high u) (is_low u) s in spells_lone u us p.0 p.1 t b rest

-- a pair, or a unit that is no surrogate
spells_step : (u v : ℕ) (us : List ℕ) (pair : Bool) → (is_high u && is_low v) ≡ pair → is_text_unit u ≡ true → is_unit u ≡ true
    → cond pair (is_paired us) (not (is_surrogate u) && is_paired (v ∷ us)) ≡ true
    → (is_paired us ≡ true → Spells us) → (is_paired (v ∷ us) ≡ true → Spells (v ∷ us)) → Spells (u ∷ v ∷ us)
spells_step u v us true e t b h two one = let p = and_parts (is_high u) (is_low v) e in spells_pair u v us p.0 p.1 (two h)
spells_step u v us false e t b h two one =
    let p = and_parts (not (is_surrogate u)) (is_paired (v ∷ us)) h in spells_alone u (v ∷ us) (untrue (is_surrogate u) p.0) t b (one p.1)

spells : (us : List ℕ) → is_paired us ≡ true → list_all is_text_unit us ≡ true → list_all is_unit us ≡ true → Spells us
spells [] h t b = spells_none
spells (u ∷ []) h t b = spells_alone u [] (untrue (is_surrogate u) h) (and_parts _ _ t).0 (and_parts _ _ b).0 spells_none
spells (u ∷ v ∷ us) h t b =
    let t_later = (and_parts (is_text_unit u) (list_all is_text_unit (v ∷ us)) t).1 in
    let b_later = (and_parts (is_unit u) (list_all is_unit (v ∷ us)) b).1 in
    spells_step u v us (is_high u && is_low v) refl (and_parts (is_text_unit u) (list_all is_text_unit (v ∷ us)) t).0
    (and_parts (is_unit u) (list_all is_unit (v ∷ us)) b).0 h
    (λ k. spells us k (and_parts (is_text_unit v) (list_all is_text_unit us) t_later).1 (and_parts (is_unit v) (list_all is_unit us) b_later).1)
    (λ k. spells (v ∷ us) k t_later b_later)

text_is_units : (us : List ℕ) → list_all is_text_unit us ≡ true → list_all is_unit us ≡ true
text_is_units [] t = refl
text_is_units (u ∷ us) t =
    let first = (and_parts (is_text_unit u) (list_all is_text_unit us) t).0 in
    and_true _ _ (and_parts (nat_le 32 u) (is_unit u) (and_parts (nat_le 32 u && is_unit u) (not (u == 34)) first).0).1
    (text_is_units us (and_parts (is_text_unit u) (list_all is_text_unit us) t).1)

pub string_back : StringsComeBack
string_back us t h =
    let s = spells us h t (text_is_units us t) in
    record {
      string = ap utf16_of (chars-encodes (utf16_lossy_chars us) s.scalar) ∙ s.units;
      utf8 = (utf16_lossy_chars us, (s.scalar, refl));
      quoted = s.quoted;
    }
