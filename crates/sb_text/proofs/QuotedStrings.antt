-- What is between quotes is text.
use Rattle.std.proofs.Common.{◌≡◌, refl, sym, ap, subst, ◌∙◌, arith, ℕ, ◌+◌, ◌-◌, ◌/◌, ◌%◌, ◌<◌, ◌≤◌, ◌⊎◌, ⊎_elim, List, [], ◌∷◌, ◌++◌, true, false, not, cond, ◌&&◌, ◌||◌, nat_lt}
use Rattle.std.proofs.Math.Utf8.{scalar, scalars, scalar_cases, encode, encodes}
use Rattle.std.proofs.lemmas.Bool.{and_parts, cases_lt}
use Rattle.std.proofs.lemmas.Bool.Decides.{nat_tests}
use Rattle.std.proofs.lemmas.List.Folds.{list_all-append}
use Rattle.std.proofs.lemmas.Str.{encode_ascii, chars-encodes}
use Rattle.std.specs.Char.Escape.{encode_utf16}
use Rattle.std.specs.List.{list_all}
use Rattle.std.specs.Str.{chars}
use Rattle.sb_text.proofs.WrittenStrings.{and_true}
use Rattle.sb_text.specs.Strings.{QuotedStringsAreText}
use Rattle.sb_base.specs.Surrogates.{is_high, is_low, is_surrogate, is_paired}
use Rattle.sb_text.specs.TokenLaws.{is_quoted_byte}
use Rattle.sb_base.specs.Wide.{utf16_of, is_text_unit}

one_unit : (c : ℕ) → c < 65536 → encode_utf16 c ≡ c ∷ []
one_unit c h = let t : nat_lt c 65536 ≡ true = grind (arith, nat_tests) in rw (t) refl

two_units : (c : ℕ) → 65536 ≤ c → encode_utf16 c ≡ (0xD800 + (c - 65536) / 0x400) ∷ (0xDC00 + (c - 65536) % 0x400) ∷ []
two_units c h = let t : nat_lt c 65536 ≡ false = grind (arith, nat_tests) in rw (t) refl

ascii_text : (c : ℕ) → c < 128 → list_all is_quoted_byte (c ∷ []) ≡ true → list_all is_text_unit (c ∷ []) ≡ true
ascii_text c a h = grind (arith, nat_tests)

high_text : (c : ℕ) → 128 ≤ c → c < 65536 → is_text_unit c ≡ true
high_text c h b = grind (arith, nat_tests)

one_text : (c : ℕ) → 128 ≤ c → c < 65536 → list_all is_text_unit (c ∷ []) ≡ true
one_text c h b = and_true (is_text_unit c) true (high_text c h b) refl

two_text : (c d : ℕ) → 128 ≤ c → c < 65536 → 128 ≤ d → d < 65536 → list_all is_text_unit (c ∷ d ∷ []) ≡ true
two_text c d h b k e = and_true (is_text_unit c) (list_all is_text_unit (d ∷ [])) (high_text c h b) (one_text d k e)

-- the first half of a pair
first_half : (c : ℕ) → (c < 55296) ⊎ ((57344 ≤ c) × (c < 1114112)) → 0xD800 + (c - 65536) / 0x400 ≤ 0xDBFF
first_half c s = ⊎_elim (λ a. omega (arith, a)) (λ a. omega (arith, a.1)) s

char_text : (c : ℕ) → scalar c ≡ true → list_all is_quoted_byte (encode c) ≡ true → list_all is_text_unit (encode_utf16 c) ≡ true
char_text c s h = ⊎_elim
    (λ a. subst (λ l. list_all is_text_unit l ≡ true) (sym (one_unit c (omega (arith, a)))) (ascii_text c a (subst (λ l. list_all is_quoted_byte l ≡ true) (encode_ascii c a) h)))
    (λ a. ⊎_elim (λ b. subst (λ l. list_all is_text_unit l ≡ true) (sym (one_unit c b)) (one_text c a b))
    (λ b. subst (λ l. list_all is_text_unit l ≡ true) (sym (two_units c b))
    (let high = first_half c (scalar_cases c s) in
    two_text (0xD800 + (c - 65536) / 0x400) (0xDC00 + (c - 65536) % 0x400) (omega arith) (omega (arith, high)) (omega arith) (omega arith)))
    (cases_lt c 65536))
    (cases_lt c 128)

-- a unit that is no surrogate, before text
alone : (c : ℕ) (us : List ℕ) → is_high c ≡ false → is_low c ≡ false → is_paired us ≡ true → is_paired (c ∷ us) ≡ true
alone c [] h l k = λ i. not (h i || l i)
alone c (v ∷ us) h l k = (λ i. cond (h i && is_low v) (is_paired us) (not (h i || l i) && is_paired (v ∷ us))) ∙ k

paired_one : (c : ℕ) (us : List ℕ) → (c < 55296) ⊎ ((57344 ≤ c) × (c < 1114112)) → is_paired us ≡ true → is_paired (c ∷ us) ≡ true
paired_one c us s k = alone c us
    (⊎_elim (λ a. grind (arith, nat_tests)) (λ a. grind (arith, nat_tests)) s) (⊎_elim (λ a. grind (arith, nat_tests)) (λ a. grind (arith, nat_tests)) s) k

paired_two : (h l : ℕ) (us : List ℕ) → 0xD800 ≤ h → h ≤ 0xDBFF → 0xDC00 ≤ l → l ≤ 0xDFFF → is_paired us ≡ true → is_paired (h ∷ l ∷ us) ≡ true
paired_two h l us a b c d k =
    let first : is_high h ≡ true = grind (arith, nat_tests) in
    let second : is_low l ≡ true = grind (arith, nat_tests) in
    (λ i. cond (first i && second i) (is_paired us) (not (is_surrogate h) && is_paired (l ∷ us))) ∙ k

paired : (c : ℕ) (us : List ℕ) → scalar c ≡ true → is_paired us ≡ true → is_paired (encode_utf16 c ++ us) ≡ true
paired c us s k = ⊎_elim
    (λ b. subst (λ l. is_paired (l ++ us) ≡ true) (sym (one_unit c b)) (paired_one c us (scalar_cases c s) k))
    (λ b. subst (λ l. is_paired (l ++ us) ≡ true) (sym (two_units c b))
    (paired_two (0xD800 + (c - 65536) / 0x400) (0xDC00 + (c - 65536) % 0x400) us (omega arith) (first_half c (scalar_cases c s)) (omega arith) (omega arith) k))
    (cases_lt c 65536)

text : (cs : List ℕ) → scalars cs ≡ true → list_all is_quoted_byte (encodes cs) ≡ true
    → (list_all is_text_unit (utf16_of cs) ≡ true) × (is_paired (utf16_of cs) ≡ true)
text [] s h = (refl, refl)
text (c ∷ cs) s h =
    let split : (list_all is_quoted_byte (encode c) && list_all is_quoted_byte (encodes cs)) ≡ true = sym (list_all-append is_quoted_byte (encode c) (encodes cs)) ∙ h in
    let later = text cs (and_parts (scalar c) (scalars cs) s).1 (and_parts _ _ split).1 in (
      list_all-append is_text_unit (encode_utf16 c) (utf16_of cs) ∙ and_true _ _ (char_text c (and_parts (scalar c) (scalars cs) s).0 (and_parts _ _ split).0) later.0,
      paired c (utf16_of cs) (and_parts (scalar c) (scalars cs) s).0 later.1,
    )

-- the string that is between two quotes is text, and well-formed UTF-16
pub quoted_is_text : QuotedStringsAreText
quoted_is_text q u h =
    let cs_is : u.0 ≡ chars q = sym (chars-encodes u.0 u.1.0) ∙ ap chars u.1.1 in
    subst (λ cs. (list_all is_text_unit (utf16_of cs) ≡ true) × (is_paired (utf16_of cs) ≡ true)) cs_is
    (text u.0 u.1.0 (subst (λ b. list_all is_quoted_byte b ≡ true) (sym u.1.1) h))
