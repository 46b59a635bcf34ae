-- Strings are read back from between their quotes.
use Rattle.std.proofs.Common.{◌≡◌, ◌∙◌, ℕ, ◌+◌, ◌*◌, ◌/◌, ◌%◌, ◌^◌, ◌<◌, ◌==◌, Bool, true, false, cond, leb, refl, ap, arith, List, [], ◌∷◌, ◌++◌, ◌&&◌, ◌||◌, append_assoc, None, Some}
use Rattle.std.proofs.lemmas.Bool.{and_parts}
use Rattle.std.proofs.lemmas.Bool.Decides.{nat_tests}
use Rattle.std.specs.List.{list_all, flat_map}
use Rattle.sb_base.specs.Quoting.{hex_digit, quoted_unit}
use Rattle.sb_base.specs.Wide.{is_unit}
use Rattle.sb_text.specs.Numbers.{digit_of}
use Rattle.sb_transcript.specs.Strings.{with_digit, unit_of, escape_after, with_unit, unquoted_from}
use Rattle.sb_transcript.specs.declared.strings.Escape.TheVariants.{Outside, Begun, NoDigit}

digit_back : (d : ℕ) → d < 16 → digit_of (hex_digit d) ≡ d
digit_back d h = grind (arith, nat_tests)

with_back : (v d : ℕ) → v < 4096 → d < 16 → with_digit v (hex_digit d) ≡ v * 16 + d
with_back v d h k = ap (λ n. (v * 16 + n) % 2 ^ 16) (digit_back d k) ∙ omega arith

four_back : (u : ℕ) → u < 65536 → with_digit (with_digit (with_digit (with_digit 0 (hex_digit (u / 4096))) (hex_digit (u / 256 % 16))) (hex_digit (u / 16 % 16))) (hex_digit (u % 16)) ≡ u
four_back u h =
    let a : with_digit 0 (hex_digit (u / 4096)) ≡ u / 4096 = with_back 0 (u / 4096) (omega arith) (omega arith) ∙ omega arith in
    let b : with_digit (u / 4096) (hex_digit (u / 256 % 16)) ≡ u / 256 = with_back (u / 4096) (u / 256 % 16) (omega arith) (omega arith) ∙ omega arith in
    let c : with_digit (u / 256) (hex_digit (u / 16 % 16)) ≡ u / 16 = with_back (u / 256) (u / 16 % 16) (omega arith) (omega arith) ∙ omega arith in
    let d : with_digit (u / 16) (hex_digit (u % 16)) ≡ u = with_back (u / 16) (u % 16) (omega arith) (omega arith) ∙ omega arith in
    ap (λ v. with_digit (with_digit (with_digit v (hex_digit (u / 256 % 16))) (hex_digit (u / 16 % 16))) (hex_digit (u % 16))) a
    ∙ ap (λ v. with_digit (with_digit v (hex_digit (u / 16 % 16))) (hex_digit (u % 16))) b
    ∙ ap (λ v. with_digit v (hex_digit (u % 16))) c ∙ d

abbrev unit_text : ℕ → Bool → Bool → List ℕ
unit_text u b1 b2 = cond b1 (92 ∷ u ∷ []) (cond b2 (u ∷ []) (92 ∷ 117 ∷ hex_digit (u / 4096) ∷ hex_digit (u / 256 % 16) ∷ hex_digit (u / 16 % 16) ∷ hex_digit (u % 16) ∷ []))

record IsPlainUnit (u : ℕ) : Type 0 where
  quote : (u == 34) ≡ false
  slash : (u == 92) ≡ false

plain_unit : (u : ℕ) → (u == 34 || u == 92) ≡ false → IsPlainUnit u
plain_unit u h = record { quote = grind (arith, nat_tests); slash = grind (arith, nat_tests) }

no_u : (u : ℕ) → (u == 34 || u == 92) ≡ true → (u == 117) ≡ false
no_u u h = grind (arith, nat_tests)

unit_by : (u : ℕ) (s : List ℕ) (b1 b2 : Bool) → u < 65536 → (u == 34 || u == 92) ≡ b1 → unquoted_from Outside (unit_text u b1 b2 ++ s) ≡ u ∷ unquoted_from Outside s
unit_by u s true b2 h e =
    ap (λ t. with_unit (cond t None (Some u)) (unquoted_from (cond t NoDigit Outside) s)) (no_u u e)
unit_by u s false true h e =
    let p = plain_unit u e in
    ap (λ t. cond t [] (with_unit (unit_of Outside u) (unquoted_from (escape_after Outside u) s))) p.quote
    ∙ ap (λ t. with_unit (cond t None (Some u)) (unquoted_from (cond t Begun Outside) s)) p.slash
unit_by u s false false h e = ap (λ v. v ∷ unquoted_from Outside s) (four_back u h)

unit_back : (u : ℕ) (s : List ℕ) → u < 65536 → unquoted_from Outside (quoted_unit u ++ s) ≡ u ∷ unquoted_from Outside s
unit_back u s h = unit_by u s (u == 34 || u == 92) (leb 32 u && leb u 126) h refl

below : (u : ℕ) → is_unit u ≡ true → u < 65536
below u h = grind (arith, nat_tests)

pub units_back : (us : List ℕ) → list_all is_unit us ≡ true → unquoted_from Outside (flat_map quoted_unit us ++ 34 ∷ []) ≡ us
units_back [] h = refl
units_back (u ∷ us) h =
    let p = and_parts (is_unit u) (list_all is_unit us) h in
    ap (unquoted_from Outside) (append_assoc (quoted_unit u) (flat_map quoted_unit us) (34 ∷ []))
    ∙ unit_back u (flat_map quoted_unit us ++ 34 ∷ []) (below u p.0) ∙ ap (λ vs. u ∷ vs) (units_back us p.1)
