-- Quoted units are printable.
use Rattle.std.proofs.Common.{◌≡◌, ◌∙◌, ℕ, ◌/◌, ◌%◌, ◌<◌, true, List, [], ◌∷◌, ◌&&◌, refl, ap, arith}
use Rattle.std.proofs.lemmas.Bool.{and_parts}
use Rattle.std.proofs.lemmas.Bool.Decides.{nat_tests}
use Rattle.std.proofs.lemmas.List.Folds.{list_all-append}
use Rattle.std.specs.List.{list_all, flat_map}
use Rattle.sb_base.specs.Quoting.{hex_digit, quoted_unit, is_printable, QuotesArePrintable}
use Rattle.sb_base.specs.Wide.{is_unit}

digit_printable : (d : ℕ) → d < 16 → is_printable (hex_digit d) ≡ true
digit_printable d h = grind (arith, nat_tests)

unit_printable : (u : ℕ) → is_unit u ≡ true → list_all is_printable (quoted_unit u) ≡ true
unit_printable u h =
    let a = digit_printable (u / 4096) (grind (arith, nat_tests)) in
    let b = digit_printable (u / 256 % 16) (omega arith) in
    let c = digit_printable (u / 16 % 16) (omega arith) in
    let d = digit_printable (u % 16) (omega arith) in
    grind (arith, nat_tests)

units_printable : (us : List ℕ) → list_all is_unit us ≡ true → list_all is_printable (flat_map quoted_unit us) ≡ true
units_printable [] h = refl
units_printable (u ∷ us) h =
    let p = and_parts (is_unit u) (list_all is_unit us) h in
    list_all-append is_printable (quoted_unit u) (flat_map quoted_unit us) ∙ (λ i. unit_printable u p.0 i && units_printable us p.1 i)

pub quotes_are_printable : QuotesArePrintable
quotes_are_printable us h =
    list_all-append is_printable (flat_map quoted_unit us) (34 ∷ []) ∙ ap (λ b. b && true) (units_printable us h)
