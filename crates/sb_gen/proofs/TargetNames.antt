-- The names of targets.
use Rattle.std.proofs.Common.{◌≡◌, ◌<◌, ◌+◌, ◌∷◌, ap, true, ℕ, [], arith}
use Rattle.std.proofs.lemmas.Bool.Decides.{nat_tests}
use Rattle.std.proofs.lemmas.Fmt.{decimal_digit}
use Rattle.sb_call.specs.ShortNames.{is_short_name}
use Rattle.sb_gen.specs.Scripts.{name_of}

pub name_is_made : (t : ℕ) → t < 8 → name_of t ≡ 109 ∷ (48 + t) ∷ []
name_is_made t small = let ten : t < 10 = omega arith in ap (λ ds. 109 ∷ ds) (decimal_digit t ten)

pub name_is_short : (t : ℕ) → t < 8 → is_short_name (109 ∷ (48 + t) ∷ []) ≡ true
name_is_short t small = grind (arith, nat_tests)
