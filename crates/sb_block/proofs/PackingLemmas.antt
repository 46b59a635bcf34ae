-- What is known of packed units.
use Rattle.std.proofs.Common.{◌≡◌, ℕ, suc, ◌+◌, ◌/◌, ◌^◌, ◌<◌, List, [], ◌∷◌, true, length, arith, refl}
use Rattle.std.proofs.lemmas.Bool.Decides.{nat_tests}
use Rattle.std.specs.Prelude.{slice_index}
use Rattle.std.specs.List.{list_all}
use Rattle.sb_base.specs.Wide.{is_unit}
use Rattle.sb_block.specs.Packing.{packed}

-- units take a quarter as many words, rounded up
pub packed_len : (us : List ℕ) → length (packed us) ≡ (length us + 3) / 4
packed_len [] = omega arith
packed_len (a ∷ []) = omega arith
packed_len (a ∷ b ∷ []) = omega arith
packed_len (a ∷ b ∷ c ∷ []) = omega arith
packed_len (a ∷ b ∷ c ∷ d ∷ more) = omega (arith, packed_len more)

-- if each unit has 16 bits, all do
pub units_pass : (us : List ℕ) → ((k : ℕ) → slice_index us k < 2 ^ 16) → list_all is_unit us ≡ true
units_pass [] h = refl
units_pass (u ∷ us) h =
    let here : is_unit u ≡ true = grind (arith, nat_tests, h 0) in
    rw (here, units_pass us (λ k. h (suc k)))
