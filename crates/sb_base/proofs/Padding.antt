-- What a number that is filled up with zeros looks like.
use Rattle.std.specs.Prelude.{◌≡◌, ℕ, ◌-◌, ◌^◌, false, List, [], ◌++◌, length, drop, codes}
use Rattle.std.specs.Fmt.{padded_integral, char_count, format_spec}
use Rattle.std.proofs.Common.{ap, arith}
use Rattle.std.proofs.Math.ListN.{replicate}
use Rattle.std.proofs.lemmas.List.{drop-replicate, append-nil}

-- zeros before the digits, if they are fewer than eight
pub filled_to_eight : (numeral : List ℕ) → padded_integral (format_spec 32 0 4 8 (2 ^ 64 - 1)) false [] numeral ≡ drop (length numeral) (codes "00000000") ++ numeral
unfolding padded_integral char_count
filled_to_eight numeral = rw (append-nil numeral, drop-replicate {X = ℕ} (length numeral) 8 48)
    (ap (λ (k : ℕ). replicate k 48 ++ numeral) {x = 8 - length numeral - 0 - 0} {y = 8 - length numeral} (omega arith))
