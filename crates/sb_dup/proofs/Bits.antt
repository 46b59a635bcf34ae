-- Bits of accesses.
use Rattle.std.proofs.Common.{◌≡◌, ◌∙◌, ℕ, Bool, true, false, ap, sym, arith}
use Rattle.std.specs.Prelude.{bit_and, ◌||◌, if◌then◌else◌}
use Rattle.std.proofs.lemmas.Nat.{and_assoc, and_comm}
use Rattle.std.proofs.lemmas.Nat.Bits.{bit_at_and, same_from_bits}
use Rattle.sb_rule.specs.Accesses.{read_only_bits}
use Rattle.sb_dup.specs.Passes.{access_granted, is_cut}
use Rattle.sb_rule.specs.declared.verdicts.Verdict.{Verdict}

-- all bits of a number are its own
pub own_bits : (a : ℕ) → bit_and a a ≡ a
own_bits a = same_from_bits (bit_and a a) a (λ i. bit_at_and a a i ∙ omega arith)

-- bits of bits
pub bits_of : (a b c : ℕ) → bit_and a b ≡ a → bit_and b c ≡ b → bit_and a c ≡ a
bits_of a b c p q = ap (λ x. bit_and x c) (sym p) ∙ and_assoc c a b ∙ ap (bit_and a) q ∙ p

-- some of them
pub some_bits : (a m b : ℕ) → bit_and a b ≡ a → bit_and (bit_and a m) b ≡ bit_and a m
some_bits a m b p =
    and_assoc b a m ∙ ap (bit_and a) (and_comm m b) ∙ sym (and_assoc m a b) ∙ ap (λ x. bit_and x m) p

-- what verdicts grant has no other bits than what was asked for
pub granted_within : (giver taker : Verdict) (access held : ℕ) → bit_and access held ≡ access
    → bit_and (access_granted giver taker access) held ≡ access_granted giver taker access
granted_within giver taker access held h = by (is_cut giver || is_cut taker)
  where
    by : (b : Bool) → bit_and (if b then bit_and access read_only_bits else access) held ≡ (if b then bit_and access read_only_bits else access)
    by true = some_bits access read_only_bits held h
    by false = h
