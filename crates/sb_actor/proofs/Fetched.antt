-- The words of a reply that a thread fetches.
use Rattle.std.proofs.Common.{◌≡◌, refl, ap, List, [], ◌∷◌, ◌++◌, ℕ, zero, suc, ◌+◌, true, length, set, take, arith}
use Rattle.sb_actor.specs.Endings.{fetched, is_free}
use Rattle.sb_actor.specs.ThreadStages.{thread_stage}
use Rattle.sb_actor.specs.declared.stages.ThreadStage.{ThreadStage}
use Rattle.sb_actor.specs.declared.stages.ThreadStage.TheVariants as code

pub fetched_whole : (stage : ThreadStage) (reply : List ℕ) → is_free (thread_stage stage reply) ≡ true → fetched (thread_stage stage reply) ≡ reply
fetched_whole (code.Free c) reply e = refl
fetched_whole _ reply e = absurd cc

-- the last word makes the reply whole
pub last_word : (reply : List ℕ) (at value : ℕ) → at + 1 ≡ length reply → set reply at value ≡ take at reply ++ value ∷ []
last_word [] at value e = absurd (omega (arith, e))
last_word (word ∷ reply) zero value e = alone reply e
  where
    alone : (rest : List ℕ) → zero + 1 ≡ length (word ∷ rest) → set (word ∷ rest) zero value ≡ take zero (word ∷ rest) ++ value ∷ []
    alone [] e = refl
    alone (x ∷ rest) e = absurd (omega (arith, e))
last_word (word ∷ reply) (suc at) value e = ap (λ words. word ∷ words) (last_word reply at value (omega (arith, e)))
