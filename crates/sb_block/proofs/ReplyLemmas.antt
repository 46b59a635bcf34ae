-- What is known of the words of a reply.
use Rattle.std.proofs.Common.{◌≡◌, ℕ, ◌≤◌, List, [], ◌∷◌, length, take, arith, refl}
use Rattle.std.specs.Prelude.{min}
use Rattle.sb_block.specs.Replies.{seven_of}

-- at most seven words are the first of the seven that represent them
pub seven_back : (xs : List ℕ) → length xs ≤ 7 → take (min (length xs) 7) (seven_of xs) ≡ xs
seven_back [] h = refl
seven_back (a ∷ []) h = refl
seven_back (a ∷ b ∷ []) h = refl
seven_back (a ∷ b ∷ c ∷ []) h = refl
seven_back (a ∷ b ∷ c ∷ d ∷ []) h = refl
seven_back (a ∷ b ∷ c ∷ d ∷ e ∷ []) h = refl
seven_back (a ∷ b ∷ c ∷ d ∷ e ∷ f ∷ []) h = refl
seven_back (a ∷ b ∷ c ∷ d ∷ e ∷ f ∷ g ∷ []) h = refl
seven_back (a ∷ b ∷ c ∷ d ∷ e ∷ f ∷ g ∷ k ∷ more) h = absurd (omega arith)
