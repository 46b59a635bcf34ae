-- Texts one after another.
use Rattle.std.proofs.Common.{◌≡◌, ℕ, List, [], ◌∷◌, ◌++◌, ap, append-nil}
use Rattle.sb_outside.specs.Outside.{joined}

-- a text alone, joined
pub one_text : (text : List ℕ) → joined (text ∷ []) ≡ text
one_text text = append-nil text

-- two texts joined
pub two_texts : (first second : List ℕ) → joined (first ∷ second ∷ []) ≡ first ++ second
two_texts first second = ap (λ rest. first ++ rest) (append-nil second)
