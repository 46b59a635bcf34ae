-- Texts appended one after another.
use Rattle.std.proofs.Common.{◌≡◌, ◌∙◌, ◌++◌, ℕ, List, ap, append_assoc}

-- two appended texts are one
pub appended : (t u v a b : List ℕ) → u ≡ t ++ a → v ≡ u ++ b → v ≡ t ++ (a ++ b)
appended t u v a b e f = f ∙ (ap (λ (w : List ℕ). w ++ b) e ∙ append_assoc t a b)
