-- A text that is appended in parts.
use Rattle.std.specs.Prelude.{OnOk, Result, Ok, Err}
use Rattle.std.proofs.Common.{◌≡◌, ◌∙◌, ℕ, List, ◌++◌, ap, append_assoc}

in_turn : (out h p s : List ℕ) → out ++ h ++ p ++ s ≡ out ++ (h ++ p ++ s)
in_turn out h p s = ap (λ x. x ++ s) (append_assoc out h p) ∙ append_assoc out (h ++ p) s

-- a first part, and then two more, if there is memory for them
pub told_in_turn : {A E : Type 0} (result : Result A E) (out mid new h p s s' : List ℕ) → mid ≡ out ++ h → s' ≡ s
    → OnOk result (new ≡ mid ++ p ++ s') → OnOk result (new ≡ out ++ (h ++ p ++ s))
told_in_turn (Ok x) out mid new h p s s' m l n = n ∙ (λ i. m i ++ p ++ l i) ∙ in_turn out h p s
told_in_turn (Err e) out mid new h p s s' m l n = tt
