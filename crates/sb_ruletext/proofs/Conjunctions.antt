-- Tests that hold together.
use Rattle.std.proofs.Common.{◌≡◌, Bool, true, List, [], ◌∷◌, refl}
use Rattle.std.proofs.lemmas.Bool.{and_parts, and_from}
use Rattle.std.specs.List.{list_all}

pub all_more : {A : Type 0} (p q : A → Bool) → ((x : A) → p x ≡ true → q x ≡ true) → (xs : List A) → list_all p xs ≡ true → list_all q xs ≡ true
all_more p q f [] h = refl
all_more p q f (x ∷ xs) h = and_from _ _ (f x (and_parts _ _ h).0) (all_more p q f xs (and_parts _ _ h).1)
