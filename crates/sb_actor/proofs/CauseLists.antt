-- Lists of values that steps found, with one more at the end.
use Rattle.std.proofs.Common.{◌≡◌, ◌∙◌, refl, sym, ap, ℕ, ◌+◌, Bool, true, false, ◌&&◌, List, [], ◌∷◌, ◌++◌, length, length-append, append_assoc}
use Rattle.std.proofs.lemmas.Bool.{and_from}
use Rattle.std.proofs.lemmas.List.{append-nil}
use Rattle.std.specs.List.{list_all}
use Rattle.sb_actor.specs.Causes.{joined}

pub all_snoc : {X : Type 0} (p : X → Bool) (xs : List X) (y : X) → list_all p (xs ++ y ∷ []) ≡ (list_all p xs && p y)
all_snoc p [] y = by_test (p y)
  where
    by_test : (b : Bool) → (b && true) ≡ (true && b)
    by_test true = refl
    by_test false = refl
all_snoc p (x ∷ xs) y = by_test (p x) (all_snoc p xs y)
  where
    by_test : (b : Bool) → list_all p (xs ++ y ∷ []) ≡ (list_all p xs && p y) → (b && list_all p (xs ++ y ∷ [])) ≡ ((b && list_all p xs) && p y)
    by_test true e = e
    by_test false e = refl

pub all_more : {X : Type 0} (p : X → Bool) (xs : List X) (y : X) → list_all p xs ≡ true → p y ≡ true → list_all p (xs ++ y ∷ []) ≡ true
all_more p xs y h k = all_snoc p xs y ∙ and_from (list_all p xs) (p y) h k

pub length_snoc : {X : Type 0} (xs : List X) (y : X) → length (xs ++ y ∷ []) ≡ length xs + 1
length_snoc xs y = length-append xs (y ∷ [])

-- a value more after a beginning and a mark
pub snoc_behind : (found before : List ℕ) (mark : ℕ) (values : List ℕ) (n : ℕ) → found ≡ before ++ mark ∷ values → found ++ n ∷ [] ≡ before ++ mark ∷ (values ++ n ∷ [])
snoc_behind found before mark values n e = ap (λ (l : List ℕ). l ++ n ∷ []) e ∙ append_assoc before (mark ∷ values) (n ∷ [])

-- a value more after whole rounds and a part
pub snoc_part : (found : List ℕ) (rounds : List (List ℕ)) (part : List ℕ) (n : ℕ) → found ≡ joined rounds ++ part → found ++ n ∷ [] ≡ joined rounds ++ (part ++ n ∷ [])
snoc_part found rounds part n e = ap (λ (l : List ℕ). l ++ n ∷ []) e ∙ append_assoc (joined rounds) part (n ∷ [])

joined_snoc : (rounds : List (List ℕ)) (round : List ℕ) → joined (rounds ++ round ∷ []) ≡ joined rounds ++ round
joined_snoc [] round = append-nil round
joined_snoc (first ∷ rounds) round = ap (λ (l : List ℕ). first ++ l) (joined_snoc rounds round) ∙ sym (append_assoc first (joined rounds) round)

-- the part is a whole round
pub snoc_round : (found : List ℕ) (rounds : List (List ℕ)) (part : List ℕ) (n : ℕ) → found ≡ joined rounds ++ part
    → found ++ n ∷ [] ≡ joined (rounds ++ (part ++ n ∷ []) ∷ []) ++ []
snoc_round found rounds part n e = snoc_part found rounds part n e ∙ (sym (joined_snoc rounds (part ++ n ∷ [])) ∙ sym (append-nil (joined (rounds ++ (part ++ n ∷ []) ∷ []))))
