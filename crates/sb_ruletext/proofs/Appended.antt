-- What is appended for each element of a list, one after another.
use Rattle.std.proofs.Common.{◌≡◌, ◌∙◌, ◌<◌, ◌+◌, ◌++◌, ◌∷◌, [], ℕ, Bool, true, List, refl, ap, sym, get_or, length, take}
use Rattle.std.proofs.lemmas.Bool.{and_from}
use Rattle.std.proofs.lemmas.List.{append_assoc, take_more}
use Rattle.std.proofs.lemmas.List.Folds.{list_all-append}
use Rattle.std.specs.List.{list_all}

-- the elements so far, and the next one
pub next_taken : {A : Type 0} (xs : List A) (i : ℕ) (x : A) → i < length xs → x ≡ get_or xs i x → take (i + 1) xs ≡ take i xs ++ x ∷ []
next_taken xs i x h is = take_more xs i x h ∙ ap (λ y. take i xs ++ y ∷ []) (sym is)

-- the text so far, with the part of the next element
pub part_appended : {A : Type 0} (text_of : List A → List ℕ) (xs : List A) (i : ℕ) (x : A) (part old now next : List ℕ)
    → take (i + 1) xs ≡ take i xs ++ x ∷ [] → text_of (take i xs ++ x ∷ []) ≡ text_of (take i xs) ++ part
    → now ≡ old ++ text_of (take i xs) → next ≡ now ++ part → next ≡ old ++ text_of (take (i + 1) xs)
part_appended text_of xs i x part old now next taken more so_far put =
    put ∙ ap (λ t. t ++ part) so_far ∙ append_assoc old (text_of (take i xs)) part ∙ ap (λ t. old ++ t) (sym more ∙ ap text_of (sym taken))

-- a test that holds of the elements so far, and of the next one
pub all_next : {A : Type 0} (p : A → Bool) (xs : List A) (i : ℕ) (x : A) → take (i + 1) xs ≡ take i xs ++ x ∷ []
    → list_all p (take i xs) ≡ true → p x ≡ true → list_all p (take (i + 1) xs) ≡ true
all_next p xs i x taken so_far k = ap (list_all p) taken ∙ list_all-append p (take i xs) (x ∷ []) ∙ and_from _ _ so_far (and_from _ _ k refl)
