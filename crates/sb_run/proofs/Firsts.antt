-- What was started, as it was at first, and threads of which the caller has no step to make.
use Rattle.std.proofs.Common.{◌≡◌, ◌∙◌, ◌+◌, ◌<◌, ◌≤◌, ◌++◌, ap, subst, sym, ℕ, zero, suc, Bool, false, List, [], ◌∷◌, map, length, slice_index_or, slice_set, take, arith}
use Rattle.std.proofs.lemmas.List.{length-map, map-append, take_all, take_more_set}
use Rattle.std.proofs.lemmas.List.Elements.{All-append, All-cons, All-head, All-nil, All-tail}
use Rattle.std.proofs.Math.Seq.{map-set_same}
use Rattle.std.specs.List.{All, AllZip}
use Rattle.sb_shared.specs.Seats.{ThreadSeatValue}
use Rattle.sb_run.specs.Started.{IsDone, StartedAt, is_unfinished}
use Rattle.sb_run.proofs.Crewed.{zip_more}

-- one more at the end
pub firsts_more : {S X : Type 0} (f : S → X) (xs ys : List S) (s : S) (seen : List X) (x : X) → ys ≡ xs ++ s ∷ [] → map f xs ≡ seen → f s ≡ x → map f ys ≡ seen ++ x ∷ []
firsts_more f xs ys s seen x e h g = ap (map f) e ∙ map-append f xs (s ∷ []) ∙ (λ i. h i ++ g i ∷ [])

-- one more that was joined
pub joined_more : {S A B : Type 0} (f : S → A) (P : A → B → Type 0) (xs : List S) (ys zs : List B) (s : S) (y : B) → zs ≡ ys ++ y ∷ [] → AllZip P (map f xs) ys → P (f s) y
    → AllZip P (map f (xs ++ s ∷ [])) zs
joined_more f P xs ys zs s y e all one =
    subst (λ l. AllZip P (map f (xs ++ s ∷ [])) l) (sym e)
    (subst (λ l. AllZip P l (ys ++ y ∷ [])) (sym (map-append f xs (s ∷ []))) (zip_more P (map f xs) ys (f s) y all one))

-- what holds of each at first holds of the one at a place
pub first_at : {S X : Type 0} (f : S → X) (P : X → Type 0) (xs : List S) (i : ℕ) (d : S) → i < length xs → All P (map f xs) → P (f (slice_index_or xs i d))
first_at f P [] i d low all = absurd (omega (arith, low))
first_at f P (x ∷ xs) zero d low all = All-head P (f x) (map f xs) all
first_at f P (x ∷ xs) (suc i) d low all = first_at f P xs i d (omega (arith, low)) (All-tail P (f x) (map f xs) all)

pub same_length : {S X : Type 0} (f : S → X) (xs ys : List S) → map f xs ≡ map f ys → length xs ≡ length ys
same_length f xs ys e = sym (length-map xs f) ∙ ap length e ∙ length-map ys f

-- one of them makes a step
pub firsts_set : {S X : Type 0} (f : S → X) (xs : List S) (i : ℕ) (old new : S) → old ≡ slice_index_or xs i old → f new ≡ f old → map f (slice_set xs i new) ≡ map f xs
firsts_set f xs i old new at same = map-set_same f xs i new old (same ∙ ap f at)

-- it has none to make, as those before it
pub done_more : (xs : List StartedAt) (i : ℕ) (old new : StartedAt) (got : Bool) → i < length xs → got ≡ is_unfinished old.caller → (got ≡ false → new ≡ old) → got ≡ false
    → All IsDone (take i xs) → All IsDone (take (i + 1) (slice_set xs i new))
done_more xs i old new got low is idle none all =
    subst (All IsDone) (sym (take_more_set xs i new low))
    (All-append IsDone (take i xs) (new ∷ []) all (All-cons IsDone new [] (subst IsDone (sym (idle none)) (sym is ∙ none)) (All-nil IsDone)))

pub all_done : (xs : List StartedAt) (i : ℕ) → length xs ≤ i → All IsDone (take i xs) → All IsDone xs
all_done xs i more all = subst (All IsDone) (take_all i xs more) all
