-- Lists: what is in them, tests of each element, and numbers that rise.
use Rattle.std.proofs.Common.{◌≡◌, ◌∙◌, ℕ, ◌+◌, ◌<◌, ◌≤◌, zero, suc, Bool, true, false, not, cond, ltb, ◌&&◌, ◌||◌, List, [], ◌∷◌, ◌++◌, map, length, None, Some, slice_get, filter, position, option_map, refl, ap, sym, subst, arith}
use Rattle.std.proofs.lemmas.Bool.{and_parts, lt-ltb, or_parts}
use Rattle.std.proofs.lemmas.Option.{none-some, slice_get-map, slice_get_within}
use Rattle.std.specs.List.{list_all, list_any, prefix_len}
use Rattle.std.specs.Prelude.{⊤}

-- the element is in the list
abbrev pub IsIn : {A : Type 0} → A → List A → Type 0
IsIn x xs = (n : ℕ) × (slice_get xs n ≡ Some x)

-- it holds of each element
abbrev pub AllOf : {A : Type 0} → (A → Type 0) → List A → Type 0
AllOf P [] = ⊤
AllOf P (x ∷ xs) = P x × AllOf P xs

pub AllOf-append : {A : Type 0} (P : A → Type 0) (xs ys : List A) → AllOf P xs → AllOf P ys → AllOf P (xs ++ ys)
AllOf-append P [] ys a b = b
AllOf-append P (x ∷ xs) ys a b = (a.0, AllOf-append P xs ys a.1 b)

pub some_same : {A : Type 0} (x y : A) → Some x ≡ Some y → x ≡ y
some_same x y e = cc

later : {A : Type 0} (x y : A) (ys : List A) → IsIn x ys → IsIn x (y ∷ ys)
later x y ys (n, h) = (suc n, h)

-- ---- filters and maps

kept_on : {A : Type 0} (b : Bool) (x y : A) (zs : List A) → IsIn x zs → IsIn x (cond b (y ∷ zs) zs)
kept_on true x y zs (n, h) = (suc n, h)
kept_on false x y zs w = w

-- an element that passes is among those that pass
pub filtered : {A : Type 0} (p : A → Bool) (xs : List A) (n : ℕ) (x : A) → slice_get xs n ≡ Some x → p x ≡ true → IsIn x (filter p xs)
filtered p [] n x h t = absurd (none-some x h)
filtered p (y ∷ ys) zero x h t =
    let passes : p y ≡ true = ap p (some_same y x h) ∙ t in
    (0, ap (λ b. slice_get (cond b (y ∷ filter p ys) (filter p ys)) 0) passes ∙ h)
filtered p (y ∷ ys) (suc n) x h t = kept_on (p y) x y (filter p ys) (filtered p ys n x h t)

with_first : {A : Type 0} (p : A → Bool) (b : Bool) (x y : A) (ys zs : List A) → p y ≡ b → (IsIn x zs → IsIn x ys × (p x ≡ true)) → IsIn x (cond b (y ∷ zs) zs)
    → IsIn x (y ∷ ys) × (p x ≡ true)
with_first p true x y ys zs e more (zero, h) = ((0, h), ap p (sym (some_same y x h)) ∙ e)
with_first p true x y ys zs e more (suc n, h) = let w = more (n, h) in (later x y ys w.0, w.1)
with_first p false x y ys zs e more w = let v = more w in (later x y ys v.0, v.1)

-- and each of these is in the list, and passes
pub unfiltered : {A : Type 0} (p : A → Bool) (xs : List A) (x : A) → IsIn x (filter p xs) → IsIn x xs × (p x ≡ true)
unfiltered p [] x (n, h) = absurd (none-some x h)
unfiltered p (y ∷ ys) x w = with_first p (p y) x y ys (filter p ys) refl (unfiltered p ys x) w

pub mapped : {A B : Type 0} (f : A → B) (xs : List A) (x : A) → IsIn x xs → IsIn (f x) (map f xs)
mapped f xs x (n, h) = (n, slice_get-map f xs n ∙ ap (option_map f) h)

pub unmapped : {A B : Type 0} (f : A → B) (xs : List A) (y : B) → IsIn y (map f xs) → (x : A) × IsIn x xs × (f x ≡ y)
unmapped f [] y (n, h) = absurd (none-some y h)
unmapped f (x ∷ xs) y (zero, h) = (x, (0, refl), some_same (f x) y h)
unmapped f (x ∷ xs) y (suc n, h) = let w = unmapped f xs y (n, h) in (w.0, later w.0 x xs w.1, w.2)

-- ---- tests

or_true : (b : Bool) → (b || true) ≡ true
or_true true = refl
or_true false = refl

pub any_true : {A : Type 0} (p : A → Bool) (xs : List A) (x : A) → IsIn x xs → p x ≡ true → list_any p xs ≡ true
any_true p [] x (n, h) t = absurd (none-some x h)
any_true p (y ∷ ys) x (zero, h) t =
    let passes : p y ≡ true = ap p (some_same y x h) ∙ t in
    ap (λ b. b || list_any p ys) passes
any_true p (y ∷ ys) x (suc n, h) t = ap (λ b. p y || b) (any_true p ys x (n, h) t) ∙ or_true (p y)

pub none_passes : {A : Type 0} (p : A → Bool) (xs : List A) (n : ℕ) (x : A) → list_any p xs ≡ false → slice_get xs n ≡ Some x → p x ≡ false
none_passes p [] n x t h = absurd (none-some x h)
none_passes p (y ∷ ys) zero x t h = ap p (sym (some_same y x h)) ∙ (or_parts (p y) (list_any p ys) t).0
none_passes p (y ∷ ys) (suc n) x t h = none_passes p ys n x (or_parts (p y) (list_any p ys) t).1 h

-- ---- the first that passes

passes_at : {A : Type 0} (p : A → Bool) (xs : List A) (n : ℕ) (x : A) → slice_get xs n ≡ Some x → p x ≡ true
    → ((k : ℕ) (y : A) → k < n → slice_get xs k ≡ Some y → p y ≡ false) → prefix_len (λ z. not (p z)) xs ≡ n
passes_at p [] n x h t others = absurd (none-some x h)
passes_at p (y ∷ ys) zero x h t others =
    let passes : p y ≡ true = ap p (some_same y x h) ∙ t in
    ap (λ b. cond (not b) (1 + prefix_len (λ z. not (p z)) ys) 0) passes
passes_at p (y ∷ ys) (suc n) x h t others =
    let fails : p y ≡ false = others 0 y (omega arith) refl in
    let rest : prefix_len (λ z. not (p z)) ys ≡ n = passes_at p ys n x h t (λ k z l e. others (suc k) z (omega arith) e) in
    ap (λ b. cond (not b) (1 + prefix_len (λ z. not (p z)) ys) 0) fails ∙ omega arith

pub position_at : {A : Type 0} (p : A → Bool) (xs : List A) (n : ℕ) (x : A) → slice_get xs n ≡ Some x → p x ≡ true
    → ((k : ℕ) (y : A) → k < n → slice_get xs k ≡ Some y → p y ≡ false) → position p xs ≡ Some n
position_at p xs n x h t others =
    let at : prefix_len (λ z. not (p z)) xs ≡ n = passes_at p xs n x h t others in
    let within : ltb n (length xs) ≡ true = lt-ltb n (length xs) (slice_get_within xs n x h) in
    ap (λ k. cond (ltb k (length xs)) (Some k) None) at ∙ ap (λ b. cond b (Some n) None) within

-- ---- rising numbers

-- the numbers rise, from a lowest on
abbrev pub Rises : ℕ → List ℕ → Type 0
Rises low [] = ⊤
Rises low (m ∷ ms) = (low ≤ m) × Rises (m + 1) ms

pub rises_from : (low high : ℕ) (ms : List ℕ) → low ≤ high → Rises high ms → Rises low ms
rises_from low high [] h a = tt
rises_from low high (m ∷ ms) h a = (omega (arith, a.0), a.1)

rising_step : {A : Type 0} (b : Bool) (f : A → ℕ) (low : ℕ) (d x : A) (zs : List A) (others : Bool)
    → ((k : ℕ) → Rises k (map f zs) → (k ≤ f x) × (others ≡ true)) → Rises low (map f (cond b (d ∷ zs) zs))
    → (low ≤ f x) × (((not b || ltb (f d) (f x)) && others) ≡ true)
rising_step true f low d x zs others more a =
    let w = more (f d + 1) a.1 in
    let below : ltb (f d) (f x) ≡ true = lt-ltb (f d) (f x) (omega (arith, w.0)) in
    (omega (arith, a.0, w.0), rw (below, w.1) refl)
rising_step false f low d x zs others more a = more low a

-- if those that pass rise, each that passes before an element that passes is below it
pub rising_before : {A : Type 0} (p : A → Bool) (f : A → ℕ) (low : ℕ) (done : List A) (x : A) (rest : List A) → p x ≡ true
    → Rises low (map f (filter p (done ++ x ∷ rest))) → (low ≤ f x) × (list_all (λ d. not (p d) || ltb (f d) (f x)) done ≡ true)
rising_before p f low [] x rest t a =
    let first = subst (λ b. Rises low (map f (cond b (x ∷ filter p rest) (filter p rest)))) t a in
    (first.0, refl)
rising_before p f low (d ∷ done) x rest t a =
    rising_step (p d) f low d x (filter p (done ++ x ∷ rest)) (list_all (λ z. not (p z) || ltb (f z) (f x)) done)
    (λ k r. rising_before p f k done x rest t r) a

-- ---- more of lists

pub in_later : {A : Type 0} (x : A) (xs ys : List A) → IsIn x ys → IsIn x (xs ++ ys)
in_later x [] ys w = w
in_later x (y ∷ xs) ys w = later x y (xs ++ ys) (in_later x xs ys w)

pub map_twice : {A B C : Type 0} (g : B → C) (f : A → B) (xs : List A) → map g (map f xs) ≡ map (λ x. g (f x)) xs
map_twice g f [] = refl
map_twice g f (x ∷ xs) = ap (λ l. g (f x) ∷ l) (map_twice g f xs)

pub each_true : {A : Type 0} (p : A → Bool) (xs : List A) (n : ℕ) (x : A) → list_all p xs ≡ true → slice_get xs n ≡ Some x → p x ≡ true
each_true p [] n x t h = absurd (none-some x h)
each_true p (y ∷ ys) zero x t h = ap p (sym (some_same y x h)) ∙ (and_parts (p y) (list_all p ys) t).0
each_true p (y ∷ ys) (suc n) x t h = each_true p ys n x (and_parts (p y) (list_all p ys) t).1 h

-- what is at the seam of two lists
pub at_seam : {A : Type 0} (xs : List A) (x : A) (ys : List A) → slice_get (xs ++ x ∷ ys) (length xs) ≡ Some x
at_seam [] x ys = refl
at_seam (y ∷ xs) x ys = at_seam xs x ys
