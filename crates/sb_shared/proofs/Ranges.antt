-- Lists that grow by one element at a time.
use Rattle.std.proofs.Common.{◌≡◌, ◌∙◌, refl, ap, subst, sym, ℕ, zero, suc, ◌+◌, ◌<◌, ◌≤◌, ◌++◌, List, [], ◌∷◌, map, drop, take, get_or, length, length-append, append_assoc, slice_get, Option, None, Some, arith, ◌↔◌, IsSome, option_to_list}
use Rattle.std.proofs.lemmas.List.FromFn.{map-range_with_len_more}
use mathlib.Core.Option.{some, some-injective, some-ne-none}
use lib.ListN.{get_elem?}
use Rattle.std.proofs.lemmas.List.{append-nil, drop_more, get_or_at, map-append}
use Rattle.std.specs.List.{All, range_with_len}
use Rattle.sb_statements.specs.Actors.{thread_count}
use Rattle.sb_statements.specs.declared.scripts.TargetScript.{TargetScript}
use Rattle.sb_shared.specs.Opening.{places_from}
use Rattle.sb_shared.specs.Rooms.{all_words_from, words_from}

-- one number more
pub range_more : {A : Type 0} (f : ℕ → A) (n : ℕ) (xs ys : List A) (x : A) → xs ≡ map f (range_with_len 0 n) → x ≡ f n → ys ≡ xs ++ x ∷ [] → ys ≡ map f (range_with_len 0 (n + 1))
range_more f n xs ys x e is grown = grown ∙ (λ i. e i ++ is i ∷ []) ∙ sym (map-range_with_len_more f 0 n n (omega arith))

pub range_more_after : {A : Type 0} (f : ℕ → A) (n : ℕ) (before xs ys : List A) (x : A) → xs ≡ before ++ map f (range_with_len 0 n) → x ≡ f n → ys ≡ xs ++ x ∷ []
    → ys ≡ before ++ map f (range_with_len 0 (n + 1))
range_more_after f n before xs ys x e is grown =
    grown ∙ (λ i. e i ++ is i ∷ []) ∙ append_assoc before (map f (range_with_len 0 n)) (f n ∷ []) ∙ ap (λ l. before ++ l) (sym (map-range_with_len_more f 0 n n (omega arith)))

-- an element before the end, and what comes from it on
pub from_there : {A : Type 0} (l : List A) (i : ℕ) → i < length l → (a : A) × (drop i l ≡ a ∷ drop (i + 1) l) × (slice_get l i ≡ Some a)
from_there l i h = let r = at l i h in (r.0, drop_more l i r.0 h ∙ ap (λ a. a ∷ drop (i + 1) l) (sym r.2), r.1)
  where
    at : {A : Type 0} (l : List A) (i : ℕ) → i < length l → (a : A) × (slice_get l i ≡ Some a) × (a ≡ get_or l i a)
    at [] i h = absurd (omega arith)
    at (x ∷ l) zero h = (x, refl, refl)
    at (x ∷ l) (suc i) h = at l i (omega (arith, h))

pub here_at : {A : Type 0} (l : List A) (i : ℕ) (d : A) → i < length l → (drop i l ≡ get_or l i d ∷ drop (i + 1) l) × (get_elem? l i ≡ some (get_or l i d))
here_at {A} l i d h = (drop_more l i d h, at l i h)
  where
    at : (l : List A) (i : ℕ) → i < length l → get_elem? l i ≡ some (get_or l i d)
    at [] i h = absurd (omega arith)
    at (x ∷ l) zero h = refl
    at (x ∷ l) (suc i) h = at l i (omega (arith, h))

-- the threads of one target more
pub places_more : (targets : List TargetScript) (t count : ℕ) (old new all : List (ℕ × ℕ)) → t < length targets → count ≡ thread_count (slice_get targets t)
    → new ≡ old ++ map (λ k. (t, k)) (range_with_len 0 count) → old ++ places_from t (drop t targets) ≡ all → new ++ places_from (t + 1) (drop (t + 1) targets) ≡ all
places_more targets t count old new all here many grown e =
    let x = from_there targets t here in
    let size : count ≡ length (x.0).threads = many ∙ ap thread_count x.2 in
    ap (λ l. l ++ places_from (t + 1) (drop (t + 1) targets)) (grown ∙ ap (λ n. old ++ map (λ k. (t, k)) (range_with_len 0 n)) size)
    ∙ append_assoc old (map (λ k. (t, k)) (range_with_len 0 (length (x.0).threads))) (places_from (t + 1) (drop (t + 1) targets))
    ∙ ap (λ l. old ++ places_from t l) (sym x.1) ∙ e

-- what `next` of an iterator tells: there is no element only if nothing is left
no_element : {A : Type 0} (o : Option A) → o ≡ None → IsSome o → ⊥
no_element None e h = absurd cc
no_element (Some y) e h = absurd cc

pub none_next : {A : Type 0} (old : List A) (o : Option A) (len : ℕ) → len ≡ length old → (IsSome o ↔ (0 < len)) → o ≡ None → old ≡ []
none_next [] o len same there e = refl
none_next (x ∷ old) o len same there e = absurd (no_element o e (there.1 (omega (arith, same))))

pub length_next : {A : Type 0} (old : List A) (o : Option A) (new : List A) (len left : ℕ) → old ≡ option_to_list o ++ new → len ≡ length old → left + length (option_to_list o) ≡ len → left ≡ length new
length_next old o new len left items same less =
    let many = ap (λ l. length l) items ∙ length-append (option_to_list o) new in
    omega (arith, many, same, less)

-- the next element of a list is taken, if there is one
pub taken_more : {A : Type 0} (s : List A) (n : ℕ) (rs now items left : List A) (o : Option A) → rs ≡ take n s → items ≡ drop n s → items ≡ option_to_list o ++ left
    → (o ≡ None → items ≡ []) → now ≡ rs ++ option_to_list o → length rs ≤ n → (now ≡ take (n + 1) s) × (left ≡ drop (n + 1) s) × (length now ≤ n + 1)
taken_more s n rs now items left (Some x) a b c none grown few =
    let front = next_of s n x left (sym b ∙ c) in
    let many = ap (λ l. length l) grown ∙ length-append rs (x ∷ []) in
    (grown ∙ ap (λ l. l ++ x ∷ []) a ∙ front.0, front.1, omega (arith, many, few))
  where
    next_of : {A : Type 0} (s : List A) (n : ℕ) (x : A) (left : List A) → drop n s ≡ x ∷ left → (take n s ++ x ∷ [] ≡ take (n + 1) s) × (left ≡ drop (n + 1) s)
    next_of [] zero x left e = absurd cc
    next_of [] (suc n) x left e = absurd cc
    next_of (y ∷ s) zero x left e = let same : x ≡ y = cc in let rest : left ≡ s = cc in (ap (λ z. z ∷ []) same, rest)
    next_of (y ∷ s) (suc n) x left e =
        let more = next_of s n x left e in
        let one : suc (n + 1) ≡ suc n + 1 = omega arith in
        (ap (λ l. y ∷ l) more.0 ∙ ap (λ z. take z (y ∷ s)) one, more.1 ∙ ap (λ z. drop z (y ∷ s)) one)
taken_more s n rs now items left None a b c none grown few =
    let gone = nothing_left s n (sym b ∙ none refl) in
    let many = ap (λ l. length l) (grown ∙ append-nil rs) in
    (grown ∙ append-nil rs ∙ a ∙ gone.0, sym c ∙ none refl ∙ sym gone.1, omega (arith, many, few))
  where
    none_taken : {A : Type 0} (n : ℕ) → [] ≡ take {A = A} n []
    none_taken zero = refl
    none_taken (suc n) = refl

    none_left : {A : Type 0} (n : ℕ) → drop {A = A} n [] ≡ []
    none_left zero = refl
    none_left (suc n) = refl

    nothing_left : {A : Type 0} (s : List A) (n : ℕ) → drop n s ≡ [] → (take n s ≡ take (n + 1) s) × (drop (n + 1) s ≡ [])
    nothing_left {A} [] n e = (sym (none_taken {A = A} n) ∙ none_taken {A = A} (n + 1), none_left {A = A} (n + 1))
    nothing_left (y ∷ s) zero e = absurd cc
    nothing_left (y ∷ s) (suc n) e =
        let more = nothing_left s n e in
        let one : suc (n + 1) ≡ suc n + 1 = omega arith in
        (ap (λ l. y ∷ l) more.0 ∙ ap (λ z. take z (y ∷ s)) one, ap (λ z. drop z (y ∷ s)) (sym one) ∙ more.1)

-- an element by its place
pub read_at : (xs : List ℕ) (i x : ℕ) → get_elem? xs i ≡ some x → x ≡ get_or xs i 0
read_at [] i x e = absurd (some-ne-none x (sym e))
read_at (y ∷ ys) zero x e = sym (some-injective y x e)
read_at (y ∷ ys) (suc i) x e = read_at ys i x e

-- a list that is gone through: its next element, and what is left
pub next_holds : {A : Type 0} (P : A → Type 0) (xs ys zs left : List A) (x : A) → All P xs → xs ≡ ys ++ zs → zs ≡ x ∷ left → (P x) × (length ys < length xs)
next_holds P xs ys zs left x all e f =
    let at = get_or_at ys x left x (length ys) refl in
    let whole : xs ≡ ys ++ x ∷ left = e ∙ ap (λ l. ys ++ l) f in
    let size : length xs ≡ length ys + suc (length left) = ap (λ l. length l) whole ∙ length-append ys (x ∷ left) in
    let below : length ys < length xs = omega (arith, size) in
    (subst P (ap (λ l. get_or l (length ys) x) whole ∙ at) (all (length ys) x below), below)

pub next_more : {A : Type 0} (xs ys zs left : List A) (x : A) → xs ≡ ys ++ zs → zs ≡ x ∷ left → xs ≡ (ys ++ x ∷ []) ++ left
next_more xs ys zs left x e f = e ∙ ap (λ l. ys ++ l) f ∙ sym (append_assoc ys (x ∷ []) left)

pub map_more : {A B : Type 0} (f : A → B) (now next : List B) (ys : List A) (x : A) (y : B) → now ≡ map f ys → next ≡ now ++ y ∷ [] → y ≡ f x → next ≡ map f (ys ++ x ∷ [])
map_more f now next ys x y e grown is = grown ∙ (λ i. e i ++ is i ∷ []) ∙ sym (map-append f ys (x ∷ []))

pub map_more_after : {A B : Type 0} (f : A → B) (before now next added : List B) (ys : List A) (x : A) → now ≡ before ++ map f ys → next ≡ now ++ added → added ≡ f x ∷ []
    → next ≡ before ++ map f (ys ++ x ∷ [])
map_more_after f before now next added ys x e grown is =
    grown ∙ (λ i. e i ++ is i) ∙ append_assoc before (map f ys) (f x ∷ []) ∙ ap (λ l. before ++ l) (sym (map-append f ys (x ∷ [])))

-- the words of one target more
pub all_words_more : (rows : List ℕ) (t : ℕ) (ns : List ℕ) (n at : ℕ) (now next : List (List ℕ)) (words : List ℕ) → now ≡ all_words_from rows t ns → next ≡ now ++ words ∷ []
    → words ≡ words_from rows at n → at ≡ t + length ns → next ≡ all_words_from rows t (ns ++ n ∷ [])
all_words_more rows t ns n at now next words e grown is place =
    grown ∙ (λ i. e i ++ (is ∙ ap (λ z. words_from rows z n) place) i ∷ []) ∙ snoc t ns
  where
    snoc : (t : ℕ) (ns : List ℕ) → all_words_from rows t ns ++ words_from rows (t + length ns) n ∷ [] ≡ all_words_from rows t (ns ++ n ∷ [])
    snoc t [] = ap (λ z. words_from rows z n ∷ []) (omega arith)
    snoc t (m ∷ ns) =
        let same : t + length (m ∷ ns) ≡ t + 1 + length ns = omega arith in
        ap (λ z. words_from rows t m ∷ (all_words_from rows (t + 1) ns ++ words_from rows z n ∷ [])) same ∙ ap (λ l. words_from rows t m ∷ l) (snoc (t + 1) ns)
