-- Bounds that are put one after another.
use Rattle.std.proofs.Common.{◌≡◌, ◌∙◌, ◌≤◌, ◌<◌, ◌+◌, ℕ, zero, suc, cond, List, [], ◌∷◌, ◌++◌, length, take, drop, refl, ap, sym, arith}
use Rattle.std.specs.Prelude.{slice_index_or}
use Rattle.std.proofs.lemmas.List.{drop_more}
use Rattle.std.proofs.lemmas.Bool.{le-ltb, lt-ltb}
use Rattle.sb_index.specs.Bounds.{rising_above}

-- the numbers from one on
from_here : (numbers : List ℕ) (i n : ℕ) → i < length numbers → n ≡ slice_index_or numbers i n → drop i numbers ≡ n ∷ drop (i + 1) numbers
from_here numbers i n h is = drop_more numbers i n h ∙ ap (λ m. m ∷ drop (i + 1) numbers) (sym is)

joined : (items rest : List ℕ) (n : ℕ) → (items ++ n ∷ []) ++ rest ≡ items ++ (n ∷ rest)
joined [] rest n = refl
joined (x ∷ items) rest n = ap (λ l. x ∷ l) (joined items rest n)

pub bound_put : (items numbers all : List ℕ) (last i n : ℕ) → i < length numbers → n ≡ slice_index_or numbers i n → last < n
    → items ++ rising_above last (drop i numbers) ≡ all → (items ++ n ∷ []) ++ rising_above n (drop (i + 1) numbers) ≡ all
bound_put items numbers all last i n h is above e =
    joined items (rising_above n (drop (i + 1) numbers)) n
    ∙ ap (λ b. items ++ cond b (n ∷ rising_above n (drop (i + 1) numbers)) (rising_above last (drop (i + 1) numbers))) (sym (lt-ltb last n above))
    ∙ ap (λ l. items ++ rising_above last l) (sym (from_here numbers i n h is)) ∙ e

pub bound_passed : (items numbers all : List ℕ) (last i n : ℕ) → i < length numbers → n ≡ slice_index_or numbers i n → n ≤ last
    → items ++ rising_above last (drop i numbers) ≡ all → items ++ rising_above last (drop (i + 1) numbers) ≡ all
bound_passed items numbers all last i n h is below e =
    ap (λ b. items ++ cond b (n ∷ rising_above n (drop (i + 1) numbers)) (rising_above last (drop (i + 1) numbers))) (sym (le-ltb last n below))
    ∙ ap (λ l. items ++ rising_above last l) (sym (from_here numbers i n h is)) ∙ e

taken : (items rest : List ℕ) → items ≡ take (length items) (items ++ rest)
taken [] rest = refl
taken (x ∷ items) rest = ap (λ l. x ∷ l) (taken items rest)

pub bounds_full : (items rest all : List ℕ) (most : ℕ) → length items ≡ most → items ++ rest ≡ all → items ≡ take most all
bounds_full items rest all most full e = taken items rest ∙ ap (λ n. take n (items ++ rest)) full ∙ ap (take most) e

pub bounds_whole : (items : List ℕ) (most : ℕ) → length items ≤ most → items ≡ take most items
bounds_whole [] zero h = refl
bounds_whole [] (suc most) h = refl
bounds_whole (x ∷ items) zero h = absurd (omega (arith, h))
bounds_whole (x ∷ items) (suc most) h = ap (λ l. x ∷ l) (bounds_whole items most (omega (arith, h)))

taken_few : (n : ℕ) (xs : List ℕ) → length (take n xs) ≤ n
taken_few zero xs = omega arith
taken_few (suc n) [] = omega arith
taken_few (suc n) (x ∷ xs) = omega (arith, taken_few n xs)

pub not_more : (most few : ℕ) (bounds all : List ℕ) → bounds ≡ take most all → most ≤ few → length bounds ≤ few
not_more most few bounds all is h = omega (arith, ap length is, taken_few most all, h)
