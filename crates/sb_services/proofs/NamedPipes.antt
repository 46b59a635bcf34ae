-- The names that are kept of pipes.
use Rattle.std.proofs.lemmas.Option.{slice_get_past}
use Rattle.std.proofs.Common.{◌≡◌, ◌<◌, ◌≤◌, ◌+◌, ◌-◌, ℕ, zero, suc, Bool, true, false, refl, sym, ◌∙◌, ap, arith, List, [], ◌∷◌, ◌++◌, ◌==◌, nat_eq, nat_le, length}
use Rattle.std.proofs.lemmas.Bool.{false≢true}
use Rattle.std.proofs.lemmas.Bool.Decides.{nat_tests}
use Rattle.std.specs.Prelude.{Option, None, Some, not, ◌||◌}
use Rattle.std.specs.List.{list_all, slice_get}
use Rattle.sb_names.specs.Keys.{key_of}
use Rattle.sb_names.specs.Maps.{Rows, is_key, found, put, replaced}
use Rattle.sb_services.specs.PipeKeeping.{in_slot, name_at, is_key_of, AreNamed, StandsUnder}
use Rattle.sb_services.specs.Pipes.{fewer, is_made}
use Rattle.sb_services.specs.declared.pipe_rows.PipeRow.{PipeRow}
use Rattle.sb_services.proofs.KeptPipes.{all_put, all_replaced, all_fewer}
use Rattle.sb_services.proofs.FileRowLemmas.{all_with, first_of, others_of, widened}

pub get_pushed : {X : Type 0} (xs : List X) (x : X) (n : ℕ) → n < length xs → slice_get (xs ++ x ∷ []) n ≡ slice_get xs n
get_pushed [] x n l = absurd (omega arith)
get_pushed (y ∷ xs) x zero l = refl
get_pushed (y ∷ xs) x (suc n) l = get_pushed xs x n (omega arith)

get_last : {X : Type 0} (xs : List X) (x : X) → slice_get (xs ++ x ∷ []) (length xs) ≡ Some x
get_last [] x = refl
get_last (y ∷ xs) x = get_last xs x

pub own_key : (key : List ℕ) → is_key key key ≡ true
own_key [] = refl
own_key (u ∷ us) =
    let same : nat_eq u u ≡ true = grind (arith, nat_tests) in
    rw same (own_key us)

abbrev named : List (Option (List ℕ)) → List ℕ × PipeRow → Bool
named names row = is_key_of (name_at names row.1.number) row.0

pub name_pushed : (names : List (Option (List ℕ))) (name : List ℕ) (number : ℕ) → 1 ≤ number → number ≤ length names
    → name_at (names ++ Some name ∷ []) number ≡ name_at names number
name_pushed names name number low high =
    let no : (number == 0) ≡ false = grind (arith, nat_tests) in
    rw no (ap in_slot (get_pushed names (Some name) (number - 1) (omega arith)))

name_last : (names : List (Option (List ℕ))) (name : List ℕ) → name_at (names ++ Some name ∷ []) (length names + 1) ≡ Some name
name_last names name =
    let no : (length names + 1 == 0) ≡ false = grind (arith, nat_tests) in
    let at : length names + 1 - 1 ≡ length names = omega arith in
    rw (no, at) (ap in_slot (get_last names (Some name)))

more_names : (names : List (Option (List ℕ))) (name : List ℕ) (rows : Rows PipeRow) → list_all (is_made (length names)) rows ≡ true → AreNamed names rows
    → AreNamed (names ++ Some name ∷ []) rows
more_names names name [] made are = refl
more_names names name (row ∷ rows) made are =
    let own : is_made (length names) row ≡ true = first_of (is_made (length names)) row rows made in
    let same = name_pushed names name row.1.number (grind (arith, nat_tests, own)) (grind (arith, nat_tests, own)) in
    all_with (named (names ++ Some name ∷ [])) row rows (ap (λ found. is_key_of found row.0) same ∙ first_of (named names) row rows are)
    (more_names names name rows (others_of (is_made (length names)) row rows made) (others_of (named names) row rows are))

-- a pipe more, whose name is kept
pub named_with_pipe : (names : List (Option (List ℕ))) (name : List ℕ) (rows : Rows PipeRow) (row : PipeRow) → found rows name ≡ None → row.number ≡ length names + 1
    → list_all (is_made (length names)) rows ≡ true → AreNamed names rows → AreNamed (names ++ Some name ∷ []) (put rows name row)
named_with_pipe names name rows row f n made are =
    all_put (named (names ++ Some name ∷ [])) rows name row f (more_names names name rows made are)
    (ap (λ number. is_key_of (name_at (names ++ Some name ∷ []) number) (key_of name)) n
    ∙ ap (λ found. is_key_of found (key_of name)) (name_last names name) ∙ own_key (key_of name))

-- another count of handles
pub named_with_instance : (names : List (Option (List ℕ))) (name : List ℕ) (rows : Rows PipeRow) (old value : PipeRow) → found rows name ≡ Some old → value.number ≡ old.number
    → AreNamed names rows → AreNamed names (replaced rows name value)
named_with_instance names name rows old value f n are =
    all_replaced (named names) rows name old value f (λ key h. ap (λ number. is_key_of (name_at names number) key) n ∙ h) are

-- a handle fewer
pub named_fewer : (names : List (Option (List ℕ))) (rows : Rows PipeRow) (number : ℕ) → AreNamed names rows → AreNamed names (fewer rows number)
named_fewer names rows number are = all_fewer (named names) rows number (λ row more h. h) are

-- the pipe of a number is under the name that is kept for it
pub stands_under : (names : List (Option (List ℕ))) (rows : Rows PipeRow) (number : ℕ) (name : List ℕ) → name_at names number ≡ Some name → AreNamed names rows
    → StandsUnder name number rows
stands_under names rows number name kept are = widened (named names) (λ row. not (row.1.number == number) || is_key (key_of name) row.0) rows here are
  where
    by : (row : List ℕ × PipeRow) (s : Bool) → (row.1.number == number) ≡ s → named names row ≡ true → (not s || is_key (key_of name) row.0) ≡ true
    by row true e h =
        let same : row.1.number ≡ number = grind (arith, nat_tests, e) in
        sym (ap (λ n. is_key_of (name_at names n) row.0) same ∙ ap (λ found. is_key_of found row.0) kept) ∙ h
    by row false e h = refl

    here : (row : List ℕ × PipeRow) → named names row ≡ true → (not (row.1.number == number) || is_key (key_of name) row.0) ≡ true
    here row h = by row (row.1.number == number) refl h

-- if no name is kept for a number, no pipe has it
pub no_name : (names : List (Option (List ℕ))) (rows : Rows PipeRow) (number : ℕ) → name_at names number ≡ None → AreNamed names rows → fewer rows number ≡ rows
no_name names [] number kept are = refl
no_name names (row ∷ rows) number kept are = by (row.1.number == number) refl (first_of (named names) row rows are) (no_name names rows number kept (others_of (named names) row rows are))
  where
    by : (s : Bool) → (row.1.number == number) ≡ s → named names row ≡ true → fewer rows number ≡ rows → fewer (row ∷ rows) number ≡ row ∷ rows
    by true e h i =
        let same : row.1.number ≡ number = grind (arith, nat_tests, e) in
        absurd (false≢true (sym (ap (λ n. is_key_of (name_at names n) row.0) same ∙ ap (λ found. is_key_of found row.0) kept) ∙ h))
    by false e h i = rw e (ap (λ more. row ∷ more) i)

-- a kept name has a number of a slot
pub kept_low : (names : List (Option (List ℕ))) (number : ℕ) (name : List ℕ) → name_at names number ≡ Some name → 1 ≤ number
kept_low names zero name kept = absurd (cc)
kept_low names (suc number) name kept = omega arith

pub none_past : (names : List (Option (List ℕ))) (number : ℕ) → length names < number → name_at names number ≡ None
none_past names number l =
    let no : (number == 0) ≡ false = grind (arith, nat_tests, l) in
    rw no (ap in_slot (slice_get_past names (number - 1) (omega (arith, l))))

pub kept_high : (names : List (Option (List ℕ))) (number : ℕ) (name : List ℕ) → name_at names number ≡ Some name → number ≤ length names
kept_high names number name kept = by (nat_le number (length names)) refl
  where
    is_there : Option (List ℕ) → Bool
    is_there None = false
    is_there (Some _) = true

    by : (b : Bool) → nat_le number (length names) ≡ b → number ≤ length names
    by true e = grind (arith, nat_tests, e)
    by false e =
        let none : name_at names number ≡ None = none_past names number (grind (arith, nat_tests, e)) in
        absurd (false≢true (sym (ap is_there none) ∙ ap is_there kept))
