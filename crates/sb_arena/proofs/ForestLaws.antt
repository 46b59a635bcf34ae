-- What each change of a forest does to parents and values.
use Rattle.std.proofs.Common.{◌≡◌, ◌≢◌, ℕ, ◌-◌, ◌<◌, ◌==◌, Bool, true, false, zero, suc, refl, sym, ◌∙◌, ap, arith, List, [], ◌∷◌, ◌++◌, length, take, get_or, set, if◌then◌else◌}
use Rattle.std.proofs.lemmas.Bool.Decides.{nat_tests}
use Rattle.std.proofs.lemmas.List.{get_or_past}
use Rattle.std.specs.Prelude.{Option, None, Some, ◌||◌}
use Rattle.sb_arena.specs.Forests.{Forest, HasVacancy, Row, bare_row, has, node_number, row_at, parent_of, value_at, without, rows_freed, rows_with}
use Rattle.sb_arena.specs.Laws.{AddsLeaveParents, AddsSetValues, FreesClearValues, LinksSetParents, NumbersAreFree, SetsSetValues, UnlinksClearParents, VacanciesKeepNumbers, VacanciesLeaveNodes}
use Rattle.sb_arena.proofs.LinkLaws.{same_of, other_of, is_same, at_set}
use Rattle.sb_arena.proofs.Readers.{live_present, same_past}
use Rattle.sb_arena.proofs.Roots.{parent_one, parent_others}

module _ (rows : List Row) (c p : ℕ) (in_c : c < length rows) (in_p : p < length rows) (o : Option ℕ) (ks : List ℕ) where
  one_parent : (n : ℕ) (rows' : List Row) → ((row_at rows' c).parent ≡ o) → ((n : ℕ) → n ≢ c → (row_at rows' n).parent ≡ (row_at rows n).parent)
      → (row_at rows' n).parent ≡ (if n == c then o else (row_at rows n).parent)
  one_parent n rows' one others = by (n == c) refl
    where
      by : (b : Bool) → b ≡ (n == c) → (row_at rows' n).parent ≡ (if b then o else (row_at rows n).parent)
      by true e = ap (λ k. (row_at rows' k).parent) (same_of n c e) ∙ one
      by false e = others n (other_of n c e)

pub links_set_parents : (T : Type 0) → LinksSetParents T
links_set_parents T f c p n in_c in_p =
    let ks = (row_at f.rows p).children ++ c ∷ [] in
    one_parent f.rows c p in_c in_p (Some p) ks n (rows_with f.rows c p)
    (parent_one f.rows c p in_c in_p (Some p) ks) (parent_others f.rows c p in_c in_p (Some p) ks)

pub unlinks_clear_parents : (T : Type 0) → UnlinksClearParents T
unlinks_clear_parents T f c n in_c parents = by (parent_of f c) refl
  where
    none_at : parent_of f c ≡ None → (b : Bool) → b ≡ (n == c) → parent_of f n ≡ (if b then None else parent_of f n)
    none_at t true e = ap (parent_of f) (same_of n c e) ∙ t
    none_at t false e = refl

    by : (o : Option ℕ) → parent_of f c ≡ o → (row_at (rows_freed f.rows c o) n).parent ≡ (if n == c then None else parent_of f n)
    by None t = none_at t (n == c) refl
    by (Some p) t =
        let ks = without c (row_at f.rows p).children in
        one_parent f.rows c p in_c (parents p t) None ks n (rows_freed f.rows c (Some p))
        (parent_one f.rows c p in_c (parents p t) None ks) (parent_others f.rows c p in_c (parents p t) None ks)

-- a node with a new number, and one with a number that was freed
abbrev fresh : (T : Type 0) → Forest T → T → Forest T
fresh T f value = record { rows = f.rows ++ bare_row ∷ []; values = f.values ++ Some value ∷ []; free = [] }

abbrev reused : (T : Type 0) → Forest T → T → Forest T
reused T f value =
    record { rows = f.rows; values = set f.values (get_or f.free (length f.free - 1) 0) (Some value); free = take (length f.free - 1) f.free }

pub adds_leave_parents : (T : Type 0) → AddsLeaveParents T
adds_leave_parents T f value n = by (length f.free == 0)
  where
    by : (b : Bool) → parent_of (if b then fresh T f value else reused T f value) n ≡ parent_of f n
    by true = ap (λ r. r.parent) (same_past bare_row f.rows n)
    by false = refl

-- an element is in its list
has_at : (xs : List ℕ) (k : ℕ) → k < length xs → has (get_or xs k 0) xs ≡ true
has_at [] k l = absurd (omega arith)
has_at (x ∷ xs) zero l = rw (is_same x) refl
has_at (x ∷ xs) (suc k) l = by (x == get_or xs k 0) (has_at xs k (omega arith))
  where
    by : (b : Bool) → has (get_or xs k 0) xs ≡ true → (b || has (get_or xs k 0) xs) ≡ true
    by true h = refl
    by false h = h

last_free : (xs : List ℕ) → (length xs == 0) ≡ false → has (get_or xs (length xs - 1) 0) xs ≡ true
last_free xs e = has_at xs (length xs - 1) (grind (arith, nat_tests, e))

-- one element more at the end
at_end : {A : Type 0} (d : A) (xs : List A) (x : A) (n : ℕ) → get_or (xs ++ x ∷ []) n d ≡ (if n == length xs then x else get_or xs n d)
at_end d [] x zero = refl
at_end d [] x (suc n) =
    let past : (suc n == 0) ≡ false = grind (arith, nat_tests) in
    rw past refl
at_end d (y ∷ ys) x zero =
    let before : (0 == length (y ∷ ys)) ≡ false = grind (arith, nat_tests) in
    rw before refl
at_end d (y ∷ ys) x (suc n) =
    let later : (suc n == length (y ∷ ys)) ≡ (n == length ys) = grind (arith, nat_tests) in
    at_end d ys x n ∙ ap (λ b. if b then x else get_or ys n d) (sym later)

pub numbers_are_free : (T : Type 0) → NumbersAreFree T
numbers_are_free T f sound even = by (length f.free == 0) refl
  where
    by : (b : Bool) → (length f.free == 0) ≡ b
        → (value_at f (if b then length f.rows else get_or f.free (length f.free - 1) 0) ≡ None)
        × (parent_of f (if b then length f.rows else get_or f.free (length f.free - 1) 0) ≡ None)
    by true e = (
      get_or_past f.values (length f.rows) None (omega (arith, even)),
      ap (λ r. r.parent) (get_or_past f.rows (length f.rows) bare_row (omega arith)),
    )
    by false e =
        let dead = sound.dead (get_or f.free (length f.free - 1) 0) (last_free f.free e) in
        (dead.1, ap (λ r. r.parent) dead.2)

pub adds_set_values : (T : Type 0) → AddsSetValues T
adds_set_values T f value n sound even = by (length f.free == 0) refl
  where
    by : (b : Bool) → (length f.free == 0) ≡ b
        → value_at (if b then fresh T f value else reused T f value) n
        ≡ (if n == (if b then length f.rows else get_or f.free (length f.free - 1) 0) then Some value else value_at f n)
    by true e = at_end None f.values (Some value) n ∙ ap (λ k. if n == k then Some value else value_at f n) (sym even)
    by false e =
        let dead = sound.dead (get_or f.free (length f.free - 1) 0) (last_free f.free e) in
        at_set None f.values (get_or f.free (length f.free - 1) 0) (Some value) n dead.0

pub sets_set_values : (T : Type 0) → SetsSetValues T
sets_set_values T f c n value live = at_set None f.values c (Some value) n (live_present f.values c live)

pub frees_clear_values : (T : Type 0) → FreesClearValues T
frees_clear_values T f c n live = at_set None f.values c None n (live_present f.values c live)

-- a free node that is new
abbrev vacant : (T : Type 0) → Forest T → Forest T
vacant T f = record { rows = f.rows ++ bare_row ∷ []; values = f.values ++ None ∷ []; free = length f.rows ∷ [] }

pub vacancies_leave_nodes : (T : Type 0) → VacanciesLeaveNodes T
vacancies_leave_nodes T f n = by (length f.free == 0)
  where
    by : (b : Bool) → (value_at (if b then vacant T f else f) n ≡ value_at f n) × (parent_of (if b then vacant T f else f) n ≡ parent_of f n)
    by true = (same_past None f.values n, ap (λ r. r.parent) (same_past bare_row f.rows n))
    by false = (refl, refl)

pub vacancies_keep_numbers : (T : Type 0) → VacanciesKeepNumbers T
vacancies_keep_numbers T f = by (length f.free == 0) refl
  where
    by : (b : Bool) → (length f.free == 0) ≡ b
        → HasVacancy (if b then vacant T f else f)
        × (node_number (if b then vacant T f else f) ≡ (if b then length f.rows else get_or f.free (length f.free - 1) 0))
    by true e = (refl, refl)
    by false e = (e, rw e refl)
