-- The laws of handle tables.
use Rattle.std.proofs.Math.Bool.{and-false}
use Rattle.std.proofs.Common.{◌≡◌, ℕ, ◌+◌, ◌<◌, ◌==◌, Bool, true, false, cond, refl, sym, subst, ap, ◌∙◌, arith, List, [], ◌∷◌, ◌++◌, map, if◌then◌else◌, nat_le, nat_cmp}
use Rattle.std.proofs.lemmas.Bool.{and_parts, false≢true}
use Rattle.std.proofs.lemmas.Bool.Decides.{nat_tests}
use Rattle.std.proofs.lemmas.List.Sums.{sum_by-append}
use Rattle.std.proofs.lemmas.Map.Keys.{sorted_head, sorted_tail}
use Rattle.std.specs.Prelude.{Option, None, Some, option_map, unwrap_or, is_some, not, ◌&&◌}
use Rattle.std.specs.List.{filter, find, list_all, count_by, AllByRecursion}
use Rattle.std.specs.List.Sorted.{IsStrictlySortedBy}
use Rattle.std.specs.declared.cmp.Ordering.TheVariants.{Less, Equal, Greater}
use Rattle.std.specs.BTreeMap.{insert_entry, is_at}
use Rattle.std.specs.Map.{lookup}
use Rattle.std.specs.Ordering.{match_ordering, is_eq}
use Rattle.std.specs.declared.cmp.Ordering.{Ordering}
use Rattle.sb_handles.specs.Agreements.{is_file, is_pipe, file_share, file_share_by}
use Rattle.sb_handles.specs.Shares.{Shares, SharesRise, left, left_on, opened, share_on}
use Rattle.sb_base.specs.Orders.{by_pair}
use Rattle.sb_handles.specs.declared.objects.Share.{Share}
use Rattle.sb_handles.proofs.ConflictLaws.{none_lower}
use Rattle.sb_handles.proofs.IndexLemmas.{same_pair}
use Rattle.sb_handles.proofs.ShareLemmas.{left_removed}
use Rattle.sb_handles.specs.Laws.{NumbersAreNew, GrantsAreHeld, ClosedAreGone, GrantsKeepFiles, GrantsLeaveFiles, ClosesKeepFiles, HeldOnOne, IsOn, OneIsLeft, OpensComeBack, GrantsCount, ClosesCount}
use Rattle.sb_handles.specs.Tables.{Table, IsTable, is_of, held_by, with_handle, without_handle}
use Rattle.sb_handles.specs.declared.objects.Held.{Held}
use Rattle.sb_handles.specs.declared.objects.OpenHandle.{OpenHandle}

-- the first that passes among those before, and else the one at the end
find_pushed : {X : Type 0} (p : X → Bool) (xs : List X) (x : X) → list_all (λ y. not (p y)) xs ≡ true → find p (xs ++ x ∷ []) ≡ (if p x then Some x else None)
find_pushed p [] x h = refl
find_pushed p (y ∷ ys) x h =
    let parts = and_parts (not (p y)) (list_all (λ y. not (p y)) ys) h in
    let no : p y ≡ false = flip (p y) parts.0 in
    rw no (find_pushed p ys x parts.1)
  where
    flip : (b : Bool) → not b ≡ true → b ≡ false
    flip false e = refl
    flip true e = absurd (false≢true e)

find_other : {X : Type 0} (p : X → Bool) (xs : List X) (x : X) → p x ≡ false → find p (xs ++ x ∷ []) ≡ find p xs
find_other p [] x h = rw h refl
find_other p (y ∷ ys) x h = ap (λ rest. if p y then Some y else rest) (find_other p ys x h)

find_none : {X : Type 0} (p : X → Bool) (xs : List X) → list_all (λ y. not (p y)) xs ≡ true → find p xs ≡ None
find_none p [] h = refl
find_none p (y ∷ ys) h =
    let parts = and_parts (not (p y)) (list_all (λ y. not (p y)) ys) h in
    let no : p y ≡ false = flip (p y) parts.0 in
    rw no (find_none p ys parts.1)
  where
    flip : (b : Bool) → not b ≡ true → b ≡ false
    flip false e = refl
    flip true e = absurd (false≢true e)

abbrev in_table : ℕ → OpenHandle → Bool
in_table granted handle = nat_le 1 handle.number && nat_le handle.number granted

-- a number past the count is on no open handle
unused : (granted number : ℕ) (handles : List OpenHandle) → granted < number → list_all (in_table granted) handles ≡ true
    → list_all (λ handle. not (handle.number == number)) handles ≡ true
unused granted number [] l h = refl
unused granted number (handle ∷ handles) l h =
    let parts = and_parts (in_table granted handle) (list_all (in_table granted) handles) h in
    let no : (handle.number == number) ≡ false = grind (arith, nat_tests, parts.0) in
    rw no (unused granted number handles l parts.1)

unheld : (target granted number : ℕ) (handles : List OpenHandle) → granted < number → list_all (in_table granted) handles ≡ true
    → list_all (λ handle. not (is_of target number handle)) handles ≡ true
unheld target granted number [] l h = refl
unheld target granted number (handle ∷ handles) l h =
    let parts = and_parts (in_table granted handle) (list_all (in_table granted) handles) h in
    let no : (handle.number == number) ≡ false = grind (arith, nat_tests, parts.0) in
    rw no (unheld target granted number handles l parts.1)

pub numbers_are_new : NumbersAreNew
numbers_are_new table target h =
    ap (option_map (λ handle. handle.held)) (find_none (is_of target (table.granted + 1)) table.handles (unheld target table.granted (table.granted + 1) table.handles (omega arith) h.1))

pub grants_are_held : GrantsAreHeld
grants_are_held table target other number held h = by (table.granted + 1 == number) refl (target == other) refl
  where
    new : OpenHandle
    new = record { target = target; number = table.granted + 1; held = held }

    by : (s : Bool) → (table.granted + 1 == number) ≡ s → (t : Bool) → (target == other) ≡ t
        → held_by (with_handle table target held) other number ≡ (if s && t then Some held else held_by table other number)
    by false e t f = ap (option_map (λ handle. handle.held)) (find_other (is_of other number) table.handles new (rw e refl))
    by true e false f = ap (option_map (λ handle. handle.held)) (find_other (is_of other number) table.handles new (rw (e, f) refl))
    by true e true f =
        let past : table.granted < number = grind (arith, nat_tests, e) in
        let passes : is_of other number new ≡ true = rw (e, f) refl in
        let found : find (is_of other number) (table.handles ++ new ∷ []) ≡ Some new =
        find_pushed (is_of other number) table.handles new (unheld other table.granted number table.handles past h.1)
        ∙ ap (λ b. if b then Some new else None) passes in
        ap (option_map (λ handle. handle.held)) found

-- the first that passes, among those that do not pass another test
find_filtered : {X : Type 0} (p q : X → Bool) (xs : List X) → ((x : X) → p x ≡ true → q x ≡ true) → find p (filter q xs) ≡ find p xs
find_filtered p q [] h = refl
find_filtered p q (x ∷ xs) h = by (q x) refl (p x) refl (find_filtered p q xs h)
  where
    by : (s : Bool) → q x ≡ s → (t : Bool) → p x ≡ t → find p (filter q xs) ≡ find p xs → find p (if s then x ∷ filter q xs else filter q xs) ≡ (if t then Some x else find p xs)
    by true e true f i = rw f refl
    by true e false f i = rw f i
    by false e true f i = absurd (false≢true (sym e ∙ h x f))
    by false e false f i = i

none_filtered : {X : Type 0} (p : X → Bool) (xs : List X) → find p (filter (λ x. not (p x)) xs) ≡ None
none_filtered p [] = refl
none_filtered p (x ∷ xs) = by (p x) refl (none_filtered p xs)
  where
    by : (s : Bool) → p x ≡ s → find p (filter (λ x. not (p x)) xs) ≡ None → find p (if not s then x ∷ filter (λ x. not (p x)) xs else filter (λ x. not (p x)) xs) ≡ None
    by true e i = i
    by false e i = rw e i

other_number : (target other number of : ℕ) (handle : OpenHandle) → (number == of) ≡ false → is_of other of handle ≡ true → not (is_of target number handle) ≡ true
other_number target other number of handle e g =
    let parts = and_parts (handle.number == of) (handle.target == other) g in
    let no : (handle.number == number) ≡ false = grind (arith, nat_tests, parts.0, e) in
    rw no refl

other_target : (target other number of : ℕ) (handle : OpenHandle) → (target == other) ≡ false → is_of other of handle ≡ true → not (is_of target number handle) ≡ true
other_target target other number of handle f g =
    let parts = and_parts (handle.number == of) (handle.target == other) g in
    let no : (handle.target == target) ≡ false = grind (arith, nat_tests, parts.1, f) in
    rw no (by (handle.number == number))
  where
    by : (b : Bool) → not (b && false) ≡ true
    by true = refl
    by false = refl

pub closed_are_gone : ClosedAreGone
closed_are_gone table target other number of h = by (number == of) refl (target == other) refl
  where
    by : (s : Bool) → (number == of) ≡ s → (t : Bool) → (target == other) ≡ t
        → held_by (without_handle table target number) other of ≡ (if s && t then None else held_by table other of)
    by true e true f =
        let n : number ≡ of = grind (arith, nat_tests, e) in
        let o : target ≡ other = grind (arith, nat_tests, f) in
        (λ i. held_by (without_handle table (o i) (n i)) other of) ∙ ap (option_map (λ handle. handle.held)) (none_filtered (is_of other of) table.handles)
    by true e false f =
        ap (option_map (λ handle. handle.held)) (find_filtered (is_of other of) (λ handle. not (is_of target number handle)) table.handles
        (λ handle. other_target target other number of handle f))
    by false e t f =
        ap (option_map (λ handle. handle.held)) (find_filtered (is_of other of) (λ handle. not (is_of target number handle)) table.handles
        (λ handle. other_number target other number of handle e))

abbrev one_if : Bool → ℕ
one_if b = if b then 1 else 0

alone_counts : (p : OpenHandle → Bool) (handle : OpenHandle) → count_by p (handle ∷ []) ≡ one_if (p handle)
alone_counts p handle = by (p handle)
  where
    by : (b : Bool) → 0 + cond b 1 0 ≡ one_if b
    by true = refl
    by false = refl

last_counts : (p : OpenHandle → Bool) (handles : List OpenHandle) (handle : OpenHandle) → count_by p (handles ++ handle ∷ []) ≡ count_by p handles + one_if (p handle)
last_counts p handles handle = sum_by-append (λ x. cond (p x) 1 0) handles (handle ∷ []) ∙ ap (λ n. count_by p handles + n) (alone_counts p handle)

first_counts : (p : OpenHandle → Bool) (handle : OpenHandle) (handles : List OpenHandle) → count_by p (handle ∷ handles) ≡ one_if (p handle) + count_by p handles
first_counts p handle handles = sum_by-append (λ x. cond (p x) 1 0) (handle ∷ []) handles ∙ ap (λ n. n + count_by p handles) (alone_counts p handle)

abbrev on_pipe : ℕ → OpenHandle → Bool
on_pipe pipe handle = is_pipe handle.held.object.service && handle.held.object.number == pipe

pub grants_count : GrantsCount
grants_count table target pipe held = last_counts (on_pipe pipe) table.handles (record { target = target; number = table.granted + 1; held = held })

-- handles after one of this number have others
past : (number : ℕ) (handles : List OpenHandle) → AllByRecursion (λ n. nat_cmp number n ≡ Less) (map (λ handle. handle.number) handles)
    → list_all (λ handle. not (handle.number == number)) handles ≡ true
past number [] h = refl
past number (handle ∷ handles) h =
    let no : (handle.number == number) ≡ false = differ number handle.number h.0 in
    rw no (past number handles h.1)
  where
    differ : (a b : ℕ) → nat_cmp a b ≡ Less → (b == a) ≡ false
    differ a b e = grind (arith, nat_tests, e)

-- all pass a test that is no narrower
widened : {X : Type 0} (p q : X → Bool) (xs : List X) → ((x : X) → p x ≡ true → q x ≡ true) → list_all p xs ≡ true → list_all q xs ≡ true
widened p q [] f h = refl
widened p q (x ∷ xs) f h =
    let parts = and_parts (p x) (list_all p xs) h in
    rw (f x parts.0) (widened p q xs f parts.1)

all_stay : {X : Type 0} (p : X → Bool) (xs : List X) → list_all p xs ≡ true → filter p xs ≡ xs
all_stay p [] h = refl
all_stay p (x ∷ xs) h =
    let parts = and_parts (p x) (list_all p xs) h in
    rw parts.0 (ap (λ more. x ∷ more) (all_stay p xs parts.1))

not_of : (target number : ℕ) (handle : OpenHandle) → not (handle.number == number) ≡ true → not (is_of target number handle) ≡ true
not_of target number handle h = by (handle.number == number) h (handle.target == target)
  where
    by : (b : Bool) → not b ≡ true → (c : Bool) → not (b && c) ≡ true
    by false h c = refl
    by true h c = absurd (false≢true h)

module _ (target number : ℕ) (held : Held) where
  abbrev rest : List OpenHandle → List OpenHandle
  rest handles = filter (λ handle. not (is_of target number handle)) handles

  -- the handles without the one that the target holds, by what the first is
  by_first : (P : List OpenHandle → List OpenHandle → Type 0)
      → ((handle : OpenHandle) (handles : List OpenHandle) → handle.held ≡ held → (handle.number == number) ≡ true
      → list_all (λ other. not (other.number == number)) handles ≡ true → P (handle ∷ handles) handles)
      → ((handle : OpenHandle) (handles without : List OpenHandle) → (handle.number == number) ≡ false → P handles without → P (handle ∷ handles) (handle ∷ without))
      → (handles : List OpenHandle) → IsStrictlySortedBy nat_cmp (map (λ handle. handle.number) handles)
      → option_map (λ handle. handle.held) (find (is_of target number) handles) ≡ Some held → P handles (rest handles)
  by_first P first later [] sorted found = absurd (cc)
  by_first P first later (handle ∷ handles) sorted found =
      by (handle.number == number) refl (handle.target == target) refl found
      (λ f. by_first P first later handles (sorted_tail nat_cmp handle.number (map (λ handle. handle.number) handles) sorted) f)
    where
      alone : handle.number ≡ number → list_all (λ other. not (other.number == number)) handles ≡ true
      alone e = ap (λ n. list_all (λ other. not (other.number == n)) handles) (sym e)
          ∙ past handle.number handles (sorted_head nat_cmp handle.number (map (λ handle. handle.number) handles) sorted)

      some_held : (a b : Held) → Some a ≡ Some b → a ≡ b
      some_held a b e = ap (λ o. unwrap_or o a) e

      by : (s : Bool) → (handle.number == number) ≡ s → (t : Bool) → (handle.target == target) ≡ t
          → option_map (λ handle. handle.held) (if s && t then Some handle else find (is_of target number) handles) ≡ Some held
          → (option_map (λ handle. handle.held) (find (is_of target number) handles) ≡ Some held → P handles (rest handles))
          → P (handle ∷ handles) (if not (s && t) then handle ∷ rest handles else rest handles)
      by true e true f h more =
          let same : handle.number ≡ number = grind (arith, nat_tests, e) in
          let stay : rest handles ≡ handles = all_stay _ handles (widened _ _ handles (not_of target number) (alone same)) in
          subst (P (handle ∷ handles)) (sym stay) (first handle handles (some_held handle.held held h) e (alone same))
      by true e false f h more =
          let same : handle.number ≡ number = grind (arith, nat_tests, e) in
          let none = find_none (is_of target number) handles (widened _ _ handles (not_of target number) (alone same)) in
          absurd (none_is_some (sym (ap (option_map (λ handle. handle.held)) none) ∙ h))
        where
          none_is_some : None ≡ Some held → ⊥
          none_is_some q = false≢true (ap is_some q)
      by false e t f h more = later handle handles (rest handles) e (more h)

  -- one handle fewer on its pipe
  pub fewer : (q : Held → Bool) (handles : List OpenHandle) → IsStrictlySortedBy nat_cmp (map (λ handle. handle.number) handles)
      → option_map (λ handle. handle.held) (find (is_of target number) handles) ≡ Some held
      → count_by (λ handle. q handle.held) (rest handles) + one_if (q held) ≡ count_by (λ handle. q handle.held) handles
  fewer q = by_first (λ handles without. count_by (λ handle. q handle.held) without + one_if (q held) ≡ count_by (λ handle. q handle.held) handles) first later
    where
      first : (handle : OpenHandle) (handles : List OpenHandle) → handle.held ≡ held → (handle.number == number) ≡ true
          → list_all (λ other. not (other.number == number)) handles ≡ true
          → count_by (λ handle. q handle.held) handles + one_if (q held) ≡ count_by (λ handle. q handle.held) (handle ∷ handles)
      first handle handles same e alone =
          ap (λ h. count_by (λ handle. q handle.held) handles + one_if (q h)) (sym same)
          ∙ swapped (count_by (λ handle. q handle.held) handles) (one_if (q handle.held)) ∙ sym (first_counts (λ handle. q handle.held) handle handles)
        where
          swapped : (a b : ℕ) → a + b ≡ b + a
          swapped a b = omega arith

      later : (handle : OpenHandle) (handles without : List OpenHandle) → (handle.number == number) ≡ false
          → count_by (λ handle. q handle.held) without + one_if (q held) ≡ count_by (λ handle. q handle.held) handles
          → count_by (λ handle. q handle.held) (handle ∷ without) + one_if (q held) ≡ count_by (λ handle. q handle.held) (handle ∷ handles)
      later handle handles without e i =
          ap (λ n. n + one_if (q held)) (first_counts (λ handle. q handle.held) handle without)
          ∙ grouped (one_if (q handle.held)) (count_by (λ handle. q handle.held) without) (one_if (q held))
          ∙ ap (λ n. one_if (q handle.held) + n) i ∙ sym (first_counts (λ handle. q handle.held) handle handles)
        where
          grouped : (a b c : ℕ) → a + b + c ≡ a + (b + c)
          grouped a b c = omega arith

  -- the number is on no other handle
  pub number_gone : (handles : List OpenHandle) → IsStrictlySortedBy nat_cmp (map (λ handle. handle.number) handles)
      → option_map (λ handle. handle.held) (find (is_of target number) handles) ≡ Some held
      → list_all (λ handle. not (handle.number == number)) (rest handles) ≡ true
  number_gone = by_first (λ handles without. list_all (λ handle. not (handle.number == number)) without ≡ true) (λ handle handles same e alone. alone)
      (λ handle handles without e i. rw e i)

pub closes_count : ClosesCount
closes_count table target number pipe held h found = fewer target number held (λ held. is_pipe held.object.service && held.object.number == pipe) table.handles h.0 found

-- shares by object and handle
abbrev on_key : ℕ → ℕ → ℕ × ℕ → Bool
on_key object number key = key.0 == object && key.1 == number

both_on : (object number : ℕ) (a b : ℕ × ℕ) → on_key object number a ≡ true → on_key object number b ≡ true → is_at (by_pair a) b ≡ true
both_on object number a b h k =
    let l = and_parts (a.0 == object) (a.1 == number) h in
    let r = and_parts (b.0 == object) (b.1 == number) k in
    let i : (a.0 == b.0) ≡ true = grind (arith, nat_tests, l.0, r.0) in
    let j : (a.1 == b.1) ≡ true = grind (arith, nat_tests, l.1, r.1) in
    same_pair a.0 a.1 b.0 b.1 ∙ (λ n. i n && j n)

same_on : (object number : ℕ) (a b : ℕ × ℕ) → by_pair a b ≡ Equal → on_key object number a ≡ on_key object number b
same_on object number a b h =
    let parts = and_parts (a.0 == b.0) (a.1 == b.1) (sym (same_pair a.0 a.1 b.0 b.1) ∙ ap is_eq h) in
    let i : a.0 ≡ b.0 = grind (arith, nat_tests, parts.0) in
    let j : a.1 ≡ b.1 = grind (arith, nat_tests, parts.1) in
    λ k. i k == object && j k == number

share_put : (object number : ℕ) (key : ℕ × ℕ) (share : Share) (shares : Shares)
    → share_on (insert_entry by_pair shares key share) object number ≡ (if on_key object number key then Some share else share_on shares object number)
share_put object number key share [] = refl
share_put object number key share (row ∷ shares) = by (by_pair key row.0) refl (share_put object number key share shares)
  where
    replaced : (b c : Bool) → b ≡ c → cond c (Some share) (share_on shares object number) ≡ (if b then Some share else cond c (Some row.1) (share_on shares object number))
    replaced true true e = refl
    replaced false false e = refl
    replaced true false e = absurd (false≢true (sym e))
    replaced false true e = absurd (false≢true e)

    further : (b c : Bool) → (b ≡ true → c ≡ true → ⊥) → cond c (Some row.1) (if b then Some share else share_on shares object number) ≡ (if b then Some share else cond c (Some row.1) (share_on shares object number))
    further true true f = absurd (f refl refl)
    further true false f = refl
    further false true f = refl
    further false false f = refl

    by : (o : Ordering) → by_pair key row.0 ≡ o
        → share_on (insert_entry by_pair shares key share) object number ≡ (if on_key object number key then Some share else share_on shares object number)
        → share_on (match_ordering o ((key, share) ∷ row ∷ shares) ((row.0, share) ∷ shares) (row ∷ insert_entry by_pair shares key share)) object number
        ≡ (if on_key object number key then Some share else cond (on_key object number row.0) (Some row.1) (share_on shares object number))
    by Less e i = refl
    by Equal e i = replaced (on_key object number key) (on_key object number row.0) (same_on object number key row.0 e)
    by Greater e i =
        ap (λ more. cond (on_key object number row.0) (Some row.1) more) i
        ∙ further (on_key object number key) (on_key object number row.0) (λ b c. false≢true (ap is_eq (sym e) ∙ both_on object number key row.0 b c))

abbrev has_number : ℕ → OpenHandle → Bool
has_number number handle = handle.number == number

-- no file is open under a number past the count
no_share : (table : Table) (object number : ℕ) → IsTable table → table.granted < number → file_share table object number ≡ None
no_share table object number h l = ap (file_share_by object) (find_none (has_number number) table.handles (unused table.granted number table.handles l h.1))

-- under the new number the new handle is found, and under each other what was found
new_found : (table : Table) (new : OpenHandle) (number : ℕ) → IsTable table → new.number ≡ table.granted + 1 → (s : Bool) → (new.number == number) ≡ s
    → find (has_number number) (table.handles ++ new ∷ []) ≡ (if s then Some new else find (has_number number) table.handles)
new_found table new number h n true e =
    let past_all : table.granted < number = grind (arith, nat_tests, e, n) in
    find_pushed (has_number number) table.handles new (unused table.granted number table.handles past_all h.1) ∙ ap (λ b. if b then Some new else None) e
new_found table new number h n false e = find_other (has_number number) table.handles new e

pub grants_keep_files : GrantsKeepFiles
grants_keep_files shares table target held h agree file object number =
    share_put object number (held.object.number, table.granted + 1) share shares
    ∙ by (held.object.number == object) refl (table.granted + 1 == number) refl
    ∙ sym (ap (file_share_by object) (new_found table new number h refl (table.granted + 1 == number) refl))
  where
    share : Share
    share = record { access = held.access; sharing = held.sharing }

    new : OpenHandle
    new = record { target = target; number = table.granted + 1; held = held }

    by : (s : Bool) → (held.object.number == object) ≡ s → (t : Bool) → (table.granted + 1 == number) ≡ t
        → (if s && t then Some share else share_on shares object number) ≡ file_share_by object (if t then Some new else find (has_number number) table.handles)
    by true e true f = rw (file, e) refl
    by false e true f =
        let past_all : table.granted < number = grind (arith, nat_tests, f) in
        agree object number ∙ no_share table object number h past_all ∙ rw (file, e) refl
    by true e false f = agree object number
    by false e false f = agree object number

pub grants_leave_files : GrantsLeaveFiles
grants_leave_files shares table target held h agree file object number =
    by (table.granted + 1 == number) refl ∙ sym (ap (file_share_by object) (new_found table new number h refl (table.granted + 1 == number) refl))
  where
    new : OpenHandle
    new = record { target = target; number = table.granted + 1; held = held }

    by : (t : Bool) → (table.granted + 1 == number) ≡ t
        → share_on shares object number ≡ file_share_by object (if t then Some new else find (has_number number) table.handles)
    by true f =
        let past_all : table.granted < number = grind (arith, nat_tests, f) in
        agree object number ∙ no_share table object number h past_all ∙ rw file refl
    by false f = agree object number

-- a first row that is there or not
seen_if : (test : ℕ × ℕ → Bool) (row : (ℕ × ℕ) × Share) (shares : Shares) (b : Bool)
    → lookup test (if b then row ∷ shares else shares) ≡ (if b then cond (test row.0) (Some row.1) (lookup test shares) else lookup test shares)
seen_if test row shares true = refl
seen_if test row shares false = refl

left_by : (share : Share) (before after : Option Share) (u v w s : Bool) → (u ≡ true → s ≡ false → w ≡ false) → (u ≡ false → s ≡ true → w ≡ false)
    → after ≡ (if s then None else before)
    → (if not u then cond (v && w) (Some share) after else after) ≡ (if s then None else cond (v && w) (Some share) before)
left_by share before after true v w true f g h = h
left_by share before after true v w false f g h =
    let none : (v && w) ≡ false = ap (λ w. v && w) (f refl refl) ∙ and-false v in
    h ∙ sym (ap (λ b. cond b (Some share) before) none)
left_by share before after false v w true f g h =
    let none : (v && w) ≡ false = ap (λ w. v && w) (g refl refl) ∙ and-false v in
    ap (λ b. cond b (Some share) after) none ∙ h
left_by share before after false v w false f g h = ap (λ more. cond (v && w) (Some share) more) h

share_left : (object number handle : ℕ) (shares : Shares)
    → share_on (left shares handle) object number ≡ (if number == handle then None else share_on shares object number)
share_left object number handle [] = by (number == handle)
  where
    none : Option Share
    none = None

    by : (s : Bool) → none ≡ (if s then none else none)
    by true = refl
    by false = refl
share_left object number handle (row ∷ shares) =
    seen_if (on_key object number) row (left shares handle) (not (row.0.1 == handle))
    ∙ left_by row.1 (share_on shares object number) (share_on (left shares handle) object number) (row.0.1 == handle) (row.0.0 == object) (row.0.1 == number) (number == handle)
    (λ u s. grind (arith, nat_tests, u, s)) (λ u s. grind (arith, nat_tests, u, s)) (share_left object number handle shares)

pub closes_keep_files : ClosesKeepFiles
closes_keep_files shares table target number held h agree found object other =
    share_left object other number shares ∙ by (other == number) refl
  where
    by : (s : Bool) → (other == number) ≡ s
        → (if s then None else share_on shares object other) ≡ file_share (without_handle table target number) object other
    by true e =
        let same : number ≡ other = grind (arith, nat_tests, e) in
        let gone = find_none (has_number number) (rest target number held table.handles) (number_gone target number held table.handles h.0 found) in
        sym (ap (λ n. file_share_by object (find (has_number n) (rest target number held table.handles))) (sym same) ∙ ap (file_share_by object) gone)
    by false e =
        agree object other
        ∙ sym (ap (file_share_by object) (find_filtered (has_number other) (λ handle. not (is_of target number handle)) table.handles
        (λ handle g. not_of target number handle (apart handle.number g))))
      where
        apart : (n : ℕ) → (n == other) ≡ true → not (n == number) ≡ true
        apart n g =
            let no : (n == number) ≡ false = grind (arith, nat_tests, e, g) in
            rw no refl

abbrev other_handle : ℕ → (ℕ × ℕ) × Share → Bool
other_handle number row = not (row.0.1 == number)

-- a pair is at its own place
own_place : (object number : ℕ) → is_at (by_pair (object, number)) (object, number) ≡ true
own_place object number = same_pair object number object number ∙ grind (arith, nat_tests)

-- a handle that has no share of any object is in no row
in_no_row : (number : ℕ) (shares : Shares) → ((object : ℕ) → share_on shares object number ≡ None) → list_all (other_handle number) shares ≡ true
in_no_row number [] none = refl
in_no_row number (row ∷ shares) none = by (row.0.1 == number) refl (none row.0.0) (in_no_row number shares (λ object. later (on_key object number row.0) (none object)))
  where
    later : {after : Option Share} (b : Bool) → cond b (Some row.1) after ≡ None → after ≡ None
    later true h = absurd (cc)
    later false h = h

    by : (b : Bool) → (row.0.1 == number) ≡ b → cond (on_key row.0.0 number row.0) (Some row.1) (share_on shares row.0.0 number) ≡ None
        → list_all (other_handle number) shares ≡ true → (not b && list_all (other_handle number) shares) ≡ true
    by false e h i = i
    by true e h i =
        let own : (row.0.0 == row.0.0) ≡ true = grind (arith, nat_tests) in
        let here : on_key row.0.0 number row.0 ≡ true = rw (own, e) refl in
        absurd (false≢true (sym (ap is_some h) ∙ ap (λ b. is_some (cond b (Some row.1) (share_on shares row.0.0 number))) here))

opened_out : (object number : ℕ) (share : Share) (shares : Shares) → list_all (other_handle number) shares ≡ true
    → left_on (opened shares object number share) object number ≡ shares
opened_out object number share [] h = rw (own_place object number) refl
opened_out object number share (row ∷ shares) h =
    by (by_pair (object, number) row.0) refl (and_parts (other_handle number row) (list_all (other_handle number) shares) h) (opened_out object number share shares)
  where
    by : (o : Ordering) → by_pair (object, number) row.0 ≡ o → (other_handle number row ≡ true) × (list_all (other_handle number) shares ≡ true)
        → (list_all (other_handle number) shares ≡ true → left_on (opened shares object number share) object number ≡ shares)
        → left_on (match_ordering o (((object, number), share) ∷ row ∷ shares) ((row.0, share) ∷ shares) (row ∷ opened shares object number share)) object number ≡ row ∷ shares
    by Less e parts i = rw (own_place object number) refl
    by Equal e parts i =
        let same = and_parts (object == row.0.0) (number == row.0.1) (sym (same_pair object number row.0.0 row.0.1) ∙ ap is_eq e) in
        let here : (row.0.1 == number) ≡ true = grind (arith, nat_tests, same.1) in
        absurd (false≢true (sym (ap not here) ∙ parts.0))
    by Greater e parts i = ap (λ o. cond (is_eq o) (opened shares object number share) (row ∷ left_on (opened shares object number share) object number)) e ∙ ap (λ more. row ∷ more) (i parts.1)

pub opens_come_back : OpensComeBack
opens_come_back shares table object share h agree =
    opened_out object (table.granted + 1) share shares
    (in_no_row (table.granted + 1) shares (λ object. agree object (table.granted + 1) ∙ no_share table object (table.granted + 1) h (omega arith)))

-- the handle of a number is the one that the target holds
held_at : (target number : ℕ) (held : Held) (handles : List OpenHandle) → IsStrictlySortedBy nat_cmp (map (λ handle. handle.number) handles)
    → option_map (λ handle. handle.held) (find (is_of target number) handles) ≡ Some held
    → option_map (λ handle. handle.held) (find (λ handle. handle.number == number) handles) ≡ Some held
held_at target number held =
    by_first target number held (λ handles without. option_map (λ handle. handle.held) (find (λ handle. handle.number == number) handles) ≡ Some held)
    (λ handle handles same e alone. rw e (ap Some same))
    (λ handle handles without e i. rw e i)

pub held_on_one : HeldOnOne
held_on_one shares table target number held h agree found other there =
    by (find (λ handle. handle.number == number) table.handles) (held_at target number held table.handles h.0 found) (sym (ap is_some (agree other number)) ∙ there)
  where
    by : (o : Option OpenHandle) → option_map (λ handle. handle.held) o ≡ Some held → is_some (file_share_by other o) ≡ true → other ≡ held.object.number
    by None e i = absurd (false≢true i)
    by (Some handle) e i =
        let same : handle.held ≡ held = ap (λ o. unwrap_or o handle.held) e in
        let on : (handle.held.object.number == other) ≡ true = here (is_file handle.held.object.service) (handle.held.object.number == other) i in
        grind (arith, nat_tests, on, same)
      where
        here : (s t : Bool) → is_some {T = Share} (if s && t then Some (record { access = handle.held.access; sharing = handle.held.sharing }) else None) ≡ true → t ≡ true
        here true true q = refl
        here true false q = absurd (false≢true q)
        here false t q = absurd (false≢true q)

-- what is open after a row is open with it
still_on : (shares : Shares) (row : (ℕ × ℕ) × Share) (object handle : ℕ) → IsOn (row ∷ shares) object handle → IsOn shares object handle
still_on shares row object handle on other there = on other (by (on_key other handle row.0))
  where
    by : (s : Bool) → is_some (cond s (Some row.1) (share_on shares other handle)) ≡ true
    by true = refl
    by false = there

others_left : (object handle : ℕ) (shares : Shares) → SharesRise shares → IsOn shares object handle → list_all (other_handle handle) (left_on shares object handle) ≡ true
unfolding IsStrictlySortedBy
others_left object handle [] rise on = refl
others_left object handle (row ∷ shares) rise on =
    by (is_at (by_pair (object, handle)) row.0) (same_pair object handle row.0.0 row.0.1) (others_left object handle shares rise.1 (still_on shares row object handle on))
  where
    gone : object ≡ row.0.0 → handle ≡ row.0.1 → (other : ℕ) (o : Option Share) → share_on shares other handle ≡ o → share_on shares other handle ≡ None
    gone same same' other None e = e
    gone same same' other (Some share) e =
        let its_own : other ≡ object = still_on shares row object handle on other (ap is_some e) in
        let none : share_on shares row.0.0 handle ≡ None = none_lower row.0.0 row.0.1 handle shares rise.0 (omega (arith, same')) in
        ap (λ n. share_on shares n handle) (its_own ∙ same) ∙ none

    by : (s : Bool) → s ≡ (object == row.0.0 && handle == row.0.1) → list_all (other_handle handle) (left_on shares object handle) ≡ true
        → list_all (other_handle handle) (cond s shares (row ∷ left_on shares object handle)) ≡ true
    by true e i =
        let same : object ≡ row.0.0 = grind (arith, nat_tests, e) in
        let same' : handle ≡ row.0.1 = grind (arith, nat_tests, e) in
        in_no_row handle shares (λ other. gone same same' other (share_on shares other handle) refl)
    by false e i = rw (other (row.0.1 == handle) refl, i) refl
      where
        other : (t : Bool) → (row.0.1 == handle) ≡ t → not t ≡ true
        other false q = refl
        other true q =
            let own : on_key row.0.0 handle row.0 ≡ true = grind (arith, nat_tests, q) in
            let its_own : row.0.0 ≡ object = on row.0.0 (ap (λ b. is_some (cond b (Some row.1) (share_on shares row.0.0 handle))) own) in
            let here : (object == row.0.0 && handle == row.0.1) ≡ true = grind (arith, nat_tests, q, its_own) in
            absurd (false≢true (e ∙ here))

pub one_is_left : OneIsLeft
one_is_left shares object handle rise on =
    sym (all_stay (other_handle handle) (left_on shares object handle) (others_left object handle shares rise on)) ∙ left_removed object handle shares
