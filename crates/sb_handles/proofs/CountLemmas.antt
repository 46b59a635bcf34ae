-- What the counts of an object tell: whether some handle of it passes a test.
use Rattle.std.proofs.Common.{◌≡◌, ◌∙◌, refl, sym, ap, arith, ℕ, ◌+◌, ◌≤◌, ◌==◌, Bool, true, false, cond, nat_lt, List, [], ◌∷◌, if◌then◌else◌}
use Rattle.std.proofs.lemmas.Bool.{false≢true}
use Rattle.std.proofs.lemmas.Bool.Decides.{nat_tests}
use Rattle.std.proofs.lemmas.List.Sums.{sum_by-cons}
use Rattle.std.specs.Prelude.{Some, is_some, option_map, not, ◌&&◌, ◌||◌}
use Rattle.std.specs.List.{count_by, find, list_any}
use Rattle.sb_call.specs.Statuses.{meets}
use Rattle.sb_handles.specs.Counts.{counts_on, exceeds as exceeds_counts, excludes, withholds}
use Rattle.sb_handles.specs.Shares.{Shares, conflict_of, exceeds, is_conflict, takes_part, read_bits, write_bits, delete_bits, share_read, share_write, share_delete}
use Rattle.sb_handles.specs.declared.objects.Share.{Share}

-- ---- some of a list pass a test

module _ {X : Type 0} where
  any_or : (p q : X → Bool) (xs : List X) → list_any (λ x. p x || q x) xs ≡ (list_any p xs || list_any q xs)
  any_or p q [] = refl
  any_or p q (x ∷ xs) = by (p x) (q x) (list_any p xs) (any_or p q xs)
    where
      by : (a b c : Bool) → list_any (λ x. p x || q x) xs ≡ (c || list_any q xs) → ((a || b) || list_any (λ x. p x || q x) xs) ≡ ((a || c) || (b || list_any q xs))
      by true b c e = refl
      by false true true e = refl
      by false true false e = refl
      by false false c e = e

  any_three : (p q r : X → Bool) (xs : List X) → list_any (λ x. (p x || q x) || r x) xs ≡ ((list_any p xs || list_any q xs) || list_any r xs)
  any_three p q r xs = any_or (λ x. p x || q x) r xs ∙ ap (λ b. b || list_any r xs) (any_or p q xs)

  any_and : (c : Bool) (p : X → Bool) (xs : List X) → list_any (λ x. c && p x) xs ≡ (c && list_any p xs)
  any_and true p xs = refl
  any_and false p [] = refl
  any_and false p (x ∷ xs) = any_and false p xs

  any_counted : (p : X → Bool) (xs : List X) → list_any p xs ≡ nat_lt 0 (count_by p xs)
  any_counted p [] = refl
  any_counted p (x ∷ xs) = by (p x) (any_counted p xs) ∙ ap (nat_lt 0) (sym (sum_by-cons (λ x. cond (p x) 1 0) x xs))
    where
      by : (b : Bool) → list_any p xs ≡ nat_lt 0 (count_by p xs) → (b || list_any p xs) ≡ nat_lt 0 (cond b 1 0 + count_by p xs)
      by true e = grind (arith, nat_tests)
      by false e =
          let none : count_by p xs ≡ 0 + count_by p xs = omega arith in
          e ∙ ap (nat_lt 0) none

  fewer : (p q : X → Bool) (xs : List X) → count_by (λ x. p x && q x) xs ≤ count_by p xs
  fewer p q [] = omega arith
  fewer p q (x ∷ xs) =
      let both = sum_by-cons (λ x. cond (p x && q x) 1 0) x xs in
      let one = sum_by-cons (λ x. cond (p x) 1 0) x xs in
      omega (arith, both, one, by (p x) (q x), fewer p q xs)
    where
      by : (a b : Bool) → cond {A = ℕ} (a && b) 1 0 ≤ cond a 1 0
      by true true = omega arith
      by true false = omega arith
      by false b = omega arith

  -- not all that pass one test pass another
  any_missing : (p q : X → Bool) (xs : List X) → list_any (λ x. p x && not (q x)) xs ≡ nat_lt (count_by (λ x. p x && q x) xs) (count_by p xs)
  any_missing p q [] = refl
  any_missing p q (x ∷ xs) =
      by (p x) (q x) (any_missing p q xs) (fewer p q xs)
      ∙ (λ i. nat_lt (sym (sum_by-cons (λ x. cond (p x && q x) 1 0) x xs) i) (sym (sum_by-cons (λ x. cond (p x) 1 0) x xs) i))
    where
      by : (a b : Bool) → list_any (λ x. p x && not (q x)) xs ≡ nat_lt (count_by (λ x. p x && q x) xs) (count_by p xs)
          → count_by (λ x. p x && q x) xs ≤ count_by p xs
          → ((a && not b) || list_any (λ x. p x && not (q x)) xs) ≡ nat_lt (cond (a && b) 1 0 + count_by (λ x. p x && q x) xs) (cond a 1 0 + count_by p xs)
      by true true e l = e ∙ grind (arith, nat_tests)
      by true false e l = grind (arith, nat_tests, l)
      by false b e l =
          let both : count_by (λ x. p x && q x) xs ≡ 0 + count_by (λ x. p x && q x) xs = omega arith in
          let one : count_by p xs ≡ 0 + count_by p xs = omega arith in
          e ∙ (λ i. nat_lt (both i) (one i))

  found : {Y : Type 0} (f : X → Y) (p : X → Bool) (xs : List X) → is_some (option_map f (find p xs)) ≡ list_any p xs
  found f p [] = refl
  found f p (x ∷ xs) = by (p x) (found f p xs)
    where
      by : (b : Bool) → is_some (option_map f (find p xs)) ≡ list_any p xs → is_some (option_map f (if b then Some x else find p xs)) ≡ (b || list_any p xs)
      by true e = refl
      by false e = e

-- ---- conjunctions in another order

shape : (on a t x y : Bool) → (on && (a && t && (x || y))) ≡ (a && ((on && t && x) || (on && t && y)))
shape true true true x y = refl
shape true true false x y = refl
shape true false t x y = refl
shape false true t x y = refl
shape false false t x y = refl

three : (base x y z : Bool) → (base && (x || y || z)) ≡ ((base && x) || (base && y) || (base && z))
three true x y z = refl
three false x y z = refl

turn : (base c x : Bool) → (base && (c && x)) ≡ (c && (base && x))
turn true c x = refl
turn false true x = refl
turn false false x = refl

grouped : (a b c : Bool) → (a && b && c) ≡ (a && (b && c))
grouped true b c = refl
grouped false b c = refl

-- what implies a test need not be tested with it
picked : (on t r c : Bool) → (r ≡ true → t ≡ true) → (on && t && (r && c)) ≡ (c && (on && r))
picked true true true true h = refl
picked true true true false h = refl
picked true false true c h = absurd (false≢true (h refl))
picked true true false true h = refl
picked true true false false h = refl
picked true false false true h = refl
picked true false false false h = refl
picked false t r true h = refl
picked false t r false h = refl

-- who reads, writes or deletes takes part
reads : (r w d : Bool) → r ≡ true → (r || w || d) ≡ true
reads true w d h = refl
reads false w d h = absurd (false≢true h)

writes : (r w d : Bool) → w ≡ true → (r || w || d) ≡ true
writes true w d h = refl
writes false true d h = refl
writes false false d h = absurd (false≢true h)

deletes : (r w d : Bool) → d ≡ true → (r || w || d) ≡ true
deletes true w d h = refl
deletes false true d h = refl
deletes false false true h = refl
deletes false false false h = absurd (false≢true h)

-- ---- the counts of an object

abbrev Row : Type 0
Row = (ℕ × ℕ) × Share

module _ (object access sharing : ℕ) (shares : Shares) where
  abbrev on : Row → Bool
  on row = row.0.0 == object

  abbrev part : Row → Bool
  part row = on row && takes_part row.1.access.0

  -- a handle does not share one kind of access
  unshared : (bits mode : ℕ) → list_any (λ (row : Row). part row && (meets access bits && not (meets row.1.sharing.0 mode))) shares
      ≡ (meets access bits && nat_lt (count_by (λ (row : Row). on row && (takes_part row.1.access.0 && meets row.1.sharing.0 mode)) shares) (count_by part shares))
  unshared bits mode =
      (λ i. list_any (λ (row : Row). turn (part row) (meets access bits) (not (meets row.1.sharing.0 mode)) i) shares)
      ∙ any_and (meets access bits) (λ (row : Row). part row && not (meets row.1.sharing.0 mode)) shares
      ∙ ap (λ b. meets access bits && b) (any_missing part (λ (row : Row). meets row.1.sharing.0 mode) shares
      ∙ (λ i. nat_lt (count_by (λ (row : Row). grouped (on row) (takes_part row.1.access.0) (meets row.1.sharing.0 mode) i) shares) (count_by part shares)))

  -- a handle has one kind of access
  has : (bits mode : ℕ) → ((n : ℕ) → meets n bits ≡ true → takes_part n ≡ true)
      → list_any (λ (row : Row). part row && (meets row.1.access.0 bits && not (meets sharing mode))) shares
      ≡ (not (meets sharing mode) && nat_lt 0 (count_by (λ (row : Row). on row && meets row.1.access.0 bits) shares))
  has bits mode f =
      (λ i. list_any (λ (row : Row). picked (on row) (takes_part row.1.access.0) (meets row.1.access.0 bits) (not (meets sharing mode)) (f row.1.access.0) i) shares)
      ∙ any_and (not (meets sharing mode)) (λ (row : Row). on row && meets row.1.access.0 bits) shares
      ∙ ap (λ b. not (meets sharing mode) && b) (any_counted (λ (row : Row). on row && meets row.1.access.0 bits) shares)

  some_withholds : list_any (λ (row : Row). part row && exceeds access row.1.sharing.0) shares ≡ withholds (counts_on object shares) access
  some_withholds =
      (λ i. list_any (λ (row : Row). three (part row) (meets access read_bits && not (meets row.1.sharing.0 share_read))
      (meets access write_bits && not (meets row.1.sharing.0 share_write)) (meets access delete_bits && not (meets row.1.sharing.0 share_delete)) i) shares)
      ∙ any_three (λ (row : Row). part row && (meets access read_bits && not (meets row.1.sharing.0 share_read)))
      (λ (row : Row). part row && (meets access write_bits && not (meets row.1.sharing.0 share_write)))
      (λ (row : Row). part row && (meets access delete_bits && not (meets row.1.sharing.0 share_delete))) shares
      ∙ (λ i. unshared read_bits share_read i || unshared write_bits share_write i || unshared delete_bits share_delete i)

  some_exceeds : list_any (λ (row : Row). part row && exceeds row.1.access.0 sharing) shares ≡ exceeds_counts (counts_on object shares) sharing
  some_exceeds =
      (λ i. list_any (λ (row : Row). three (part row) (meets row.1.access.0 read_bits && not (meets sharing share_read))
      (meets row.1.access.0 write_bits && not (meets sharing share_write)) (meets row.1.access.0 delete_bits && not (meets sharing share_delete)) i) shares)
      ∙ any_three (λ (row : Row). part row && (meets row.1.access.0 read_bits && not (meets sharing share_read)))
      (λ (row : Row). part row && (meets row.1.access.0 write_bits && not (meets sharing share_write)))
      (λ (row : Row). part row && (meets row.1.access.0 delete_bits && not (meets sharing share_delete))) shares
      ∙ (λ i. has read_bits share_read (λ n. reads (meets n read_bits) (meets n write_bits) (meets n delete_bits)) i
      || has write_bits share_write (λ n. writes (meets n read_bits) (meets n write_bits) (meets n delete_bits)) i
      || has delete_bits share_delete (λ n. deletes (meets n read_bits) (meets n write_bits) (meets n delete_bits)) i)

  -- the counts tell whether a handle conflicts
  pub counts_tell : excludes (counts_on object shares) access sharing ≡ is_some (conflict_of shares object access sharing)
  counts_tell = sym (
      found (λ (row : Row). row.0.1) (is_conflict object access sharing) shares
      ∙ (λ i. list_any (λ (row : Row). shape (on row) (takes_part access) (takes_part row.1.access.0) (exceeds access row.1.sharing.0) (exceeds row.1.access.0 sharing) i) shares)
      ∙ any_and (takes_part access) (λ (row : Row). (part row && exceeds access row.1.sharing.0) || (part row && exceeds row.1.access.0 sharing)) shares
      ∙ ap (λ b. takes_part access && b) (any_or (λ (row : Row). part row && exceeds access row.1.sharing.0) (λ (row : Row). part row && exceeds row.1.access.0 sharing) shares
      ∙ (λ i. some_withholds i || some_exceeds i)))
