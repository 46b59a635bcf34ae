-- The counts of objects after the share of one handle has changed.
use Rattle.std.proofs.Common.{◌≡◌, ◌∙◌, refl, sym, ap, arith, ℕ, ◌+◌, ◌≤◌, ◌<◌, ◌^◌, ◌==◌, Bool, true, false, cond, length, [], ◌∷◌}
use Rattle.std.proofs.lemmas.Bool.{and_parts, true≢false}
use Rattle.std.proofs.lemmas.Bool.Decides.{nat_tests}
use Rattle.std.proofs.lemmas.List.Sums.{sum_by-cons}
use Rattle.std.proofs.lemmas.Map.{lookup-none}
use Rattle.std.proofs.lemmas.Map.Entries.{none_below_head}
use Rattle.std.proofs.lemmas.Map.Keys.{sorted_tail}
use Rattle.std.specs.Prelude.{Option, None, Some, is_some, ◌&&◌}
use Rattle.std.specs.BTreeMap.{insert_entry, is_at}
use Rattle.std.specs.List.{count_by}
use Rattle.std.specs.Map.{keys_of, lookup, remove_entry}
use Rattle.std.specs.Ordering.{match_ordering, is_eq}
use Rattle.std.specs.declared.cmp.Ordering.{Ordering}
use Rattle.std.specs.declared.cmp.Ordering.TheVariants.{Less, Equal, Greater}
use Rattle.sb_base.specs.Orders.{by_pair}
use Rattle.sb_handles.specs.Counts.{AreCounted, AreRecounted, IsAmong, IsChangeable, count_on, counts_after, counts_on, deletes, is_part, kept, kinds_of, one_if, passes, reads, recounted, shares_deleting, shares_reading, shares_writing, writes}
use Rattle.sb_handles.specs.declared.counts.Counts.{Counts}
use Rattle.sb_handles.specs.declared.counts.Kinds.{Kinds}
use Rattle.sb_handles.specs.Shares.{Shares, SharesRise}
use Rattle.sb_handles.specs.declared.objects.Share.{Share}
use Rattle.sb_handles.proofs.IndexLemmas.{same_pair}
use Rattle.sb_handles.proofs.ShareLemmas.{pairs_total}

abbrev Row : Type 0
Row = (ℕ × ℕ) × Share

-- one place of the order is one pair
one_pair : (a b : ℕ × ℕ) → is_at (by_pair a) b ≡ true → a ≡ b
one_pair a b h =
    let parts = and_parts (a.0 == b.0) (a.1 == b.1) (sym (same_pair a.0 a.1 b.0 b.1) ∙ h) in
    let i : a.0 ≡ b.0 = grind (arith, nat_tests, parts.0) in
    let j : a.1 ≡ b.1 = grind (arith, nat_tests, parts.1) in
    λ k. (i k, j k)

module _ (object : ℕ) (test : Share → Bool) where
  abbrev counted : ℕ × ℕ → Share → ℕ
  counted key share = one_if (key.0 == object && test share)

  abbrev total : Shares → ℕ
  total shares = count_by (λ (row : Row). row.0.0 == object && test row.1) shares

  -- what the share of a handle counted
  abbrev weight : ℕ × ℕ → Option Share → ℕ
  weight key None = 0
  weight key (Some share) = counted key share

  one_more : (row : Row) (shares : Shares) → total (row ∷ shares) ≡ counted row.0 row.1 + total shares
  one_more row shares = sum_by-cons (λ (row : Row). cond (row.0.0 == object && test row.1) 1 0) row shares

  taken : (key : ℕ × ℕ) (shares : Shares)
      → total (remove_entry (is_at (by_pair key)) shares) + weight key (lookup (is_at (by_pair key)) shares) ≡ total shares
  taken key [] = refl
  taken key (row ∷ shares) = by (is_at (by_pair key) row.0) refl (taken key shares)
    where
      rest : Shares
      rest = remove_entry (is_at (by_pair key)) shares

      by : (b : Bool) → is_at (by_pair key) row.0 ≡ b → total rest + weight key (lookup (is_at (by_pair key)) shares) ≡ total shares
          → total (cond b shares (row ∷ rest)) + weight key (cond b (Some row.1) (lookup (is_at (by_pair key)) shares)) ≡ total (row ∷ shares)
      by true e i = omega (arith, one_more row shares, ap (λ k. counted k row.1) (one_pair key row.0 e))
      by false e i = omega (arith, one_more row shares, one_more row rest, i)

  put : (key : ℕ × ℕ) (share : Share) (shares : Shares) → SharesRise shares
      → total (insert_entry by_pair shares key share) + weight key (lookup (is_at (by_pair key)) shares) ≡ total shares + counted key share
  put key share [] rise = omega (arith, one_more (key, share) [])
  put key share (row ∷ shares) rise = by (by_pair key row.0) refl (put key share shares (sorted_tail by_pair row.0 (keys_of shares) rise))
    where
      rest : Shares
      rest = insert_entry by_pair shares key share

      by : (o : Ordering) → by_pair key row.0 ≡ o → total rest + weight key (lookup (is_at (by_pair key)) shares) ≡ total shares + counted key share
          → total (match_ordering o ((key, share) ∷ row ∷ shares) ((row.0, share) ∷ shares) (row ∷ rest))
          + weight key (cond (is_eq o) (Some row.1) (lookup (is_at (by_pair key)) shares)) ≡ total (row ∷ shares) + counted key share
      by Less e i = omega (arith, one_more (key, share) (row ∷ shares), ap (weight key) (lookup-none (is_at (by_pair key)) shares (none_below_head pairs_total key row shares rise e).1))
      by Equal e i =
          let same = one_pair key row.0 (ap is_eq e) in
          omega (arith, one_more row shares, one_more (row.0, share) shares, ap (λ k. counted k row.1) same, ap (λ k. counted k share) same)
      by Greater e i = omega (arith, one_more row shares, one_more row rest, i)

  -- no more are counted than there are
  few : (shares : Shares) → total shares ≤ length shares
  few [] = omega arith
  few (row ∷ shares) = omega (arith, one_more row shares, at_most (row.0.0 == object && test row.1), few shares)
    where
      at_most : (b : Bool) → one_if b ≤ 1
      at_most true = omega arith
      at_most false = omega arith

-- ---- one count

-- the share of a handle
abbrev pub share_at : ℕ → ℕ → Shares → Option Share
share_at object handle shares = lookup (is_at (by_pair (object, handle))) shares

itself : (n : ℕ) → (n == n) ≡ true
itself n = grind (arith, nat_tests)

-- of its object a handle counts by its share alone, and of another not at all
own : (object handle : ℕ) (test : Share → Bool) (was : Option Share) → weight object test (object, handle) was ≡ one_if (passes test was)
own object handle test None = refl
own object handle test (Some share) = ap (λ b. one_if (b && test share)) (itself object)

foreign : (o object handle : ℕ) (test : Share → Bool) (was : Option Share) → (object == o) ≡ false → weight o test (object, handle) was ≡ 0
foreign o object handle test None e = refl
foreign o object handle test (Some share) e = ap (λ b. one_if (b && test share)) e

put_own : (object handle : ℕ) (test : Share → Bool) (share : Share) (shares : Shares) → SharesRise shares
    → count_on object test (insert_entry by_pair shares (object, handle) share)
    ≡ recounted (count_on object test shares) (passes test (share_at object handle shares)) (test share)
put_own object handle test share shares rise =
    let e = put object test (object, handle) share shares rise in
    let was = own object handle test (share_at object handle shares) in
    let is = own object handle test (Some share) in
    omega (arith, e, was, is)

put_foreign : (o object handle : ℕ) (test : Share → Bool) (share : Share) (shares : Shares) → SharesRise shares → (object == o) ≡ false
    → count_on o test (insert_entry by_pair shares (object, handle) share) ≡ count_on o test shares
put_foreign o object handle test share shares rise apart =
    let e = put o test (object, handle) share shares rise in
    let was = foreign o object handle test (share_at object handle shares) apart in
    let is = foreign o object handle test (Some share) apart in
    omega (arith, e, was, is)

taken_own : (object handle : ℕ) (test : Share → Bool) (shares : Shares)
    → count_on object test (remove_entry (is_at (by_pair (object, handle))) shares)
    ≡ recounted (count_on object test shares) (passes test (share_at object handle shares)) false
taken_own object handle test shares =
    let e = taken object test (object, handle) shares in
    let was = own object handle test (share_at object handle shares) in
    omega (arith, e, was)

taken_foreign : (o object handle : ℕ) (test : Share → Bool) (shares : Shares) → (object == o) ≡ false
    → count_on o test (remove_entry (is_at (by_pair (object, handle))) shares) ≡ count_on o test shares
taken_foreign o object handle test shares apart =
    let e = taken o test (object, handle) shares in
    let was = foreign o object handle test (share_at object handle shares) apart in
    omega (arith, e, was)

-- a handle is among those that are counted, of which there are no more than handles
among : (object handle : ℕ) (test : Share → Bool) (shares : Shares) → length shares < 2 ^ 63
    → IsAmong (count_on object test shares) (passes test (share_at object handle shares))
among object handle test shares l =
    let e = taken object test (object, handle) shares in
    let was = own object handle test (share_at object handle shares) in
    (omega (arith, few object test shares, l), omega (arith, e, was))

pub changeable : (object handle : ℕ) (shares : Shares) → length shares < 2 ^ 63 → IsChangeable (counts_on object shares) (kinds_of (share_at object handle shares))
changeable object handle shares l = record {
  counted = among object handle is_part shares l;
  readers = among object handle reads shares l;
  writers = among object handle writes shares l;
  deleters = among object handle deletes shares l;
  shared_read = among object handle shares_reading shares l;
  shared_write = among object handle shares_writing shares l;
  shared_delete = among object handle shares_deleting shares l;
}

-- ---- all counts

-- the counts of this object are those after a change, and those of every other are as before
abbrev HasChanged : ℕ → Kinds → Kinds → Shares → Shares → Type 0
HasChanged object was is old new =
    (o : ℕ) → counts_on o new ≡ cond (object == o) (counts_after (counts_on object old) was is) (counts_on o old)

same_number : (a b : ℕ) → (a == b) ≡ true → a ≡ b
same_number a b e = grind (arith, nat_tests, e)

put_changes : (object handle : ℕ) (share : Share) (shares : Shares) → SharesRise shares
    → HasChanged object (kinds_of (share_at object handle shares)) (kinds_of (Some share)) shares (insert_entry by_pair shares (object, handle) share)
put_changes object handle share shares rise o = by (object == o) refl
  where
    new : Shares
    new = insert_entry by_pair shares (object, handle) share

    here : counts_on object new ≡ counts_after (counts_on object shares) (kinds_of (share_at object handle shares)) (kinds_of (Some share))
    here = λ i. record {
      open_count = put_own object handle is_part share shares rise i;
      readers = put_own object handle reads share shares rise i;
      writers = put_own object handle writes share shares rise i;
      deleters = put_own object handle deletes share shares rise i;
      shared_read = put_own object handle shares_reading share shares rise i;
      shared_write = put_own object handle shares_writing share shares rise i;
      shared_delete = put_own object handle shares_deleting share shares rise i;
    }

    by : (b : Bool) → (object == o) ≡ b
        → counts_on o new ≡ cond b (counts_after (counts_on object shares) (kinds_of (share_at object handle shares)) (kinds_of (Some share))) (counts_on o shares)
    by true e = ap (λ n. counts_on n new) (sym (same_number object o e)) ∙ here
    by false e = λ i. record {
      open_count = put_foreign o object handle is_part share shares rise e i;
      readers = put_foreign o object handle reads share shares rise e i;
      writers = put_foreign o object handle writes share shares rise e i;
      deleters = put_foreign o object handle deletes share shares rise e i;
      shared_read = put_foreign o object handle shares_reading share shares rise e i;
      shared_write = put_foreign o object handle shares_writing share shares rise e i;
      shared_delete = put_foreign o object handle shares_deleting share shares rise e i;
    }

taken_changes : (object handle : ℕ) (shares : Shares)
    → HasChanged object (kinds_of (share_at object handle shares)) (kinds_of None) shares (remove_entry (is_at (by_pair (object, handle))) shares)
taken_changes object handle shares o = by (object == o) refl
  where
    new : Shares
    new = remove_entry (is_at (by_pair (object, handle))) shares

    here : counts_on object new ≡ counts_after (counts_on object shares) (kinds_of (share_at object handle shares)) (kinds_of None)
    here = λ i. record {
      open_count = taken_own object handle is_part shares i;
      readers = taken_own object handle reads shares i;
      writers = taken_own object handle writes shares i;
      deleters = taken_own object handle deletes shares i;
      shared_read = taken_own object handle shares_reading shares i;
      shared_write = taken_own object handle shares_writing shares i;
      shared_delete = taken_own object handle shares_deleting shares i;
    }

    by : (b : Bool) → (object == o) ≡ b
        → counts_on o new ≡ cond b (counts_after (counts_on object shares) (kinds_of (share_at object handle shares)) (kinds_of None)) (counts_on o shares)
    by true e = ap (λ n. counts_on n new) (sym (same_number object o e)) ∙ here
    by false e = λ i. record {
      open_count = taken_foreign o object handle is_part shares e i;
      readers = taken_foreign o object handle reads shares e i;
      writers = taken_foreign o object handle writes shares e i;
      deleters = taken_foreign o object handle deletes shares e i;
      shared_read = taken_foreign o object handle shares_reading shares e i;
      shared_write = taken_foreign o object handle shares_writing shares e i;
      shared_delete = taken_foreign o object handle shares_deleting shares e i;
    }

-- ---- the counts that are kept

-- counts that change with the shares are still those of the shares
still_counted : (object : ℕ) (was is : Kinds) (old new : Shares) (counts counts' : ℕ → Option Counts) → AreCounted old counts
    → HasChanged object was is old new → AreRecounted object was is counts counts' → AreCounted new counts'
still_counted object was is old new counts counts' kept_so changed recounted o =
    recounted o
    ∙ (λ i. cond (object == o) (counts_after (kept_so object i) was is) (kept_so o i))
    ∙ sym (changed o)

pub put_counted : (object handle : ℕ) (share : Share) (shares : Shares) (counts counts' : ℕ → Option Counts) → SharesRise shares → AreCounted shares counts
    → AreRecounted object (kinds_of (share_at object handle shares)) (kinds_of (Some share)) counts counts'
    → AreCounted (insert_entry by_pair shares (object, handle) share) counts'
put_counted object handle share shares counts counts' rise c r =
    still_counted object (kinds_of (share_at object handle shares)) (kinds_of (Some share)) shares (insert_entry by_pair shares (object, handle) share) counts counts' c
    (put_changes object handle share shares rise) r

pub taken_counted : (object handle : ℕ) (shares : Shares) (counts counts' : ℕ → Option Counts) → AreCounted shares counts
    → AreRecounted object (kinds_of (share_at object handle shares)) (kinds_of None) counts counts'
    → AreCounted (remove_entry (is_at (by_pair (object, handle))) shares) counts'
taken_counted object handle shares counts counts' c r =
    still_counted object (kinds_of (share_at object handle shares)) (kinds_of None) shares (remove_entry (is_at (by_pair (object, handle))) shares) counts counts' c
    (taken_changes object handle shares) r

-- where no counts are kept, no handle is counted that could be left
none_left : (was : Bool) → recounted 0 was false ≡ 0
none_left true = refl
none_left false = refl

pub untouched : (object : ℕ) (was : Option Share) (counts : ℕ → Option Counts) → is_some (counts object) ≡ false
    → AreRecounted object (kinds_of was) (kinds_of None) counts counts
untouched object was counts none o = by (object == o) refl
  where
    absent : (found : Option Counts) → is_some found ≡ false → kept found ≡ counts_after (kept found) (kinds_of was) (kinds_of None)
    absent (Some c) e = absurd (true≢false e)
    absent None e = λ i. record {
      open_count = sym (none_left (passes is_part was)) i;
      readers = sym (none_left (passes reads was)) i;
      writers = sym (none_left (passes writes was)) i;
      deleters = sym (none_left (passes deletes was)) i;
      shared_read = sym (none_left (passes shares_reading was)) i;
      shared_write = sym (none_left (passes shares_writing was)) i;
      shared_delete = sym (none_left (passes shares_deleting was)) i;
    }

    by : (b : Bool) → (object == o) ≡ b → kept (counts o) ≡ cond b (counts_after (kept (counts object)) (kinds_of was) (kinds_of None)) (kept (counts o))
    by true e = ap (λ n. kept (counts n)) (sym (same_number object o e)) ∙ absent (counts object) none
    by false e = refl
