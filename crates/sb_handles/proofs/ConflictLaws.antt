-- The conflict that is given is the lowest.
use Rattle.std.proofs.Common.{◌≡◌, ◌<◌, ◌≤◌, ℕ, Bool, true, false, cond, refl, sym, ◌∙◌, ap, arith, ◌==◌, [], ◌∷◌, if◌then◌else◌}
use Rattle.std.proofs.lemmas.Bool.{false≢true}
use Rattle.std.proofs.lemmas.Bool.Decides.{nat_tests}
use Rattle.std.specs.Prelude.{Option, None, Some, is_some, option_map, ◌&&◌}
use Rattle.std.specs.List.{AllByRecursion, find}
use Rattle.std.specs.List.Sorted.{IsStrictlySortedBy}
use Rattle.std.specs.Map.{keys_of}
use Rattle.std.specs.declared.cmp.Ordering.TheVariants.{Less}
use Rattle.sb_handles.specs.Agreements.{file_share_by, is_file}
use Rattle.sb_handles.specs.Laws.{ConflictsAreHeld, ConflictsAreOpen, ConflictsAreLowest, HeldHandlesConflict, IsConflicting, NoConflictMeansNone}
use Rattle.sb_handles.specs.Shares.{Shares, SharesRise, conflicts, conflict_of, is_conflict, share_on}
use Rattle.sb_base.specs.Orders.{by_pair}
use Rattle.sb_handles.specs.declared.objects.OpenHandle.{OpenHandle}
use Rattle.sb_handles.specs.declared.objects.Share.{Share}

abbrev is_at : ℕ → ℕ → ℕ × ℕ → Bool
is_at object handle key = key.0 == object && key.1 == handle

some_none : {X : Type 0} (x : X) → None ≡ Some x → ⊥
some_none x e = false≢true (ap is_some e)

abbrev value_of : Share → Option Share → Share
value_of d None = d
value_of d (Some share) = share

abbrev number_of : Option ℕ → ℕ
number_of None = 0
number_of (Some n) = n

not_later : (o h object lower : ℕ) (key : ℕ × ℕ) → by_pair (o, h) key ≡ Less → object ≡ o → lower ≤ h → is_at object lower key ≡ false
not_later o h object lower key e same l = grind (arith, nat_tests, e, same, l)

-- after a handle, no lower handle of its object is open
pub none_lower : (o h lower : ℕ) (rows : Shares) → AllByRecursion (λ key. by_pair (o, h) key ≡ Less) (keys_of rows) → lower ≤ h → share_on rows o lower ≡ None
none_lower o h lower [] all l = refl
none_lower o h lower (row ∷ rows) all l = rw (not_later o h o lower row.0 all.0 refl l) (none_lower o h lower rows all.1 l)

module _ (object access sharing : ℕ) where
  abbrev hit : (ℕ × ℕ) × Share → Bool
  hit = is_conflict object access sharing

  pub none_conflicts : (rows : Shares) (handle : ℕ) (share : Share) → conflict_of rows object access sharing ≡ None
      → share_on rows object handle ≡ Some share → conflicts access sharing share ≡ false
  none_conflicts [] handle share none found = absurd (some_none share found)
  none_conflicts (((o, h), held) ∷ rows) handle share none found =
      by (o == object) (h == handle) (conflicts access sharing held) refl none found (none_conflicts rows handle share)
    where
      by : (s t c : Bool) → conflicts access sharing held ≡ c
          → option_map (λ row. row.0.1) (if s && c then Some ((o, h), held) else find hit rows) ≡ None
          → cond (s && t) (Some held) (share_on rows object handle) ≡ Some share
          → (conflict_of rows object access sharing ≡ None → share_on rows object handle ≡ Some share → conflicts access sharing share ≡ false)
          → conflicts access sharing share ≡ false
      by true t true e none found again = absurd (some_none h (sym none))
      by true true false e none found again = ap (conflicts access sharing) (sym (ap (value_of held) found)) ∙ e
      by true false false e none found again = again none found
      by false t c e none found again = again none found

  pub is_open : (rows : Shares) (handle : ℕ) → SharesRise rows → conflict_of rows object access sharing ≡ Some handle
      → (share : Share) × (share_on rows object handle ≡ Some share) × (conflicts access sharing share ≡ true)
  unfolding IsStrictlySortedBy
  is_open [] handle rise e = absurd (some_none handle e)
  is_open (((o, h), held) ∷ rows) handle rise e =
      by (o == object) refl (conflicts access sharing held) refl e (λ more. is_open rows handle rise.1 more)
    where
      later : (share : Share) → share_on rows object handle ≡ Some share → (t : Bool) → ((o == object) && (h == handle)) ≡ t
          → cond t (Some held) (share_on rows object handle) ≡ Some share
      later share found false t = found
      later share found true t =
          let both : (o ≡ object) × (h ≡ handle) = (grind (arith, nat_tests, t), grind (arith, nat_tests, t)) in
          let gone : share_on rows o handle ≡ None = none_lower o h handle rows rise.0 (omega (arith, both.1)) in
          absurd (some_none share (sym gone ∙ ap (λ x. share_on rows x handle) both.0 ∙ found))

      by : (s : Bool) → (o == object) ≡ s → (c : Bool) → conflicts access sharing held ≡ c
          → option_map (λ row. row.0.1) (if s && c then Some ((o, h), held) else find hit rows) ≡ Some handle
          → (conflict_of rows object access sharing ≡ Some handle
          → (share : Share) × (share_on rows object handle ≡ Some share) × (conflicts access sharing share ≡ true))
          → (share : Share) × (cond ((o == object) && (h == handle)) (Some held) (share_on rows object handle) ≡ Some share) × (conflicts access sharing share ≡ true)
      by true s true c e again =
          let same : (h == handle) ≡ true = grind (arith, nat_tests, ap number_of e) in
          (held, rw (s, same) refl, c)
      by true s false c e again =
          let got = again e in
          (got.0, later got.0 got.1 ((o == object) && (h == handle)) refl, got.2)
      by false s c c' e again =
          let got = again e in
          (got.0, later got.0 got.1 ((o == object) && (h == handle)) refl, got.2)

  pub is_lowest : (rows : Shares) (handle lower : ℕ) (share : Share) → SharesRise rows → conflict_of rows object access sharing ≡ Some handle
      → lower < handle → share_on rows object lower ≡ Some share → conflicts access sharing share ≡ false
  unfolding IsStrictlySortedBy
  is_lowest [] handle lower share rise e l found = absurd (some_none handle e)
  is_lowest (((o, h), held) ∷ rows) handle lower share rise e l found =
      by (o == object) refl (conflicts access sharing held) refl (h == lower) refl e found (is_lowest rows handle lower share rise.1)
    where
      by : (s : Bool) → (o == object) ≡ s → (c : Bool) → conflicts access sharing held ≡ c → (t : Bool) → (h == lower) ≡ t
          → option_map (λ row. row.0.1) (if s && c then Some ((o, h), held) else find hit rows) ≡ Some handle
          → cond (s && t) (Some held) (share_on rows object lower) ≡ Some share
          → (conflict_of rows object access sharing ≡ Some handle → lower < handle → share_on rows object lower ≡ Some share → conflicts access sharing share ≡ false)
          → conflicts access sharing share ≡ false
      by true s true c true t e found again =
          let same : h ≡ handle = ap number_of e in
          let low : h ≡ lower = grind (arith, nat_tests, t) in
          absurd (omega (arith, same, low, l))
      by true s true c false t e found again =
          let same : h ≡ handle = ap number_of e in
          let o_is : o ≡ object = grind (arith, nat_tests, s) in
          let gone : share_on rows o lower ≡ None = none_lower o h lower rows rise.0 (omega (arith, same, l)) in
          absurd (some_none share (sym gone ∙ ap (λ x. share_on rows x lower) o_is ∙ found))
      by true s false c true t e found again = ap (conflicts access sharing) (sym (ap (value_of held) found)) ∙ c
      by true s false c false t e found again = again e l found
      by false s c c' t t' e found again = again e l found

pub conflicts_are_open : ConflictsAreOpen
conflicts_are_open shares object access sharing handle rise e = is_open object access sharing shares handle rise e

pub conflicts_are_lowest : ConflictsAreLowest
conflicts_are_lowest shares object access sharing handle lower share rise e l found = is_lowest object access sharing shares handle lower share rise e l found

pub no_conflict_means_none : NoConflictMeansNone
no_conflict_means_none shares object access sharing handle share none found = none_conflicts object access sharing shares handle share none found

pub conflicts_are_held : ConflictsAreHeld
conflicts_are_held shares table object access sharing number rise agrees e =
    let found = is_open object access sharing shares number rise e in
    by found.0 found.2 (find (λ handle. handle.number == number) table.handles) refl (sym (agrees object number) ∙ found.1)
  where
    by_handle : (share : Share) → conflicts access sharing share ≡ true → (handle : OpenHandle)
        → find (λ handle. handle.number == number) table.handles ≡ Some handle
        → (s : Bool) → is_file handle.held.object.service ≡ s → (t : Bool) → (handle.held.object.number == object) ≡ t
        → (if s && t then Some (record { access = handle.held.access; sharing = handle.held.sharing }) else None) ≡ Some share
        → (handle : OpenHandle) × IsConflicting table object access sharing number handle
    by_handle share c handle f true s true t h =
        let same : handle.held.object.number ≡ object = grind (arith, nat_tests, t) in
        let its_own : conflicts access sharing (record { access = handle.held.access; sharing = handle.held.sharing }) ≡ true =
        ap (conflicts access sharing) (ap (value_of share) h) ∙ c in
        (handle, (f, s, same, its_own))
    by_handle share c handle f true s false t h = absurd (some_none share h)
    by_handle share c handle f false s t t' h = absurd (some_none share h)

    by : (share : Share) → conflicts access sharing share ≡ true → (o : Option OpenHandle)
        → find (λ handle. handle.number == number) table.handles ≡ o → file_share_by object o ≡ Some share
        → (handle : OpenHandle) × IsConflicting table object access sharing number handle
    by share c None f h = absurd (some_none share h)
    by share c (Some handle) f h = by_handle share c handle f (is_file handle.held.object.service) refl (handle.held.object.number == object) refl h

pub held_handles_conflict : HeldHandlesConflict
held_handles_conflict shares table object access sharing number handle agrees held = by (conflict_of shares object access sharing) refl
  where
    opened_so : share_on shares object number ≡ Some (record { access = handle.held.access; sharing = handle.held.sharing })
    opened_so =
        let same : (handle.held.object.number == object) ≡ true = grind (arith, nat_tests, held.2) in
        agrees object number ∙ ap (file_share_by object) held.0 ∙ rw (held.1, same) refl

    by : (o : Option ℕ) → conflict_of shares object access sharing ≡ o → is_some o ≡ true
    by (Some n) e = refl
    by None e = absurd (false≢true (sym (none_conflicts object access sharing shares number (record { access = handle.held.access; sharing = handle.held.sharing }) e opened_so) ∙ held.3))
