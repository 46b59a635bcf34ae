-- Files and handles agree after handles were granted and closed.
use Rattle.std.proofs.Common.{◌≡◌, ◌⊎◌, inl, inr, ◌≤◌, ◌+◌, ◌-◌, ℕ, Bool, true, false, cond, refl, sym, subst, ◌∙◌, ap, arith, List, [], ◌∷◌, ◌==◌, length, length-set, map, if◌then◌else◌}
use Rattle.std.proofs.lemmas.Bool.Decides.{nat_tests}
use Rattle.std.proofs.lemmas.List.{length-append}
use Rattle.std.proofs.lemmas.Map.Keys.{sorted_head, sorted_tail}
use Rattle.std.specs.Prelude.{Option, None, Some, not, option_map, ◌&&◌}
use Rattle.std.specs.List.{AllByRecursion, find}
use Rattle.std.specs.List.Sorted.{IsStrictlySortedBy}
use Rattle.std.specs.Ordering.{nat_cmp}
use Rattle.std.specs.declared.cmp.Ordering.TheVariants.{Less}
use Rattle.sb_call.specs.Statuses.{success}
use Rattle.sb_handles.specs.Agreements.{AgreesOnFiles, is_file, file_share, file_share_by}
use Rattle.sb_handles.specs.Effects.{Effect}
use Rattle.sb_handles.specs.Laws.{ClosesKeepFiles as ClosesKeepShares, GrantsKeepFiles as GrantsKeepShares, GrantsLeaveFiles as GrantsLeaveShares}
use Rattle.sb_handles.specs.Shares.{Shares, left, opened, share_on}
use Rattle.sb_handles.specs.Tables.{Table, is_of, with_handle, without_handle}
use Rattle.sb_handles.specs.declared.objects.Held.{Held}
use Rattle.sb_handles.specs.declared.objects.OpenHandle.{OpenHandle}
use Rattle.sb_handles.specs.declared.objects.Share.{Share}
use Rattle.sb_services.specs.FileCreation.{object_asked, on_file, share_of}
use Rattle.sb_services.specs.Files.{Agrees, Files, object_of, with_attributes}
use Rattle.sb_services.specs.FileLaws.{CreatesGrantFiles, CreatesKeepFiles, CreatesMakeOne, RefusalsChangeNothing, ClosesKeepFiles, ClosesLeaveFiles, GrantsLeaveFiles}
use Rattle.sb_services.proofs.FileCreationCases.{by_create}

abbrev IsPlain : Files → Table → Effect Files → Type 0
IsPlain files handles effect = (effect.answer.status ≡ success → ⊥) → (effect.service ≡ files) × (effect.handles ≡ handles)

pub refused_file_calls_change_nothing : RefusalsChangeNothing
refused_file_calls_change_nothing files handles target name request =
    by_create (IsPlain files handles) files handles target name request (λ status n h. (refl, refl))
    (λ f h. absurd (h refl)) (λ number f h. absurd (h refl)) (λ number f h. absurd (h refl)) (λ number f h. absurd (h refl))

abbrev GrantsOne : Table → ℕ → Effect Files → Type 0
GrantsOne handles target effect =
    (effect.handles ≡ handles) ⊎ ((held : Held) × (is_file held.object.service ≡ true) × (effect.handles ≡ with_handle handles target held))

pub creates_grant_files : CreatesGrantFiles
creates_grant_files files handles target name request =
    by_create (GrantsOne handles target) files handles target name request (λ status n. inl refl)
    (λ f. inr (on_file (length files.objects + 1) request, refl, refl)) (λ number f. inr (on_file number request, refl, refl))
    (λ number f. inr (on_file number request, refl, refl)) (λ number f. inr (on_file number request, refl, refl))

pub creates_make_one : CreatesMakeOne
creates_make_one files handles target name request =
    by_create (λ effect. length effect.service.objects ≤ length files.objects + 1) files handles target name request
    (λ status n. omega arith) (λ f. omega (arith, length-append files.objects (object_asked request ∷ [])))
    (λ number f. omega arith) (λ number f. same number) (λ number f. same number)
  where
    same : (number : ℕ) → length (with_attributes files number request.attributes).objects ≤ length files.objects + 1
    same number = omega (arith, length-set files.objects (number - 1) (record (object_of files number) { attributes = request.attributes }))

pub creates_keep_files : GrantsKeepShares → CreatesKeepFiles
creates_keep_files grants files handles target name request table agree =
    by_create (λ effect. Agrees effect.service effect.handles) files handles target name request (λ status n. agree)
    (λ f. granted (length files.objects + 1)) (λ number f. granted number) (λ number f. granted number) (λ number f. granted number)
  where
    granted : (number : ℕ) → AgreesOnFiles (opened files.shares number (handles.granted + 1) (share_of request)) (with_handle handles target (on_file number request))
    granted number = grants files.shares handles target (on_file number request) table agree refl

-- how a handle is open once another was left
share_left : (object number handle : ℕ) (shares : Shares)
    → share_on (left shares handle) object number ≡ (if number == handle then None else share_on shares object number)
share_left object number handle [] = by (number == handle)
  where
    none : Option Share
    none = None

    by : (s : Bool) → none ≡ (if s then none else none)
    by true = refl
    by false = refl
share_left object number handle (row ∷ shares) =
    by (row.0.1 == handle) refl (row.0.0 == object) refl (row.0.1 == number) refl (share_left object number handle shares)
  where
    by : (s : Bool) → (row.0.1 == handle) ≡ s → (t : Bool) → (row.0.0 == object) ≡ t → (u : Bool) → (row.0.1 == number) ≡ u
        → share_on (left shares handle) object number ≡ (if number == handle then None else share_on shares object number)
        → share_on (if not s then row ∷ left shares handle else left shares handle) object number
        ≡ (if number == handle then None else cond (t && u) (Some row.1) (share_on shares object number))
    by true e true h true f i =
        let same : (number == handle) ≡ true = grind (arith, nat_tests, e, f) in
        i ∙ rw same refl
    by true e true h false f i = i
    by true e false h u f i = i
    by false e true h true f i =
        let apart : (number == handle) ≡ false = grind (arith, nat_tests, e, f) in
        rw (h, f, apart) refl
    by false e true h false f i = rw (h, f) i
    by false e false h u f i = rw h i

-- the handle of a number, which a target holds, is the only one of that number
find_number : (target number : ℕ) (held : Held) (handles : List OpenHandle) → IsStrictlySortedBy nat_cmp (map (λ handle. handle.number) handles)
    → option_map (λ handle. handle.held) (find (is_of target number) handles) ≡ Some held
    → option_map (λ handle. handle.held) (find (λ handle. handle.number == number) handles) ≡ Some held
find_number target number held [] sorted f = absurd (cc)
find_number target number held (handle ∷ handles) sorted f =
    by (handle.number == number) refl (handle.target == target) f
    (find_number target number held handles (sorted_tail nat_cmp handle.number (map (λ handle. handle.number) handles) sorted))
  where
    later : (handles : List OpenHandle) → AllByRecursion (λ n. nat_cmp number n ≡ Less) (map (λ handle. handle.number) handles) → find (is_of target number) handles ≡ None
    later [] h = refl
    later (other ∷ handles) h =
        let no : (other.number == number) ≡ false = differ number other.number h.0 in
        rw no (later handles h.1)
      where
        differ : (a b : ℕ) → nat_cmp a b ≡ Less → (b == a) ≡ false
        differ a b e = grind (arith, nat_tests, e)

    none_held : (o : Option OpenHandle) → o ≡ None → option_map (λ handle. handle.held) o ≡ Some held → ⊥
    none_held None e h = absurd (cc)
    none_held (Some x) e h = absurd (cc)

    by : (s : Bool) → (handle.number == number) ≡ s → (t : Bool)
        → option_map (λ handle. handle.held) (if s && t then Some handle else find (is_of target number) handles) ≡ Some held
        → (option_map (λ handle. handle.held) (find (is_of target number) handles) ≡ Some held
        → option_map (λ handle. handle.held) (find (λ handle. handle.number == number) handles) ≡ Some held)
        → option_map (λ handle. handle.held) (if s then Some handle else find (λ handle. handle.number == number) handles) ≡ Some held
    by true e true f i = f
    by true e false f i =
        let same : handle.number ≡ number = grind (arith, nat_tests, e) in
        let rest = subst (λ n. AllByRecursion (λ m. nat_cmp n m ≡ Less) (map (λ handle. handle.number) handles)) same
        (sorted_head nat_cmp handle.number (map (λ handle. handle.number) handles) sorted) in
        absurd (none_held (find (is_of target number) handles) (later handles rest) f)
    by false e t f i = i f

-- a handle on no file has no share
no_share : (object : ℕ) (held : Held) (o : Option OpenHandle) → option_map (λ handle. handle.held) o ≡ Some held → is_file held.object.service ≡ false
    → file_share_by object o ≡ None
no_share object held None e n = refl
no_share object held (Some handle) e n =
    let same : is_file handle.held.object.service ≡ false = ap (value_or handle.held) e ∙ n in
    rw same refl
  where
    value_or : Held → Option Held → Bool
    value_or d None = is_file d.object.service
    value_or d (Some h) = is_file h.object.service

module _ (keeps : ClosesKeepShares) where
  pub closes_keep_files : ClosesKeepFiles
  closes_keep_files files table target number held is_table agree f = keeps files.shares table target number held is_table agree f

  pub closes_leave_files : ClosesLeaveFiles
  closes_leave_files files table target number held is_table agree f other object of = by (of == number) refl
    where
      -- the same is had from the law of handles that are left
      kept : share_on (left files.shares number) object of ≡ file_share (without_handle table target number) object of
      kept = keeps files.shares table target number held is_table agree f object of

      none : share_on files.shares object number ≡ None
      none = agree object number
          ∙ no_share object held (find (λ handle. handle.number == number) table.handles) (find_number target number held table.handles is_table.0 f) other

      by : (s : Bool) → (of == number) ≡ s → share_on files.shares object of ≡ file_share (without_handle table target number) object of
      by true e =
          let same : number ≡ of = grind (arith, nat_tests, e) in
          ap (share_on files.shares object) (sym same) ∙ none
          ∙ sym (share_left object of number files.shares ∙ ap (λ b. if b then None else share_on files.shares object of) e) ∙ kept
      by false e = sym (share_left object of number files.shares ∙ ap (λ b. if b then None else share_on files.shares object of) e) ∙ kept

pub grants_leave_files : GrantsLeaveShares → GrantsLeaveFiles
grants_leave_files leaves files table target held is_table agree other = leaves files.shares table target held is_table agree other
