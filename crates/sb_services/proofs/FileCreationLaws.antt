-- What is found after a file or directory was made or opened.
use Rattle.std.proofs.Common.{◌≡◌, ◌<◌, ◌+◌, ◌-◌, ℕ, zero, suc, Bool, true, false, cond, refl, sym, ◌∙◌, ap, arith, List, [], ◌∷◌, ◌++◌, ◌==◌, nat_eq, length, map, if◌then◌else◌}
use Rattle.std.proofs.lemmas.Bool.{false≢true}
use Rattle.std.proofs.lemmas.Bool.Decides.{nat_tests}
use Rattle.std.proofs.lemmas.List.{get_or_append_left}
use Rattle.std.proofs.lemmas.Map.Keys.{IsDistinct-head, IsDistinct-tail}
use Rattle.std.specs.Prelude.{Option, None, Some, not, option_map, slice_index_or, slice_set, ◌&&◌, ◌||◌}
use Rattle.std.specs.Cmp.Lexicographic.{bytes_decides}
use Rattle.std.specs.List.{AllByRecursion, IsDistinct}
use Rattle.std.specs.Map.{lookup}
use Rattle.sb_call.specs.Statuses.{success, name_collision, path_not_found, not_a_directory, file_is_a_directory, sharing_violation}
use Rattle.sb_handles.specs.Effects.{Effect, refused}
use Rattle.sb_handles.specs.Tables.{with_handle}
use Rattle.sb_names.specs.Keys.{key_of}
use Rattle.sb_names.specs.Laws.{PutsAreFound, PutsKeepRows}
use Rattle.sb_names.specs.Maps.{Rows, found, is_key}
use Rattle.sb_services.specs.FileCreation.{create_by, object_asked, on_file, open_by, opens, replaced_as, was_opened}
use Rattle.sb_services.specs.Files.{Files, has_parent, is_directory, is_shared_out, object_found, object_of, with_attributes, with_object}
use Rattle.sb_services.specs.FileLaws.{CreatesAreFound, CreatesGiveAttributes, CreatesGrantTheirFile, CreatesKeepNames, CreatesLeaveOthers, OpensLeaveNames, says_made, says_replaced, with_asked}
use Rattle.sb_services.specs.FileRequests.{needs_free_name, replaces, wants_directory, wants_file}
use Rattle.sb_services.specs.declared.file_objects.FileKind.TheVariants as kind
use Rattle.sb_services.specs.declared.file_objects.FileObject.{FileObject}
use Rattle.sb_services.proofs.FileCreationCases.{by_create}
use Rattle.sb_services.proofs.FileLemmas.{found_made}
use Rattle.sb_services.proofs.RenameLaws.{chosen}
use Rattle.sb_services.proofs.NamedPipes.{own_key}

-- what an effect of file.create makes of another name
abbrev IsFoundAfter : Files → List ℕ → List ℕ → Effect Files → Type 0
IsFoundAfter files name other effect =
    found effect.service.names other
    ≡ (if says_made effect.answer.ext && is_key (key_of other) (key_of name) then Some (length files.objects + 1) else found files.names other)

pub creates_are_found : PutsAreFound ℕ → CreatesAreFound
creates_are_found puts files handles target name other request =
    by_create (IsFoundAfter files name other) files handles target name request (λ status n. refl)
    (λ f. puts files.names name other (length files.objects + 1)) (λ number f. refl) (λ number f. refl) (λ number f. refl)

pub creates_keep_names : PutsKeepRows ℕ → CreatesKeepNames
creates_keep_names keep files handles target name key request old there =
    by_create P files handles target name request (λ status n. there)
    (λ f. keep files.names name key (length files.objects + 1) old f there) (λ number f. there) (λ number f. there) (λ number f. there)
  where
    P : Effect Files → Type 0
    P effect = lookup (is_key key) effect.service.names ≡ Some old

pub opens_leave_names : OpensLeaveNames
opens_leave_names files handles target name request needs =
    chosen P (not (has_parent files name)) (refused files handles path_not_found)
    (create_by (found files.names name) files handles target name request) refl (by (found files.names name))
  where
    P : Effect Files → Type 0
    P effect = effect.service.names ≡ files.names

    by : (o : Option ℕ) → P (create_by o files handles target name request)
    by None = rw needs refl
    by (Some number) =
        chosen P (needs_free_name request.disposition) (refused files handles name_collision) _ refl
        (chosen P (not (is_directory (object_of files number).kind) && wants_directory request) (refused files handles not_a_directory) _ refl
        (chosen P (is_directory (object_of files number).kind && (wants_file request || replaces request.disposition))
        (refused files handles file_is_a_directory) _ refl
        (chosen P (is_shared_out files number request.access.0 request.sharing.0) (refused files handles sharing_violation)
        (open_by files handles target number request) refl
        (chosen P (replaces request.disposition)
        (opens (with_attributes files number request.attributes) handles target number request (replaced_as request.disposition))
        (opens files handles target number request was_opened) refl refl))))

pub creates_grant_their_file : PutsAreFound ℕ → CreatesGrantTheirFile
creates_grant_their_file puts files handles target name request =
    by_create P files handles target name request (λ status n h. absurd (n h))
    (λ f h. (
      length files.objects + 1,
      puts files.names name name (length files.objects + 1)
          ∙ ap (λ b. if b then Some (length files.objects + 1) else found files.names name) (own_key (key_of name)),
      refl,
    ))
    (λ number f h. (number, f, refl)) (λ number f h. (number, f, refl)) (λ number f h. (number, f, refl))
  where
    P : Effect Files → Type 0
    P effect = effect.answer.status ≡ success
        → (number : ℕ) × (found effect.service.names name ≡ Some number) × (effect.handles ≡ with_handle handles target (on_file number request))

-- the object that was appended
last_at : (objects : List FileObject) (object d : FileObject) → slice_index_or (objects ++ object ∷ []) (length objects) d ≡ object
last_at [] object d = refl
last_at (first ∷ objects) object d = last_at objects object d

-- the one that was set, and another
set_at : (objects : List FileObject) (at : ℕ) (object d : FileObject) → at < length objects → slice_index_or (slice_set objects at object) at d ≡ object
set_at [] at object d l = absurd (omega arith)
set_at (first ∷ objects) zero object d l = refl
set_at (first ∷ objects) (suc at) object d l = set_at objects at object d (omega arith)

set_elsewhere : (objects : List FileObject) (at other : ℕ) (object d : FileObject) → (at == other) ≡ false
    → slice_index_or (slice_set objects at object) other d ≡ slice_index_or objects other d
set_elsewhere [] at other object d l = refl
set_elsewhere (first ∷ objects) zero zero object d l = absurd (false≢true (sym l))
set_elsewhere (first ∷ objects) zero (suc other) object d l = refl
set_elsewhere (first ∷ objects) (suc at) zero object d l = refl
set_elsewhere (first ∷ objects) (suc at) (suc other) object d l = set_elsewhere objects at other object d (grind (arith, nat_tests, l))

abbrev no_object : FileObject
no_object = record { kind = kind.File; attributes = 0 }

abbrev GivesAttributes : Files → List ℕ → Files → List ℕ → FileObject → (FileObject → FileObject) → Type 0
GivesAttributes files name after words made changed =
    object_found after name
    ≡ (if says_made words then Some made else (if says_replaced words then option_map changed (object_found files name) else object_found files name))

pub creates_give_attributes : PutsAreFound ℕ → CreatesGiveAttributes
creates_give_attributes puts files handles target name request are =
    by_create P files handles target name request (λ status n. refl)
    (λ f. made) (λ number f. refl) (λ number f. replaced number f) (λ number f. replaced number f)
  where
    P : Effect Files → Type 0
    P effect = GivesAttributes files name effect.service effect.answer.ext (object_asked request) (with_asked request)

    more : Files
    more = with_object files name (object_asked request)

    is_there : found more.names name ≡ Some (length files.objects + 1)
    is_there = puts files.names name name (length files.objects + 1)
        ∙ ap (λ b. if b then Some (length files.objects + 1) else found files.names name) (own_key (key_of name))

    made : option_map (object_of more) (found more.names name) ≡ Some (object_asked request)
    made = ap (option_map (object_of more)) is_there
        ∙ ap Some (ap (λ at. slice_index_or more.objects at no_object) (omega arith) ∙ last_at files.objects (object_asked request) no_object)

    replaced : (number : ℕ) → found files.names name ≡ Some number
        → option_map (object_of (with_attributes files number request.attributes)) (found files.names name)
        ≡ option_map (with_asked request) (option_map (object_of files) (found files.names name))
    replaced number f =
        let in_range = found_made files name number are f in
        let set : object_of (with_attributes files number request.attributes) number ≡ with_asked request (object_of files number) =
        set_at files.objects (number - 1) (with_asked request (object_of files number)) no_object (omega (arith, in_range.0, in_range.1)) in
        ap (option_map (object_of (with_attributes files number request.attributes))) f ∙ ap Some set
        ∙ sym (ap (λ o. option_map (with_asked request) (option_map (object_of files) o)) f)

-- names that differ lead to different numbers
abbrev numbers : Rows ℕ → List ℕ
numbers rows = map (λ row. row.1) rows

abbrev value_or : ℕ → Option ℕ → ℕ
value_or d None = d
value_or d (Some n) = n

among : (key : List ℕ) (n : ℕ) (rows : Rows ℕ) → lookup (is_key key) rows ≡ Some n → (m : ℕ) → AllByRecursion (λ other. nat_eq m other ≡ false) (numbers rows)
    → nat_eq m n ≡ false
among key n [] f m all = absurd (cc)
among key n (row ∷ rows) f m all = by (is_key key row.0) f (λ later. among key n rows later m all.1)
  where
    by : (b : Bool) → cond b (Some row.1) (lookup (is_key key) rows) ≡ Some n → (lookup (is_key key) rows ≡ Some n → nat_eq m n ≡ false) → nat_eq m n ≡ false
    by true f i = sym (ap (λ o. nat_eq m (value_or row.1 o)) f) ∙ all.0
    by false f i = i f

apart : (a b : List ℕ) (n m : ℕ) (rows : Rows ℕ) → is_key a b ≡ false → lookup (is_key a) rows ≡ Some n → lookup (is_key b) rows ≡ Some m
    → IsDistinct nat_eq (numbers rows) → nat_eq n m ≡ false
apart a b n m [] differ f g distinct = absurd (cc)
apart a b n m (row ∷ rows) differ f g distinct =
    by (is_key a row.0) refl (is_key b row.0) refl f g
    (λ f g. apart a b n m rows differ f g (IsDistinct-tail nat_eq row.1 (numbers rows) distinct))
  where
    first : AllByRecursion (λ other. nat_eq row.1 other ≡ false) (numbers rows)
    first = IsDistinct-head nat_eq row.1 (numbers rows) distinct

    flipped : (x y : ℕ) → nat_eq x y ≡ false → nat_eq y x ≡ false
    flipped x y h = grind (arith, nat_tests, h)

    by : (s : Bool) → is_key a row.0 ≡ s → (t : Bool) → is_key b row.0 ≡ t
        → cond s (Some row.1) (lookup (is_key a) rows) ≡ Some n → cond t (Some row.1) (lookup (is_key b) rows) ≡ Some m
        → (lookup (is_key a) rows ≡ Some n → lookup (is_key b) rows ≡ Some m → nat_eq n m ≡ false) → nat_eq n m ≡ false
    by true e true h f g i =
        let same : a ≡ b = (bytes_decides a row.0).0 e ∙ sym ((bytes_decides b row.0).0 h) in
        absurd (false≢true (sym differ ∙ ap (is_key a) (sym same) ∙ own_key a))
    by true e false h f g i = sym (ap (λ o. nat_eq (value_or row.1 o) m) f) ∙ among b m rows g row.1 first
    by false e true h f g i = sym (ap (λ o. nat_eq n (value_or row.1 o)) g) ∙ flipped row.1 n (among a n rows f row.1 first)
    by false e false h f g i = i f g

pub creates_leave_others : PutsAreFound ℕ → CreatesLeaveOthers
creates_leave_others puts files handles target name other request are differ =
    by_create P files handles target name request (λ status n. refl) (λ f. made) (λ number f. refl) (λ number f. replaced number f) (λ number f. replaced number f)
  where
    P : Effect Files → Type 0
    P effect = object_found effect.service other ≡ object_found files other

    more : Files
    more = with_object files name (object_asked request)

    stays : (o : Option ℕ) → found files.names other ≡ o → option_map (object_of more) o ≡ option_map (object_of files) o
    stays None f = refl
    stays (Some n) f =
        let in_range = found_made files other n are f in
        ap Some (get_or_append_left files.objects (object_asked request ∷ []) no_object (n - 1) (omega (arith, in_range.0, in_range.1)))

    made : option_map (object_of more) (found more.names other) ≡ option_map (object_of files) (found files.names other)
    made = ap (option_map (object_of more)) (puts files.names name other (length files.objects + 1)
        ∙ ap (λ b. if b then Some (length files.objects + 1) else found files.names other) differ)
        ∙ stays (found files.names other) refl

    replaced : (number : ℕ) → found files.names name ≡ Some number
        → option_map (object_of (with_attributes files number request.attributes)) (found files.names other) ≡ option_map (object_of files) (found files.names other)
    replaced number f = by (found files.names other) refl
      where
        by : (o : Option ℕ) → found files.names other ≡ o
            → option_map (object_of (with_attributes files number request.attributes)) o ≡ option_map (object_of files) o
        by None g = refl
        by (Some n) g =
            let here = found_made files name number are f in
            let there = found_made files other n are g in
            let no : nat_eq n number ≡ false = apart (key_of other) (key_of name) n number files.names differ g f are.made.distinct in
            let elsewhere : (number - 1 == n - 1) ≡ false = grind (arith, nat_tests, no, here.0, there.0) in
            ap Some (set_elsewhere files.objects (number - 1) (n - 1) (with_asked request (object_of files number)) no_object elsewhere)
