-- Names that lead to objects, and directories that are there.
use Rattle.std.proofs.Common.{◌≡◌, ◌≤◌, ◌+◌, ℕ, Bool, true, false, refl, sym, subst, ◌∙◌, ap, arith, List, [], ◌∷◌, ◌++◌, ◌==◌, nat_eq, length, length-set, if◌then◌else◌}
use Rattle.std.proofs.lemmas.Bool.{false≢true}
use Rattle.std.proofs.lemmas.Bool.Decides.{nat_tests}
use Rattle.std.proofs.lemmas.List.{length-append}
use Rattle.std.specs.Prelude.{Option, None, Some, Ok, is_some, not, option_map, slice_index_or, slice_set}
use Rattle.std.specs.Cmp.Lexicographic.{slice_cmp}
use Rattle.std.specs.List.{IsDistinct, list_all}
use Rattle.std.specs.Ordering.{nat_cmp, match_ordering}
use Rattle.std.specs.declared.cmp.Ordering.{Ordering}
use Rattle.std.specs.declared.cmp.Ordering.TheVariants.{Less, Equal, Greater}
use Rattle.sb_base.specs.Names.{is_name_of}
use Rattle.sb_handles.specs.Shares.{Shares, left, opened}
use Rattle.sb_base.specs.Orders.{by_pair}
use Rattle.sb_handles.specs.declared.objects.Held.{Held}
use Rattle.sb_handles.specs.declared.objects.Share.{Share}
use Rattle.sb_names.specs.Keys.{key_of, parent_of, is_below}
use Rattle.sb_names.specs.Maps.{Rows, found, is_there, put}
use Rattle.sb_names.specs.Numbers.{AreNumbered, PutsKeepNumbers, RenamesKeepNumbers, is_given}
use Rattle.sb_names.specs.Renames.{renamed_rows, renamed_tree}
use Rattle.sb_names.specs.Laws.{PutsKeepParents, RenamesKeepParents}
use Rattle.sb_names.specs.Trees.{AreFolded, IsTree, directory_object, is_directory_there as is_name_there, has_parent as has_tree_parent, parent_object}
use Rattle.sb_services.specs.FileCreation.{on_file, share_of}
use Rattle.sb_services.specs.Files.{Files, AreObjects, has_parent, is_directory, is_directory_there, is_directory_by, object_of}
use Rattle.sb_services.specs.declared.file_objects.FileKind.TheVariants as kind
use Rattle.sb_services.specs.declared.file_objects.FileObject.{FileObject}
use Rattle.sb_services.specs.declared.file_requests.FileRequest.{FileRequest}
use Rattle.sb_services.proofs.ParentLemmas.{HasDirectories, with_new_name, with_one_more, with_other_attributes, with_other_shares}
use Rattle.sb_services.proofs.FileRowLemmas.{all_with, first_of, found_passes, others_of, widened}

abbrev by_unit : List ℕ → List ℕ → Ordering
by_unit = slice_cmp nat_cmp

-- an open handle is on an object that was made
abbrev pub on_made : ℕ → (ℕ × ℕ) × Share → Bool
on_made made row = is_given made row.0.0

-- an object that is found was made
pub found_made : (files : Files) (name : List ℕ) (number : ℕ) → AreObjects files → found files.names name ≡ Some number
    → (1 ≤ number) × (number ≤ length files.objects)
found_made files name number are f =
    let own : is_given (length files.objects) number ≡ true = found_passes (is_given (length files.objects)) files.names name number f are.made.given in
    (grind (arith, nat_tests, own), grind (arith, nat_tests, own))

-- a directory that is there is a name that is there
pub parent_there : (files : Files) (name : List ℕ) → has_parent files name ≡ true → has_tree_parent files.names name ≡ true
parent_there files name h = by (parent_of name) h
  where
    found_by : (o : Option ℕ) → is_directory_by o files ≡ true → is_some o ≡ true
    found_by None h = h
    found_by (Some n) h = refl

    by : (directory : List ℕ) → is_directory_there files directory ≡ true → is_name_there files.names directory ≡ true
    by [] h = refl
    by (u ∷ us) h = found_by (found files.names (u ∷ us)) h

-- files of which one is opened
pub files_opened : (files : Files) (shares : Shares) (object handle : ℕ) (share : Share) → shares ≡ opened files.shares object handle share
    → 1 ≤ object → object ≤ length files.objects → AreObjects files → AreObjects (record files { shares = shares })
files_opened files shares object handle share e low high are =
    record { made = are.made; parents = with_other_shares files shares are.parents; shared = subst (λ rows. list_all (on_made (length files.objects)) rows ≡ true) (sym e) (with_share files.shares are.shared) }
  where
    own : on_made (length files.objects) ((object, handle), share) ≡ true
    own = grind (arith, nat_tests, low, high)

    with_share : (rows : Shares) → list_all (on_made (length files.objects)) rows ≡ true → list_all (on_made (length files.objects)) (opened rows object handle share) ≡ true
    with_share [] all = rw own refl
    with_share (row ∷ rows) all = by (by_pair (object, handle) row.0) (with_share rows (others_of (on_made (length files.objects)) row rows all))
      where
        by : (o : Ordering) → list_all (on_made (length files.objects)) (opened rows object handle share) ≡ true
            → list_all (on_made (length files.objects)) (match_ordering o (((object, handle), share) ∷ row ∷ rows) ((row.0, share) ∷ rows) (row ∷ opened rows object handle share)) ≡ true
        by Less i = all_with (on_made (length files.objects)) ((object, handle), share) (row ∷ rows) own all
        by Equal i = all
        by Greater i = all_with (on_made (length files.objects)) row (opened rows object handle share) (first_of (on_made (length files.objects)) row rows all) i

-- files of which one is left
pub files_left : (files : Files) (shares : Shares) (handle : ℕ) → shares ≡ left files.shares handle → AreObjects files → AreObjects (record files { shares = shares })
files_left files shares handle e are =
    record { made = are.made; parents = with_other_shares files shares are.parents; shared = subst (λ rows. list_all (on_made (length files.objects)) rows ≡ true) (sym e) (without files.shares are.shared) }
  where
    without : (rows : Shares) → list_all (on_made (length files.objects)) rows ≡ true → list_all (on_made (length files.objects)) (left rows handle) ≡ true
    without [] all = refl
    without (row ∷ rows) all = by (not (row.0.1 == handle)) (without rows (others_of (on_made (length files.objects)) row rows all))
      where
        by : (b : Bool) → list_all (on_made (length files.objects)) (left rows handle) ≡ true
            → list_all (on_made (length files.objects)) (if b then row ∷ left rows handle else left rows handle) ≡ true
        by true i = all_with (on_made (length files.objects)) row (left rows handle) (first_of (on_made (length files.objects)) row rows all) i
        by false i = i

pub none_twice : IsDistinct nat_eq []
unfolding IsDistinct
none_twice = tt

-- if nothing was made
pub files_none : (names : Rows ℕ) (objects : List FileObject) (shares : Shares) → names ≡ [] → shares ≡ []
    → AreObjects (record { names = names; objects = objects; shares = shares })
files_none names objects shares n s = record {
  made = subst (λ rows. AreNumbered (λ n. n) (length objects) rows) (sym n) (record { given = refl; distinct = none_twice });
  parents = subst (λ rows. HasDirectories (record { names = rows; objects = objects; shares = shares })) (sym n) refl;
  shared = subst (λ rows. list_all (on_made (length objects)) rows ≡ true) (sym s) refl;
}

-- files with an object more
pub files_with_object : PutsKeepNumbers ℕ → PutsKeepParents → (files : Files) (names : Rows ℕ) (objects : List FileObject) (name : List ℕ) (object : FileObject)
    → has_parent files name ≡ true → is_there files.names name ≡ false
    → names ≡ put files.names name (length files.objects + 1) → objects ≡ files.objects ++ object ∷ [] → AreObjects files
    → AreObjects (record files { names = names; objects = objects })
files_with_object keeps parents files names objects name object parent absent n e are =
    let made : ℕ = length files.objects in
    let count : length objects ≡ made + 1 = ap length e ∙ length-append files.objects (object ∷ []) in
    let wider : (number : ℕ) → is_given made number ≡ true → is_given (length objects) number ≡ true =
    λ number h. ap (λ k. is_given k number) count ∙ grind (arith, nat_tests, h) in record {
      made = subst (λ k. AreNumbered (λ n. n) k names) (sym count)
          (subst (λ rows. AreNumbered (λ n. n) (made + 1) rows) (sym n) (keeps (λ n. n) made files.names name (made + 1) are.made refl));
      parents = subst (λ rows. HasDirectories (record files { names = rows; objects = objects })) (sym n)
          (subst (λ xs. HasDirectories (record files { names = put files.names name (made + 1); objects = xs })) (sym e)
          (with_one_more files are.made.given are.parents parents name object parent absent));
      shared = widened (on_made made) (on_made (length objects)) files.shares (λ row. wider row.0.0) are.shared;
    }

-- files of which one has other attributes
pub files_with_attributes : (files : Files) (objects : List FileObject) (place : ℕ) (object : FileObject) → objects ≡ slice_set files.objects place object
    → object.kind ≡ (slice_index_or files.objects place (record { kind = kind.File; attributes = 0 })).kind → AreObjects files
    → AreObjects (record files { objects = objects })
files_with_attributes files objects place object e same are =
    let count : length objects ≡ length files.objects = ap length e ∙ length-set files.objects place object in record {
      made = subst (λ made. AreNumbered (λ n. n) made files.names) (sym count) are.made;
      parents = with_other_attributes files are.made.given are.parents objects place object e same;
      shared = subst (λ made. list_all (on_made made) files.shares ≡ true) (sym count) are.shared;
    }

-- files of which one is opened by a handle
pub files_opened_by : (files : Files) (shares : Shares) (number handle : ℕ) (request : FileRequest) (held : Held) → held ≡ on_file number request
    → shares ≡ opened files.shares held.object.number handle (record { access = held.access; sharing = held.sharing })
    → 1 ≤ number → number ≤ length files.objects → AreObjects files → AreObjects (record files { shares = shares })
files_opened_by files shares number handle request held h e low high are =
    files_opened files shares number handle (share_of request)
    (e ∙ ap (λ held. opened files.shares held.object.number handle (record { access = held.access; sharing = held.sharing })) h) low high are

-- files that were renamed
pub files_renamed : RenamesKeepNumbers → RenamesKeepParents → (files : Files) (more : Rows ℕ) (from to : List ℕ) (number : ℕ)
    → IsTree files.names → AreFolded files.names → is_name_of from ≡ true → is_name_of to ≡ true → more ≡ renamed_rows files.names from to
    → found files.names from ≡ Some number → is_below (key_of from) (key_of to) ≡ false → has_parent files to ≡ true → found files.names to ≡ None
    → AreObjects files → AreObjects (record files { names = more })
files_renamed keeps parents files more from to number tree folded is_from is_to same there apart parent absent are = record {
  made = subst (λ rows. AreNumbered (λ n. n) (length files.objects) rows) (sym same) (keeps (length files.objects) files.names from to are.made);
  parents = with_new_name files are.made.given are.parents parents more from to tree folded is_from is_to done parent;
  shared = are.shared;
}
  where
    done : renamed_tree files.names from to ≡ Ok more
    done =
        let has : has_tree_parent files.names to ≡ true = parent_there files to parent in
        let made : renamed_tree files.names from to ≡ Ok (renamed_rows files.names from to) = rw (there, apart, has, absent) refl in
        made ∙ ap (λ rows. Ok rows) (sym same)

-- what the object of a parent says of it
abbrev is_root : Option (Option ℕ) → Bool
is_root None = false
is_root (Some None) = true
is_root (Some (Some n)) = false

abbrev number_or : ℕ → Option (Option ℕ) → ℕ
number_or d None = d
number_or d (Some None) = d
number_or d (Some (Some n)) = n

module _ (files : Files) (name : List ℕ) where
  pub parent_is_root : Some None ≡ parent_object files.names name → has_parent files name ≡ true
  parent_is_root e = by (parent_of name) e
    where
      by_number : (o : Option ℕ) → Some None ≡ option_map (λ n. Some n) o → is_directory_by o files ≡ true
      by_number None e = absurd (false≢true (sym (ap is_root e)))
      by_number (Some n) e = absurd (false≢true (sym (ap is_root e)))

      by : (path : List ℕ) → Some None ≡ directory_object files.names path → is_directory_there files path ≡ true
      by [] e = refl
      by (u ∷ us) e = by_number (found files.names (u ∷ us)) e

  pub parent_is_gone : None ≡ parent_object files.names name → has_parent files name ≡ false
  parent_is_gone e = by (parent_of name) e
    where
      by_number : (o : Option ℕ) → None ≡ option_map (λ n. Some n) o → is_directory_by o files ≡ false
      by_number None e = refl
      by_number (Some n) e = absurd (false≢true (ap is_some e))

      by : (path : List ℕ) → None ≡ directory_object files.names path → is_directory_there files path ≡ false
      by [] e = absurd (false≢true (ap is_some e))
      by (u ∷ us) e = by_number (found files.names (u ∷ us)) e

  module _ (number : ℕ) (e : Some (Some number) ≡ parent_object files.names name) where
    pub parent_is_object : has_parent files name ≡ is_directory (object_of files number).kind
    parent_is_object = by (parent_of name) e
      where
        by_number : (o : Option ℕ) → Some (Some number) ≡ option_map (λ n. Some n) o → is_directory_by o files ≡ is_directory (object_of files number).kind
        by_number None e = absurd (false≢true (sym (ap is_some e)))
        by_number (Some n) e = ap (λ m. is_directory (object_of files m).kind) (sym (ap (number_or n) e))

        by : (path : List ℕ) → Some (Some number) ≡ directory_object files.names path
            → is_directory_there files path ≡ is_directory (object_of files number).kind
        by [] e = absurd (false≢true (ap is_root e))
        by (u ∷ us) e = by_number (found files.names (u ∷ us)) e
