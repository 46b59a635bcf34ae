-- Each name is in a directory: also after an object was made or renamed, or has other attributes.
use Rattle.std.proofs.Common.{◌≡◌, ◌<◌, ◌+◌, ◌-◌, ℕ, zero, suc, Bool, true, false, refl, sym, subst, ◌∙◌, ap, arith, List, [], ◌∷◌, ◌++◌, length}
use Rattle.std.proofs.lemmas.Bool.Decides.{nat_tests}
use Rattle.std.proofs.lemmas.List.{get_or_append_left}
use Rattle.std.specs.Prelude.{Option, None, Some, Ok, ◌&&◌, slice_index_or, slice_set}
use Rattle.std.specs.List.{list_all}
use Rattle.sb_base.specs.Names.{is_name_of}
use Rattle.sb_handles.specs.Shares.{Shares}
use Rattle.sb_names.specs.Keys.{parent_of}
use Rattle.sb_names.specs.Laws.{PutsKeepParents, RenamesKeepParents}
use Rattle.sb_names.specs.Maps.{Rows, found, is_there, put}
use Rattle.sb_names.specs.Numbers.{is_given}
use Rattle.sb_names.specs.Renames.{renamed_tree}
use Rattle.sb_names.specs.Trees.{AreFolded, HasParents, IsTree, has_parent_with, is_directory_with, passes}
use Rattle.sb_services.specs.Files.{Files, has_parent, is_directory, is_directory_by, is_directory_there, object_at}
use Rattle.sb_services.specs.declared.file_objects.FileKind.TheVariants as kind
use Rattle.sb_services.specs.declared.file_objects.FileObject.{FileObject}
use Rattle.sb_services.proofs.FileRowLemmas.{found_passes, widened}

-- the object of this number is a directory
abbrev pub is_directory_at : List FileObject → ℕ → Bool
is_directory_at objects number = is_directory (object_at objects number).kind

-- each name is in a directory
abbrev pub HasDirectories : Files → Type 0
HasDirectories files = list_all (λ row. has_parent files row.0) files.names ≡ true

-- so says the tree of names
by_names : (files : Files) (name : List ℕ) → has_parent files name ≡ has_parent_with (is_directory_at files.objects) files.names name
by_names files name = by (parent_of name)
  where
    by_number : (o : Option ℕ) → is_directory_by o files ≡ passes (is_directory_at files.objects) o
    by_number None = refl
    by_number (Some n) = refl

    by : (path : List ℕ) → is_directory_there files path ≡ is_directory_with (is_directory_at files.objects) files.names path
    by [] = refl
    by (u ∷ us) = by_number (found files.names (u ∷ us))

all_same : (p q : List ℕ → Bool) → ((name : List ℕ) → p name ≡ q name) → (rows : Rows ℕ) → list_all (λ row. p row.0) rows ≡ list_all (λ row. q row.0) rows
all_same p q same [] = refl
all_same p q same (row ∷ rows) =
    let rest = all_same p q same rows in
    (λ i. same row.0 i && rest i)

to_parents : (files : Files) → HasDirectories files → HasParents (is_directory_at files.objects) files.names
to_parents files h =
    sym (all_same (has_parent files) (has_parent_with (is_directory_at files.objects) files.names) (by_names files) files.names) ∙ h

from_parents : (files : Files) → HasParents (is_directory_at files.objects) files.names → HasDirectories files
from_parents files h =
    all_same (has_parent files) (has_parent_with (is_directory_at files.objects) files.names) (by_names files) files.names ∙ h

-- open handles are not looked at
pub with_other_shares : (files : Files) (shares : Shares) → HasDirectories files → HasDirectories (record files { shares = shares })
with_other_shares files shares h = from_parents (record files { shares = shares }) (to_parents files h)

-- if each directory that was made stays one
module _ (names : Rows ℕ) (old new : List FileObject) (made : list_all (λ row. is_given (length old) row.1) names ≡ true)
    (stays : (n : ℕ) → is_given (length old) n ≡ true → is_directory_at old n ≡ true → is_directory_at new n ≡ true) where
  still_with : (path : List ℕ) → is_directory_with (is_directory_at old) names path ≡ true → is_directory_with (is_directory_at new) names path ≡ true
  still_with [] h = refl
  still_with (u ∷ us) h = by (found names (u ∷ us)) refl h
    where
      by : (o : Option ℕ) → found names (u ∷ us) ≡ o → passes (is_directory_at old) o ≡ true → passes (is_directory_at new) o ≡ true
      by None f h = h
      by (Some n) f h = stays n (found_passes (is_given (length old)) names (u ∷ us) n f made) h

  still_parents : HasParents (is_directory_at old) names → HasParents (is_directory_at new) names
  still_parents h =
      widened (λ row. has_parent_with (is_directory_at old) names row.0) (λ row. has_parent_with (is_directory_at new) names row.0) names
      (λ row. still_with (parent_of row.0)) h

-- an object of the same kind in the place of another
kinds_kept : (xs : List FileObject) (i n : ℕ) (x d : FileObject) → x.kind ≡ (slice_index_or xs i d).kind
    → (slice_index_or (slice_set xs i x) n d).kind ≡ (slice_index_or xs n d).kind
kinds_kept [] zero n x d h = refl
kinds_kept [] (suc i) n x d h = refl
kinds_kept (y ∷ ys) zero zero x d h = h
kinds_kept (y ∷ ys) zero (suc n) x d h = refl
kinds_kept (y ∷ ys) (suc i) zero x d h = refl
kinds_kept (y ∷ ys) (suc i) (suc n) x d h = kinds_kept ys i n x d h

module _ (files : Files) (made : list_all (λ row. is_given (length files.objects) row.1) files.names ≡ true) (all : HasDirectories files) where
  -- with one object more, in a directory that is there
  pub with_one_more : PutsKeepParents → (name : List ℕ) (object : FileObject) → has_parent files name ≡ true → is_there files.names name ≡ false
      → HasDirectories (record files { names = put files.names name (length files.objects + 1); objects = files.objects ++ object ∷ [] })
  with_one_more keeps name object parent absent =
      from_parents (record files { names = put files.names name (length files.objects + 1); objects = files.objects ++ object ∷ [] })
      (keeps (is_directory_at (files.objects ++ object ∷ [])) files.names name (length files.objects + 1)
      (still_parents files.names files.objects (files.objects ++ object ∷ []) made stays (to_parents files all))
      (still_with files.names files.objects (files.objects ++ object ∷ []) made stays (parent_of name) (sym (by_names files name) ∙ parent)) absent)
    where
      stays : (n : ℕ) → is_given (length files.objects) n ≡ true → is_directory_at files.objects n ≡ true
          → is_directory_at (files.objects ++ object ∷ []) n ≡ true
      stays n given h =
          let below : n - 1 < length files.objects = grind (arith, nat_tests, given) in
          ap (λ o. is_directory o.kind) (get_or_append_left files.objects (object ∷ []) (record { kind = kind.File; attributes = 0 }) (n - 1) below) ∙ h

  -- if one has other attributes
  pub with_other_attributes : (objects : List FileObject) (place : ℕ) (object : FileObject) → objects ≡ slice_set files.objects place object
      → object.kind ≡ (slice_index_or files.objects place (record { kind = kind.File; attributes = 0 })).kind → HasDirectories (record files { objects = objects })
  with_other_attributes objects place object e same =
      subst (λ xs. HasDirectories (record files { objects = xs })) (sym e)
      (from_parents (record files { objects = slice_set files.objects place object })
      (still_parents files.names files.objects (slice_set files.objects place object) made stays (to_parents files all)))
    where
      stays : (n : ℕ) → is_given (length files.objects) n ≡ true → is_directory_at files.objects n ≡ true
          → is_directory_at (slice_set files.objects place object) n ≡ true
      stays n given h =
          ap is_directory (kinds_kept files.objects place (n - 1) object (record { kind = kind.File; attributes = 0 }) same) ∙ h

  -- and after one is renamed into a directory that is there
  pub with_new_name : RenamesKeepParents → (names : Rows ℕ) (old new : List ℕ) → IsTree files.names → AreFolded files.names → is_name_of old ≡ true
      → is_name_of new ≡ true → renamed_tree files.names old new ≡ Ok names → has_parent files new ≡ true → HasDirectories (record files { names = names })
  with_new_name keeps names old new tree folded is_old is_new done parent =
      from_parents (record files { names = names })
      (keeps (is_directory_at files.objects) files.names names old new tree folded is_old is_new (to_parents files all) (sym (by_names files new) ∙ parent) done)
