-- If the object of each directory passes a test, it does so after a name is put, and after one is renamed.
use Rattle.std.proofs.Common.{◌≡◌, ℕ, Bool, true, false, refl, sym, ◌∙◌, ap, subst, arith, List, [], ◌∷◌, ◌++◌, length, drop, if◌then◌else◌}
use Rattle.std.proofs.lemmas.Bool.{false≢true}
use Rattle.std.proofs.lemmas.Bool.Decides.{nat_tests}
use Rattle.std.proofs.lemmas.List.{append-nil, append_cancel_left}
use Rattle.std.specs.Prelude.{Option, Some, None, is_some}
use Rattle.std.specs.List.{list_all}
use Rattle.std.specs.Map.{lookup}
use Rattle.sb_names.specs.Keys.{key_of, parent_of, is_below}
use Rattle.sb_names.specs.Laws.{PutsKeepParents, RenamesKeepParents}
use Rattle.sb_names.specs.Maps.{Rows, found, is_key, put}
use Rattle.sb_names.specs.Nodes.{is_path}
use Rattle.sb_names.specs.Renames.{is_at_or_below, renamed_key, renamed_rows}
use Rattle.sb_names.specs.Trees.{AreFolded, IsTree, has_parent_with, is_directory_with, passes}
use Rattle.sb_names.proofs.MapLaws.{is_found, is_key_eq}
use Rattle.sb_names.proofs.NameLemmas.{nothing_before, parent_is_path, parent_path}
use Rattle.sb_names.proofs.RenameLaws.{Has, all_keys, all_under, found_renamed, key_apart, key_passes, new_apart, own_folded, parts, renamed_folded, some_name, under}
use Rattle.sb_names.proofs.RenameLemmas.{has_path, with_path}
use Rattle.sb_names.proofs.TreeLaws.{all_put, all_weaker, keys_again, parent_folded}
use Rattle.sb_names.proofs.TreeLemmas.{all_tested}

module _ (test : ℕ → Bool) (rows : Rows ℕ) (tree : IsTree rows) (are_folded : AreFolded rows)
    (all : list_all (λ row. has_parent_with test rows row.0) rows ≡ true) where
  -- a key has a row whose object passes
  abbrev Passes : List ℕ → Type 0
  Passes key = passes test (lookup (is_key key) rows) ≡ true

  has_row : (key : List ℕ) → Passes key → Has rows key
  has_row key h = by (lookup (is_key key) rows) h
    where
      by : (o : Option ℕ) → passes test o ≡ true → is_some o ≡ true
      by None t = t
      by (Some n) t = refl

  -- the directory of a key that has a row passes, or is the root
  passing_row : (key : List ℕ) → Has rows key → (parent_of key ≡ [] → ⊥) → Passes (parent_of key)
  passing_row key there some =
      by (parent_of key) some (sym (parent_folded key) ∙ ap parent_of (own_folded rows tree are_folded key there))
      (key_passes (has_parent_with test rows) rows key all there)
    where
      by : (path : List ℕ) → (path ≡ [] → ⊥) → key_of path ≡ path → is_directory_with test rows path ≡ true → Passes path
      by [] some same h = absurd (some refl)
      by (u ∷ us) some same h = subst (λ k. passes test (lookup (is_key k) rows) ≡ true) same h

  module _ (old new : List ℕ) (some : new ≡ [] → ⊥) (gone : is_some (lookup (is_key new) rows) ≡ false) (new_folded : key_of new ≡ new) where
    abbrev after : Rows ℕ
    after = under (renamed_key old new) rows

    -- a directory that passes does so under its new key
    passing_renamed : (key : List ℕ) → Passes key → is_directory_with test after (renamed_key old new key) ≡ true
    passing_renamed key h =
        let there = has_row key h in
        by (renamed_key old new key) (renamed_folded rows tree are_folded old new some gone new_folded key (own_folded rows tree are_folded key there))
        (ap (passes test) (found_renamed rows tree are_folded old new some gone key there) ∙ h)
      where
        by : (path : List ℕ) → key_of path ≡ path → passes test (lookup (is_key path) after) ≡ true → is_directory_with test after path ≡ true
        by [] same h = refl
        by (u ∷ us) same h = subst (λ k. passes test (lookup (is_key k) after) ≡ true) (sym same) h

    -- and so does one that is not renamed
    passing_stays : (path : List ℕ) → ((path ≡ [] → ⊥) → Passes path) → ((path ≡ [] → ⊥) → is_at_or_below old path ≡ false)
        → is_directory_with test after path ≡ true
    passing_stays [] there apart = refl
    passing_stays (u ∷ us) there apart =
        let some_path : u ∷ us ≡ [] → ⊥ = not_empty u us in
        let stays : renamed_key old new (u ∷ us) ≡ u ∷ us = ap (λ b. if b then new ++ drop (length old) (u ∷ us) else (u ∷ us)) (apart some_path) in
        subst (λ p. is_directory_with test after p ≡ true) stays (passing_renamed (u ∷ us) (there some_path))
      where
        not_empty : (u : ℕ) (us : List ℕ) → u ∷ us ≡ [] → ⊥
        not_empty u us e = absurd (cc)

    module _ (old_some : old ≡ [] → ⊥) (outside : is_below old new ≡ false) (directory : (parent_of new ≡ [] → ⊥) → Passes (parent_of new)) where
      new_row : (parent_of new ≡ [] → ⊥) → Has rows (parent_of new)
      new_row some_parent = has_row (parent_of new) (directory some_parent)

      -- each key has a directory that passes after the rename
      parent_passes : (key : List ℕ) → Has rows key → has_parent_with test after (renamed_key old new key) ≡ true
      parent_passes key there = by (is_at_or_below old key) refl
        where
          -- a key below the old name is renamed as its directory is
          lower : (s : List ℕ) → key ≡ old ++ 92 ∷ s → is_directory_with test after (parent_of (new ++ 92 ∷ s)) ≡ true
          lower s whole =
              let up : parent_of key ≡ old ++ parent_of (92 ∷ s) = ap parent_of whole ∙ parent_path old s in
              let row : Passes (parent_of key) = passing_row key there (λ none. old_some (nothing_before old (parent_of (92 ∷ s)) (sym up ∙ none))) in
              let at : is_at_or_below old (parent_of key) ≡ true = ap (is_at_or_below old) up ∙ with_path old (parent_of (92 ∷ s)) ∙ parent_is_path s in
              let rest : drop (length old) (parent_of key) ≡ parent_of (92 ∷ s) =
              append_cancel_left old (drop (length old) (parent_of key)) (parent_of (92 ∷ s)) (sym (has_path old (parent_of key) at).0 ∙ up) in
              let moved : renamed_key old new (parent_of key) ≡ new ++ parent_of (92 ∷ s) =
              ap (λ b. if b then new ++ drop (length old) (parent_of key) else parent_of key) at ∙ ap (λ us. new ++ us) rest in
              subst (λ p. is_directory_with test after p ≡ true) (moved ∙ sym (parent_path new s)) (passing_renamed (parent_of key) row)

          inside : (rest : List ℕ) → key ≡ old ++ rest → is_path rest ≡ true → is_directory_with test after (parent_of (new ++ rest)) ≡ true
          inside [] e p =
              subst (λ us. is_directory_with test after (parent_of us) ≡ true) (sym (append-nil new))
              (passing_stays (parent_of new) directory (new_apart rows tree are_folded old new some gone new_folded old_some outside new_row))
          inside (v ∷ s) e p =
              let bar : v ≡ 92 = grind (arith, nat_tests, p) in
              subst (λ b. is_directory_with test after (parent_of (new ++ b ∷ s)) ≡ true) (sym bar) (lower s (e ∙ ap (λ b. old ++ b ∷ s) bar))

          by : (b : Bool) → is_at_or_below old key ≡ b
              → is_directory_with test after (parent_of (if b then new ++ drop (length old) key else key)) ≡ true
          by false t = passing_stays (parent_of key) (passing_row key there) (key_apart rows tree are_folded old new some gone new_folded old_some outside new_row key t)
          by true t = inside (drop (length old) key) (has_path old key t).0 (has_path old key t).1

pub renames_keep_parents : RenamesKeepParents
renames_keep_parents test rows rows' old new tree are_folded old_name new_name all parent done =
    let known = parts rows rows' old new done in
    subst (λ r. list_all (λ row. has_parent_with test r row.0) r ≡ true) known.4
    (all_tested (has_parent_with test (renamed_rows rows old new)) (renamed_rows rows old new)
    (all_under (λ key. has_parent_with test (renamed_rows rows old new) key ≡ true) (renamed_key (key_of old) (key_of new)) rows
    (all_keys (λ key. has_parent_with test (renamed_rows rows old new) (renamed_key (key_of old) (key_of new) key) ≡ true) rows
    (parent_passes test rows tree are_folded all (key_of old) (key_of new) (some_name new new_name) known.3 (keys_again new) (some_name old old_name) known.1
    directory))))
  where
    directory : (parent_of (key_of new) ≡ [] → ⊥) → passes test (lookup (is_key (parent_of (key_of new))) rows) ≡ true
    directory some = by (parent_of new) (parent_folded new) parent
      where
        by : (path : List ℕ) → parent_of (key_of new) ≡ key_of path → is_directory_with test rows path ≡ true
            → passes test (lookup (is_key (parent_of (key_of new))) rows) ≡ true
        by [] e h = absurd (some e)
        by (u ∷ us) e h = subst (λ k. passes test (lookup (is_key k) rows) ≡ true) (sym e) h

passing_folded : (test : ℕ → Bool) (rows : Rows ℕ) (path : List ℕ) → is_directory_with test rows (key_of path) ≡ is_directory_with test rows path
passing_folded test rows [] = refl
passing_folded test rows (u ∷ us) = ap (λ key. passes test (lookup (is_key key) rows)) (keys_again (u ∷ us))

pub puts_keep_parents : PutsKeepParents
puts_keep_parents test rows name object all parent absent =
    all_put after (key_of name) object rows
    (all_weaker (has_parent_with test rows) after (λ key. still (parent_of key)) rows all)
    (ap (is_directory_with test (put rows name object)) (parent_folded name) ∙ passing_folded test (put rows name object) (parent_of name)
    ∙ still (parent_of name) parent)
  where
    after : List ℕ → Bool
    after = has_parent_with test (put rows name object)

    still : (path : List ℕ) → is_directory_with test rows path ≡ true → is_directory_with test (put rows name object) path ≡ true
    still [] h = refl
    still (u ∷ us) h =
        ap (passes test) (is_found (key_of name) object (key_of (u ∷ us)) rows) ∙ by (is_key (key_of (u ∷ us)) (key_of name)) refl
      where
        by : (b : Bool) → is_key (key_of (u ∷ us)) (key_of name) ≡ b → passes test (if b then Some object else found rows (u ∷ us)) ≡ true
        by false e = h
        by true e = absurd (false≢true (sym absent ∙ some_found (found rows name) (sym (ap (λ k. passes test (lookup (is_key k) rows)) (is_key_eq (key_of (u ∷ us)) (key_of name) e)) ∙ h)))
          where
            some_found : (o : Option ℕ) → passes test o ≡ true → is_some o ≡ true
            some_found None t = t
            some_found (Some n) t = refl
