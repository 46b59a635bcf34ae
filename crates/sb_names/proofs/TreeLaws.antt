-- A name that is put below a directory that is there leaves a tree.
use Rattle.std.proofs.Common.{◌≡◌, ℕ, Bool, true, false, refl, ap, ◌∙◌, arith, List, [], ◌∷◌, if◌then◌else◌}
use Rattle.std.proofs.lemmas.Bool.{and_parts}
use Rattle.std.proofs.lemmas.Bool.Decides.{nat_tests}
use Rattle.std.specs.BTreeMap.{insert_entry}
use Rattle.std.specs.List.{list_all, list_any}
use Rattle.std.specs.Map.{lookup}
use Rattle.std.specs.Ordering.{match_ordering}
use Rattle.std.specs.Prelude.{Some, is_some}
use Rattle.std.specs.declared.cmp.Ordering.{Ordering}
use Rattle.std.specs.declared.cmp.Ordering.TheVariants.{Less, Equal, Greater}
use Rattle.sb_base.specs.Wide.{folded}
use Rattle.sb_names.specs.Keys.{key_of, parent_of, is_backslash}
use Rattle.sb_names.specs.Laws.{PutsKeepTrees}
use Rattle.sb_names.specs.Maps.{Rows, is_key, found, put}
use Rattle.sb_names.specs.Trees.{has_parent, is_directory_there}
use Rattle.sb_names.proofs.MapLaws.{is_found}
use Rattle.sb_names.proofs.RisingLemmas.{by_unit}
use Rattle.sb_names.proofs.NameLemmas.{any_folded}

fold_once : (u : ℕ) → folded (folded u) ≡ folded u
fold_once u = grind (arith, nat_tests)

pub keys_again : (us : List ℕ) → key_of (key_of us) ≡ key_of us
keys_again [] = refl
keys_again (u ∷ us) = rw (fold_once u, keys_again us) refl

pub parent_folded : (us : List ℕ) → parent_of (key_of us) ≡ key_of (parent_of us)
parent_folded [] = refl
parent_folded (u ∷ us) = rw (any_folded us) (by (list_any is_backslash us) (parent_folded us))
  where
    by : (b : Bool) → parent_of (key_of us) ≡ key_of (parent_of us)
        → (if b then folded u ∷ parent_of (key_of us) else []) ≡ key_of (if b then u ∷ parent_of us else [])
    by true h = ap (λ more. folded u ∷ more) h
    by false h = refl

there_folded : (rows : Rows ℕ) (directory : List ℕ) → is_directory_there rows (key_of directory) ≡ is_directory_there rows directory
there_folded rows [] = refl
there_folded rows (u ∷ us) = ap (λ key. is_some (lookup (is_key key) rows)) (keys_again (u ∷ us))

parent_of_key : (rows : Rows ℕ) (name : List ℕ) → has_parent rows (key_of name) ≡ has_parent rows name
parent_of_key rows name = ap (is_directory_there rows) (parent_folded name) ∙ there_folded rows (parent_of name)

still_there : (rows : Rows ℕ) (name : List ℕ) (object : ℕ) (directory : List ℕ)
    → is_directory_there rows directory ≡ true → is_directory_there (put rows name object) directory ≡ true
still_there rows name object [] h = refl
still_there rows name object (u ∷ us) h =
    ap is_some (is_found (key_of name) object (key_of (u ∷ us)) rows) ∙ by (is_key (key_of (u ∷ us)) (key_of name))
  where
    by : (b : Bool) → is_some (if b then Some object else found rows (u ∷ us)) ≡ true
    by true = refl
    by false = h

pub all_weaker : (p q : List ℕ → Bool) → ((key : List ℕ) → p key ≡ true → q key ≡ true)
    → (rows : Rows ℕ) → list_all (λ row. p row.0) rows ≡ true → list_all (λ row. q row.0) rows ≡ true
all_weaker p q f [] h = refl
all_weaker p q f (row ∷ rows) h =
    let parts = and_parts (p row.0) (list_all (λ row. p row.0) rows) h in
    rw (f row.0 parts.0) (all_weaker p q f rows parts.1)

pub all_put : (p : List ℕ → Bool) (key : List ℕ) (object : ℕ) (rows : Rows ℕ) → list_all (λ row. p row.0) rows ≡ true → p key ≡ true
    → list_all (λ row. p row.0) (insert_entry by_unit rows key object) ≡ true
all_put p key object [] h k = rw k refl
all_put p key object (row ∷ rows) h k =
    let parts = and_parts (p row.0) (list_all (λ row. p row.0) rows) h in
    by parts.0 (by_unit key row.0) (all_put p key object rows parts.1 k)
  where
    by : p row.0 ≡ true → (o : Ordering) → list_all (λ row. p row.0) (insert_entry by_unit rows key object) ≡ true
        → list_all (λ row. p row.0) (match_ordering o ((key, object) ∷ row ∷ rows) ((row.0, object) ∷ rows) (row ∷ insert_entry by_unit rows key object)) ≡ true
    by first Less i = rw k h
    by first Equal i = h
    by first Greater i = rw first i

pub puts_keep_trees : PutsKeepTrees
puts_keep_trees rows name object tree parent =
    let after = has_parent (put rows name object) in
    all_put after (key_of name) object rows
    (all_weaker (has_parent rows) after (λ key. still_there rows name object (parent_of key)) rows tree)
    (parent_of_key (put rows name object) name ∙ still_there rows name object (parent_of name) parent)
