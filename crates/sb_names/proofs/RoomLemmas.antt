-- What a free node more leaves as it was, and what a name that is added by it does.
use Rattle.std.proofs.Common.{◌≡◌, ◌<◌, ◌^◌, ◌==◌, ℕ, Bool, true, false, cond, refl, sym, ◌∙◌, ap, subst, arith, List, ◌∷◌, ◌++◌, length, if◌then◌else◌}
use Rattle.std.proofs.lemmas.Bool.{false≢true}
use Rattle.std.specs.Prelude.{Option, Some, None, is_some, ◌&&◌}
use Rattle.std.specs.BTreeMap.{is_at}
use Rattle.std.specs.Map.{lookup}
use Rattle.sb_arena.specs.Forests.{HasLiveLinks, IsLive, IsShallow, IsSound, node_number, parent_of as node_parent, value_at, with_vacancy}
use Rattle.sb_arena.specs.Laws.{NumbersAreFree, VacanciesKeepNumbers, VacanciesLeaveNodes}
use Rattle.sb_base.specs.Names.{is_component}
use Rattle.sb_names.specs.Hashes.{hash_of}
use Rattle.sb_names.specs.Keys.{key_of}
use Rattle.sb_names.specs.Maps.{is_key}
use Rattle.sb_names.specs.Nodes.{Nodes, HasNames, HasNoChild, IsChanged, IsIndexed, IsThere, IsUnnamed, KeepsNodes, key_by, name_of, number_of, rows_of}
use Rattle.sb_base.specs.Orders.{by_pair}
use Rattle.sb_names.specs.Rooms.{HasRoomFor}
use Rattle.sb_names.specs.declared.placing.NewName.{NewName}
use Rattle.sb_names.specs.declared.trees.NameNode.{NameNode}
use Rattle.sb_names.proofs.Changes.{indexed_changed, name_kept, rows_match, same_of}
use Rattle.sb_names.proofs.NodeLemmas.{child_name, found_node, found_none, live_below, name_root, rows_rise}
use Rattle.sb_names.proofs.PutLemmas.{same_place}

-- nodes that are kept twice
pub keeps_on : (f g h : Nodes) → KeepsNodes f g → KeepsNodes g h → KeepsNodes f h
keeps_on f g h first second n live =
    let one = first n live in
    let two = second n (ap is_some one.0 ∙ live) in
    (two.0 ∙ one.0, two.1 ∙ one.1)

module _ (vacancies : VacanciesLeaveNodes NameNode) (f : Nodes) where
  abbrev grown : Nodes
  grown = with_vacancy f

  same_value : (n : ℕ) → value_at grown n ≡ value_at f n
  same_value n = (vacancies f n).0

  same_parent : (n : ℕ) → node_parent grown n ≡ node_parent f n
  same_parent n = (vacancies f n).1

  live_before : (n : ℕ) → IsLive grown n → IsLive f n
  live_before n live = sym (ap is_some (same_value n)) ∙ live

  live_after : (n : ℕ) → IsLive f n → IsLive grown n
  live_after n live = ap is_some (same_value n) ∙ live

  pub vacancy_keeps : KeepsNodes f grown
  vacancy_keeps n live = vacancies f n

  pub vacancy_names : HasNames f → HasNames grown
  vacancy_names names = record {
    parts = λ n node e. names.parts n node (sym (same_value n) ∙ e);
    apart = λ m n lm ln ep ek. names.apart m n (live_before m lm) (live_before n ln) (sym (same_parent m) ∙ ep ∙ same_parent n)
        (sym (ap key_by (same_value m)) ∙ ek ∙ ap key_by (same_value n));
  }

  pub vacancy_indexed : {V : Type 0} (index : ℕ × ℕ → Option V) → IsIndexed index f → IsIndexed index grown
  vacancy_indexed index indexed = (
    λ q there. indexed.0 q (sym (λ i. is_some (same_value q.1 i) && (q.0 == hash_of (same_parent q.1 i) (key_by (same_value q.1 i)))) ∙ there),
    λ n live. indexed.1 n (live_before n live),
  )

  pub vacancy_there : (d : Option ℕ) → IsThere f d → IsThere grown d
  vacancy_there None there = tt
  vacancy_there (Some n) there = live_after n there

  module _ (frees : NumbersAreFree NameNode) (sound : IsSound f) (even : length f.rows ≡ length f.values) (names : HasNames f) (shallow : IsShallow f.rows)
      (live : HasLiveLinks f) (shallow' : IsShallow grown.rows) (live' : HasLiveLinks grown) where
    free : (value_at f (node_number f) ≡ None) × (node_parent f (node_number f) ≡ None)
    free = frees f sound even

    changed : IsChanged f grown (node_number f) None None
    changed = record {
      values = λ n. same_value n ∙ by_value n (n == node_number f) refl;
      parents = λ n. same_parent n ∙ by_parent n (n == node_number f) refl;
    }
      where
        by_value : (n : ℕ) (b : Bool) → b ≡ (n == node_number f) → value_at f n ≡ (if b then None else value_at f n)
        by_value n true t = ap (value_at f) (same_of n (node_number f) t) ∙ free.0
        by_value n false t = refl

        by_parent : (n : ℕ) (b : Bool) → b ≡ (n == node_number f) → node_parent f n ≡ (if b then None else node_parent f n)
        by_parent n true t = ap (node_parent f) (same_of n (node_number f) t) ∙ free.1
        by_parent n false t = refl

    node_name : (n : ℕ) → IsLive f n → name_of grown (Some n) ≡ name_of f (Some n)
    node_name n l = name_kept f grown (node_number f) None None changed shallow shallow' live names (vacancy_names names) live' free.0 n l

    pub vacancy_name : (d : Option ℕ) → IsThere f d → name_of grown d ≡ name_of f d
    vacancy_name None there = name_root grown ∙ sym (name_root f)
    vacancy_name (Some n) there = node_name n there

    pub vacancy_rows : rows_of grown ≡ rows_of f
    vacancy_rows = rows_match grown (vacancy_names names) shallow' live' (rows_of f) (rows_rise f) has none
      where
        has : (n : ℕ) (node : NameNode) → value_at grown n ≡ Some node → lookup (is_key (name_of grown (Some n))) (rows_of f) ≡ Some node.object
        has n node e =
            let there : value_at f n ≡ Some node = sym (same_value n) ∙ e in
            ap (λ key. lookup (is_key key) (rows_of f)) (node_name n (ap is_some there)) ∙ found_node f names shallow live n node there

        none : (key : List ℕ) → IsUnnamed grown key → lookup (is_key key) (rows_of f) ≡ None
        none key missing = found_none f key (λ n l e. missing n (live_after n l) (node_name n l ∙ e))

-- if nothing is under a name, its directory has no node of its component
pub no_child_named : (f : Nodes) → HasNames f → IsShallow f.rows → HasLiveLinks f → (d : Option ℕ) (key : List ℕ)
    → lookup (is_key (name_of f d ++ 92 ∷ key)) (rows_of f) ≡ None → HasNoChild f d key
no_child_named f names shallow live d key none n child = by (value_at f n) refl child.0
  where
    by : (o : Option NameNode) → value_at f n ≡ o → is_some o ≡ true → ⊥
    by None e l = false≢true l
    by (Some w) e l =
        false≢true (sym (ap is_some none) ∙ ap (λ k. is_some (lookup (is_key k) (rows_of f))) (sym (child_name f names shallow live d key n child))
        ∙ ap is_some (found_node f names shallow live n w e))

-- an index has the entry that was put last
pub entry_here : {V : Type 0} (index index' : ℕ × ℕ → Option V) (u : V) (hash number : ℕ) → ((q : ℕ × ℕ) → index' q ≡ cond (is_at (by_pair (hash, number)) q) (Some u) (index q))
    → (h n : ℕ) → hash ≡ h → number ≡ n → is_some (index' (h, n)) ≡ true
entry_here index index' u hash number updates h n same_hash same_number =
    ap is_some (updates (h, n)) ∙ ap (λ b. is_some (cond b (Some u) (index (h, n)))) (same_place hash number h n same_hash same_number)

-- a node with an entry is added to the index
pub added_index : {V : Type 0} (f f' : Nodes) (w : NameNode) (d : Option ℕ) → IsChanged f f' (node_number f) (Some w) d → (index : ℕ × ℕ → Option V) → IsIndexed index f
    → is_some (index (hash_of d (key_of w.part), node_number f)) ≡ true → length f'.rows ≡ length f'.values → length f'.rows < 2 ^ 64 → IsIndexed index f'
added_index f f' w d changed index indexed entry even small =
    indexed_changed f f' (node_number f) (Some w) d changed index index indexed (λ q ne there. there) (λ some. entry)
    (λ live. omega (arith, live_below f' (node_number f) live, even, small))

-- the room for a name, after a node was made free
pub has_room : VacanciesLeaveNodes NameNode → VacanciesKeepNumbers NameNode → (f g : Nodes) → g ≡ with_vacancy f → (new : NewName)
    → (index objects : List ((ℕ × ℕ) × Unit {0})) → IsThere f (number_of new.directory) → is_component new.part ≡ true
    → is_some (lookup (is_at (by_pair (hash_of (number_of new.directory) (key_of new.part), node_number f))) index) ≡ true
    → is_some (lookup (is_at (by_pair (new.object, node_number f))) objects) ≡ true
    → HasRoomFor (record { nodes = g; index = index; objects = objects }) new
has_room leaves keeps f g grown new index objects there part entry holder =
    let next : node_number (with_vacancy f) ≡ node_number f = (keeps f).1 in
    subst (λ g. HasRoomFor (record { nodes = g; index = index; objects = objects }) new) (sym grown) (record {
      there = vacancy_there leaves f (number_of new.directory) there;
      part = part;
      vacant = (keeps f).0;
      entry = subst (λ n. is_some (lookup (is_at (by_pair (hash_of (number_of new.directory) (key_of new.part), n))) index) ≡ true) (sym next) entry;
      holder = subst (λ n. is_some (lookup (is_at (by_pair (new.object, n))) objects) ≡ true) (sym next) holder;
    })
