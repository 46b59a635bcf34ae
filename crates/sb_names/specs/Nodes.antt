-- The names of the nodes of a forest, and the rows that they represent. Each node has one component; its name is the path from the root.
use Rattle.std.specs.Prelude.{◌≡◌, ◌<◌, ◌^◌, ℕ, Bool, true, false, zero, suc, List, [], ◌∷◌, ◌++◌, length, Option, None, Some, is_some, option_map, ◌==◌, ◌&&◌, ◌||◌, not, ⊤, if◌then◌else◌}
use Rattle.std.specs.BTreeMap.{insert_entry, is_at}
use Rattle.std.specs.Cmp.Lexicographic.{slice_cmp}
use Rattle.std.specs.Map.{lookup}
use Rattle.std.specs.Ordering.{nat_cmp}
use Rattle.sb_arena.specs.Forests.{Forest, IsAbove, IsLive, value_at, parent_of as node_parent, with_child}
use Rattle.sb_arena.specs.declared.arena.NodeId.{NodeId}
use Rattle.sb_base.specs.Names.{is_component}
use Rattle.sb_base.specs.Orders.{by_pair}
use Rattle.sb_names.specs.Keys.{key_of}
use Rattle.sb_names.specs.Maps.{Rows, is_key}
use Rattle.sb_names.specs.Hashes.{hash_of}
use Rattle.sb_names.specs.Renames.{renamed_key}
use Rattle.sb_names.specs.declared.trees.NameNode.{NameNode}

-- the nodes of a tree of names
abbrev pub Nodes : Type 0
Nodes = Forest NameNode

-- the number of a node, and nothing of the root
abbrev pub number_of : Option NodeId → Option ℕ
number_of node = option_map (λ n. n.0) node

-- the folded component of a node
abbrev pub key_by : Option NameNode → List ℕ
key_by None = []
key_by (Some node) = key_of node.part

abbrev pub key_at : Nodes → ℕ → List ℕ
key_at f n = key_by (value_at f n)

-- the object of a node
abbrev pub object_at : Nodes → ℕ → Option ℕ
object_at f n = option_map (λ w. w.object) (value_at f n)

-- the folded components on the path from the root to a node, each after a `\`, of this many nodes at most
abbrev pub name_up : Nodes → ℕ → Option ℕ → List ℕ
name_up f k None = []
name_up f zero (Some n) = []
name_up f (suc k) (Some n) = name_up f k (node_parent f n) ++ 92 ∷ key_at f n

-- the folded name of a directory: nothing of the root. No path has more nodes than there are numbers
unfoldable pub name_of : Nodes → Option ℕ → List ℕ
name_of f directory = name_up f (suc (length f.rows)) directory

-- with the row of a node
abbrev pub with_row : Option NameNode → List ℕ → Rows ℕ → Rows ℕ
with_row None name rows = rows
with_row (Some node) name rows = insert_entry (slice_cmp nat_cmp) rows name node.object

-- the rows of the nodes with numbers below this
abbrev pub rows_below : Nodes → ℕ → Rows ℕ
rows_below f zero = []
rows_below f (suc k) = with_row (value_at f k) (name_of f (Some k)) (rows_below f k)

-- the rows of all nodes: the name of each, with its object
unfoldable pub rows_of : Nodes → Rows ℕ
rows_of f = rows_below f (length f.values)

-- nothing, or a `\` and what follows
abbrev pub is_path : List ℕ → Bool
is_path [] = true
is_path (u ∷ us) = u == 92

-- a node is that of a component in a directory
abbrev pub IsChild : Nodes → Option ℕ → List ℕ → ℕ → Type 0
IsChild f directory key n = IsLive f n × (node_parent f n ≡ directory) × (key_at f n ≡ key)

-- there is no such node
abbrev pub HasNoChild : Nodes → Option ℕ → List ℕ → Type 0
HasNoChild f directory key = (n : ℕ) → IsChild f directory key n → ⊥

-- two directories are the same
abbrev pub is_same_node : Option ℕ → Option ℕ → Bool
is_same_node None None = true
is_same_node None (Some b) = false
is_same_node (Some a) None = false
is_same_node (Some a) (Some b) = a == b

-- the test of IsChild
abbrev pub is_child : Nodes → Option ℕ → List ℕ → ℕ → Bool
is_child f directory key n = is_some (value_at f n) && (is_same_node (node_parent f n) directory && is_key (key_at f n) key)

-- a directory has this folded name
abbrev pub IsAt : Nodes → Option ℕ → List ℕ → Type 0
IsAt f None key = key ≡ []
IsAt f (Some n) key = IsLive f n × (name_of f (Some n) ≡ key)

-- a directory is there; the root always is
abbrev pub IsThere : Nodes → Option ℕ → Type 0
IsThere f None = ⊤
IsThere f (Some n) = IsLive f n

-- no node has this folded name
abbrev pub IsUnnamed : Nodes → List ℕ → Type 0
IsUnnamed f key = (n : ℕ) → IsLive f n → name_of f (Some n) ≡ key → ⊥

-- each node has a component, and no other node of its directory has the same
pub record HasNames (f : Nodes) : Type 0 where
  pub parts : (n : ℕ) (node : NameNode) → value_at f n ≡ Some node → is_component node.part ≡ true
  pub apart : (m n : ℕ) → IsLive f m → IsLive f n → node_parent f m ≡ node_parent f n → key_at f m ≡ key_at f n → m ≡ n

-- a pair is that of a live node: the hash of its directory and component, and its number
abbrev pub is_entry : Nodes → ℕ × ℕ → Bool
is_entry f q = is_some (value_at f q.1) && (q.0 == hash_of (node_parent f q.1) (key_at f q.1))

-- the index has the pair of each live node. It may have others: who looks a node up tests what it finds
abbrev pub IsIndexed : {V : Type 0} → (ℕ × ℕ → Option V) → Nodes → Type 0
IsIndexed index f = ((q : ℕ × ℕ) → is_entry f q ≡ true → is_some (index q) ≡ true) × ((n : ℕ) → IsLive f n → n < 2 ^ 64)

-- the hash under which an index has a node
abbrev pub hash_at : Nodes → ℕ → ℕ
hash_at f n = hash_of (node_parent f n) (key_at f n)

-- an index has the pair of a hash and a node
abbrev pub has_entry : {V : Type 0} → List ((ℕ × ℕ) × V) → ℕ × ℕ → Bool
has_entry entries q = is_some (lookup (is_at (by_pair q)) entries)

-- a node leaves its old hash for another, and nothing else is put into the index or taken out
abbrev pub MovesEntry : {V : Type 0} → List ((ℕ × ℕ) × V) → List ((ℕ × ℕ) × V) → ℕ → ℕ → ℕ → Type 0
MovesEntry entries entries' node old new =
    (q : ℕ × ℕ) → has_entry entries' q ≡ (is_at (by_pair (new, node)) q || (not (is_at (by_pair (old, node)) q) && has_entry entries q))

-- one node alone has changed: it has this value, or none, and is in this directory
pub record IsChanged (f f' : Nodes) (a : ℕ) (v : Option NameNode) (directory : Option ℕ) : Type 0 where
  pub values : (n : ℕ) → value_at f' n ≡ (if n == a then v else value_at f n)
  pub parents : (n : ℕ) → node_parent f' n ≡ (if n == a then directory else node_parent f n)

-- each node that was there keeps its value and its directory
abbrev pub KeepsNodes : Nodes → Nodes → Type 0
KeepsNodes f f' = (n : ℕ) → IsLive f n → (value_at f' n ≡ value_at f n) × (node_parent f' n ≡ node_parent f n)

-- and so does each but one
abbrev pub KeepsOtherNodes : Nodes → Nodes → ℕ → Type 0
KeepsOtherNodes f f' a = (n : ℕ) → (n ≡ a → ⊥) → (value_at f' n ≡ value_at f n) × (node_parent f' n ≡ node_parent f n)

-- and so does each but that of a name
abbrev pub KeepsAllBut : Nodes → Nodes → List ℕ → Type 0
KeepsAllBut f f' key = (n : ℕ) → (name_of f (Some n) ≡ key → ⊥) → (value_at f' n ≡ value_at f n) × (node_parent f' n ≡ node_parent f n)

-- each node is there still, under the name to which its own was renamed
abbrev pub KeepsRows : Nodes → Nodes → List ℕ → List ℕ → Type 0
KeepsRows f f' from to = (n : ℕ) → IsLive f n → IsLive f' n × (name_of f' (Some n) ≡ renamed_key from to (name_of f (Some n)))

-- no two nodes have one name
abbrev pub HasOneNodeEach : Nodes → Type 0
HasOneNodeEach f = (m n : ℕ) → IsLive f m → IsLive f n → name_of f (Some m) ≡ name_of f (Some n) → m ≡ n

-- a node that is linked into a directory, or stays a root
abbrev pub hung : Nodes → ℕ → Option ℕ → Nodes
hung f a None = f
hung f a (Some p) = with_child f a p

-- a directory is neither the node nor below it
abbrev pub IsApart : Nodes → ℕ → Option ℕ → Type 0
IsApart f a None = ⊤
IsApart f a (Some p) = IsAbove f a p → ⊥
