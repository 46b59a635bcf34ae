-- A forest: numbered nodes, each with its parent, its children in order, and its value. This is what contracts see of an arena.
use Rattle.std.specs.Prelude.{◌≡◌, ◌<◌, ℕ, Bool, true, false, zero, suc, List, [], ◌∷◌, ◌++◌, length, Option, Some, None, ◌==◌, ◌||◌, ◌-◌, take, slice_index, not, IsSome, slice_index_or, slice_set, if◌then◌else◌, refl}
use Rattle.std.specs.List.{filter}
use Rattle.std.specs.Coded.{Coded, code_by, coded×, coded_ℕ, coded_list, coded_option}

-- the parent of a node, and its children in order
pub record Row : Type 0 where
  pub parent : Option ℕ
  pub children : List ℕ

-- a number is in a list
abbrev pub has : ℕ → List ℕ → Bool
has n [] = false
has n (x ∷ xs) = (x == n) || has n xs

-- no number is in a list twice
abbrev pub Single : List ℕ → Type 0
Single [] = Unit {0}
Single (x ∷ xs) = (has x xs ≡ false) × Single xs

-- rows and values are indexed by the numbers of nodes; a node is live if it has a value, and the others are free, the one freed last at the end
pub record Forest (T : Type 0) : Type 0 where
  pub rows : List Row
  pub values : List (Option T)
  pub free : List ℕ

-- rows and forests are plain data
abbrev pub row_code : Coded Row
row_code = code_by (Option ℕ × List ℕ) (coded× (coded_option coded_ℕ) (coded_list coded_ℕ)) (λ r. (r.parent, r.children)) (λ p. record { parent = p.0; children = p.1 }) (λ _. refl)

abbrev pub forest_code : {T : Type 0} → Coded T → Coded (Forest T)
forest_code {T} code =
    code_by (List Row × (List (Option T) × List ℕ)) (coded× (coded_list row_code) (coded× (coded_list (coded_option code)) (coded_list coded_ℕ)))
    (λ f. (f.rows, (f.values, f.free))) (λ p. record { rows = p.0; values = p.1.0; free = p.1.1 }) (λ _. refl)

-- a node without parent and children
abbrev pub bare_row : Row
bare_row = record { parent = None; children = [] }

-- the row of a number; one that is not there has neither parent nor children
abbrev pub row_at : List Row → ℕ → Row
row_at rows n = slice_index_or rows n bare_row

-- the first of a list
abbrev pub first_of : List ℕ → Option ℕ
first_of [] = None
first_of (y ∷ ys) = Some y

-- the number that comes after another in a list
abbrev pub after : ℕ → List ℕ → Option ℕ
after n [] = None
after n (x ∷ xs) = if x == n then first_of xs else after n xs

-- the ancestor of a node that is k steps above it
abbrev pub ancestor : List Row → ℕ → Option ℕ → Option ℕ
ancestor rows k None = None
ancestor rows zero (Some n) = Some n
ancestor rows (suc k) (Some n) = ancestor rows k (row_at rows n).parent

-- every path to the root ends: no node is its own ancestor
abbrev pub IsRooted : List Row → Type 0
IsRooted rows = (n : ℕ) → (k : ℕ) × (ancestor rows k (Some n) ≡ None)

-- a path to the root has no more nodes than there are numbers
abbrev pub IsShallow : List Row → Type 0
IsShallow rows = (n : ℕ) → ancestor rows (suc (length rows)) (Some n) ≡ None

-- the next sibling of a node, if it has a parent
abbrev pub next_below : List Row → ℕ → Option ℕ → Option ℕ
next_below rows n None = None
next_below rows n (Some p) = after n (row_at rows p).children

-- the rows if node c is made the last child of node p
abbrev pub rows_with : List Row → ℕ → ℕ → List Row
rows_with rows c p =
    let set_parent = slice_set rows c (record (row_at rows c) { parent = Some p }) in
    slice_set set_parent p (record (row_at set_parent p) { children = (row_at rows p).children ++ c ∷ [] })

-- a list without a number
abbrev pub without : ℕ → List ℕ → List ℕ
without c xs = filter (λ x. not (x == c)) xs

-- the rows if node c is no longer a child of node p
abbrev pub rows_without : List Row → ℕ → ℕ → List Row
rows_without rows c p =
    let set_parent = slice_set rows c (record (row_at rows c) { parent = None }) in
    slice_set set_parent p (record (row_at set_parent p) { children = without c (row_at rows p).children })

-- the rows if node c has no parent
abbrev pub rows_freed : List Row → ℕ → Option ℕ → List Row
rows_freed rows c None = rows
rows_freed rows c (Some p) = rows_without rows c p

module _ {T : Type 0} where
  -- a forest without nodes
  abbrev pub no_nodes : Forest T
  no_nodes = record { rows = []; values = []; free = [] }

  -- the value of a live node
  abbrev pub value_at : Forest T → ℕ → Option T
  value_at f n = slice_index_or f.values n None

  -- a node is live if it has a value
  abbrev pub IsLive : Forest T → ℕ → Type 0
  IsLive f n = IsSome (value_at f n)

  -- the parent, the children and the next sibling of a node
  abbrev pub parent_of : Forest T → ℕ → Option ℕ
  parent_of f n = (row_at f.rows n).parent

  abbrev pub children_of : Forest T → ℕ → List ℕ
  children_of f n = (row_at f.rows n).children

  abbrev pub next_of : Forest T → ℕ → Option ℕ
  next_of f n = next_below f.rows n (parent_of f n)

  -- node a is node n or an ancestor of it
  abbrev pub IsAbove : Forest T → ℕ → ℕ → Type 0
  IsAbove f a n = (k : ℕ) × (ancestor f.rows k (Some n) ≡ Some a)

  -- the number of a node that is added: that of the node freed last, or one that is new
  abbrev pub node_number : Forest T → ℕ
  node_number f = if length f.free == 0 then length f.rows else slice_index f.free (length f.free - 1)

  -- the forest with one more node, which has neither parent nor children
  abbrev pub with_node : Forest T → T → Forest T
  with_node f value =
      if length f.free == 0
      then record { rows = f.rows ++ bare_row ∷ []; values = f.values ++ Some value ∷ []; free = [] }
      else record { rows = f.rows; values = slice_set f.values (slice_index f.free (length f.free - 1)) (Some value); free = take (length f.free - 1) f.free }

  -- a node is free
  abbrev pub HasVacancy : Forest T → Type 0
  HasVacancy f = (length f.free == 0) ≡ false

  -- the forest with a free node, which is a new one if there was none
  abbrev pub with_vacancy : Forest T → Forest T
  with_vacancy f =
      if length f.free == 0
      then record { rows = f.rows ++ bare_row ∷ []; values = f.values ++ None ∷ []; free = length f.rows ∷ [] }
      else f

  -- the forest if a node is free, and its number the next to be taken
  abbrev pub without_node : Forest T → ℕ → Forest T
  without_node f n = record f { values = slice_set f.values n None; free = f.free ++ n ∷ [] }

  -- the forest if a node has another value
  abbrev pub with_value : Forest T → ℕ → T → Forest T
  with_value f n value = record f { values = slice_set f.values n (Some value) }

  -- parents and children agree: c is a child of p exactly if p is the parent of c
  abbrev pub Agrees : Forest T → Type 0
  Agrees f = (c p : ℕ) → (has c (children_of f p) ≡ true → parent_of f c ≡ Some p) × (parent_of f c ≡ Some p → has c (children_of f p) ≡ true)

  -- the free nodes are those without a value, each once, and they have neither parent nor children
  pub record IsSound (f : Forest T) : Type 0 where
    pub single : Single f.free
    pub dead : (n : ℕ) → has n f.free ≡ true → (n < length f.values) × (slice_index_or f.values n None ≡ None) × (row_at f.rows n ≡ bare_row)
    pub all : (n : ℕ) → n < length f.values → slice_index_or f.values n None ≡ None → has n f.free ≡ true

  -- the forest if c is the last child of p
  abbrev pub with_child : Forest T → ℕ → ℕ → Forest T
  with_child f c p = record f { rows = rows_with f.rows c p }

  -- the forest if c has no parent
  abbrev pub without_parent : Forest T → ℕ → Forest T
  without_parent f c = record f { rows = rows_freed f.rows c (parent_of f c) }

  -- a parent and its child are live
  abbrev pub HasLiveLinks : Forest T → Type 0
  HasLiveLinks f = (c p : ℕ) → parent_of f c ≡ Some p → IsLive f c × IsLive f p

  -- no node has a child twice
  abbrev pub HasSingleChildren : Forest T → Type 0
  HasSingleChildren f = (p : ℕ) → Single (children_of f p)
