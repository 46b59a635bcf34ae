-- How nodes are linked, and the rows of parents and children that the links represent.
use Rattle.std.specs.Prelude.{◌≡◌, ℕ, true, zero, suc, List, [], ◌∷◌, length, Option, Some, None, slice_index_or, slice_set, map}
use Rattle.sb_arena.specs.declared.links.Link.{Link}
use Rattle.sb_arena.specs.Forests.{Row, has}

-- a node with no links
abbrev pub no_link : Link
no_link = record { parent = None; first = None; last = None; next = None; prev = None }

-- the links of a node
abbrev pub at : List Link → ℕ → Link
at links n = slice_index_or links n no_link

-- the next sibling counts only if there is a parent
abbrev pub next_where : Option ℕ → Option ℕ → Option ℕ
next_where None next = None
next_where (Some p) next = next

abbrev pub next_linked : Link → Option ℕ
next_linked link = next_where link.parent link.next

-- one link of one node is set
abbrev pub with_parent : List Link → ℕ → Option ℕ → List Link
with_parent links n to = slice_set links n (record (at links n) { parent = to })

abbrev pub with_first : List Link → ℕ → Option ℕ → List Link
with_first links n to = slice_set links n (record (at links n) { first = to })

abbrev pub with_last : List Link → ℕ → Option ℕ → List Link
with_last links n to = slice_set links n (record (at links n) { last = to })

abbrev pub with_next : List Link → ℕ → Option ℕ → List Link
with_next links n to = slice_set links n (record (at links n) { next = to })

abbrev pub with_prev : List Link → ℕ → Option ℕ → List Link
with_prev links n to = slice_set links n (record (at links n) { prev = to })

-- the child before the new one, or else the parent, names the new one
abbrev pub linked_end : Option ℕ → ℕ → ℕ → List Link → List Link
linked_end None c p links = with_first links p (Some c)
linked_end (Some b) c p links = with_next links b (Some c)

-- c is made the last child of p
abbrev pub linked : List Link → ℕ → ℕ → List Link
linked links c p =
    linked_end (at links p).last c p
    (with_last (with_prev (with_parent (with_next links c None) c (Some p)) c (at links p).last) p (Some c))

-- the nodes from one on, each the next of the one before, at most k of them
abbrev pub chain : ℕ → (ℕ → Link) → Option ℕ → List ℕ
chain zero g here = []
chain (suc k) g None = []
chain (suc k) g (Some n) = n ∷ chain k g (g n).next

-- the children of a node, walked from the first
abbrev pub kids : List Link → ℕ → List ℕ
kids links n = chain (length links) (at links) (at links n).first

-- the row of a node, and the rows of all
abbrev pub row_of : List Link → Link → Row
row_of links link = record { parent = link.parent; children = chain (length links) (at links) link.first }

abbrev pub rows_of : List Link → List Row
rows_of links = map (row_of links) links

-- the nodes of a list are linked one after the other below n: each has n as its parent and the one before it as its previous
abbrev pub Hangs : (ℕ → Link) → ℕ → Option ℕ → Option ℕ → List ℕ → Option ℕ → Type 0
Hangs g n before here [] last = (here ≡ None) × (last ≡ before)
Hangs g n before here (c ∷ cs) last =
    (here ≡ Some c) × ((g c).parent ≡ Some n) × ((g c).prev ≡ before) × Hangs g n (Some c) (g c).next cs last

-- the links agree: the children of each node are linked, and each node is among the children of its parent
pub record IsTied (links : List Link) : Type 0 where
  pub hangs : (n : ℕ) → Hangs (at links) n None (at links n).first (kids links n) (at links n).last
  pub member : (c p : ℕ) → (at links c).parent ≡ Some p → has c (kids links p) ≡ true

-- the neighbours of a node, or else its parent, name one another
abbrev pub joined_on : Option ℕ → Option ℕ → ℕ → List Link → List Link
joined_on None next p links = with_first links p next
joined_on (Some b) next p links = with_next links b next

abbrev pub joined_back : Option ℕ → Option ℕ → ℕ → List Link → List Link
joined_back None prev p links = with_last links p prev
joined_back (Some d) prev p links = with_prev links d prev

-- c is taken away from p
abbrev pub unlinked : List Link → ℕ → ℕ → List Link
unlinked links c p =
    with_parent (joined_back (at links c).next (at links c).prev p (joined_on (at links c).prev (at links c).next p links)) c None
