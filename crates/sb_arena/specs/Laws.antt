-- Laws of forests: what each change does to parents and values.
use Rattle.std.specs.Prelude.{◌≡◌, ◌<◌, ℕ, ◌==◌, length, Some, None, if◌then◌else◌}
use Rattle.sb_arena.specs.Forests.{Forest, IsLive, IsSound, parent_of, value_at, HasVacancy, node_number, with_child, with_node, with_vacancy, with_value, without_node, without_parent}

-- a node that is linked has its parent, and every other node the one that it had
abbrev pub LinksSetParents : Type 0 → Type 0
LinksSetParents T = (f : Forest T) (c p n : ℕ) → c < length f.rows → p < length f.rows
    → parent_of (with_child f c p) n ≡ (if n == c then Some p else parent_of f n)

-- a node that is unlinked has no parent, and every other node the one that it had
abbrev pub UnlinksClearParents : Type 0 → Type 0
UnlinksClearParents T = (f : Forest T) (c n : ℕ) → c < length f.rows → ((p : ℕ) → parent_of f c ≡ Some p → p < length f.rows)
    → parent_of (without_parent f c) n ≡ (if n == c then None else parent_of f n)

-- the number of the next node is that of no live node, and has no parent
abbrev pub NumbersAreFree : Type 0 → Type 0
NumbersAreFree T = (f : Forest T) → IsSound f → length f.rows ≡ length f.values
    → (value_at f (node_number f) ≡ None) × (parent_of f (node_number f) ≡ None)

-- a node that is added has its value, and every other node the one that it had
abbrev pub AddsSetValues : Type 0 → Type 0
AddsSetValues T = (f : Forest T) (value : T) (n : ℕ) → IsSound f → length f.rows ≡ length f.values
    → value_at (with_node f value) n ≡ (if n == node_number f then Some value else value_at f n)

-- and no node another parent
abbrev pub AddsLeaveParents : Type 0 → Type 0
AddsLeaveParents T = (f : Forest T) (value : T) (n : ℕ) → parent_of (with_node f value) n ≡ parent_of f n

-- a node that is set has its value, and every other node the one that it had
abbrev pub SetsSetValues : Type 0 → Type 0
SetsSetValues T = (f : Forest T) (c n : ℕ) (value : T) → IsLive f c
    → value_at (with_value f c value) n ≡ (if n == c then Some value else value_at f n)

-- a node that is freed has no value, and every other node the one that it had
abbrev pub FreesClearValues : Type 0 → Type 0
FreesClearValues T = (f : Forest T) (c n : ℕ) → IsLive f c
    → value_at (without_node f c) n ≡ (if n == c then None else value_at f n)

-- a free node more gives no node another value, and none another parent
abbrev pub VacanciesLeaveNodes : Type 0 → Type 0
VacanciesLeaveNodes T = (f : Forest T) (n : ℕ)
    → (value_at (with_vacancy f) n ≡ value_at f n) × (parent_of (with_vacancy f) n ≡ parent_of f n)

-- and the next node has the number that it would have had
abbrev pub VacanciesKeepNumbers : Type 0 → Type 0
VacanciesKeepNumbers T = (f : Forest T) → HasVacancy (with_vacancy f) × (node_number (with_vacancy f) ≡ node_number f)
