-- What holds of the pipes holds with one more, with a handle more, and with a handle fewer.
use Rattle.std.proofs.Common.{◌≡◌, ◌<◌, ◌≤◌, ◌+◌, ◌-◌, ℕ, Bool, true, false, refl, sym, subst, ap, arith, List, [], ◌∷◌, nat_eq, nat_le, map}
use Rattle.std.proofs.lemmas.Bool.Decides.{nat_tests}
use Rattle.std.proofs.lemmas.Map.Keys.{IsDistinct-head, IsDistinct-tail, IsDistinct-cons}
use Rattle.std.specs.Prelude.{None, Some}
use Rattle.std.specs.List.{AllByRecursion, IsDistinct, list_all}
use Rattle.sb_names.specs.Keys.{key_of}
use Rattle.sb_names.specs.Maps.{Rows, found, put, replaced}
use Rattle.sb_services.specs.Pipes.{Pipes, ArePipes, is_made, fewer, with_pipe, with_instance, closed}
use Rattle.sb_services.specs.declared.pipe_modes.PipeForm.{PipeForm}
use Rattle.sb_services.specs.declared.pipe_modes.PipeMode.{PipeMode}
use Rattle.sb_services.specs.declared.pipe_rows.PipeRow.{PipeRow}
use Rattle.sb_services.proofs.PipeRowCases.{put_cases, set_cases, fewer_cases}
use Rattle.sb_services.proofs.FileRowLemmas.{all_with, first_of, others_of, widened}

-- each row passes, and so do rows in which one was put, or was given another value
module _ {V : Type 0} (p : List ℕ × V → Bool) where
  pub all_put : (rows : Rows V) (name : List ℕ) (value : V) → found rows name ≡ None → list_all p rows ≡ true → p (key_of name, value) ≡ true
      → list_all p (put rows name value) ≡ true
  all_put rows name value f all h =
      put_cases (λ rows more. list_all p rows ≡ true → list_all p more ≡ true) (key_of name) value
      (λ rows all. all_with p (key_of name, value) rows h all)
      (λ row rows more i all. all_with p row more (first_of p row rows all) (i (others_of p row rows all))) rows f all

  pub all_replaced : (rows : Rows V) (name : List ℕ) (old value : V) → found rows name ≡ Some old
      → ((key : List ℕ) → p (key, old) ≡ true → p (key, value) ≡ true) → list_all p rows ≡ true → list_all p (replaced rows name value) ≡ true
  all_replaced rows name old value f h all =
      set_cases (λ rows more. list_all p rows ≡ true → list_all p more ≡ true) (key_of name) old value
      (λ key rows all. all_with p (key, value) rows (h key (first_of p (key, old) rows all)) (others_of p (key, old) rows all))
      (λ row rows more i all. all_with p row more (first_of p row rows all) (i (others_of p row rows all))) rows f all

-- and rows of which one has a handle fewer
pub all_fewer : (p : List ℕ × PipeRow → Bool) (rows : Rows PipeRow) (number : ℕ)
    → ((row : List ℕ × PipeRow) → nat_le row.1.handles 1 ≡ false → p row ≡ true → p (row.0, record row.1 { handles = row.1.handles - 1 }) ≡ true)
    → list_all p rows ≡ true → list_all p (fewer rows number) ≡ true
all_fewer p rows number h all =
    fewer_cases (λ rows more. list_all p rows ≡ true → list_all p more ≡ true) number
    (λ all. all)
    (λ row rows e last all. others_of p row rows all)
    (λ row rows e more all. all_with p (row.0, record row.1 { handles = row.1.handles - 1 }) rows (h row more (first_of p row rows all)) (others_of p row rows all))
    (λ row rows more e i all. all_with p row more (first_of p row rows all) (i (others_of p row rows all))) rows all

-- the numbers of the pipes
abbrev pub numbers : Rows PipeRow → List ℕ
numbers rows = map (λ row. row.1.number) rows

-- a number is that of no pipe
abbrev pub Differs : ℕ → Rows PipeRow → Type 0
Differs number rows = AllByRecursion (λ other. nat_eq number other ≡ false) (numbers rows)

abbrev pub AreDistinct : Rows PipeRow → Type 0
AreDistinct rows = IsDistinct nat_eq (numbers rows)

flipped : (a b : ℕ) → nat_eq a b ≡ false → nat_eq b a ≡ false
flipped a b e = grind (arith, nat_tests, e)

-- a number past those made is that of no pipe
pub past_differs : (made number : ℕ) (rows : Rows PipeRow) → made < number → list_all (is_made made) rows ≡ true → Differs number rows
past_differs made number [] l all = tt
past_differs made number (row ∷ rows) l all =
    let own : is_made made row ≡ true = first_of (is_made made) row rows all in
    (grind (arith, nat_tests, own, l), past_differs made number rows l (others_of (is_made made) row rows all))

distinct_put : (rows : Rows PipeRow) (name : List ℕ) (value : PipeRow) → found rows name ≡ None → Differs value.number rows → AreDistinct rows
    → AreDistinct (put rows name value)
distinct_put rows name value f differs distinct =
    (put_cases (λ rows more. ((x : ℕ) → Differs x rows → nat_eq x value.number ≡ false → Differs x more) × (Differs value.number rows → AreDistinct rows → AreDistinct more))
    (key_of name) value
    (λ rows. (λ x d e. (e, d), λ d a. IsDistinct-cons nat_eq value.number (numbers rows) d a))
    (λ row rows more i. (
      λ x d e. (d.0, i.0 x d.1 e),
      λ d a. IsDistinct-cons nat_eq row.1.number (numbers more)
          (i.0 row.1.number (IsDistinct-head nat_eq row.1.number (numbers rows) a) (flipped value.number row.1.number d.0))
          (i.1 d.1 (IsDistinct-tail nat_eq row.1.number (numbers rows) a)),
    )) rows f).1 differs distinct

same_numbers : (rows : Rows PipeRow) (name : List ℕ) (old value : PipeRow) → found rows name ≡ Some old → value.number ≡ old.number
    → numbers (replaced rows name value) ≡ numbers rows
same_numbers rows name old value f e =
    set_cases (λ rows more. numbers more ≡ numbers rows) (key_of name) old value
    (λ key rows. ap (λ n. n ∷ numbers rows) e) (λ row rows more i. ap (λ ns. row.1.number ∷ ns) i) rows f

distinct_fewer : (rows : Rows PipeRow) (number : ℕ) → AreDistinct rows → AreDistinct (fewer rows number)
distinct_fewer rows number distinct =
    (fewer_cases (λ rows more. ((x : ℕ) → Differs x rows → Differs x more) × (AreDistinct rows → AreDistinct more)) number
    (λ x d. d, λ a. a)
    (λ row rows e last. (λ x d. d.1, λ a. IsDistinct-tail nat_eq row.1.number (numbers rows) a))
    (λ row rows e more. (λ x d. d, λ a. a))
    (λ row rows more e i. (
      λ x d. (d.0, i.0 x d.1),
      λ a. IsDistinct-cons nat_eq row.1.number (numbers more) (i.0 row.1.number (IsDistinct-head nat_eq row.1.number (numbers rows) a))
          (i.1 (IsDistinct-tail nat_eq row.1.number (numbers rows) a)),
    )) rows).1 distinct

-- the pipes with one more
pub pipes_with_pipe : (pipes : Pipes) (name : List ℕ) (mode : PipeMode) (form : PipeForm) (instances : ℕ) → found pipes.rows name ≡ None → 1 ≤ instances → instances ≤ 255 → ArePipes pipes
    → ArePipes (with_pipe pipes name mode form instances)
pipes_with_pipe pipes name mode form instances f low high pipes_are =
    let row : PipeRow = record { number = pipes.made + 1; mode = mode; form = form; instances = instances; handles = 1 } in
    let more : list_all (is_made (pipes.made + 1)) pipes.rows ≡ true =
    widened (is_made pipes.made) (is_made (pipes.made + 1)) pipes.rows (λ row h. grind (arith, nat_tests, h)) pipes_are.1 in
    let own : is_made (pipes.made + 1) (key_of name, row) ≡ true = grind (arith, nat_tests, low, high) in (
      distinct_put pipes.rows name row f (past_differs pipes.made (pipes.made + 1) pipes.rows (omega arith) pipes_are.1) pipes_are.0,
      all_put (is_made (pipes.made + 1)) pipes.rows name row f more own,
    )

-- the pipes with a handle more
pub pipes_with_instance : (pipes : Pipes) (name : List ℕ) (row : PipeRow) → found pipes.rows name ≡ Some row → row.handles < row.instances → ArePipes pipes
    → ArePipes (with_instance pipes name row)
pipes_with_instance pipes name row f room pipes_are =
    let value : PipeRow = record row { handles = row.handles + 1 } in (
      subst (IsDistinct nat_eq) (sym (same_numbers pipes.rows name row value f refl)) pipes_are.0,
      all_replaced (is_made pipes.made) pipes.rows name row value f (λ key h. grind (arith, nat_tests, room, h)) pipes_are.1,
    )

-- the pipes with a handle fewer
pub pipes_closed : (pipes : Pipes) (number : ℕ) → ArePipes pipes → ArePipes (closed pipes number)
pipes_closed pipes number pipes_are =
    (distinct_fewer pipes.rows number pipes_are.0, all_fewer (is_made pipes.made) pipes.rows number (λ row more h. grind (arith, nat_tests, more, h)) pipes_are.1)

-- a pipe that is there has no more handles than it may have
pub has_room : (pipes : Pipes) (name : List ℕ) (row : PipeRow) → found pipes.rows name ≡ Some row → ArePipes pipes
    → (row.handles ≤ row.instances) × (row.instances ≤ 255)
has_room pipes name row f pipes_are = by pipes.rows f pipes_are.1
  where
    own : (key : List ℕ) → is_made pipes.made (key, row) ≡ true → (row.handles ≤ row.instances) × (row.instances ≤ 255)
    own key h = (grind (arith, nat_tests, h), grind (arith, nat_tests, h))

    by : (rows : Rows PipeRow) → found rows name ≡ Some row → list_all (is_made pipes.made) rows ≡ true → (row.handles ≤ row.instances) × (row.instances ≤ 255)
    by rows f all =
        set_cases (λ rows more. list_all (is_made pipes.made) rows ≡ true → (row.handles ≤ row.instances) × (row.instances ≤ 255)) (key_of name) row row
        (λ key rows all. own key (first_of (is_made pipes.made) (key, row) rows all))
        (λ other rows more i all. i (others_of (is_made pipes.made) other rows all)) rows f all
