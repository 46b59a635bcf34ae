-- How many handles a pipe has, with one more and with one fewer.
use Rattle.std.proofs.Common.{◌≡◌, ◌<◌, ◌+◌, ◌-◌, ℕ, Bool, true, false, refl, sym, subst, ◌∙◌, ap, arith, List, [], ◌∷◌, ◌==◌, nat_eq, nat_le, if◌then◌else◌}
use Rattle.std.proofs.lemmas.Bool.Decides.{nat_tests}
use Rattle.std.proofs.lemmas.Map.Keys.{IsDistinct-head, IsDistinct-tail}
use Rattle.std.specs.Prelude.{Option, None, Some, nat_lt, is_some}
use Rattle.std.specs.List.{find, list_all}
use Rattle.sb_names.specs.Keys.{key_of}
use Rattle.sb_names.specs.Maps.{Rows, found, put, replaced}
use Rattle.sb_services.specs.Pipes.{is_made, fewer, handles_by}
use Rattle.sb_services.specs.declared.pipe_rows.PipeRow.{PipeRow}
use Rattle.sb_services.proofs.PipeRowCases.{put_cases, set_cases, fewer_cases}
use Rattle.sb_services.proofs.KeptPipes.{numbers, Differs, AreDistinct, past_differs}
use Rattle.sb_services.proofs.FileRowLemmas.{first_of, others_of}

-- the pipe of a number
abbrev pub pipe_of : ℕ → Rows PipeRow → Option (List ℕ × PipeRow)
pipe_of pipe rows = find (λ row. row.1.number == pipe) rows

-- how many handles it has
abbrev pub count_of : ℕ → Rows PipeRow → ℕ
count_of pipe rows = handles_by (pipe_of pipe rows)

abbrev pub one_if : Bool → ℕ
one_if b = if b then 1 else 0

pub none_of : (pipe : ℕ) (rows : Rows PipeRow) → Differs pipe rows → pipe_of pipe rows ≡ None
none_of pipe [] d = refl
none_of pipe (row ∷ rows) d =
    let no : (row.1.number == pipe) ≡ false = grind (arith, nat_tests, d.0) in
    rw no (none_of pipe rows d.1)

-- a pipe more, with one handle
pub count_put : (made pipe : ℕ) (rows : Rows PipeRow) (name : List ℕ) (value : PipeRow) → found rows name ≡ None → made < value.number → value.handles ≡ 1
    → list_all (is_made made) rows ≡ true → count_of pipe (put rows name value) ≡ count_of pipe rows + one_if (value.number == pipe)
count_put made pipe rows name value f l one all =
    put_cases (λ rows more. list_all (is_made made) rows ≡ true → count_of pipe more ≡ count_of pipe rows + one_if (value.number == pipe)) (key_of name) value
    (λ rows all. first rows all (value.number == pipe) refl)
    (λ row rows more i all. later row rows more (first_of (is_made made) row rows all) (i (others_of (is_made made) row rows all)) (row.1.number == pipe) refl)
    rows f all
  where
    first : (rows : Rows PipeRow) → list_all (is_made made) rows ≡ true → (s : Bool) → (value.number == pipe) ≡ s
        → handles_by (if s then Some (key_of name, value) else pipe_of pipe rows) ≡ count_of pipe rows + one_if s
    first rows all true e =
        let same : pipe ≡ value.number = grind (arith, nat_tests, e) in
        one ∙ ap (λ n. n + 1) (sym (ap handles_by (none_of pipe rows (subst (λ n. Differs n rows) (sym same) (past_differs made value.number rows l all)))))
    first rows all false e = omega arith

    later : (row : List ℕ × PipeRow) (rows more : Rows PipeRow) → is_made made row ≡ true
        → count_of pipe more ≡ count_of pipe rows + one_if (value.number == pipe) → (s : Bool) → (row.1.number == pipe) ≡ s
        → handles_by (if s then Some row else pipe_of pipe more) ≡ handles_by (if s then Some row else pipe_of pipe rows) + one_if (value.number == pipe)
    later row rows more own i true e =
        let no : (value.number == pipe) ≡ false = grind (arith, nat_tests, own, e, l) in
        rw no (omega arith)
    later row rows more own i false e = i

-- a handle more on the pipe of a name
pub count_replaced : (pipe : ℕ) (rows : Rows PipeRow) (name : List ℕ) (old value : PipeRow) → found rows name ≡ Some old → value.number ≡ old.number
    → value.handles ≡ old.handles + 1 → AreDistinct rows → count_of pipe (replaced rows name value) ≡ count_of pipe rows + one_if (old.number == pipe)
count_replaced pipe rows name old value f n h distinct =
    (set_cases (λ rows more. ((x : ℕ) → Differs x rows → nat_eq x old.number ≡ false)
    × (AreDistinct rows → count_of pipe more ≡ count_of pipe rows + one_if (old.number == pipe))) (key_of name) old value
    (λ key rows. (λ x d. d.0, λ a. first key rows (old.number == pipe) refl))
    (λ row rows more i. (
      λ x d. i.0 x d.1,
      λ a. later row rows more (i.0 row.1.number (IsDistinct-head nat_eq row.1.number (numbers rows) a))
          (i.1 (IsDistinct-tail nat_eq row.1.number (numbers rows) a)) (row.1.number == pipe) refl,
    )) rows f).1 distinct
  where
    first : (key : List ℕ) (rows : Rows PipeRow) → (s : Bool) → (old.number == pipe) ≡ s
        → count_of pipe ((key, value) ∷ rows) ≡ handles_by (if s then Some (key, old) else pipe_of pipe rows) + one_if s
    first key rows true e =
        let here : (value.number == pipe) ≡ true = ap (λ x. x == pipe) n ∙ e in
        rw here h
    first key rows false e =
        let here : (value.number == pipe) ≡ false = ap (λ x. x == pipe) n ∙ e in
        rw here (omega arith)

    later : (row : List ℕ × PipeRow) (rows more : Rows PipeRow) → nat_eq row.1.number old.number ≡ false
        → count_of pipe more ≡ count_of pipe rows + one_if (old.number == pipe) → (s : Bool) → (row.1.number == pipe) ≡ s
        → handles_by (if s then Some row else pipe_of pipe more) ≡ handles_by (if s then Some row else pipe_of pipe rows) + one_if (old.number == pipe)
    later row rows more d i true e =
        let no : (old.number == pipe) ≡ false = grind (arith, nat_tests, d, e) in
        rw no (omega arith)
    later row rows more d i false e = i

-- a handle fewer on the pipe of a number
pub count_fewer : (made pipe number : ℕ) (rows : Rows PipeRow) → list_all (is_made made) rows ≡ true → AreDistinct rows
    → count_of pipe (fewer rows number) ≡ count_of pipe rows - one_if (number == pipe)
count_fewer made pipe number rows all distinct =
    fewer_cases (λ rows more. list_all (is_made made) rows ≡ true → AreDistinct rows → count_of pipe more ≡ count_of pipe rows - one_if (number == pipe)) number
    (λ all a. omega arith)
    (λ row rows e last all a. gone row rows e last (IsDistinct-head nat_eq row.1.number (numbers rows) a) (number == pipe) refl)
    (λ row rows e more all a. less row rows e (number == pipe) refl)
    (λ row rows more e i all a. later row rows more e (i (others_of (is_made made) row rows all) (IsDistinct-tail nat_eq row.1.number (numbers rows) a)) (row.1.number == pipe) refl)
    rows all distinct
  where
    gone : (row : List ℕ × PipeRow) (rows : Rows PipeRow) → (row.1.number == number) ≡ true → nat_le row.1.handles 1 ≡ true → Differs row.1.number rows
        → (s : Bool) → (number == pipe) ≡ s → count_of pipe rows ≡ count_of pipe (row ∷ rows) - one_if s
    gone row rows e last d true p =
        let here : (row.1.number == pipe) ≡ true = grind (arith, nat_tests, e, p) in
        let same : row.1.number ≡ pipe = grind (arith, nat_tests, here) in
        let few : row.1.handles - 1 ≡ 0 = grind (arith, nat_tests, last) in
        rw here (ap handles_by (none_of pipe rows (subst (λ n. Differs n rows) same d)) ∙ sym few)
    gone row rows e last d false p =
        let here : (row.1.number == pipe) ≡ false = grind (arith, nat_tests, e, p) in
        rw here (omega arith)

    less : (row : List ℕ × PipeRow) (rows : Rows PipeRow) → (row.1.number == number) ≡ true → (s : Bool) → (number == pipe) ≡ s
        → count_of pipe ((row.0, record row.1 { handles = row.1.handles - 1 }) ∷ rows) ≡ count_of pipe (row ∷ rows) - one_if s
    less row rows e true p =
        let here : (row.1.number == pipe) ≡ true = grind (arith, nat_tests, e, p) in
        rw here refl
    less row rows e false p =
        let here : (row.1.number == pipe) ≡ false = grind (arith, nat_tests, e, p) in
        rw here (omega arith)

    later : (row : List ℕ × PipeRow) (rows more : Rows PipeRow) → (row.1.number == number) ≡ false
        → count_of pipe more ≡ count_of pipe rows - one_if (number == pipe) → (s : Bool) → (row.1.number == pipe) ≡ s
        → handles_by (if s then Some row else pipe_of pipe more) ≡ handles_by (if s then Some row else pipe_of pipe rows) - one_if (number == pipe)
    later row rows more e i true p =
        let no : (number == pipe) ≡ false = grind (arith, nat_tests, e, p) in
        rw no (omega arith)
    later row rows more e i false p = i

-- a pipe is there exactly if it has handles
pub there_by_count : (made pipe : ℕ) (rows : Rows PipeRow) → list_all (is_made made) rows ≡ true → is_some (pipe_of pipe rows) ≡ nat_lt 0 (count_of pipe rows)
there_by_count made pipe [] all = refl
there_by_count made pipe (row ∷ rows) all = by (row.1.number == pipe) (first_of (is_made made) row rows all) (there_by_count made pipe rows (others_of (is_made made) row rows all))
  where
    by : (s : Bool) → is_made made row ≡ true → is_some (pipe_of pipe rows) ≡ nat_lt 0 (count_of pipe rows)
        → is_some (if s then Some row else pipe_of pipe rows) ≡ nat_lt 0 (handles_by (if s then Some row else pipe_of pipe rows))
    by true own i = grind (arith, nat_tests, own)
    by false own i = i
