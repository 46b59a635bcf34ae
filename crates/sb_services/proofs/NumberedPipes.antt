-- Whether a pipe of a number is there, and what is kept of its name.
use Rattle.std.proofs.lemmas.Option.{same_Some}
use Rattle.std.proofs.Common.{◌≡◌, ◌<◌, ◌≤◌, ◌+◌, ◌-◌, ℕ, zero, suc, Bool, true, false, cond, refl, sym, subst, ◌∙◌, ap, arith, List, [], ◌∷◌, ◌++◌, ◌==◌, nat_le, length, if◌then◌else◌}
use Rattle.std.proofs.lemmas.Bool.{false≢true}
use Rattle.std.proofs.lemmas.Bool.Decides.{nat_tests}
use Rattle.std.proofs.lemmas.List.{length-append}
use Rattle.std.proofs.lemmas.Map.Keys.{sorted_head, sorted_tail}
use Rattle.std.specs.Prelude.{Option, None, Some, is_some, not, slice_set, ◌||◌, ◌&&◌}
use Rattle.std.specs.List.{AllByRecursion, find, list_all, slice_get}
use Rattle.std.specs.Cmp.Lexicographic.{texts_ties}
use Rattle.std.specs.Map.{keys_of, lookup}
use Rattle.std.specs.Ordering.{is_eq}
use Rattle.std.specs.declared.cmp.Ordering.TheVariants.{Less}
use Rattle.sb_names.specs.Keys.{key_of}
use Rattle.sb_names.specs.Maps.{Rows, Rises, is_key, found, put, replaced}
use Rattle.sb_services.specs.PipeKeeping.{AreNamed, AreOfPipes, StandsUnder, in_slot, is_key_of, is_numbered, name_at}
use Rattle.sb_services.specs.Pipes.{fewer}
use Rattle.sb_services.specs.declared.pipe_rows.PipeRow.{PipeRow}
use Rattle.sb_services.proofs.KeptPipes.{all_fewer}
use Rattle.sb_services.proofs.NamedPipes.{name_pushed, none_past}
use Rattle.sb_services.proofs.PipeRowCases.{by_unit, equal_keys, fewer_cases, put_cases, set_cases}
use Rattle.sb_services.proofs.FileRowLemmas.{all_with, first_of, others_of}

abbrev numbered_by : ℕ → Rows PipeRow → Option (List ℕ × PipeRow)
numbered_by number rows = find (λ row. row.1.number == number) rows

-- a pipe is found by its number as by its name
module _ (key : List ℕ) (number : ℕ) where
  abbrev under : List ℕ × PipeRow → Bool
  under row = not (row.1.number == number) || is_key key row.0

  nowhere : (rows : Rows PipeRow) → list_all under rows ≡ true → lookup (is_key key) rows ≡ None → is_numbered rows number ≡ false
  nowhere [] u f = refl
  nowhere (row ∷ rows) u f = by (row.1.number == number) (is_key key row.0) u f (nowhere rows)
    where
      by : (s t : Bool) → ((not s || t) && list_all under rows) ≡ true → cond t (Some row.1) (lookup (is_key key) rows) ≡ None
          → (list_all under rows ≡ true → lookup (is_key key) rows ≡ None → is_numbered rows number ≡ false)
          → is_some (if s then Some row else numbered_by number rows) ≡ false
      by s true u f i = absurd (cc)
      by true false u f i = absurd (false≢true u)
      by false false u f i = i u f

  -- rows after that of the key have other keys
  after : (rows : Rows PipeRow) → AllByRecursion (λ other. by_unit key other ≡ Less) (keys_of rows) → list_all under rows ≡ true → is_numbered rows number ≡ false
  after [] a u = refl
  after (row ∷ rows) a u = by (row.1.number == number) (is_key key row.0) (texts_ties key row.0 ∙ ap is_eq a.0) u (after rows a.1)
    where
      by : (s t : Bool) → t ≡ false → ((not s || t) && list_all under rows) ≡ true → (list_all under rows ≡ true → is_numbered rows number ≡ false)
          → is_some (if s then Some row else numbered_by number rows) ≡ false
      by s true t u i = absurd (false≢true (sym t))
      by true false t u i = absurd (false≢true u)
      by false false t u i = i u

  found_by_key : (pipe : PipeRow) (rows : Rows PipeRow) → Rises rows → list_all under rows ≡ true → lookup (is_key key) rows ≡ Some pipe
      → is_numbered rows number ≡ (pipe.number == number)
  found_by_key pipe [] r u f = absurd (cc)
  found_by_key pipe (row ∷ rows) r u f =
      by (row.1.number == number) refl (is_key key row.0) refl u f (found_by_key pipe rows (sorted_tail by_unit row.0 (keys_of rows) r))
    where
      by : (s : Bool) → (row.1.number == number) ≡ s → (t : Bool) → is_key key row.0 ≡ t → ((not s || t) && list_all under rows) ≡ true
          → cond t (Some row.1) (lookup (is_key key) rows) ≡ Some pipe
          → (list_all under rows ≡ true → lookup (is_key key) rows ≡ Some pipe → is_numbered rows number ≡ (pipe.number == number))
          → is_some (if s then Some row else numbered_by number rows) ≡ (pipe.number == number)
      by true e true t u f i = sym (sym (ap (λ x. x.number == number) (same_Some row.1 pipe f)) ∙ e)
      by true e false t u f i = absurd (false≢true u)
      by false e true t u f i =
          let same : row.0 ≡ key = sym (equal_keys key row.0 t) in
          let rest : AllByRecursion (λ other. by_unit key other ≡ Less) (keys_of rows) =
          subst (λ k. AllByRecursion (λ other. by_unit k other ≡ Less) (keys_of rows)) same (sorted_head by_unit row.0 (keys_of rows) r) in
          after rows rest u ∙ sym (sym (ap (λ x. x.number == number) (same_Some row.1 pipe f)) ∙ e)
      by false e false t u f i = i u f

pub numbered_nowhere : (rows : Rows PipeRow) (name : List ℕ) (number : ℕ) → found rows name ≡ None → StandsUnder name number rows → is_numbered rows number ≡ false
numbered_nowhere rows name number f u = nowhere (key_of name) number rows u f

pub numbered_there : (rows : Rows PipeRow) (name : List ℕ) (number : ℕ) (pipe : PipeRow) → found rows name ≡ Some pipe → Rises rows → StandsUnder name number rows
    → is_numbered rows number ≡ (pipe.number == number)
numbered_there rows name number pipe f r u = found_by_key (key_of name) number pipe rows r u f

-- it is still under its name with one handle fewer
pub stands_fewer : (rows : Rows PipeRow) (name : List ℕ) (number : ℕ) → StandsUnder name number rows → StandsUnder name number (fewer rows number)
stands_fewer rows name number u = all_fewer (under (key_of name) number) rows number (λ row more h. h) u

-- the pipes that are there with one more
numbered_put : (rows : Rows PipeRow) (name : List ℕ) (value : PipeRow) (n : ℕ) → found rows name ≡ None
    → is_numbered (put rows name value) n ≡ ((value.number == n) || is_numbered rows n)
numbered_put rows name value n f =
    put_cases (λ rows more. is_numbered more n ≡ ((value.number == n) || is_numbered rows n)) (key_of name) value
    (λ rows. first rows (value.number == n)) (λ row rows more i. later row rows more (row.1.number == n) i) rows f
  where
    first : (rows : Rows PipeRow) (s : Bool) → is_some (if s then Some (key_of name, value) else numbered_by n rows) ≡ (s || is_numbered rows n)
    first rows true = refl
    first rows false = refl

    or_true : (b : Bool) → true ≡ (b || true)
    or_true true = refl
    or_true false = refl

    later : (row : List ℕ × PipeRow) (rows more : Rows PipeRow) (s : Bool) → is_numbered more n ≡ ((value.number == n) || is_numbered rows n)
        → is_some (if s then Some row else numbered_by n more) ≡ ((value.number == n) || is_some (if s then Some row else numbered_by n rows))
    later row rows more true i = or_true (value.number == n)
    later row rows more false i = i

-- with another count of handles
pub numbered_replaced : (rows : Rows PipeRow) (name : List ℕ) (old value : PipeRow) (n : ℕ) → found rows name ≡ Some old → value.number ≡ old.number
    → is_numbered (replaced rows name value) n ≡ is_numbered rows n
numbered_replaced rows name old value n f e =
    set_cases (λ rows more. is_numbered more n ≡ is_numbered rows n) (key_of name) old value
    (λ key rows. first key rows (value.number == n) (old.number == n) (ap (λ m. m == n) e))
    (λ row rows more i. later row rows more (row.1.number == n) i) rows f
  where
    first : (key : List ℕ) (rows : Rows PipeRow) (s t : Bool) → s ≡ t
        → is_some (if s then Some (key, value) else numbered_by n rows) ≡ is_some (if t then Some (key, old) else numbered_by n rows)
    first key rows true true h = refl
    first key rows true false h = absurd (false≢true (sym h))
    first key rows false true h = absurd (false≢true h)
    first key rows false false h = refl

    later : (row : List ℕ × PipeRow) (rows more : Rows PipeRow) (s : Bool) → is_numbered more n ≡ is_numbered rows n
        → is_some (if s then Some row else numbered_by n more) ≡ is_some (if s then Some row else numbered_by n rows)
    later row rows more true i = refl
    later row rows more false i = i

-- with a handle fewer on a pipe of another number
numbered_fewer : (rows : Rows PipeRow) (number n : ℕ) → (number == n) ≡ false → is_numbered (fewer rows number) n ≡ is_numbered rows n
numbered_fewer rows number n apart =
    fewer_cases (λ rows more. is_numbered more n ≡ is_numbered rows n) number refl
    (λ row rows e last. sym (skipped row rows e)) (λ row rows e more. same row rows e)
    (λ row rows more e i. later row rows more (row.1.number == n) i) rows
  where
    other : (m : ℕ) → (m == number) ≡ true → (m == n) ≡ false
    other m e = grind (arith, nat_tests, e, apart)

    skipped : (row : List ℕ × PipeRow) (rows : Rows PipeRow) → (row.1.number == number) ≡ true → is_numbered (row ∷ rows) n ≡ is_numbered rows n
    skipped row rows e = ap (λ b. is_some (if b then Some row else numbered_by n rows)) (other row.1.number e)

    same : (row : List ℕ × PipeRow) (rows : Rows PipeRow) → (row.1.number == number) ≡ true
        → is_numbered ((row.0, record row.1 { handles = row.1.handles - 1 }) ∷ rows) n ≡ is_numbered (row ∷ rows) n
    same row rows e =
        ap (λ b. is_some (if b then Some (row.0, record row.1 { handles = row.1.handles - 1 }) else numbered_by n rows)) (other row.1.number e)
        ∙ sym (skipped row rows e)

    later : (row : List ℕ × PipeRow) (rows more : Rows PipeRow) (s : Bool) → is_numbered more n ≡ is_numbered rows n
        → is_some (if s then Some row else numbered_by n more) ≡ is_some (if s then Some row else numbered_by n rows)
    later row rows more true i = refl
    later row rows more false i = i

-- no name is kept of a pipe that is gone: if there is nothing
pub live_none : AreOfPipes [] []
live_none number h = by (number == 0) h
  where
    by : (b : Bool) → is_some (if b then None else in_slot (slice_get [] (number - 1))) ≡ true → is_numbered [] number ≡ true
    by true h = absurd (false≢true h)
    by false h = absurd (false≢true h)

-- with a pipe more, whose name is kept
pub live_with_pipe : (names : List (Option (List ℕ))) (name : List ℕ) (rows : Rows PipeRow) (row : PipeRow) → found rows name ≡ None → row.number ≡ length names + 1
    → AreOfPipes names rows → AreOfPipes (names ++ Some name ∷ []) (put rows name row)
live_with_pipe names name rows row f own live number h =
    numbered_put rows name row number f ∙ by number h (nat_le number (length names)) refl (row.number == number) refl
  where
    or_true : (b : Bool) → (b || true) ≡ true
    or_true true = refl
    or_true false = refl

    count : length (names ++ Some name ∷ []) ≡ length names + 1
    count = length-append names (Some name ∷ [])

    by : (number : ℕ) → is_some (name_at (names ++ Some name ∷ []) number) ≡ true → (s : Bool) → nat_le number (length names) ≡ s
        → (t : Bool) → (row.number == number) ≡ t → (t || is_numbered rows number) ≡ true
    by number h s e true g = refl
    by zero h true e false g = absurd (false≢true h)
    by (suc number) h true e false g =
        live (suc number) (sym (ap is_some (name_pushed names name (suc number) (omega arith) (grind (arith, nat_tests, e)))) ∙ h)
    by number h false e false g =
        let high : length (names ++ Some name ∷ []) < number = grind (arith, nat_tests, e, g, own, count) in
        absurd (false≢true (sym (ap is_some (none_past (names ++ Some name ∷ []) number high)) ∙ h))

-- with another count of handles
pub live_with_instance : (names : List (Option (List ℕ))) (name : List ℕ) (rows : Rows PipeRow) (old value : PipeRow) → found rows name ≡ Some old → value.number ≡ old.number
    → AreOfPipes names rows → AreOfPipes names (replaced rows name value)
live_with_instance names name rows old value f e live number h = numbered_replaced rows name old value number f e ∙ live number h

-- with a handle fewer on a pipe that is there still
pub live_fewer : (names : List (Option (List ℕ))) (rows : Rows PipeRow) (number : ℕ) → is_numbered (fewer rows number) number ≡ true
    → AreOfPipes names rows → AreOfPipes names (fewer rows number)
live_fewer names rows number there live n h = by (number == n) refl
  where
    by : (b : Bool) → (number == n) ≡ b → is_numbered (fewer rows number) n ≡ true
    by true e =
        let same : number ≡ n = grind (arith, nat_tests, e) in
        ap (is_numbered (fewer rows number)) (sym same) ∙ there
    by false e = numbered_fewer rows number n e ∙ live n h

-- a slot that is emptied
emptied : (names : List (Option (List ℕ))) (at : ℕ) → in_slot (slice_get (slice_set names at None) at) ≡ None
emptied [] at = refl
emptied (name ∷ names) zero = refl
emptied (name ∷ names) (suc at) = emptied names at

elsewhere : (names : List (Option (List ℕ))) (at other : ℕ) → (at == other) ≡ false → slice_get (slice_set names at None) other ≡ slice_get names other
elsewhere [] at other l = refl
elsewhere (name ∷ names) zero zero l = absurd (false≢true (sym l))
elsewhere (name ∷ names) zero (suc other) l = refl
elsewhere (name ∷ names) (suc at) zero l = refl
elsewhere (name ∷ names) (suc at) (suc other) l = elsewhere names at other (grind (arith, nat_tests, l))

pub no_name_left : (names : List (Option (List ℕ))) (number : ℕ) → 1 ≤ number → name_at (slice_set names (number - 1) None) number ≡ None
no_name_left names number low =
    let no : (number == 0) ≡ false = grind (arith, nat_tests, low) in
    rw no (emptied names (number - 1))

name_elsewhere : (names : List (Option (List ℕ))) (number n : ℕ) → 1 ≤ number → (number == n) ≡ false
    → name_at (slice_set names (number - 1) None) n ≡ name_at names n
name_elsewhere names number n low apart = by (n == 0) refl
  where
    by : (b : Bool) → (n == 0) ≡ b
        → (if b then None else in_slot (slice_get (slice_set names (number - 1) None) (n - 1))) ≡ (if b then None else in_slot (slice_get names (n - 1)))
    by true e = refl
    by false e = ap in_slot (elsewhere names (number - 1) (n - 1) (grind (arith, nat_tests, low, apart, e)))

-- with a handle fewer on a pipe that is gone by it, whose name is kept no more
pub live_gone : (names : List (Option (List ℕ))) (rows : Rows PipeRow) (number : ℕ) → 1 ≤ number → AreOfPipes names rows
    → AreOfPipes (slice_set names (number - 1) None) (fewer rows number)
live_gone names rows number low live n h = by (number == n) refl
  where
    by : (b : Bool) → (number == n) ≡ b → is_numbered (fewer rows number) n ≡ true
    by true e =
        let same : number ≡ n = grind (arith, nat_tests, e) in
        let none : name_at (slice_set names (number - 1) None) n ≡ None =
        ap (name_at (slice_set names (number - 1) None)) (sym same) ∙ no_name_left names number low in
        absurd (false≢true (sym (ap is_some none) ∙ h))
    by false e = numbered_fewer rows number n e ∙ live n (sym (ap is_some (name_elsewhere names number n low e)) ∙ h)

-- and the other pipes are under the names that are kept for them
pub named_gone : (names : List (Option (List ℕ))) (rows : Rows PipeRow) (number : ℕ) → 1 ≤ number → is_numbered rows number ≡ false
    → AreNamed names rows → AreNamed (slice_set names (number - 1) None) rows
named_gone names [] number low gone are = refl
named_gone names (row ∷ rows) number low gone are =
    by (row.1.number == number) refl gone (first_of named row rows are) (λ later. named_gone names rows number low later (others_of named row rows are))
  where
    named : List ℕ × PipeRow → Bool
    named row = is_key_of (name_at names row.1.number) row.0

    left : List ℕ × PipeRow → Bool
    left row = is_key_of (name_at (slice_set names (number - 1) None) row.1.number) row.0

    by : (s : Bool) → (row.1.number == number) ≡ s → is_some (if s then Some row else numbered_by number rows) ≡ false → named row ≡ true
        → (is_numbered rows number ≡ false → list_all left rows ≡ true) → list_all left (row ∷ rows) ≡ true
    by true e gone own i = absurd (false≢true (sym gone))
    by false e gone own i =
        let apart : (number == row.1.number) ≡ false = grind (arith, nat_tests, e) in
        all_with left row rows (ap (λ name. is_key_of name row.0) (name_elsewhere names number row.1.number low apart) ∙ own) (i gone)
