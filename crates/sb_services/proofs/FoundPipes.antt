-- What is found after a call, and what its handle is on.
use Rattle.std.proofs.lemmas.Option.{same_Some}
use Rattle.std.proofs.Common.{◌≡◌, ◌≤◌, ◌+◌, ℕ, Bool, true, false, cond, refl, sym, ◌∙◌, ap, arith, List, [], ◌∷◌, if◌then◌else◌}
use Rattle.std.proofs.lemmas.Bool.{false≢true}
use Rattle.std.specs.Prelude.{None, Some, is_some}
use Rattle.std.specs.Map.{lookup, set_value}
use Rattle.sb_call.specs.Statuses.{success}
use Rattle.sb_handles.specs.Effects.{Effect}
use Rattle.sb_handles.specs.Tables.{with_handle}
use Rattle.sb_names.specs.Keys.{key_of}
use Rattle.sb_names.specs.Laws.{PutsAreFound}
use Rattle.sb_names.specs.Maps.{Rows, found, is_key}
use Rattle.sb_services.specs.PipeLaws.{CallsAddHandles, CallsGrantTheirPipe, CallsKeepCounts, CallsLeaveOthers, MadePipesAreAsAsked}
use Rattle.sb_services.specs.Pipes.{Pipes, on_pipe}
use Rattle.sb_services.specs.declared.pipe_modes.PipeForm.{PipeForm}
use Rattle.sb_services.specs.declared.pipe_modes.PipeMode.{PipeMode}
use Rattle.sb_services.specs.declared.pipe_rows.PipeRow.{PipeRow}
use Rattle.sb_services.proofs.NamedPipes.{own_key}
use Rattle.sb_services.proofs.PipeLaws.{by_create}
use Rattle.sb_services.proofs.PipeRowCases.{equal_keys}

-- the row of a key has the value that it was given
found_set : (key : List ℕ) (old value : PipeRow) (rows : Rows PipeRow) → lookup (is_key key) rows ≡ Some old
    → lookup (is_key key) (set_value (is_key key) rows value) ≡ Some value
found_set key old value [] h = absurd (cc)
found_set key old value (row ∷ rows) h = by (is_key key row.0) refl h (found_set key old value rows)
  where
    by : (b : Bool) → is_key key row.0 ≡ b → cond b (Some row.1) (lookup (is_key key) rows) ≡ Some old
        → (lookup (is_key key) rows ≡ Some old → lookup (is_key key) (set_value (is_key key) rows value) ≡ Some value)
        → lookup (is_key key) (cond b ((row.0, value) ∷ rows) (row ∷ set_value (is_key key) rows value)) ≡ Some value
    by true e h i = rw e refl
    by false e h i = rw e (i h)

-- and every other row what it had
other_set : (key other : List ℕ) (value : PipeRow) (rows : Rows PipeRow) → is_key other key ≡ false
    → lookup (is_key other) (set_value (is_key key) rows value) ≡ lookup (is_key other) rows
other_set key other value [] apart = refl
other_set key other value (row ∷ rows) apart = by (is_key key row.0) refl (is_key other row.0) refl (other_set key other value rows apart)
  where
    by : (b : Bool) → is_key key row.0 ≡ b → (c : Bool) → is_key other row.0 ≡ c
        → lookup (is_key other) (set_value (is_key key) rows value) ≡ lookup (is_key other) rows
        → lookup (is_key other) (cond b ((row.0, value) ∷ rows) (row ∷ set_value (is_key key) rows value)) ≡ cond c (Some row.1) (lookup (is_key other) rows)
    by true e true f i =
        let same : other ≡ key = equal_keys other row.0 f ∙ sym (equal_keys key row.0 e) in
        absurd (false≢true (sym apart ∙ ap (is_key other) (sym same) ∙ own_key other))
    by true e false f i = rw f refl
    by false e c f i = rw f (ap (λ o. cond c (Some row.1) o) i)

-- a pipe with one handle
abbrev made_pipe : Pipes → PipeMode → PipeForm → ℕ → PipeRow
made_pipe pipes mode form instances = record { number = pipes.made + 1; mode = mode; form = form; instances = instances; handles = 1 }

-- the same with one handle more
abbrev one_more : PipeRow → PipeRow
one_more row = record row { handles = row.handles + 1 }

none_is_some : (row : PipeRow) → None ≡ Some row → ⊥
none_is_some row e = false≢true (ap is_some e)

pub calls_grant_their_pipe : PutsAreFound PipeRow → CallsGrantTheirPipe
calls_grant_their_pipe puts pipes handles target name mode form instances =
    by_create P pipes handles target name mode form instances (λ status n h. absurd (n h))
    (λ row f h. (one_more row, found_set (key_of name) row (one_more row) pipes.rows f, refl))
    (λ f h. (
      made_pipe pipes mode form instances,
      puts pipes.rows name name (made_pipe pipes mode form instances)
          ∙ ap (λ b. if b then Some (made_pipe pipes mode form instances) else found pipes.rows name) (own_key (key_of name)),
      refl,
    ))
  where
    P : Effect Pipes → Type 0
    P effect = effect.answer.status ≡ success
        → (row : PipeRow) × (found effect.service.rows name ≡ Some row) × (effect.handles ≡ with_handle handles target (on_pipe row.number))

pub made_pipes_are_as_asked : PutsAreFound PipeRow → MadePipesAreAsAsked
made_pipes_are_as_asked puts pipes handles target name mode form instances absent =
    by_create P pipes handles target name mode form instances (λ status n h. absurd (n h))
    (λ row f h. absurd (none_is_some row (sym absent ∙ f)))
    (λ f h. puts pipes.rows name name (made_pipe pipes mode form instances)
    ∙ ap (λ b. if b then Some (made_pipe pipes mode form instances) else found pipes.rows name) (own_key (key_of name)))
  where
    P : Effect Pipes → Type 0
    P effect = effect.answer.status ≡ success → found effect.service.rows name ≡ Some (made_pipe pipes mode form instances)

pub calls_add_handles : CallsAddHandles
calls_add_handles pipes handles target name mode form instances row there =
    by_create P pipes handles target name mode form instances (λ status n h. absurd (n h))
    (λ other f h. found_set (key_of name) other (one_more other) pipes.rows f ∙ ap (λ r. Some (one_more r)) (same_Some other row (sym f ∙ there)))
    (λ f h. absurd (none_is_some row (sym f ∙ there)))
  where
    P : Effect Pipes → Type 0
    P effect = effect.answer.status ≡ success → found effect.service.rows name ≡ Some (one_more row)

pub calls_leave_others : PutsAreFound PipeRow → CallsLeaveOthers
calls_leave_others puts pipes handles target name other mode form instances apart =
    by_create P pipes handles target name mode form instances (λ status n. refl)
    (λ row f. other_set (key_of name) (key_of other) (one_more row) pipes.rows apart)
    (λ f. puts pipes.rows name other (made_pipe pipes mode form instances)
    ∙ ap (λ b. if b then Some (made_pipe pipes mode form instances) else found pipes.rows other) apart)
  where
    P : Effect Pipes → Type 0
    P effect = found effect.service.rows other ≡ found pipes.rows other

pub calls_keep_counts : CallsKeepCounts
calls_keep_counts pipes handles target name mode form instances few =
    by_create (λ effect. effect.service.made ≤ effect.handles.granted) pipes handles target name mode form instances (λ status n. few)
    (λ row f. omega (arith, few)) (λ f. omega (arith, few))
