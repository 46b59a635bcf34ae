-- The laws of pipes.
use Rattle.std.proofs.Common.{◌≡◌, ◌⊎◌, inl, inr, ◌≤◌, ◌+◌, ◌-◌, ℕ, true, refl, sym, ◌∙◌, ap, arith, List, [], ◌∷◌, ◌==◌, if◌then◌else◌}
use Rattle.std.specs.Prelude.{Option, None, Some, not, nat_lt, ◌&&◌}
use Rattle.sb_call.specs.Statuses.{success, invalid_parameter, access_denied, instance_not_available}
use Rattle.sb_handles.specs.Agreements.{is_pipe, pipe_handles}
use Rattle.sb_handles.specs.Effects.{Effect, refused, grants}
use Rattle.sb_handles.specs.Laws.{GrantsCount, ClosesCount}
use Rattle.sb_handles.specs.Tables.{Table, with_handle, without_handle}
use Rattle.sb_handles.specs.declared.objects.Held.{Held}
use Rattle.sb_names.specs.Maps.{found}
use Rattle.sb_services.specs.PipeLaws.{RefusalsChangeNothing, CallsGrantPipes, CallsMakeOne, PipesHaveHandles, CallsKeepPipes, ClosesKeepPipes, ClosesLeavePipes, GrantsLeavePipes}
use Rattle.sb_services.specs.Pipes.{Pipes, ArePipes, Agrees, create, create_by, is_alike, is_invalid, on_pipe, with_instance, with_pipe}
use Rattle.sb_services.specs.declared.pipe_modes.PipeForm.{PipeForm}
use Rattle.sb_services.specs.declared.pipe_modes.PipeMode.{PipeMode}
use Rattle.sb_services.specs.declared.pipe_rows.PipeRow.{PipeRow}
use Rattle.sb_services.proofs.PipeCounts.{count_put, count_replaced, count_fewer, there_by_count}
use Rattle.sb_services.proofs.RenameLaws.{chosen}

abbrev Unchanged : Pipes → Table → Effect Pipes → Type 0
Unchanged pipes handles effect = (effect.service ≡ pipes) × (effect.handles ≡ handles)

abbrev IsPlain : Pipes → Table → Effect Pipes → Type 0
IsPlain pipes handles effect = (effect.answer.status ≡ success → ⊥) → Unchanged pipes handles effect

-- what holds of a call that is refused, of one on a pipe that is there, and of one that makes a pipe, holds of each
pub by_create : (P : Effect Pipes → Type 0) (pipes : Pipes) (handles : Table) (target : ℕ) (name : List ℕ) (mode : PipeMode) (form : PipeForm) (instances : ℕ)
    → ((status : ℕ) → (status ≡ success → ⊥) → P (refused pipes handles status))
    → ((row : PipeRow) → found pipes.rows name ≡ Some row
    → P (grants (with_instance pipes name row) handles target (on_pipe row.number) success ((row.handles + 1) ∷ [])))
    → (found pipes.rows name ≡ None
    → P (grants (with_pipe pipes name mode form instances) handles target (on_pipe (pipes.made + 1)) success (1 ∷ [])))
    → P (create pipes handles target name mode form instances)
by_create P pipes handles target name mode form instances refuses adds makes =
    chosen P (is_invalid instances) (refused pipes handles invalid_parameter)
    (create_by (found pipes.rows name) pipes handles target name mode form instances) (refuses invalid_parameter (λ h. absurd (omega (arith, h))))
    (by (found pipes.rows name) refl)
  where
    by : (there : Option PipeRow) → found pipes.rows name ≡ there → P (create_by there pipes handles target name mode form instances)
    by (Some row) f =
        chosen P (not (is_alike row mode form instances)) (refused pipes handles access_denied) _ (refuses access_denied (λ h. absurd (omega (arith, h))))
        (chosen P (row.handles == row.instances) (refused pipes handles instance_not_available) _
        (refuses instance_not_available (λ h. absurd (omega (arith, h)))) (adds row f))
    by None f = makes f

pub refused_pipe_calls_change_nothing : RefusalsChangeNothing
refused_pipe_calls_change_nothing pipes handles target name mode form instances =
    by_create (IsPlain pipes handles) pipes handles target name mode form instances (λ status n h. (refl, refl)) (λ row f h. absurd (h refl)) (λ f h. absurd (h refl))

abbrev GrantsOne : Table → ℕ → Effect Pipes → Type 0
GrantsOne handles target effect =
    (effect.handles ≡ handles) ⊎ ((held : Held) × (is_pipe held.object.service ≡ true) × (effect.handles ≡ with_handle handles target held))

pub calls_grant_pipes : CallsGrantPipes
calls_grant_pipes pipes handles target name mode form instances =
    by_create (GrantsOne handles target) pipes handles target name mode form instances (λ status n. inl refl)
    (λ row f. inr (on_pipe row.number, refl, refl)) (λ f. inr (on_pipe (pipes.made + 1), refl, refl))

pub calls_make_one : CallsMakeOne
calls_make_one pipes handles target name mode form instances =
    by_create (λ effect. effect.service.made ≤ pipes.made + 1) pipes handles target name mode form instances (λ status n. omega arith) (λ row f. omega arith) (λ f. omega arith)

pub pipes_have_handles : PipesHaveHandles
pipes_have_handles pipes handles pipe are agree = there_by_count pipes.made pipe pipes.rows are.1 ∙ ap (nat_lt 0) (agree pipe)

module _ (count : GrantsCount) where
  pub instance_agrees : (pipes : Pipes) (handles : Table) (target : ℕ) (name : List ℕ) (row : PipeRow) → ArePipes pipes → Agrees pipes handles
      → found pipes.rows name ≡ Some row → Agrees (with_instance pipes name row) (with_handle handles target (on_pipe row.number))
  instance_agrees pipes handles target name row are agree f pipe =
      count_replaced pipe pipes.rows name row (record row { handles = row.handles + 1 }) f refl refl are.0
      ∙ ap (λ n. n + (if row.number == pipe then 1 else 0)) (agree pipe)
      ∙ sym (count handles target pipe (on_pipe row.number))

  pub pipe_agrees : (pipes : Pipes) (handles : Table) (target : ℕ) (name : List ℕ) (mode : PipeMode) (form : PipeForm) (instances : ℕ) → ArePipes pipes → Agrees pipes handles
      → found pipes.rows name ≡ None → Agrees (with_pipe pipes name mode form instances) (with_handle handles target (on_pipe (pipes.made + 1)))
  pipe_agrees pipes handles target name mode form instances are agree f pipe =
      count_put pipes.made pipe pipes.rows name (record { number = pipes.made + 1; mode = mode; form = form; instances = instances; handles = 1 }) f (omega arith) refl are.1
      ∙ ap (λ n. n + (if pipes.made + 1 == pipe then 1 else 0)) (agree pipe)
      ∙ sym (count handles target pipe (on_pipe (pipes.made + 1)))

  abbrev BothAgree : Effect Pipes → Type 0
  BothAgree effect = Agrees effect.service effect.handles

  pub calls_keep_pipes : CallsKeepPipes
  calls_keep_pipes pipes handles target name mode form instances are agree =
      by_create BothAgree pipes handles target name mode form instances (λ status n. agree)
      (λ row f. instance_agrees pipes handles target name row are agree f)
      (λ f. pipe_agrees pipes handles target name mode form instances are agree f)

  pub grants_leave_pipes : GrantsLeavePipes
  grants_leave_pipes pipes table target held agree other pipe =
      agree pipe ∙ sym (count table target pipe held ∙ ap (λ b. pipe_handles table pipe + (if b && held.object.number == pipe then 1 else 0)) other ∙ omega arith)

module _ (count : ClosesCount) where
  pub closes_keep_pipes : ClosesKeepPipes
  closes_keep_pipes pipes table target number held is_table are agree held_is on pipe =
      let sum = count table target number pipe held is_table held_is in
      let one : pipe_handles (without_handle table target number) pipe + (if held.object.number == pipe then 1 else 0) ≡ pipe_handles table pipe =
      ap (λ b. pipe_handles (without_handle table target number) pipe + (if b && held.object.number == pipe then 1 else 0)) (sym on) ∙ sum in
      count_fewer pipes.made pipe held.object.number pipes.rows are.1 are.0
      ∙ ap (λ n. n - (if held.object.number == pipe then 1 else 0)) (agree pipe ∙ sym one)
      ∙ omega arith

  pub closes_leave_pipes : ClosesLeavePipes
  closes_leave_pipes pipes table target number held is_table agree held_is other pipe =
      let sum = count table target number pipe held is_table held_is in
      let none : pipe_handles (without_handle table target number) pipe + 0 ≡ pipe_handles table pipe =
      ap (λ b. pipe_handles (without_handle table target number) pipe + (if b && held.object.number == pipe then 1 else 0)) (sym other) ∙ sum in
      agree pipe ∙ sym none ∙ omega arith
