-- Every thread makes its step on a word unless it is finished; and what the view of a seat tells of its actor.
use Rattle.std.proofs.Common.{◌≡◌, ◌∙◌, refl, ap, subst, sym, ℕ, zero, suc, Bool, true, false, List, [], ◌∷◌, length, Option, None, Some, slice_get, is_none, arith, nat_le, not}
use Rattle.std.proofs.lemmas.Bool.Decides.{nat_tests}
use Rattle.sb_actor.specs.Places.{is_call, is_finished, statement_at, statements_of}
use Rattle.sb_actor.specs.ThreadStages.{ThreadStage, ThreadAt, Stray}
use Rattle.sb_actor.specs.ThreadTable.{stray_row, thread_plan, thread_row}
use Rattle.sb_actor.specs.declared.acts.Act.{Act}
use Rattle.sb_core.specs.Kept.{IsAtStatement, is_calling, is_over}
use Rattle.sb_statements.specs.declared.scripts.Script.{Script}
use Rattle.sb_statements.specs.declared.statements.Statement.{Statement}
use Rattle.sb_statements.specs.declared.statements.Statement.TheVariants.{Call}
use Rattle.sb_shared.specs.Parts.{is_on_word}
use Rattle.sb_shared.specs.Seats.{IsThread, IsWorker, thread_in, worker_in}
use Rattle.sb_shared.specs.Standing.{AllStand, IsThreadHere, IsWorkerHere}
use Rattle.sb_shared.specs.declared.views.View.{View}

-- what the view of a seat tells of its actor
pub thread_here : (v : View) → IsThread v → IsThreadHere v.key (thread_in v.parts).target (thread_in v.parts).thread (thread_in v.parts).run
thread_here v h = (subst (AllStand v.key) h.one h.stands).0

pub worker_here : (v : View) → IsWorker v → IsWorkerHere v.key (worker_in v.parts).target (worker_in v.parts).state (worker_in v.parts).book
worker_here v h = (subst (AllStand v.key) h.one h.stands).0

-- two tests that pass together are the same
same_test : (a b : Bool) → (a ≡ true → b ≡ true) → (b ≡ true → a ≡ true) → a ≡ b
same_test true true f g = refl
same_test true false f g = sym (f refl)
same_test false true f g = g refl
same_test false false f g = refl

none_after : (statements : List Statement) (i : ℕ) → is_none (slice_get statements i) ≡ nat_le (length statements) i
none_after [] i = sym (grind (arith, nat_tests))
none_after (s ∷ statements) zero = sym (grind (arith, nat_tests))
none_after (s ∷ statements) (suc i) =
    none_after statements i
    ∙ same_test (nat_le (length statements) i) (nat_le (length (s ∷ statements)) (suc i)) (λ e. grind (arith, nat_tests, e)) (λ e. grind (arith, nat_tests, e))

module _ (script : Script) (x : ThreadAt) (stands : IsAtStatement script x) where
  -- a thread is finished exactly if its stage is that after the last statement
  pub over_finished : is_over x.stage ≡ is_finished script x
  over_finished = stands.over ∙ none_after (statements_of script x.target x.thread) x.place

  stray_on_word : (loads most : ℕ) (o : Option Statement) → is_call o ≡ false → is_none o ≡ false → is_on_word (stray_row script x loads most o).step ≡ true
  stray_on_word loads most (Some (Call tag args)) e f = absurd cc
  stray_on_word loads most None e f = absurd cc
  stray_on_word loads most _ e f = refl

  stage_on_word : (stage : ThreadStage) → x.stage ≡ stage → is_on_word (thread_row script x stage).step ≡ not (is_over stage)
  stage_on_word (Stray loads most) e =
      stray_on_word loads most (statement_at script x.target x.thread x.place) (sym stands.calling ∙ ap is_calling e) (sym stands.over ∙ ap is_over e)
  stage_on_word _ e = refl

  -- a thread makes its step on a word unless it is finished
  on_word_unless : is_on_word (thread_plan script x) ≡ not (is_finished script x)
  on_word_unless = stage_on_word x.stage refl ∙ ap not over_finished

-- so does the thread of a seat
pub on_word_by : (v : View) → IsThread v → (a : Act) (q : Bool) → thread_plan v.key.script.value (thread_in v.parts).run.thread ≡ a
    → is_finished v.key.script.value (thread_in v.parts).run.thread ≡ q → is_on_word a ≡ not q
on_word_by v h a q plan done = ap is_on_word (sym plan) ∙ on_word_unless v.key.script.value (thread_in v.parts).run.thread (thread_here v h).stands ∙ ap not done
