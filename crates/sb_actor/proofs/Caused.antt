-- Each result of a thread has its cause in its own steps.
use Rattle.std.proofs.Common.{◌≡◌, ◌∙◌, refl, sym, subst, ap, ℕ, true, List, [], ◌∷◌, length, Option, None, Some, arith}
use Rattle.std.proofs.lemmas.Option.{same_Some}
use Rattle.sb_actor.specs.Causes.{CauseOf, Ends, RunsScript}
use Rattle.sb_actor.specs.Findings.{HasCause, ResultsHaveCauses}
use Rattle.sb_actor.specs.Places.{begins, block_of, clean_channels, first_stage, mark_at, statement_at, thread_start}
use Rattle.sb_actor.specs.ThreadStages.{ThreadStage, ThreadAt}
use Rattle.sb_actor.specs.ThreadStages as stage
use Rattle.sb_actor.specs.ThreadTable.{ThreadNext, ends, stray_row, thread_after}
use Rattle.sb_actor.specs.Observations.{Value}
use Rattle.sb_actor.proofs.Begins.{calls_begin, waits_begin}
use Rattle.sb_actor.proofs.CallCauses.{calls_end, same_stage}
use Rattle.sb_actor.proofs.Finding.{results_have_steps}
use Rattle.sb_actor.proofs.WaitCauses.{waits_end}
use Rattle.sb_statements.specs.Soundness.{SoundStatements, SoundTargets, is_sound}
use Rattle.sb_statements.specs.declared.results.StmtResult.{StmtResult}
use Rattle.sb_statements.specs.declared.results.StmtResult.TheVariants as result
use Rattle.sb_statements.specs.declared.scripts.Script.{Script}
use Rattle.sb_statements.specs.declared.statements.Statement.{Statement}
use Rattle.sb_statements.specs.declared.statements.Statement.TheVariants as statement

-- a thread that is over ends nothing
never : (script : Script) (x : ThreadAt) (found : List ℕ) (last : ℕ) (r : StmtResult) → Ends script (record x { stage = stage.Over }) found last r → ⊥
never script x [] last r h = absurd (cc)
never script x (n ∷ found) last r h = never script x found last r h.1

-- a statement whose only step ends it
once : (script : Script) (x : ThreadAt) (made : ℕ → StmtResult) → ((n : ℕ) → thread_after script x (Value n) ≡ ends script x (made n))
    → (found : List ℕ) (last : ℕ) (r : StmtResult) → Ends script x found last r → (found ≡ []) × (r ≡ made last)
once script x made f [] last r h = (refl, same_Some r (made last) (sym h ∙ ap (λ (z : ThreadNext). z.ended) (f last)))
once script x made f (n ∷ found) last r h = let never_so : Some (made n) ≡ None = sym (ap (λ (z : ThreadNext). z.ended) (f n)) ∙ h.0 in absurd (cc)

module _ (targets : SoundTargets) (statements : SoundStatements) (script : Script) (t k i : ℕ) (sound : is_sound script ≡ true) where
  -- the thread at its statement
  abbrev start : ThreadAt
  start = thread_start script t k

  abbrev at : ThreadAt
  at = begins script start i

  runs : RunsScript script start
  runs = record { sound = sound; patience = refl; clean = refl }

  -- its stage, by its statement
  staged : (o : Option Statement) (s : ThreadStage) → statement_at script t k i ≡ o → first_stage o ≡ s → record at { stage = s } ≡ at
  staged o s e f = same_stage at s (ap first_stage e ∙ f)

  stray : (q : Statement) (made : ℕ → StmtResult) → statement_at script t k i ≡ Some q → first_stage (Some q) ≡ stage.Stray 0 1
      → ((n : ℕ) → (stray_row script (record at { stage = stage.Stray 0 1 }) 0 1 (Some q)).next (Value n) ≡ ends script (record at { stage = stage.Stray 0 1 }) (made n))
      → (found : List ℕ) (last : ℕ) (r : StmtResult) → Ends script at found last r → (found ≡ []) × (r ≡ made last)
  stray q made e f g found last r h =
      once script (record at { stage = stage.Stray 0 1 }) made
      (λ n. ap (λ (o : Option Statement). (stray_row script (record at { stage = stage.Stray 0 1 }) 0 1 o).next (Value n)) e ∙ g n)
      found last r (subst (λ (z : ThreadAt). Ends script z found last r) (sym (staged (Some q) (stage.Stray 0 1) e f)) h)

  -- the cause, by the statement
  caused : (q : Statement) → statement_at script t k i ≡ Some q → (found : List ℕ) (last : ℕ) (r : StmtResult) → Ends script at found last r → HasCause script t k i found last q r
  caused (statement.Call tag args) e found last r h =
      let c = calls_end script at found last r (calls_begin targets script start i tag args runs e) h in
      (c.0, c.1, subst (λ (n : ℕ). CauseOf (clean_channels script t) script.patience n (mark_at k i) found last c.0) (ap length (ap (block_of (mark_at k i)) e)) c.2)
  caused (statement.Store u word value) e found last r h = stray (statement.Store u word value) (λ n. result.Stored) e refl (λ n. refl) found last r h
  caused (statement.Wait u word value most) e found last r h =
      waits_end script at value most found last r (waits_begin statements script start i u word value most runs e) h
  caused stage e found last r h = stray stage (λ n. result.Found n) e refl (λ n. refl) found last r h

  -- there is one
  listed : (o : Option Statement) → statement_at script t k i ≡ o → (found : List ℕ) (last : ℕ) (r : StmtResult) → Ends script at found last r
      → (q : Statement) × (statement_at script t k i ≡ Some q) × HasCause script t k i found last q r
  listed None e found last r h =
      absurd (never script at found last r (subst (λ (z : ThreadAt). Ends script z found last r) (sym (staged None stage.Over e refl)) h))
  listed (Some q) e found last r h = (q, e, caused q e found last r h)

pub results_have_causes : SoundTargets → SoundStatements → ResultsHaveCauses
results_have_causes targets statements script t k values i r sound h =
    let x = thread_start script t k in
    let s = results_have_steps script x values i r refl h in
    let begun = s.begun ∙ ap (begins script x) (omega arith) in
    let its = listed targets statements script t k i sound (statement_at script t k i) refl s.found s.last r (subst (λ (z : ThreadAt). Ends script z s.found s.last r) begun s.ends) in
    record {
      before = s.before;
      found = s.found;
      last = s.last;
      later = s.later;
      is = s.is;
      earlier = s.earlier;
      latest = s.latest;
      begun = begun;
      its_statement = its.0;
      listed = its.1;
      cause = its.2;
    }
