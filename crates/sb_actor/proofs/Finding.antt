-- Each result has its own steps among those of its thread.
use Rattle.std.proofs.Common.{◌≡◌, ◌⊎◌, inl, inr, ◌∙◌, refl, sym, subst, ap, ℕ, zero, suc, ◌+◌, Bool, true, false, cond, eqb, ◌&&◌, List, [], ◌∷◌, ◌++◌, length, Option, None, Some, arith, append_assoc}
use Rattle.std.proofs.lemmas.List.{append-nil}
use Rattle.std.proofs.lemmas.Option.{same_Some}
use Rattle.std.specs.Option.{option_to_list}
use Rattle.std.specs.Prelude.{slice_get}
use Rattle.sb_actor.specs.Acts.{value_in}
use Rattle.sb_actor.specs.Causes.{Ends}
use Rattle.sb_actor.specs.Findings.{EndsAtResult, HasSteps, ResultsHaveSteps, ValuesTell, results_of_values, after_values}
use Rattle.sb_actor.specs.Places.{begins, mark_at, statement_at}
use Rattle.sb_actor.specs.ThreadStages.{ThreadStage, ThreadAt}
use Rattle.sb_actor.specs.ThreadStages as stage
use Rattle.sb_actor.specs.ThreadTable.{ThreadNext, thread_row, thread_after, stray_row, goes_on, ends, after_round, after_fill, after_wait, after_fetch, reply_by, has_clean}
use Rattle.sb_actor.specs.Observations.{Observation}
use Rattle.sb_actor.specs.Observations.{Value}
use Rattle.sb_block.specs.Replies.{read_reply}
use Rattle.sb_statements.specs.declared.results.CallResult.TheVariants as result
use Rattle.sb_statements.specs.declared.results.StmtResult.{StmtResult}
use Rattle.sb_statements.specs.declared.results.StmtResult.TheVariants as ended
use Rattle.sb_statements.specs.declared.scripts.Script.{Script}
use Rattle.sb_statements.specs.declared.statements.Statement.{Statement}
use Rattle.sb_statements.specs.declared.statements.Statement.TheVariants as statement

-- the value alone matters
by_statement : (script : Script) (x : ThreadAt) (loads most : ℕ) (o : Option Statement) (seen : Observation)
    → (stray_row script x loads most o).next seen ≡ (stray_row script x loads most o).next (Value (value_in seen))
by_statement script x loads most (Some (statement.Call tag args)) seen = refl
by_statement script x loads most _ seen = refl

by_stage : (script : Script) (x : ThreadAt) (s : ThreadStage) (seen : Observation) → (thread_row script x s).next seen ≡ (thread_row script x s).next (Value (value_in seen))
by_stage script x (stage.Stray loads most) seen = by_statement script x loads most (statement_at script x.target x.thread x.place) seen
by_stage script x _ seen = refl

pub values_tell : ValuesTell
values_tell script x seen = by_stage script x x.stage seen

-- a step ends the statement, and the next one begins, or only the stage changes
module _ (script : Script) (x : ThreadAt) where
  abbrev Next : ThreadNext → Type 0
  Next next = ((r : StmtResult) × (next ≡ ends script x r)) ⊎ ((s : ThreadStage) × (next ≡ goes_on x s))

  over : (r : StmtResult) → Next (ends script x r)
  over r = inl (r, refl)

  on : (s : ThreadStage) → Next (goes_on x s)
  on s = inr (s, refl)

  either : (b : Bool) (p q : ThreadNext) → Next p → Next q → Next (cond b p q)
  either true p q h k = h
  either false p q h k = k

  by_word : (loads most : ℕ) (o : Option Statement) (n : ℕ) → Next ((stray_row script x loads most o).next (Value n))
  by_word loads most (Some (statement.Store t w y)) n = over ended.Stored
  by_word loads most (Some (statement.Exchange t w from to)) n = over (ended.Found n)
  by_word loads most (Some (statement.Load t w)) n = over (ended.Found n)
  by_word loads most (Some (statement.Wait t w y k)) n =
      either (eqb n y) (ends script x (ended.Met (loads + 1))) _ (over (ended.Met (loads + 1)))
      (either (eqb (loads + 1) most) (ends script x (ended.Unmet most)) (goes_on x (stage.Stray (loads + 1) most)) (over (ended.Unmet most)) (on (stage.Stray (loads + 1) most)))
  by_word loads most _ n = on x.stage

  round : (rounds : ℕ) (all_abandoned : Bool) → Next (after_round script x rounds all_abandoned)
  round rounds all_abandoned =
      either all_abandoned (ends script x (ended.Call result.NoChannel)) _ (over (ended.Call result.NoChannel))
      (either (has_clean x.clean) (goes_on x (stage.Try 0 rounds true)) _ (on (stage.Try 0 rounds true))
      (either (eqb (rounds + 1) x.patience) (ends script x (ended.Call result.NoChannel)) (goes_on x (stage.Try 0 (rounds + 1) true)) (over (ended.Call result.NoChannel)) (on (stage.Try 0 (rounds + 1) true))))

  next_at : (s : ThreadStage) (n : ℕ) → Next ((thread_row script x s).next (Value n))
  next_at (stage.Try c rounds all_abandoned) n =
      either (eqb n 1) (goes_on x (stage.Fill c 0)) _ (on (stage.Fill c 0))
      (either (eqb (c + 1) (length x.clean)) (after_round script x rounds (all_abandoned && eqb n 5)) (goes_on x (stage.Try (c + 1) rounds (all_abandoned && eqb n 5)))
      (round rounds (all_abandoned && eqb n 5)) (on (stage.Try (c + 1) rounds (all_abandoned && eqb n 5))))
  next_at (stage.Fill c i) n = on (after_fill x c i)
  next_at (stage.Send c) n = either (eqb n 2) (goes_on x (stage.Wait c 0)) (ends script x (ended.Call (result.SendLost c n))) (on (stage.Wait c 0)) (over (ended.Call (result.SendLost c n)))
  next_at (stage.Wait c loads) n = on (after_wait x c loads n)
  next_at (stage.Fetch c words) n = on (after_fetch c (words ++ n ∷ []))
  next_at (stage.Free c words) n = over (ended.Call (reply_by c (mark_at x.thread x.place) (read_reply words)))
  next_at (stage.Abandon c) n = over (ended.Call (result.TimedOut c))
  next_at (stage.Stray loads most) n = by_word loads most (statement_at script x.target x.thread x.place) n
  next_at stage.Over n = on x.stage

  next : (n : ℕ) → Next (thread_after script x (Value n))
  next n = next_at x.stage n

-- steps one after the other
after_values_on : (script : Script) (x : ThreadAt) (first later : List ℕ) → after_values script x (first ++ later) ≡ after_values script (after_values script x first) later
after_values_on script x [] later = refl
after_values_on script x (n ∷ first) later = after_values_on script (thread_after script x (Value n)).thread first later

results_on : (script : Script) (x : ThreadAt) (first later : List ℕ)
    → results_of_values script x (first ++ later) ≡ results_of_values script x first ++ results_of_values script (after_values script x first) later
results_on script x [] later = refl
results_on script x (n ∷ first) later =
    ap (λ (l : List StmtResult). option_to_list (thread_after script x (Value n)).ended ++ l) (results_on script (thread_after script x (Value n)).thread first later)
    ∙ sym (append_assoc (option_to_list (thread_after script x (Value n)).ended) (results_of_values script (thread_after script x (Value n)).thread first)
    (results_of_values script (after_values script (thread_after script x (Value n)).thread first) later))

-- the steps up to the first result
record First (script : Script) (x : ThreadAt) (values : List ℕ) (r : StmtResult) (rest : List StmtResult) : Type 0 where
  found : List ℕ
  last : ℕ
  later : List ℕ
  is : values ≡ found ++ last ∷ later
  ends_so : Ends script x found last r
  after : after_values script x (found ++ last ∷ []) ≡ begins script x (x.place + 1)
  one : results_of_values script x (found ++ last ∷ []) ≡ r ∷ []
  others : results_of_values script (begins script x (x.place + 1)) later ≡ rest

first : (script : Script) (values : List ℕ) (x : ThreadAt) (r : StmtResult) (rest : List StmtResult) → results_of_values script x values ≡ r ∷ rest → First script x values r rest
first script [] x r rest e = absurd (cc)
first script (n ∷ values) x r rest e = by_next (thread_after script x (Value n)) refl (next script x n) e (λ s k. first script values (record x { stage = s }) r rest k)
  where
    by_next : (z : ThreadNext) → thread_after script x (Value n) ≡ z → Next script x z → option_to_list z.ended ++ results_of_values script z.thread values ≡ r ∷ rest
        → ((s : ThreadStage) → results_of_values script (record x { stage = s }) values ≡ r ∷ rest → First script (record x { stage = s }) values r rest)
        → First script x (n ∷ values) r rest
    by_next z is (inl (q, f)) k more =
        let here : thread_after script x (Value n) ≡ ends script x q = is ∙ f in
        let all : q ∷ results_of_values script (begins script x (x.place + 1)) values ≡ r ∷ rest =
        subst (λ (y : ThreadNext). option_to_list y.ended ++ results_of_values script y.thread values ≡ r ∷ rest) f k in
        let same : q ≡ r = cc in
        record {
          found = [];
          last = n;
          later = values;
          is = refl;
          ends_so = ap (λ (y : ThreadNext). y.ended) here ∙ ap (λ (p : StmtResult). Some p) same;
          after = ap (λ (y : ThreadNext). y.thread) here;
          one = ap (λ (y : ThreadNext). option_to_list y.ended ++ []) here ∙ ap (λ (p : StmtResult). p ∷ []) same;
          others = cc;
        }
    by_next z is (inr (s, f)) k more =
        let here : thread_after script x (Value n) ≡ goes_on x s = is ∙ f in
        let h = more s (subst (λ (y : ThreadNext). option_to_list y.ended ++ results_of_values script y.thread values ≡ r ∷ rest) f k) in
        record {
          found = n ∷ h.found;
          last = h.last;
          later = h.later;
          is = ap (λ (l : List ℕ). n ∷ l) h.is;
          ends_so = subst (λ (y : ThreadNext). (y.ended ≡ None) × Ends script y.thread h.found h.last r) (sym here) (refl, h.ends_so);
          after = ap (λ (y : ThreadNext). after_values script y.thread (h.found ++ h.last ∷ [])) here ∙ h.after;
          one = ap (λ (y : ThreadNext). option_to_list y.ended ++ results_of_values script y.thread (h.found ++ h.last ∷ [])) here ∙ h.one;
          others = h.others;
        }

-- no result comes before the step that ends a statement
none_yet : (script : Script) (x : ThreadAt) (found : List ℕ) (last : ℕ) (r : StmtResult) → Ends script x found last r → results_of_values script x found ≡ []
none_yet script x [] last r h = refl
none_yet script x (n ∷ found) last r h =
    ap (λ (o : Option StmtResult). option_to_list o ++ results_of_values script (thread_after script x (Value n)).thread found) h.0
    ∙ none_yet script (thread_after script x (Value n)).thread found last r h.1

-- values that end at a result still do after those of a first statement
latest_more : (script : Script) (values : List ℕ) (x : ThreadAt) (r : StmtResult) (rest : List StmtResult) (i : ℕ) (before : List ℕ) → (f : First script x values r rest)
    → EndsAtResult script (begins script x (x.place + 1)) i before → EndsAtResult script x (suc i) ((f.found ++ f.last ∷ []) ++ before)
latest_more script values x r rest zero before f e =
    (f.found, f.last, ap (λ (l : List ℕ). (f.found ++ f.last ∷ []) ++ l) e ∙ append-nil (f.found ++ f.last ∷ []), ap length (none_yet script x f.found f.last r f.ends_so))
latest_more script values x r rest (suc i) before f (front, n, e, many) =
    let results_step =
    results_on script x (f.found ++ f.last ∷ []) front
    ∙ (ap (λ (l : List StmtResult). l ++ results_of_values script (after_values script x (f.found ++ f.last ∷ [])) front) f.one
    ∙ ap (λ (z : ThreadAt). r ∷ results_of_values script z front) f.after) in
    let size = ap length results_step in (
      (f.found ++ f.last ∷ []) ++ front,
      n,
      ap (λ (l : List ℕ). (f.found ++ f.last ∷ []) ++ l) e ∙ sym (append_assoc (f.found ++ f.last ∷ []) front (n ∷ [])),
      omega (arith, size, many),
    )

-- the place of a statement after others
placed : (script : Script) (x : ThreadAt) (i j : ℕ) → i ≡ j → begins script x i ≡ begins script x j
placed script x i j e = ap (begins script x) e

results_split : (script : Script) (x : ThreadAt) (values : List ℕ) (i : ℕ) (r : StmtResult) → x ≡ begins script x x.place
    → (results : List StmtResult) → results_of_values script x values ≡ results → slice_get results i ≡ Some r → HasSteps script x values i r
results_split script x values i r b [] e h = absurd (cc)
results_split script x values zero r b (q ∷ results) e h =
    let f = first script values x q results e in
    let same : q ≡ r = same_Some q r h in
    record {
      before = [];
      found = f.found;
      last = f.last;
      later = f.later;
      is = f.is;
      earlier = refl;
      latest = refl;
      begun = b ∙ placed script x x.place (x.place + 0) (omega arith);
      ends = subst (Ends script x f.found f.last) same f.ends_so;
    }
results_split script x values (suc i) r b (q ∷ results) e h =
    let f = first script values x q results e in
    let next = begins script x (x.place + 1) in
    let k = results_split script next f.later i r refl results f.others h in
    let step = after_values_on script x (f.found ++ f.last ∷ []) k.before ∙ ap (λ (z : ThreadAt). after_values script z k.before) f.after in
    let results_step =
    results_on script x (f.found ++ f.last ∷ []) k.before
    ∙ (ap (λ (l : List StmtResult). l ++ results_of_values script (after_values script x (f.found ++ f.last ∷ [])) k.before) f.one
    ∙ ap (λ (z : ThreadAt). q ∷ results_of_values script z k.before) f.after) in
    let size = ap length results_step in
    let earlier = k.earlier in
    record {
      before = (f.found ++ f.last ∷ []) ++ k.before;
      found = k.found;
      last = k.last;
      later = k.later;
      is =
          f.is ∙ (ap (λ (l : List ℕ). f.found ++ f.last ∷ l) k.is
          ∙ (sym (append_assoc f.found (f.last ∷ []) (k.before ++ (k.found ++ k.last ∷ k.later)))
          ∙ sym (append_assoc (f.found ++ f.last ∷ []) k.before (k.found ++ k.last ∷ k.later))));
      earlier = omega (arith, size, earlier);
      latest = latest_more script values x q results i k.before f k.latest;
      begun = step ∙ (k.begun ∙ placed script x (x.place + 1 + i) (x.place + suc i) (omega arith));
      ends = subst (λ (z : ThreadAt). Ends script z k.found k.last r) (sym step) k.ends;
    }

pub results_have_steps : ResultsHaveSteps
results_have_steps script x values i r b h = results_split script x values i r b (results_of_values script x values) refl h
