-- A wait ends for the cause that its loads found.
use Rattle.std.proofs.Common.{◌≡◌, ◌≢◌, ◌∙◌, refl, sym, subst, ap, ℕ, ◌+◌, ◌<◌, ◌≤◌, Bool, true, false, cond, eqb, List, [], ◌∷◌, length, None, Some, arith, eq-eqb}
use Rattle.std.proofs.lemmas.Bool.{and_parts, and_from, eqb-true, not-true, not_from_false}
use Rattle.std.proofs.lemmas.Bool.Decides.{nat_tests}
use Rattle.std.specs.List.{list_all}
use Rattle.sb_actor.specs.Causes.{Ends, CauseOfWait, WaitsEndForCause, CausesEndWaits, is_not}
use Rattle.sb_actor.specs.Places.{statement_at}
use Rattle.sb_actor.specs.ThreadStages.{ThreadStage, ThreadAt}
use Rattle.sb_actor.specs.ThreadStages as stage
use Rattle.sb_actor.specs.ThreadTable.{ThreadNext, thread_after, stray_row, goes_on, ends}
use Rattle.sb_actor.specs.Observations.{Value}
use Rattle.sb_statements.specs.declared.results.StmtResult.{StmtResult}
use Rattle.sb_statements.specs.declared.results.StmtResult.TheVariants as ended
use Rattle.sb_statements.specs.declared.scripts.Script.{Script}
use Rattle.sb_statements.specs.declared.statements.Statement.TheVariants as statement
use Rattle.sb_statements.specs.declared.statements.Word.{Word}

module _ (script : Script) (x : ThreadAt) (value most target : ℕ) (word : Word) (at : statement_at script x.target x.thread x.place ≡ Some (statement.Wait target word value most)) where
  -- the thread after some loads
  abbrev after : ℕ → ThreadAt
  after loads = record x { stage = stage.Stray loads most }

  -- its next step, by whether it met the value, and whether it was the last
  abbrev chosen : ℕ → Bool → Bool → ThreadNext
  chosen loads met last =
      cond met (ends script (after loads) (ended.Met (loads + 1))) (cond last (ends script (after loads) (ended.Unmet most)) (goes_on (after loads) (stage.Stray (loads + 1) most)))

  next : (loads n : ℕ) → thread_after script (after loads) (Value n) ≡ chosen loads (eqb n value) (eqb (loads + 1) most)
  next loads n = ap (λ o. (stray_row script (after loads) loads most o).next (Value n)) at

  abbrev cause : (loads : ℕ) (found : List ℕ) (last : ℕ) (r : StmtResult) → Type 0
  cause loads found last (ended.Met k) = (list_all (is_not value) found ≡ true) × (last ≡ value) × (k ≡ loads + length found + 1) × (k ≤ most)
  cause loads found last (ended.Unmet k) = (list_all (is_not value) found ≡ true) × (last ≢ value) × (k ≡ most) × (loads + length found + 1 ≡ most)
  cause loads found last _ = ⊥

  -- the last load
  by_last : (loads n : ℕ) → loads < most → (met last : Bool) → eqb n value ≡ met → eqb (loads + 1) most ≡ last → (r : StmtResult) → (chosen loads met last).ended ≡ Some r → cause loads [] n r
  by_last loads n l true last e f r g =
      let same : ended.Met (loads + 1) ≡ r = cc in
      subst (cause loads [] n) same (refl, eqb-true n value e, omega arith, omega (arith, l))
  by_last loads n l false true e f r g =
      let same : ended.Unmet most ≡ r = cc in
      let all = eqb-true (loads + 1) most f in
      subst (cause loads [] n) same (refl, (λ h. let t = eq-eqb n value h in absurd (cc)), refl, omega (arith, all))
  by_last loads n l false false e f r g = absurd (cc)

  -- one load more before the others
  more : (loads n : ℕ) (found : List ℕ) (last : ℕ) (r : StmtResult) → eqb n value ≡ false → cause (loads + 1) found last r → cause loads (n ∷ found) last r
  more loads n found last (ended.Met k) e h =
      let is = h.2 in
      (and_from (is_not value n) (list_all (is_not value) found) (not_from_false (eqb n value) e) h.0, h.1, omega (arith, is), h.3)
  more loads n found last (ended.Unmet k) e h =
      let is = h.3 in
      (and_from (is_not value n) (list_all (is_not value) found) (not_from_false (eqb n value) e) h.0, h.1, h.2, omega (arith, is))
  more loads n found last _ e h = h

  abbrev Leaves : ThreadNext → List ℕ → ℕ → StmtResult → Type 0
  Leaves z found last r = (z.ended ≡ None) × Ends script z.thread found last r

  by_tests : (loads n : ℕ) (found : List ℕ) (last : ℕ) (r : StmtResult) → loads < most
      → (loads + 1 < most → Ends script (after (loads + 1)) found last r → cause (loads + 1) found last r)
      → (met all : Bool) → eqb n value ≡ met → eqb (loads + 1) most ≡ all → Leaves (chosen loads met all) found last r → cause loads (n ∷ found) last r
  by_tests loads n found last r l rest true all e f h = absurd (let t = h.0 in cc)
  by_tests loads n found last r l rest false true e f h = absurd (let t = h.0 in cc)
  by_tests loads n found last r l rest false false e f h =
      let few : loads + 1 < most = grind (arith, nat_tests, f, l) in
      more loads n found last r e (rest few h.1)

  forward : (loads : ℕ) → loads < most → (found : List ℕ) (last : ℕ) (r : StmtResult) → Ends script (after loads) found last r → cause loads found last r
  forward loads l [] last r h = by_last loads last l (eqb last value) (eqb (loads + 1) most) refl refl r (subst (λ z. z.ended ≡ Some r) (next loads last) h)
  forward loads l (n ∷ found) last r h =
      by_tests loads n found last r l (λ few k. forward (loads + 1) few found last r k) (eqb n value) (eqb (loads + 1) most) refl refl
      (subst (λ z. Leaves z found last r) (next loads n) h)

  -- and the other way
  last_met : (loads n : ℕ) (r : StmtResult) → loads < most → cause loads [] n r → (chosen loads (eqb n value) (eqb (loads + 1) most)).ended ≡ Some r
  last_met loads n (ended.Met k) l h =
      let e = eq-eqb n value h.1 in
      let is = h.2 in
      let k_is : loads + 1 ≡ k = omega (arith, is) in
      rw e (ap (λ (z : ℕ). Some (ended.Met z)) k_is)
  last_met loads n (ended.Unmet k) l h =
      let other = h.1 in
      let e : eqb n value ≡ false = grind (arith, nat_tests, other) in
      let is = h.3 in
      let f = eq-eqb (loads + 1) most (omega (arith, is)) in
      rw e (rw f (ap (λ (z : ℕ). Some (ended.Unmet z)) (sym h.2)))
  last_met loads n _ l h = absurd h

  -- what is known of a cause with a load in front
  record Less (loads n : ℕ) (found : List ℕ) (last : ℕ) (r : StmtResult) : Type 0 where
    other : eqb n value ≡ false
    few : loads + 1 < most
    rest : cause (loads + 1) found last r

  less : (loads n : ℕ) (found : List ℕ) (last : ℕ) (r : StmtResult) → cause loads (n ∷ found) last r → Less loads n found last r
  less loads n found last (ended.Met k) h =
      let parts = and_parts (is_not value n) (list_all (is_not value) found) h.0 in
      let is = h.2 in
      let most_is = h.3 in
      record { other = not-true (eqb n value) parts.0; few = omega (arith, is, most_is); rest = (parts.1, h.1, omega (arith, is), h.3) }
  less loads n found last (ended.Unmet k) h =
      let parts = and_parts (is_not value n) (list_all (is_not value) found) h.0 in
      let is = h.3 in
      record { other = not-true (eqb n value) parts.0; few = omega (arith, is); rest = (parts.1, h.1, h.2, omega (arith, is)) }
  less loads n found last _ h = absurd h

  backward : (loads : ℕ) → loads < most → (found : List ℕ) (last : ℕ) (r : StmtResult) → cause loads found last r → Ends script (after loads) found last r
  backward loads l [] last r h = subst (λ z. z.ended ≡ Some r) (sym (next loads last)) (last_met loads last r l h)
  backward loads l (n ∷ found) last r h =
      let b = less loads n found last r h in
      let few = b.few in
      let f : eqb (loads + 1) most ≡ false = grind (arith, nat_tests, few) in
      let step : thread_after script (after loads) (Value n) ≡ goes_on (after loads) (stage.Stray (loads + 1) most) =
      next loads n ∙ (ap (λ b. chosen loads b (eqb (loads + 1) most)) b.other ∙ ap (λ b. chosen loads false b) f) in
      subst (λ z. (z.ended ≡ None) × Ends script z.thread found last r) (sym step) (refl, backward (loads + 1) b.few found last r b.rest)

  -- from the beginning
  to_cause : (found : List ℕ) (last : ℕ) (r : StmtResult) → cause 0 found last r → CauseOfWait value most found last r
  to_cause found last (ended.Met k) h = let is = h.2 in (h.0, h.1, omega (arith, is), h.3)
  to_cause found last (ended.Unmet k) h = let is = h.3 in (h.0, h.1, h.2, omega (arith, is))
  to_cause found last _ h = h

  of_cause : (found : List ℕ) (last : ℕ) (r : StmtResult) → CauseOfWait value most found last r → cause 0 found last r
  of_cause found last (ended.Met k) h = let is = h.2 in (h.0, h.1, omega (arith, is), h.3)
  of_cause found last (ended.Unmet k) h = let is = h.3 in (h.0, h.1, h.2, omega (arith, is))
  of_cause found last _ h = h

-- a thread whose stage is known
same_stage : (x : ThreadAt) (s : ThreadStage) → x.stage ≡ s → record x { stage = s } ≡ x
same_stage x s e = ap (λ (z : ThreadStage). record x { stage = z }) (sym e)

pub waits_end : WaitsEndForCause
waits_end script x value most found last r b h =
    to_cause script x value most b.target b.word b.statement found last r
    (forward script x value most b.target b.word b.statement 0 b.some found last r
    (subst (λ (z : ThreadAt). Ends script z found last r) (sym (same_stage x (stage.Stray 0 most) b.stage)) h))

pub causes_end_waits : CausesEndWaits
causes_end_waits script x value most found last r b h =
    subst (λ (z : ThreadAt). Ends script z found last r) (same_stage x (stage.Stray 0 most) b.stage)
    (backward script x value most b.target b.word b.statement 0 b.some found last r (of_cause script x value most b.target b.word b.statement found last r h))
