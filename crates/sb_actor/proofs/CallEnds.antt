-- If the cause of a call's result is there, the call ends with it.
use Rattle.std.proofs.Common.{◌≡◌, ◌⊎◌, inl, inr, ◌∙◌, refl, sym, subst, ap, ℕ, ◌+◌, ◌<◌, Bool, true, false, not, cond, eqb, ◌&&◌, List, [], ◌∷◌, ◌++◌, length, get_or, None, Some, arith, append_assoc, eq-eqb}
use Rattle.std.proofs.Math.Bool.{and_assoc, and-true}
use Rattle.std.proofs.lemmas.Bool.{and_parts, eqb-true, not-true}
use Rattle.std.proofs.lemmas.Bool.Decides.{nat_tests}
use Rattle.std.specs.List.{list_all}
use Rattle.sb_actor.specs.Causes.{Ends, CausesEndCalls, Tried, NoneFree, Filled, Waited, Fetched, joined, is_taken, is_abandoned, is_waiting, is_round}
use Rattle.sb_actor.specs.Places.{mark_at}
use Rattle.sb_actor.specs.ThreadStages.{ThreadStage, ThreadAt}
use Rattle.sb_actor.specs.ThreadStages as stage
use Rattle.sb_actor.specs.ThreadTable.{ThreadNext, thread_after, goes_on, ends, reply_by, has_clean}
use Rattle.sb_actor.specs.Observations.{Value}
use Rattle.sb_actor.proofs.CallCauses.{Cause, same_stage}
use Rattle.sb_actor.proofs.CauseLists.{all_snoc, length_snoc}
use Rattle.sb_block.specs.Replies.{read_reply}
use Rattle.sb_statements.specs.declared.results.CallResult.{CallResult}
use Rattle.sb_statements.specs.declared.results.CallResult.TheVariants as result
use Rattle.sb_statements.specs.declared.results.StmtResult.{StmtResult}
use Rattle.sb_statements.specs.declared.results.StmtResult.TheVariants as ended
use Rattle.sb_statements.specs.declared.scripts.Script.{Script}

-- steps that found these values lead on, and none of them ends the statement
abbrev pub Leads : Script → ThreadAt → List ℕ → ThreadAt → Type 0
Leads script x [] y = x ≡ y
Leads script x (n ∷ found) y = ((thread_after script x (Value n)).ended ≡ None) × Leads script (thread_after script x (Value n)).thread found y

leads_on : (script : Script) (x y z : ThreadAt) (first later : List ℕ) → Leads script x first y → Leads script y later z → Leads script x (first ++ later) z
leads_on script x y z [] later h k = subst (λ (w : ThreadAt). Leads script w later z) (sym h) k
leads_on script x y z (n ∷ first) later h k = (h.0, leads_on script (thread_after script x (Value n)).thread y z first later h.1 k)

stops : (script : Script) (x y : ThreadAt) (found : List ℕ) (last : ℕ) (r : StmtResult) → Leads script x found y → (thread_after script y (Value last)).ended ≡ Some r
    → Ends script x found last r
stops script x y [] last r h k = subst (λ (w : ThreadAt). (thread_after script w (Value last)).ended ≡ Some r) (sym h) k
stops script x y (n ∷ found) last r h k = (h.0, stops script (thread_after script x (Value n)).thread y found last r h.1 k)

module _ (script : Script) (x : ThreadAt) where
  abbrev at : ThreadStage → ThreadAt
  at s = record x { stage = s }

  -- a step that goes on, before others
  before : (s z : ThreadStage) (n : ℕ) (found : List ℕ) (y : ThreadAt) → thread_after script (at s) (Value n) ≡ goes_on x z → Leads script (at z) found y
      → Leads script (at s) (n ∷ found) y
  before s z n found y e h = subst (λ (t : ThreadNext). (t.ended ≡ None) × Leads script t.thread found y) (sym e) (refl, h)

  -- a try, by its tests
  abbrev whole_round : ℕ → ℕ → Bool → Bool → Bool → Bool → ThreadNext
  whole_round c rounds all_abandoned all any last =
      cond all (ends script (at (stage.Try c rounds all_abandoned)) (ended.Call result.NoChannel))
      (cond any (goes_on x (stage.Try 0 rounds true))
      (cond last (ends script (at (stage.Try c rounds all_abandoned)) (ended.Call result.NoChannel)) (goes_on x (stage.Try 0 (rounds + 1) true))))

  abbrev tried_by : ℕ → ℕ → Bool → Bool → Bool → Bool → ThreadNext
  tried_by c rounds all_abandoned free last all =
      cond free (goes_on x (stage.Fill c 0))
      (cond last (whole_round c rounds all_abandoned all (has_clean x.clean) (eqb (rounds + 1) x.patience)) (goes_on x (stage.Try (c + 1) rounds all)))

  tried_next : (c rounds n : ℕ) (all_abandoned free last : Bool) → eqb n 1 ≡ free → eqb (c + 1) (length x.clean) ≡ last
      → thread_after script (at (stage.Try c rounds all_abandoned)) (Value n) ≡ tried_by c rounds all_abandoned free last (all_abandoned && eqb n 5)
  tried_next c rounds n all_abandoned free last e f =
      ap (λ (b : Bool). tried_by c rounds all_abandoned b (eqb (c + 1) (length x.clean)) (all_abandoned && eqb n 5)) e
      ∙ ap (λ (b : Bool). tried_by c rounds all_abandoned free b (all_abandoned && eqb n 5)) f

  -- a part of a round
  run_part : (part : List ℕ) (c rounds d : ℕ) (all_abandoned all : Bool) → list_all is_taken part ≡ true → d ≡ c + length part → d < length x.clean
      → all ≡ (all_abandoned && list_all is_abandoned part) → Leads script (at (stage.Try c rounds all_abandoned)) part (at (stage.Try d rounds all))
  run_part [] c rounds d all_abandoned all h e l f =
      let same : c ≡ d = omega (arith, e) in
      ap (λ (z : ℕ). at (stage.Try z rounds all_abandoned)) same ∙ ap (λ (b : Bool). at (stage.Try d rounds b)) (sym (f ∙ and-true all_abandoned))
  run_part (n ∷ part) c rounds d all_abandoned all h e l f =
      let parts = and_parts (is_taken n) (list_all is_taken part) h in
      let taken = not-true (eqb n 1) parts.0 in
      let inside : eqb (c + 1) (length x.clean) ≡ false = grind (arith, nat_tests, e, l) in
      before (stage.Try c rounds all_abandoned) (stage.Try (c + 1) rounds (all_abandoned && eqb n 5)) n part (at (stage.Try d rounds all))
      (tried_next c rounds n all_abandoned false false taken inside)
      (run_part part (c + 1) rounds d (all_abandoned && eqb n 5) all parts.1 (omega (arith, e)) l (f ∙ sym (and_assoc all_abandoned (eqb n 5) (list_all is_abandoned part))))

  -- the round that is counted
  abbrev Counted : ℕ → ℕ → Type 0
  Counted rounds more = ((has_clean x.clean ≡ true) × (more ≡ rounds)) ⊎ ((has_clean x.clean ≡ false) × (more ≡ rounds + 1) × (rounds + 1 < x.patience))

  counted_next : (c rounds more : ℕ) (all_abandoned all : Bool) → all ≡ false → Counted rounds more
      → whole_round c rounds all_abandoned all (has_clean x.clean) (eqb (rounds + 1) x.patience) ≡ goes_on x (stage.Try 0 more true)
  counted_next c rounds more all_abandoned all e (inl h) =
      ap (λ (b : Bool). whole_round c rounds all_abandoned b (has_clean x.clean) (eqb (rounds + 1) x.patience)) e
      ∙ (ap (λ (b : Bool). whole_round c rounds all_abandoned false b (eqb (rounds + 1) x.patience)) h.0
      ∙ ap (λ (z : ℕ). goes_on x (stage.Try 0 z true)) (sym h.1))
  counted_next c rounds more all_abandoned all e (inr h) =
      let few = h.2 in
      let f : eqb (rounds + 1) x.patience ≡ false = grind (arith, nat_tests, few) in
      ap (λ (b : Bool). whole_round c rounds all_abandoned b (has_clean x.clean) (eqb (rounds + 1) x.patience)) e
      ∙ (ap (λ (b : Bool). whole_round c rounds all_abandoned false b (eqb (rounds + 1) x.patience)) h.0
      ∙ (ap (λ (b : Bool). whole_round c rounds all_abandoned false false b) f
      ∙ ap (λ (z : ℕ). goes_on x (stage.Try 0 z true)) (sym h.1)))

  run_round : (n : ℕ) (part : List ℕ) (c rounds more : ℕ) (all_abandoned : Bool) → list_all is_taken (n ∷ part) ≡ true → c + length part + 1 ≡ length x.clean
      → (all_abandoned && list_all is_abandoned (n ∷ part)) ≡ false → Counted rounds more
      → Leads script (at (stage.Try c rounds all_abandoned)) (n ∷ part) (at (stage.Try 0 more true))
  run_round n [] c rounds more all_abandoned h e f k =
      let parts = and_parts (is_taken n) true h in
      let end = eq-eqb (c + 1) (length x.clean) (omega (arith, e)) in
      let all : (all_abandoned && eqb n 5) ≡ false = ap (λ (b : Bool). all_abandoned && b) (sym (and-true (eqb n 5))) ∙ f in
      before (stage.Try c rounds all_abandoned) (stage.Try 0 more true) n [] (at (stage.Try 0 more true))
      (tried_next c rounds n all_abandoned false true (not-true (eqb n 1) parts.0) end ∙ counted_next c rounds more all_abandoned (all_abandoned && eqb n 5) all k) refl
  run_round n (m ∷ part) c rounds more all_abandoned h e f k =
      let parts = and_parts (is_taken n) (list_all is_taken (m ∷ part)) h in
      let inside : eqb (c + 1) (length x.clean) ≡ false = grind (arith, nat_tests, e) in
      before (stage.Try c rounds all_abandoned) (stage.Try (c + 1) rounds (all_abandoned && eqb n 5)) n (m ∷ part) (at (stage.Try 0 more true))
      (tried_next c rounds n all_abandoned false false (not-true (eqb n 1) parts.0) inside)
      (run_round m part (c + 1) rounds more (all_abandoned && eqb n 5) parts.1 (omega (arith, e)) (and_assoc all_abandoned (eqb n 5) (list_all is_abandoned (m ∷ part)) ∙ f) k)

  one_round : 0 < length x.clean → (round : List ℕ) (rounds more : ℕ) → is_round (length x.clean) round ≡ true → Counted rounds more
      → Leads script (at (stage.Try 0 rounds true)) round (at (stage.Try 0 more true))
  one_round l [] rounds more h k =
      let size = eqb-true 0 (length x.clean) (and_parts (eqb 0 (length x.clean)) (true && not true) h).0 in
      absurd (omega (arith, size, l))
  one_round l (n ∷ part) rounds more h k =
      let parts = and_parts (eqb (length (n ∷ part)) (length x.clean)) (list_all is_taken (n ∷ part) && not (list_all is_abandoned (n ∷ part))) h in
      let size = eqb-true (length (n ∷ part)) (length x.clean) parts.0 in
      let rest = and_parts (list_all is_taken (n ∷ part)) (not (list_all is_abandoned (n ∷ part))) parts.1 in
      run_round n part 0 rounds more true rest.0 (omega (arith, size)) (not-true (list_all is_abandoned (n ∷ part)) rest.1) k

  run_clean : 0 < length x.clean → has_clean x.clean ≡ true → (all : List (List ℕ)) (rounds : ℕ) → list_all (is_round (length x.clean)) all ≡ true
      → Leads script (at (stage.Try 0 rounds true)) (joined all) (at (stage.Try 0 rounds true))
  run_clean l e [] rounds h = refl
  run_clean l e (round ∷ all) rounds h =
      let parts = and_parts (is_round (length x.clean) round) (list_all (is_round (length x.clean)) all) h in
      leads_on script (at (stage.Try 0 rounds true)) (at (stage.Try 0 rounds true)) (at (stage.Try 0 rounds true)) round (joined all)
      (one_round l round rounds rounds parts.0 (inl (e, refl))) (run_clean l e all rounds parts.1)

  run_unclean : 0 < length x.clean → has_clean x.clean ≡ false → (all : List (List ℕ)) (rounds more : ℕ) → list_all (is_round (length x.clean)) all ≡ true
      → more ≡ rounds + length all → more < x.patience → Leads script (at (stage.Try 0 rounds true)) (joined all) (at (stage.Try 0 more true))
  run_unclean l e [] rounds more h is few = let same : rounds ≡ more = omega (arith, is) in ap (λ (z : ℕ). at (stage.Try 0 z true)) same
  run_unclean l e (round ∷ all) rounds more h is few =
      let parts = and_parts (is_round (length x.clean) round) (list_all (is_round (length x.clean)) all) h in
      leads_on script (at (stage.Try 0 rounds true)) (at (stage.Try 0 (rounds + 1) true)) (at (stage.Try 0 more true)) round (joined all)
      (one_round l round rounds (rounds + 1) parts.0 (inr (e, refl, omega (arith, is, few)))) (run_unclean l e all (rounds + 1) more parts.1 (omega (arith, is)) few)

  -- all tries
  record Arrives (c : ℕ) (found : List ℕ) (t : Tried x.clean x.patience c found) : Type 0 where
    rounds : ℕ
    counted : has_clean x.clean ≡ false → rounds ≡ length t.rounds
    leads : Leads script (at (stage.Try 0 0 true)) found (at (stage.Try c rounds (list_all is_abandoned t.part)))

  arrives : (c : ℕ) (found : List ℕ) (t : Tried x.clean x.patience c found) → Arrives c found t
  arrives c found t = by_any (has_clean x.clean) refl
    where
      then_part : (rounds : ℕ) → Leads script (at (stage.Try 0 0 true)) (joined t.rounds) (at (stage.Try 0 rounds true))
          → Leads script (at (stage.Try 0 0 true)) found (at (stage.Try c rounds (list_all is_abandoned t.part)))
      then_part rounds h =
          let size = t.at in
          subst (λ (l : List ℕ). Leads script (at (stage.Try 0 0 true)) l (at (stage.Try c rounds (list_all is_abandoned t.part)))) (sym t.is)
          (leads_on script (at (stage.Try 0 0 true)) (at (stage.Try 0 rounds true)) (at (stage.Try c rounds (list_all is_abandoned t.part))) (joined t.rounds) t.part h
          (run_part t.part 0 rounds c true (list_all is_abandoned t.part) t.taken (omega (arith, size)) t.there refl))

      some : 0 < length x.clean
      some = let l = t.there in omega (arith, l)

      by_any : (b : Bool) → has_clean x.clean ≡ b → Arrives c found t
      by_any true e = record { rounds = 0; counted = λ f. absurd (cc); leads = then_part 0 (run_clean some e t.rounds 0 t.whole) }
      by_any false e = record {
        rounds = length t.rounds;
        counted = λ f. refl;
        leads = then_part (length t.rounds) (run_unclean some e t.rounds 0 (length t.rounds) t.whole (omega arith) (t.in_time e));
      }

  -- the block
  run_fills : (n : ℕ) (fills : List ℕ) (c i : ℕ) → i + length fills + 1 ≡ length x.block → Leads script (at (stage.Fill c i)) (n ∷ fills) (at (stage.Send c))
  run_fills n [] c i e =
      let end = eq-eqb (i + 1) (length x.block) (omega (arith, e)) in
      before (stage.Fill c i) (stage.Send c) n [] (at (stage.Send c)) (ap (λ (b : Bool). goes_on x (cond b (stage.Send c) (stage.Fill c (i + 1)))) end) refl
  run_fills n (m ∷ fills) c i e =
      let inside : eqb (i + 1) (length x.block) ≡ false = grind (arith, nat_tests, e) in
      before (stage.Fill c i) (stage.Fill c (i + 1)) n (m ∷ fills) (at (stage.Send c))
      (ap (λ (b : Bool). goes_on x (cond b (stage.Send c) (stage.Fill c (i + 1)))) inside) (run_fills m fills c (i + 1) (omega (arith, e)))

  all_fills : 0 < length x.block → (fills : List ℕ) (c : ℕ) → length fills ≡ length x.block → Leads script (at (stage.Fill c 0)) fills (at (stage.Send c))
  all_fills l [] c e = absurd (omega (arith, l, e))
  all_fills l (n ∷ fills) c e = run_fills n fills c 0 (omega (arith, e))

  run_filled : 0 < length x.block → (c : ℕ) (found : List ℕ) → Filled x.clean x.patience c (length x.block) found → Leads script (at (stage.Try 0 0 true)) found (at (stage.Send c))
  run_filled l c found h =
      let a = arrives c h.tries h.tried in
      let all = list_all is_abandoned h.tried.part in
      let first : thread_after script (at (stage.Try c a.rounds all)) (Value 1) ≡ goes_on x (stage.Fill c 0) = refl in
      subst (λ (l : List ℕ). Leads script (at (stage.Try 0 0 true)) l (at (stage.Send c))) (sym h.is)
      (leads_on script (at (stage.Try 0 0 true)) (at (stage.Try c a.rounds all)) (at (stage.Send c)) h.tries (1 ∷ h.fills) a.leads
      (before (stage.Try c a.rounds all) (stage.Fill c 0) 1 h.fills (at (stage.Send c)) first (all_fills l h.fills c h.many)))

  -- the loads of the state
  abbrev waited_by : ℕ → ℕ → Bool → Bool → Bool → ThreadNext
  waited_by c loads here clean last =
      goes_on x (cond here (stage.Fetch c []) (cond clean (stage.Wait c loads) (cond last (stage.Abandon c) (stage.Wait c (loads + 1)))))

  waited_next : (c loads n : ℕ) (clean last : Bool) → eqb n 4 ≡ false → get_or x.clean c true ≡ clean → eqb (loads + 1) x.patience ≡ last
      → thread_after script (at (stage.Wait c loads)) (Value n) ≡ waited_by c loads false clean last
  waited_next c loads n clean last e f g =
      ap (λ (b : Bool). waited_by c loads b (get_or x.clean c true) (eqb (loads + 1) x.patience)) e
      ∙ (ap (λ (b : Bool). waited_by c loads false b (eqb (loads + 1) x.patience)) f
      ∙ ap (λ (b : Bool). waited_by c loads false clean b) g)

  waits_clean : (c loads : ℕ) → get_or x.clean c true ≡ true → (values : List ℕ) → list_all is_waiting values ≡ true
      → Leads script (at (stage.Wait c loads)) values (at (stage.Wait c loads))
  waits_clean c loads e [] h = refl
  waits_clean c loads e (n ∷ values) h =
      let parts = and_parts (is_waiting n) (list_all is_waiting values) h in
      before (stage.Wait c loads) (stage.Wait c loads) n values (at (stage.Wait c loads))
      (waited_next c loads n true (eqb (loads + 1) x.patience) (not-true (eqb n 4) parts.0) e refl) (waits_clean c loads e values parts.1)

  waits_unclean : (c : ℕ) → get_or x.clean c true ≡ false → (values : List ℕ) (loads more : ℕ) → list_all is_waiting values ≡ true → more ≡ loads + length values
      → more < x.patience → Leads script (at (stage.Wait c loads)) values (at (stage.Wait c more))
  waits_unclean c e [] loads more h is few = let same : loads ≡ more = omega (arith, is) in ap (λ (z : ℕ). at (stage.Wait c z)) same
  waits_unclean c e (n ∷ values) loads more h is few =
      let parts = and_parts (is_waiting n) (list_all is_waiting values) h in
      let inside : eqb (loads + 1) x.patience ≡ false = grind (arith, nat_tests, is, few) in
      before (stage.Wait c loads) (stage.Wait c (loads + 1)) n values (at (stage.Wait c more))
      (waited_next c loads n false false (not-true (eqb n 4) parts.0) e inside) (waits_unclean c e values (loads + 1) more parts.1 (omega (arith, is)) few)

  waits_out : (c : ℕ) → get_or x.clean c true ≡ false → (n : ℕ) (values : List ℕ) (loads : ℕ) → list_all is_waiting (n ∷ values) ≡ true
      → loads + length values + 1 ≡ x.patience → Leads script (at (stage.Wait c loads)) (n ∷ values) (at (stage.Abandon c))
  waits_out c e n [] loads h is =
      let parts = and_parts (is_waiting n) true h in
      let end = eq-eqb (loads + 1) x.patience (omega (arith, is)) in
      before (stage.Wait c loads) (stage.Abandon c) n [] (at (stage.Abandon c)) (waited_next c loads n false true (not-true (eqb n 4) parts.0) e end) refl
  waits_out c e n (m ∷ values) loads h is =
      let parts = and_parts (is_waiting n) (list_all is_waiting (m ∷ values)) h in
      let inside : eqb (loads + 1) x.patience ≡ false = grind (arith, nat_tests, is) in
      before (stage.Wait c loads) (stage.Wait c (loads + 1)) n (m ∷ values) (at (stage.Abandon c))
      (waited_next c loads n false false (not-true (eqb n 4) parts.0) e inside) (waits_out c e m values (loads + 1) parts.1 (omega (arith, is)))

  -- the exchange that hands the block over found 2
  sent : (c : ℕ) → thread_after script (at (stage.Send c)) (Value 2) ≡ goes_on x (stage.Wait c 0)
  sent c = refl

  -- up to the first load, and then those that found no reply
  run_waited : 0 < length x.block → (c : ℕ) (values found : List ℕ) (y : ThreadAt) → Waited x.clean x.patience (length x.block) c values found
      → Leads script (at (stage.Wait c 0)) values y → Leads script (at (stage.Try 0 0 true)) found y
  run_waited l c values found y h k =
      subst (λ (l : List ℕ). Leads script (at (stage.Try 0 0 true)) l y) (sym h.is)
      (leads_on script (at (stage.Try 0 0 true)) (at (stage.Send c)) y h.before (2 ∷ values) (run_filled l c h.before h.filled)
      (before (stage.Send c) (stage.Wait c 0) 2 values y (sent c) k))

  -- the words of the reply
  run_words : (n : ℕ) (words : List ℕ) (c : ℕ) (ended_calls : List ℕ) → length ended_calls + length words + 1 ≡ 12
      → Leads script (at (stage.Fetch c ended_calls)) (n ∷ words) (at (stage.Free c (ended_calls ++ n ∷ words)))
  run_words n [] c ended_calls e =
      let size = length_snoc ended_calls n in
      let end = eq-eqb (length (ended_calls ++ n ∷ [])) 12 (omega (arith, e, size)) in
      before (stage.Fetch c ended_calls) (stage.Free c (ended_calls ++ n ∷ [])) n [] (at (stage.Free c (ended_calls ++ n ∷ [])))
      (ap (λ (b : Bool). goes_on x (cond b (stage.Free c (ended_calls ++ n ∷ [])) (stage.Fetch c (ended_calls ++ n ∷ [])))) end) refl
  run_words n (m ∷ words) c ended_calls e =
      let size = length_snoc ended_calls n in
      let inside : eqb (length (ended_calls ++ n ∷ [])) 12 ≡ false = grind (arith, nat_tests, e, size) in
      let rest = run_words m words c (ended_calls ++ n ∷ []) (omega (arith, e, size)) in
      before (stage.Fetch c ended_calls) (stage.Fetch c (ended_calls ++ n ∷ [])) n (m ∷ words) (at (stage.Free c (ended_calls ++ n ∷ m ∷ words)))
      (ap (λ (b : Bool). goes_on x (cond b (stage.Free c (ended_calls ++ n ∷ [])) (stage.Fetch c (ended_calls ++ n ∷ [])))) inside)
      (subst (λ (l : List ℕ). Leads script (at (stage.Fetch c (ended_calls ++ n ∷ []))) (m ∷ words) (at (stage.Free c l))) (append_assoc ended_calls (n ∷ []) (m ∷ words)) rest)

  all_words : (words : List ℕ) (c : ℕ) → length words ≡ 12 → Leads script (at (stage.Fetch c [])) words (at (stage.Free c words))
  all_words [] c e = absurd (omega (arith, e))
  all_words (n ∷ words) c e = run_words n words c [] (omega (arith, e))

  run_fetched : 0 < length x.block → 0 < x.patience → (c : ℕ) (words found : List ℕ) → Fetched x.clean x.patience (length x.block) c words found → length words ≡ 12
      → Leads script (at (stage.Try 0 0 true)) found (at (stage.Free c words))
  run_fetched l patient c words found h size =
      subst (λ (l : List ℕ). Leads script (at (stage.Try 0 0 true)) l (at (stage.Free c words))) (sym h.is) (by_clean (get_or x.clean c true) refl)
    where
      -- from the load that found the reply on
      rest : (loads : ℕ) → Leads script (at (stage.Wait c loads)) (4 ∷ words) (at (stage.Free c words))
      rest loads = before (stage.Wait c loads) (stage.Fetch c []) 4 words (at (stage.Free c words)) refl (all_words words c size)

      joined_by : (loads : ℕ) → Leads script (at (stage.Wait c 0)) h.loads (at (stage.Wait c loads)) → Leads script (at (stage.Try 0 0 true)) (h.before ++ 4 ∷ words) (at (stage.Free c words))
      joined_by loads k =
          leads_on script (at (stage.Try 0 0 true)) (at (stage.Wait c loads)) (at (stage.Free c words)) h.before (4 ∷ words)
          (run_waited l c h.loads h.before (at (stage.Wait c loads)) h.waited k) (rest loads)

      by_clean : (b : Bool) → get_or x.clean c true ≡ b → Leads script (at (stage.Try 0 0 true)) (h.before ++ 4 ∷ words) (at (stage.Free c words))
      by_clean true e = joined_by 0 (waits_clean c 0 e h.loads h.waited.none)
      by_clean false e = joined_by (length h.loads) (waits_unclean c e h.loads 0 (length h.loads) h.waited.none (omega arith) (h.in_time e))

  -- each result
  module _ (found : List ℕ) (last : ℕ) (h : NoneFree x.clean x.patience found last) where
    abbrev all : Bool
    all = list_all is_abandoned h.tried.part

    last_try : (rounds : ℕ) → thread_after script (at (stage.Try h.channel rounds all)) (Value last) ≡ tried_by h.channel rounds all false true (all && eqb last 5)
    last_try rounds = tried_next h.channel rounds last all false true (not-true (eqb last 1) h.taken) (eq-eqb (h.channel + 1) (length x.clean) h.end)

    by_cause : (rounds : ℕ) (b any end : Bool) → (b ≡ true) ⊎ ((any ≡ false) × (end ≡ true)) → (whole_round h.channel rounds all b any end).ended ≡ Some (ended.Call result.NoChannel)
    by_cause rounds true any end e = refl
    by_cause rounds false any end (inl e) = absurd (cc)
    by_cause rounds false any end (inr e) =
        ap (λ (c : Bool). (whole_round h.channel rounds all false c end).ended) e.0 ∙ ap (λ (c : Bool). (whole_round h.channel rounds all false false c).ended) e.1

    why_last : (rounds : ℕ) → (has_clean x.clean ≡ false → rounds ≡ length h.tried.rounds)
        → (list_all is_abandoned (h.tried.part ++ last ∷ []) ≡ true) ⊎ ((has_clean x.clean ≡ false) × (length h.tried.rounds + 1 ≡ x.patience))
        → ((all && eqb last 5) ≡ true) ⊎ ((has_clean x.clean ≡ false) × (eqb (rounds + 1) x.patience ≡ true))
    why_last rounds counted (inl e) = inl (sym (all_snoc is_abandoned h.tried.part last) ∙ e)
    why_last rounds counted (inr e) =
        let t = counted e.0 in
        let u = e.1 in
        inr (e.0, eq-eqb (rounds + 1) x.patience (omega (arith, t, u)))

    no_channel : Ends script (at (stage.Try 0 0 true)) found last (ended.Call result.NoChannel)
    no_channel =
        let a = arrives h.channel found h.tried in
        stops script (at (stage.Try 0 0 true)) (at (stage.Try h.channel a.rounds all)) found last (ended.Call result.NoChannel) a.leads
        (ap (λ (z : ThreadNext). z.ended) (last_try a.rounds)
        ∙ by_cause a.rounds (all && eqb last 5) (has_clean x.clean) (eqb (a.rounds + 1) x.patience) (why_last a.rounds a.counted h.why))

  timed_out : 0 < length x.block → 0 < x.patience → (c : ℕ) (found values : List ℕ) (last : ℕ) → Waited x.clean x.patience (length x.block) c values found → get_or x.clean c true ≡ false
      → length values ≡ x.patience → Ends script (at (stage.Try 0 0 true)) found last (ended.Call (result.TimedOut c))
  timed_out l patient c found [] last h e size = absurd (omega (arith, patient, size))
  timed_out l patient c found (n ∷ values) last h e size =
      stops script (at (stage.Try 0 0 true)) (at (stage.Abandon c)) found last (ended.Call (result.TimedOut c))
      (run_waited l c (n ∷ values) found (at (stage.Abandon c)) h (waits_out c e n values 0 h.none (omega (arith, size)))) refl

  replied : (c : ℕ) (words : List ℕ) (last : ℕ) (q : CallResult) → reply_by c (mark_at x.thread x.place) (read_reply words) ≡ q
      → (thread_after script (at (stage.Free c words)) (Value last)).ended ≡ Some (ended.Call q)
  replied c words last q e = ap (λ (z : CallResult). Some (ended.Call z)) e

  by_result : 0 < length x.block → 0 < x.patience → (found : List ℕ) (last : ℕ) (q : CallResult) → Cause x found last q → Ends script (at (stage.Try 0 0 true)) found last (ended.Call q)
  by_result l patient found last (result.Reply c reply) (words, h, size, e, own) =
      let same = eq-eqb (read_reply words).mark (mark_at x.thread x.place) (ap (λ z. z.mark) (sym e) ∙ own) in
      stops script (at (stage.Try 0 0 true)) (at (stage.Free c words)) found last (ended.Call (result.Reply c reply)) (run_fetched l patient c words found h size)
      (replied c words last (result.Reply c reply)
      (ap (λ (b : Bool). cond b (result.Reply c (read_reply words)) (result.Foreign c (read_reply words).mark)) same ∙ ap (λ z. result.Reply c z) (sym e)))
  by_result l patient found last result.NoChannel h = no_channel found last h
  by_result l patient found last (result.SendLost c n) (h, e, other) =
      let f : eqb last 2 ≡ false = grind (arith, nat_tests, e, other) in
      stops script (at (stage.Try 0 0 true)) (at (stage.Send c)) found last (ended.Call (result.SendLost c n)) (run_filled l c found h)
      (ap (λ (b : Bool). (cond b (goes_on x (stage.Wait c 0)) (ends script (at (stage.Send c)) (ended.Call (result.SendLost c last)))).ended) f
      ∙ ap (λ (z : ℕ). Some (ended.Call (result.SendLost c z))) e)
  by_result l patient found last (result.Foreign c other) (words, h, size, e, differs) =
      let f : eqb (read_reply words).mark (mark_at x.thread x.place) ≡ false = grind (arith, nat_tests, e, differs) in
      stops script (at (stage.Try 0 0 true)) (at (stage.Free c words)) found last (ended.Call (result.Foreign c other)) (run_fetched l patient c words found h size)
      (replied c words last (result.Foreign c other)
      (ap (λ (b : Bool). cond b (result.Reply c (read_reply words)) (result.Foreign c (read_reply words).mark)) f ∙ ap (λ (z : ℕ). result.Foreign c z) (sym e)))
  by_result l patient found last (result.TimedOut c) (values, h, e, size) = timed_out l patient c found values last h e size

pub causes_end_calls : CausesEndCalls
causes_end_calls script x found last q b h =
    subst (λ (z : ThreadAt). Ends script z found last (ended.Call q)) (same_stage x (stage.Try 0 0 true) b.stage) (by_result script x b.block b.patient found last q h)
