-- What is kept of the lines before says what the clauses ask of them.
use Rattle.std.proofs.Common.{◌≡◌, refl, sym, subst, ap, ◌∙◌, ◌<◌, ℕ, ◌+◌, ◌*◌, List, [], ◌∷◌, ◌++◌, Bool, true, false, not, ◌&&◌, ◌||◌, length, get_or, length-append, nat_lt, if◌then◌else◌, arith}
use Rattle.std.proofs.lemmas.Bool.Decides.{nat_tests}
use Rattle.std.proofs.lemmas.List.Folds.{list_any-append}
use Rattle.std.proofs.lemmas.List.Sums.{sum_by-append, sum_by-cons}
use Rattle.std.specs.Prelude.{Option, None, Some, IfSome, is_some, cond, nat_le}
use Rattle.std.specs.List.{count_by, list_any}
use Rattle.sb_actor.specs.Found.{AreFound, IsFound}
use Rattle.sb_actor.specs.Places.{mark_at, statement_at}
use Rattle.sb_kernel.specs.Namespaces.{Space}
use Rattle.sb_kernel.specs.Openings.{opening}
use Rattle.sb_rule.specs.declared.policies.Policy.{Policy}
use Rattle.sb_statements.specs.Limits.{most_statements}
use Rattle.sb_statements.specs.Scripts.{is_clean}
use Rattle.sb_statements.specs.declared.scripts.Script.{Script}
use Rattle.sb_statements.specs.declared.statements.Statement.{Statement}
use Rattle.sb_transcript.specs.declared.read_lines.EntryLine.{EntryLine}
use Rattle.sb_transcript.specs.declared.read_lines.ResultLine.{ResultLine}
use Rattle.sb_transcript.specs.declared.read_lines.TotalsLine.{TotalsLine}
use Rattle.sb_transcript.specs.declared.read_lines.Line.{Line}
use Rattle.sb_transcript.specs.declared.read_lines.Line.TheVariants as line
use Rattle.sb_transcript.specs.declared.read_lines.ShownResult.{ShownResult}
use Rattle.sb_transcript.specs.declared.read_lines.ShownResult.TheVariants.{NoChannel}
use Rattle.sb_audit.specs.Audited.{clause_at, decision_clause, entry_clause, failing, policy_of, result_clause, result_due}
use Rattle.sb_audit.specs.Before.{entries_of, has_totals, is_result, is_totals, performed_of, result_count, space_after, space_from, space_with, target_of}
use Rattle.sb_audit.specs.Clauses.{answers_call, count_of, fits_entries, has_channel, has_entry, is_answered, is_denied, is_due, is_due_after, is_faked, is_fitting, is_of_call, is_own, is_performed, is_refused, needs_entry, place_of, reply_due, same_totals, shows_rule, suits, thread_of}
use Rattle.sb_audit.specs.Comparing.{same_reply}
use Rattle.sb_audit.specs.Dues.{due_after, due_call, due_channel, due_form, due_reply, due_result, due_rule}
use Rattle.sb_audit.specs.Kept.{EntryFollows, Follows, KeptAt, Keeps, after_result, after_totals, clause_kept, decision_kept, due_kept, entry_kept, failing_kept, is_fitting_kept, is_own_kept, no_totals, one_if, result_due_kept, result_kept, suits_slot, with_entry, with_result}
use Rattle.sb_audit.specs.Rows.{KeepsRows, fits_slot, has_slot, row_at, slot_at}
use Rattle.sb_audit.specs.declared.dues.Due.{Due}
use Rattle.sb_audit.specs.declared.dues.Due.TheVariants as due
use Rattle.sb_audit.specs.declared.slots.OwnReply.{OwnReply}
use Rattle.sb_audit.proofs.RowSteps.{rows_follow}

-- ---- the clauses, as they look at what is kept

-- by the namespace before an entry, and by whether it is its own
abbrev decision_by : Policy → Script → ℕ → EntryLine → Space → Bool → Option Due
decision_by policy script target e space own =
    if not (shows_rule policy e.decision) then Some (due.Rule (due_rule policy e.decision))
    else (if not (same_reply e.reply (reply_due space target e.decision)) then Some (due.Reply (due_reply e.reply (reply_due space target e.decision)))
    else (if not own then Some (due.Own (due_call policy script target e))
    else None))

-- what is no call's reply fits no entry that answers it
none_answers : (script : Script) (target mark : ℕ) (es : List EntryLine) → fits_entries script es target mark NoChannel ≡ not (is_answered script es target mark)
none_answers script target mark [] = refl
none_answers script target mark (e ∷ es) =
    by_answer (answers_call script target mark e) (fits_entries script es target mark NoChannel) (is_answered script es target mark) (none_answers script target mark es)
  where
    by_answer : (a f more : Bool) → f ≡ not more → ((not a || false) && f) ≡ not (a || more)
    by_answer true f more h = refl
    by_answer false f more h = h

-- a thread has fewer statements than marks
small : (place : ℕ) → place < most_statements → place < 65536
small place l = omega arith

module _ (policies : List Policy) (script : Script) (before : List Line) (kept : KeptAt) (keeps : Keeps script before kept) where
  own_is : (policy : Policy) (target : ℕ) (e : EntryLine) → is_own_kept policy script kept.rows target e ≡ is_own policy script (entries_of before) target e
  own_is policy target e =
      ap (λ b. not (is_clean script target e.channel) || (is_of_call policy script target e && b)) (sym (keeps.rows.above target (thread_of e.mark) (place_of e.mark)))

  decision_is : (policy : Policy) (target : ℕ) (e : EntryLine)
      → decision_kept policy script kept target e ≡ decision_clause policy script (space_after script before) (entries_of before) target e
  decision_is policy target e =
      ap (λ space. decision_by policy script target e space (is_own_kept policy script kept.rows target e)) keeps.space
      ∙ ap (decision_by policy script target e (space_after script before)) (own_is policy target e)

  entry_is : (e : EntryLine) (named : Option ℕ) → entry_kept policies script kept e named ≡ entry_clause policies script (space_after script before) (entries_of before) e named
  entry_is e None = refl
  entry_is e (Some target) =
      ap (λ clause. if has_channel script target e.channel then clause else Some (due.Place (due_channel script target))) (decision_is (policy_of policies script target) target e)

  slot_is : (target : ℕ) (r : ShownResult) (slot : Option OwnReply) → ((not (needs_entry script target r) || has_slot r slot) && fits_slot r slot) ≡ suits_slot script target r slot
  slot_is target r None = by_test (needs_entry script target r)
    where
      by_test : (b : Bool) → ((not b || false) && true) ≡ not b
      by_test true = refl
      by_test false = refl
  slot_is target r (Some own) = by_tests (not (needs_entry script target r)) (has_slot r (Some own))
    where
      by_tests : (a b : Bool) → ((a || b) && b) ≡ b
      by_tests true true = refl
      by_tests true false = refl
      by_tests false true = refl
      by_tests false false = refl

  fitting_is : AreFound script → (target : ℕ) (r : ResultLine)
      → is_fitting_kept script kept.rows target r ≡ is_fitting script (entries_of before) target r
  fitting_is found target r = by_statement (statement_at script target r.thread r.place) (found.each target r.thread r.place)
    where
      mark : ℕ
      mark = mark_at r.thread r.place

      by_statement : (s : Option Statement) → IfSome s (λ x. IsFound script.targets target r.thread r.place x)
          → (suits script target (mark_at r.thread r.place) r.result s && suits_slot script target r.result (slot_at kept.rows target r.thread r.place))
          ≡ (suits script target (mark_at r.thread r.place) r.result s
          && (not (needs_entry script target r.result) || has_entry script (entries_of before) target (mark_at r.thread r.place) r.result)
          && fits_entries script (entries_of before) target (mark_at r.thread r.place) r.result)
      by_statement None h = no_statement r.result
        where
          no_statement : (shown : ShownResult) → (suits script target (mark_at r.thread r.place) shown None && suits_slot script target r.result (slot_at kept.rows target r.thread r.place))
              ≡ (suits script target (mark_at r.thread r.place) shown None
              && (not (needs_entry script target r.result) || has_entry script (entries_of before) target (mark_at r.thread r.place) r.result)
              && fits_entries script (entries_of before) target (mark_at r.thread r.place) r.result)
          no_statement shown = refl
      by_statement (Some s) h =
          joined (suits script target (mark_at r.thread r.place) r.result (Some s)) (not (needs_entry script target r.result))
          (has_entry script (entries_of before) target (mark_at r.thread r.place) r.result) (has_slot r.result (slot_at kept.rows target r.thread r.place))
          (fits_entries script (entries_of before) target (mark_at r.thread r.place) r.result) (fits_slot r.result (slot_at kept.rows target r.thread r.place))
          (suits_slot script target r.result (slot_at kept.rows target r.thread r.place))
          (keeps.rows.has target r.thread r.place r.result (small r.place h.at_place)) (keeps.rows.fits target r.thread r.place r.result (small r.place h.at_place))
          (slot_is target r.result (slot_at kept.rows target r.thread r.place))
        where
          joined : (s n h h' f f' x : Bool) → h ≡ h' → f ≡ f' → ((n || h') && f') ≡ x → (s && x) ≡ (s && (n || h) && f)
          joined true n h h' f f' x a b c = sym c ∙ (ap (λ y. (n || y) && f') (sym a) ∙ ap (λ y. (n || h) && y) (sym b))
          joined false n h h' f f' x a b c = refl

  -- a call is answered if there is a kept reply to it
  answered_is : (target thread place : ℕ) → place < 65536
      → is_some (slot_at kept.rows target thread place) ≡ is_answered script (entries_of before) target (mark_at thread place)
  answered_is target thread place small =
      by_slot (slot_at kept.rows target thread place) (is_answered script (entries_of before) target (mark_at thread place))
      (sym (none_answers script target (mark_at thread place) (entries_of before)) ∙ keeps.rows.fits target thread place NoChannel small)
    where
      by_slot : (slot : Option OwnReply) (answered : Bool) → not answered ≡ fits_slot NoChannel slot → is_some slot ≡ answered
      by_slot None true h = h
      by_slot None false h = refl
      by_slot (Some own) true h = refl
      by_slot (Some own) false h = h

  result_due_is : AreFound script → (target : ℕ) (r : ResultLine)
      → due.Result (result_due_kept script kept.rows target r) ≡ result_due script (entries_of before) target r
  result_due_is found target r = by_statement (statement_at script target r.thread r.place) (found.each target r.thread r.place)
    where
      by_statement : (s : Option Statement) → IfSome s (λ x. IsFound script.targets target r.thread r.place x)
          → due.Result (due_result script (is_some (slot_at kept.rows target r.thread r.place)) target (mark_at r.thread r.place) r.result s)
          ≡ due.Result (due_result script (is_answered script (entries_of before) target (mark_at r.thread r.place)) target (mark_at r.thread r.place) r.result s)
      by_statement None h = refl
      by_statement (Some s) h =
          ap (λ answered. due.Result (due_result script answered target (mark_at r.thread r.place) r.result (Some s))) (answered_is target r.thread r.place (small r.place h.at_place))

  result_is : AreFound script → (r : ResultLine) (named : Option ℕ)
      → result_kept script kept.rows r named ≡ result_clause script (entries_of before) r named
  result_is found r None = refl
  result_is found r (Some target) =
      ap (λ b. if b then None else Some (due.Result (result_due_kept script kept.rows target r))) (fitting_is found target r)
      ∙ ap (λ d. if is_fitting script (entries_of before) target r then None else Some d) (result_due_is found target r)

  clause_is : AreFound script → (l : Line) → clause_kept policies script kept l ≡ clause_at policies script before l
  clause_is found (line.Entry e) = entry_is e (target_of script e.target)
  clause_is found (line.Result r) = result_is found r (target_of script r.target)
  clause_is found (line.Totals t) = ap (λ totals. if same_totals t totals then None else Some (due.Totals totals)) keeps.totals

  due_is : (l : Line) → is_due_after script kept.ended kept.totals.entries kept.totals.results l ≡ is_due script before l
  due_is l = ap (λ ended. is_due_after script ended kept.totals.entries kept.totals.results l) keeps.ended
      ∙ ap (λ (totals : TotalsLine). is_due_after script (has_totals before) totals.entries totals.results l) keeps.totals

  pub after_is : due_kept script kept ≡ due_after script before
  after_is = ap (λ ended. due.Form (due_form script ended kept.totals.entries kept.totals.results)) keeps.ended
      ∙ ap (λ (totals : TotalsLine). due.Form (due_form script (has_totals before) totals.entries totals.results)) keeps.totals

  pub failing_is : AreFound script → (l : Line) → failing_kept policies script kept l ≡ failing policies script before l
  failing_is found l =
      ap (λ here. if here then clause_kept policies script kept l else Some (due_kept script kept)) (due_is l)
      ∙ (ap (λ clause. if is_due script before l then clause else Some (due_kept script kept)) (clause_is found l)
      ∙ ap (λ after. if is_due script before l then clause_at policies script before l else Some after) after_is)

-- ---- one line more

entry_more : (before : List Line) (e : EntryLine) → entries_of (before ++ line.Entry e ∷ []) ≡ entries_of before ++ e ∷ []
entry_more [] e = refl
entry_more (line.Entry x ∷ before) e = ap (λ es. x ∷ es) (entry_more before e)
entry_more (line.Result x ∷ before) e = entry_more before e
entry_more (line.Totals x ∷ before) e = entry_more before e

result_more : (before : List Line) (r : ResultLine) → entries_of (before ++ line.Result r ∷ []) ≡ entries_of before
result_more [] r = refl
result_more (line.Entry x ∷ before) r = ap (λ es. x ∷ es) (result_more before r)
result_more (line.Result x ∷ before) r = result_more before r
result_more (line.Totals x ∷ before) r = result_more before r

totals_more : (before : List Line) (t : TotalsLine) → entries_of (before ++ line.Totals t ∷ []) ≡ entries_of before
totals_more [] t = refl
totals_more (line.Entry x ∷ before) t = ap (λ es. x ∷ es) (totals_more before t)
totals_more (line.Result x ∷ before) t = totals_more before t
totals_more (line.Totals x ∷ before) t = totals_more before t

space_more : (script : Script) (space : Space) (es : List EntryLine) (e : EntryLine)
    → space_from script space (es ++ e ∷ []) ≡ space_with (space_from script space es) (target_of script e.target) (performed_of e.decision)
space_more script space [] e = refl
space_more script space (x ∷ es) e = space_more script (space_with space (target_of script x.target) (performed_of x.decision)) es e

count_more : {X : Type 0} (p : X → Bool) (xs : List X) (x : X) → count_by p (xs ++ x ∷ []) ≡ count_by p xs + one_if (p x)
count_more p xs x =
    let a : count_by p (xs ++ x ∷ []) ≡ count_by p xs + count_by p (x ∷ []) = sum_by-append (λ y. cond (p y) 1 0) xs (x ∷ []) in
    let b : count_by p (x ∷ []) ≡ cond (p x) 1 0 + count_by p [] = sum_by-cons (λ y. cond (p y) 1 0) x [] in
    let c : cond (p x) 1 0 ≡ one_if (p x) = one (p x) in
    let d : count_by p [] ≡ 0 = refl in
    omega arith
  where
    one : (b : Bool) → cond b 1 0 ≡ one_if b
    one true = refl
    one false = refl

any_more : {X : Type 0} (p : X → Bool) (xs : List X) (x : X) → list_any p (xs ++ x ∷ []) ≡ (list_any p xs || p x)
any_more p xs x = list_any-append p xs (x ∷ []) ∙ ap (λ b. list_any p xs || b) (alone (p x))
  where
    alone : (b : Bool) → (b || false) ≡ b
    alone true = refl
    alone false = refl

or_false : (b : Bool) → (b || false) ≡ b
or_false true = refl
or_false false = refl

or_true : (b : Bool) → (b || true) ≡ true
or_true true = refl
or_true false = refl

-- the totals of some entries, of decisions counted one by one, and of results
abbrev totals_by : List EntryLine → ℕ → TotalsLine
totals_by es results = record {
  entries = length es;
  performed = count_of is_performed es;
  faked = count_of is_faked es;
  denied = count_of is_denied es;
  refused = count_of is_refused es;
  results = results;
}

abbrev totals_with : ℕ → ℕ → ℕ → ℕ → ℕ → ℕ → TotalsLine
totals_with e p f d r s = record { entries = e; performed = p; faked = f; denied = d; refused = r; results = s }

of_six : (e e' p p' f f' d d' r r' s s' : ℕ) → e ≡ e' → p ≡ p' → f ≡ f' → d ≡ d' → r ≡ r' → s ≡ s' → totals_with e p f d r s ≡ totals_with e' p' f' d' r' s'
of_six e e' p p' f f' d d' r r' s s' he hp hf hd hr hs =
    ap (λ x. totals_with x p f d r s) he ∙ (ap (λ x. totals_with e' x f d r s) hp ∙ (ap (λ x. totals_with e' p' x d r s) hf
    ∙ (ap (λ x. totals_with e' p' f' x r s) hd ∙ (ap (λ x. totals_with e' p' f' d' x s) hr ∙ ap (λ x. totals_with e' p' f' d' r' x) hs))))

entry_totals : (es : List EntryLine) (e : EntryLine) (results : ℕ) → totals_by (es ++ e ∷ []) results ≡ with_entry (totals_by es results) e.decision
entry_totals es e results =
    of_six (length (es ++ e ∷ [])) (length es + 1) (count_of is_performed (es ++ e ∷ [])) (count_of is_performed es + one_if (is_performed e.decision))
    (count_of is_faked (es ++ e ∷ [])) (count_of is_faked es + one_if (is_faked e.decision))
    (count_of is_denied (es ++ e ∷ [])) (count_of is_denied es + one_if (is_denied e.decision))
    (count_of is_refused (es ++ e ∷ [])) (count_of is_refused es + one_if (is_refused e.decision)) results results (length-append es (e ∷ []))
    (count_more (λ (x : EntryLine). is_performed x.decision) es e) (count_more (λ (x : EntryLine). is_faked x.decision) es e)
    (count_more (λ (x : EntryLine). is_denied x.decision) es e) (count_more (λ (x : EntryLine). is_refused x.decision) es e) refl

module _ (script : Script) (before : List Line) (old new : KeptAt) (keeps : Keeps script before old) where
  keeps_entry : (e : EntryLine) (target : ℕ) → target_of script e.target ≡ Some target → EntryFollows script target e old new → Keeps script (before ++ line.Entry e ∷ []) new
  keeps_entry e target named follows = record {
    space = follows.space ∙ (ap (λ space. space_with space (Some target) (performed_of e.decision)) keeps.space
        ∙ (ap (λ o. space_with (space_after script before) o (performed_of e.decision)) (sym named)
        ∙ (sym (space_more script (opening script.start) (entries_of before) e) ∙ ap (space_from script (opening script.start)) (sym (entry_more before e)))));
    totals = follows.totals ∙ (ap (λ totals. with_entry totals e.decision) keeps.totals
        ∙ (sym (entry_totals (entries_of before) e (result_count before))
        ∙ (ap (λ es. totals_by es (result_count before)) (sym (entry_more before e)) ∙ ap (totals_by (entries_of (before ++ line.Entry e ∷ []))) (sym same_results))));
    ended = follows.ended ∙ (keeps.ended ∙ sym (any_more is_totals before (line.Entry e) ∙ or_false (has_totals before)));
    rows = subst (λ es. KeepsRows script es new.rows) (sym (entry_more before e))
        (rows_follow script (entries_of before) e target named old.rows new.rows keeps.rows follows.rows);
  }
    where
      same_results : result_count (before ++ line.Entry e ∷ []) ≡ result_count before
      same_results = let c = count_more is_result before (line.Entry e) in omega arith

  keeps_result : (r : ResultLine) → new ≡ after_result old → Keeps script (before ++ line.Result r ∷ []) new
  keeps_result r is = subst (λ kept. Keeps script (before ++ line.Result r ∷ []) kept) (sym is) (record {
    space = keeps.space ∙ ap (space_from script (opening script.start)) (sym (result_more before r));
    totals = ap with_result keeps.totals
        ∙ (ap (λ n. totals_by (entries_of before) n) (sym (count_more is_result before (line.Result r)))
        ∙ ap (λ es. totals_by es (result_count (before ++ line.Result r ∷ []))) (sym (result_more before r)));
    ended = keeps.ended ∙ sym (any_more is_totals before (line.Result r) ∙ or_false (has_totals before));
    rows = subst (λ es. KeepsRows script es old.rows) (sym (result_more before r)) keeps.rows;
  })

  keeps_totals : (t : TotalsLine) → new ≡ after_totals old → Keeps script (before ++ line.Totals t ∷ []) new
  keeps_totals t is = subst (λ kept. Keeps script (before ++ line.Totals t ∷ []) kept) (sym is) (record {
    space = keeps.space ∙ ap (space_from script (opening script.start)) (sym (totals_more before t));
    totals = keeps.totals
        ∙ (ap (λ es. totals_by es (result_count before)) (sym (totals_more before t)) ∙ ap (totals_by (entries_of (before ++ line.Totals t ∷ []))) (sym same_results));
    ended = sym (any_more is_totals before (line.Totals t) ∙ or_true (has_totals before));
    rows = subst (λ es. KeepsRows script es old.rows) (sym (totals_more before t)) keeps.rows;
  })
    where
      same_results : result_count (before ++ line.Totals t ∷ []) ≡ result_count before
      same_results = let c = count_more is_result before (line.Totals t) in omega arith

  pub keeps_next : (policies : List Policy) (l : Line) → failing_kept policies script old l ≡ None → Follows script l old new → Keeps script (before ++ l ∷ []) new
  keeps_next policies (line.Entry e) none follows = by_name (target_of script e.target) refl
    where
      by_due : (here : Bool) (clause : Option Due) → (if here then clause else Some (due_kept script old)) ≡ None → clause ≡ None
      by_due true clause h = h
      by_due false clause h = absurd (cc)

      by_name : (o : Option ℕ) → target_of script e.target ≡ o → Keeps script (before ++ line.Entry e ∷ []) new
      by_name None h =
          let n = by_due (is_due_after script old.ended old.totals.entries old.totals.results (line.Entry e)) (entry_kept policies script old e (target_of script e.target)) none in
          let m : entry_kept policies script old e None ≡ None = subst (λ o. entry_kept policies script old e o ≡ None) h n in
          absurd (cc)
      by_name (Some target) h = keeps_entry e target h (follows target h)
  keeps_next policies (line.Result r) none follows = keeps_result r follows
  keeps_next policies (line.Totals t) none follows = keeps_totals t follows

-- ---- no lines

no_row : (rows : List (List (Option OwnReply))) → ((i : ℕ) → length (get_or rows i []) ≡ 0) → (t k : ℕ) → length (row_at rows t k) ≡ 0
no_row rows h t k = by_test (nat_lt k 4)
  where
    by_test : (b : Bool) → length (if b then get_or rows (t * 4 + k) [] else []) ≡ 0
    by_test true = h (t * 4 + k)
    by_test false = refl

none_at : (row : List (Option OwnReply)) (p : ℕ) → length row ≡ 0 → get_or row p None ≡ None
none_at [] p h = refl
none_at (x ∷ row) p h = absurd (omega arith)

pub starts : (script : Script) (kept : KeptAt) → kept.space ≡ opening script.start → kept.totals ≡ no_totals → kept.ended ≡ false
    → ((i : ℕ) → length (get_or kept.rows i []) ≡ 0) → Keeps script [] kept
starts script kept space totals ended rows = record {
  space = space;
  totals = totals;
  ended = ended;
  rows = record {
    above = λ t k p. let e = no_row kept.rows rows t k in sym (ap (λ n. nat_le n p) e ∙ at_least p);
    has = λ t k p r small. sym (ap (has_slot r) (none_at (row_at kept.rows t k) p (no_row kept.rows rows t k)));
    fits = λ t k p r small. sym (ap (fits_slot r) (none_at (row_at kept.rows t k) p (no_row kept.rows rows t k)));
  };
}
  where
    at_least : (p : ℕ) → nat_le 0 p ≡ true
    at_least p = grind (arith, nat_tests)
