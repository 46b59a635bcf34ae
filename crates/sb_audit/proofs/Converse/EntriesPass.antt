-- No clause fails at the line of an entry of a report that fits.
use Rattle.std.proofs.Common.{◌≡◌, ◌∙◌, ℕ, ◌+◌, ◌/◌, ◌%◌, ◌<◌, zero, suc, Bool, true, false, not, cond, eqb, ltb, leb, ◌&&◌, ◌||◌, List, [], ◌∷◌, ◌++◌, map, length, None, Some, slice_get, slice_index, filter, option_map, refl, ap, sym, subst, append_assoc, arith, length-append}
use Rattle.std.proofs.lemmas.Bool.{and_from, and_parts, eq-eqb, eqb-true, le-leb, lt-ltb, ltb-true}
use Rattle.std.proofs.lemmas.List.{length-map}
use Rattle.std.proofs.lemmas.Option.{get_or_from_slice_get, slice_get-map}
use Rattle.std.specs.List.{list_all}
use Rattle.sb_actor.specs.Moves as moves
use Rattle.sb_actor.specs.Places.{clean_channels, mark_at, statement_at}
use Rattle.sb_block.specs.Blocks.{block}
use Rattle.sb_block.specs.Copies.{mark_of, whole}
use Rattle.sb_block.specs.Laws.{FaultlessCopiesFit}
use Rattle.sb_book.specs.Decisions.{decision_of}
use Rattle.sb_book.specs.Histories.{IsEntry, IsLegalFrom, setting_of, space_after}
use Rattle.sb_book.specs.declared.entries.Entry.{Entry}
use Rattle.sb_core.specs.Fits.{OwnReplies, ResultsSuit, is_entry_of}
use Rattle.sb_kernel.specs.Namespaces.{Space}
use Rattle.sb_kernel.specs.Openings.{opening}
use Rattle.sb_transcript.specs.Printed.{shown_decision, shown_entry, shown_reply}
use Rattle.sb_transcript.specs.declared.read_lines.EntryLine.{EntryLine}
use Rattle.sb_transcript.specs.declared.read_lines.Line.{Line}
use Rattle.sb_transcript.specs.declared.read_lines.Line.TheVariants as line
use Rattle.sb_rule.specs.Verdicts.{DecidingRuleIsFirst, policy_at}
use Rattle.sb_rule.specs.declared.policies.Policy.{Policy}
use Rattle.sb_statements.specs.Scripts.{is_clean}
use Rattle.sb_statements.specs.Soundness.{channels_of, is_sound}
use Rattle.sb_statements.specs.declared.results.StmtResult.{StmtResult}
use Rattle.sb_statements.specs.declared.scripts.Script.{Script}
use Rattle.sb_statements.specs.declared.scripts.TargetScript.{TargetScript}
use Rattle.sb_statements.specs.declared.statements.Statement.TheVariants as statement
use Rattle.sb_transcript.specs.EntryLines.{target_name}
use Rattle.sb_audit.specs.Audited.{clause_at, decision_clause, entry_clause, failing, policy_of}
use Rattle.sb_audit.specs.Before as before_lines
use Rattle.sb_audit.specs.Before.{entries_of, entry_count, has_totals, performed_of, result_count, space_with, target_of}
use Rattle.sb_audit.specs.Clauses.{has_channel, is_above, is_decided, is_due, is_number, is_of_call, is_of_thread, is_on_clean, is_own, is_target, place_of, reply_due, shows_rule, thread_of}
use Rattle.sb_audit.specs.Comparing.{same_reply}
use Rattle.sb_audit.specs.Dues.{due_after, due_call, due_channel, due_reply, due_rule}
use Rattle.sb_audit.specs.declared.dues.Due.TheVariants as due
use Rattle.sb_audit.proofs.Converse.Decided.{decision_same, decision_shown, reply_same, reply_shown, space_shown}
use Rattle.sb_audit.proofs.Converse.Lists.{AllOf, AllOf-append, Rises, at_seam, rising_before}
use Rattle.sb_audit.proofs.Converse.Own.{IsReplyTo, entries_rise, entry_replies, mark_of_entry}
use Rattle.sb_audit.proofs.Converse.Places.{clean_at, statement_there, target_named}
use Rattle.sb_audit.proofs.Converse.ShownLines.{shown_entries}
use Rattle.sb_audit.proofs.Converse.Walking.{IsBefore, IsClear, before_entries, entries_of-append}

-- ---- the place of an entry

-- the target and the channel of an entry are there
pub record IsPlaced (script : Script) (e : Entry) : Type 0 where
  pub target : TargetScript
  pub is_target : slice_get script.targets e.target ≡ Some target
  pub channel : e.channel < target.channels

element_there : {A : Type 0} (xs : List A) (n : ℕ) → n < length xs → (x : A) × (slice_get xs n ≡ Some x)
element_there [] n l = absurd (omega arith)
element_there (x ∷ xs) zero l = (x, refl)
element_there (x ∷ xs) (suc n) l = element_there xs n (omega arith)

pub entry_placed : (policies : List Policy) (script : Script) (ns : Space) (e : Entry) → IsEntry (setting_of policies script) ns e → IsPlaced script e
entry_placed policies script ns e is =
    let targets = script.targets in
    let w = element_there targets e.target (omega (arith, is.target_there, length-map targets (λ (target : TargetScript). policy_at policies target.policy))) in
    let f = λ (target : TargetScript). target.channels in
    let many : slice_index (map f targets) e.target ≡ w.0.channels =
    get_or_from_slice_get (map f targets) e.target w.0.channels 0 (slice_get-map f targets e.target ∙ ap (option_map f) w.1) in
    record { target = w.0; is_target = w.1; channel = omega (arith, is.channel_there, many) }

pub placed_channel : (script : Script) (e : Entry) → IsPlaced script e → e.channel < channels_of (slice_get script.targets e.target)
placed_channel script e p =
    let many : channels_of (slice_get script.targets e.target) ≡ p.target.channels = ap channels_of p.is_target in
    omega (arith, p.channel, many)

-- ---- 5. own

-- the script's and the line's words for a thread's entry on a clean channel
of_thread : (script : Script) (t k th n : ℕ) (d : Entry) → is_sound script ≡ true → IsPlaced script d → th ≡ k → is_of_thread script t th (shown_entry script n d) ≡ true
    → (is_entry_of script t k d ≡ true) × (mark_of d.taken / 65536 ≡ k + 1)
of_thread script t k th n d sound p same h =
    let parts = and_parts (is_on_clean script t (shown_entry script n d)) (eqb (mark_of d.taken / 65536) (th + 1)) h in
    let clean = and_parts (is_target script t (target_name script d.target)) (is_clean script t d.channel) parts.0 in
    let named : target_of script (target_name script d.target) ≡ Some d.target = target_named script d.target p.target sound p.is_target in
    let target : d.target ≡ t = eqb-true d.target t (ap (is_number t) (sym named) ∙ clean.0) in
    let mark : mark_of d.taken / 65536 ≡ k + 1 = eqb-true (mark_of d.taken / 65536) (th + 1) parts.1 ∙ ap (λ j. j + 1) same in
    let channel : d.channel < channels_of (slice_get script.targets t) = subst (λ j. d.channel < channels_of (slice_get script.targets j)) target (placed_channel script d p) in
    let on_clean : moves.is_clean (clean_channels script t) d.channel ≡ true = clean_at script t d.channel false channel ∙ clean.1 in (
      and_from (eqb d.target t) (moves.is_clean (clean_channels script t) d.channel && eqb (mark_of d.taken / 65536) (k + 1)) (eq-eqb d.target t target)
          (and_from (moves.is_clean (clean_channels script t) d.channel) (eqb (mark_of d.taken / 65536) (k + 1)) on_clean (eq-eqb (mark_of d.taken / 65536) (k + 1) mark)),
      mark,
    )

one_above : (script : Script) (t k th n m : ℕ) (d : Entry) → is_sound script ≡ true → IsPlaced script d → th ≡ k → m / 65536 ≡ k + 1
    → (not (is_entry_of script t k d) || ltb (mark_of_entry d) m) ≡ true
    → (not (is_of_thread script t th (shown_entry script n d)) || ltb (place_of (mark_of d.taken)) (place_of m)) ≡ true
one_above script t k th n m d sound p same mine h = by (is_of_thread script t th (shown_entry script n d)) refl
  where
    by : (b : Bool) → is_of_thread script t th (shown_entry script n d) ≡ b → (not b || ltb (place_of (mark_of d.taken)) (place_of m)) ≡ true
    by true e =
        let w = of_thread script t k th n d sound p same e in
        let less : ltb (mark_of d.taken) m ≡ true = ap (λ b. not b || ltb (mark_of_entry d) m) (sym w.0) ∙ h in
        let below : mark_of d.taken < m = ltb-true (mark_of d.taken) m less in
        lt-ltb (mark_of d.taken % 65536) (m % 65536) (omega (arith, w.1))
    by false e = refl

all_above : (script : Script) (t k th n m : ℕ) (done : List Entry) → is_sound script ≡ true → AllOf (IsPlaced script) done → th ≡ k → m / 65536 ≡ k + 1
    → list_all (λ d. not (is_entry_of script t k d) || ltb (mark_of_entry d) m) done ≡ true
    → is_above script (shown_entries script n done) t th (place_of m) ≡ true
all_above script t k th n m [] sound p same mine h = refl
all_above script t k th n m (d ∷ done) sound p same mine h =
    let parts = and_parts (not (is_entry_of script t k d) || ltb (mark_of_entry d) m) (list_all (λ d. not (is_entry_of script t k d) || ltb (mark_of_entry d) m) done) h in
    and_from (not (is_of_thread script t th (shown_entry script n d)) || ltb (place_of (mark_of d.taken)) (place_of m))
    (is_above script (shown_entries script (n + 1) done) t th (place_of m))
    (one_above script t k th n m d sound p.0 same mine parts.0) (all_above script t k th (n + 1) m done sound p.1 same mine parts.1)

-- the decision is that on the block of its call
decided : (policy : Policy) (script : Script) (results : List (List (List StmtResult))) (t k m : ℕ) (e : Entry) (r : IsReplyTo script results t k e)
    → e.decision ≡ decision_of policy e.taken → mark_of e.taken ≡ mark_at k r.place
    → is_decided policy (mark_of e.taken) (shown_decision e.decision) (Some (statement.Call r.tag r.args)) ≡ true
decided policy script results t k m e r by_policy mark =
    decision_same (shown_decision e.decision) (shown_decision (decision_of policy (whole (block r.tag r.args (mark_of e.taken)))))
    (ap shown_decision by_policy ∙ ap (λ c. shown_decision (decision_of policy c)) r.taken_is
    ∙ ap (λ j. shown_decision (decision_of policy (whole (block r.tag r.args j)))) (sym mark))

own_on_clean : (policy : Policy) (script : Script) (entries : List Entry) (results : List (List (List StmtResult))) → is_sound script ≡ true
    → OwnReplies script entries results → ResultsSuit script results → (done : List Entry) (e : Entry) (rest : List Entry) → done ++ e ∷ rest ≡ entries
    → AllOf (IsPlaced script) done → IsPlaced script e → e.decision ≡ decision_of policy e.taken → is_clean script e.target e.channel ≡ true → (n : ℕ)
    → (is_of_call policy script e.target (shown_entry script n e)
    && is_above script (shown_entries script 0 done) e.target (thread_of (mark_of e.taken)) (place_of (mark_of e.taken))) ≡ true
own_on_clean policy script entries results sound replies suit done e rest seam placed p by_policy clean n =
    let t = e.target in
    let m = mark_of e.taken in
    let at : slice_get entries (length done) ≡ Some e = subst (λ (l : List Entry). slice_get l (length done) ≡ Some e) seam (at_seam done e rest) in
    let on_clean : moves.is_clean (clean_channels script t) e.channel ≡ true = clean_at script t e.channel false (placed_channel script e p) ∙ clean in
    let thread = replies.others (length done) e at on_clean in
    let k = thread.0 in
    let mine : m / 65536 ≡ k + 1 = thread.2 in
    let of_entry : is_entry_of script t k e ≡ true =
    and_from (eqb e.target t) (moves.is_clean (clean_channels script t) e.channel && eqb (m / 65536) (k + 1)) (eq-eqb e.target t refl)
    (and_from (moves.is_clean (clean_channels script t) e.channel) (eqb (m / 65536) (k + 1)) on_clean (eq-eqb (m / 65536) (k + 1) mine)) in
    let r = entry_replies script entries results replies suit t k thread.1 (length done) e at of_entry in
    let mark : m ≡ mark_at k r.place = ap mark_of r.taken_is in
    let there = statement_there script t k r.place (statement.Call r.tag r.args) sound r.statement_is in
    let low = there.place in
    let thread_is : thread_of m ≡ k = omega arith in
    let place_is : place_of m ≡ r.place = omega arith in
    let statement_is : statement_at script t (thread_of m) (place_of m) ≡ Some (statement.Call r.tag r.args) =
    ap (λ j. statement_at script t j (place_of m)) thread_is ∙ ap (statement_at script t k) place_is ∙ r.statement_is in
    let is_high : leb 65536 m ≡ true = le-leb 65536 m (omega arith) in
    let right : is_decided policy m (shown_decision e.decision) (statement_at script t (thread_of m) (place_of m)) ≡ true =
    ap (is_decided policy m (shown_decision e.decision)) statement_is ∙ decided policy script results t k m e r by_policy mark in
    let rising = subst (λ (l : List Entry). Rises (mark_at k 0) (map mark_of_entry (filter (is_entry_of script t k) l))) (sym seam)
    (entries_rise script entries results replies suit t k thread.1) in
    let above = rising_before (is_entry_of script t k) mark_of_entry (mark_at k 0) done e rest of_entry rising in
    and_from (is_of_call policy script t (shown_entry script n e)) (is_above script (shown_entries script 0 done) t (thread_of m) (place_of m))
    (and_from (leb 65536 m) (is_decided policy m (shown_decision e.decision) (statement_at script t (thread_of m) (place_of m))) is_high right)
    (all_above script t k (thread_of m) 0 m done sound placed thread_is mine above.1)

own_shown : (policy : Policy) (script : Script) (entries : List Entry) (results : List (List (List StmtResult))) → is_sound script ≡ true
    → OwnReplies script entries results → ResultsSuit script results → (done : List Entry) (e : Entry) (rest : List Entry) → done ++ e ∷ rest ≡ entries
    → AllOf (IsPlaced script) done → IsPlaced script e → e.decision ≡ decision_of policy e.taken → (n : ℕ)
    → is_own policy script (shown_entries script 0 done) e.target (shown_entry script n e) ≡ true
own_shown policy script entries results sound replies suit done e rest seam placed p by_policy n = by (is_clean script e.target e.channel) refl
  where
    by : (b : Bool) → is_clean script e.target e.channel ≡ b
        → (not b || (is_of_call policy script e.target (shown_entry script n e)
        && is_above script (shown_entries script 0 done) e.target (thread_of (mark_of e.taken)) (place_of (mark_of e.taken)))) ≡ true
    by true f = own_on_clean policy script entries results sound replies suit done e rest seam placed p by_policy f n
    by false f = refl

-- ---- the line of an entry

-- what an audit asks of the line of an entry, one by one
pub record IsRightEntry (policy : Policy) (script : Script) (before : List Line) (t : ℕ) (s : EntryLine) : Type 0 where
  pub named : target_of script s.target ≡ Some t
  pub channel : has_channel script t s.channel ≡ true
  pub rule : shows_rule policy s.decision ≡ true
  pub reply : same_reply s.reply (reply_due (before_lines.space_after script before) t s.decision) ≡ true
  pub own : is_own policy script (entries_of before) t s ≡ true

right_entry : (policies : List Policy) (script : Script) (before : List Line) (t : ℕ) (s : EntryLine) → IsRightEntry (policy_of policies script t) script before t s
    → clause_at policies script before (line.Entry s) ≡ None
right_entry policies script before t s r =
    let policy = policy_of policies script t in
    let space = before_lines.space_after script before in
    let es = entries_of before in
    let wanted = reply_due space t s.decision in
    let own = Some (due.Own (due_call policy script t s)) in
    let reply = Some (due.Reply (due_reply s.reply wanted)) in
    ap (entry_clause policies script space es s) r.named
    ∙ ap (λ b. cond b (decision_clause policy script space es t s) (Some (due.Place (due_channel script t)))) r.channel
    ∙ ap (λ b. cond (not b) (Some (due.Rule (due_rule policy s.decision))) (cond (not (same_reply s.reply wanted)) reply (cond (not (is_own policy script es t s)) own None))) r.rule
    ∙ ap (λ b. cond (not b) reply (cond (not (is_own policy script es t s)) own None)) r.reply
    ∙ ap (λ b. cond (not b) own None) r.own

entry_due : (script : Script) (before : List Line) (es : List EntryLine) (s : EntryLine) → IsBefore before es 0 → s.number ≡ length es → is_due script before (line.Entry s) ≡ true
entry_due script before es s b e =
    let many : entry_count before ≡ length es = ap (λ (l : List EntryLine). length l) b.entries_are in
    and_from (not (has_totals before) && eqb (result_count before) 0) (eqb s.number (entry_count before))
    (and_from (not (has_totals before)) (eqb (result_count before) 0) (ap not b.no_totals) (eq-eqb (result_count before) 0 b.results_are))
    (eq-eqb s.number (entry_count before) (e ∙ sym many))

pub passes : (policies : List Policy) (script : Script) (before : List Line) (l : Line) → is_due script before l ≡ true → clause_at policies script before l ≡ None
    → failing policies script before l ≡ None
passes policies script before l here right = ap (λ b. cond b (clause_at policies script before l) (Some (due_after script before))) here ∙ right

-- ---- all entries

pub length-shown : (script : Script) (n : ℕ) (es : List Entry) → length (shown_entries script n es) ≡ length es
length-shown script n [] = refl
length-shown script n (e ∷ es) = ap suc (length-shown script (n + 1) es)

shown_push : (script : Script) (n m : ℕ) (done : List Entry) (e : Entry) → n + length done ≡ m
    → shown_entries script n (done ++ e ∷ []) ≡ shown_entries script n done ++ shown_entry script m e ∷ []
shown_push script n m [] e h = ap (λ k. shown_entry script k e ∷ []) (omega arith)
shown_push script n m (d ∷ done) e h = ap (λ l. shown_entry script n d ∷ l) (shown_push script (n + 1) m done e (omega arith))

space_push : (script : Script) (ns : Space) (es : List EntryLine) (s : EntryLine)
    → before_lines.space_from script ns (es ++ s ∷ []) ≡ space_with (before_lines.space_from script ns es) (target_of script s.target) (performed_of s.decision)
space_push script ns [] s = refl
space_push script ns (e ∷ es) s = space_push script (space_with ns (target_of script e.target) (performed_of e.decision)) es s

space_on : (script : Script) (before : List Line) (ns : Space) (n : ℕ) (e : Entry) → target_of script (target_name script e.target) ≡ Some e.target
    → before_lines.space_after script before ≡ ns
    → before_lines.space_after script (before ++ line.Entry (shown_entry script n e) ∷ []) ≡ space_after ns e.target e.decision
space_on script before ns n e named same =
    let s = shown_entry script n e in
    ap (before_lines.space_from script (opening script.start)) (entries_of-append before (line.Entry s ∷ []))
    ∙ space_push script (opening script.start) (entries_of before) s
    ∙ ap (λ o. space_with (before_lines.space_after script before) o (performed_of s.decision)) named
    ∙ ap (λ z. space_with z (Some e.target) (performed_of s.decision)) same
    ∙ space_shown ns e.target e.decision

-- what all entries share: the laws that were cited, and what fits
pub record IsCommon (script : Script) (entries : List Entry) (results : List (List (List StmtResult))) : Type 0 where
  pub sound : is_sound script ≡ true
  pub fitting : FaultlessCopiesFit
  pub deciding : DecidingRuleIsFirst
  pub replies : OwnReplies script entries results
  pub suit : ResultsSuit script results

one_entry : (policies : List Policy) (script : Script) (entries : List Entry) (results : List (List (List StmtResult))) → IsCommon script entries results
    → (done : List Entry) (e : Entry) (rest : List Entry) (before : List Line) (ns : Space) → done ++ e ∷ rest ≡ entries → AllOf (IsPlaced script) done
    → IsPlaced script e → IsEntry (setting_of policies script) ns e → IsBefore before (shown_entries script 0 done) 0 → before_lines.space_after script before ≡ ns
    → failing policies script before (line.Entry (shown_entry script (length done) e)) ≡ None
one_entry policies script entries results c done e rest before ns seam placed p is b space =
    let s = shown_entry script (length done) e in
    let policy = policy_of policies script e.target in
    let replied : shown_reply e.reply ≡ reply_due (before_lines.space_after script before) e.target (shown_decision e.decision) =
    ap shown_reply is.replied ∙ reply_shown ns e.target (mark_of e.taken) e.decision ∙ ap (λ z. reply_due z e.target (shown_decision e.decision)) (sym space) in
    let ruled : shows_rule policy (shown_decision e.decision) ≡ true =
    ap (λ d. shows_rule policy (shown_decision d)) is.decided ∙ decision_shown c.fitting c.deciding policy e.taken in
    let own : is_own policy script (entries_of before) e.target s ≡ true =
    ap (λ (l : List EntryLine). is_own policy script l e.target s) b.entries_are
    ∙ own_shown policy script entries results c.sound c.replies c.suit done e rest seam placed p is.decided (length done) in
    passes policies script before (line.Entry s) (entry_due script before (shown_entries script 0 done) s b (sym (length-shown script 0 done)))
    (right_entry policies script before e.target s (record {
      named = target_named script e.target p.target c.sound p.is_target;
      channel = lt-ltb e.channel (channels_of (slice_get script.targets e.target)) (placed_channel script e p);
      rule = ruled;
      reply = reply_same (shown_reply e.reply) (reply_due (before_lines.space_after script before) e.target (shown_decision e.decision)) replied;
      own = own;
    }))

pub entries_pass : (policies : List Policy) (script : Script) (entries : List Entry) (results : List (List (List StmtResult))) → IsCommon script entries results
    → (done rest : List Entry) (before : List Line) (ns : Space) → done ++ rest ≡ entries → AllOf (IsPlaced script) done
    → IsLegalFrom (setting_of policies script) ns rest → IsBefore before (shown_entries script 0 done) 0 → before_lines.space_after script before ≡ ns
    → IsClear policies script before (map line.Entry (shown_entries script (length done) rest))
entries_pass policies script entries results c done [] before ns seam placed legal b space = tt
entries_pass policies script entries results c done (e ∷ rest) before ns seam placed legal b space =
    let s = shown_entry script (length done) e in
    let p = entry_placed policies script ns e legal.0 in
    let longer : length (done ++ e ∷ []) ≡ length done + 1 = length-append done (e ∷ []) in
    let pushed : shown_entries script 0 (done ++ e ∷ []) ≡ shown_entries script 0 done ++ s ∷ [] = shown_push script 0 (length done) done e (omega arith) in
    let after = subst (λ (l : List EntryLine). IsBefore (before ++ line.Entry s ∷ []) l 0) (sym pushed) (before_entries before (shown_entries script 0 done) (s ∷ []) 0 b) in
    let more = entries_pass policies script entries results c (done ++ e ∷ []) rest (before ++ line.Entry s ∷ []) (space_after ns e.target e.decision)
    (append_assoc done (e ∷ []) rest ∙ seam) (AllOf-append (IsPlaced script) done (e ∷ []) placed (p, tt)) legal.1 after
    (space_on script before ns (length done) e (target_named script e.target p.target c.sound p.is_target) space) in (
      one_entry policies script entries results c done e rest before ns seam placed p legal.0 b space,
      subst (λ n. IsClear policies script (before ++ line.Entry s ∷ []) (map line.Entry (shown_entries script n rest))) longer more,
    )
