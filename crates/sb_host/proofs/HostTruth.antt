-- A worker is true to what its host has told.
use Rattle.std.specs.Prelude.{is_some, option_map, unwrap_or, nat_le, nat_lt}
use Rattle.std.proofs.Common.{◌≡◌, ◌∙◌, ℕ, zero, suc, ◌+◌, ◌-◌, ◌≤◌, Bool, true, false, ◌==◌, List, [], ◌∷◌, ◌++◌, length, Option, None, Some, refl, sym, ap, subst, arith}
use Rattle.std.proofs.lemmas.Bool.{false≢true}
use Rattle.std.proofs.lemmas.Bool.Decides.{nat_tests}
use Rattle.std.proofs.lemmas.List.{append_assoc, append-nil, length-append}
use Rattle.sb_call.specs.declared.replies.Answer.{Answer as HostAnswer}
use Rattle.sb_block.specs.Copies.{Copied, copied, is_end, mark_of}
use Rattle.sb_block.specs.Packing.{offset_of}
use Rattle.sb_block.specs.Replies.{reply_words}
use Rattle.sb_rule.specs.declared.policies.Policy.{Policy}
use Rattle.sb_book.specs.Decisions.{decision_of}
use Rattle.sb_book.specs.Replies.{performed_reply}
use Rattle.sb_book.specs.declared.decisions.Decision.{Decision}
use Rattle.sb_book.specs.declared.decisions.Decision.TheVariants.{Refused, Denied, Faked, Performed}
use Rattle.sb_actor.specs.Acts.{ready, turn_in, value_in}
use Rattle.sb_actor.specs.Observations.{Observation, Done, Value}
use Rattle.sb_actor.specs.WorkerStages.{WorkerAt, WorkerStage, Look, Count, End, Copy, Take, Answer, Give, Reply, Ack}
use Rattle.sb_host.specs.HostWorkers.{HostAt, after_answer_to, after_dones, after_performing_on, after_step, after_values, copy_to_answer, host_adopt, host_start, replied}
use Rattle.sb_host.specs.Replies.{HostsReplyAsBooks, host_reply}
use Rattle.sb_host.specs.HostLaws.{AdoptingHostsAreTrue, AnswerWith, DecideBy, Found, HostCall, Hosted, IsTrueTo, Journal, Loaded, NewHostsAreTrue, PerformingIsAnswering, Stored, Told, hosted_after, hosted_by, no_journal, with_words}

-- a worker is true to what was told
abbrev IsTrue : Hosted → Type 0
IsTrue x = IsTrueTo x.host.worker.stage x.host.decision x.journal

-- a worker of its parts
abbrev hosted : WorkerAt → ℕ → WorkerStage → Option Decision → Journal → Hosted
hosted w n stage decision j = record { host = record { worker = record w { stage = stage }; taken_over = n; decision = decision }; journal = j }

-- it stays so after a call
abbrev Keeps : WorkerAt → ℕ → WorkerStage → Option Decision → Journal → HostCall → Type 0
Keeps w n stage decision j call = IsTrueTo stage decision j → IsTrue (hosted_after (hosted w n stage decision j) call)

-- after what a step found
found : (w : WorkerAt) (n : ℕ) (stage : WorkerStage) (decision : Option Decision) (j : Journal) (seen : Observation) → nat_lt n w.channels ≡ false
    → Keeps w n stage decision j (Found seen)
found w n Look decision j seen e h = by (value_in seen == ready) refl
  where
    by : (b : Bool) → (value_in seen == ready) ≡ b → IsTrue (hosted_after (hosted w n Look decision j) (Found seen))
    by true t = rw (e, t) h
    by false t = rw (e, t) h
found w n Count decision j seen e h = by (nat_lt 9 (value_in seen)) refl
  where
    by : (b : Bool) → nat_lt 9 (value_in seen) ≡ b → IsTrue (hosted_after (hosted w n Count decision j) (Found seen))
    by true t = rw (e, t) (h.0, sym h.1)
    by false t = rw (e, t) h
found w n (End count) decision j seen e h = by (is_end count (offset_of (value_in seen))) refl
  where
    by : (b : Bool) → is_end count (offset_of (value_in seen)) ≡ b → IsTrue (hosted_after (hosted w n (End count) decision j) (Found seen))
    by true t = rw (e, t) (h.0, sym h.1)
    by false t = rw (e, t) (h.0, sym h.1)
found w n (Copy count end words) decision j seen e h = by (length (words ++ value_in seen ∷ []) == end) refl
  where
    by : (b : Bool) → (length (words ++ value_in seen ∷ []) == end) ≡ b → IsTrue (hosted_after (hosted w n (Copy count end words) decision j) (Found seen))
    by true t = rw (e, t) (h.0, ap (λ l. l ++ value_in seen ∷ []) h.1)
    by false t = rw (e, t) (h.0, ap (λ l. l ++ value_in seen ∷ []) h.1)
found w n (Take copy) decision j seen e h = by (turn_in seen) refl
  where
    by : (b : Bool) → turn_in seen ≡ b → IsTrue (hosted_after (hosted w n (Take copy) decision j) (Found seen))
    by true t = rw (e, t) (h.1, h.0.0 ∙ ap (option_map (λ policy. decision_of policy copy)) (sym h.0.1))
    by false t = rw (e, t) h
found w n (Answer copy) decision j seen e h = rw (e) h
found w n (Give copy reply) decision j seen e h = rw (e) h
found w n (Reply copy reply i) decision j seen e h = by (i == 11) refl
  where
    by : (b : Bool) → (i == 11) ≡ b → IsTrue (hosted_after (hosted w n (Reply copy reply i) decision j) (Found seen))
    by true t = rw (e, t) h
    by false t = rw (e, t) h
found w n (Ack copy reply) decision j seen e h = rw (e) h.0

-- a host of its parts
abbrev host : WorkerAt → ℕ → WorkerStage → Option Decision → HostAt
host w n stage decision = record { worker = record w { stage = stage }; taken_over = n; decision = decision }

abbrev IsTrueAt : HostAt → Journal → Type 0
IsTrueAt h j = IsTrue (record { host = h; journal = j })

no_more : (end copied after left : ℕ) → after ≡ copied + 1 → (after == end) ≡ true → suc (suc left) ≤ end - copied → ⊥
no_more end copied after left more e h = grind (arith, nat_tests, more, e, h)

one_less : (end copied after left : ℕ) → after ≡ copied + 1 → suc left ≤ end - copied → left ≤ end - after
one_less end copied after left more h = omega (arith, more, h)

-- one load, which leads to a copy that is whole or not
abbrev copied_as : Bool → ℕ → ℕ → List ℕ → WorkerStage
copied_as true count end words = Take (copied count end words)
copied_as false count end words = Copy count end words

one_load : (b : Bool) (w : WorkerAt) (n count end : ℕ) (decision : Option Decision) (words : List ℕ) (value : ℕ) → nat_lt n w.channels ≡ false
    → (length (words ++ value ∷ []) == end) ≡ b
    → after_step (host w n (Copy count end words) decision) (Value value) ≡ host w n (copied_as b count end (words ++ value ∷ [])) decision
one_load true w n count end decision words value e s = rw (e, s) refl
one_load false w n count end decision words value e s = rw (e, s) refl

-- and one store, of the last word or not
abbrev stored_as : Bool → Copied → List ℕ → ℕ → WorkerStage
stored_as true copy reply i = Ack copy reply
stored_as false copy reply i = Reply copy reply (i + 1)

one_store : (b : Bool) (w : WorkerAt) (n : ℕ) (copy : Copied) (reply : List ℕ) (i : ℕ) (decision : Option Decision) → nat_lt n w.channels ≡ false
    → (i == 11) ≡ b → after_step (host w n (Reply copy reply i) decision) Done ≡ host w n (stored_as b copy reply i) decision
one_store true w n copy reply i decision e s = rw (e, s) refl
one_store false w n copy reply i decision e s = rw (e, s) refl

-- after loads of as many words as are left, or fewer
loads : (w : WorkerAt) (n count end : ℕ) (decision : Option Decision) (values words : List ℕ) (j : Journal) → nat_lt n w.channels ≡ false
    → length values ≤ end - length words → IsTrueTo (Copy count end words) decision j
    → IsTrueAt (after_values (host w n (Copy count end words) decision) values) (with_words j values)
loads w n count end decision [] words j e few h = (h.0, h.1 ∙ sym (append-nil j.words))
loads w n count end decision (value ∷ values) words j e few h =
    by (length (words ++ value ∷ []) == end) refl
    (λ fewer. loads w n count end decision values (words ++ value ∷ []) (with_words j (value ∷ [])) e fewer (h.0, ap (λ l. l ++ value ∷ []) h.1))
  where
    more : length (words ++ value ∷ []) ≡ length words + 1
    more = length-append words (value ∷ [])

    -- with the last word there are no more values
    ended : (values : List ℕ) → (length (words ++ value ∷ []) == end) ≡ true → suc (length values) ≤ end - length words
        → IsTrueAt (after_values (host w n (Copy count end words) decision) (value ∷ values)) (with_words j (value ∷ values))
    ended [] s few =
        subst (λ x. IsTrueAt x (with_words j (value ∷ []))) (sym (one_load true w n count end decision words value e s)) (h.0, ap (λ l. l ++ value ∷ []) h.1)
    ended (v ∷ values) s few = absurd (no_more end (length words) (length (words ++ value ∷ [])) (length values) more s few)

    by : (b : Bool) → (length (words ++ value ∷ []) == end) ≡ b
        → (length values ≤ end - length (words ++ value ∷ [])
        → IsTrueAt (after_values (host w n (Copy count end (words ++ value ∷ [])) decision) values) (with_words (with_words j (value ∷ [])) values))
        → IsTrueAt (after_values (host w n (Copy count end words) decision) (value ∷ values)) (with_words j (value ∷ values))
    by true s again = ended values s few
    by false s again =
        subst (λ x. IsTrueAt (after_values x values) (with_words j (value ∷ values))) (sym (one_load false w n count end decision words value e s))
        (subst (λ l. IsTrueAt (after_values (host w n (Copy count end (words ++ value ∷ [])) decision) values) (record j { words = l }))
        (append_assoc j.words (value ∷ []) values)
        (again (one_less end (length words) (length (words ++ value ∷ [])) (length values) more few)))

loaded : (w : WorkerAt) (n : ℕ) (stage : WorkerStage) (decision : Option Decision) (j : Journal) (values : List ℕ) → nat_lt n w.channels ≡ false
    → Keeps w n stage decision j (Loaded values)
loaded w n Look decision j values e h = rw (e) h
loaded w n Count decision j values e h = rw (e) h
loaded w n (End count) decision j values e h = rw (e) h
loaded w n (Copy count end words) decision j values e h = by (nat_le (length values) (end - length words)) refl
  where
    by : (b : Bool) → nat_le (length values) (end - length words) ≡ b → IsTrue (hosted_after (hosted w n (Copy count end words) decision j) (Loaded values))
    by true t = rw (e, t) (loads w n count end decision values words j e (grind (arith, nat_tests, t)) h)
    by false t = rw (e, t) h
loaded w n (Take copy) decision j values e h = rw (e) h
loaded w n (Answer copy) decision j values e h = rw (e) h
loaded w n (Give copy reply) decision j values e h = rw (e) h
loaded w n (Reply copy reply i) decision j values e h = rw (e) h
loaded w n (Ack copy reply) decision j values e h = rw (e) h

no_more_stores : (i left : ℕ) → (i == 11) ≡ true → suc (suc left) ≤ 12 - i → ⊥
no_more_stores i left e h = grind (arith, nat_tests, e, h)

one_store_less : (i left : ℕ) → suc left ≤ 12 - i → left ≤ 12 - (i + 1)
one_store_less i left h = omega (arith, h)

-- after stores of as many words as are left, or fewer
stores : (w : WorkerAt) (n : ℕ) (copy : Copied) (reply : List ℕ) (count i : ℕ) (decision : Option Decision) (j : Journal) → nat_lt n w.channels ≡ false
    → count ≤ 12 - i → IsTrueTo (Reply copy reply i) decision j → IsTrueAt (after_dones (host w n (Reply copy reply i) decision) count) j
stores w n copy reply zero i decision j e few h = h
stores w n copy reply (suc count) i decision j e few h =
    by (i == 11) refl (λ fewer. stores w n copy reply count (i + 1) decision j e fewer h)
  where
    ended : (count : ℕ) → (i == 11) ≡ true → suc count ≤ 12 - i → IsTrueAt (after_dones (host w n (Reply copy reply i) decision) (suc count)) j
    ended zero s few = subst (λ x. IsTrueAt x j) (sym (one_store true w n copy reply i decision e s)) h
    ended (suc count) s few = absurd (no_more_stores i count s few)

    by : (b : Bool) → (i == 11) ≡ b → (count ≤ 12 - (i + 1) → IsTrueAt (after_dones (host w n (Reply copy reply (i + 1)) decision) count) j)
        → IsTrueAt (after_dones (host w n (Reply copy reply i) decision) (suc count)) j
    by true s again = ended count s few
    by false s again =
        subst (λ x. IsTrueAt (after_dones x count) j) (sym (one_store false w n copy reply i decision e s)) (again (one_store_less i count few))

stored : (w : WorkerAt) (n : ℕ) (stage : WorkerStage) (decision : Option Decision) (j : Journal) (count : ℕ) → nat_lt n w.channels ≡ false
    → Keeps w n stage decision j (Stored count)
stored w n Look decision j count e h = rw (e) h
stored w n Count decision j count e h = rw (e) h
stored w n (End c) decision j count e h = rw (e) h
stored w n (Copy c end words) decision j count e h = rw (e) h
stored w n (Take copy) decision j count e h = rw (e) h
stored w n (Answer copy) decision j count e h = rw (e) h
stored w n (Give copy reply) decision j count e h = rw (e) h
stored w n (Reply copy reply i) decision j count e h = by (nat_le count (12 - i)) refl
  where
    by : (b : Bool) → nat_le count (12 - i) ≡ b → IsTrue (hosted_after (hosted w n (Reply copy reply i) decision j) (Stored count))
    by true t = rw (e, t) (stores w n copy reply count i decision j e (grind (arith, nat_tests, t)) h)
    by false t = rw (e, t) h
stored w n (Ack copy reply) decision j count e h = rw (e) h

decided : (w : WorkerAt) (n : ℕ) (stage : WorkerStage) (decision : Option Decision) (j : Journal) (policy : Policy) → nat_lt n w.channels ≡ false
    → Keeps w n stage decision j (DecideBy policy)
decided w n Look None j policy e h = rw (e) h
decided w n Look (Some d) j policy e h = rw (e) h
decided w n Count None j policy e h = rw (e) h
decided w n Count (Some d) j policy e h = rw (e) h
decided w n (End count) None j policy e h = rw (e) h
decided w n (End count) (Some d) j policy e h = rw (e) h
decided w n (Copy count end words) None j policy e h = rw (e) h
decided w n (Copy count end words) (Some d) j policy e h = rw (e) h
decided w n (Take copy) None j policy e h = rw (e) h
decided w n (Take copy) (Some d) j policy e h = rw (e) h
decided w n (Answer copy) None j policy e h = rw (e) (h.0, refl)
decided w n (Answer copy) (Some d) j policy e h = rw (e) h
decided w n (Give copy reply) None j policy e h = rw (e) h
decided w n (Give copy reply) (Some d) j policy e h = rw (e) h
decided w n (Reply copy reply i) None j policy e h = rw (e) h
decided w n (Reply copy reply i) (Some d) j policy e h = rw (e) h
decided w n (Ack copy reply) None j policy e h = rw (e) h
decided w n (Ack copy reply) (Some d) j policy e h = rw (e) h

-- what a copy was answered by
abbrev told_of : List ℕ → Policy → HostAnswer → Told
told_of words policy answer = record { words = words; policy = policy; answer = answer }

answered : (w : WorkerAt) (n : ℕ) (stage : WorkerStage) (decision : Option Decision) (j : Journal) (answer : HostAnswer) → nat_lt n w.channels ≡ false
    → Keeps w n stage decision j (AnswerWith answer)
answered w n Look decision j answer e h = rw (e) h
answered w n Count decision j answer e h = rw (e) h
answered w n (End count) decision j answer e h = rw (e) h
answered w n (Copy count end words) decision j answer e h = rw (e) h
answered w n (Take copy) decision j answer e h = rw (e) h
answered w n (Answer copy) None j answer e h = rw (e) h
answered w n (Answer copy) (Some d) j answer e h = by j.policy refl
  where
    by : (policy : Option Policy) → j.policy ≡ policy → IsTrue (hosted_after (hosted w n (Answer copy) (Some d) j) (AnswerWith answer))
    by None p = absurd (false≢true (ap is_some (sym (h.1 ∙ ap (option_map (λ policy. decision_of policy copy)) p))))
    by (Some policy) p =
        let is : d ≡ decision_of policy copy = ap (λ o. unwrap_or o d) (h.1 ∙ ap (option_map (λ policy. decision_of policy copy)) p) in
        rw (e, p) (
          ((refl, refl), refl),
          record {
            told = told_of j.words policy answer;
            last = refl;
            words = h.0;
            reply_words = ap (λ d. reply_words (host_reply (mark_of copy) d answer)) is;
          },
        )
answered w n (Give copy reply) decision j answer e h = rw (e) h
answered w n (Reply copy reply i) decision j answer e h = rw (e) h
answered w n (Ack copy reply) decision j answer e h = rw (e) h

-- while it takes over channels no call changes what matters
taking : (w : WorkerAt) (n : ℕ) (stage : WorkerStage) (decision : Option Decision) (j : Journal) (call : HostCall) → nat_lt n w.channels ≡ true
    → Keeps w n stage decision j call
taking w n stage decision j (Found seen) e h = rw (e) h
taking w n stage decision j (Loaded values) e h = rw (e) h
taking w n stage decision j (Stored count) e h = rw (e) h
taking w n stage None j (DecideBy policy) e h = rw (e) h
taking w n stage (Some d) j (DecideBy policy) e h = rw (e) h
taking w n stage decision j (AnswerWith answer) e h = rw (e) h

kept : (w : WorkerAt) (n : ℕ) (stage : WorkerStage) (decision : Option Decision) (j : Journal) (call : HostCall) → Keeps w n stage decision j call
kept w n stage decision j call h = by (nat_lt n w.channels) refl call
  where
    by : (t : Bool) → nat_lt n w.channels ≡ t → (call : HostCall) → IsTrue (hosted_after (hosted w n stage decision j) call)
    by true e call = taking w n stage decision j call e h
    by false e (Found seen) = found w n stage decision j seen e h
    by false e (Loaded values) = loaded w n stage decision j values e h
    by false e (Stored count) = stored w n stage decision j count e h
    by false e (DecideBy policy) = decided w n stage decision j policy e h
    by false e (AnswerWith answer) = answered w n stage decision j answer e h

-- after any calls
all_kept : (calls : List HostCall) (x : Hosted) → IsTrue x → IsTrue (hosted_by x calls)
all_kept [] x h = h
all_kept (call ∷ calls) x h =
    all_kept calls (hosted_after x call) (kept x.host.worker x.host.taken_over x.host.worker.stage x.host.decision x.journal call h)

-- from a worker that is true to what was told
pub after_all : (start : Hosted) → IsTrueTo start.host.worker.stage start.host.decision start.journal → (calls : List HostCall) (x : Hosted)
    → x ≡ hosted_by start calls → IsTrueTo x.host.worker.stage x.host.decision x.journal
after_all start h calls x e = subst (λ x. IsTrue x) (sym e) (all_kept calls start h)

pub new_hosts : NewHostsAreTrue
new_hosts channels calls x e = after_all (record { host = host_start channels; journal = no_journal }) ((refl, refl), refl) calls x e

pub adopting_hosts : AdoptingHostsAreTrue
adopting_hosts channels calls x e = after_all (record { host = host_adopt channels; journal = no_journal }) ((refl, refl), refl) calls x e

pub as_books : HostsReplyAsBooks
as_books ns target mark (Refused f) answer h = refl
as_books ns target mark (Denied tag verdict) answer h = refl
as_books ns target mark (Faked tag line) answer h = refl
as_books ns target mark (Performed tag line action args) answer h = ap (performed_reply mark) h

pub performing : PerformingIsAnswering
performing h ns target d answer e is = by (copy_to_answer h)
  where
    by : (o : Option Copied) → after_performing_on h ns target o h.decision ≡ after_answer_to h answer o h.decision
    by None = refl
    by (Some copy) = rw (e) (ap (replied h) (sym (as_books ns target (mark_of copy) d answer is)))
