-- How a command ends, by what it comes to and how that is put.
use Rattle.std.proofs.Common.{◌≡◌, ◌∙◌, ◌≤◌, refl, sym, ap, subst, ℕ, ◌⊎◌, inl, inr, List, [], Option, None, Some, true, true≢false, arith}
use Rattle.std.specs.Prelude.{IsOkAnd, IsSome, Result, Ok, Err}
use Rattle.sb_book.specs.declared.reports.Report.{Report}
use Rattle.sb_commands.specs.Commands.{Command}
use Rattle.sb_commands.specs.Usage.{Fault}
use Rattle.sb_message.specs.Statuses.{status_of}
use Rattle.sb_message.specs.declared.statuses.EndStatus.{EndStatus}
use Rattle.sb_message.specs.declared.statuses.EndStatus.TheVariants as end
use Rattle.sb_message.specs.declared.statuses.Refusal.TheVariants.{NoMemory}
use Rattle.sb_message.specs.declared.statuses.Status.{Status}
use Rattle.sb_message.specs.declared.statuses.Status.TheVariants.{Refused, WriteFault}
use Rattle.sb_outside.specs.Outside.{Held, Rose}
use Rattle.sb_outside.specs.declared.sink.SinkFault.{SinkFault}
use Rattle.sb_plain.specs.Contents.{Contents, ShownRefusal, refused}
use Rattle.sb_plain.specs.Effects.{Effect, IsNamed, IsOrderly, effect}
use Rattle.sb_plain.specs.Endings.{IsDone, IsEndFor, IsEnding, IsMeant, IsOutcomeCaused, IsRefused, IsUnwritten, IsWritten}
use Rattle.sb_plain.specs.Ends.{End, Meaning, OnThreads, Plain, report_of}
use Rattle.sb_plain.specs.Outcomes.{IsSilent, IsWhole, file_of}
use Rattle.sb_plain.specs.Putting.{IsEnded}
use Rattle.sb_plain.specs.Readings.{IsCausedBy, IsFoundBy, IsFoundFor, KeepsFiles, ReportedEnd, reported}
use Rattle.sb_plain.specs.declared.outcomes.Outcome.{Outcome}
use Rattle.sb_plain.proofs.Carrying.{starved}

-- the status of an end is no refusal
end_uncaused : (held : Option Held) (rose : Type 0) (s : EndStatus) → IsOutcomeCaused held rose (status_of s)
end_uncaused held rose end.Done = tt
end_uncaused held rose (end.Differs difference) = tt
end_uncaused held rose (end.Unfinished target thread) = tt

end_loud : (s : EndStatus) → IsSilent (status_of s) → ⊥
end_loud end.Done h = h
end_loud (end.Differs difference) h = h
end_loud (end.Unfinished target thread) h = h

module _ {G S : Type 0} (e : Effect G S) (o : Outcome) where
  -- an end was put
  pub record IsPutSo (found : ReportedEnd) : Type 0 where
    pub ended : IsEnded found.text found.status e.out e.out' e.written e.pending e.written' (Rose e.puts e.puts') o.status
    pub report : o.report ≡ found.report
    pub shown : o.shown ≡ found.notes

  -- a refusal was told
  pub record IsToldSo (refusal : ShownRefusal) : Type 0 where
    pub status : o.status ≡ Refused refusal.why
    pub report : o.report ≡ None
    pub shown : o.shown ≡ refusal.shown
    pub untouched : e.out' ≡ e.out
    pub unwritten : e.written' ≡ e.written

  pub told : (refusal : ShownRefusal) → IsToldSo refusal → IsRefused refusal e o
  told refusal h = record { status = h.status; report = h.report; shown = h.shown; written = h.unwritten }

  put_end : (meant : End) (text : Option (List ℕ)) → meant.text ≡ text
      → IsEnded text meant.status e.out e.out' e.written e.pending e.written' (Rose e.puts e.puts') o.status
      → o.report ≡ report_of meant → o.shown ≡ meant.notes → IsDone meant e o ⊎ IsUnwritten meant e o
  put_end meant (Some text) is (inl p) report shown =
      inl (record { status = p.0; written = subst (λ t. IsWritten t e) (sym is) p.1; report = report; shown = shown })
  put_end meant (Some text) is (inr p) report shown =
      inr (record { text = text; due = is; fault = p.0; status = p.1; report = report; shown = shown; written = p.2; rose = p.3 })
  put_end meant None is p report shown =
      inl (record { status = p.0; written = subst (λ t. IsWritten t e) (sym is) p.1; report = report; shown = shown })

  -- what was meant
  module _ (meaning : Contents → Result End ShownRefusal) (contents : Contents) where
    done_for : (meant : Result End ShownRefusal) (found : ReportedEnd) → meaning contents ≡ meant → IsOkAnd meant (λ x. found ≡ reported x) → IsPutSo found
        → IsEndFor meaning contents e o
    done_for (Err r) found is h f = absurd h
    done_for (Ok x) found is h f =
        let P : ReportedEnd → Type 0 = λ y. IsEnded y.text y.status e.out e.out' e.written e.pending e.written' (Rose e.puts e.puts') o.status in
        by (put_end x x.text refl (subst P h f.ended) (f.report ∙ ap (λ (y : ReportedEnd). y.report) h) (f.shown ∙ ap (λ (y : ReportedEnd). y.notes) h))
      where
        by : IsDone x e o ⊎ IsUnwritten x e o → IsEndFor meaning contents e o
        by (inl k) = inl (subst (λ r. IsMeant r e o) (sym is) k)
        by (inr k) = inr (inr (inl (subst (λ r. IsOkAnd r (λ y. IsUnwritten y e o)) (sym is) k)))

    refused_for : (refusal : ShownRefusal) → IsFoundFor reported 1 meaning contents (Err refusal) → IsToldSo refusal → IsEndFor meaning contents e o
    refused_for refusal (inl h) f = inl (subst (λ r. IsMeant r e o) (sym h) (told refusal f))
    refused_for refusal (inr (inl h)) f =
        inr (inl (record { file = h.0; reached = h.2; cause = h.1.0; is = subst (λ r. IsRefused r e o) h.1.1 (told refusal f) }))
    refused_for refusal (inr (inr h)) f = inr (inr (inr (subst (λ r. IsRefused r e o) h (told refusal f))))

  -- its cause
  ended_caused : (rose : Type 0) (text : Option (List ℕ)) (status : EndStatus)
      → IsEnded text status e.out e.out' e.written e.pending e.written' (Rose e.puts e.puts') o.status → IsOutcomeCaused e.held rose o.status
  ended_caused rose (Some text) status (inl p) = subst (IsOutcomeCaused e.held rose) (sym p.0) (end_uncaused e.held rose status)
  ended_caused rose (Some text) status (inr p) = subst (IsOutcomeCaused e.held rose) (sym p.1) tt
  ended_caused rose None status p = subst (IsOutcomeCaused e.held rose) (sym p.0) (end_uncaused e.held rose status)

  ended_loud : (text : Option (List ℕ)) (status : EndStatus)
      → IsEnded text status e.out e.out' e.written e.pending e.written' (Rose e.puts e.puts') o.status → IsSilent o.status → ⊥
  ended_loud (Some text) status (inl p) h = end_loud status (subst IsSilent p.0 h)
  ended_loud (Some text) status (inr p) h = subst IsSilent p.1 h
  ended_loud None status p h = end_loud status (subst IsSilent p.0 h)

  no_report : (r : Option Report) → r ≡ None → IsSome r → ⊥
  no_report None is h = true≢false (sym h)
  no_report (Some r) is h = cc

  -- how a command of any meaning ends that came to an end
  pub put_ending : (meaning : Meaning) (names : List (List ℕ)) (found : ReportedEnd) → IsFoundBy meaning names e.held (Ok found) → IsPutSo found
      → IsEnding meaning names e o
  put_ending (Plain m) names found h f = record {
    contents = h.contents;
    held = h.are;
    ends = done_for m h.contents (m h.contents) found refl h.is f;
    caused = ended_caused (Rose e.reads e.reads') found.text found.status f.ended;
  }
  put_ending (OnThreads m) names found h f = record {
    order = h.order;
    contents = h.contents;
    held = h.are;
    ordered = λ k. h.ordered refl;
    ends = done_for (m h.order) h.contents (m h.order h.contents) found refl h.is f;
    caused = ended_caused (Rose e.reads e.reads') found.text found.status f.ended;
  }

  -- and that was refused
  pub told_ending : (meaning : Meaning) (names : List (List ℕ)) (refusal : ShownRefusal) → IsFoundBy meaning names e.held (Err refusal) → IsToldSo refusal
      → IsCausedBy {A = ReportedEnd} e.held (Rose e.reads e.reads') (Err refusal) → IsEnding meaning names e o
  told_ending (Plain m) names refusal h f c = record {
    contents = h.contents;
    held = h.are;
    ends = refused_for m h.contents refusal h.is f;
    caused = subst (IsOutcomeCaused e.held (Rose e.reads e.reads')) (sym f.status) c;
  }
  told_ending (OnThreads m) names refusal h f c = record {
    order = h.order;
    contents = h.contents;
    held = h.are;
    ordered = λ k. absurd (no_report o.report f.report k);
    ends = refused_for (m h.order) h.contents refusal h.is f;
    caused = subst (IsOutcomeCaused e.held (Rose e.reads e.reads')) (sym f.status) c;
  }

  -- and if there was no memory to read its arguments
  pub starved_ending : (meaning : Meaning) (names : List (List ℕ)) → IsToldSo (refused NoMemory) → IsEnding meaning names e o
  starved_ending meaning names f = told_ending meaning names (refused NoMemory) (starved meaning names e.held (refused NoMemory) refl) f tt

-- ---- what is common to all commands

module _ {G S : Type 0} (held : G → Option Held) (reads : G → ℕ) (written : S → Option (List ℕ)) (pending : S → List ℕ) (puts : S → ℕ) (files files' : G) (out out' : S)
    (o : Outcome) where
  abbrev It : Effect G S
  It = effect held reads written pending puts files files' out out'

  pub put_orderly : (names : List (List ℕ)) (found : ReportedEnd) → KeepsFiles {A = ReportedEnd} held reads files files' (Ok found)
      → (names ≡ [] → files' ≡ files) → puts out ≤ puts out' → IsPutSo It o found → o.files ≡ names
      → (IsWhole o.status → puts out' ≡ puts out) → (IsWhole o.status → pending out' ≡ []) → IsOrderly names It o
  put_orderly names found h unread counted put named done emptied = record {
    kept = h.kept;
    counted_files = h.counted;
    counted_sink = counted;
    done_files = λ d. h.ok_count;
    done_sink = done;
    finished = emptied;
    run_files = λ r. h.ok_count;
    unread = unread;
    silent = λ s. absurd (ended_loud It o found.text found.status put.ended s);
    named = (λ n. named, λ n. named);
  }

  pub told_orderly : (names : List (List ℕ)) (refusal : ShownRefusal) → KeepsFiles {A = ReportedEnd} held reads files files' (Err refusal)
      → (names ≡ [] → files' ≡ files) → out' ≡ out → IsToldSo It o refusal → (IsSome (file_of o.status) → o.files ≡ names) → (IsSome o.shown → o.files ≡ names)
      → IsOrderly names It o
  told_orderly names refusal h unread same told named shown = record {
    kept = h.kept;
    counted_files = h.counted;
    counted_sink = subst (λ (s : S). puts out ≤ puts s) (sym same) (omega arith);
    done_files = λ d. absurd (subst IsWhole told.status d);
    done_sink = λ d. absurd (subst IsWhole told.status d);
    finished = λ d. absurd (subst IsWhole told.status d);
    run_files = λ r. absurd (no_report It o o.report told.report r);
    unread = unread;
    silent = λ s. same;
    named = (named, shown);
  }

-- ---- what a second call does after a first that changed nothing

pub after_first : {G S : Type 0} (P : Result Command Fault → G → S → Type 0) (wanted found : Result Command Fault) (files files' : G) (out out' : S)
    → wanted ≡ found → files' ≡ files → out' ≡ out → P found files' out' → P wanted files out
after_first P wanted found files files' out out' w f p h =
    subst (λ x. P x files out) (sym w) (subst (λ x. P found x out) f (subst (λ x. P found files' x) p h))
