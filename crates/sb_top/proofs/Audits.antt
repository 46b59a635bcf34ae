-- What `replay` and `run` write passes an audit, and is not too long for one.
use Rattle.std.proofs.Common.{◌≡◌, ℕ, ◌≤◌, Bool, true, List, [], ◌∷◌, ◌++◌, length, Option, None, Some, refl, sym, subst, ap, inl, inr, ◌∙◌, arith}
use Rattle.std.specs.Prelude.{IfOk, IfSome, IsOkAnd, IsSome, IsSomeAnd, Result, Ok, Err, nat_le, if◌then◌else◌}
use Rattle.sb_audit.specs.Audited.{audited}
use Rattle.sb_audit.specs.declared.answers.AuditAnswer.TheVariants.{Yes}
use Rattle.sb_book.specs.Reports.{result_count}
use Rattle.sb_book.specs.declared.reports.Report.{Report}
use Rattle.sb_commands.specs.Commands.{Command, files_of, no_values}
use Rattle.sb_commands.specs.Usage.{Values}
use Rattle.sb_commands.specs.declared.works.PlainWork.TheVariants.{Audit, Check, Dup, Linked, Local, Replay}
use Rattle.sb_commands.specs.declared.works.ThreadedWork.TheVariants.{Make, Run}
use Rattle.sb_commands.specs.declared.works.Work.{Work}
use Rattle.sb_commands.specs.declared.works.Work.TheVariants.{Plain, Threaded}
use Rattle.sb_core.specs.declared.runs.Ran.{Ran}
use Rattle.sb_outside.specs.Outside.{GrowsBy}
use Rattle.sb_rule.specs.declared.policies.Policy.{Policy}
use Rattle.sb_statements.specs.declared.schedules.Schedule.{Schedule}
use Rattle.sb_statements.specs.declared.scripts.Script.{Script}
use Rattle.sb_text.specs.Steps.{◌>>=◌}
use Rattle.sb_transcript.specs.Lengths.{most_transcript_bytes}
use Rattle.sb_transcript.specs.Printable.{IsPrintable}
use Rattle.sb_transcript.specs.Transcripts.{transcript}
use Rattle.sb_message.specs.declared.statuses.Status.TheVariants.{Done}
use Rattle.sb_plain.specs.Audit.{answered_end, audit_end, audited_end, end_by, yes_line}
use Rattle.sb_plain.specs.Contents.{Content, Contents, FileContent, ShownRefusal, most_bytes, policies_in, schedule_if, script_in}
use Rattle.sb_plain.specs.Effects.{Effect}
use Rattle.sb_plain.specs.Endings.{IsDone, IsEnding}
use Rattle.sb_plain.specs.Ends.{AreContents, End, IsOrderOf, ScriptRun, report_of}
use Rattle.sb_plain.specs.Replay.{ended_by, if_finished, replay_end, run_end, run_text, whole_run}
use Rattle.sb_plain.specs.ScriptEnds.{later_text, needed, nothing, script_read}
use Rattle.sb_plain.specs.Sound.{IsSound, IsSoundRun}
use Rattle.sb_plain.specs.declared.outcomes.Outcome.{Outcome}
use Rattle.sb_plain.proofs.ReadFiles.{short_text}
use Rattle.sb_plain.proofs.Readings.{bound, same_end}
use Rattle.sb_plain.proofs.ScriptEnds.{read_parts, to_end}
use Rattle.sb_top.specs.Audits.{AuditSaysYes, IsAudited, IsAuditedAs, OutcomesAreAudited, ReplaysAreAudited, ThreadedRunsAreAudited, writes_transcript}
use Rattle.sb_top.specs.Run.{ordered_end, threads_end}
use Rattle.sb_top.specs.Sound.{ReportsAreSound}
use Rattle.sb_top.specs.Top.{meaning_by}
use Rattle.sb_top.proofs.DoneEnds.{done_end, end_done}

-- ---- the command `audit`

-- what was read of a file as the text after the script
abbrev some_text : Result FileContent ShownRefusal → Result (Option FileContent) ShownRefusal
some_text r = r >>= λ text. Ok (Some text)

-- a transcript that is not too long, and to which the answer is yes
says_yes : (policy file : Content) (policies : List Policy) (script : Script) (text : List ℕ) (n m : ℕ) → policies_in policy ≡ Ok policies
    → script_in policies file ≡ Ok script → length text ≤ most_transcript_bytes → audited policies script text ≡ Yes n m
    → audit_end (policy ∷ file ∷ Some text ∷ []) ≡ Ok (answered_end (yes_line n m))
says_yes policy file policies script text n m p s short said =
    let third : FileContent = record { which = 3; bytes = text } in
    let read : later_text most_transcript_bytes (Some text ∷ []) ≡ Ok (Some third) = ap some_text (short_text most_transcript_bytes 3 text short) in
    to_end most_transcript_bytes (λ read. needed Ok) audited_end policy file (Some text ∷ []) policies script (Some third) third p s read refl ∙ ap (end_by third) said

-- ---- a run

-- the transcript of a sound run without an unfinished thread
run_audited : (policy file : Content) (files : Contents) (policies : List Policy) (script : Script) (r : Ran) → policies_in policy ≡ Ok policies
    → script_in policies file ≡ Ok script → IsSoundRun policies script r → r.unfinished ≡ None → IsPrintable r.report
    → IsAuditedAs (policy ∷ file ∷ files) (transcript script r.report) (record { policies = policies; script = script; ran = r })
run_audited policy file files policies script r p s sound finished printable =
    let short = sound.short finished printable in
    let said = sound.audited finished printable in
    let n = length r.report.entries in
    let m = result_count r.report.results in
    record {
      short = short;
      answer = said;
      command = says_yes policy file policies script (transcript script r.report) n m p s short said;
    }

-- a text that is written is the transcript, and no thread is unfinished
told : (script : Script) (r : Ran) (text : List ℕ) (o : Option (ℕ × ℕ)) → run_text script r o ≡ Some text → (o ≡ None) × (transcript script r.report ≡ text)
told script r text None e = (refl, cc)
told script r text (Some thread) e = cc

same_report : (a b : Report) → ◌≡◌ {A = Option Report} (Some a) (Some b) → a ≡ b
same_report a b e = cc

-- so it is of a text that is written
end_audited : (policy file : Content) (files : Contents) (policies : List Policy) (script : Script) (r : Ran) → policies_in policy ≡ Ok policies → script_in policies file ≡ Ok script
    → IsSoundRun policies script r → IsPrintable r.report → (text : List ℕ) → run_text script r r.unfinished ≡ Some text
    → IsAuditedAs (policy ∷ file ∷ files) text (record { policies = policies; script = script; ran = r })
end_audited policy file files policies script r p s sound printable text t =
    let w = told script r text r.unfinished t in
    subst (λ x. IsAuditedAs (policy ∷ file ∷ files) x (record { policies = policies; script = script; ran = r })) w.1
    (run_audited policy file files policies script r p s sound w.0 printable)

-- an end of `replay` or `run` is that of a run under the policies and the script of the first two files
record IsRunEnd (contents : Contents) (end : End) : Type 0 where
  policy : Content
  file : Content
  files : Contents
  policies : List Policy
  script : Script
  ran : Ran
  are : contents ≡ policy ∷ file ∷ files
  policies_read : policies_in policy ≡ Ok policies
  script_read : script_in policies file ≡ Ok script
  is : ended_by policies script ran ≡ end

of_replay : (contents : Contents) (end : End) → replay_end contents ≡ Ok end → IsRunEnd contents end
of_replay [] end e = cc
of_replay (p ∷ []) end e = cc
of_replay (p ∷ s ∷ files) end e =
    let r = bound (script_read most_bytes schedule_if (p ∷ s ∷ files)) (λ x. Ok (run_end x.0.policies x.0.script x.1)) end e in
    let parts = read_parts most_bytes schedule_if p s files r.0 r.1 in
    record {
      policy = p;
      file = s;
      files = files;
      policies = r.0.0.policies;
      script = r.0.0.script;
      ran = whole_run r.0.0.policies r.0.0.script r.0.1;
      are = refl;
      policies_read = parts.policies;
      script_read = parts.script;
      is = same_end (run_end r.0.0.policies r.0.0.script r.0.1) end r.2;
    }

of_run : (order : Schedule) (contents : Contents) (end : End) → threads_end order contents ≡ Ok end → IsRunEnd contents end
of_run order [] end e = cc
of_run order (p ∷ []) end e = cc
of_run order (p ∷ s ∷ files) end e =
    let r = bound (script_read most_bytes (λ script. nothing) (p ∷ s ∷ files)) (λ x. ordered_end order x.0.policies x.0.script x.1) end e in
    let parts = read_parts most_bytes (λ script. nothing) p s files r.0 r.1 in
    record {
      policy = p;
      file = s;
      files = files;
      policies = r.0.0.policies;
      script = r.0.0.script;
      ran = whole_run r.0.0.policies r.0.0.script order;
      are = refl;
      policies_read = parts.policies;
      script_read = parts.script;
      is = same_end (run_end r.0.0.policies r.0.0.script order) end r.2;
    }

module _ (contents : Contents) (end : End) (x : IsRunEnd contents end) (sound : IfSome end.run IsSound) where
  abbrev its_run : ScriptRun
  its_run = record { policies = x.policies; script = x.script; ran = x.ran }

  its_report : report_of end ≡ Some x.ran.report
  its_report = subst (λ (y : End). report_of y ≡ Some x.ran.report) x.is refl

  its_text : (r : Option (List ℕ)) → end.text ≡ r → run_text x.script x.ran x.ran.unfinished ≡ r
  its_text r t = ap (λ (y : End). y.text) x.is ∙ t

  its_audit : IsPrintable x.ran.report → (text : List ℕ) → end.text ≡ Some text → IsAuditedAs contents text its_run
  its_audit printable text t =
      subst (λ cs. IsAuditedAs cs text its_run) (sym x.are)
      (end_audited x.policy x.file x.files x.policies x.script x.ran x.policies_read x.script_read (subst (λ (y : End). IfSome y.run IsSound) (sym x.is) sound) printable text
      (its_text (Some text) t))

  -- if it has this report
  audited_as : (report : Report) → IsPrintable report → (text : List ℕ) → end.text ≡ Some text → report_of end ≡ Some report → IsSomeAnd end.run (IsAuditedAs contents text)
  audited_as report printable text t is =
      let same = same_report x.ran.report report (sym its_report ∙ is) in
      subst (λ (y : End). IsSomeAnd y.run (IsAuditedAs contents text)) x.is (its_audit (subst IsPrintable (sym same) printable) text t)

abbrev replay_of : Values → Command
replay_of values = record { work = Plain Replay; values = values }

abbrev run_of : Values → Command
run_of values = record { work = Threaded Run; values = values }

pub replays_are_audited : ReportsAreSound → (report : Report) → IsPrintable report → ReplaysAreAudited report
replays_are_audited law report printable contents end text e t is =
    audited_as contents end (of_replay contents end e) (law (replay_of no_values) contents end e) report printable text t is

pub threaded_runs_are_audited : ReportsAreSound → (report : Report) → IsPrintable report → ThreadedRunsAreAudited report
threaded_runs_are_audited law report printable order contents end text e ordered t is =
    audited_as contents end (of_run order contents end e) (law (run_of no_values) order contents end e ordered) report printable text t is

-- ---- outcomes

module _ {G S : Type 0} (e : Effect G S) (o : Outcome) (done : o.status ≡ Done) where
  -- what a command wrote that is done is the transcript
  text_of : (contents : Contents) (end : End) (x : IsRunEnd contents end) → IsDone end e o
      → (text : List ℕ) × (end.text ≡ Some text) × GrowsBy e.written (e.pending ++ text) e.written'
  text_of contents end x d =
      let its : IsDone (ended_by x.policies x.script x.ran) e o = subst (λ y. IsDone y e o) (sym x.is) d in
      let text = transcript x.script x.ran.report in
      let wrote = end_done e o text x.ran.unfinished its.status its.written done in
      (text, sym (ap (λ (y : End). y.text) x.is) ∙ ap (λ left. if_finished text left) wrote.0, wrote.1)

  outcome_audited : (names : List (List ℕ)) (contents : Contents) (end : End) (x : IsRunEnd contents end) → IfSome end.run IsSound → AreContents e.held names contents
      → IsDone end e o → IfSome o.report IsPrintable → IsAudited names e o
  outcome_audited names contents end x sound held d printable =
      let told_report : o.report ≡ Some x.ran.report = d.report ∙ its_report contents end x sound in
      let wrote = text_of contents end x d in
      let audit = its_audit contents end x sound (subst (λ z. IfSome z IsPrintable) told_report printable) wrote.0 wrote.1 in
      record {
        contents = contents;
        held = held;
        text = wrote.0;
        written = wrote.2;
        short = audit.short;
        audited = subst (λ z. IsSomeAnd z (AuditSaysYes contents wrote.0)) (sym told_report) audit.command;
      }

module _ (law : ReportsAreSound) {G S : Type 0} (e : Effect G S) (o : Outcome) (printable : IfSome o.report IsPrintable) (done : o.status ≡ Done) where
  by_work : (work : Work) (values : Values) → writes_transcript work ≡ true → IsEnding (meaning_by work values) (files_of (record { work = work; values = values })) e o
      → IsAudited (files_of (record { work = work; values = values })) e o
  by_work (Plain Replay) values is h =
      let names = files_of (replay_of values) in
      let end = done_end e o replay_end h.contents h.ends done in
      outcome_audited e o done names h.contents end.0 (of_replay h.contents end.0 end.1) (law (replay_of values) h.contents end.0 end.1) h.held end.2 printable
  by_work (Plain Check) values is h = absurd (cc)
  by_work (Plain Linked) values is h = absurd (cc)
  by_work (Plain Dup) values is h = absurd (cc)
  by_work (Plain Local) values is h = absurd (cc)
  by_work (Plain Audit) values is h = absurd (cc)
  by_work (Threaded Run) values is h =
      let names = files_of (run_of values) in
      let end = done_end e o (threads_end h.order) h.contents h.ends done in
      let x = of_run h.order h.contents end.0 end.1 in
      let told_report : o.report ≡ Some x.ran.report = end.2.report ∙ subst (λ (y : End). report_of y ≡ Some x.ran.report) x.is refl in
      let ordered : IsOrderOf h.order end.0 = subst (λ r. IfOk r (IsOrderOf h.order)) end.1 (h.ordered (subst (λ z. IsSome z) (sym told_report) refl)) in
      outcome_audited e o done names h.contents end.0 x (law (run_of values) h.order h.contents end.0 end.1 ordered) h.held end.2 printable
  by_work (Threaded Make) values is h = absurd (cc)

pub outcomes_are_audited : ReportsAreSound → (G S : Type 0) (o : Outcome) → IfSome o.report IsPrintable → OutcomesAreAudited G S o
outcomes_are_audited law G S o printable command e is h done = by_work law e o printable done command.work command.values is h
