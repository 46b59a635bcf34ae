-- The promise is kept.
use Rattle.std.proofs.Common.{◌≡◌, ◌∙◌, ℕ, ◌+◌, ◌<◌, suc, true, ◌++◌, List, length, None, Some, Option, inl, inr, refl, sym, ap, subst}
use Rattle.std.specs.List.{list_all}
use Rattle.std.specs.Prelude.{⊤, IfOk, IsOkAnd, IsSome, Result, Ok, Err, [], ◌∷◌, map, slice_get}
use Rattle.sb_book.specs.Headline.{EntriesSayWhatWasDone}
use Rattle.sb_book.specs.Histories.{IsEntry, IsLegalHistory, setting_of}
use Rattle.sb_book.specs.Laws.{OnlyPerformedCallsCount}
use Rattle.sb_book.specs.Readiness.{IsReady}
use Rattle.sb_book.specs.Reports.{result_count}
use Rattle.sb_book.specs.declared.entries.Entry.{Entry}
use Rattle.sb_book.specs.declared.reports.Report.{Report}
use Rattle.sb_commands.specs.Commands.{files_of, plain_files, threaded_files}
use Rattle.sb_commands.specs.NumberWords.{number_of}
use Rattle.sb_commands.specs.Usage.{Values}
use Rattle.sb_commands.specs.declared.works.PlainWork.TheVariants.{Audit, Check, Dup, Linked, Local, Replay}
use Rattle.sb_commands.specs.declared.works.ThreadedWork.TheVariants.{Make, Run}
use Rattle.sb_commands.specs.declared.works.Work.{Work}
use Rattle.sb_commands.specs.declared.works.Work.TheVariants.{Plain, Threaded}
use Rattle.sb_core.specs.Fits.{Fits}
use Rattle.sb_core.specs.Runs.{CanRun}
use Rattle.sb_dup.specs.MoveLines.{lines_of_moves}
use Rattle.sb_dup.specs.declared.moves.Move.{Move}
use Rattle.sb_gen.specs.Scripts.{script_of}
use Rattle.sb_kernel.specs.Namespaces.{Space}
use Rattle.sb_kernel.specs.Openings.{opening}
use Rattle.sb_link.specs.LinkTexts.{reading}
use Rattle.sb_link.specs.LinkedLaws.{LogsAreOfAnswers, ScriptCallsAreResolved, WereRead}
use Rattle.sb_link.specs.ScriptCalls.{asked_by}
use Rattle.sb_link.specs.Writing.{ReadLinksAreLinks}
use Rattle.sb_link.specs.declared.links.Link.{Link}
use Rattle.sb_local.specs.Laws.{ActorsStay, ThinnedScriptsAreReady}
use Rattle.sb_local.specs.Lines.{denial_lines}
use Rattle.sb_local.specs.Thinning.{thin}
use Rattle.sb_outside.specs.Outside.{GrowsBy, Held, joined}
use Rattle.sb_rule.specs.Verdicts.{DecidingRuleIsFirst, NoRuleWhereNoneHolds, policy_at}
use Rattle.sb_rule.specs.declared.policies.Policy.{Policy}
use Rattle.sb_ruletext.specs.Laws.{ReadPoliciesAreWellMade}
use Rattle.sb_scripttext.specs.Readiness.{ReadScriptsAreReady}
use Rattle.sb_scripttext.specs.ScheduleLaws.{ActorsAreThere}
use Rattle.sb_statements.specs.Actors.{is_step_there}
use Rattle.sb_statements.specs.declared.schedules.Schedule.{Schedule}
use Rattle.sb_statements.specs.declared.scripts.Script.{Script}
use Rattle.sb_statements.specs.declared.scripts.TargetScript.{TargetScript}
use Rattle.sb_transcript.specs.Laws.{EntriesComeFirst, ResultsFollow, TotalsEnd, TranscriptsTellTheirLines}
use Rattle.sb_transcript.specs.Places.{results_before}
use Rattle.sb_transcript.specs.Totals.{totals_line}
use Rattle.sb_transcript.specs.Transcripts.{transcript}
use Rattle.sb_outside.specs.declared.sink.SinkFault.{SinkFault}
use Rattle.sb_book.specs.ReadyScripts.{Ready}
use Rattle.sb_message.specs.Statuses.{status_of}
use Rattle.sb_message.specs.declared.statuses.FileRefusal.TheVariants.{ReadFault}
use Rattle.sb_message.specs.declared.statuses.Refusal.{Refusal}
use Rattle.sb_message.specs.declared.statuses.Refusal.TheVariants.{File, NoMemory, Usage}
use Rattle.sb_message.specs.declared.statuses.Status.TheVariants.{Done, Refused, Unfinished, WriteFault}
use Rattle.sb_message.specs.declared.text_faults.TextFault.TheVariants.{Links}
use Rattle.sb_text.specs.Steps.{◌>>=◌}
use Rattle.sb_plain.specs.Contents.{Content, Contents, FileContent, ShownRefusal, alone, file_in, missing, most_bytes, no_schedule, schedule_if}
use Rattle.sb_plain.specs.Dup.{answers_after, dup_end, moved_by, moved_text, moves_end, moves_in, moves_of}
use Rattle.sb_plain.specs.Linked.{calls_end, calls_text, linked_end, links_of}
use Rattle.sb_plain.specs.Local.{local_end, local_run_end, thinned}
use Rattle.sb_plain.specs.Effects.{Effect}
use Rattle.sb_plain.specs.Endings.{IsDone, IsEnding, IsEndFor, IsMeant, IsPlainEnding, IsThreadedEnding, IsUnwritten, IsWritten}
use Rattle.sb_plain.specs.Ends.{AreContents, End, IsOrderOf}
use Rattle.sb_plain.specs.Replay.{if_finished, replay_end, run_end, run_status, whole_run}
use Rattle.sb_plain.specs.ScriptEnds.{ends, later_text, needed, nothing, script_end, script_read}
use Rattle.sb_plain.specs.Sound.{RunsAreSound}
use Rattle.sb_plain.specs.declared.outcomes.Outcome.{Outcome}
use Rattle.sb_plain.proofs.LocalRuns.{steps_stay}
use Rattle.sb_plain.proofs.Readings.{bound, can_run, same_end, script_known, steps_there, text_read}
use Rattle.sb_plain.proofs.ScriptEnds.{ReadParts, read_parts}
use Rattle.sb_top.proofs.DoneEnds.{done_end, end_done, refused}
use Rattle.sb_top.proofs.SentSchedules.{same_schedule}
use Rattle.sb_top.specs.Make.{made_end, made_line, made_policies, made_text, make_end}
use Rattle.sb_top.specs.Promise.{AreOpened, IsAsPromised, IsDupAsPromised, IsLinkedAsPromised, IsLocalAsPromised, IsMakeAsPromised, IsReplayAsPromised, IsThreadedRunAsPromised, PromiseIsKept}
use Rattle.sb_top.specs.PromisedRuns.{IsPromisedRun, IsTaken, IsTranscript}
use Rattle.sb_top.specs.Top.{meaning_by}
use Rattle.sb_top.specs.Run.{ordered_end, threads_end}
use Rattle.sb_top.specs.Totals.{TotalsAreOfVerdicts}
use Rattle.sb_top.proofs.Clean.{calls_leave_clean}
use Rattle.sb_top.proofs.Deciding.{denied_has_reason, entry_taken, faked_has_rule, performed_is_allowed, refused_has_fault}
use Rattle.sb_top.proofs.Made.{script_is_calls}

-- ---- what the laws below give

pub record Laws : Type 0 where
  pub sound : RunsAreSound
  pub totals : TotalsAreOfVerdicts
  pub made : ReadPoliciesAreWellMade
  pub ready : ReadScriptsAreReady
  pub there : ActorsAreThere
  pub says : EntriesSayWhatWasDone
  pub only : OnlyPerformedCallsCount
  pub deciding : DecidingRuleIsFirst
  pub none : NoRuleWhereNoneHolds
  pub tell : TranscriptsTellTheirLines
  pub first : EntriesComeFirst
  pub follow : ResultsFollow
  pub last : TotalsEnd
  pub thin_ready : ThinnedScriptsAreReady
  pub actors : ActorsStay
  pub logs : LogsAreOfAnswers
  pub resolved : ScriptCallsAreResolved
  pub links : ReadLinksAreLinks

-- ---- a run

mapped_length : {X Y : Type 0} (f : X → Y) (xs : List X) → length (map f xs) ≡ length xs
mapped_length f [] = refl
mapped_length f (x ∷ xs) = ap suc (mapped_length f xs)

is_taken : (policies : List Policy) (script : Script) (ns : Space) (e : Entry) → IsEntry (setting_of policies script) ns e → IsTaken script e
is_taken policies script ns e h = record { target_there = subst (λ n. e.target < n) (mapped_length (λ (x : TargetScript). policy_at policies x.policy) script.targets) h.target_there; channel_there = h.channel_there; whole = h.whole }

promised_run : Laws → (policies : List Policy) (script : Script) (schedule : Schedule) → CanRun policies script schedule
    → (whole_run policies script schedule).unfinished ≡ None → IsPromisedRun policies script schedule (whole_run policies script schedule).report
unfolding whole_run
promised_run laws policies script schedule can finished =
    let s = setting_of policies script in
    let fits : Fits policies script (whole_run policies script schedule).report = (laws.sound policies script schedule can).fits finished in
    let report = (whole_run policies script schedule).report in
    let legal : IsLegalHistory s report.entries = fits.history.legal in
    record {
      can = can;
      finished = finished;
      is = refl;
      taken = λ n e there. is_taken policies script _ e (entry_taken s report.entries n e legal there);
      performed = λ n e tag line action args there is. performed_is_allowed laws.says s report.entries legal n e there tag line action args is;
      denied = λ n e tag reason there is. denied_has_reason laws.says s report.entries legal n e there laws.deciding laws.none tag reason is;
      faked = λ n e tag line there is. faked_has_rule laws.says s report.entries legal n e there laws.deciding laws.none tag line is;
      refused = λ n e found there is. refused_has_fault laws.says s report.entries legal n e there found is;
      namespace = fits.history.led ∙ sym (laws.only (opening script.start) report.entries);
      results = fits.whole_results;
      own_replies = fits.own_replies;
      other_results = fits.suit;
    }

-- ---- its transcript

is_transcript : Laws → (policies : List Policy) (script : Script) (report : Report) → IsReady policies script → IsTranscript script report (transcript script report)
is_transcript laws policies script report ready =
    let lines = laws.tell policies script report ready in
    record {
      lines = lines;
      whole = ap joined (sym lines);
      entries = λ n e there. ap (λ l. slice_get l n) lines ∙ laws.first script report n e there;
      results = λ target thread place result there.
          ap (λ l. slice_get l (length report.entries + results_before report.results target thread place)) lines ∙ laws.follow script report target thread place result there;
      totals = ap (λ l. slice_get l (length report.entries + result_count report.results)) lines ∙ laws.last script report;
    }

-- ---- a command that is done

-- an end of policies, a script and what is read of the file after them
record OpenedEnd {A : Type 0} (most : ℕ) (later : Script → Option FileContent → Result A ShownRefusal) (end : List Policy → Script → A → Result End ShownRefusal)
    (contents : Contents) (reached : End) : Type 0 where
  first : Content
  second : Content
  rest : Contents
  are : contents ≡ first ∷ second ∷ rest
  read : Ready × A
  parts : ReadParts most later first second rest read
  same : end read.0.policies read.0.script read.1 ≡ Ok reached

opened_end : {A : Type 0} (most : ℕ) (later : Script → Option FileContent → Result A ShownRefusal) (end : List Policy → Script → A → Result End ShownRefusal)
    (contents : Contents) (reached : End) → script_end most later end contents ≡ Ok reached → OpenedEnd most later end contents reached
opened_end most later end [] reached e = cc
opened_end most later end (first ∷ []) reached e = cc
opened_end {A} most later end (first ∷ second ∷ files) reached e =
    let r = bound (script_read most later (first ∷ second ∷ files)) (λ (x : Ready × A). end x.0.policies x.0.script x.1) reached e in
    record { first = first; second = second; rest = files; are = refl; read = r.0; parts = read_parts most later first second files r.0 r.1; same = r.2 }

-- the file after the script, which has to be there
third_of : {A : Type 0} (step : FileContent → Result A ShownRefusal) (rest : Contents) (text : Option FileContent) (x : A) → later_text most_bytes rest ≡ Ok text
    → needed step text ≡ Ok x → alone 3 (λ content. file_in 3 content >>= step) rest ≡ Ok x
third_of {A} step [] text x e h = by text h (same text e)
  where
    same : (t : Option FileContent) → ◌≡◌ {A = Result (Option FileContent) ShownRefusal} (Ok None) (Ok t) → None ≡ t
    same t k = cc

    by : (t : Option FileContent) → needed step t ≡ Ok x → None ≡ t → ◌≡◌ {A = Result A ShownRefusal} (Err (missing 3)) (Ok x)
    by None k is = k
    by (Some t) k is = cc
third_of {A} step (content ∷ []) text x e h = by (file_in 3 content) e
  where
    same : (t : FileContent) (u : Option FileContent) → ◌≡◌ {A = Result (Option FileContent) ShownRefusal} (Ok (Some t)) (Ok u) → u ≡ Some t
    same t u k = cc

    by : (r : Result FileContent ShownRefusal) → (r >>= λ t. Ok (Some t)) ≡ Ok text → (r >>= step) ≡ Ok x
    by (Ok t) k = subst (λ (u : Option FileContent). needed step u ≡ Ok x) (same t text k) h
    by (Err refusal) k = cc
third_of step (content ∷ further ∷ contents) text x e h = cc

-- the two lines of `make` are what was made, and the totals of its report
made_of_report : Laws → (seed targets calls : ℕ) (report : Report) → IsReady made_policies (script_of seed targets calls)
    → Fits made_policies (script_of seed targets calls) report → made_text seed targets calls ≡ made_line targets calls ++ totals_line report
unfolding made_text
made_of_report laws seed targets calls report ready fits =
    let script = script_of seed targets calls in
    let calls_alone = script_is_calls seed targets calls in
    sym (ap (λ line. made_line targets calls ++ line) (laws.totals made_policies script report ready calls_alone (calls_leave_clean script calls_alone) fits))

-- ---- the commands

module _ {G S : Type 0} (laws : Laws) (e : Effect G S) (o : Outcome) (done : o.status ≡ Done) where
  replay_promised : (values : Values) → IsPlainEnding replay_end (plain_files Replay values) e o → IsReplayAsPromised (plain_files Replay values) e o
  replay_promised values h =
      let end = done_end e o replay_end h.contents h.ends done in
      let found = opened_end most_bytes schedule_if (ends run_end) h.contents end.0 end.1 in
      let policies = found.read.0.policies in
      let script = found.read.0.script in
      let schedule = found.read.1 in
      let its : IsDone (run_end policies script schedule) e o = subst (λ x. IsDone x e o) (sym (same_end (run_end policies script schedule) end.0 found.same)) end.2 in
      let ran = end_done e o (transcript script (whole_run policies script schedule).report) (whole_run policies script schedule).unfinished its.status its.written done in
      let there = steps_there laws.there script found.parts.text schedule found.parts.value in
      let can = can_run laws.made laws.ready found.first found.second policies script schedule found.parts.policies found.parts.script there in
      let report = (whole_run policies script schedule).report in
      record {
        contents = h.contents;
        held = h.held;
        policies = policies;
        script = script;
        rest = found.rest;
        opened = record { first = found.first; second = found.second; are = found.are; policies_read = found.parts.policies; script_read = found.parts.script };
        schedule = schedule;
        schedule_read = ap (λ r. r >>= schedule_if script) found.parts.is_text ∙ found.parts.value;
        report = report;
        reported = its.report;
        run = promised_run laws policies script schedule can ran.0;
        text = transcript script report;
        transcript = is_transcript laws policies script report can.ready;
        written = ran.1;
      }

  -- `dup` by a schedule
  dup_by : (names : List (List ℕ)) (contents : Contents) → AreContents e.held names contents → (policies : List Policy) (script : Script) (rest : Contents)
      → AreOpened contents policies script rest → (moves : List Move) → alone 3 (moves_in script) rest ≡ Ok moves → (schedule : Schedule) → schedule ≡ no_schedule
      → IsDone (moved_by policies script moves (whole_run policies script schedule)) e o → IsDupAsPromised names e o
  unfolding moved_text
  dup_by names contents held policies script rest opened moves read schedule default its =
      let report = (whole_run policies script schedule).report in
      let ran = end_done e o (transcript script report ++ lines_of_moves script (answers_after (setting_of policies script).policies moves report))
      (whole_run policies script schedule).unfinished its.status its.written done in
      let there = subst (λ (s : Schedule). list_all (is_step_there script.targets) s.steps ≡ true) (sym default) refl in
      let can = can_run laws.made laws.ready opened.first opened.second policies script schedule opened.policies_read opened.script_read there in
      record {
        contents = contents;
        held = held;
        policies = policies;
        script = script;
        rest = rest;
        opened = opened;
        moves = moves;
        moves_read = read;
        schedule = schedule;
        default = default;
        report = report;
        reported = its.report;
        run = promised_run laws policies script schedule can ran.0;
        text = transcript script report;
        transcript = is_transcript laws policies script report can.ready;
        written = ran.1;
      }

  nothing_left : (files : Contents) (text : Option FileContent) (x : ⊤) → later_text most_bytes files ≡ Ok text → nothing text ≡ Ok x → files ≡ []
  nothing_left [] text x e h = refl
  nothing_left (content ∷ []) text x e h = by (file_in 3 content) e
    where
      same : (t : FileContent) (u : Option FileContent) → ◌≡◌ {A = Result (Option FileContent) ShownRefusal} (Ok (Some t)) (Ok u) → u ≡ Some t
      same t u k = cc

      by : (r : Result FileContent ShownRefusal) → (r >>= λ t. Ok (Some t)) ≡ Ok text → content ∷ [] ≡ []
      by (Ok t) k = absurd (no_text (subst (λ (u : Option FileContent). nothing u ≡ Ok x) (same t text k) h))
        where
          no_text : ◌≡◌ {A = Result ⊤ ShownRefusal} (Err (missing 3)) (Ok x) → ⊥
          no_text m = cc
      by (Err refusal) k = cc
  nothing_left (content ∷ further ∷ contents) text x e h = cc

  run_promised : (values : Values) → IsThreadedEnding threads_end (threaded_files Run values) e o → IsThreadedRunAsPromised (threaded_files Run values) e o
  run_promised values h =
      let end = done_end e o (threads_end h.order) h.contents h.ends done in
      let found = opened_end most_bytes (λ script. nothing) (ordered_end h.order) h.contents end.0 end.1 in
      let policies = found.read.0.policies in
      let script = found.read.0.script in
      let same = same_end (run_end policies script h.order) end.0 found.same in
      let its : IsDone (run_end policies script h.order) e o = subst (λ x. IsDone x e o) (sym same) end.2 in
      let some : IsSome o.report = subst IsSome (sym its.report) refl in
      let of_end : IsOrderOf h.order end.0 = subst (λ r. IfOk r (IsOrderOf h.order)) end.1 (h.ordered some) in
      let order : IsOrderOf h.order (run_end policies script h.order) = subst (IsOrderOf h.order) (sym same) of_end in
      let report = (whole_run policies script h.order).report in
      let ran = end_done e o (transcript script report) (whole_run policies script h.order).unfinished its.status its.written done in
      let none = nothing_left found.rest found.parts.text found.read.1 found.parts.is_text found.parts.value in
      record {
        contents = h.contents;
        held = h.held;
        policies = policies;
        script = script;
        opened = record {
          first = found.first;
          second = found.second;
          are = found.are ∙ ap (λ rest. found.first ∷ found.second ∷ rest) none;
          policies_read = found.parts.policies;
          script_read = found.parts.script;
        };
        order = h.order;
        no_rounds = order.no_rounds;
        report = report;
        reported = its.report;
        run = promised_run laws policies script h.order order.can ran.0;
        text = transcript script report;
        transcript = is_transcript laws policies script report order.can.ready;
        written = ran.1;
      }

  -- the end of `make` is that of its script
  made_same : (seed targets calls : ℕ) (order : Schedule) (contents : Contents) (end : End) → make_end seed targets calls order contents ≡ Ok end
      → made_end seed targets calls order ≡ end
  made_same seed targets calls order [] end is = same_end (made_end seed targets calls order) end is
  made_same seed targets calls order (c ∷ cs) end is = cc

  make_promised : (seed targets calls : ℕ) → IsThreadedEnding (make_end seed targets calls) [] e o → IsMakeAsPromised seed targets calls e o
  make_promised seed targets calls h =
      let script = script_of seed targets calls in
      let end = done_end e o (make_end seed targets calls h.order) h.contents h.ends done in
      let same = made_same seed targets calls h.order h.contents end.0 end.1 in
      let its : IsDone (made_end seed targets calls h.order) e o = subst (λ x. IsDone x e o) (sym same) end.2 in
      let some : IsSome o.report = subst IsSome (sym its.report) refl in
      let of_end : IsOrderOf h.order end.0 = subst (λ r. IfOk r (IsOrderOf h.order)) end.1 (h.ordered some) in
      let order : IsOrderOf h.order (made_end seed targets calls h.order) = subst (IsOrderOf h.order) (sym same) of_end in
      let report = (whole_run made_policies script h.order).report in
      let fits : Fits made_policies script report = (laws.sound made_policies script h.order order.can).fits order.finished in
      let text = made_of_report laws seed targets calls report order.can.ready fits in
      record {
        order = h.order;
        no_rounds = order.no_rounds;
        report = report;
        reported = its.report;
        run = promised_run laws made_policies script h.order order.can order.finished;
        written = subst (λ t. GrowsBy e.written (e.pending ++ t) e.written') text its.written;
      }

  local_promised : (values : Values) → IsPlainEnding local_end (plain_files Local values) e o → IsLocalAsPromised (plain_files Local values) e o
  unfolding thinned
  local_promised values h =
      let end = done_end e o local_end h.contents h.ends done in
      let found = opened_end most_bytes schedule_if (ends local_run_end) h.contents end.0 end.1 in
      let policies = found.read.0.policies in
      let script = found.read.0.script in
      let schedule = found.read.1 in
      let judges = (setting_of policies script).policies in
      let t = thin judges script in
      let sent = t.script in
      let its : IsDone (local_run_end policies script schedule) e o = subst (λ x. IsDone x e o) (sym (same_end (local_run_end policies script schedule) end.0 found.same)) end.2 in
      let report = (whole_run policies sent schedule).report in
      let ran = end_done e o (denial_lines script t.denied ++ transcript sent report) (whole_run policies sent schedule).unfinished its.status its.written done in
      let there = steps_stay laws.actors judges script schedule.steps (steps_there laws.there script found.parts.text schedule found.parts.value) in
      let known = script_known laws.made laws.ready found.first found.second policies script found.parts.policies found.parts.script in
      let can : CanRun policies sent schedule = record { ready = laws.thin_ready judges policies script known; there = there } in
      record {
        contents = h.contents;
        held = h.held;
        policies = policies;
        script = script;
        rest = found.rest;
        opened = record { first = found.first; second = found.second; are = found.are; policies_read = found.parts.policies; script_read = found.parts.script };
        sent = sent;
        thinned = refl;
        schedule = schedule;
        schedule_read =
            ap (λ r. r >>= schedule_if sent) found.parts.is_text
            ∙ (same_schedule sent script (λ actor. laws.actors judges script actor) found.parts.text ∙ found.parts.value);
        report = report;
        reported = its.report;
        run = promised_run laws policies sent schedule can ran.0;
        text = transcript sent report;
        transcript = is_transcript laws policies sent report can.ready;
        written = ran.1;
      }

  dup_promised : (values : Values) → IsPlainEnding dup_end (plain_files Dup values) e o → IsDupAsPromised (plain_files Dup values) e o
  dup_promised values h =
      let end = done_end e o dup_end h.contents h.ends done in
      let found = opened_end most_bytes (λ script. needed (moves_of script)) (ends moves_end) h.contents end.0 end.1 in
      let policies = found.read.0.policies in
      let script = found.read.0.script in
      let moves = found.read.1 in
      let its : IsDone (moves_end policies script moves) e o = subst (λ x. IsDone x e o) (sym (same_end (moves_end policies script moves) end.0 found.same)) end.2 in
      let opened : AreOpened h.contents policies script found.rest =
      record { first = found.first; second = found.second; are = found.are; policies_read = found.parts.policies; script_read = found.parts.script } in
      dup_by (plain_files Dup values) h.contents h.held policies script found.rest opened moves
      (third_of (moves_of script) found.rest found.parts.text moves found.parts.is_text found.parts.value) no_schedule refl its

  links_known : (text : Option FileContent) (links : List Link) → needed links_of text ≡ Ok links → WereRead links
  links_known None links h = cc
  links_known (Some text) links h =
      let known = laws.links text.bytes links (text_read Links text (reading text.bytes) links h) in
      record { are = known.0; writable = known.1 }

  linked_promised : (values : Values) → IsPlainEnding linked_end (plain_files Linked values) e o → IsLinkedAsPromised (plain_files Linked values) e o
  unfolding calls_text
  linked_promised values h =
      let end = done_end e o linked_end h.contents h.ends done in
      let found = opened_end most_bytes (λ script. needed links_of) (ends calls_end) h.contents end.0 end.1 in
      let policies = found.read.0.policies in
      let script = found.read.0.script in
      let links = found.read.1 in
      let its : IsDone (calls_end policies script links) e o = subst (λ x. IsDone x e o) (sym (same_end (calls_end policies script links) end.0 found.same)) end.2 in
      let ready = script_known laws.made laws.ready found.first found.second policies script found.parts.policies found.parts.script in
      record {
        contents = h.contents;
        held = h.held;
        policies = policies;
        script = script;
        rest = found.rest;
        opened = record { first = found.first; second = found.second; are = found.are; policies_read = found.parts.policies; script_read = found.parts.script };
        links = links;
        links_read = third_of links_of found.rest found.parts.text links found.parts.is_text found.parts.value;
        log = laws.logs links (setting_of policies script) (asked_by script);
        performed = laws.resolved policies script links ready (links_known found.parts.text links found.parts.value);
        written = its.written;
      }

  -- each command
  of_work : (work : Work) (values : Values) → IsEnding (meaning_by work values) (files_of (record { work = work; values = values })) e o
      → IsAsPromised work values e o
  of_work (Plain Replay) values h = replay_promised values h
  of_work (Plain Check) values h = tt
  of_work (Plain Linked) values h = linked_promised values h
  of_work (Plain Dup) values h = dup_promised values h
  of_work (Plain Local) values h = local_promised values h
  of_work (Plain Audit) values h = tt
  of_work (Threaded Run) values h = run_promised values h
  of_work (Threaded Make) values h = make_promised (number_of values.first) (number_of values.second) (number_of values.third) h

pub promise_is_kept : (G S : Type 0) → Laws → PromiseIsKept G S
promise_is_kept G S laws (Ok command) e o h done = of_work laws e o done command.work command.values h
promise_is_kept G S laws (Err fault) e o h done = absurd (refused (Usage h.found) (sym h.is.status ∙ done))
