-- What `local` comes to: what it makes of a script, its runs, and its statuses.
use Rattle.std.proofs.Common.{◌≡◌, ◌≤◌, ◌∙◌, refl, sym, ap, subst, ℕ, true, List, Option, None}
use Rattle.std.specs.Prelude.{IfSome, Result, Ok, [], ◌∷◌}
use Rattle.std.specs.List.{list_all}
use Rattle.std.proofs.lemmas.Bool.{and_from, and_parts}
use Rattle.sb_book.specs.Histories.{Setting, setting_of}
use Rattle.sb_book.specs.Readiness.{IsReady}
use Rattle.sb_book.specs.ReadyScripts.{Ready}
use Rattle.sb_core.specs.Runs.{CanRun, ran}
use Rattle.sb_core.specs.declared.runs.Ran.{Ran}
use Rattle.sb_kernel.specs.Namespaces.{Space}
use Rattle.sb_kernel.specs.Openings.{opening}
use Rattle.sb_local.specs.Laws.{ActorsStay, SettingsStay, ThinnedRunsAreSerial, ThinnedScriptsAreReady}
use Rattle.sb_local.specs.Lines.{denial_lines}
use Rattle.sb_local.specs.Serial.{HasOneThread, serial}
use Rattle.sb_local.specs.Thinning.{thin}
use Rattle.sb_local.specs.declared.denials.LocalDenial.{LocalDenial}
use Rattle.sb_rule.specs.declared.policies.Policy.{Policy}
use Rattle.sb_ruletext.specs.Laws.{ReadPoliciesAreWellMade}
use Rattle.sb_scripttext.specs.ScheduleLaws.{ActorsAreThere}
use Rattle.sb_scripttext.specs.Readiness.{ReadScriptsAreReady}
use Rattle.sb_statements.specs.Actors.{is_step_there}
use Rattle.sb_statements.specs.declared.schedules.Actor.{Actor}
use Rattle.sb_statements.specs.declared.schedules.Schedule.{Schedule}
use Rattle.sb_statements.specs.declared.statements.Statement.{Statement}
use Rattle.sb_statements.specs.declared.scripts.Script.{Script}
use Rattle.sb_text.specs.Steps.{◌>>=◌}
use Rattle.sb_plain.specs.Contents.{Content, FileContent, ShownRefusal, most_bytes, policies_in, schedule_if, script_in}
use Rattle.sb_plain.specs.Ends.{End, Plain}
use Rattle.sb_plain.specs.Local.{LocalRunsAreSerial, local_end, local_run_end, reported_after, thinned}
use Rattle.sb_plain.specs.Readings.{reported}
use Rattle.sb_plain.specs.Replay.{whole_run}
use Rattle.sb_plain.specs.ScriptEnds.{ends, script_read}
use Rattle.sb_plain.specs.Sound.{AreEndsSound, IsSound, RunsAreSound}
use Rattle.sb_plain.proofs.Readings.{bound, same_end, script_known, steps_there}
use Rattle.sb_plain.proofs.ScriptEnds.{each_end, read_parts}
use Rattle.sb_plain.proofs.Suiting.{IsSuited, of_schedule, script_suited}

-- ---- what a script that was read is made into

-- what is sent and denied of a script that is written, by who judges it
pub record IsThinnedTo (written : Ready) (judged : List Policy) (sent : Ready) (denied : List LocalDenial) : Type 0 where
  pub judges : judged ≡ (setting_of written.policies written.script).policies
  pub policies : sent.policies ≡ written.policies
  pub script : sent.script ≡ (thinned written.policies written.script).script
  pub denials : denied ≡ (thinned written.policies written.script).denied

-- its parts, from what thinning gave
pub thinned_to : (written sent : Ready) (judged : List Policy) (denied : List LocalDenial) → judged ≡ (setting_of written.policies written.script).policies
    → sent.policies ≡ written.policies → sent.script ≡ (thin judged written.script).script → denied ≡ (thin judged written.script).denied
    → IsThinnedTo written judged sent denied
unfolding thinned
thinned_to written sent judged denied j p s d = record {
  judges = j;
  policies = p;
  script = s ∙ ap (λ js. (thin js written.script).script) j;
  denials = d ∙ ap (λ js. (thin js written.script).denied) j;
}

-- what is sent opens as the script does
pub opens_as_written : (written sent : Ready) (judged : List Policy) (denied : List LocalDenial) → IsThinnedTo written judged sent denied
    → (kernel : Space) → kernel ≡ opening written.script.start → kernel ≡ opening sent.script.start
unfolding thinned
opens_as_written written sent judged denied h kernel e = e ∙ ap (λ (s : Script). opening s.start) (sym h.script)

-- who judges its targets judges those of what is sent
pub judges_sent : SettingsStay → (written sent : Ready) (judged : List Policy) (denied : List LocalDenial) → IsThinnedTo written judged sent denied
    → judged ≡ (setting_of sent.policies sent.script).policies
unfolding thinned
judges_sent law written sent judged denied h =
    let same : setting_of sent.policies sent.script ≡ setting_of written.policies (thinned written.policies written.script).script =
    ap (λ ps. setting_of ps sent.script) h.policies ∙ ap (λ s. setting_of written.policies s) h.script in
    let stays : setting_of sent.policies sent.script ≡ setting_of written.policies written.script =
    same ∙ law (setting_of written.policies written.script).policies written.policies written.script in
    h.judges ∙ sym (ap (λ (x : Setting). x.policies) stays)

-- the end of the run of what is sent is that of the command
pub local_ended : (written sent : Ready) (judged : List Policy) (denied : List LocalDenial) → IsThinnedTo written judged sent denied
    → (schedule : Schedule) (r : Ran) → r ≡ ran sent.policies sent.script schedule
    → reported_after (denial_lines written.script denied) sent.script r ≡ reported (local_run_end written.policies written.script schedule)
unfolding whole_run
local_ended written sent judged denied h schedule r is =
    let t = thinned written.policies written.script in
    let whole : r ≡ whole_run written.policies t.script schedule =
    is ∙ (ap (λ ps. ran ps sent.script schedule) h.policies ∙ ap (λ s. ran written.policies s schedule) h.script) in
    ap (λ d. reported_after (denial_lines written.script d) sent.script r) h.denials
    ∙ (ap (λ s. reported_after (denial_lines written.script t.denied) s r) h.script
    ∙ ap (λ x. reported_after (denial_lines written.script t.denied) t.script x) whole)

-- the actors of the steps are those of what is sent
pub steps_stay : ActorsStay → (judged : List Policy) (script : Script) (steps : List (Actor × ℕ)) → list_all (is_step_there script.targets) steps ≡ true
    → list_all (is_step_there (thin judged script).script.targets) steps ≡ true
steps_stay law judged script [] h = refl
steps_stay law judged script (step ∷ steps) h =
    let parts = and_parts (is_step_there script.targets step) (list_all (is_step_there script.targets) steps) h in
    and_from (is_step_there (thin judged script).script.targets step) (list_all (is_step_there (thin judged script).script.targets) steps)
    (law judged script step.0 ∙ parts.0) (steps_stay law judged script steps parts.1)

-- so a schedule of the actors of the script is one of those of what is sent
pub sent_there : ActorsStay → (written sent : Ready) (judged : List Policy) (denied : List LocalDenial) → IsThinnedTo written judged sent denied
    → (steps : List (Actor × ℕ)) → list_all (is_step_there written.script.targets) steps ≡ true → list_all (is_step_there sent.script.targets) steps ≡ true
unfolding thinned
sent_there law written sent judged denied h steps e =
    subst (λ (s : Script). list_all (is_step_there s.targets) steps ≡ true) (sym h.script) (steps_stay law (setting_of written.policies written.script).policies written.script steps e)

-- ---- its runs

-- a script that is ready for policies is so without the calls that its targets deny themselves
thinned_ready : ThinnedScriptsAreReady → (policies : List Policy) (script : Script) → IsReady policies script
    → IsReady policies (thinned policies script).script
unfolding thinned
thinned_ready law policies script ready = law (setting_of policies script).policies policies script ready

module _ (made : ReadPoliciesAreWellMade) (ready : ReadScriptsAreReady) (there : ActorsAreThere) (thin_law : ThinnedScriptsAreReady) (actors : ActorsStay) where
  -- what the targets of a script that was read send can be run by a schedule that was read for it
  local_can_run : (p s : Content) (text : Option FileContent) (ps : List Policy) (script : Script) (schedule : Schedule) → policies_in p ≡ Ok ps
      → script_in ps s ≡ Ok script → schedule_if script text ≡ Ok schedule → CanRun ps (thinned ps script).script schedule
  unfolding thinned
  local_can_run p s text ps script schedule e f g = record {
    ready = thinned_ready thin_law ps script (script_known made ready p s ps script e f);
    there = steps_stay actors (setting_of ps script).policies script schedule.steps (steps_there there script text schedule g);
  }

  -- the run of each end is sound
  pub local_sound : RunsAreSound → AreEndsSound (Plain local_end)
  local_sound law =
      each_end most_bytes schedule_if (ends local_run_end) (λ (x : End). IfSome x.run IsSound)
      (λ first second files r reached parts e.
      subst (λ (x : End). IfSome x.run IsSound) (same_end (local_run_end r.0.policies r.0.script r.1) reached e)
      (law r.0.policies (thinned r.0.policies r.0.script).script r.1
      (local_can_run first second parts.text r.0.policies r.0.script r.1 parts.policies parts.script parts.value)))

  -- and the run of one thread of calls leads to the namespace of the script as it was written
  pub local_serial : ThinnedRunsAreSerial → LocalRunsAreSerial
  unfolding thinned whole_run
  local_serial law policy file files policies script t statements end e f one is =
      let r = bound (script_read most_bytes schedule_if (policy ∷ file ∷ files)) (λ x. Ok (local_run_end x.0.policies x.0.script x.1)) end is in
      let parts = read_parts most_bytes schedule_if policy file files r.0 r.1 in
      let ps : policies ≡ r.0.0.policies = same_policies policies r.0.0.policies (sym e ∙ parts.policies) in
      let read : script ≡ r.0.0.script = same_script script r.0.0.script (sym f ∙ ap (λ p. script_in p file) ps ∙ parts.script) in
      let can = local_can_run policy file parts.text r.0.0.policies r.0.0.script r.0.1 parts.policies parts.script parts.value in
      let Goal : List Policy → Script → End → Type 0 = λ p s x. IfSome x.run (λ run. run.ran.unfinished ≡ None → run.ran.report.kernel ≡ serial (setting_of p s).policies s) in
      let One : Script → Type 0 = λ s. HasOneThread s t statements in
      let made_so : Goal r.0.0.policies r.0.0.script (local_run_end r.0.0.policies r.0.0.script r.0.1) =
      law r.0.0.policies r.0.0.script r.0.1 t statements (script_known made ready policy file r.0.0.policies r.0.0.script parts.policies parts.script) (subst One read one) can in
      let ended : Goal r.0.0.policies r.0.0.script end = subst (Goal r.0.0.policies r.0.0.script) (same_end (local_run_end r.0.0.policies r.0.0.script r.0.1) end r.2) made_so in
      subst (λ p. Goal p script end) (sym ps) (subst (λ s. Goal r.0.0.policies s end) (sym read) ended)
    where
      same_policies : (a b : List Policy) → ◌≡◌ {A = Result (List Policy) ShownRefusal} (Ok a) (Ok b) → a ≡ b
      same_policies a b h = cc

      same_script : (a b : Script) → ◌≡◌ {A = Result Script ShownRefusal} (Ok a) (Ok b) → a ≡ b
      same_script a b h = cc

-- ---- its statuses

-- of two files and of three
pub local_suited : (files : ℕ) → 2 ≤ files → IsSuited files local_end
local_suited files least =
    script_suited files most_bytes schedule_if (ends local_run_end) least (λ script text third. of_schedule files script text third)
    (λ policies script text schedule third e. tt)
