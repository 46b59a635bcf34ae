-- What holds of every command: the statuses with which it ends, and that the run of each of its ends is sound. A command has one line in each of the two.
use Rattle.std.proofs.Common.{◌≡◌, ◌∙◌, ap, sym, subst, length, ℕ, suc, List, Option, None, Some, lit≤}
use Rattle.std.specs.Prelude.{IfSome, ◌≤◌, Ok, Err, option_to_list}
use Rattle.sb_commands.specs.Commands.{Command, files_of}
use Rattle.sb_commands.specs.NumberWords.{number_of}
use Rattle.sb_commands.specs.Usage.{Values, fault_of}
use Rattle.sb_commands.specs.declared.works.PlainWork.TheVariants.{Audit, Check, Dup, Linked, Local, Replay}
use Rattle.sb_commands.specs.declared.works.ThreadedWork.TheVariants.{Make, Run}
use Rattle.sb_commands.specs.declared.works.Work.{Work}
use Rattle.sb_commands.specs.declared.works.Work.TheVariants.{Plain, Threaded}
use Rattle.sb_commands.specs.declared.usage_faults.UsageFault.{UsageFault}
use Rattle.sb_local.specs.Laws.{ActorsStay, ThinnedScriptsAreReady}
use Rattle.sb_message.specs.declared.statuses.Refusal.TheVariants.{Usage}
use Rattle.sb_message.specs.declared.statuses.Status.{Status}
use Rattle.sb_message.specs.declared.statuses.Status.TheVariants.{Refused}
use Rattle.sb_ruletext.specs.Laws.{ReadPoliciesAreWellMade}
use Rattle.sb_scripttext.specs.ScheduleLaws.{ActorsAreThere}
use Rattle.sb_scripttext.specs.Readiness.{ReadScriptsAreReady}
use Rattle.sb_top.specs.Laws.{StatusesAreOfCommands}
use Rattle.sb_plain.specs.Outcomes.{file_of}
use Rattle.sb_plain.specs.Sound.{AreEndsSound, RunsAreSound}
use Rattle.sb_top.specs.Sound.{ReportsAreSound}
use Rattle.sb_top.specs.Top.{meaning_of}
use Rattle.sb_plain.proofs.Auditing.{audit_sound, audit_suited}
use Rattle.sb_plain.proofs.Checking.{check_sound, check_suited}
use Rattle.sb_plain.proofs.Linking.{linked_sound, linked_suited}
use Rattle.sb_plain.proofs.LocalRuns.{local_sound, local_suited}
use Rattle.sb_top.proofs.Made.{make_sound, make_suited}
use Rattle.sb_plain.proofs.Moving.{dup_sound, dup_suited}
use Rattle.sb_plain.proofs.Replaying.{replay_sound, replay_suited}
use Rattle.sb_top.proofs.Running.{run_sound, run_suited}
use Rattle.sb_plain.proofs.Suiting.{AreSuited, ending_suits}

abbrev command : Work → Values → Command
command work values = record { work = work; values = values }

-- its refusals name its files, and its ends are plain
pub suited : (work : Work) (values : Values) → AreSuited (length (files_of (command work values))) (meaning_of (command work values))
suited (Plain Check) values = check_suited
suited (Plain Replay) values = by values.last
  where
    by : (last : Option (List ℕ)) → AreSuited (suc (suc (length (option_to_list last)))) (meaning_of (command (Plain Replay) values))
    by None = replay_suited 2 (lit≤ tt)
    by (Some name) = replay_suited 3 (lit≤ tt)
suited (Plain Linked) values = linked_suited
suited (Plain Dup) values = dup_suited
suited (Plain Local) values = by values.last
  where
    by : (last : Option (List ℕ)) → AreSuited (suc (suc (length (option_to_list last)))) (meaning_of (command (Plain Local) values))
    by None = local_suited 2 (lit≤ tt)
    by (Some name) = local_suited 3 (lit≤ tt)
suited (Plain Audit) values = audit_suited
suited (Threaded Run) values = run_suited
suited (Threaded Make) values = make_suited (number_of values.first) (number_of values.second) (number_of values.third)

-- the runs of its ends are sound
module _ (law : RunsAreSound) (made : ReadPoliciesAreWellMade) (ready : ReadScriptsAreReady) (there : ActorsAreThere) (thin : ThinnedScriptsAreReady) (actors : ActorsStay) where
  sound : (work : Work) (values : Values) → AreEndsSound (meaning_of (command work values))
  sound (Plain Check) values = check_sound
  sound (Plain Replay) values = replay_sound law made ready there
  sound (Plain Linked) values = linked_sound
  sound (Plain Dup) values = dup_sound law made ready
  sound (Plain Local) values = local_sound made ready there thin actors law
  sound (Plain Audit) values = audit_sound
  sound (Threaded Run) values = run_sound law
  sound (Threaded Make) values = make_sound law (number_of values.first) (number_of values.second) (number_of values.third)

pub reports_are_sound : RunsAreSound → ReadPoliciesAreWellMade → ReadScriptsAreReady → ActorsAreThere → ThinnedScriptsAreReady → ActorsStay → ReportsAreSound
reports_are_sound law made ready there thin actors c = sound law made ready there thin actors c.work c.values

same_fault : (a b : UsageFault) → ◌≡◌ {A = Status} (Refused (Usage a)) (Refused (Usage b)) → a ≡ b
same_fault a b e = cc

pub statuses_are_of_commands : (G S : Type 0) → StatusesAreOfCommands G S
unfolding StatusesAreOfCommands
statuses_are_of_commands G S (Ok found_command) e o h =
    let found = ending_suits e o (meaning_of found_command) (files_of found_command) (suited found_command.work found_command.values) h in
    ((λ fault is. absurd (found.0 fault is)), found.1)
statuses_are_of_commands G S (Err fault) e o h = (
  (λ found is. ap Err (sym h.same ∙ ap fault_of (same_fault h.found found (sym h.is.status ∙ is)))),
  subst (λ (s : Status). IfSome (file_of s) (λ n. (1 ≤ n) × (n ≤ 0))) (sym h.is.status) tt,
)
