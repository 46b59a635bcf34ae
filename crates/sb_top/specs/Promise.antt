-- The promise of the program: what is true of a command that is done, and of what it wrote.
use Rattle.std.specs.Prelude.{◌≡◌, ⊤, ℕ, List, [], ◌∷◌, ◌++◌, slice_get, Some, IsOkAnd, Result, Ok}
use Rattle.sb_block.specs.Calls.{call_of}
use Rattle.sb_book.specs.Histories.{setting_of}
use Rattle.sb_book.specs.Laws.{IsAllowed}
use Rattle.sb_book.specs.declared.decisions.Decision.TheVariants.{Performed}
use Rattle.sb_book.specs.declared.entries.Entry.{Entry}
use Rattle.sb_book.specs.declared.reports.Report.{Report}
use Rattle.sb_call.specs.Tags.{shape_of}
use Rattle.sb_call.specs.declared.arguments.Arg.{Arg}
use Rattle.sb_call.specs.declared.tags.CallTag.{CallTag}
use Rattle.sb_commands.specs.Commands.{Command, plain_files, threaded_files}
use Rattle.sb_commands.specs.NumberWords.{number_of}
use Rattle.sb_commands.specs.Usage.{Fault, Values}
use Rattle.sb_commands.specs.declared.works.PlainWork.TheVariants.{Dup, Linked, Local, Replay}
use Rattle.sb_commands.specs.declared.works.ThreadedWork.TheVariants.{Make, Run}
use Rattle.sb_commands.specs.declared.works.Work.{Work}
use Rattle.sb_commands.specs.declared.works.Work.TheVariants.{Plain, Threaded}
use Rattle.sb_dup.specs.MoveLines.{lines_of_moves}
use Rattle.sb_dup.specs.declared.moves.Move.{Move}
use Rattle.sb_gen.specs.Scripts.{script_of}
use Rattle.sb_link.specs.Answers.{AreResolved}
use Rattle.sb_link.specs.LinkedLaws.{IsLogOf}
use Rattle.sb_link.specs.Lines.{linked_text}
use Rattle.sb_link.specs.ScriptCalls.{asked_by, script_answered}
use Rattle.sb_link.specs.declared.links.Link.{Link}
use Rattle.sb_local.specs.Lines.{denial_lines}
use Rattle.sb_local.specs.Thinning.{thin}
use Rattle.sb_outside.specs.Outside.{GrowsBy}
use Rattle.sb_rule.specs.declared.actions.Action.{Action}
use Rattle.sb_rule.specs.declared.policies.Policy.{Policy}
use Rattle.sb_statements.specs.declared.schedules.Schedule.{Schedule}
use Rattle.sb_statements.specs.declared.scripts.Script.{Script}
use Rattle.sb_transcript.specs.Totals.{totals_line}
use Rattle.sb_plain.specs.Contents.{Content, Contents, alone, no_schedule, policies_in, script_in}
use Rattle.sb_plain.specs.Dup.{answers_after, moves_in}
use Rattle.sb_plain.specs.Effects.{Effect}
use Rattle.sb_plain.specs.Ends.{AreContents}
use Rattle.sb_plain.specs.Linked.{links_in}
use Rattle.sb_plain.specs.Replay.{schedule_of}
use Rattle.sb_plain.specs.declared.outcomes.Outcome.{Outcome}
use Rattle.sb_message.specs.declared.statuses.Status.TheVariants.{Done}
use Rattle.sb_top.specs.Make.{made_line, made_policies}
use Rattle.sb_top.specs.PromisedRuns.{IsPromisedRun, IsTranscript, policy_for}
use Rattle.sb_top.specs.Top.{EndsAsMeant}

-- ---- the commands

-- policies and a script that are read of the first two files, and the files after them
pub record AreOpened (contents : Contents) (policies : List Policy) (script : Script) (rest : Contents) : Type 0 where
  pub first : Content
  pub second : Content
  pub are : contents ≡ first ∷ second ∷ rest
  pub policies_read : policies_in first ≡ Ok policies
  pub script_read : script_in policies second ≡ Ok script

module _ {G S : Type 0} where
  -- `replay` is done: of some contents of its files, those that they are known to hold, policies, a script and a schedule are read; the report is that of the run
  -- by them, which is as promised; and what was written is its transcript
  pub record IsReplayAsPromised (names : List (List ℕ)) (e : Effect G S) (o : Outcome) : Type 0 where
    pub contents : Contents
    pub held : AreContents e.held names contents
    pub policies : List Policy
    pub script : Script
    pub rest : Contents
    pub opened : AreOpened contents policies script rest
    pub schedule : Schedule
    pub schedule_read : schedule_of script rest ≡ Ok schedule
    pub report : Report
    pub reported : o.report ≡ Some report
    pub run : IsPromisedRun policies script schedule report
    pub text : List ℕ
    pub transcript : IsTranscript script report text
    pub written : GrowsBy e.written (e.pending ++ text) e.written'

  -- `run` is done: the same of policies and a script, and of some order of steps, without rounds
  pub record IsThreadedRunAsPromised (names : List (List ℕ)) (e : Effect G S) (o : Outcome) : Type 0 where
    pub contents : Contents
    pub held : AreContents e.held names contents
    pub policies : List Policy
    pub script : Script
    pub opened : AreOpened contents policies script []
    pub order : Schedule
    pub no_rounds : order.rounds ≡ 0
    pub report : Report
    pub reported : o.report ≡ Some report
    pub run : IsPromisedRun policies script order report
    pub text : List ℕ
    pub transcript : IsTranscript script report text
    pub written : GrowsBy e.written (e.pending ++ text) e.written'

  -- `make` is done: the same of the fixed policies, the script that is made of its three numbers, and some order of steps; what was written is the line of what was
  -- made, and the totals of the report
  pub record IsMakeAsPromised (seed targets calls : ℕ) (e : Effect G S) (o : Outcome) : Type 0 where
    pub order : Schedule
    pub no_rounds : order.rounds ≡ 0
    pub report : Report
    pub reported : o.report ≡ Some report
    pub run : IsPromisedRun made_policies (script_of seed targets calls) order report
    pub written : GrowsBy e.written (e.pending ++ (made_line targets calls ++ totals_line report)) e.written'

  -- ---- the commands that run a script and do more

  -- `local` is done: the run is that of the script without the calls that its targets deny themselves, by a schedule of that; and what was written is the lines of
  -- these calls, and then the transcript
  pub record IsLocalAsPromised (names : List (List ℕ)) (e : Effect G S) (o : Outcome) : Type 0 where
    pub contents : Contents
    pub held : AreContents e.held names contents
    pub policies : List Policy
    pub script : Script
    pub rest : Contents
    pub opened : AreOpened contents policies script rest
    pub sent : Script
    pub thinned : sent ≡ (thin (setting_of policies script).policies script).script
    pub schedule : Schedule
    pub schedule_read : schedule_of sent rest ≡ Ok schedule
    pub report : Report
    pub reported : o.report ≡ Some report
    pub run : IsPromisedRun policies sent schedule report
    pub text : List ℕ
    pub transcript : IsTranscript sent report text
    pub written : GrowsBy e.written (e.pending ++ (denial_lines script (thin (setting_of policies script).policies script).denied ++ text)) e.written'

  -- `dup` is done: the run is that of the script without a schedule; and what was written is the transcript, and then the lines of the moves, which are answered in
  -- order from the namespace and the handles of the report
  pub record IsDupAsPromised (names : List (List ℕ)) (e : Effect G S) (o : Outcome) : Type 0 where
    pub contents : Contents
    pub held : AreContents e.held names contents
    pub policies : List Policy
    pub script : Script
    pub rest : Contents
    pub opened : AreOpened contents policies script rest
    pub moves : List Move
    pub moves_read : alone 3 (moves_in script) rest ≡ Ok moves
    pub schedule : Schedule
    pub default : schedule ≡ no_schedule
    pub report : Report
    pub reported : o.report ≡ Some report
    pub run : IsPromisedRun policies script schedule report
    pub text : List ℕ
    pub transcript : IsTranscript script report text
    pub written : GrowsBy e.written (e.pending ++ (text ++ lines_of_moves script (answers_after (setting_of policies script).policies moves report))) e.written'

  -- `linked` is done: policies, a script and links are read. The log of the answers has one item for each call of the script, in order. Each call that was performed
  -- is allowed by the policy of its target on its resolved names, and each of these names is its own resolution. What was written is the lines of the log
  pub record IsLinkedAsPromised (names : List (List ℕ)) (e : Effect G S) (o : Outcome) : Type 0 where
    pub contents : Contents
    pub held : AreContents e.held names contents
    pub policies : List Policy
    pub script : Script
    pub rest : Contents
    pub opened : AreOpened contents policies script rest
    pub links : List Link
    pub links_read : alone 3 links_in rest ≡ Ok links
    pub log : IsLogOf links 0 (script_answered policies script links).history.entries (asked_by script) (script_answered policies script links).log
    pub performed : (n : ℕ) (entry : Entry) (tag : CallTag) (line : ℕ) (action : Action) (args : List Arg)
        → slice_get (script_answered policies script links).history.entries n ≡ Some entry → entry.decision ≡ Performed tag line action args
        → IsAllowed (policy_for policies script entry.target) (call_of entry.taken) tag line action args × AreResolved links (shape_of tag) args
    pub written : GrowsBy e.written (e.pending ++ linked_text policies script links) e.written'

  -- ---- every command

  -- what is promised of a command that is done, by its work and the values of its arguments. The others decide no call
  abbrev pub IsAsPromised : Work → Values → Effect G S → Outcome → Type 0
  IsAsPromised (Plain Replay) values e o = IsReplayAsPromised (plain_files Replay values) e o
  IsAsPromised (Threaded Run) values e o = IsThreadedRunAsPromised (threaded_files Run values) e o
  IsAsPromised (Threaded Make) values e o = IsMakeAsPromised (number_of values.first) (number_of values.second) (number_of values.third) e o
  IsAsPromised (Plain Local) values e o = IsLocalAsPromised (plain_files Local values) e o
  IsAsPromised (Plain Dup) values e o = IsDupAsPromised (plain_files Dup values) e o
  IsAsPromised (Plain Linked) values e o = IsLinkedAsPromised (plain_files Linked values) e o
  IsAsPromised work values e o = ⊤

-- arguments with which the program is done are a command, and it is as promised
abbrev pub PromiseIsKept : Type 0 → Type 0 → Type 0
PromiseIsKept G S = (wanted : Result Command Fault) (e : Effect G S) (o : Outcome) → EndsAsMeant wanted e o → o.status ≡ Done
    → IsOkAnd wanted (λ command. IsAsPromised command.work command.values e o)
