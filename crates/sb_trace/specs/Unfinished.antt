-- The lines of a trace, or of explained decisions, that tell of the threads that a run leaves unfinished.
use Rattle.std.specs.Prelude.{ℕ, ◌+◌, ◌==◌, ◌&&◌, List, [], ◌∷◌, ◌++◌, Option, None, Some, codes, if◌then◌else◌}
use Rattle.std.specs.Fmt.{decimal}
use Rattle.std.specs.Option.{option_or}
use Rattle.sb_actor.specs.Acts.{value_in}
use Rattle.sb_actor.specs.Places.{is_finished, statement_at}
use Rattle.sb_actor.specs.ThreadStages.{ThreadAt, ThreadStage, Try, Fill, Send, Wait, Fetch, Free, Abandon, Stray, Over}
use Rattle.sb_actor.specs.ThreadTable.{thread_plan}
use Rattle.sb_actor.specs.declared.acts.Act.{Act}
use Rattle.sb_actor.specs.declared.acts.Act.TheVariants as act
use Rattle.sb_core.specs.Runs.{played}
use Rattle.sb_core.specs.Shared.{on_word}
use Rattle.sb_core.specs.Threads.{RunAt}
use Rattle.sb_core.specs.Worlds.{run_at}
use Rattle.sb_rule.specs.declared.policies.Policy.{Policy}
use Rattle.sb_statements.specs.Scripts.{target_name}
use Rattle.sb_statements.specs.declared.schedules.Actor.{Actor}
use Rattle.sb_statements.specs.declared.schedules.Actor.TheVariants as actor
use Rattle.sb_statements.specs.declared.schedules.Schedule.{Schedule}
use Rattle.sb_statements.specs.declared.scripts.Script.{Script}
use Rattle.sb_statements.specs.declared.statements.Statement.{Statement}
use Rattle.sb_statements.specs.declared.statements.Statement.TheVariants as statement
use Rattle.sb_trace.specs.Steps.{StepAt, steps_of_run}
use Rattle.sb_trace.specs.TraceTexts.{channel_text, named_channel}

-- what a step on the state of a channel finds: a load or an exchange finds its value, a store nothing
abbrev pub state_found : Act → ℕ → Option ℕ
state_found (act.Load target word) found = if word.at == 0 then Some found else None
state_found (act.Exchange target word from to) found = if word.at == 0 then Some found else None
state_found _ found = None

-- the same of a step of this thread
abbrev pub found_by : Script → ℕ → ℕ → StepAt → Actor → Option ℕ
found_by script t k s (actor.Worker target) = None
found_by script t k s (actor.Thread target thread) =
    if target == t && thread == k
    then state_found (thread_plan script (run_at s.before t k).thread) (value_in (on_word s.before.shared (thread_plan script (run_at s.before t k).thread)).seen)
    else None

-- the state that this thread found last in these steps
abbrev pub last_state : Script → ℕ → ℕ → List StepAt → Option ℕ
last_state script t k [] = None
last_state script t k (s ∷ more) = option_or (last_state script t k more) (found_by script t k s s.actor)

-- the word of a statement's phase, with its channel
abbrev pub statement_phase : ℕ → Option Statement → List ℕ
statement_phase own (Some (statement.Store target word value)) = codes "store " ++ named_channel own target word.channel
statement_phase own (Some (statement.Exchange target word from to)) = codes "exchange " ++ named_channel own target word.channel
statement_phase own (Some (statement.Load target word)) = codes "load " ++ named_channel own target word.channel
statement_phase own (Some (statement.Wait target word value most)) = codes "wait " ++ named_channel own target word.channel
statement_phase own _ = []

-- the word of a thread's phase, with its channel
abbrev pub stage_phase : Script → ThreadAt → ThreadStage → List ℕ
stage_phase script x (Try c rounds all_abandoned) = codes "try " ++ channel_text c
stage_phase script x (Fill c i) = codes "fill " ++ channel_text c
stage_phase script x (Send c) = codes "send " ++ channel_text c
stage_phase script x (Wait c loads) = codes "wait " ++ channel_text c
stage_phase script x (Fetch c words) = codes "fetch " ++ channel_text c
stage_phase script x (Free c words) = codes "free " ++ channel_text c
stage_phase script x (Abandon c) = codes "abandon " ++ channel_text c
stage_phase script x (Stray loads most) = statement_phase x.target (statement_at script x.target x.thread x.place)
stage_phase script x Over = []

-- the state that was found last, if there is one
abbrev pub state_text : Option ℕ → List ℕ
state_text None = []
state_text (Some state) = codes " state " ++ decimal state

-- `unfinished TARGET THREAD at PLACE: PHASE`, with the state that was found last
abbrev pub unfinished_line : Script → List StepAt → ThreadAt → List ℕ
unfinished_line script steps x =
    codes "unfinished " ++ target_name script x.target ++ codes " " ++ decimal x.thread ++ codes " at " ++ decimal x.place ++ codes ": "
    ++ stage_phase script x x.stage ++ state_text (last_state script x.target x.thread steps) ++ codes "\n"

-- a line for each of these threads with a statement that has not ended
abbrev pub unfinished_of : Script → List StepAt → List RunAt → List (List ℕ)
unfinished_of script steps [] = []
unfinished_of script steps (x ∷ xs) =
    if is_finished script x.thread then unfinished_of script steps xs else unfinished_line script steps x.thread ∷ unfinished_of script steps xs

abbrev pub unfinished_in : Script → List StepAt → List (List RunAt) → List (List ℕ)
unfinished_in script steps [] = []
unfinished_in script steps (threads ∷ others) = unfinished_of script steps threads ++ unfinished_in script steps others

-- the lines of the threads that a run leaves unfinished, by target and thread
abbrev pub unfinished_lines : List Policy → Script → Schedule → List (List ℕ)
unfinished_lines policies script schedule =
    unfinished_in script (steps_of_run policies script schedule) (played policies script schedule).threads
