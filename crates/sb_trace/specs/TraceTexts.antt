-- The lines of a trace, to the byte.
use Rattle.std.specs.Prelude.{ℕ, zero, suc, ◌-◌, ◌==◌, List, [], ◌∷◌, ◌++◌, length, map, Option, Some, Result, Ok, Err, codes, if◌then◌else◌}
use Rattle.std.specs.Fmt.{decimal}
use Rattle.std.specs.List.{flat_map}
use Rattle.sb_base.specs.Numbers.{hexadecimal}
use Rattle.sb_block.specs.Calls.{decoded}
use Rattle.sb_block.specs.declared.calls.Call.{Call}
use Rattle.sb_block.specs.declared.faults.BlockFault.{BlockFault}
use Rattle.sb_book.specs.declared.entries.Entry.{Entry}
use Rattle.sb_call.specs.CallWords.{call_word}
use Rattle.sb_call.specs.declared.arguments.Arg.{Arg}
use Rattle.sb_call.specs.declared.tags.CallTag.{CallTag}
use Rattle.sb_trace.specs.Folding.{TraceLine, told, trace_lines}
use Rattle.sb_trace.specs.Phases.{Phase, WordPhase, Ending, GoesOn, Filled, Whole, Waits, Try, Send, Wait, Free, Abandon, Direct, Look, Count, End, Word, Take, Answer, Give, Ack, Fill, Copy, Reply, Fetch}
use Rattle.sb_trace.specs.Steps.{steps_of_run}
use Rattle.sb_rule.specs.declared.policies.Policy.{Policy}
use Rattle.sb_statements.specs.declared.schedules.Actor.{Actor}
use Rattle.sb_statements.specs.declared.schedules.Actor.TheVariants as actor
use Rattle.sb_statements.specs.declared.schedules.Schedule.{Schedule}
use Rattle.sb_statements.specs.declared.scripts.Script.{Script}
use Rattle.sb_statements.specs.declared.statements.Statement.{Statement}
use Rattle.sb_statements.specs.declared.statements.Statement.TheVariants as statement
use Rattle.sb_statements.specs.declared.statements.Word.{Word as ChannelWord}
use Rattle.sb_transcript.specs.Fields.{all_after, argument_text, decision_fields, fault_text, reply_fields}
use Rattle.sb_transcript.specs.Printed.{shown_decision, shown_reply}

-- an actor, as in a schedule: the worker of target T is `bT`, thread K of target T is `tT.K`
abbrev pub actor_text : Actor → List ℕ
actor_text (actor.Worker target) = codes "b" ++ decimal target
actor_text (actor.Thread target thread) = codes "t" ++ decimal target ++ codes "." ++ decimal thread

-- the target of an actor
abbrev pub target_of : Actor → ℕ
target_of (actor.Worker target) = target
target_of (actor.Thread target thread) = target

-- channel C of the actor's own target: `cC`
abbrev pub channel_text : ℕ → List ℕ
channel_text c = codes "c" ++ decimal c

-- channel C of target T, which a statement names: `cC` if it is the thread's own target, else `cT.C`
abbrev pub named_channel : ℕ → ℕ → ℕ → List ℕ
named_channel own target c = if own == target then channel_text c else codes "c" ++ decimal target ++ codes "." ++ decimal c

-- a word in hexadecimal after `0x`
abbrev pub word_text : ℕ → List ℕ
word_text n = codes "0x" ++ hexadecimal n

-- a value of the word at this place of a channel: that of the state in decimal, that of a block word in hexadecimal
abbrev pub value_text : ℕ → ℕ → List ℕ
value_text at value = if at == 0 then decimal value else word_text value

-- the word at this place of a channel: `state`, or the number of the block word
abbrev pub place_text : ℕ → List ℕ
place_text at = if at == 0 then codes "state" else decimal (at - 1)

-- a channel and a word that a statement names
abbrev pub named_text : ℕ → ℕ → ChannelWord → List ℕ
named_text own target word = codes " " ++ named_channel own target word.channel ++ codes " " ++ place_text word.at

-- what a statement does directly, and what it found
abbrev pub direct_text : ℕ → Statement → ℕ → List ℕ
direct_text own (statement.Store target word value) found =
    codes "store" ++ named_text own target word ++ codes " " ++ value_text word.at value ++ codes " direct"
direct_text own (statement.Exchange target word from to) found =
    codes "exchange" ++ named_text own target word ++ codes " " ++ value_text word.at from ++ codes " -> " ++ value_text word.at to
    ++ codes " found " ++ value_text word.at found ++ codes " direct"
direct_text own (statement.Load target word) found = codes "load" ++ named_text own target word ++ codes " found " ++ value_text word.at found
direct_text own (statement.Wait target word value most) found = codes "wait" ++ named_text own target word ++ codes " found " ++ value_text word.at found
direct_text own (statement.Call tag args) found = codes "call"

-- a call, after a blank
abbrev pub call_text : CallTag → List Arg → List ℕ
call_text tag args = codes " " ++ call_word tag ++ flat_map argument_text args

-- the call of a copy, or its fault
abbrev pub copy_text : Result Call BlockFault → List ℕ
copy_text (Ok call) = call_text call.tag call.args
copy_text (Err fault) = fault_text fault

-- the call of a statement
abbrev pub statement_text : Option Statement → List ℕ
statement_text (Some (statement.Call tag args)) = call_text tag args
statement_text _ = []

-- what ends with a step
abbrev pub ending_text : Ending → List ℕ
ending_text GoesOn = []
ending_text (Filled found) = statement_text found
ending_text (Whole taken) = copy_text (decoded taken)

-- the word of a phase
abbrev pub words_text : WordPhase → List ℕ
words_text Fill = codes "fill "
words_text Copy = codes "copy "
words_text Reply = codes "reply "
words_text Fetch = codes "fetch "

-- a word, or the first and the last of several
abbrev pub range_text : ℕ → ℕ → List ℕ
range_text i j = if i == j then decimal i else decimal i ++ codes ".." ++ decimal j

-- the last of words
abbrev pub last_word : ℕ → Phase → ℕ
last_word i (Word words c j ending) = j
last_word i _ = i

-- what ends with the last of them
abbrev pub last_ending : Phase → Ending
last_ending (Word words c j ending) = ending
last_ending _ = GoesOn

-- an exchange of a channel's state: what it expects, what it stores, and what it found if that is another value
abbrev pub exchange_text : ℕ → ℕ → ℕ → List ℕ
exchange_text from to found =
    codes " state " ++ decimal from ++ codes " -> " ++ decimal to ++ (if found == from then [] else codes " found " ++ decimal found)

-- what the line of an entry in a transcript tells from the decision on, after a blank
abbrev pub decision_text : Entry → List ℕ
decision_text e = all_after 32 (decision_fields (shown_decision e.decision) ++ codes "reply" ∷ reply_fields (shown_reply e.reply))

-- the same of entry n of these
abbrev pub answer_text : ℕ → List Entry → List ℕ
answer_text n [] = []
answer_text zero (e ∷ es) = decision_text e
answer_text (suc n) (e ∷ es) = answer_text n es

-- the phase of a line, from its first step to its last
abbrev pub phase_text : ℕ → ℕ → Phase → Phase → List ℕ
phase_text own count Waits last = codes "waits " ++ decimal count ++ codes " times"
phase_text own count (Try c) last = codes "try " ++ channel_text c ++ exchange_text 1 2 1
phase_text own count (Send c found) last = codes "send " ++ channel_text c ++ exchange_text 2 3 found
phase_text own count (Wait c) last = codes "wait " ++ channel_text c ++ codes " state 4"
phase_text own count (Free c) last = codes "free " ++ channel_text c ++ codes " state 1"
phase_text own count (Abandon c) last = codes "abandon " ++ channel_text c ++ codes " state 5"
phase_text own count (Direct made found) last = direct_text own made found
phase_text own count (Look c) last = codes "look " ++ channel_text c ++ codes " state 3"
phase_text own count (Count c n ending) last = codes "count " ++ channel_text c ++ codes " 2: n " ++ decimal n ++ ending_text ending
phase_text own count (End c i end ending) last =
    codes "end " ++ channel_text c ++ codes " " ++ decimal i ++ codes ": end " ++ decimal end ++ ending_text ending
phase_text own count (Word words c i ending) last =
    words_text words ++ channel_text c ++ codes " " ++ range_text i (last_word i last) ++ ending_text (last_ending last)
phase_text own count Take last = codes "take turn taken"
phase_text own count (Answer n entries) last = codes "answer entry " ++ decimal n ++ answer_text n entries
phase_text own count Give last = codes "give turn given"
phase_text own count (Ack c found) last = codes "ack " ++ channel_text c ++ exchange_text 3 4 found

-- the last of numbers
abbrev pub last_of : ℕ → List ℕ → ℕ
last_of n [] = n
last_of n (m ∷ more) = last_of m more

-- the numbers of a line: `N`, or `N-M`
abbrev pub numbers_text : List ℕ → List ℕ
numbers_text [] = []
numbers_text (n ∷ []) = decimal n
numbers_text (n ∷ m ∷ more) = decimal n ++ codes "-" ++ decimal (last_of m more)

-- a line: its numbers, its actor, and its phase
abbrev pub line_text : TraceLine → List ℕ
line_text line =
    numbers_text line.numbers ++ codes " " ++ actor_text line.actor ++ codes " "
    ++ phase_text (target_of line.actor) (length line.numbers) line.phase line.last ++ codes "\n"

-- the lines of a run's trace
abbrev pub lines_of_run : List Policy → Script → Schedule → List (List ℕ)
lines_of_run policies script schedule = map line_text (trace_lines (map (told script) (steps_of_run policies script schedule)))
