-- What is so far there of a script, as the reader keeps it, and what a line adds to it.
use Rattle.std.specs.Prelude.{ℕ, Bool, true, false, not, nat_lt, List, [], ◌∷◌, ◌++◌, length, Option, None, Some, Result, Ok, Err, if◌then◌else◌}
use Rattle.sb_statements.specs.Limits.{most_start_lines, most_targets, most_threads, most_statements}
use Rattle.sb_statements.specs.declared.scripts.StartLine.{StartLine}
use Rattle.sb_statements.specs.declared.scripts.TargetScript.{TargetScript}
use Rattle.sb_statements.specs.declared.statements.Statement.{Statement}
use Rattle.sb_statements.specs.declared.statements.Statement.TheVariants.{Call, Store, Exchange, Load, Wait}
use Rattle.sb_scripttext.specs.Openings.{can_place}
use Rattle.sb_scripttext.specs.StartFaults.{start_fault}
use Rattle.sb_text.specs.Steps.{◌>>=◌, later}
use Rattle.sb_text.specs.Tokens.{Lexemes, place_due}
use Rattle.sb_scripttext.specs.declared.drafts.Draft.{Draft}
use Rattle.sb_scripttext.specs.declared.drafts.Named.{Named}
use Rattle.sb_scripttext.specs.declared.drafts.StatementAt.{StatementAt}
use Rattle.sb_scripttext.specs.declared.faults.ScriptKind.{ScriptKind}
use Rattle.sb_scripttext.specs.declared.faults.ScriptKind.TheVariants.{UnknownWord, TooMany, BadStart}
use Rattle.sb_scripttext.specs.declared.faults.ScriptLimit.TheVariants.{Openings, Targets, Threads, Statements}
use Rattle.sb_text.specs.declared.refusals.WordFault.TheVariants.{Misplaced}

-- nothing is there
abbrev pub nothing : Draft
nothing = record { patience = None; start = []; targets = []; named = [] }

-- a list is empty
abbrev pub is_empty : {A : Type 0} → List A → Bool
is_empty [] = true
is_empty (x ∷ xs) = false

-- a list whose last value a step changes, or the fault of that step; if there is no value, no line may change it
abbrev pub change_last : {A : Type 0} → (A → Result A ScriptKind) → List A → Result (List A) ScriptKind
change_last step [] = Err (UnknownWord Misplaced)
change_last step (x ∷ []) = step x >>= λ changed. Ok (changed ∷ [])
change_last step (x ∷ y ∷ xs) = change_last step (y ∷ xs) >>= λ more. Ok (x ∷ more)

-- the threads of the last target, and none if there is no target
abbrev pub last_threads : List TargetScript → List (List Statement)
last_threads [] = []
last_threads (target ∷ []) = target.threads
last_threads (target ∷ next ∷ targets) = last_threads (next ∷ targets)

-- no target was read
abbrev pub is_opening : Draft → Bool
is_opening sofar = is_empty sofar.targets

-- the last target has a thread
abbrev pub is_in_thread : Draft → Bool
is_in_thread sofar = not (is_empty (last_threads sofar.targets))

-- with this patience
abbrev pub with_patience : Draft → ℕ → Draft
with_patience sofar patience = record sofar { patience = Some patience }

-- one more opening line, if it can be placed
abbrev pub with_start : Draft → StartLine → Result Draft ScriptKind
with_start sofar line =
    if can_place sofar.start line
    then (if nat_lt (length sofar.start) most_start_lines then Ok (record sofar { start = sofar.start ++ line ∷ [] }) else Err (TooMany Openings))
    else Err (BadStart (start_fault sofar.start line))

-- one more target
abbrev pub with_target : Draft → TargetScript → Result Draft ScriptKind
with_target sofar target =
    if nat_lt (length sofar.targets) most_targets then Ok (record sofar { targets = sofar.targets ++ target ∷ [] }) else Err (TooMany Targets)

-- a target with one more thread
abbrev pub one_thread_more : TargetScript → Result TargetScript ScriptKind
one_thread_more target =
    if nat_lt (length target.threads) most_threads then Ok (record target { threads = target.threads ++ [] ∷ [] }) else Err (TooMany Threads)

-- one more thread of the last target
abbrev pub with_thread : Draft → Result Draft ScriptKind
with_thread sofar = change_last one_thread_more sofar.targets >>= λ targets. Ok (record sofar { targets = targets })

-- a thread with one more statement
abbrev pub one_statement_more : Statement → List Statement → Result (List Statement) ScriptKind
one_statement_more statement statements =
    if nat_lt (length statements) most_statements then Ok (statements ++ statement ∷ []) else Err (TooMany Statements)

-- a target whose last thread has one more statement
abbrev pub in_last_thread : Statement → TargetScript → Result TargetScript ScriptKind
in_last_thread statement target =
    change_last (one_statement_more statement) target.threads >>= λ threads. Ok (record target { threads = threads })

-- where the statement of a line of this number is, whose tokens after its first word are these: T is the first of them, if it names a target, and C the second
abbrev pub statement_at : ℕ → Lexemes → StatementAt
statement_at number tokens = record { line = number; target = place_due tokens; channel = place_due (later tokens) }

-- the target and the channel that a statement there names. A call names none
abbrev pub named_by : StatementAt → Statement → List Named
named_by at (Call tag args) = []
named_by at (Store target word value) = record { at = at; target = target; channel = word.channel } ∷ []
named_by at (Exchange target word from to) = record { at = at; target = target; channel = word.channel } ∷ []
named_by at (Load target word) = record { at = at; target = target; channel = word.channel } ∷ []
named_by at (Wait target word value most) = record { at = at; target = target; channel = word.channel } ∷ []

-- one more statement of the last thread, with what it names there
abbrev pub with_statement : Draft → StatementAt → Statement → Result Draft ScriptKind
with_statement sofar at statement =
    change_last (in_last_thread statement) sofar.targets >>= λ targets. Ok (record sofar { targets = targets; named = sofar.named ++ named_by at statement })
