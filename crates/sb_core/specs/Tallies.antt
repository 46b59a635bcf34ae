-- How many entries a channel has at most.
use Rattle.std.specs.Prelude.{◌≡◌, ◌<◌, ◌≤◌, ℕ, ◌+◌, ◌==◌, ◌&&◌, Bool, false, List, [], ◌∷◌, length, slice_get, Option, None, Some, if◌then◌else◌}
use Rattle.std.specs.List.{sum_by}
use Rattle.sb_actor.specs.Places.{statement_at}
use Rattle.sb_book.specs.declared.entries.Entry.{Entry}
use Rattle.sb_book.specs.declared.reports.Report.{Report}
use Rattle.sb_rule.specs.declared.policies.Policy.{Policy}
use Rattle.sb_statements.specs.Soundness.{channels_of}
use Rattle.sb_statements.specs.declared.results.CallResult.{CallResult}
use Rattle.sb_statements.specs.declared.results.CallResult.TheVariants as call
use Rattle.sb_statements.specs.declared.results.StmtResult.{StmtResult}
use Rattle.sb_statements.specs.declared.results.StmtResult.TheVariants as result
use Rattle.sb_statements.specs.declared.schedules.Schedule.{Schedule}
use Rattle.sb_statements.specs.declared.scripts.Script.{Script}
use Rattle.sb_statements.specs.declared.statements.Statement.{Statement}
use Rattle.sb_statements.specs.declared.statements.Statement.TheVariants as statement
use Rattle.sb_statements.specs.declared.statements.Word.{Word}
use Rattle.sb_actor.specs.ThreadStages.{ThreadStage, Try, Fill, Send, Wait, Fetch, Free, Abandon, Stray, Over}
use Rattle.sb_core.specs.OfScripts.{IsOfScript}
use Rattle.sb_core.specs.Runs.{CanRun, ran}
use Rattle.sb_core.specs.Threads.{RunAt}
use Rattle.sb_core.specs.Worlds.{WorldAt}
use Rattle.sb_actor.specs.Acts.{ready}

-- one if it holds
abbrev pub one_if : Bool → ℕ
one_if b = if b then 1 else 0

-- the entries on a channel of a target
abbrev pub entries_on : ℕ → ℕ → List Entry → ℕ
entries_on t c entries = sum_by (λ e. one_if (e.target == t && e.channel == c)) entries

-- a call that was handed over on this channel ended so: with a reply, with another's, or without patience
abbrev pub ends_call : ℕ → CallResult → Bool
ends_call c (call.Reply d reply) = d == c
ends_call c (call.Foreign d mark) = d == c
ends_call c (call.TimedOut d) = d == c
ends_call c _ = false

abbrev pub ends_on : ℕ → StmtResult → Bool
ends_on c (result.Call r) = ends_call c r
ends_on c _ = false

-- the state word of this channel
abbrev pub is_state : ℕ → ℕ → ℕ → Word → Bool
is_state t c u word = u == t && (word.channel == c && word.at == 0)

-- a statement made the channel ready directly: a store of ready into its state, or an exchange to ready on it that found its `from`
abbrev pub makes_ready : ℕ → ℕ → Option Statement → StmtResult → Bool
makes_ready t c (Some (statement.Store u word value)) result.Stored = is_state t c u word && value == ready
makes_ready t c (Some (statement.Exchange u word from to)) (result.Found n) = is_state t c u word && (n == from && to == ready)
makes_ready t c _ _ = false

-- a result of a thread of target u counts as one of the calls on the channel, or as one of the statements that made it ready
abbrev pub tally_of : ℕ → ℕ → ℕ → Option Statement → StmtResult → ℕ
tally_of t c u o r = one_if (u == t && ends_on c r) + one_if (makes_ready t c o r)

-- of a thread's results from a place on
abbrev pub tally_from : Script → ℕ → ℕ → ℕ → ℕ → ℕ → List StmtResult → ℕ
tally_from script t c u k i [] = 0
tally_from script t c u k i (r ∷ results) = tally_of t c u (statement_at script u k i) r + tally_from script t c u k (i + 1) results

-- of the threads of target u from number k on
abbrev pub tally_threads : Script → ℕ → ℕ → ℕ → ℕ → List (List StmtResult) → ℕ
tally_threads script t c u k [] = 0
tally_threads script t c u k (results ∷ threads) = tally_from script t c u k 0 results + tally_threads script t c u (k + 1) threads

-- of the targets from number u on
abbrev pub tally_targets : Script → ℕ → ℕ → ℕ → List (List (List StmtResult)) → ℕ
tally_targets script t c u [] = 0
tally_targets script t c u (threads ∷ targets) = tally_threads script t c u 0 threads + tally_targets script t c (u + 1) targets

-- the entries on a channel are at most the results Reply, Foreign and TimedOut on it, the stores of 3 into its state, and the exchanges to 3 on
-- its state that found their `from`
abbrev pub AreFew : Script → Report → Type 0
AreFew script report = (t c : ℕ) → t < length script.targets → c < channels_of (slice_get script.targets t)
    → entries_on t c report.entries ≤ tally_targets script t c 0 report.results

-- so it is of the report of every run in which no thread is unfinished
abbrev pub EntriesAreFew : Type 0
EntriesAreFew = (policies : List Policy) (script : Script) (schedule : Schedule) → CanRun policies script schedule → (ran policies script schedule).unfinished ≡ None
    → AreFew script (ran policies script schedule).report

-- the present call of a thread was handed over on this channel
abbrev pub has_sent : ℕ → ThreadStage → Bool
has_sent c (Wait d loads) = d == c
has_sent c (Fetch d words) = d == c
has_sent c (Free d words) = d == c
has_sent c (Abandon d) = d == c
has_sent c _ = false

-- what a thread handed over on channel c of target t so far, or made ready there: by its results, and its present call
abbrev pub tally_so_far : Script → ℕ → ℕ → RunAt → ℕ
tally_so_far script t c x = one_if (x.thread.target == t && has_sent c x.thread.stage) + tally_from script t c x.thread.target x.thread.thread 0 x.results

-- of all threads of a target, and of all targets
abbrev pub tally_row : Script → ℕ → ℕ → List RunAt → ℕ
tally_row script t c runs = sum_by (tally_so_far script t c) runs

abbrev pub tally_all : Script → ℕ → ℕ → List (List RunAt) → ℕ
tally_all script t c threads = sum_by (tally_row script t c) threads

-- in each world of a script the entries on a channel are at most the calls that were handed over there so far, the stores of 3 into its state, and the
-- exchanges to 3 on its state that found their `from`
abbrev pub WorldsAreFew : Type 0
WorldsAreFew = (script : Script) (w : WorldAt) → IsOfScript script w → (t c : ℕ) → t < length script.targets → c < channels_of (slice_get script.targets t)
    → entries_on t c w.shared.book.entries ≤ tally_all script t c w.threads
