-- When a report fits its script: what holds of every report in which each statement has ended, whatever the order of the steps was.
use Rattle.std.specs.Prelude.{◌≡◌, ◌⊎◌, ◌∷◌, ◌<◌, ℕ, ◌+◌, ◌*◌, ◌/◌, ◌==◌, ◌&&◌, Bool, true, false, List, [], ◌++◌, length, map, slice_get, slice_index, slice_index_or, None, Some}
use Rattle.std.specs.List.{filter}
use Rattle.sb_actor.specs.Acts.{free}
use Rattle.sb_actor.specs.Fitting.{Suits}
use Rattle.sb_actor.specs.Moves.{at, is_clean}
use Rattle.sb_actor.specs.Places.{clean_channels, mark_at, statement_at}
use Rattle.sb_actor.specs.Rule.{is_of}
use Rattle.sb_block.specs.Copies.{Copied, mark_of, whole}
use Rattle.sb_book.specs.Histories.{IsHistory, setting_of}
use Rattle.sb_book.specs.Readiness.{IsReady}
use Rattle.sb_book.specs.declared.entries.Entry.{Entry}
use Rattle.sb_book.specs.declared.reports.Report.{Report}
use Rattle.sb_call.specs.declared.replies.Reply.{Reply}
use Rattle.sb_rule.specs.declared.policies.Policy.{Policy}
use Rattle.sb_statements.specs.Actors.{thread_count}
use Rattle.sb_statements.specs.declared.results.StmtResult.{StmtResult}
use Rattle.sb_statements.specs.declared.schedules.Actor.{Actor}
use Rattle.sb_statements.specs.declared.schedules.Schedule.{Schedule}
use Rattle.sb_statements.specs.declared.scripts.Script.{Script}
use Rattle.sb_statements.specs.declared.statements.Statement.{Statement}
use Rattle.sb_core.specs.Actors.{are_there}
use Rattle.sb_core.specs.Results.{AreAllResults, result_at}
use Rattle.sb_core.specs.Drains.{drained}
use Rattle.sb_core.specs.Kept.{channel_in, is_calling}
use Rattle.sb_core.specs.OfScripts.{IsOfScript}
use Rattle.sb_core.specs.Runs.{CanRun, played, ran}
use Rattle.sb_core.specs.Threads.{RunAt}
use Rattle.sb_core.specs.Views.{OwnCall, as_call, own_calls}
use Rattle.sb_core.specs.Words.{some_ready, words_of}
use Rattle.sb_core.specs.Worlds.{WorldAt, run_at, start_world, steps}
use Rattle.sb_statements.specs.Words.{words_of_channel}

-- the entry is of this target, on a clean channel, and its mark divided by 65,536 is k + 1
abbrev pub is_entry_of : Script → ℕ → ℕ → Entry → Bool
is_entry_of script t k e = e.target == t && is_of (clean_channels script t) k (as_call e)

-- on which channel which copy was replied to, and with what
pub record Answered : Type 0 where
  pub channel : ℕ
  pub taken : Copied
  pub reply : Reply

-- by an entry
abbrev pub by_entry : Entry → Answered
by_entry e = record { channel = e.channel; taken = e.taken; reply = e.reply }

-- by a result, for which the copy is the whole block of its statement
abbrev pub by_result : OwnCall → Answered
by_result x = record { channel = x.channel; taken = whole x.block; reply = x.reply }

-- the results of a thread
abbrev pub results_at : List (List (List StmtResult)) → ℕ → ℕ → List StmtResult
results_at results t k = slice_index_or (slice_index_or results t []) k []

-- Own replies. The results Reply of a thread on clean channels and the entries on clean channels of its target whose mark bears its number are the same, in
-- order and one to one: the channel, the copy, which is the whole block of the result's statement, and the reply. And each entry on a clean channel is one of
-- a thread of its target
pub record OwnReplies (script : Script) (entries : List Entry) (results : List (List (List StmtResult))) : Type 0 where
  pub own : (t k : ℕ) → k < thread_count (slice_get script.targets t)
      → map by_entry (filter (is_entry_of script t k) entries) ≡ map by_result (own_calls script t k (results_at results t k))
  pub others : (i : ℕ) (e : Entry) → slice_get entries i ≡ Some e → is_clean (clean_channels script e.target) e.channel ≡ true
      → (k : ℕ) × (k < thread_count (slice_get script.targets e.target)) × (mark_of e.taken / 65536 ≡ k + 1)

-- Each result suits the statement at its place. A call ends with no channel only if its target has no clean one; its block is lost, its reply is another's, and
-- its patience runs out only on channels that are not clean; and a reply came on a channel of the target and bears the call's own mark. A wait that met its value
-- made from one to its most loads, and another made its most
abbrev pub ResultsSuit : Script → List (List (List StmtResult)) → Type 0
ResultsSuit script results = (t k i : ℕ) (r : StmtResult) → result_at results t k i ≡ Some r
    → (s : Statement) × (statement_at script t k i ≡ Some s) × Suits (clean_channels script t) (mark_at k i) s r

-- each target has 65 words for each channel, no state is 3, and the state of each clean channel is 1
pub record AreFinalWords (script : Script) (words : List (List ℕ)) : Type 0 where
  pub sizes : map (λ ws. length ws) words ≡ map (λ target. target.channels * words_of_channel) script.targets
  pub served : some_ready words ≡ false
  pub freed : (t c : ℕ) → t < length script.targets → is_clean (clean_channels script t) c ≡ true → slice_index (words_of words t) (at c 0) ≡ free

-- The entries are a legal history of the script under its policies, and the kernel is the namespace that they led to; there is exactly one result for each
-- statement, at its place; each thread has its own replies; each result suits its statement; and so do the words
pub record Fits (policies : List Policy) (script : Script) (report : Report) : Type 0 where
  pub history : IsHistory (record { setting = setting_of policies script; space = report.kernel; entries = report.entries })
  pub whole_results : AreAllResults script report.results
  pub own_replies : OwnReplies script report.entries report.results
  pub suit : ResultsSuit script report.results
  pub final_words : AreFinalWords script report.words

-- the report of a run without an unfinished thread fits
abbrev pub RunsFit : Type 0
RunsFit = (policies : List Policy) (script : Script) (schedule : Schedule) → CanRun policies script schedule
    → (ran policies script schedule).unfinished ≡ None → Fits policies script (ran policies script schedule).report

-- what a thread has beside its results: nothing, or the entry of its present call, which is on the channel if the thread is, and whose
-- copy is the whole block of it
abbrev pub IsPresent : RunAt → List Answered → Type 0
IsPresent x besides =
    (besides ≡ [])
    ⊎ ((a : Answered) × (besides ≡ a ∷ []) × (a.taken ≡ whole x.thread.block) × (is_calling x.thread.stage ≡ true) × (channel_in x.thread.stage ≡ Some a.channel))

-- at any moment the entries of a thread on clean channels are those of its results, with at most the one of its present call besides
abbrev pub IsOwnSoFar : Script → WorldAt → ℕ → ℕ → Type 0
IsOwnSoFar script w t k =
    (besides : List Answered)
    × (map by_entry (filter (is_entry_of script t k) w.shared.book.entries) ≡ map by_result (own_calls script t k (run_at w t k).results) ++ besides)
    × IsPresent (run_at w t k) besides

-- so it is after any list of steps, in the world that a schedule leads to, and after the drain of that
abbrev pub RepliesAreOwn : Type 0
RepliesAreOwn = (policies : List Policy) (script : Script) (actors : List Actor) → IsReady policies script
    → are_there script.targets actors ≡ true → (t k : ℕ) → k < thread_count (slice_get script.targets t)
    → IsOwnSoFar script (steps script actors (start_world policies script)) t k

abbrev pub RunsReplyOwn : Type 0
RunsReplyOwn = (policies : List Policy) (script : Script) (schedule : Schedule) → CanRun policies script schedule
    → (t k : ℕ) → k < thread_count (slice_get script.targets t)
    → IsOwnSoFar script (played policies script schedule) t k × IsOwnSoFar script (drained (played policies script schedule)) t k

-- and so it is in each world of a script, whichever steps led there
abbrev pub WorldsOfScriptsReplyOwn : Type 0
WorldsOfScriptsReplyOwn = (script : Script) (w : WorldAt) → IsOfScript script w
    → (t k : ℕ) → k < thread_count (slice_get script.targets t) → IsOwnSoFar script w t k
