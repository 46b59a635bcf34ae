-- Where words come from: no word of a copy, of a result or of a channel is invented.
use Rattle.std.specs.Prelude.{◌≡◌, ◌⊎◌, ◌<◌, ◌≤◌, ℕ, ◌+◌, List, length, min, slice_get, slice_index, take, Some}
use Rattle.sb_actor.specs.Moves.{at}
use Rattle.sb_actor.specs.Places.{mark_at, statement_at}
use Rattle.sb_block.specs.Blocks.{block}
use Rattle.sb_block.specs.Copies.{Copied}
use Rattle.sb_block.specs.Packing.{offset_of}
use Rattle.sb_block.specs.Replies.{reply_words}
use Rattle.sb_book.specs.declared.entries.Entry.{Entry}
use Rattle.sb_book.specs.declared.reports.Report.{Report}
use Rattle.sb_call.specs.declared.arguments.Arg.{Arg}
use Rattle.sb_call.specs.declared.replies.Reply.{Reply}
use Rattle.sb_call.specs.declared.tags.CallTag.{CallTag}
use Rattle.sb_rule.specs.declared.policies.Policy.{Policy}
use Rattle.sb_statements.specs.declared.results.CallResult.{CallResult}
use Rattle.sb_statements.specs.declared.results.CallResult.TheVariants as call
use Rattle.sb_statements.specs.declared.results.StmtResult.{StmtResult}
use Rattle.sb_statements.specs.declared.results.StmtResult.TheVariants as result
use Rattle.sb_statements.specs.declared.schedules.Schedule.{Schedule}
use Rattle.sb_statements.specs.declared.scripts.Script.{Script}
use Rattle.sb_statements.specs.declared.statements.Statement.{Statement}
use Rattle.sb_statements.specs.declared.statements.Statement.TheVariants as statement
use Rattle.sb_core.specs.OfScripts.{IsOfScript}
use Rattle.sb_core.specs.Reports.{report_of, results_of}
use Rattle.sb_core.specs.Results.{result_at}
use Rattle.sb_core.specs.Runs.{CanRun, ran}
use Rattle.sb_core.specs.Words.{words_of}
use Rattle.sb_core.specs.Worlds.{WorldAt}
use Rattle.sb_actor.specs.Acts.{abandoned, free}
use Rattle.sb_block.specs.Layout.{first_descriptor, first_reply_word, most_parameters, reply_length}
use Rattle.sb_statements.specs.Words.{words_of_channel}

-- a statement stores or exchanges this value into word j of a channel of a target
abbrev pub StoresThere : ℕ → ℕ → ℕ → ℕ → Statement → Type 0
StoresThere t c j x (statement.Store u word value) = (u ≡ t) × (word.channel ≡ c) × (word.at ≡ j) × (value ≡ x)
StoresThere t c j x (statement.Exchange u word from to) = (u ≡ t) × (word.channel ≡ c) × (word.at ≡ j) × (to ≡ x)
StoresThere t c j x _ = ⊥

-- some thread has such a statement
abbrev pub IsStoredDirectly : Script → ℕ → ℕ → ℕ → ℕ → Type 0
IsStoredDirectly script t c j x = (u k i : ℕ) × (s : Statement) × (statement_at script u k i ≡ Some s) × StoresThere t c j x s

-- a value has a source at a state word: it is one of the states of a channel, or a statement stores it there directly
abbrev pub HasStateSource : Script → ℕ → ℕ → ℕ → Type 0
HasStateSource script t c x = ((free ≤ x) × (x ≤ abandoned)) ⊎ IsStoredDirectly script t c 0 x

-- it is word i of the block of a call of a thread of the target
abbrev pub IsOfCall : Script → ℕ → ℕ → ℕ → Type 0
IsOfCall script t i x =
    (k place : ℕ) × (tag : CallTag) × (args : List Arg) × (statement_at script t k place ≡ Some (statement.Call tag args))
    × (i < length (block tag args (mark_at k place))) × (x ≡ slice_index (block tag args (mark_at k place)) i)

-- it is the word of a reply on that channel that is at block word i: reply word j at block word 3 + j
abbrev pub IsOfReply : List Entry → ℕ → ℕ → ℕ → ℕ → Type 0
IsOfReply entries t c i x =
    (n : ℕ) × (e : Entry) × (j : ℕ) × (slice_get entries n ≡ Some e) × (e.target ≡ t) × (e.channel ≡ c) × (j < reply_length) × (i ≡ first_reply_word + j) × (x ≡ slice_index (reply_words e.reply) j)

-- a value has a source at block word i of a channel: it is 0, of a call's block, of a statement that stores it there directly, or of a reply
abbrev pub HasBlockSource : Script → List Entry → ℕ → ℕ → ℕ → ℕ → Type 0
HasBlockSource script entries t c i x = (x ≡ 0) ⊎ (IsOfCall script t i x ⊎ (IsStoredDirectly script t c (1 + i) x ⊎ IsOfReply entries t c i x))

-- at word j of a channel, where word 0 is the state and 1 + i block word i
pub record HasSource (script : Script) (entries : List Entry) (t c j x : ℕ) : Type 0 where
  pub state : j ≡ 0 → HasStateSource script t c x
  pub word : (i : ℕ) → j ≡ 1 + i → HasBlockSource script entries t c i x

-- each word of a copy has a source at its place, and so has the count that was seen; if that is at most 9, the end that was seen is the offset part of a
-- value that has one
pub record IsSourcedCopy (script : Script) (entries : List Entry) (t c : ℕ) (taken : Copied) : Type 0 where
  pub words : (i : ℕ) → i < length taken.words → HasBlockSource script entries t c i (slice_index taken.words i)
  pub count : HasBlockSource script entries t c 2 taken.count_seen
  pub end : taken.count_seen ≤ most_parameters → (x : ℕ) × (taken.end_seen ≡ offset_of x) × HasBlockSource script entries t c (first_descriptor + taken.count_seen) x

-- a reply that was fetched: its mark, outcome, status and handle, as many extended words as a word says, and at most seven, and each of these
pub record IsSourcedReply (script : Script) (entries : List Entry) (t c : ℕ) (reply : Reply) : Type 0 where
  pub mark : HasBlockSource script entries t c 3 reply.mark
  pub outcome : HasBlockSource script entries t c 4 reply.outcome
  pub status : HasBlockSource script entries t c 5 reply.status
  pub handle : HasBlockSource script entries t c 6 reply.handle
  pub many : (x : ℕ) × HasBlockSource script entries t c 7 x × (length reply.ext ≡ min x 7)
  pub words : (i : ℕ) → i < length reply.ext → HasBlockSource script entries t c (8 + i) (slice_index reply.ext i)

-- the values that the result of a call shows
abbrev pub ShowsCall : Script → List Entry → ℕ → CallResult → Type 0
ShowsCall script entries t (call.Reply c reply) = IsSourcedReply script entries t c reply
ShowsCall script entries t (call.SendLost c found) = HasStateSource script t c found
ShowsCall script entries t (call.Foreign c mark) = HasBlockSource script entries t c 3 mark
ShowsCall script entries t _ = Unit {0}

-- each value that a result of a thread of target t shows has a source at the word from which it was loaded
abbrev pub Shows : Script → List Entry → ℕ → Statement → StmtResult → Type 0
Shows script entries t (statement.Call tag args) (result.Call r) = ShowsCall script entries t r
Shows script entries t (statement.Exchange u word from to) (result.Found x) = HasSource script entries u word.channel word.at x
Shows script entries t (statement.Load u word) (result.Found x) = HasSource script entries u word.channel word.at x
Shows script entries t _ _ = Unit {0}

-- each copy has its sources among what was there before its entry
abbrev pub AreSourcedCopies : Script → List Entry → Type 0
AreSourcedCopies script entries = (n : ℕ) (e : Entry) → slice_get entries n ≡ Some e → IsSourcedCopy script (take n entries) e.target e.channel e.taken

-- each word of each target has a source
abbrev pub AreSourcedWords : Script → List Entry → List (List ℕ) → Type 0
AreSourcedWords script entries words = (t c j : ℕ) → j < words_of_channel → at c j < length (words_of words t) → HasSource script entries t c j (slice_index (words_of words t) (at c j))

-- No block is invented. Each word of a copy, each value that a result shows, and each word at the end has a source
pub record IsSourced (script : Script) (report : Report) : Type 0 where
  pub copies : AreSourcedCopies script report.entries
  pub results : (t k i : ℕ) (r : StmtResult) → result_at report.results t k i ≡ Some r
      → (s : Statement) × (statement_at script t k i ≡ Some s) × Shows script report.entries t s r
  pub words : AreSourcedWords script report.entries report.words

-- so it is of every report of a run
abbrev pub NoBlockIsInvented : Type 0
NoBlockIsInvented = (policies : List Policy) (script : Script) (schedule : Schedule) → CanRun policies script schedule
    → IsSourced script (ran policies script schedule).report

-- and of the report of each world of a script, as it is
abbrev pub WorldsAreSourced : Type 0
WorldsAreSourced = (script : Script) (w : WorldAt) → IsOfScript script w → IsSourced script (report_of w.shared (results_of w.threads))
