-- Why a statement ended as it did, by the values that its thread's steps found since it began, in order. (What a step that stores finds does not matter.)
use Rattle.std.specs.Prelude.{◌≡◌, ◌≢◌, ◌⊎◌, ◌<◌, ◌≤◌, ℕ, ◌+◌, Bool, true, false, not, ◌&&◌, ◌==◌, List, [], ◌∷◌, ◌++◌, length, None, Some}
use Rattle.std.specs.List.{list_all}
use Rattle.sb_block.specs.Replies.{read_reply}
use Rattle.sb_actor.specs.Acts.{free, busy, acknowledged, abandoned}
use Rattle.sb_actor.specs.Fitting.{IsUncleanAt}
use Rattle.sb_actor.specs.Places.{begins, clean_channels, mark_at, statement_at}
use Rattle.sb_actor.specs.ThreadStages.{ThreadAt, Try, Stray}
use Rattle.sb_actor.specs.ThreadTable.{has_clean, thread_after}
use Rattle.sb_actor.specs.Observations.{Value}
use Rattle.sb_call.specs.declared.arguments.Arg.{Arg}
use Rattle.sb_call.specs.declared.tags.CallTag.{CallTag}
use Rattle.sb_statements.specs.Soundness.{is_sound}
use Rattle.sb_statements.specs.declared.results.CallResult.{CallResult}
use Rattle.sb_statements.specs.declared.results.CallResult.TheVariants.{Reply, NoChannel, SendLost, Foreign, TimedOut}
use Rattle.sb_statements.specs.declared.results.StmtResult.{StmtResult}
use Rattle.sb_statements.specs.declared.results.StmtResult.TheVariants as result
use Rattle.sb_statements.specs.declared.scripts.Script.{Script}
use Rattle.sb_statements.specs.declared.statements.Statement.TheVariants as statement
use Rattle.sb_statements.specs.declared.statements.Word.{Word}

-- From here the thread's steps found these values and then this last one. The step that found the last one ended the statement, with this result, and no
-- earlier one did
abbrev pub Ends : Script → ThreadAt → List ℕ → ℕ → StmtResult → Type 0
Ends script x [] last r = (thread_after script x (Value last)).ended ≡ Some r
Ends script x (n ∷ found) last r = ((thread_after script x (Value n)).ended ≡ None) × Ends script (thread_after script x (Value n)).thread found last r

-- lists one after the other
abbrev pub joined : List (List ℕ) → List ℕ
joined [] = []
joined (round ∷ rounds) = round ++ joined rounds

-- a try found the channel in use
abbrev pub is_taken : ℕ → Bool
is_taken n = not (n == free)

-- a try found the channel abandoned
abbrev pub is_abandoned : ℕ → Bool
is_abandoned n = n == abandoned

-- a load of the state found no reply
abbrev pub is_waiting : ℕ → Bool
is_waiting n = not (n == acknowledged)

-- a round of tries, one for each channel, found all of them in use, and not all of them abandoned
abbrev pub is_round : ℕ → List ℕ → Bool
is_round channels round = length round == channels && (list_all is_taken round && not (list_all is_abandoned round))

-- The tries of a call, up to channel c, found no free channel: whole rounds, and a part of one more. If the target has no clean channel, there are
-- fewer whole rounds than the patience
pub record Tried (clean : List Bool) (patience c : ℕ) (found : List ℕ) : Type 0 where
  pub rounds : List (List ℕ)
  pub part : List ℕ
  pub is : found ≡ joined rounds ++ part
  pub whole : list_all (is_round (length clean)) rounds ≡ true
  pub taken : list_all is_taken part ≡ true
  pub at : length part ≡ c
  pub there : c < length clean
  pub in_time : has_clean clean ≡ false → length rounds < patience

-- No channel: the last try of a round found none free either. Either the whole round found every channel abandoned, or the target has no clean channel and
-- the rounds are as many as the patience
pub record NoneFree (clean : List Bool) (patience : ℕ) (found : List ℕ) (last : ℕ) : Type 0 where
  pub channel : ℕ
  pub tried : Tried clean patience channel found
  pub end : channel + 1 ≡ length clean
  pub taken : is_taken last ≡ true
  pub why : (list_all is_abandoned (tried.part ++ last ∷ []) ≡ true) ⊎ ((has_clean clean ≡ false) × (length tried.rounds + 1 ≡ patience))

-- after its tries the call found channel c free, and filled n words of the block
pub record Filled (clean : List Bool) (patience c n : ℕ) (found : List ℕ) : Type 0 where
  pub tries : List ℕ
  pub fills : List ℕ
  pub tried : Tried clean patience c tries
  pub is : found ≡ tries ++ free ∷ fills
  pub many : length fills ≡ n

-- then it handed the whole block over, and these loads of the state found no reply
pub record Waited (clean : List Bool) (patience size c : ℕ) (loads found : List ℕ) : Type 0 where
  pub before : List ℕ
  pub filled : Filled clean patience c size before
  pub is : found ≡ before ++ busy ∷ loads
  pub none : list_all is_waiting loads ≡ true

-- on a channel that is not clean the loads without a reply were fewer than the patience, the next one found the reply, and these words of it were fetched
pub record Fetched (clean : List Bool) (patience size c : ℕ) (words found : List ℕ) : Type 0 where
  pub before : List ℕ
  pub loads : List ℕ
  pub waited : Waited clean patience size c loads before
  pub is : found ≡ before ++ acknowledged ∷ words
  pub in_time : IsUncleanAt clean c → length loads < patience

-- Why a call with this mark, whose block has `size` words, ended so. Its reply was fetched whole, and has its mark; or no channel was free; or the
-- exchange that hands the block over found another value than 2; or the reply has another mark; or, on a channel that is not clean, loads found no
-- reply as often as the patience says
abbrev pub CauseOf : List Bool → ℕ → ℕ → ℕ → List ℕ → ℕ → CallResult → Type 0
CauseOf clean patience size mark found last (Reply c reply) =
    (words : List ℕ) × Fetched clean patience size c words found × (length words ≡ 12) × (reply ≡ read_reply words) × (reply.mark ≡ mark)
CauseOf clean patience size mark found last NoChannel = NoneFree clean patience found last
CauseOf clean patience size mark found last (SendLost c n) = Filled clean patience c size found × (last ≡ n) × (n ≢ busy)
CauseOf clean patience size mark found last (Foreign c other) =
    (words : List ℕ) × Fetched clean patience size c words found × (length words ≡ 12) × (other ≡ (read_reply words).mark) × (other ≢ mark)
CauseOf clean patience size mark found last (TimedOut c) =
    (loads : List ℕ) × Waited clean patience size c loads found × IsUncleanAt clean c × (length loads ≡ patience)

-- a thread at the beginning of a call, with a block, a channel and a patience
pub record BeginsCall (x : ThreadAt) : Type 0 where
  pub stage : x.stage ≡ Try 0 0 true
  pub channels : 0 < length x.clean
  pub patient : 0 < x.patience
  pub block : 0 < length x.block

-- the thread has the patience of a sound script, and the marks of its target's channels there
pub record RunsScript (script : Script) (x : ThreadAt) : Type 0 where
  pub sound : is_sound script ≡ true
  pub patience : x.patience ≡ script.patience
  pub clean : x.clean ≡ clean_channels script x.target

-- so each thread of a sound script begins its calls
abbrev pub CallsBegin : Type 0
CallsBegin = (script : Script) (x : ThreadAt) (place : ℕ) (tag : CallTag) (args : List Arg) → RunsScript script x
    → statement_at script x.target x.thread place ≡ Some (statement.Call tag args) → BeginsCall (begins script x place)

-- a call ends with a result of a call, for the cause of that
abbrev pub CallsEndForCause : Type 0
CallsEndForCause = (script : Script) (x : ThreadAt) (found : List ℕ) (last : ℕ) (r : StmtResult) → BeginsCall x → Ends script x found last r
    → (q : CallResult) × (r ≡ result.Call q) × CauseOf x.clean x.patience (length x.block) (mark_at x.thread x.place) found last q

-- and if the cause of a result is there, the call ends with it
abbrev pub CausesEndCalls : Type 0
CausesEndCalls = (script : Script) (x : ThreadAt) (found : List ℕ) (last : ℕ) (q : CallResult) → BeginsCall x
    → CauseOf x.clean x.patience (length x.block) (mark_at x.thread x.place) found last q → Ends script x found last (result.Call q)

-- a load found another value
abbrev pub is_not : ℕ → ℕ → Bool
is_not value n = not (n == value)

-- why a wait for a value, of at most `most` loads, ended so: the last load is the first that found it, or as many loads found other values
abbrev pub CauseOfWait : ℕ → ℕ → List ℕ → ℕ → StmtResult → Type 0
CauseOfWait value most found last (result.Met loads) = (list_all (is_not value) found ≡ true) × (last ≡ value) × (loads ≡ length found + 1) × (loads ≤ most)
CauseOfWait value most found last (result.Unmet loads) = (list_all (is_not value) found ≡ true) × (last ≢ value) × (loads ≡ most) × (length found + 1 ≡ most)
CauseOfWait value most found last _ = ⊥

-- a thread at the beginning of a wait
pub record BeginsWait (script : Script) (x : ThreadAt) (value most : ℕ) : Type 0 where
  pub stage : x.stage ≡ Stray 0 most
  pub target : ℕ
  pub word : Word
  pub statement : statement_at script x.target x.thread x.place ≡ Some (statement.Wait target word value most)
  pub some : 0 < most

-- so each thread of a sound script begins its waits
abbrev pub WaitsBegin : Type 0
WaitsBegin = (script : Script) (x : ThreadAt) (place target : ℕ) (word : Word) (value most : ℕ) → RunsScript script x
    → statement_at script x.target x.thread place ≡ Some (statement.Wait target word value most) → BeginsWait script (begins script x place) value most

-- a wait ends for a cause, and if the cause of a result is there, it ends with that
abbrev pub WaitsEndForCause : Type 0
WaitsEndForCause = (script : Script) (x : ThreadAt) (value most : ℕ) (found : List ℕ) (last : ℕ) (r : StmtResult) → BeginsWait script x value most
    → Ends script x found last r → CauseOfWait value most found last r

abbrev pub CausesEndWaits : Type 0
CausesEndWaits = (script : Script) (x : ThreadAt) (value most : ℕ) (found : List ℕ) (last : ℕ) (r : StmtResult) → BeginsWait script x value most
    → CauseOfWait value most found last r → Ends script x found last r
