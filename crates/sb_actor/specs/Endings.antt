-- How a statement ends, and what a step leads to by that.
use Rattle.std.specs.Prelude.{◌≡◌, Bool, true, false, ℕ, List, [], Option, None, Some}
use Rattle.sb_block.specs.Replies.{read_reply}
use Rattle.sb_actor.specs.Places.{mark_at}
use Rattle.sb_actor.specs.ThreadStages.{ThreadStage, ThreadAt, Free}
use Rattle.sb_actor.specs.ThreadTable.{ThreadNext, ends, reply_by, stays}
use Rattle.sb_actor.specs.declared.endings.Ending.{Ending}
use Rattle.sb_actor.specs.declared.endings.Ending.TheVariants as ending
use Rattle.sb_statements.specs.declared.results.CallResult.TheVariants as result
use Rattle.sb_statements.specs.declared.results.StmtResult.{StmtResult}
use Rattle.sb_statements.specs.declared.results.StmtResult.TheVariants.{Call, Stored, Found, Met, Unmet}
use Rattle.sb_statements.specs.declared.scripts.Script.{Script}

-- the words of a reply that is fetched whole
abbrev pub fetched : ThreadStage → List ℕ
fetched (Free c words) = words
fetched _ = []

-- the result of a thread's statement that ends so
abbrev pub result_of : ThreadAt → Ending → StmtResult
result_of x ending.NoChannel = Call result.NoChannel
result_of x (ending.SendLost channel found) = Call (result.SendLost channel found)
result_of x (ending.TimedOut channel) = Call (result.TimedOut channel)
result_of x (ending.Replied channel) = Call (reply_by channel (mark_at x.thread x.place) (read_reply (fetched x.stage)))
result_of x ending.Stored = Stored
result_of x (ending.Found value) = Found value
result_of x (ending.Met loads) = Met loads
result_of x (ending.Unmet loads) = Unmet loads

-- a reply is fetched whole
abbrev pub is_free : ThreadStage → Bool
is_free (Free c words) = true
is_free _ = false

-- a statement ends by a reply only if one is fetched
abbrev pub CanEnd : ThreadStage → Ending → Type 0
CanEnd stage (ending.Replied channel) = is_free stage ≡ true
CanEnd stage _ = Unit {0}

-- What a step of thread x leads to is this thread y, whose statement goes on; or y is still x, and its statement ends so
abbrev pub GoesOn : Script → ThreadAt → ThreadNext → ThreadAt → Option Ending → Type 0
GoesOn script x next y None = next ≡ stays y
GoesOn script x next y (Some ending) = (y ≡ x) × CanEnd x.stage ending × (next ≡ ends script x (result_of x ending))
