-- Which results a statement may have, on the channels of its target, some of which are clean.
use Rattle.std.specs.Prelude.{◌≡◌, ◌≢◌, ◌<◌, ℕ, ◌≤◌, Bool, false, List, length, slice_index_or, true}
use Rattle.sb_actor.specs.Acts.{busy}
use Rattle.sb_actor.specs.ThreadTable.{has_clean}
use Rattle.sb_statements.specs.declared.results.CallResult.{CallResult}
use Rattle.sb_statements.specs.declared.results.CallResult.TheVariants.{Reply, NoChannel, SendLost, Foreign, TimedOut}
use Rattle.sb_statements.specs.declared.results.StmtResult.{StmtResult}
use Rattle.sb_statements.specs.declared.results.StmtResult.TheVariants as result
use Rattle.sb_statements.specs.declared.statements.Statement.{Statement}
use Rattle.sb_statements.specs.declared.statements.Statement.TheVariants as statement

-- the channel is there and not clean
abbrev pub IsUncleanAt : List Bool → ℕ → Type 0
IsUncleanAt clean c = slice_index_or clean c true ≡ false

-- a call with this mark: a reply came on a channel of the target and has the mark; no channel was free only if none is clean; a block is
-- lost, a reply is another call's, and patience runs out, only on a channel that is not clean
abbrev pub SuitsCall : List Bool → ℕ → CallResult → Type 0
SuitsCall clean mark (Reply c reply) = (c < length clean) × (reply.mark ≡ mark)
SuitsCall clean mark NoChannel = has_clean clean ≡ false
SuitsCall clean mark (SendLost c found) = IsUncleanAt clean c × (found ≢ busy)
SuitsCall clean mark (Foreign c other) = IsUncleanAt clean c × (other ≢ mark)
SuitsCall clean mark (TimedOut c) = IsUncleanAt clean c

-- each statement has a result of its kind; a wait meets its value within its loads, or makes them all
abbrev pub Suits : List Bool → ℕ → Statement → StmtResult → Type 0
Suits clean mark (statement.Call tag args) (result.Call r) = SuitsCall clean mark r
Suits clean mark (statement.Store t w v) result.Stored = Unit {0}
Suits clean mark (statement.Exchange t w from to) (result.Found n) = Unit {0}
Suits clean mark (statement.Load t w) (result.Found n) = Unit {0}
Suits clean mark (statement.Wait t w v most) (result.Met loads) = (1 ≤ loads) × (loads ≤ most)
Suits clean mark (statement.Wait t w v most) (result.Unmet loads) = loads ≡ most
Suits clean mark _ _ = ⊥
