use Rattle.sb_tables.specs.Players.{ArePlayers}
use Rattle.sb_tables.proofs.plays.play_all.Given as goal

-- the seats are those of the world
abbrev pub invariant-loop-step : goal.invariant-loop-step
invariant-loop-step g l = ArePlayers l.world l.players

-- and so they are between the steps of one actor
abbrev pub invariant-loop-time : goal.invariant-loop-time
invariant-loop-time g l = ArePlayers l.world l.players
