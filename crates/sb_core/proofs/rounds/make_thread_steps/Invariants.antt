use Rattle.std.proofs.Common.{◌≡◌}
use Rattle.sb_core.specs.Actors.{first_threads}
use Rattle.sb_core.specs.Kept.{RunsUnder}
use Rattle.sb_core.specs.Worlds.{steps}
use Rattle.sb_core.proofs.rounds.make_thread_steps.Given as goal

-- the threads before this one made their steps
abbrev pub invariant-loop-thread : goal.invariant-loop-thread
invariant-loop-thread g l =
    (l.world ≡ steps l.script (first_threads l.target l.thread) l.fn.world)
    × RunsUnder (g.J.Judge.policies l.judge) l.script l.world
