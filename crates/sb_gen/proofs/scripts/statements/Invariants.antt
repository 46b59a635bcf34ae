use Rattle.std.proofs.Common.{◌≡◌, ◌++◌}
use Rattle.sb_gen.specs.Generator.{after}
use Rattle.sb_gen.specs.Calls.{statements_of}
use Rattle.sb_gen.proofs.scripts.statements.Given as goal

-- the statements so far and those that are left are all
abbrev pub invariant-loop-left : goal.invariant-loop-left
invariant-loop-left l = record {
  made : l.statements.items ++ statements_of l.target l.left l.generator ≡ statements_of l.target l.calls l.fn.generator;
  after : after l.left l.generator ≡ after l.calls l.fn.generator;
}

abbrev pub decreases-loop-left : goal.decreases-loop-left
decreases-loop-left l = l.left
