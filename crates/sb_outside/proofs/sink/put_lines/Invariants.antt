use Rattle.std.proofs.Common.{◌≡◌, ◌++◌, take}
use Rattle.sb_outside.specs.Outside.{GrowsUpTo, joined}
use Rattle.sb_outside.proofs.sink.put_lines.Given as goal

abbrev pub invariant-loop-line : goal.invariant-loop-line
invariant-loop-line g l =
    GrowsUpTo (g.S.Sink.written l.fn.sink) (g.S.Sink.pending l.fn.sink ++ joined (take l.line-index l.lines)) (g.S.Sink.written l.sink) (g.S.Sink.pending l.sink)
    × (g.S.Sink.faults l.sink ≡ g.S.Sink.faults l.fn.sink)
