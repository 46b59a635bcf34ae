use Rattle.sb_compare.specs.Classes.{class_of}
use Rattle.sb_compare.specs.ShownCalls.{AreShortestSoFar}
use Rattle.sb_compare.proofs.shown_calls.shortest_of.Given as goal

abbrev pub invariant-loop-call : goal.invariant-loop-call
invariant-loop-call l = AreShortestSoFar (class_of l.tag l.policies) l.seen l.call-index l.classes.keys l.calls.items
