use Rattle.std.specs.List.{flat_map}
use Rattle.std.proofs.Common.{◌≡◌, ◌++◌, take}
use Rattle.sb_compare.specs.Candidates.{both_of}
use Rattle.sb_compare.proofs.candidates.put_from.Given as goal

abbrev pub invariant-loop-new : goal.invariant-loop-new
invariant-loop-new l = l.changes.items ≡ l.fn.changes.items ++ flat_map (both_of l.old) (take l.new-index l.news)
