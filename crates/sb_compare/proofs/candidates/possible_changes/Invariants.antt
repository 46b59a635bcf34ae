use Rattle.std.specs.List.{flat_map}
use Rattle.std.proofs.Common.{◌≡◌, take}
use Rattle.sb_compare.specs.Candidates.{changes_from}
use Rattle.sb_compare.proofs.candidates.possible_changes.Given as goal

abbrev pub invariant-loop-verdict : goal.invariant-loop-verdict
invariant-loop-verdict l = l.changes.items ≡ flat_map (changes_from l.news.items) (take l.verdict-index l.verdict-items)
