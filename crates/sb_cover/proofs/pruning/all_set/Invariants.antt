use Rattle.std.specs.List.{list_all}
use Rattle.std.specs.Prelude.{false, slice_index_or}
use Rattle.std.proofs.Common.{◌≡◌, drop}
use Rattle.sb_cover.proofs.pruning.all_set.Given as goal

abbrev pub invariant-loop-number : goal.invariant-loop-number
invariant-loop-number l = list_all (λ n. slice_index_or l.flags n false) (drop l.number-index l.numbers) ≡ list_all (λ n. slice_index_or l.flags n false) l.numbers
