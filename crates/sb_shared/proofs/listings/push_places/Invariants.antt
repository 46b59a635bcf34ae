use Rattle.std.proofs.Common.{◌≡◌, ◌++◌, map}
use Rattle.std.specs.List.{range_with_len}
use Rattle.sb_shared.proofs.listings.push_places.Given as goal

abbrev pub invariant-loop-thread : goal.invariant-loop-thread
invariant-loop-thread l = l.places.items ≡ l.fn.places.items ++ map (λ k. (l.target, k)) (range_with_len 0 l.thread)
