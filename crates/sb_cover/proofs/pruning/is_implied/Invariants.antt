use Rattle.std.specs.List.{list_all}
use Rattle.std.proofs.Common.{◌≡◌, ℕ, Bool, true, take}
use Rattle.sb_cover.proofs.pruning.is_implied.Given as goal

abbrev pub invariant-loop-number : goal.invariant-loop-number
invariant-loop-number l = (other : ℕ → Bool) → list_all other l.many ≡ true → list_all other (take l.number-index l.few) ≡ true
