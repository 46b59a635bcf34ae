use Rattle.std.specs.List.{list_any}
use Rattle.std.specs.Prelude.{◌==◌}
use Rattle.std.proofs.Common.{◌≡◌, drop}
use Rattle.sb_cover.proofs.pruning.is_among.Given as goal

abbrev pub invariant-loop-n : goal.invariant-loop-n
invariant-loop-n l = list_any (λ n. n == l.number) (drop l.n-index l.numbers) ≡ list_any (λ n. n == l.number) l.numbers
