use Rattle.std.proofs.Common.{◌≡◌, drop}
use Rattle.std.specs.Prelude.{false}
use Rattle.sb_base.specs.Surrogates.{is_paired_after}
use Rattle.sb_base.proofs.surrogates.are_paired.Given as goal

abbrev pub invariant-loop-unit : goal.invariant-loop-unit
invariant-loop-unit l = is_paired_after l.after_high (drop l.unit-index l.units) ≡ is_paired_after false l.units
