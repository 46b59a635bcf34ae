use Rattle.std.proofs.Common.{◌≡◌, drop}
use Rattle.std.specs.Prelude.{false}
use Rattle.sb_rule.specs.PatternReading.{text_of}
use Rattle.sb_base.specs.Surrogates.{is_paired_after}
use Rattle.sb_rule.proofs.checks.cells_are_paired.Given as goal

abbrev pub invariant-loop-cell : goal.invariant-loop-cell
invariant-loop-cell l = is_paired_after l.after_high (text_of (drop l.cell-index l.cells)) ≡ is_paired_after false (text_of l.cells)
