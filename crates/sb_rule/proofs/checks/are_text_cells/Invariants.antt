use Rattle.std.proofs.Common.{◌≡◌, drop}
use Rattle.std.specs.List.{list_all}
use Rattle.sb_rule.specs.PatternReading.{text_of}
use Rattle.sb_base.specs.Wide.{is_text_unit}
use Rattle.sb_rule.proofs.checks.are_text_cells.Given as goal

abbrev pub invariant-loop-cell : goal.invariant-loop-cell
invariant-loop-cell l = list_all is_text_unit (text_of (drop l.cell-index l.cells)) ≡ list_all is_text_unit (text_of l.cells)
