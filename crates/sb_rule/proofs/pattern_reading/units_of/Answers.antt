use Rattle.std.proofs.Common.{◌≡◌, ◌∙◌, ◌++◌, ◌+◌, ◌<◌, ◌∷◌, [], ℕ, List, ap, get_or, length, take}
use Rattle.std.proofs.lemmas.Grind.{flat_map-append}
use Rattle.std.proofs.lemmas.List.{append-nil, take_all, take_more}
use Rattle.sb_rule.specs.PatternReading.{cell_text, text_of}
use Rattle.sb_rule.specs.declared.cells.Cell.{Cell}
use Rattle.sb_rule.specs.declared.cells.Cell.TheVariants.{Lit}
use Rattle.sb_rule.proofs.pattern_reading.units_of.Goals as goal

one_more : (cells : List Cell) (n : ℕ) → n < length cells → text_of (take n cells) ++ cell_text (get_or cells n (Lit 0)) ≡ text_of (take (n + 1) cells)
one_more cells n h = rw (take_more cells n (Lit 0) h, flat_map-append, append-nil)

pub loop-cell-preserved : goal.loop-cell-preserved
loop-cell-preserved c =
    c.in_ok-append_cell.ensures ∙ ap (λ us. us ++ cell_text (get_or c.args.cells.now c.loop-cell.cell-index (Lit 0))) c.loop-cell.invariant
    ∙ one_more c.args.cells.now c.loop-cell.cell-index c.loop-cell-test.true

pub returns : goal.returns
returns c = rw (take_all c.loop-cell.cell-index c.args.cells.now c.loop-cell-test.false) at c.loop-cell.invariant
