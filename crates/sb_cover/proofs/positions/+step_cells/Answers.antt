use Rattle.std.proofs.Common.{◌∙◌, sym}
use Rattle.sb_cover.proofs.PositionLemmas.{first_any, first_one, first_alike}
use Rattle.sb_cover.proofs.positions.+step_cells.Goals as goal

pub returns-in_ok-step_cells-in-Any : goal.returns-in_ok-step_cells-in-Any
returns-in_ok-step_cells-in-Any t c = λ patterns k later from.
    first_any patterns c.args.position k later c.args.unit c.args.cells.now c.in-Some.rest.now c.in-Some.cell.now c.args.positions.now.items c.put.new.positions.items c.step_cells.new.positions.items
    c.in-Some.ensures.cases.0 c.in-Any.is from c.in_ok-put-in-Any.ensures (c.in_ok-step_cells-in-Any.ensures patterns k later)

pub returns-in_ok-put-in-One : goal.returns-in_ok-put-in-One
returns-in_ok-put-in-One t c = λ patterns k later from.
    first_one patterns c.args.position k later c.args.unit c.args.cells.now c.in-Some.rest.now c.in-Some.cell.now c.args.positions.now.items c.put-in-One.new.positions.items
    c.in-Some.ensures.cases.0 c.in-One.is from c.in_ok-put-in-One.ensures

pub returns-in_ok-put-in-Lit : goal.returns-in_ok-put-in-Lit
returns-in_ok-put-in-Lit t c = λ patterns k later from.
    first_alike patterns c.args.position k later c.args.unit c.in-Lit.wanted c.args.cells.now c.in-Some.rest.now c.in-Some.cell.now c.args.positions.now.items c.put-in-Lit.new.positions.items
    c.in-Some.ensures.cases.0 c.in-Lit.is from (sym c.is_alike.ensures ∙ c.if-not-is_alike.false) c.in_ok-put-in-Lit.ensures
