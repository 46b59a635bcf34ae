use Rattle.std.proofs.Common.{◌∙◌, ap, map, refl, sym}
use Rattle.sb_opcode.specs.Unpacking.{cell_of}
use Rattle.sb_opcode.specs.Walking.{front_opcode, group_end}
use Rattle.sb_opcode.proofs.FrontLemmas.{front_step}
use Rattle.sb_opcode.proofs.walks.lone_known.Goals as goal

pub returns : goal.returns
returns c =
    let param = c.in_ok-param.param in
    let cells = map cell_of c.in_ok-param.cells.now in
    let whole = c.in_ok-param.whole in (
      front_opcode param cells whole,
      c.in_ok-param.ensures,
      refl,
      front_step c.args.args.now param cells whole ∙ ap group_end (sym c.is_front.ensures),
    )
