use Rattle.std.specs.List.{slice_split}
use Rattle.std.proofs.Common.{arith, ◌++◌}
use Rattle.sb_rule.specs.Chunks.{is_any}
use Rattle.sb_opcode.specs.Opcodes as op
use Rattle.sb_opcode.specs.declared.opcodes.Seek.TheVariants.{Forward}
use Rattle.sb_opcode.specs.Options.{FOLD}
use Rattle.sb_compile.specs.Compiling.{opcode, closed, later_code}
use Rattle.sb_compile.specs.Steps.{last_if}
use Rattle.sb_compile.proofs.Steps.{later_pushed, pushed_length}
use Rattle.sb_compile.proofs.patterns.push_later.Goals as goal

pub loop-run-preserved : goal.loop-run-preserved
loop-run-preserved c =
    let negated = c.args.group.negated in
    let param = c.args.group.param in
    let run = c.in-Some.run'.now in
    let later = c.in-Some.later.now in
    let whole = c.args.code.now ++ closed negated (later_code param (slice_split is_any c.args.cells.now)) in
    let next = last_if c.is_none.result negated (opcode param FOLD (op.Text run Forward)) in (
      later_pushed negated c.is_none.result param run later c.loop-run.rest.now c.loop-run.code c.push_text.new.code whole
          c.in-Some.ensures.parts c.is_none.ensures c.in_ok-push_text.ensures c.loop-run.invariant.0,
      omega (arith, pushed_length c.loop-run.code c.push_text.new.code next c.in_ok-push_text.ensures, c.loop-run.invariant.1, c.in-Some.ensures.shorter),
    )
