use Rattle.std.proofs.Common.{rules, ◌≡◌}
use Rattle.std.specs.Prelude.{None}
use Rattle.sb_rule.specs.PatternReading.{fault_of, cells_of}
use Rattle.sb_rule.proofs.PatternTexts.{read_is_pattern}
use Rattle.sb_rule.proofs.patterns.Pattern.read.Goals as goal

pub invariant_of-result : goal.invariant_of-result
invariant_of-result c =
    let faultless : fault_of c.args.text.now ≡ None = search rules in
    let cells : c.in_ok-cells.cells.items ≡ cells_of c.args.text.now = search rules in
    read_is_pattern c.args.text.now _ faultless cells
