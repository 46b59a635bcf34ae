use Rattle.std.proofs.Common.{◌≡◌, drop}
use Rattle.sb_opcode.specs.Groups.{rules_of}
use Rattle.sb_opcode.specs.Meaning.{judged_by}
use Rattle.sb_compile.proofs.call_codes.judge_each.Given as goal

abbrev pub invariant-loop-number : goal.invariant-loop-number
invariant-loop-number l = judged_by l.args (drop l.number (rules_of l.rules.code)) ≡ judged_by l.args (rules_of l.rules.code)
