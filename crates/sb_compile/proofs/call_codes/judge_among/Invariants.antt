use Rattle.std.proofs.Common.{◌≡◌, ◌≤◌, ◌-◌, drop}
use Rattle.sb_opcode.specs.Groups.{rules_of}
use Rattle.sb_opcode.specs.Meaning.{judged_by}
use Rattle.sb_compile.proofs.call_codes.judge_among.Given as goal

abbrev pub invariant-loop-number : goal.invariant-loop-number
invariant-loop-number l =
    (judged_by l.args (drop l.at (rules_of l.rules.code)) ≡ judged_by l.args (rules_of l.rules.code)) × (l.at ≤ 256)

abbrev pub decreases-loop-number : goal.decreases-loop-number
decreases-loop-number l = 256 - l.at
