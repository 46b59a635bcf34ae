use Rattle.std.proofs.Common.{◌≡◌, drop, map}
use Rattle.sb_commands.specs.Forms.{choice_of}
use Rattle.sb_commands.specs.Usage.{option_from}
use Rattle.sb_commands.proofs.usage.option_of.Given as goal

abbrev pub invariant-loop-number : goal.invariant-loop-number
invariant-loop-number l = option_from l.number (map choice_of (drop l.number l.options)) l.word ≡ option_from 0 (map choice_of l.options) l.word
