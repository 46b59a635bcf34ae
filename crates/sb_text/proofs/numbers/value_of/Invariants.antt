use Rattle.std.proofs.Common.{◌≡◌, ◌<◌, ◌^◌, drop}
use Rattle.sb_text.specs.Numbers.{value_from}
use Rattle.sb_text.proofs.numbers.value_of.Given as goal

abbrev pub invariant-loop-digit : goal.invariant-loop-digit
invariant-loop-digit l =
    (l.value < 2 ^ 64) × (value_from l.base l.value (drop l.digit-index l.digits) ≡ value_from l.base 0 l.digits)
