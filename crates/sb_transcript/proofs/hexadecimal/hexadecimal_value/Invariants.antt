use Rattle.std.proofs.Common.{◌≡◌, ◌<◌, ◌^◌, drop}
use Rattle.sb_text.specs.Numbers.{value_from}
use Rattle.sb_transcript.proofs.hexadecimal.hexadecimal_value.Given as goal

abbrev pub invariant-loop-digit : goal.invariant-loop-digit
invariant-loop-digit l =
    (l.value < 2 ^ 64) × (value_from 16 l.value (drop l.digit-index l.digits) ≡ value_from 16 0 l.digits)
