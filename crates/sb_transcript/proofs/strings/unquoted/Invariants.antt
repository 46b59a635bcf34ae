use Rattle.std.proofs.Common.{◌≡◌, ◌++◌, length}
use Rattle.sb_transcript.specs.Strings.{unquoted, unquoted_from}
use Rattle.sb_transcript.proofs.strings.unquoted.Given as goal

abbrev pub invariant-loop-byte : goal.invariant-loop-byte
invariant-loop-byte l = l.units.items ++ unquoted_from l.escape l.rest ≡ unquoted l.bytes

abbrev pub decreases-loop-byte : goal.decreases-loop-byte
decreases-loop-byte l = length l.rest
