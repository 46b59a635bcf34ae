-- Texts that need more room.
use Rattle.std.specs.Prelude.{nat_le}
use Rattle.std.proofs.Common.{◌≡◌, ◌<◌, ℕ, false, List, length, arith}
use Rattle.std.proofs.lemmas.Bool.Decides.{nat_tests}
use Rattle.sb_host.specs.Literals.{IsPatternLiteral, IsStringLiteral}
use Rattle.sb_c.specs.Texts.{NeedsRoom}

longer : (n room : ℕ) → nat_le n room ≡ false → room < n
longer n room h = grind (arith, nat_tests, h)

pub string_needs_room : (us text : List ℕ) (room : ℕ) → IsStringLiteral us text → nat_le (length text) room ≡ false → NeedsRoom (IsStringLiteral us) room
string_needs_room us text room is h = record { text = text; is = is; longer = longer (length text) room h }

pub pattern_needs_room : (us text : List ℕ) (room : ℕ) → IsPatternLiteral us text → nat_le (length text) room ≡ false → NeedsRoom (IsPatternLiteral us) room
pattern_needs_room us text room is h = record { text = text; is = is; longer = longer (length text) room h }
