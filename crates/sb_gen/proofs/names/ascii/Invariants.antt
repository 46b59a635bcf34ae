use Rattle.std.proofs.Common.{◌≡◌, take}
use Rattle.sb_gen.proofs.names.ascii.Given as goal

-- the units so far are the bytes so far
abbrev pub invariant-loop-byte : goal.invariant-loop-byte
invariant-loop-byte l = l.units.items ≡ take l.byte-index l.text
