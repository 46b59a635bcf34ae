use Rattle.std.proofs.Common.{◌≡◌, ◌++◌, string_bytes, take, map}
use Rattle.std.specs.List.{flat_map}
use Rattle.sb_commands.specs.Forms.{place_of}
use Rattle.sb_commands.specs.Inquiries.{place_faults}
use Rattle.sb_commands.proofs.inquiries.put_places_faults.Given as goal

abbrev pub invariant-loop-place : goal.invariant-loop-place
invariant-loop-place l = string_bytes l.out ≡ string_bytes l.initial.out ++ flat_map place_faults (map place_of (take l.place-index l.places))
