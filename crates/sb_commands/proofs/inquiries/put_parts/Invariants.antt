use Rattle.std.proofs.Common.{◌≡◌, ◌++◌, string_bytes, take, map}
use Rattle.std.specs.List.{flat_map}
use Rattle.sb_commands.specs.Inquiries.{part_text}
use Rattle.sb_commands.proofs.inquiries.put_parts.Given as goal

abbrev pub invariant-loop-part : goal.invariant-loop-part
invariant-loop-part l = string_bytes l.out ≡ string_bytes l.initial.out ++ flat_map part_text (map (λ part. part.now) (take l.part-index l.parts))
