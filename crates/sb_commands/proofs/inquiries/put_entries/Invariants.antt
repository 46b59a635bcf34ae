use Rattle.std.proofs.Common.{◌≡◌, ◌++◌, string_bytes, take, map}
use Rattle.std.specs.List.{flat_map}
use Rattle.sb_commands.specs.Forms.{form_with}
use Rattle.sb_commands.specs.Inquiries.{entry_text}
use Rattle.sb_commands.proofs.inquiries.put_entries.Given as goal

abbrev pub invariant-loop-work : goal.invariant-loop-work
invariant-loop-work l = string_bytes l.out ≡ string_bytes l.initial.out ++ flat_map entry_text (map form_with (take l.work-index l.works))
