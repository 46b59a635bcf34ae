use Rattle.std.proofs.Common.{◌≡◌, ◌++◌, map, string_bytes, take}
use Rattle.std.specs.List.{flat_map}
use Rattle.sb_commands.specs.Forms.{choice_of}
use Rattle.sb_commands.specs.UsageMessages.{choice_text}
use Rattle.sb_commands.proofs.usage_messages.put_choices.Given as goal

abbrev pub invariant-loop-option : goal.invariant-loop-option
invariant-loop-option l =
    string_bytes l.out ≡ string_bytes l.initial.out ++ flat_map choice_text (map choice_of (take l.option-index l.options))
