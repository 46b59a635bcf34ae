use Rattle.std.proofs.Common.{◌≡◌, ◌++◌, take}
use Rattle.std.specs.List.{flat_map}
use Rattle.sb_transcript.specs.Fields.{argument_text}
use Rattle.sb_transcript.proofs.writing.put_arguments.Given as goal

abbrev pub invariant-loop-arg : goal.invariant-loop-arg
invariant-loop-arg l = l.text.items ≡ l.initial.text.items ++ flat_map argument_text (take l.arg-index l.args)
