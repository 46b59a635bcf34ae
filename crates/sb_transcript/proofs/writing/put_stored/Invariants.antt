use Rattle.std.proofs.Common.{◌≡◌, ◌++◌, length}
use Rattle.std.specs.List.{flat_map}
use Rattle.sb_transcript.specs.Fields.{argument_text}
use Rattle.sb_transcript.proofs.writing.put_stored.Given as goal

-- the text so far, with the arguments that are left, has all
abbrev pub invariant-loop-arg : goal.invariant-loop-arg
invariant-loop-arg l = l.text.items ++ flat_map argument_text l.rest ≡ l.initial.text.items ++ flat_map argument_text l.initial.rest

abbrev pub decreases-loop-arg : goal.decreases-loop-arg
decreases-loop-arg l = length l.rest
