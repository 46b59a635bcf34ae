use Rattle.std.proofs.Common.{◌≡◌, true, map, take}
use Rattle.sb_compile.specs.Compiling.{code_of}
use Rattle.sb_compile.specs.Programs.{code_in_call, are_for}
use Rattle.sb_compile.proofs.programs.compile.Given as goal

abbrev pub invariant-loop-tag : goal.invariant-loop-tag
invariant-loop-tag l =
    (map code_in_call l.calls.items ≡ map (code_of l.policy.rules) (take l.tag-index l.tag-items))
    × (are_for (take l.tag-index l.tag-items) l.calls.items ≡ true)
