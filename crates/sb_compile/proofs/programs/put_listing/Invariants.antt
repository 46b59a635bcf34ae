use Rattle.std.specs.List.{flat_map}
use Rattle.std.proofs.Common.{◌≡◌, ◌++◌, take}
use Rattle.sb_compile.specs.Compiling.{code_in, program_of}
use Rattle.sb_compile.specs.Listing.{code_lines}
use Rattle.sb_compile.proofs.programs.put_listing.Given as goal

abbrev pub invariant-loop-tag : goal.invariant-loop-tag
invariant-loop-tag l =
    l.text.items
    ≡ l.fn.text.items ++ flat_map (λ tag. code_lines l.policy.name tag (code_in (program_of l.policy) tag)) (take l.tag-index l.tag-items)
