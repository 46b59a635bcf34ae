use Rattle.std.proofs.Common.{◌≡◌, drop, map}
use Rattle.sb_commands.specs.CommandLine.{with_required}
use Rattle.sb_commands.proofs.command_line.with_required.Given as goal

abbrev pub invariant-loop-name : goal.invariant-loop-name
invariant-loop-name l =
    with_required (map (λ name. name.now) (drop l.name-index l.names)) l.line
    ≡ with_required (map (λ name. name.now) l.names) l.initial.line
