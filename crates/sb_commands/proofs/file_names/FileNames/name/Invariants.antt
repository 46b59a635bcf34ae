use Rattle.std.proofs.Common.{◌≡◌, drop, map}
use Rattle.sb_commands.specs.Commands.{name_at}
use Rattle.sb_commands.proofs.file_names.FileNames.name.Given as goal

abbrev pub invariant-loop-name : goal.invariant-loop-name
invariant-loop-name l = name_at l.place (map (λ name. name.now) (drop l.name-index l.names)) ≡ name_at l.which l.self
