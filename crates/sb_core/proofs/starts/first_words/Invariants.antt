use Rattle.std.proofs.Common.{◌≡◌, take}
use Rattle.sb_core.specs.Worlds.{first_words}
use Rattle.sb_core.proofs.starts.first_words.Given as goal

abbrev pub invariant-loop-target : goal.invariant-loop-target
invariant-loop-target l = l.words.items ≡ first_words (take l.target-index l.targets)
