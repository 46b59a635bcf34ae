use Rattle.std.proofs.Common.{◌≡◌, drop}
use Rattle.sb_cover.specs.Letters.{has_letter}
use Rattle.sb_cover.proofs.letters.has_letter.Given as goal

abbrev pub invariant-loop-letter : goal.invariant-loop-letter
invariant-loop-letter l = has_letter (drop l.letter-index l.letters) l.unit ≡ has_letter l.letters l.unit
