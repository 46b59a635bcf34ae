use Rattle.std.proofs.Common.{◌≡◌, ◌+◌, length}
use Rattle.sb_glyphs.specs.Glyphs.{glyphs_of}
use Rattle.sb_glyphs.proofs.glyphs.count_glyphs.Given as goal

abbrev pub invariant-loop-count : goal.invariant-loop-count
invariant-loop-count l = l.count + length (glyphs_of l.rest) ≡ length (glyphs_of l.bytes)
