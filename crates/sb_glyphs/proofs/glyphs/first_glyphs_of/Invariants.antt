use Rattle.std.proofs.Common.{◌≡◌, ◌-◌, ◌++◌, take}
use Rattle.sb_glyphs.specs.Glyphs.{glyphs_of}
use Rattle.sb_glyphs.proofs.glyphs.first_glyphs_of.Given as goal

abbrev pub invariant-loop-glyph : goal.invariant-loop-glyph
invariant-loop-glyph l = l.glyphs.items ++ take (l.n - l._glyph) (glyphs_of l.rest) ≡ take l.n (glyphs_of l.bytes)
