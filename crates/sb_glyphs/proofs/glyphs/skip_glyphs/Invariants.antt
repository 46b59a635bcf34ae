use Rattle.std.proofs.Common.{◌≡◌, ◌-◌, drop}
use Rattle.sb_glyphs.specs.Glyphs.{glyphs_of}
use Rattle.sb_glyphs.proofs.glyphs.skip_glyphs.Given as goal

abbrev pub invariant-loop-glyph : goal.invariant-loop-glyph
invariant-loop-glyph l = drop (l.n - l._glyph) (glyphs_of l.rest) ≡ drop l.n (glyphs_of l.bytes)
