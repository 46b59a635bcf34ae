use Rattle.std.proofs.Common.{◌≡◌, ◌++◌, take, string_bytes}
use Rattle.sb_glyphs.specs.Glyphs.{shown}
use Rattle.sb_glyphs.proofs.glyphs.put_glyphs.Given as goal

abbrev pub invariant-loop-glyph : goal.invariant-loop-glyph
invariant-loop-glyph l = string_bytes l.out ≡ string_bytes l.initial.out ++ shown (take l.glyph-index l.glyphs)
