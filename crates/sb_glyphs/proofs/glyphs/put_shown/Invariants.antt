use Rattle.std.proofs.Common.{◌≡◌, ◌++◌, length, string_bytes}
use Rattle.sb_glyphs.specs.Glyphs.{shown_bytes}
use Rattle.sb_glyphs.proofs.glyphs.put_shown.Given as goal

abbrev pub invariant-loop-glyph : goal.invariant-loop-glyph
invariant-loop-glyph l = string_bytes l.out ++ shown_bytes l.rest ≡ string_bytes l.initial.out ++ shown_bytes l.bytes

abbrev pub decreases-loop-glyph : goal.decreases-loop-glyph
decreases-loop-glyph l = length l.rest
