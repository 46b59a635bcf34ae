use Rattle.std.proofs.Common.{◌≡◌, ◌++◌, drop, string_bytes}
use Rattle.sb_glyphs.specs.Excerpts.{blanks_under}
use Rattle.sb_glyphs.proofs.excerpts.put_blanks_under.Given as goal

abbrev pub invariant-loop-glyph : goal.invariant-loop-glyph
invariant-loop-glyph l =
    string_bytes l.out ++ blanks_under (string_bytes l.text) (drop l.glyph-index l.glyphs)
    ≡ string_bytes l.initial.out ++ blanks_under (string_bytes l.initial.text) l.glyphs
