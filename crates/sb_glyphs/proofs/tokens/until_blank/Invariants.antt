use Rattle.std.proofs.Common.{◌≡◌, ◌+◌, ◌-◌, ◌≤◌, not, length, drop}
use Rattle.std.specs.List.{prefix_len}
use Rattle.sb_glyphs.specs.Tokens.{is_blank_glyph}
use Rattle.sb_glyphs.proofs.tokens.until_blank.Given as goal

abbrev pub invariant-loop-n : goal.invariant-loop-n
invariant-loop-n l =
    (l.n ≤ length l.glyphs) × (l.n + prefix_len (λ glyph. not (is_blank_glyph glyph)) (drop l.n l.glyphs) ≡ prefix_len (λ glyph. not (is_blank_glyph glyph)) l.glyphs)

abbrev pub decreases-loop-n : goal.decreases-loop-n
decreases-loop-n l = length l.glyphs - l.n
