use Rattle.std.proofs.Common.{◌≡◌, ◌+◌, ◌-◌, ◌≤◌, not, length, drop}
use Rattle.std.specs.List.{prefix_len}
use Rattle.sb_glyphs.specs.Tokens.{is_char}
use Rattle.sb_glyphs.proofs.tokens.until_quote.Given as goal

abbrev pub invariant-loop-n : goal.invariant-loop-n
invariant-loop-n l =
    (l.n ≤ length l.glyphs) × (l.n + prefix_len (λ glyph. not (is_char 34 glyph)) (drop l.n l.glyphs) ≡ prefix_len (λ glyph. not (is_char 34 glyph)) l.glyphs)

abbrev pub decreases-loop-n : goal.decreases-loop-n
decreases-loop-n l = length l.glyphs - l.n
