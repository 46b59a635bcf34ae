use Rattle.std.proofs.Common.{rules, ◌≡◌, ◌∙◌, ◌<◌, ◌+◌, ◌-◌, ◌++◌, ◌∷◌, [], take, ap}
use Rattle.sb_glyphs.specs.Glyphs.{glyphs_of}
use Rattle.sb_glyphs.proofs.Cuts.{taken_next}
use Rattle.sb_glyphs.proofs.glyphs.first_glyphs_of.Goals as goal

pub loop-glyph-preserved : goal.loop-glyph-preserved
loop-glyph-preserved c =
    let glyph = c.in-Some.glyph in
    let after = glyphs_of c.in-Some.after.now in
    let i = c.loop-glyph._glyph in
    let pushed : c.push.new.self.items ≡ c.loop-glyph.glyphs.items ++ c.in-Some.glyph ∷ [] = search rules in
    let cut : glyphs_of c.loop-glyph.rest.now ≡ c.in-Some.glyph ∷ glyphs_of c.in-Some.after.now = search rules in
    let less : c.loop-glyph._glyph < c.args.n = search rules in
    ap (λ items. items ++ take (c.args.n - (i + 1)) after) pushed
    ∙ taken_next c.loop-glyph.glyphs.items (glyphs_of c.loop-glyph.rest.now) after (take c.args.n (glyphs_of c.args.bytes.now)) glyph c.args.n i less cut c.loop-glyph.invariant
