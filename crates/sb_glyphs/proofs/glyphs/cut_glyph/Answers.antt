use Rattle.std.proofs.Common.{rules, ◌≡◌, ◌∙◌, ◌<◌, sym, ap, length, Some, ◌∷◌}
use Rattle.bstr.specs.Utf8.{decoded}
use Rattle.sb_glyphs.specs.Glyphs.{glyphs_of}
use Rattle.sb_glyphs.specs.declared.glyphs.Glyph.TheVariants.{Char}
use Rattle.sb_glyphs.proofs.Cuts.{char_cut}
use Rattle.sb_glyphs.proofs.glyphs.cut_glyph.Goals as goal

pub returns-in-Some-default-clause-value : goal.returns-in-Some-default-clause-value
returns-in-Some-default-clause-value c =
    let char : (decoded c.args.bytes.now).char ≡ Some c.in-Some-default.character = sym c.decode.ensures.char ∙ c.in-Some-default.is-0 in
    let some : 0 < length c.args.bytes.now = search rules in
    char_cut c.args.bytes.now c.in-Some-default.character c.decode.result.1 some char c.decode.ensures.size
    ∙ ap (λ bs. Char c.in-Some-default.character ∷ glyphs_of bs) (sym c.split_at.ensures.back)
