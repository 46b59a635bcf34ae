use Rattle.std.proofs.Common.{◌≡◌, ◌∙◌, ◌&&◌, true, ap, subst, sym}
use Rattle.sb_cover.specs.Choices.{IsInPlace}
use Rattle.sb_cover.specs.Shown.{is_shown, mended}
use Rattle.sb_cover.proofs.InPlaceLemmas.{in_place_itself, in_place_mended}
use Rattle.sb_cover.proofs.ShownLemmas.{mended_shown}
use Rattle.sb_cover.proofs.shown.text_in_place.Goals as goal

pub returns-then-not-table-clause-in_place : goal.returns-then-not-table-clause-in_place
returns-then-not-table-clause-in_place c = in_place_itself c.args.table.now.conds.items c.args.units.now c.in_ok-text.text c.in_ok-text.ensures

pub returns-clause-in_place : goal.returns-clause-in_place
returns-clause-in_place c =
    let table = c.args.table.now in
    subst (IsInPlace table.conds.items c.args.units.now) (sym c.in_ok-text-2.ensures)
    (in_place_mended c.texts_are_matched.ensures table.conds.items table.patterns.items table.other c.args.units.now table.cells table.stands (table.plain c.if-not-table.false))

pub returns-clause-shown : goal.returns-clause-shown
returns-clause-shown c = λ plain.
    ap is_shown c.in_ok-text-2.ensures ∙ mended_shown c.walks_find_pairs.ensures c.args.table.now.other c.args.table.now.stands.plain c.args.units.now
