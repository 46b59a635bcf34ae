use Rattle.std.specs.List.{list_all}
use Rattle.std.proofs.Common.{◌≡◌, ◌∙◌, ◌∷◌, inl, inr, true, ap, eqb, subst}
use Rattle.sb_cover.specs.Letters.{has_letter, is_noted}
use Rattle.sb_cover.proofs.TextLemmas.{letter_for}
use Rattle.sb_cover.proofs.text_machines.letters_at.Goals as goal

pub returns-then-mode-eq-ANY : goal.returns-then-mode-eq-ANY
returns-then-mode-eq-ANY c = λ unit.
    let patterns = c.args.table.now.patterns.items in
    let letters = c.note_positions.new.letters.items in
    let noted : list_all (is_noted patterns letters) c.args.positions.now ≡ true =
    subst (λ p. list_all (is_noted p letters) c.args.positions.now ≡ true) c.deref.ensures.value c.in_ok-note_positions.ensures.here in
    let here : has_letter letters c.args.table.now.other ≡ true = c.in_ok-note_positions.ensures.kept c.args.table.now.other c.in_ok-note.ensures.here in
    letter_for patterns letters (c.args.mode ∷ c.args.positions.now) c.args.table.now.other c.args.table.now.stands here noted (inr (ap (λ m. eqb m 5) c.if-mode-eq-ANY.true)) unit

pub returns : goal.returns
returns c = λ unit.
    let patterns = c.args.table.now.patterns.items in
    let letters = c.note_positions-2.new.letters.items in
    let noted : list_all (is_noted patterns letters) c.args.positions.now ≡ true =
    subst (λ p. list_all (is_noted p letters) c.args.positions.now ≡ true) c.deref-2.ensures.value c.in_ok-note_positions-2.ensures.here in
    let here : has_letter letters c.args.table.now.other ≡ true =
    c.in_ok-note_positions-2.ensures.kept c.args.table.now.other (c.in_ok-note-2.ensures.kept c.args.table.now.other c.in_ok-note.ensures.here) in
    let slash : has_letter letters 92 ≡ true = c.in_ok-note_positions-2.ensures.kept 92 c.in_ok-note-2.ensures.here in
    letter_for patterns letters (c.args.mode ∷ c.args.positions.now) c.args.table.now.other c.args.table.now.stands here noted (inl slash) unit
