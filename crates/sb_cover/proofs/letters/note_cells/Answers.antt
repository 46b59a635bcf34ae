use Rattle.std.proofs.Common.{◌∙◌, ap}
use Rattle.sb_cover.specs.Letters.{has_letter}
use Rattle.sb_cover.proofs.letters.note_cells.Goals as goal

pub returns-in-One-clause-kept : goal.returns-in-One-clause-kept
returns-in-One-clause-kept c = λ u h. ap (λ l. has_letter l u) c.loop-cell.invariant.same ∙ h

pub returns-in-Lit-clause-kept : goal.returns-in-Lit-clause-kept
returns-in-Lit-clause-kept c = λ u h. c.in_ok-note-in-Lit.ensures.kept u (ap (λ l. has_letter l u) c.loop-cell.invariant.same ∙ h)

pub returns-clause-kept : goal.returns-clause-kept
returns-clause-kept c = λ u h. ap (λ l. has_letter l u) c.loop-cell.invariant.same ∙ h
