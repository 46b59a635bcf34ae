use Rattle.std.proofs.Common.{◌∙◌, true, false, ap, eqb, sym}
use Rattle.std.specs.List.{list_all}
use Rattle.sb_index.specs.Bounds.{first_of, last_of}
use Rattle.sb_index.specs.Marks.{is_marked}
use Rattle.sb_index.specs.Questions.{cond_may_pass, lies}
use Rattle.sb_index.specs.declared.questions.Question.TheVariants.{Within}
use Rattle.sb_index.proofs.SlotLemmas.{no_point_marked, point_marked, slot_here, slot_test}
use Rattle.sb_index.proofs.slots.put_number.Goals as goal

pub returns-then-conds_pass-clause-marked : goal.returns-then-conds_pass-clause-marked
returns-then-conds_pass-clause-marked c slot k h =
    let bounds = c.args.bounds.now in
    let at = c.slot_of-slot.ensures in
    let n = c.args.number in
    point_marked (is_marked c.put_point.new.self slot k) (is_marked c.args.marks.now slot k) (eqb k c.args.rule) (eqb slot c.slot_of-slot.result)
    (lies (first_of bounds slot) (last_of bounds slot) n) (slot_test c.args.feature bounds c.args.conds.now slot) (c.put_point.ensures.marked slot k)
    (slot_here bounds at.rising n c.slot_of-slot.result slot (slot_test c.args.feature bounds c.args.conds.now) true at.within at.first at.last h
    (sym (c.conds_pass.ensures ∙ ap (λ f. list_all (cond_may_pass (Within c.args.feature f c.last.result)) c.args.conds.now) c.first.ensures
    ∙ ap (λ l. list_all (cond_may_pass (Within c.args.feature (first_of bounds c.slot_of-slot.result) l)) c.args.conds.now) c.last.ensures) ∙ c.if-conds_pass.true))

pub returns-else-conds_pass-clause-marked : goal.returns-else-conds_pass-clause-marked
returns-else-conds_pass-clause-marked c slot k h =
    let bounds = c.args.bounds.now in
    let at = c.slot_of-slot.ensures in
    let n = c.args.number in
    no_point_marked (is_marked c.args.marks.now slot k) (eqb k c.args.rule) (eqb slot c.slot_of-slot.result)
    (lies (first_of bounds slot) (last_of bounds slot) n) (slot_test c.args.feature bounds c.args.conds.now slot)
    (slot_here bounds at.rising n c.slot_of-slot.result slot (slot_test c.args.feature bounds c.args.conds.now) false at.within at.first at.last h
    (sym (c.conds_pass.ensures ∙ ap (λ f. list_all (cond_may_pass (Within c.args.feature f c.last.result)) c.args.conds.now) c.first.ensures
    ∙ ap (λ l. list_all (cond_may_pass (Within c.args.feature (first_of bounds c.slot_of-slot.result) l)) c.args.conds.now) c.last.ensures) ∙ c.if-conds_pass.false))
