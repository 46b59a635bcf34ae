use Rattle.std.proofs.Common.{◌≡◌, ◌∙◌, ◌<◌, ◌+◌, ◌&&◌, ◌||◌, ap, eqb, subst, arith}
use Rattle.std.specs.List.{list_any}
use Rattle.std.specs.Prelude.{Some, nat_le}
use Rattle.sb_index.specs.Bounds.{first_of, last_of}
use Rattle.sb_index.specs.Marks.{is_marked}
use Rattle.sb_index.specs.Questions.{lies}
use Rattle.sb_index.specs.Values.{AreAdmitted}
use Rattle.sb_index.proofs.MarkLemmas.{fresh_later}
use Rattle.sb_index.proofs.SlotLemmas.{list_marked, run_is, slot_test}
use Rattle.sb_index.proofs.slots.put_values.Goals as goal

pub returns-in-Among-clause-fresh : goal.returns-in-Among-clause-fresh
returns-in-Among-clause-fresh c =
    c.put_numbers.ensures.fresh (c.args.rule + 1) (omega arith) (fresh_later c.args.marks.now c.args.rule (c.args.rule + 1) (omega arith) c.requires.fresh)

pub returns-in-Among-clause-marked : goal.returns-in-Among-clause-marked
returns-in-Among-clause-marked c slot k h =
    let bounds = c.args.bounds.now in
    let test = slot_test c.args.feature bounds c.args.conds.now slot in
    list_marked (is_marked c.put_numbers.new.marks slot k) (is_marked c.args.marks.now slot k) (eqb k c.args.rule)
    (list_any (lies (first_of bounds slot) (last_of bounds slot)) c.in-Among.numbers.now) test (c.put_numbers.ensures.marked slot k h)
    (subst (λ v. AreAdmitted (Some v) (first_of bounds slot) (last_of bounds slot) test) c.in-Among.is
    (c.requires.admitted (first_of bounds slot) (last_of bounds slot)))

pub returns-in-Between-clause-marked : goal.returns-in-Between-clause-marked
returns-in-Between-clause-marked c slot k h =
    let bounds = c.args.bounds.now in
    let first = c.slot_of.ensures in
    let last = c.slot_of-in-Between.ensures in
    let test = slot_test c.args.feature bounds c.args.conds.now slot in
    let lo = c.in-Between.lo in
    let hi = c.in-Between.hi in
    let admitted : (nat_le lo (last_of bounds slot) && nat_le (first_of bounds slot) hi) ≡ test =
    subst (λ v. AreAdmitted (Some v) (first_of bounds slot) (last_of bounds slot) test) c.in-Between.is
    (c.requires.admitted (first_of bounds slot) (last_of bounds slot))
    in
    let here : slot < c.len.result + 1 = omega (arith, h, c.len.ensures.is) in
    c.put_run.ensures.marked slot k here
    ∙ ap (λ b. is_marked c.args.marks.now slot k || (eqb k c.args.rule && b))
    (run_is bounds first.rising lo hi c.slot_of.result c.slot_of-in-Between.result slot first.small first.within last.within first.first first.last last.first
    last.last h ∙ admitted)
