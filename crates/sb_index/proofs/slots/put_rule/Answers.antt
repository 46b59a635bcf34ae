use Rattle.std.proofs.Common.{◌≡◌, ◌∙◌, ◌<◌, ◌≤◌, ◌+◌, ap, eqb, subst, sym, true, arith}
use Rattle.sb_index.specs.Bounds.{first_of, last_of}
use Rattle.sb_index.specs.Marks.{is_marked}
use Rattle.sb_index.specs.Values.{AreAdmitted}
use Rattle.sb_index.proofs.SlotLemmas.{everywhere, slot_test}
use Rattle.sb_index.proofs.slots.put_rule.Goals as goal

pub returns-in-None-clause-marked : goal.returns-in-None-clause-marked
returns-in-None-clause-marked c slot k h =
    let bounds = c.args.bounds.now in
    let first = first_of bounds slot in
    let last = last_of bounds slot in
    let all : slot_test c.args.feature bounds c.deref-conds.result.now slot ≡ true =
    subst (λ v. AreAdmitted v first last (slot_test c.args.feature bounds c.deref-conds.result.now slot)) c.in-None.is (c.values_of_all.ensures first last)
    in
    let here : slot < c.len.result + 1 = omega (arith, h, c.len.ensures.is) in
    let end : slot ≤ c.len-in-None.result = omega (arith, h, c.len-in-None.ensures.is) in
    everywhere c.len-in-None.result slot (is_marked c.put_run.new.self slot k) (is_marked c.args.marks.now slot k) (eqb k c.args.at)
    (slot_test c.args.feature bounds c.args.rule.now.conds slot) end (c.put_run.ensures.marked slot k here)
    (ap (λ cs. slot_test c.args.feature bounds cs slot) (sym c.deref-conds.ensures) ∙ all)
