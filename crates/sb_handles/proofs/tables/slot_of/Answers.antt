use Rattle.std.proofs.Common.{rules, ◌≡◌, ◌+◌, get_or, None, sym, ◌∙◌, arith}
use Rattle.std.proofs.lemmas.Grind.{common_steps}
use Rattle.sb_handles.proofs.SlotLemmas.{slot_at}
use Rattle.sb_handles.proofs.tables.slot_of.Goals as goal

-- src/tables.rt:38:1
pub returns-in-Some-clause-slot : goal.returns-in-Some-clause-slot
returns-in-Some-clause-slot c =
    let n : c.args.number ≡ 1 + c.in_ok-place.place = search (rules, arith) in
    let at = slot_at 1 c.in_ok-place.place c.args.number c.args.slots.now n in
    let got : get_or c.args.slots.now c.in_ok-place.place None ≡ c.in-Some.slot.now = grind (arith, common_steps, c.in-Some.ensures.lookup) in
    sym (at ∙ got)
