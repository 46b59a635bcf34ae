use Rattle.std.proofs.Common.{rules, ◌≡◌, ◌+◌, ◌-◌, true, Some, arith, ◌==◌, ap, ◌∙◌}
use Rattle.sb_handles.specs.Tables.{without_handle}
use Rattle.sb_handles.specs.Slots.{slot_of}
use Rattle.sb_handles.proofs.SlotLemmas.{cleared}
use Rattle.sb_handles.proofs.tables.HandleTable.close.Goals as goal

-- src/tables.rt:92:5
pub returns-in-Some-clause-ok : goal.returns-in-Some-clause-ok
returns-in-Some-clause-ok c =
    let n : c.args.number ≡ 1 + (c.args.number - 1) = grind (arith, c.in-Some.ensures.place) in
    let at : slot_of 1 c.self.inside.slots.items c.args.number ≡ Some c.in-Some.slot = search rules in
    let t : (c.in-Some.slot.target == c.args.target) ≡ true = search rules in
    cleared c.args.target (c.args.number - 1) c.args.number c.self.inside.slots.items c.in-Some.slot n at t
    ∙ ap (λ store. without_handle store.table c.args.target c.args.number) c.self.view_is
