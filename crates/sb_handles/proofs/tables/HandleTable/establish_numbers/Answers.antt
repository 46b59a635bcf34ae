use Rattle.std.proofs.Common.{subst}
use Rattle.sb_handles.specs.Tables.{IsTable}
use Rattle.sb_handles.proofs.SlotLemmas.{slots_rise}
use Rattle.sb_handles.proofs.tables.HandleTable.establish_numbers.Goals as goal

-- src/tables.rt:112:5
pub returns : goal.returns
returns c = subst (λ store. IsTable store.table) c.self.view_is (slots_rise c.self.inside.slots.items)
