use Rattle.sb_index.proofs.TableLemmas.{all_at_first, none_up_to, table_complete, table_alone}
use Rattle.sb_index.proofs.indexes.set_by_tables.Goals as goal

pub loop-table-init : goal.loop-table-init
loop-table-init c = (
  λ rules_are tag few is. all_at_first rules_are tag c.args.args.now c.all-set.result few c.all-set.ensures,
  λ rules_are tag is. none_up_to rules_are tag c.args.tables.now c.args.args.now c.all-set.result,
)

pub loop-table-preserved : goal.loop-table-preserved
loop-table-preserved c =
    let tables = c.args.tables.now in
    let table = c.table-item.result in
    let i = c.loop-table.table-index in
    let slot = c.narrow.ensures.0 in
    let meets = c.narrow.ensures.2 in
    let put = c.narrow.ensures.3 in
    let old = c.loop-table.invariant in (
      λ rules_are tag few is. table_complete c.rules_that_hold_pass.ensures rules_are tag c.args.args.now tables i table c.loop-table.set c.narrow.new.set slot
          c.loop-table-test.true c.table-item.is is c.narrow.ensures.1 meets put (old.0 rules_are tag few is),
      λ rules_are tag is. table_alone rules_are tag c.args.args.now tables i table c.loop-table.set c.narrow.new.set slot
          c.loop-table-test.true c.table-item.is is c.narrow.ensures.1 meets put (old.1 rules_are tag is),
    )
