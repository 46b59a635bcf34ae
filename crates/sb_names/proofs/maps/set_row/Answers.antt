use Rattle.std.proofs.Common.{rules}
use Rattle.sb_names.proofs.EntryLemmas.{absent_replaced, row_there, set_kept_at, set_rows_at}
use Rattle.sb_names.proofs.maps.set_row.Goals as goal

pub returns-in_default-clause-rows : goal.returns-in_default-clause-rows
returns-in_default-clause-rows g c = absent_replaced c.args.index.now.entries c.args.name.now c.args.value (search rules)

pub returns-in-Some-get_mut-clause-kept : goal.returns-in-Some-get_mut-clause-kept
returns-in-Some-get_mut-clause-kept g c =
    set_kept_at c.args.name.now c.args.hash c.in-Some.number c.args.index.now.entries c.requires.hash c.requires.kept c.args.value c.in-Some.field-0-1
    (search rules) c.in-Some-get_mut.row.now (search rules) (c.get_mut.follows.lender (c.in-Some-get_mut.row.now.0, c.args.value)).entries
    (c.get_mut.follows.holds (c.in-Some-get_mut.row.now.0, c.args.value)).0

pub returns-in-Some-get_mut-clause-rows : goal.returns-in-Some-get_mut-clause-rows
returns-in-Some-get_mut-clause-rows g c =
    set_rows_at c.args.name.now c.args.hash c.in-Some.number c.args.index.now.entries c.requires.hash c.requires.kept c.args.value c.in-Some.field-0-1
    (search rules) c.in-Some-get_mut.row.now (search rules) (c.get_mut.follows.lender (c.in-Some-get_mut.row.now.0, c.args.value)).entries
    (c.get_mut.follows.holds (c.in-Some-get_mut.row.now.0, c.args.value)).0

pub returns-in_default-get_mut-clause-rows : goal.returns-in_default-get_mut-clause-rows
returns-in_default-get_mut-clause-rows g c =
    absurd (row_there c.args.name.now c.args.hash c.in-Some.number c.args.index.now.entries c.requires.hash c.requires.kept c.args.value c.in-Some.field-0-1
    (search rules) (search rules))
