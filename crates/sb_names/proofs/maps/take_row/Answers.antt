use Rattle.std.proofs.Common.{rules, subst, sym, ap, ◌∙◌}
use Rattle.sb_names.specs.Entries.{IsKept, rows_in}
use Rattle.sb_names.proofs.EntryLemmas.{absent_without, out_kept, out_rows}
use Rattle.sb_names.proofs.maps.take_row.Goals as goal

pub returns-in_err-number-clause-rows : goal.returns-in_err-number-clause-rows
returns-in_err-number-clause-rows g c = absent_without c.args.index.now.entries c.args.name.now (search rules)

pub returns-clause-kept : goal.returns-clause-kept
returns-clause-kept g c =
    subst IsKept (sym c.remove.ensures.entries)
    (out_kept c.args.name.now c.args.hash c.in_ok-number.number c.args.index.now.entries c.requires.hash c.requires.kept c.in_ok-number.value (search rules))

pub returns-clause-rows : goal.returns-clause-rows
returns-clause-rows g c =
    ap rows_in c.remove.ensures.entries
    ∙ out_rows c.args.name.now c.args.hash c.in_ok-number.number c.args.index.now.entries c.requires.hash c.requires.kept c.in_ok-number.value (search rules)
