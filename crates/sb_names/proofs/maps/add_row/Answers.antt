use Rattle.std.proofs.Common.{rules, ap, sym, subst, ◌∙◌}
use Rattle.std.specs.BTreeMap.{insert_entry}
use Rattle.sb_names.specs.Entries.{IsKept, rows_in}
use Rattle.sb_base.specs.Orders.{by_pair}
use Rattle.sb_names.proofs.EntryLemmas.{more_kept, more_rows}
use Rattle.sb_names.proofs.maps.add_row.Goals as goal

pub returns-clause-kept : goal.returns-clause-kept
returns-clause-kept g c =
    subst IsKept (sym (c.in_ok-insert.ensures.entries
    ∙ ap (λ key. insert_entry by_pair c.args.index.now.entries (c.args.hash, c.free_number-number.result) (key, c.args.value)) c.requires.key))
    (more_kept c.args.name.now c.args.hash c.free_number-number.result c.args.index.now.entries c.requires.hash c.requires.kept c.args.value
    (search rules) c.free_number-number.ensures c.requires.absent)

pub returns-clause-rows : goal.returns-clause-rows
returns-clause-rows g c =
    ap rows_in (c.in_ok-insert.ensures.entries
    ∙ ap (λ key. insert_entry by_pair c.args.index.now.entries (c.args.hash, c.free_number-number.result) (key, c.args.value)) c.requires.key)
    ∙ more_rows c.args.name.now c.args.hash c.free_number-number.result c.args.index.now.entries c.requires.hash c.requires.kept c.args.value
    c.free_number-number.ensures c.requires.absent
