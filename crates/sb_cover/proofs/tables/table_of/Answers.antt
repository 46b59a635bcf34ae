use Rattle.std.specs.List.{list_all}
use Rattle.std.proofs.Common.{◌∙◌, false, ap, map}
use Rattle.sb_cover.specs.AskedConds.{cells_of_cond}
use Rattle.sb_cover.specs.Shown.{are_plain}
use Rattle.sb_cover.proofs.PlainLemmas.{plain_patterns}
use Rattle.sb_cover.proofs.tables.table_of.Goals as goal

pub returns-clause-plain : goal.returns-clause-plain
returns-clause-plain c = λ plain.
    c.all_plain-is_plain.ensures ∙ ap (list_all (are_plain false)) c.deref-4.ensures.value
    ∙ plain_patterns c.args.conds.items c.in_ok-patterns.patterns.items (c.in_ok-patterns.ensures ∙ ap (map cells_of_cond) c.deref.ensures.value) plain
