use Rattle.std.specs.Prelude.{nat_eq}
use Rattle.std.specs.Cmp.Lexicographic.{pointwise}
use Rattle.std.specs.List.{list_any}
use Rattle.sb_cover.proofs.PickLemmas.{noted_new}
use Rattle.sb_cover.proofs.picking.note_label.Goals as goal

pub returns : goal.returns
returns c =
    let s = c.in_ok-is_new.ensures.stored in
    noted_new (list_any (pointwise nat_eq c.args.label) c.args.labels.now.keys) c.in_ok-is_new.is_new c.args.label c.args.labels.now.keys c.insert_full.new.self.keys c.in_ok-is_new.ensures.keys
    c.in_ok-is_new.ensures.added s.0 c.in_ok-is_new.field-0-0 s.1 s.2
