use Rattle.sb_compare.proofs.ShownCallLemmas.{place_found, place_missing}
use Rattle.sb_compare.proofs.shown_calls.place_of.Goals as goal

pub returns : goal.returns
returns c = record {
  there = place_found c.args.class.now c.args.classes.now.keys c.get_index_of.result c.get_index_of.ensures.index;
  missing = place_missing c.args.class.now c.args.classes.now.keys c.get_index_of.result c.get_index_of.ensures.found;
}
