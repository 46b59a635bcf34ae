use Rattle.std.proofs.Common.{◌≡◌, ◌+◌, ◌∷◌, List, length, ap, arith}
use Rattle.sb_book.specs.declared.entries.Entry.{Entry}
use Rattle.sb_explain.proofs.Capping.{entry_more}
use Rattle.sb_explain.proofs.why.put_entries.Goals as goal

pub loop-entry-preserved : goal.loop-entry-preserved
loop-entry-preserved c =
    let first = rw (c.in-Some.is) at c.split_first.ensures in
    let long = ap (λ (l : List Entry). length l) first in (
      entry_more c.args.explained.ready.now.policies c.args.explained.ready.now.script c.args.explained.lines.now _ _ _ _ _ _ _ first c.in_ok-put_entry.ensures
          c.loop-entry.invariant.0,
      omega (arith, c.loop-entry.invariant.1, long),
    )
