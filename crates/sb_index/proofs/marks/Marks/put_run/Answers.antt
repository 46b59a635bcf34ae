use Rattle.std.proofs.Common.{◌+◌, ◌-◌, ◌<◌, ◌≤◌, ◌∙◌, refl, arith}
use Rattle.sb_index.proofs.MarkLemmas.{run_put, up_fresh}
use Rattle.sb_index.proofs.marks.Marks.put_run.Goals as goal

pub returns-clause-marked : goal.returns-clause-marked
returns-clause-marked c =
    run_put c.args.self.now (record { points = c.args.self.now.points; begins = c.put.new.sets; ends = c.put-2.new.sets }) c.args.slots c.args.first c.args.last
    c.args.number refl c.put.ensures.put c.put-2.ensures.put c.requires.sized.2 (c.put-2.ensures.many ∙ c.requires.sized.2) c.requires.last c.requires.fresh

pub returns-clause-fresh : goal.returns-clause-fresh
returns-clause-fresh c n k h =
    let less : c.args.number < c.args.number + 1 = omega arith in
    let before : c.args.number ≤ k = omega (arith, h) in
    let fresh = c.requires.fresh n k before in (
      fresh.0,
      up_fresh c.args.self.now.begins.items c.put.new.sets.items c.args.first c.args.number (c.args.number + 1) c.put.ensures.put less n k h fresh.1,
      up_fresh c.args.self.now.ends.items c.put-2.new.sets.items (c.args.slots - 1 - c.args.last) c.args.number (c.args.number + 1) c.put-2.ensures.put less n k h
          fresh.2,
    )
