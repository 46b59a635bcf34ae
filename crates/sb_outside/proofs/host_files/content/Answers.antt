use Rattle.std.proofs.Common.{rules, ◌≡◌, ◌<◌, ◌≤◌, true, length, vec_len}
use Rattle.sb_outside.proofs.Reading.{one_more, over}
use Rattle.sb_outside.proofs.host_files.content.Goals as goal

-- more was read than may be
pub returns-then-len-most-clause-long : goal.returns-then-len-most-clause-long
returns-then-len-most-clause-long g c e =
    let more : c.in_ok-may_have_more.may_have_more ≡ true = search rules in
    over g.D.Disk.gives g.D.Disk.fails c.args.most c.args.disk.now c.append_read.new.disk c.append_read.new.bytes.items
    (one_more g.D.Disk.gives g.D.Disk.fails c.args.disk.now c.loop.disk c.append_read.new.disk c.loop.bytes.items c.append_read.new.bytes.items
    c.loop.invariant.0 (c.in_ok-may_have_more.ensures.more more)) (search rules)

-- a piece more was read
pub loop-preserved : goal.loop-preserved
loop-preserved g c =
    let more : c.in_ok-may_have_more.may_have_more ≡ true = search rules in (
      one_more g.D.Disk.gives g.D.Disk.fails c.args.disk.now c.loop.disk c.append_read.new.disk c.loop.bytes.items c.append_read.new.bytes.items
          c.loop.invariant.0 (c.in_ok-may_have_more.ensures.more more),
      search rules,
    )
