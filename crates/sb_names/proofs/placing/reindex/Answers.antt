use Rattle.std.proofs.Common.{rules, ◌≡◌, ◌≢◌}
use Rattle.sb_names.proofs.Moving.{is_moved, stays_put}
use Rattle.sb_names.proofs.placing.reindex.Goals as goal

pub returns-then-old_hash-hash-clause-moved : goal.returns-then-old_hash-hash-clause-moved
returns-then-old_hash-hash-clause-moved c =
    let same : c.args.old_hash ≡ c.args.hash = search rules in
    stays_put c.args.index.now.entries c.insert.new.self.entries _ c.args.hash c.args.node c.args.old_hash c.in_ok-insert.ensures.updates.0 same

pub returns-clause-moved : goal.returns-clause-moved
returns-clause-moved c =
    let apart : c.args.old_hash ≢ c.args.hash = search rules in
    is_moved c.args.index.now.entries c.insert.new.self.entries _ c.args.hash c.args.node c.args.old_hash c.in_ok-insert.ensures.updates.0 apart
    c.remove.new.self.entries c.remove.ensures.updates.0
