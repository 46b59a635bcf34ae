use Rattle.std.proofs.Common.{rules}
use Rattle.sb_arena.proofs.Readers.{next_all}
use Rattle.sb_arena.proofs.arena.Arena.next.Goals as goal

pub returns : goal.returns
returns g c =
    let got = next_all c.self.inside.links.items c.self.inside.values.items c.self.inside.free.items c.args.self.now c.self.view_is (c.self.invariant.0, c.self.invariant.1) c.args.node.0 c.requires in
    search (rules, got)
