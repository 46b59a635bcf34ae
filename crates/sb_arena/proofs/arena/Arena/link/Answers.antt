use Rattle.std.proofs.Common.{rules}
use Rattle.sb_arena.proofs.Readers.{live_in, link_last, link_sound, link_whole}
use Rattle.sb_arena.proofs.Freeing.{link_kept}
use Rattle.sb_arena.proofs.Rooting.{link_rooted}
use Rattle.sb_arena.proofs.arena.Arena.link.Goals as goal

pub link_last-requires-clause-child : goal.link_last-requires-clause-child
link_last-requires-clause-child g c = live_in c.self.inside.links.items c.self.inside.values.items c.self.inside.free.items c.args.self.now c.self.view_is (c.self.invariant.0, c.self.invariant.1) c.args.child.0 c.requires.child

pub link_last-requires-clause-parent : goal.link_last-requires-clause-parent
link_last-requires-clause-parent g c = live_in c.self.inside.links.items c.self.inside.values.items c.self.inside.free.items c.args.self.now c.self.view_is (c.self.invariant.0, c.self.invariant.1) c.args.parent.0 c.requires.parent

pub link_last-requires-clause-last : goal.link_last-requires-clause-last
link_last-requires-clause-last g c =
    link_last c.self.inside.links.items c.self.inside.values.items c.self.inside.free.items c.args.self.now c.self.view_is (c.self.invariant.0, c.self.invariant.1) c.args.child.0 c.args.parent.0
    c.requires.child c.requires.parent c.requires.unlinked

pub invariant_of-self : goal.invariant_of-self
invariant_of-self g c =
    let sound = link_sound c.self.inside.links.items c.self.inside.values.items c.self.inside.free.items c.args.self.now c.self.view_is (c.self.invariant.0, c.self.invariant.1) c.args.child.0 c.args.parent.0
    c.requires.child c.requires.parent c.requires.unlinked in
    let kept = link_kept c.self.inside.links.items c.self.inside.values.items c.self.inside.free.items c.args.self.now c.self.view_is (c.self.invariant.0, c.self.invariant.1) c.self.invariant.3 c.args.child.0 c.args.parent.0
    c.requires.child c.requires.parent c.requires.unlinked in
    let rooted = link_rooted c.self.inside.links.items c.self.inside.values.items c.self.inside.free.items c.args.self.now c.self.view_is (c.self.invariant.0, c.self.invariant.1) c.self.invariant.4 c.args.child.0 c.args.parent.0
    c.requires.child c.requires.parent c.requires.unlinked c.requires.apart in
    rw c.link_last.ensures (sound.0, sound.1, c.self.invariant.2, kept, rooted)

pub returns : goal.returns
returns g c =
    let whole = link_whole c.self.inside.links.items c.self.inside.values.items c.self.inside.free.items c.args.self.now c.self.view_is (c.self.invariant.0, c.self.invariant.1) c.args.child.0 c.args.parent.0
    c.requires.child c.requires.parent c.requires.unlinked in
    search (rules, whole)
