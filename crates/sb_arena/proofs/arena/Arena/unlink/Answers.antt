use Rattle.std.proofs.Common.{rules, ◌≡◌, Some}
use Rattle.sb_arena.specs.Links.{at}
use Rattle.sb_arena.proofs.Readers.{live_in}
use Rattle.sb_arena.proofs.Unlinking.{unlink_parent, unlink_prev, unlink_next, unlink_sound, unlink_whole}
use Rattle.sb_arena.proofs.Freeing.{unlink_kept}
use Rattle.sb_arena.proofs.Rooting.{unlink_rooted}
use Rattle.sb_arena.proofs.arena.Arena.unlink.Goals as goal

pub link_of-requires : goal.link_of-requires
link_of-requires g c = rw c.deref.ensures.value (live_in c.self.inside.links.items c.self.inside.values.items c.self.inside.free.items c.args.self.now c.self.view_is (c.self.invariant.0, c.self.invariant.1) c.args.child.0 c.requires)

pub unlink_from-requires-clause-child : goal.unlink_from-requires-clause-child
unlink_from-requires-clause-child g c = live_in c.self.inside.links.items c.self.inside.values.items c.self.inside.free.items c.args.self.now c.self.view_is (c.self.invariant.0, c.self.invariant.1) c.args.child.0 c.requires

pub unlink_from-requires-clause-parent : goal.unlink_from-requires-clause-parent
unlink_from-requires-clause-parent g c =
    let h : (at c.self.inside.links.items c.args.child.0).parent ≡ Some c.in-Some.parent = search rules in
    let got = unlink_parent c.self.inside.links.items c.self.inside.values.items c.self.inside.free.items c.args.self.now c.self.view_is (c.self.invariant.0, c.self.invariant.1) c.args.child.0 c.requires c.in-Some.parent h in
    search (rules, got)

pub unlink_from-requires-clause-prev : goal.unlink_from-requires-clause-prev
unlink_from-requires-clause-prev g c =
    let h : (at c.self.inside.links.items c.args.child.0).parent ≡ Some c.in-Some.parent = search rules in
    let got = unlink_prev c.self.inside.links.items c.self.inside.values.items c.self.inside.free.items c.args.self.now c.self.view_is (c.self.invariant.0, c.self.invariant.1) c.args.child.0 c.requires c.in-Some.parent h in
    search (rules, got)

pub unlink_from-requires-clause-next : goal.unlink_from-requires-clause-next
unlink_from-requires-clause-next g c =
    let h : (at c.self.inside.links.items c.args.child.0).parent ≡ Some c.in-Some.parent = search rules in
    let got = unlink_next c.self.inside.links.items c.self.inside.values.items c.self.inside.free.items c.args.self.now c.self.view_is (c.self.invariant.0, c.self.invariant.1) c.args.child.0 c.requires c.in-Some.parent h in
    search (rules, got)

pub invariant_of-self : goal.invariant_of-self
invariant_of-self g c =
    let h : (at c.self.inside.links.items c.args.child.0).parent ≡ Some c.in-Some.parent = search rules in
    let got = unlink_sound c.self.inside.links.items c.self.inside.values.items c.self.inside.free.items c.args.self.now c.self.view_is (c.self.invariant.0, c.self.invariant.1) c.args.child.0 c.requires c.in-Some.parent h in
    let kept = unlink_kept c.self.inside.links.items c.self.inside.values.items c.self.inside.free.items c.args.self.now c.self.view_is (c.self.invariant.0, c.self.invariant.1) c.self.invariant.3 c.args.child.0 c.requires c.in-Some.parent h in
    let rooted = unlink_rooted c.self.inside.links.items c.self.inside.values.items c.self.inside.free.items c.args.self.now c.self.view_is (c.self.invariant.0, c.self.invariant.1) c.self.invariant.4 c.args.child.0 c.requires c.in-Some.parent h in
    rw c.unlink_from.ensures (got.0, got.1, c.self.invariant.2, kept, rooted)

pub returns-in-Some : goal.returns-in-Some
returns-in-Some g c =
    let h : (at c.self.inside.links.items c.args.child.0).parent ≡ Some c.in-Some.parent = search rules in
    let got = unlink_whole c.self.inside.links.items c.self.inside.values.items c.self.inside.free.items c.args.self.now c.self.view_is (c.self.invariant.0, c.self.invariant.1) c.args.child.0 c.requires c.in-Some.parent h in
    search (rules, got)
