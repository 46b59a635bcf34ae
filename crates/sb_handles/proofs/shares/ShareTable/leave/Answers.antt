use Rattle.std.proofs.Common.{rules, ◌≡◌, ◌<◌, ◌^◌, sym, subst, length, false}
use Rattle.std.specs.BTreeMap.{get}
use Rattle.std.specs.Ordering.{nat_cmp}
use Rattle.std.specs.Prelude.{None, is_some}
use Rattle.sb_handles.specs.Counts.{AreCounted, AreRecounted, IsChangeable, counts_on, kinds_of}
use Rattle.sb_handles.proofs.Recounting.{changeable, share_at, taken_counted, untouched}
use Rattle.sb_handles.proofs.shares.ShareTable.leave.Goals as goal

pub recount-requires-clause-counted : goal.recount-requires-clause-counted
recount-requires-clause-counted c =
    let few : length c.self.inside.shares.entries < 2 ^ 63 = search rules in
    subst (λ k. IsChangeable k (kinds_of c.remove-was.result)) (sym (c.self.invariant c.args.object))
    (subst (λ w. IsChangeable (counts_on c.args.object c.self.inside.shares.entries) (kinds_of w)) (sym c.remove-was.ensures.value)
    (changeable c.args.object c.args.handle c.self.inside.shares.entries few))

pub invariant_of-self : goal.invariant_of-self
invariant_of-self c =
    subst (λ shares. AreCounted shares (get nat_cmp c.recount.new.counts)) (sym c.remove-was.ensures.entries)
    (taken_counted c.args.object c.args.handle c.self.inside.shares.entries (get nat_cmp c.self.inside.counts) (get nat_cmp c.recount.new.counts) c.self.invariant
    (subst (λ w. AreRecounted c.args.object (kinds_of w) (kinds_of None) (get nat_cmp c.self.inside.counts) (get nat_cmp c.recount.new.counts))
    c.remove-was.ensures.value c.recount.ensures))

pub invariant_of-self-else-contains_key : goal.invariant_of-self-else-contains_key
invariant_of-self-else-contains_key c =
    let none : is_some (get nat_cmp c.self.inside.counts c.args.object) ≡ false = search rules in
    subst (λ shares. AreCounted shares (get nat_cmp c.self.inside.counts)) (sym c.remove-was.ensures.entries)
    (taken_counted c.args.object c.args.handle c.self.inside.shares.entries (get nat_cmp c.self.inside.counts) (get nat_cmp c.self.inside.counts) c.self.invariant
    (untouched c.args.object (share_at c.args.object c.args.handle c.self.inside.shares.entries) (get nat_cmp c.self.inside.counts) none))
