use Rattle.std.proofs.Common.{rules, ◌<◌, ◌^◌, ◌∙◌, ap, sym, subst, length}
use Rattle.std.specs.BTreeMap.{get}
use Rattle.std.specs.Ordering.{nat_cmp}
use Rattle.std.specs.Prelude.{Some}
use Rattle.sb_handles.specs.Counts.{AreCounted, AreRecounted, IsChangeable, counts_on, kinds_of}
use Rattle.sb_handles.specs.Shares.{SharesRise}
use Rattle.sb_handles.proofs.Recounting.{changeable, put_counted}
use Rattle.sb_handles.proofs.shares.ShareTable.open.Goals as goal

pub invariant_of-self-in_err-was : goal.invariant_of-self-in_err-was
invariant_of-self-in_err-was c =
    λ o. c.keep.ensures.same o ∙ c.self.invariant o ∙ ap (λ shares. counts_on o shares) (sym c.in_err-was.ensures.err)

pub recount-requires-clause-counted : goal.recount-requires-clause-counted
recount-requires-clause-counted c =
    let few : length c.self.inside.shares.entries < 2 ^ 63 = search rules in
    subst (λ k. IsChangeable k (kinds_of c.in_ok-was.was')) (sym (c.keep.ensures.same c.args.object ∙ c.self.invariant c.args.object))
    (subst (λ w. IsChangeable (counts_on c.args.object c.self.inside.shares.entries) (kinds_of w)) (sym c.in_ok-was.ensures.old)
    (changeable c.args.object c.args.handle c.self.inside.shares.entries few))

pub invariant_of-self-2 : goal.invariant_of-self-2
invariant_of-self-2 c =
    let rise : SharesRise c.self.inside.shares.entries = search rules in
    subst (λ shares. AreCounted shares (get nat_cmp c.recount.new.counts)) (sym c.in_ok-was.ensures.entries)
    (put_counted c.args.object c.args.handle (record { access = c.args.access; sharing = c.args.sharing }) c.self.inside.shares.entries
    (get nat_cmp c.keep.new.counts) (get nat_cmp c.recount.new.counts) rise (λ o. c.keep.ensures.same o ∙ c.self.invariant o)
    (subst (λ w. AreRecounted c.args.object (kinds_of w) (kinds_of (Some (record { access = c.args.access; sharing = c.args.sharing })))
    (get nat_cmp c.keep.new.counts) (get nat_cmp c.recount.new.counts)) c.in_ok-was.ensures.old c.recount.ensures))
