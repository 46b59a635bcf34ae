use Rattle.std.proofs.Common.{rules, ◌≡◌, false, inl, inr, subst, sym}
use Rattle.std.specs.Prelude.{None, Some}
use Rattle.sb_index.specs.Tables.{AreCandidates, AreTables, IsBuckets, PassBuckets, PassTables}
use Rattle.sb_index.proofs.indexes.Index.candidates.Goals as goal

pub returns-then-not-has_several : goal.returns-then-not-has_several
returns-then-not-has_several c =
    let i = c.self.inside in
    let args = c.args.args.now in
    let set = c.set_by_tables-set.result in
    let found = c.set_by_tables-set.ensures in
    let are : AreTables i.rules.value i.tag.value c.deref.result.now =
    subst (AreTables i.rules.value i.tag.value) (sym c.deref.ensures.value) c.self.invariant.2
    in
    let one : c.has_several.result ≡ false = search rules in
    subst (λ v. AreCandidates v args set) c.self.view_is (record {
      complete = found.complete i.rules.value i.tag.value c.self.invariant.0 are;
      by_tables = subst (λ ts. PassTables i.rules.value i.tag.value ts args set) c.deref.ensures.value (found.alone i.rules.value i.tag.value are);
      by_buckets = inl (c.has_several.ensures.one one);
    })

pub returns-in-Some : goal.returns-in-Some
returns-in-Some c =
    let i = c.self.inside in
    let args = c.args.args.now in
    let set = c.set_by_tables-set.result in
    let new = c.narrow.new.set in
    let found = c.set_by_tables-set.ensures in
    let are : AreTables i.rules.value i.tag.value c.deref.result.now =
    subst (AreTables i.rules.value i.tag.value) (sym c.deref.ensures.value) c.self.invariant.2
    in
    let by_tables : PassTables i.rules.value i.tag.value i.tables.items args set =
    subst (λ ts. PassTables i.rules.value i.tag.value ts args set) c.deref.ensures.value (found.alone i.rules.value i.tag.value are)
    in
    let some : i.buckets ≡ Some c.in-Some.buckets = search rules in
    let is : IsBuckets i.rules.value i.tag.value (Some c.in-Some.buckets) = subst (IsBuckets i.rules.value i.tag.value) some c.self.invariant.3 in
    subst (λ v. AreCandidates v args new) c.self.view_is (record {
      complete = c.narrow.ensures.complete i.rules.value i.tag.value is (found.complete i.rules.value i.tag.value c.self.invariant.0 are);
      by_tables = λ j d h has. by_tables j d h (c.narrow.ensures.left j has);
      by_buckets = inr (subst (λ b. PassBuckets i.rules.value i.tag.value b args new) (sym some) (c.narrow.ensures.alone i.rules.value i.tag.value is));
    })

pub returns-in_default : goal.returns-in_default
returns-in_default c =
    let i = c.self.inside in
    let args = c.args.args.now in
    let set = c.set_by_tables-set.result in
    let found = c.set_by_tables-set.ensures in
    let are : AreTables i.rules.value i.tag.value c.deref.result.now =
    subst (AreTables i.rules.value i.tag.value) (sym c.deref.ensures.value) c.self.invariant.2
    in
    let none : i.buckets ≡ None = search rules in
    subst (λ v. AreCandidates v args set) c.self.view_is (record {
      complete = found.complete i.rules.value i.tag.value c.self.invariant.0 are;
      by_tables = subst (λ ts. PassTables i.rules.value i.tag.value ts args set) c.deref.ensures.value (found.alone i.rules.value i.tag.value are);
      by_buckets = inr (subst (λ b. PassBuckets i.rules.value i.tag.value b args set) (sym none) tt);
    })
