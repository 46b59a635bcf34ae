use Rattle.std.proofs.Common.{rules, ◌≡◌, ◌∙◌, ap}
use Rattle.std.specs.BTreeMap.{get}
use Rattle.std.specs.Ordering.{nat_cmp}
use Rattle.std.specs.Prelude.{is_some}
use Rattle.sb_handles.specs.Counts.{excludes, kept}
use Rattle.sb_handles.specs.Shares.{conflict_of}
use Rattle.sb_handles.proofs.CountLemmas.{counts_tell}
use Rattle.sb_handles.proofs.shares.ShareTable.has_conflict.Goals as goal

pub returns : goal.returns
returns c =
    let object = c.args.object in
    let access = c.args.access.0 in
    let sharing = c.args.sharing.0 in
    let told : c.excludes.result ≡ excludes (kept (get nat_cmp c.self.inside.counts object)) access sharing = search rules in
    told
    ∙ ap (λ counts. excludes counts access sharing) (c.self.invariant object)
    ∙ counts_tell object access sharing c.self.inside.shares.entries
    ∙ ap (λ shares. is_some (conflict_of shares object access sharing)) c.self.view_is
