use Rattle.std.specs.Prelude.{nat_eq, Some}
use Rattle.std.specs.Cmp.Lexicographic.{pointwise, bytes_decides}
use Rattle.std.specs.List.{list_any, slice_get}
use Rattle.std.proofs.Common.{◌≡◌, ◌∙◌, [], inr, subst, sym}
use Rattle.std.proofs.lemmas.Option.{get_or_from_slice_get, slice_get_within}
use Rattle.sb_explore.specs.Exploring.{list_at}
use Rattle.sb_explore.proofs.FoundLemmas.{old_kept}
use Rattle.sb_compare.proofs.shown_calls.note.Goals as goal

pub returns : goal.returns
returns c =
    let old = c.args.classes.now.keys in
    let class = c.args.class in
    let place = c.in_ok-place.place in
    let s = c.in_ok-place.ensures.stored in
    let same : c.insert_full.new.self.keys ≡ old =
    old_kept (list_any (pointwise nat_eq class) old) c.in_ok-place.is_new old c.insert_full.new.self.keys class c.in_ok-place.ensures.keys c.in_ok-place.ensures.added c.if-is_new.false in
    let found : slice_get old place ≡ Some s.0 = subst (λ l. slice_get l place ≡ Some s.0) same s.1 in
    let there : class ≡ list_at old place = (bytes_decides class s.0).0 s.2 ∙ sym (get_or_from_slice_get old place s.0 [] found) in
    inr (same, place, slice_get_within old place s.0 found, sym there, c.keep_shorter.ensures)
