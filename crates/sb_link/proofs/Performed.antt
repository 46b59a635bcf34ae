-- Calls that were performed.
use Rattle.std.proofs.Common.{◌≡◌, ℕ, zero, suc, ◌+◌, List, [], ◌∷◌, Some, subst}
use Rattle.std.specs.Prelude.{slice_get}
use Rattle.sb_rule.specs.Verdicts.{policy_at}
use Rattle.sb_book.specs.Headline.{EntriesSayWhatWasDone, Says, space_at}
use Rattle.sb_book.specs.declared.entries.Entry.{Entry}
use Rattle.sb_link.specs.LinkedHistories.{PerformAllResolved, PerformsResolved}
use Rattle.sb_link.specs.LinkedLaws.{PerformedCallsAreResolved}
use Rattle.sb_link.specs.declared.links.Link.{Link}
use Rattle.sb_link.proofs.Steps.{of_some, none_is_none}

resolved_at : (links : List Link) (entries : List Entry) (n : ℕ) (e : Entry) → PerformAllResolved links entries → slice_get entries n ≡ Some e
    → PerformsResolved links e.decision
resolved_at links [] n e h k = absurd (none_is_none e k)
resolved_at links (first ∷ entries) zero e h k = subst (λ x. PerformsResolved links x.decision) (of_some first e k) h.0
resolved_at links (first ∷ entries) (suc n) e h k = resolved_at links entries n e h.1 k

pub performed_calls_are_resolved : EntriesSayWhatWasDone → PerformedCallsAreResolved
performed_calls_are_resolved law s n e tag line action args history is k d =
    let setting = s.history.setting in
    let entries = s.history.entries in
    let says = (law setting entries n e history.legal k).0 in
    let carried = subst (Says (policy_at setting.policies e.target) e (space_at setting entries n) (space_at setting entries (n + 1))) d says in
    (carried.allowed, subst (PerformsResolved s.links) d (resolved_at s.links entries n e is.resolved k))
