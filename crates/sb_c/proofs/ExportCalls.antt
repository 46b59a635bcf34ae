-- A decision by a function for C is a call of a host.
use Rattle.std.specs.Prelude.{Option, is_some, nat_lt, not}
use Rattle.std.proofs.Common.{◌≡◌, ℕ, true, false, ◌&&◌, List, length, None, Some, refl}
use Rattle.std.proofs.lemmas.Bool.{and_parts, false≢true}
use Rattle.sb_rule.specs.Verdicts.{policy_at}
use Rattle.sb_rule.specs.declared.policies.Policy.{Policy}
use Rattle.sb_book.specs.declared.decisions.Decision.{Decision}
use Rattle.sb_host.specs.HostLaws.{DecideBy, after_call}
use Rattle.sb_host.specs.HostWorkers.{HostAt, after_decision, can_decide, copy_to_answer}
use Rattle.sb_c.specs.ExportLaws.{DecisionsAreCalls}

none_of : (d : Option Decision) → not (is_some d) ≡ true → is_some d ≡ false
none_of (Some d) h = absurd (false≢true h)
none_of None h = refl

undecided : (h : HostAt) (policies number : ℕ) → can_decide h policies number ≡ true → is_some h.decision ≡ false
undecided h policies number can =
    none_of h.decision (and_parts (nat_lt number policies && is_some (copy_to_answer h)) (not (is_some h.decision)) can).1

by_undecided : (h : HostAt) (policy : Policy) → is_some h.decision ≡ false → after_decision h policy ≡ after_call h (DecideBy policy)
by_undecided h policy e = rw (e) refl

pub decisions : DecisionsAreCalls
decisions h policies number can = by_undecided h (policy_at policies number) (undecided h (length policies) number can)
