-- After a decision something is decided.
use Rattle.std.proofs.Common.{◌≡◌, ℕ, true, None, Some}
use Rattle.std.proofs.lemmas.Bool.{and_parts, false≢true}
use Rattle.std.specs.Prelude.{Option, ◌&&◌, is_some, nat_lt, not, option_map}
use Rattle.sb_block.specs.Copies.{Copied}
use Rattle.sb_rule.specs.declared.policies.Policy.{Policy}
use Rattle.sb_book.specs.Rulings.{ruling_of}
use Rattle.sb_host.specs.HostWorkers.{HostAt, after_decision, can_decide, copy_to_answer, decided_by}

by_copy : (h : HostAt) (policy : Policy) (copy : Option Copied) → is_some copy ≡ true → is_some (option_map ruling_of (decided_by h policy copy).decision) ≡ true
by_copy h policy (Some copy) some = some
by_copy h policy None some = absurd (false≢true some)

pub is_decided : (h : HostAt) (policy : Policy) (policies number : ℕ) → can_decide h policies number ≡ true
    → is_some (option_map ruling_of (after_decision h policy).decision) ≡ true
is_decided h policy policies number can =
    by_copy h policy (copy_to_answer h)
    (and_parts (nat_lt number policies) (is_some (copy_to_answer h)) (and_parts (nat_lt number policies && is_some (copy_to_answer h)) (not (is_some h.decision)) can).0).1
