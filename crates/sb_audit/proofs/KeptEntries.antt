-- An entry against what is kept of the lines before it.
use Rattle.std.proofs.Common.{◌≡◌, ◌∙◌, ℕ, Bool, true, false, not, cond, ◌||◌, List, refl, ap, sym, subst}
use Rattle.std.specs.Prelude.{Option, None, Some}
use Rattle.sb_rule.specs.declared.policies.Policy.{Policy}
use Rattle.sb_statements.specs.declared.scripts.Script.{Script}
use Rattle.sb_transcript.specs.declared.read_lines.EntryLine.{EntryLine}
use Rattle.sb_audit.specs.Clauses.{reply_due, shows_rule}
use Rattle.sb_audit.specs.Comparing.{same_reply}
use Rattle.sb_audit.specs.Dues.{due_call, due_reply, due_rule}
use Rattle.sb_audit.specs.Kept.{IsOwnPlace, KeptAt, decision_kept, is_call_kept, is_own_kept}
use Rattle.sb_audit.specs.declared.dues.Due.{Due}
use Rattle.sb_audit.specs.declared.dues.Due.TheVariants as due
use Rattle.sb_audit.specs.declared.dues.OwnDue.{OwnDue}
use Rattle.sb_audit.specs.declared.own_places.OwnPlace.{OwnPlace}
use Rattle.sb_audit.specs.declared.own_places.OwnPlace.TheVariants.{NotClean, NotOwn, At}
use Rattle.sb_audit.specs.declared.slots.OwnReply.{OwnReply}

-- an entry has its place if it is not refused one
pub own_is_kept : (policy : Policy) (script : Script) (rows : List (List (Option OwnReply))) (target : ℕ) (e : EntryLine) (place : OwnPlace)
    → IsOwnPlace policy script rows target e place → (place ≡ NotOwn → ⊥) → is_own_kept policy script rows target e ≡ true
own_is_kept policy script rows target e NotClean here other = λ i. not (here i) || is_call_kept policy script rows target e
own_is_kept policy script rows target e NotOwn here other = absurd (other refl)
own_is_kept policy script rows target e (At thread place) here other = λ i. not (here.clean i) || here.own i

-- the clauses in turn, by their tests
abbrev tried : Bool → Bool → Bool → Due → Due → Due → Option Due
tried rule reply own a b d = cond (not rule) (Some a) (cond (not reply) (Some b) (cond (not own) (Some d) None))

by_tests : (policy : Policy) (script : Script) (kept : KeptAt) (target : ℕ) (e : EntryLine) (own : Bool) → shows_rule policy e.decision ≡ true
    → same_reply e.reply (reply_due kept.space target e.decision) ≡ true → is_own_kept policy script kept.rows target e ≡ own
    → decision_kept policy script kept target e ≡ cond (not own) (Some (due.Own (due_call policy script target e))) None
by_tests policy script kept target e own shows same is =
    λ i. tried (shows i) (same i) (is i) (due.Rule (due_rule policy e.decision)) (due.Reply (due_reply e.reply (reply_due kept.space target e.decision)))
    (due.Own (due_call policy script target e))

-- no clause fails
pub none_due : (policy : Policy) (script : Script) (kept : KeptAt) (target : ℕ) (e : EntryLine) → shows_rule policy e.decision ≡ true
    → same_reply e.reply (reply_due kept.space target e.decision) ≡ true → is_own_kept policy script kept.rows target e ≡ true
    → None ≡ decision_kept policy script kept target e
none_due policy script kept target e shows same own = sym (by_tests policy script kept target e true shows same own)

-- the entry is that of no call
pub own_due : (policy : Policy) (script : Script) (kept : KeptAt) (target : ℕ) (e : EntryLine) (place : OwnPlace) (owed : OwnDue) → shows_rule policy e.decision ≡ true
    → same_reply e.reply (reply_due kept.space target e.decision) ≡ true → IsOwnPlace policy script kept.rows target e place → place ≡ NotOwn
    → owed ≡ due_call policy script target e → Some (due.Own owed) ≡ decision_kept policy script kept target e
own_due policy script kept target e place owed shows same here is o =
    let refused = subst (IsOwnPlace policy script kept.rows target e) is here in
    ap (λ d. Some (due.Own d)) o ∙ sym (by_tests policy script kept target e false shows same (λ i. not (refused.0 i) || refused.1 i))
