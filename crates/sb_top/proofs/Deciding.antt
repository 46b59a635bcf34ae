-- What each entry of a legal history says of its own decision.
use Rattle.std.proofs.Common.{◌≡◌, ◌∙◌, ℕ, zero, suc, ◌+◌, List, [], ◌∷◌, take, Some, refl, ap, subst, inl, inr}
use Rattle.std.proofs.lemmas.Option.{none-some, same_Some}
use Rattle.std.specs.Prelude.{slice_get}
use Rattle.sb_block.specs.Calls.{call_of}
use Rattle.sb_block.specs.declared.faults.BlockFault.{BlockFault}
use Rattle.sb_book.specs.Headline.{Denies, EntriesSayWhatWasDone, IsCarriedOut, IsJudged, Says, space_at}
use Rattle.sb_book.specs.Histories.{IsEntry, IsLegalFrom, IsLegalHistory, Setting, space_after, space_from}
use Rattle.sb_book.specs.declared.decisions.Decision.{Decision}
use Rattle.sb_book.specs.declared.decisions.Decision.TheVariants.{Denied, Faked, Performed, Refused}
use Rattle.sb_book.specs.declared.entries.Entry.{Entry}
use Rattle.sb_call.specs.declared.arguments.Arg.{Arg}
use Rattle.sb_call.specs.declared.tags.CallTag.{CallTag}
use Rattle.sb_kernel.specs.Namespaces.{Space}
use Rattle.sb_kernel.specs.Openings.{opening}
use Rattle.sb_rule.specs.Verdicts.{DecidingRuleIsFirst, NoRuleWhereNoneHolds, policy_at, verdict_of}
use Rattle.sb_rule.specs.declared.actions.Action.{Action}
use Rattle.sb_rule.specs.declared.actions.Action.TheVariants.{Alarm, Allow, Deny, Fake, ReadOnly}
use Rattle.sb_rule.specs.declared.policies.Policy.{Policy}
use Rattle.sb_rule.specs.declared.verdicts.Verdict.{Verdict}
use Rattle.sb_rule.specs.declared.verdicts.Verdict.TheVariants as verdict
use Rattle.sb_top.specs.Decided.{IsBlockRefused, IsDecidedBy, IsDenied, IsDeniedFor, IsFaked}

-- ---- the rule of a decision

module _ (deciding : DecidingRuleIsFirst) (none : NoRuleWhereNoneHolds) (policy : Policy) (e : Entry) (tag : CallTag) where
  -- what the policy says of the call by the call's own tag
  own_verdict : (v : Verdict) → IsJudged policy e.taken tag v → verdict_of policy (call_of e.taken).tag (call_of e.taken).args ≡ v
  own_verdict v h = ap (λ t. verdict_of policy t (call_of e.taken).args) h.call ∙ h.judged

  decided : (line : ℕ) (action : Action) → IsJudged policy e.taken tag (verdict.Rule line action) → IsDecidedBy policy (call_of e.taken) line action
  decided line action h =
      let call = call_of e.taken in
      let found = deciding policy.rules call.tag call.args line action (own_verdict (verdict.Rule line action) h) in
      record { rule = found.0; first = found.1; on_line = found.2; by_action = found.3 }

  because : (v : Verdict) → IsJudged policy e.taken tag v → Denies v → IsDeniedFor policy (call_of e.taken) v
  because verdict.NoRule h d = (none policy.rules (call_of e.taken).tag (call_of e.taken).args).0 (own_verdict verdict.NoRule h)
  because (verdict.Rule line Deny) h d = (decided line Deny h, inl refl)
  because (verdict.Rule line Alarm) h d = (decided line Alarm h, inr refl)
  because (verdict.Rule line Allow) h d = absurd d
  because (verdict.Rule line ReadOnly) h d = absurd d
  because (verdict.Rule line Fake) h d = absurd d

-- ---- the entries of a legal history

-- entry n follows from the namespace before it
taken_from : (s : Setting) (ns : Space) (entries : List Entry) (n : ℕ) (e : Entry) → IsLegalFrom s ns entries → slice_get entries n ≡ Some e
    → IsEntry s (space_from ns (take n entries)) e
taken_from s ns [] n e legal there = absurd (none-some e there)
taken_from s ns (x ∷ entries) zero e legal there = subst (IsEntry s ns) (same_Some x e there) legal.0
taken_from s ns (x ∷ entries) (suc n) e legal there = taken_from s (space_after ns x.target x.decision) entries n e legal.1 there

pub entry_taken : (s : Setting) (entries : List Entry) (n : ℕ) (e : Entry) → IsLegalHistory s entries → slice_get entries n ≡ Some e
    → IsEntry s (space_at s entries n) e
entry_taken s entries n e legal there = taken_from s (opening s.start) entries n e legal there

module _ (law : EntriesSayWhatWasDone) (s : Setting) (entries : List Entry) (legal : IsLegalHistory s entries) (n : ℕ) (e : Entry)
    (there : slice_get entries n ≡ Some e) where
  abbrev policy : Policy
  policy = policy_at s.policies e.target

  abbrev before : Space
  before = space_at s entries n

  abbrev after : Space
  after = space_at s entries (n + 1)

  says : (d : Decision) → e.decision ≡ d → Says policy e before after d
  says d is = subst (Says policy e before after) is (law s entries n e legal there).0

  pub performed_is_allowed : (tag : CallTag) (line : ℕ) (action : Action) (args : List Arg) → e.decision ≡ Performed tag line action args
      → IsCarriedOut (policy_at s.policies e.target) e (space_at s entries n) (space_at s entries (n + 1)) tag line action args
  performed_is_allowed tag line action args is = says (Performed tag line action args) is

  pub refused_has_fault : (found : BlockFault) → e.decision ≡ Refused found → IsBlockRefused e (space_at s entries n) (space_at s entries (n + 1)) found
  refused_has_fault found is = let told = says (Refused found) is in record { in_copy = told.0; unchanged = told.1; replied = told.2 }

  pub denied_has_reason : DecidingRuleIsFirst → NoRuleWhereNoneHolds → (tag : CallTag) (reason : Verdict) → e.decision ≡ Denied tag reason
      → IsDenied (policy_at s.policies e.target) e (space_at s entries n) (space_at s entries (n + 1)) tag reason
  denied_has_reason deciding none tag reason is =
      let told = says (Denied tag reason) is in
      record {
        faultless = told.0.faultless;
        call = told.0.call;
        because = because deciding none policy e tag reason told.0 told.1;
        unchanged = told.2;
        replied = told.3;
      }

  pub faked_has_rule : DecidingRuleIsFirst → NoRuleWhereNoneHolds → (tag : CallTag) (line : ℕ) → e.decision ≡ Faked tag line
      → IsFaked (policy_at s.policies e.target) e (space_at s entries n) (space_at s entries (n + 1)) tag line
  faked_has_rule deciding none tag line is =
      let told = says (Faked tag line) is in
      record {
        faultless = told.0.faultless;
        call = told.0.call;
        because = decided deciding none policy e tag line Fake told.0;
        unchanged = told.1;
        replied = told.2;
      }
