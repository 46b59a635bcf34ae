-- What each entry of a legal history says.
use Rattle.std.proofs.Common.{◌≡◌, ◌∙◌, ℕ, ◌+◌, List, [], ◌∷◌, take, Option, None, Some, refl, sym, ap, subst, zero, suc, arith}
use Rattle.std.proofs.lemmas.Option.{none-some, same_Some}
use Rattle.std.specs.Prelude.{slice_get}
use Rattle.sb_call.specs.declared.arguments.Arg.{Arg}
use Rattle.sb_call.specs.declared.tags.CallTag.{CallTag}
use Rattle.sb_block.specs.Calls.{call_of, call_unless}
use Rattle.sb_block.specs.Copies.{mark_of}
use Rattle.sb_block.specs.Faults.{fault}
use Rattle.sb_block.specs.declared.faults.BlockFault.{BlockFault}
use Rattle.sb_kernel.specs.Namespaces.{Space}
use Rattle.sb_kernel.specs.Openings.{opening}
use Rattle.sb_rule.specs.Verdicts.{DecidingRuleIsFirst, policy_at, verdict_of}
use Rattle.sb_rule.specs.declared.actions.Action.TheVariants.{Allow, Deny, Alarm, Fake, ReadOnly}
use Rattle.sb_rule.specs.declared.policies.Policy.{Policy}
use Rattle.sb_rule.specs.declared.verdicts.Verdict.{Verdict}
use Rattle.sb_rule.specs.declared.verdicts.Verdict.TheVariants as verdict
use Rattle.sb_book.specs.Decisions.{by_decoded, by_verdict, decision_of, read_only_args}
use Rattle.sb_book.specs.Headline.{EntriesSayWhatWasDone, Says, space_at}
use Rattle.sb_book.specs.Histories.{Setting, IsEntry, IsLegalFrom, reply_of, space_after, space_from}
use Rattle.sb_book.specs.declared.decisions.Decision.{Decision}
use Rattle.sb_book.specs.declared.decisions.Decision.TheVariants.{Refused, Denied, Faked, Performed}
use Rattle.sb_book.specs.declared.entries.Entry.{Entry}

module _ (law : DecidingRuleIsFirst) (policy : Policy) (e : Entry) (before : Space) where
  -- the reply is that of a decision
  abbrev Replies : Decision → Type 0
  Replies d = e.reply ≡ reply_of before e.target (mark_of e.taken) d

  -- the entry says what was done by a decision
  abbrev Tells : Decision → Type 0
  Tells d = Says policy e before (space_after before e.target d) d

  -- a verdict on the call of a copy without a fault
  by_rule : (tag : CallTag) (args : List Arg) → (call_of e.taken).tag ≡ tag → (call_of e.taken).args ≡ args → fault e.taken ≡ None
      → (v : Verdict) → verdict_of policy tag (call_of e.taken).args ≡ v → Replies (by_verdict tag args v)
      → Tells (by_verdict tag args v)
  by_rule tag args call same sound (verdict.Rule line Allow) judged replied =
      let found = law policy.rules tag (call_of e.taken).args line Allow judged in
      record {
        faultless = sound;
        allowed = record { call = call; rule = found.0; first = found.1; on_line = found.2; by_action = found.3; given = sym same };
        space = refl;
        replied = replied;
      }
  by_rule tag args call same sound (verdict.Rule line ReadOnly) judged replied =
      let found = law policy.rules tag (call_of e.taken).args line ReadOnly judged in
      record {
        faultless = sound;
        allowed = record { call = call; rule = found.0; first = found.1; on_line = found.2; by_action = found.3; given = ap read_only_args (sym same) };
        space = refl;
        replied = replied;
      }
  by_rule tag args call same sound (verdict.Rule line Fake) judged replied = (record { faultless = sound; call = call; judged = judged }, refl, replied)
  by_rule tag args call same sound (verdict.Rule line Deny) judged replied = (record { faultless = sound; call = call; judged = judged }, tt, refl, replied)
  by_rule tag args call same sound (verdict.Rule line Alarm) judged replied = (record { faultless = sound; call = call; judged = judged }, tt, refl, replied)
  by_rule tag args call same sound verdict.NoRule judged replied = (record { faultless = sound; call = call; judged = judged }, tt, refl, replied)

  -- a fault, or else a verdict
  by_fault : (o : Option BlockFault) → fault e.taken ≡ o → Replies (by_decoded policy (call_unless o (call_of e.taken)))
      → Tells (by_decoded policy (call_unless o (call_of e.taken)))
  by_fault None sound replied =
      by_rule (call_of e.taken).tag (call_of e.taken).args refl refl sound (verdict_of policy (call_of e.taken).tag (call_of e.taken).args) refl replied
  by_fault (Some f) there replied = (there, refl, replied)

  -- what is decided of its copy
  decided : e.decision ≡ decision_of policy e.taken → Replies e.decision → Tells e.decision
  decided d = subst (λ z. Replies z → Tells z) (sym d) (by_fault (fault e.taken) refl)

-- each reply bears its mark
marked : (ns : Space) (target mark : ℕ) (d : Decision) → (reply_of ns target mark d).mark ≡ mark
marked ns target mark (Refused f) = refl
marked ns target mark (Denied tag v) = refl
marked ns target mark (Faked tag line) = refl
marked ns target mark (Performed tag line action args) = refl

-- an entry that follows from the namespace before it
entry_says : DecidingRuleIsFirst → (s : Setting) (before : Space) (e : Entry) → IsEntry s before e
    → Says (policy_at s.policies e.target) e before (space_after before e.target e.decision) e.decision × (e.reply.mark ≡ mark_of e.taken)
entry_says law s before e h =
    (decided law (policy_at s.policies e.target) e before h.decided h.replied, ap (λ r. r.mark) h.replied ∙ marked before e.target (mark_of e.taken) e.decision)

-- entry n, from any namespace on
says_from : DecidingRuleIsFirst → (s : Setting) (ns : Space) (entries : List Entry) (n : ℕ) (e : Entry) → IsLegalFrom s ns entries → slice_get entries n ≡ Some e
    → Says (policy_at s.policies e.target) e (space_from ns (take n entries)) (space_from ns (take (suc n) entries)) e.decision × (e.reply.mark ≡ mark_of e.taken)
says_from law s ns [] n e legal there = absurd (none-some e there)
says_from law s ns (x ∷ entries) zero e legal there =
    let P : Entry → Type 0 = λ z.
    Says (policy_at s.policies z.target) z ns (space_after ns x.target x.decision) z.decision × (z.reply.mark ≡ mark_of z.taken) in
    subst P (same_Some x e there) (entry_says law s ns x legal.0)
says_from law s ns (x ∷ entries) (suc n) e legal there = says_from law s (space_after ns x.target x.decision) entries n e legal.1 there

pub entries_say : DecidingRuleIsFirst → EntriesSayWhatWasDone
entries_say law s entries n e legal there =
    let next : suc n ≡ n + 1 = omega arith in
    let P : ℕ → Type 0 = λ m.
    Says (policy_at s.policies e.target) e (space_at s entries n) (space_from (opening s.start) (take m entries)) e.decision × (e.reply.mark ≡ mark_of e.taken) in
    subst P next (says_from law s (opening s.start) entries n e legal there)
