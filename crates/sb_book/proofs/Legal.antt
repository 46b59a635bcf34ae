-- A legal history with one entry more.
use Rattle.std.proofs.Common.{◌≡◌, ℕ, ◌<◌, true, List, [], ◌∷◌, ◌++◌, length, refl, ap, subst}
use Rattle.std.specs.Prelude.{slice_index}
use Rattle.sb_block.specs.Copies.{Copied, is_copy}
use Rattle.sb_kernel.specs.Namespaces.{Space}
use Rattle.sb_kernel.specs.Openings.{opening}
use Rattle.sb_rule.specs.Verdicts.{policy_at}
use Rattle.sb_book.specs.Decisions.{decision_of}
use Rattle.sb_book.specs.Histories.{History, IsHistory, Setting, IsEntry, IsLegalFrom, space_after, space_from, answered, entry_of}
use Rattle.sb_book.specs.declared.decisions.Decision.{Decision}
use Rattle.sb_book.specs.declared.entries.Entry.{Entry}

legal_push : (s : Setting) (ns : Space) (es : List Entry) (e : Entry) → IsLegalFrom s ns es → IsEntry s (space_from ns es) e → IsLegalFrom s ns (es ++ e ∷ [])
legal_push s ns [] e h k = (k, tt)
legal_push s ns (x ∷ es) e h k = (h.0, legal_push s (space_after ns x.target x.decision) es e h.1 k)

space_push : (ns : Space) (es : List Entry) (e : Entry) → space_from ns (es ++ e ∷ []) ≡ space_after (space_from ns es) e.target e.decision
space_push ns [] e = refl
space_push ns (x ∷ es) e = space_push (space_after ns x.target x.decision) es e

-- an answered copy leaves a legal history
pub answered_is_legal : (h : History) (target channel : ℕ) (taken : Copied) (decision : Decision) → target < length h.setting.policies
    → channel < slice_index h.setting.channels target → is_copy taken ≡ true → decision ≡ decision_of (policy_at h.setting.policies target) taken → IsHistory h
    → IsHistory (answered h target channel taken decision)
answered_is_legal h target channel taken decision there channel_is rule decided book =
    let e = entry_of h.space target channel taken decision in
    let Follows : Space → Type 0 = λ ns. IsEntry h.setting ns e in
    let own : IsEntry h.setting h.space e = record { target_there = there; channel_there = channel_is; whole = rule; decided = decided; replied = refl } in
    record {
      legal = legal_push h.setting (opening h.setting.start) h.entries e book.legal (subst Follows book.led own);
      led = rw (space_push (opening h.setting.start) h.entries e) (ap (λ ns. space_after ns target decision) book.led);
    }
