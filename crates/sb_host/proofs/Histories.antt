-- Answers in a namespace make a history.
use Rattle.std.proofs.Common.{◌≡◌, ◌∙◌, [], ◌∷◌, Option, Some, refl, ap, subst}
use Rattle.sb_block.specs.Copies.{Copied}
use Rattle.sb_rule.specs.Verdicts.{policy_at}
use Rattle.sb_kernel.specs.Namespaces.{Space}
use Rattle.sb_book.specs.Decisions.{decision_of}
use Rattle.sb_book.specs.Histories.{IsLegalFrom, Setting, space_after, space_from}
use Rattle.sb_book.specs.declared.decisions.Decision.{Decision}
use Rattle.sb_host.specs.HostWorkers.{after_performing_on, space_after_performing, space_by}
use Rattle.sb_host.specs.HistoryLaws.{Answering, HostsKeepTheSpace, HostsMakeHistories, HostsReplyAsEntries, IsAnswering, entries_by}

-- what is decided of the copy
abbrev ruled : Setting → Answering → Decision
ruled s a = decision_of (policy_at s.policies a.target) a.copy

-- the namespace after an answer is the one that its decision leads to
space_is : (s : Setting) (ns : Space) (a : Answering) → IsAnswering s a → space_after_performing a.host ns a.target ≡ space_after ns a.target (ruled s a)
space_is s ns a is =
    ap (λ (o : Option Copied). space_by o a.host.decision ns a.target) is.copied
    ∙ ap (λ (d : Option Decision). space_by (Some a.copy) d ns a.target) is.decided

pub histories : HostsMakeHistories
histories s ns [] all = tt
histories s ns (a ∷ later) all = (
  record { target_there = all.0.target_there; channel_there = all.0.channel_there; whole = all.0.whole; decided = refl; replied = refl },
  subst (λ (after : Space). IsLegalFrom s after (entries_by s (space_after_performing a.host ns a.target) later)) (space_is s ns a all.0)
      (histories s (space_after_performing a.host ns a.target) later all.1),
)

pub spaces : HostsKeepTheSpace
spaces s ns [] all = refl
spaces s ns (a ∷ later) all =
    spaces s (space_after_performing a.host ns a.target) later all.1
    ∙ ap (λ (after : Space). space_from after (entries_by s (space_after_performing a.host ns a.target) later)) (space_is s ns a all.0)

pub replies : HostsReplyAsEntries
replies s ns a is =
    ap (λ (o : Option Copied). after_performing_on a.host ns a.target o a.host.decision) is.copied
    ∙ ap (λ (d : Option Decision). after_performing_on a.host ns a.target (Some a.copy) d) is.decided
