-- Answers in a namespace of the product's own, one after another: the turn is exclusive, so each begins with the namespace that the one before it left.
use Rattle.std.specs.Prelude.{◌≡◌, ℕ, ◌<◌, true, List, [], ◌∷◌, length, slice_index, Some, ⊤}
use Rattle.sb_block.specs.Copies.{Copied, is_copy}
use Rattle.sb_rule.specs.Verdicts.{policy_at}
use Rattle.sb_kernel.specs.Namespaces.{Space}
use Rattle.sb_book.specs.Decisions.{decision_of}
use Rattle.sb_book.specs.Histories.{IsLegalFrom, Setting, entry_of, space_from}
use Rattle.sb_book.specs.declared.entries.Entry.{Entry}
use Rattle.sb_host.specs.HostWorkers.{HostAt, after_performing, copy_to_answer, replied, space_after_performing}

-- a worker at its answer, the number of its target, its channel and its copy
pub record Answering : Type 0 where
  pub host : HostAt
  pub target : ℕ
  pub channel : ℕ
  pub copy : Copied

-- target and channel are there, and what is decided of the worker's copy is the decision of the target's policy
pub record IsAnswering (s : Setting) (a : Answering) : Type 0 where
  pub target_there : a.target < length s.policies
  pub channel_there : a.channel < slice_index s.channels a.target
  pub copied : copy_to_answer a.host ≡ Some a.copy
  pub whole : is_copy a.copy ≡ true
  pub decided : a.host.decision ≡ Some (decision_of (policy_at s.policies a.target) a.copy)

abbrev pub AreAnswering : Setting → List Answering → Type 0
AreAnswering s [] = ⊤
AreAnswering s (a ∷ later) = IsAnswering s a × AreAnswering s later

-- the entry of an answer in a namespace
abbrev pub entry_by : Setting → Space → Answering → Entry
entry_by s ns a = entry_of ns a.target a.channel a.copy (decision_of (policy_at s.policies a.target) a.copy)

-- the entries of answers, one after another
abbrev pub entries_by : Setting → Space → List Answering → List Entry
entries_by s ns [] = []
entries_by s ns (a ∷ later) = entry_by s ns a ∷ entries_by s (space_after_performing a.host ns a.target) later

-- the namespace after them
abbrev pub space_after_all : Space → List Answering → Space
space_after_all ns [] = ns
space_after_all ns (a ∷ later) = space_after_all (space_after_performing a.host ns a.target) later

-- the entries of any number of answers are a legal history from that namespace on
abbrev pub HostsMakeHistories : Type 0
HostsMakeHistories = (s : Setting) (ns : Space) (answers : List Answering) → AreAnswering s answers → IsLegalFrom s ns (entries_by s ns answers)

-- the namespace after them is the one that the entries lead to
abbrev pub HostsKeepTheSpace : Type 0
HostsKeepTheSpace = (s : Setting) (ns : Space) (answers : List Answering) → AreAnswering s answers
    → space_after_all ns answers ≡ space_from ns (entries_by s ns answers)

-- and each worker goes on by the reply of its entry
abbrev pub HostsReplyAsEntries : Type 0
HostsReplyAsEntries = (s : Setting) (ns : Space) (a : Answering) → IsAnswering s a
    → after_performing a.host ns a.target ≡ replied a.host (entry_by s ns a).reply
