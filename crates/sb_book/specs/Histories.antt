-- The history of what was decided, and when it is a legal one.
use Rattle.std.specs.Prelude.{◌≡◌, ℕ, ◌<◌, true, List, [], ◌∷◌, ◌++◌, length, map, slice_index, ⊤}
use Rattle.sb_call.specs.Statuses.{success, invalid_parameter, access_denied}
use Rattle.sb_call.specs.declared.replies.Reply.{Reply}
use Rattle.sb_statements.specs.declared.scripts.Script.{Script}
use Rattle.sb_statements.specs.declared.scripts.StartLine.{StartLine}
use Rattle.sb_block.specs.Copies.{Copied, is_copy, mark_of}
use Rattle.sb_rule.specs.Verdicts.{policy_at}
use Rattle.sb_rule.specs.declared.policies.Policy.{Policy}
use Rattle.sb_book.specs.Decisions.{decision_of}
pub use Rattle.sb_book.specs.Replies.{denied_outcome, fault_words, faked_outcome, performed_outcome, performed_reply, refused_outcome}
use Rattle.sb_kernel.specs.Namespaces.{Space, perform}
use Rattle.sb_kernel.specs.Openings.{opening}
use Rattle.sb_book.specs.declared.decisions.Decision.{Decision}
use Rattle.sb_book.specs.declared.decisions.Decision.TheVariants.{Refused, Denied, Faked, Performed}
use Rattle.sb_book.specs.declared.entries.Entry.{Entry}

-- the policy and the number of channels of each target, and what is there at the start
pub record Setting : Type 0 where
  pub policies : List Policy
  pub channels : List ℕ
  pub start : List StartLine

-- the setting of a script's targets, each under the policy that it names
abbrev pub setting_of : List Policy → Script → Setting
setting_of policies script = record {
  policies = map (λ target. policy_at policies target.policy) script.targets;
  channels = map (λ target. target.channels) script.targets;
  start = script.start;
}

-- a setting, the entries so far, and the namespace that they led to
pub record History : Type 0 where
  pub setting : Setting
  pub space : Space
  pub entries : List Entry

-- one who judges by these policies, a target's by its place, judges by the policies of the targets of the book with this history
abbrev pub JudgesBy : List Policy → History → Type 0
JudgesBy policies h = policies ≡ h.setting.policies

-- no entries yet
abbrev pub new_history : Setting → History
new_history setting = record { setting = setting; space = opening setting.start; entries = [] }

-- the reply to a mark that a decision leads to
abbrev pub reply_of : Space → ℕ → ℕ → Decision → Reply
reply_of ns target mark (Refused f) = record { mark = mark; outcome = refused_outcome; status = invalid_parameter; handle = 0; ext = fault_words f }
reply_of ns target mark (Denied tag verdict) = record { mark = mark; outcome = denied_outcome; status = access_denied; handle = 0; ext = [] }
reply_of ns target mark (Faked tag line) = record { mark = mark; outcome = faked_outcome; status = success; handle = 0; ext = [] }
reply_of ns target mark (Performed tag line action args) = performed_reply mark (perform ns target tag args).answer

-- the namespace that a decision leads to
abbrev pub space_after : Space → ℕ → Decision → Space
space_after ns target (Refused f) = ns
space_after ns target (Denied tag verdict) = ns
space_after ns target (Faked tag line) = ns
space_after ns target (Performed tag line action args) = (perform ns target tag args).space

-- what the policy of a target decides on a copy
abbrev pub target_decision : History → ℕ → Copied → Decision
target_decision h target copy = decision_of (policy_at h.setting.policies target) copy

-- the entry of a copy and its decision
abbrev pub entry_of : Space → ℕ → ℕ → Copied → Decision → Entry
entry_of ns target channel taken decision =
    record { target = target; channel = channel; taken = taken; decision = decision; reply = reply_of ns target (mark_of taken) decision }

-- the history with one entry more
abbrev pub answered : History → ℕ → ℕ → Copied → Decision → History
answered h target channel taken decision =
    record h { space = space_after h.space target decision; entries = h.entries ++ entry_of h.space target channel taken decision ∷ [] }

-- the entry is that of a channel that is there, its copy is one that a worker can take, and it follows from that copy, the policy of its target and the
-- namespace before it
pub record IsEntry (s : Setting) (ns : Space) (e : Entry) : Type 0 where
  pub target_there : e.target < length s.policies
  pub channel_there : e.channel < slice_index s.channels e.target
  pub whole : is_copy e.taken ≡ true
  pub decided : e.decision ≡ decision_of (policy_at s.policies e.target) e.taken
  pub replied : e.reply ≡ reply_of ns e.target (mark_of e.taken) e.decision

-- each entry in turn follows, from this namespace on
abbrev pub IsLegalFrom : Setting → Space → List Entry → Type 0
IsLegalFrom s ns [] = ⊤
IsLegalFrom s ns (e ∷ es) = IsEntry s ns e × IsLegalFrom s (space_after ns e.target e.decision) es

-- the entries are a legal history
abbrev pub IsLegalHistory : Setting → List Entry → Type 0
IsLegalHistory s es = IsLegalFrom s (opening s.start) es

-- the namespace after these entries
abbrev pub space_from : Space → List Entry → Space
space_from ns [] = ns
space_from ns (e ∷ es) = space_from (space_after ns e.target e.decision) es

-- the entries are a legal history of the setting, and the namespace is the one that they led to
pub record IsHistory (h : History) : Type 0 where
  pub legal : IsLegalHistory h.setting h.entries
  pub led : h.space ≡ space_from (opening h.setting.start) h.entries
