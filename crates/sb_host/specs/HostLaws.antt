-- What holds of a worker's host whatever is in memory, and in whatever order it calls.
use Rattle.std.specs.Prelude.{◌≡◌, ℕ, Bool, ◌&&◌, not, List, [], ◌∷◌, ◌++◌, length, Option, None, Some, is_some, option_map, if◌then◌else◌}
use Rattle.sb_call.specs.declared.replies.Answer.{Answer as HostAnswer}
use Rattle.sb_block.specs.Copies.{Copied, mark_of}
use Rattle.sb_block.specs.Replies.{reply_words}
use Rattle.sb_rule.specs.declared.policies.Policy.{Policy}
use Rattle.sb_kernel.specs.Namespaces.{Space}
use Rattle.sb_book.specs.Decisions.{decision_of}
use Rattle.sb_book.specs.declared.decisions.Decision.{Decision}
use Rattle.sb_actor.specs.Acts.{value_in}
use Rattle.sb_actor.specs.Observations.{Observation}
use Rattle.sb_actor.specs.WorkerStages.{WorkerStage, Look, Count, End, Copy, Take, Answer, Give, Reply, Ack}
use Rattle.sb_host.specs.Replies.{IsSpaceAnswer, host_reply}
use Rattle.sb_host.specs.HostWorkers.{HostAt, after_answer, after_decision, after_loads, after_performing, after_step, after_stores, can_load, can_reply, copy_to_answer, host_adopt, host_start, is_copying}

-- a call of a host: it tells what a step found, or what loads in a row found, or how many stores it made, gives a policy to decide by, or its answer
pub data HostCall : Type 0 where
  Found : Observation → HostCall
  Loaded : List ℕ → HostCall
  Stored : ℕ → HostCall
  DecideBy : Policy → HostCall
  AnswerWith : HostAnswer → HostCall

-- the worker after a call; a copy is decided once
abbrev pub after_call : HostAt → HostCall → HostAt
after_call h (Found seen) = after_step h seen
after_call h (Loaded values) = after_loads h values
after_call h (Stored count) = after_stores h count
after_call h (DecideBy policy) = if is_some h.decision then h else after_decision h policy
after_call h (AnswerWith answer) = after_answer h answer

-- what was told of a copy that was answered: its words, the policy and the answer
pub record Told : Type 0 where
  pub words : List ℕ
  pub policy : Policy
  pub answer : HostAnswer

-- what a host has told: the words loaded since the last answer, the policy given since, and all that was told of the last copy that was answered
pub record Journal : Type 0 where
  pub words : List ℕ
  pub policy : Option Policy
  pub last : Option Told

abbrev pub no_journal : Journal
no_journal = record { words = []; policy = None; last = None }

abbrev pub with_words : Journal → List ℕ → Journal
with_words j words = record j { words = j.words ++ words }

-- there is a copy to answer, and nothing is decided of it
abbrev pub is_undecided : HostAt → Bool
is_undecided h = is_some (copy_to_answer h) && not (is_some h.decision)

-- the answer ends what is told of a copy
abbrev pub answered : Journal → HostAnswer → Option Policy → Journal
answered j answer None = j
answered j answer (Some policy) = record { words = []; policy = None; last = Some (record { words = j.words; policy = policy; answer = answer }) }

-- the journal after a call
abbrev pub journal_after : HostAt → Journal → HostCall → Journal
journal_after h j (Found seen) = if is_copying h then with_words j (value_in seen ∷ []) else j
journal_after h j (Loaded values) = if can_load h (length values) then with_words j values else j
journal_after h j (Stored count) = j
journal_after h j (DecideBy policy) = if is_undecided h then record j { policy = Some policy } else j
journal_after h j (AnswerWith answer) = if can_reply h then answered j answer j.policy else j

-- nothing is decided
abbrev pub IsUndecided : Option Decision → Journal → Type 0
IsUndecided decision j = (decision ≡ None) × (j.policy ≡ None)

-- no word was loaded since the last answer
abbrev pub HasNoWords : Option Decision → Journal → Type 0
HasNoWords decision j = IsUndecided decision j × (j.words ≡ [])

-- the copy is all that was loaded since the last answer, and nothing is decided of it
abbrev pub IsOfWords : List ℕ → Option Decision → Journal → Type 0
IsOfWords words decision j = IsUndecided decision j × (words ≡ j.words)

-- the reply is that to the decision of the policy that was given, on the copy that was told, with the answer that was given
pub record IsReplyToTold (copy : Copied) (reply : List ℕ) (j : Journal) : Type 0 where
  pub told : Told
  pub last : j.last ≡ Some told
  pub words : copy.words ≡ told.words
  pub reply_words : reply ≡ reply_words (host_reply (mark_of copy) (decision_of told.policy copy) told.answer)

abbrev pub IsReplying : Copied → List ℕ → Option Decision → Journal → Type 0
IsReplying copy reply decision j = HasNoWords decision j × IsReplyToTold copy reply j

-- what a worker at a stage does is true to what was told: a copy has the words that were loaded since the last answer; what is decided of it is the
-- decision of the policy that was given; and the words of a reply are those of that decision, with the host's answer if the call is performed
abbrev pub IsTrueTo : WorkerStage → Option Decision → Journal → Type 0
IsTrueTo Look decision j = HasNoWords decision j
IsTrueTo Count decision j = HasNoWords decision j
IsTrueTo (End count) decision j = HasNoWords decision j
IsTrueTo (Copy count end words) decision j = IsOfWords words decision j
IsTrueTo (Take copy) decision j = IsOfWords copy.words decision j
IsTrueTo (Answer copy) decision j = (copy.words ≡ j.words) × (decision ≡ option_map (λ policy. decision_of policy copy) j.policy)
IsTrueTo (Give copy reply) decision j = IsReplying copy reply decision j
IsTrueTo (Reply copy reply i) decision j = IsReplying copy reply decision j
IsTrueTo (Ack copy reply) decision j = IsReplying copy reply decision j

-- a worker, and what its host has told
pub record Hosted : Type 0 where
  pub host : HostAt
  pub journal : Journal

abbrev pub hosted_after : Hosted → HostCall → Hosted
hosted_after x call = record { host = after_call x.host call; journal = journal_after x.host x.journal call }

-- after these calls, one after another
abbrev pub hosted_by : Hosted → List HostCall → Hosted
hosted_by x [] = x
hosted_by x (call ∷ calls) = hosted_by (hosted_after x call) calls

-- after any calls a worker is true to what was told
abbrev pub HostsAreTrue : HostAt → Type 0
HostsAreTrue start = (calls : List HostCall) (x : Hosted) → x ≡ hosted_by (record { host = start; journal = no_journal }) calls
    → IsTrueTo x.host.worker.stage x.host.decision x.journal

-- so it is if it began with free channels, and if it took over channels
abbrev pub NewHostsAreTrue : Type 0
NewHostsAreTrue = (channels : ℕ) → HostsAreTrue (host_start channels)

abbrev pub AdoptingHostsAreTrue : Type 0
AdoptingHostsAreTrue = (channels : ℕ) → HostsAreTrue (host_adopt channels)

-- to perform in a namespace is to answer as the namespace does
abbrev pub PerformingIsAnswering : Type 0
PerformingIsAnswering = (h : HostAt) (ns : Space) (target : ℕ) (d : Decision) (answer : HostAnswer) → h.decision ≡ Some d → IsSpaceAnswer ns target d answer
    → after_performing h ns target ≡ after_answer h answer
