-- What a host replies to a decision.
use Rattle.std.specs.Prelude.{◌≡◌, ℕ, Bool, false, []}
use Rattle.sb_call.specs.Statuses.{success, invalid_parameter, access_denied}
use Rattle.sb_call.specs.declared.replies.Answer.{Answer}
use Rattle.sb_call.specs.declared.replies.Reply.{Reply}
use Rattle.sb_kernel.specs.Namespaces.{Space, perform, takes_memory}
use Rattle.sb_book.specs.Histories.{reply_of}
use Rattle.sb_book.specs.Replies.{denied_outcome, fault_words, faked_outcome, performed_reply, refused_outcome}
use Rattle.sb_book.specs.declared.decisions.Decision.{Decision}
use Rattle.sb_book.specs.declared.decisions.Decision.TheVariants.{Refused, Denied, Faked, Performed}

-- the reply to a call that is performed is the host's answer, and the reply to any other is what its decision says, whatever the host answers
abbrev pub host_reply : ℕ → Decision → Answer → Reply
host_reply mark (Refused f) answer = record { mark = mark; outcome = refused_outcome; status = invalid_parameter; handle = 0; ext = fault_words f }
host_reply mark (Denied tag verdict) answer = record { mark = mark; outcome = denied_outcome; status = access_denied; handle = 0; ext = [] }
host_reply mark (Faked tag line) answer = record { mark = mark; outcome = faked_outcome; status = success; handle = 0; ext = [] }
host_reply mark (Performed tag line action args) answer = performed_reply mark answer

-- the answer to a decision that is performed is that of the namespace; to any other it is of no account
abbrev pub IsSpaceAnswer : Space → ℕ → Decision → Answer → Type 0
IsSpaceAnswer ns target (Performed tag line action args) answer = answer ≡ (perform ns target tag args).answer
IsSpaceAnswer ns target _ answer = Unit {0}

-- the namespace needs memory for what is decided
abbrev pub takes_space : Space → ℕ → Decision → Bool
takes_space ns target (Performed tag line action args) = takes_memory ns target tag args
takes_space ns target (Refused f) = false
takes_space ns target (Denied tag verdict) = false
takes_space ns target (Faked tag line) = false

-- a host that answers as the namespace does replies as the book does
abbrev pub HostsReplyAsBooks : Type 0
HostsReplyAsBooks = (ns : Space) (target mark : ℕ) (decision : Decision) (answer : Answer) → IsSpaceAnswer ns target decision answer
    → host_reply mark decision answer ≡ reply_of ns target mark decision
