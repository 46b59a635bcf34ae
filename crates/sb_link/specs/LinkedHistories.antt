-- The history of a book that resolves the names of each copy first.
use Rattle.std.specs.Prelude.{◌≡◌, ⊤, ℕ, ◌+◌, Bool, true, false, List, [], ◌∷◌, ◌++◌, length, Result, Ok, Err}
use Rattle.sb_call.specs.Tags.{shape_of}
use Rattle.sb_call.specs.declared.replies.Reply.{Reply}
use Rattle.sb_block.specs.Copies.{Copied, mark_of}
use Rattle.sb_book.specs.Histories.{History, Setting, answered, new_history, reply_of, target_decision}
use Rattle.sb_book.specs.declared.decisions.Decision.{Decision}
use Rattle.sb_book.specs.declared.decisions.Decision.TheVariants.{Refused, Denied, Faked, Performed}
use Rattle.sb_book.specs.declared.entries.Entry.{Entry}
use Rattle.sb_link.specs.Answers.{AreResolved, linked, stopped_reply}
use Rattle.sb_link.specs.declared.links.Link.{Link}
use Rattle.sb_link.specs.declared.stops.StoppedCall.{StoppedCall}
use Rattle.sb_link.specs.declared.linked_books.Linked.{Linked}
use Rattle.sb_link.specs.declared.linked_books.Linked.TheVariants as item

-- an item is of a call that stopped
abbrev pub is_stopped : Linked → Bool
is_stopped (item.Entry taken at) = false
is_stopped (item.Stopped target channel taken tag stop reply) = true

-- the links, the history of the book, and an item for each answer
pub record LinkedHistory : Type 0 where
  pub links : List Link
  pub history : History
  pub log : List Linked

-- nothing was answered
abbrev pub new_linked : List Link → Setting → LinkedHistory
new_linked links setting = record { links = links; history = new_history setting; log = [] }

-- the history after the answer to a copy, by what becomes of it: the book answers the copy with resolved names, or the call stops and changes
-- nothing but the log
abbrev pub answered_by : LinkedHistory → ℕ → ℕ → Copied → Result Copied StoppedCall → LinkedHistory
answered_by s target channel taken (Ok copy) = record s {
  history = answered s.history target channel copy (target_decision s.history target copy);
  log = s.log ++ item.Entry taken (length s.history.entries) ∷ [];
}
answered_by s target channel taken (Err stopped) =
    record s { log = s.log ++ item.Stopped target channel taken stopped.tag stopped.stop (stopped_reply (mark_of taken)) ∷ [] }

-- the history after the answer to a copy
abbrev pub answered_linked : LinkedHistory → ℕ → ℕ → Copied → LinkedHistory
answered_linked s target channel taken = answered_by s target channel taken (linked s.links taken)

-- what is to be answered: a copy, and whose it is
pub record Asked : Type 0 where
  pub target : ℕ
  pub channel : ℕ
  pub taken : Copied

-- the history after the answers to these, in order
abbrev pub all_answered : LinkedHistory → List Asked → LinkedHistory
all_answered s [] = s
all_answered s (a ∷ asked) = all_answered (answered_linked s a.target a.channel a.taken) asked

-- the reply to a copy, by what becomes of it
abbrev pub reply_by : LinkedHistory → ℕ → Copied → Result Copied StoppedCall → Reply
reply_by s target taken (Ok copy) = reply_of s.history.space target (mark_of copy) (target_decision s.history target copy)
reply_by s target taken (Err stopped) = stopped_reply (mark_of taken)

-- the reply to a copy
abbrev pub linked_reply : LinkedHistory → ℕ → Copied → Reply
linked_reply s target taken = reply_by s target taken (linked s.links taken)

-- ---- what is true of each such history

-- A log of the entries from number n on. An item of an entry names the next one, which is of the copy that became of the item's own, and all entries are
-- named; an item of a stopped call has its copy, and the tag, the stop and the reply of the call in it
abbrev pub IsLogFrom : List Link → ℕ → List Entry → List Linked → Type 0
IsLogFrom links n entries [] = entries ≡ []
IsLogFrom links n [] (item.Entry taken at ∷ log) = ⊥
IsLogFrom links n (e ∷ entries) (item.Entry taken at ∷ log) = (at ≡ n) × (linked links taken ≡ Ok e.taken) × IsLogFrom links (n + 1) entries log
IsLogFrom links n [] (item.Stopped target channel taken tag stop reply ∷ log) =
    (linked links taken ≡ Err (record { tag = tag; stop = stop })) × (reply ≡ stopped_reply (mark_of taken)) × IsLogFrom links n [] log
IsLogFrom links n (e ∷ entries) (item.Stopped target channel taken tag stop reply ∷ log) =
    (linked links taken ≡ Err (record { tag = tag; stop = stop })) × (reply ≡ stopped_reply (mark_of taken)) × IsLogFrom links n (e ∷ entries) log

-- if a call was performed, each of its names is its own resolution
abbrev pub PerformsResolved : List Link → Decision → Type 0
PerformsResolved links (Performed tag line action args) = AreResolved links (shape_of tag) args
PerformsResolved links (Refused fault) = ⊤
PerformsResolved links (Denied tag verdict) = ⊤
PerformsResolved links (Faked tag line) = ⊤

-- so it is with each of these entries
abbrev pub PerformAllResolved : List Link → List Entry → Type 0
PerformAllResolved links [] = ⊤
PerformAllResolved links (e ∷ entries) = PerformsResolved links e.decision × PerformAllResolved links entries

-- the log is of the entries, and each performed call has names that are their own resolutions
pub record IsLinkedHistory (s : LinkedHistory) : Type 0 where
  pub logged : IsLogFrom s.links 0 s.history.entries s.log
  pub resolved : PerformAllResolved s.links s.history.entries
