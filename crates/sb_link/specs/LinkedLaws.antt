-- What is true of a book that resolves names first.
use Rattle.std.specs.Prelude.{◌≡◌, ℕ, ◌+◌, true, List, [], ◌∷◌, length, Some, slice_get, Ok, Err}
use Rattle.std.specs.List.{count_by, list_all}
use Rattle.sb_call.specs.Tags.{shape_of}
use Rattle.sb_call.specs.declared.arguments.Arg.{Arg}
use Rattle.sb_call.specs.declared.tags.CallTag.{CallTag}
use Rattle.sb_block.specs.Calls.{call_of}
use Rattle.sb_block.specs.Copies.{Copied, mark_of}
use Rattle.sb_rule.specs.Verdicts.{policy_at}
use Rattle.sb_rule.specs.declared.actions.Action.{Action}
use Rattle.sb_rule.specs.declared.policies.Policy.{Policy}
use Rattle.sb_book.specs.Histories.{IsHistory, Setting, setting_of}
use Rattle.sb_book.specs.Laws.{IsAllowed}
use Rattle.sb_book.specs.Readiness.{IsReady}
use Rattle.sb_book.specs.declared.decisions.Decision.TheVariants.{Performed}
use Rattle.sb_book.specs.declared.entries.Entry.{Entry}
use Rattle.sb_statements.specs.declared.scripts.Script.{Script}
use Rattle.sb_link.specs.Answers.{AreResolved, linked, stopped_reply}
use Rattle.sb_link.specs.LinkedHistories.{Asked, IsLinkedHistory, LinkedHistory, all_answered, answered_linked, is_stopped, new_linked}
use Rattle.sb_link.specs.Links.{AreLinks}
use Rattle.sb_link.specs.ScriptCalls.{script_answered}
use Rattle.sb_link.specs.Writing.{is_writable}
use Rattle.sb_link.specs.declared.links.Link.{Link}
use Rattle.sb_link.specs.declared.stops.StoppedCall.{StoppedCall}
use Rattle.sb_link.specs.declared.linked_books.Linked.{Linked}
use Rattle.sb_link.specs.declared.linked_books.Linked.TheVariants as item

-- A log of these, with the entries from number n on: one item for each, in order, with its copy. Where the copy's call stops, the item has its target and
-- channel, and its tag, stop and reply; else it names the next entry, which has its target and channel, and the copy that became of its own
abbrev pub IsLogOf : List Link → ℕ → List Entry → List Asked → List Linked → Type 0
IsLogOf links n entries [] [] = entries ≡ []
IsLogOf links n entries [] (i ∷ log) = ⊥
IsLogOf links n entries (a ∷ asked) [] = ⊥
IsLogOf links n [] (a ∷ asked) (item.Entry taken at ∷ log) = ⊥
IsLogOf links n (e ∷ entries) (a ∷ asked) (item.Entry taken at ∷ log) =
    (taken ≡ a.taken) × (at ≡ n) × (linked links a.taken ≡ Ok e.taken) × (e.target ≡ a.target) × (e.channel ≡ a.channel)
    × IsLogOf links (n + 1) entries asked log
IsLogOf links n entries (a ∷ asked) (item.Stopped target channel taken tag stop reply ∷ log) =
    (taken ≡ a.taken) × (linked links a.taken ≡ Err (record { tag = tag; stop = stop })) × (target ≡ a.target) × (channel ≡ a.channel)
    × (reply ≡ stopped_reply (mark_of a.taken)) × IsLogOf links n entries asked log

-- after any list of answers the log is of these
abbrev pub LogsAreOfAnswers : Type 0
LogsAreOfAnswers = (links : List Link) (setting : Setting) (asked : List Asked)
    → IsLogOf links 0 (all_answered (new_linked links setting) asked).history.entries asked (all_answered (new_linked links setting) asked).log

-- after any list of answers there is an item for each, and each item is of an entry or of a call that stopped
abbrev pub LogsAreCounted : Type 0
LogsAreCounted = (links : List Link) (setting : Setting) (asked : List Asked)
    → (length (all_answered (new_linked links setting) asked).log ≡ length asked)
    × (length (all_answered (new_linked links setting) asked).history.entries + count_by is_stopped (all_answered (new_linked links setting) asked).log ≡ length asked)

-- a call that stops changes neither the namespace nor the entries
abbrev pub StoppedCallsChangeNothing : Type 0
StoppedCallsChangeNothing = (s : LinkedHistory) (target channel : ℕ) (taken : Copied) (stopped : StoppedCall) → linked s.links taken ≡ Err stopped
    → (answered_linked s target channel taken).history ≡ s.history

-- a call that was performed is the call of its entry's copy, a rule of the policy allows it, and each of its names is its own resolution
abbrev pub PerformedCallsAreResolved : Type 0
PerformedCallsAreResolved = (s : LinkedHistory) (n : ℕ) (e : Entry) (tag : CallTag) (line : ℕ) (action : Action) (args : List Arg)
    → IsHistory s.history → IsLinkedHistory s → slice_get s.history.entries n ≡ Some e → e.decision ≡ Performed tag line action args
    → IsAllowed (policy_at s.history.setting.policies e.target) (call_of e.taken) tag line action args × AreResolved s.links (shape_of tag) args

-- ---- the answers to the calls of a script

-- the links were read: they are links, and they can be written
pub record WereRead (links : List Link) : Type 0 where
  pub are : AreLinks links
  pub writable : list_all is_writable links ≡ true

-- after the answers to all calls of a script that is ready for its policies, by links that were read, the entries are a legal history of the script, the
-- namespace is the one that they led to, and the log is of them
pub record IsScriptHistory (policies : List Policy) (script : Script) (links : List Link) (s : LinkedHistory) : Type 0 where
  pub links_stay : s.links ≡ links
  pub setting_stays : s.history.setting ≡ setting_of policies script
  pub history : IsHistory s.history
  pub linked : IsLinkedHistory s

abbrev pub ScriptAnswersAreHistories : Type 0
ScriptAnswersAreHistories = (policies : List Policy) (script : Script) (links : List Link) → IsReady policies script → WereRead links
    → IsScriptHistory policies script links (script_answered policies script links)

-- so each call of a script that was performed is allowed by the policy of its target on its resolved names, and each of these is its own resolution
abbrev pub ScriptCallsAreResolved : Type 0
ScriptCallsAreResolved = (policies : List Policy) (script : Script) (links : List Link) → IsReady policies script → WereRead links
    → (n : ℕ) (e : Entry) (tag : CallTag) (line : ℕ) (action : Action) (args : List Arg)
    → slice_get (script_answered policies script links).history.entries n ≡ Some e → e.decision ≡ Performed tag line action args
    → IsAllowed (policy_at (setting_of policies script).policies e.target) (call_of e.taken) tag line action args × AreResolved links (shape_of tag) args
