-- After any list of answers the log is of these.
use Rattle.std.proofs.Common.{◌≡◌, ◌∙◌, ℕ, ◌+◌, List, [], ◌∷◌, ◌++◌, length, Result, Ok, Err, refl, subst, ap, sym, arith}
use Rattle.std.proofs.lemmas.Grind.{common_steps}
use Rattle.std.proofs.lemmas.List.{append_assoc, append-nil}
use Rattle.std.specs.List.{count_by}
use Rattle.sb_block.specs.Copies.{Copied, mark_of}
use Rattle.sb_call.specs.declared.replies.Reply.{Reply}
use Rattle.sb_call.specs.declared.tags.CallTag.{CallTag}
use Rattle.sb_book.specs.declared.entries.Entry.{Entry}
use Rattle.sb_link.specs.Answers.{linked, stopped_reply}
use Rattle.sb_link.specs.LinkedHistories.{Asked, LinkedHistory, all_answered, answered_by, answered_linked, is_stopped, new_linked}
use Rattle.sb_link.specs.LinkedLaws.{IsLogOf, LogsAreCounted, LogsAreOfAnswers, StoppedCallsChangeNothing}
use Rattle.sb_link.specs.declared.links.Link.{Link}
use Rattle.sb_link.specs.declared.linked_books.Linked.{Linked}
use Rattle.sb_link.specs.declared.linked_books.Linked.TheVariants as item
use Rattle.sb_link.specs.declared.stops.Stop.{Stop}
use Rattle.sb_link.specs.declared.stops.StoppedCall.{StoppedCall}

-- one entry more
of_entry : (links : List Link) (n : ℕ) (entries : List Entry) (done : List Asked) (log : List Linked) (a : Asked) (at : ℕ) (e : Entry) → at ≡ n + length entries
    → linked links a.taken ≡ Ok e.taken → e.target ≡ a.target → e.channel ≡ a.channel → IsLogOf links n entries done log
    → IsLogOf links n (entries ++ e ∷ []) (done ++ a ∷ []) (log ++ item.Entry a.taken at ∷ [])
of_entry links n [] [] [] a at e h k t c l = (refl, omega arith, k, t, c, refl)
of_entry links n (first ∷ entries) [] [] a at e h k t c l = absurd cc
of_entry links n [] [] (i ∷ log) a at e h k t c l = absurd l
of_entry links n (first ∷ entries) [] (i ∷ log) a at e h k t c l = absurd l
of_entry links n [] (b ∷ done) [] a at e h k t c l = absurd l
of_entry links n (first ∷ entries) (b ∷ done) [] a at e h k t c l = absurd l
of_entry links n [] (b ∷ done) (item.Entry other place ∷ log) a at e h k t c l = absurd l
of_entry links n (first ∷ entries) (b ∷ done) (item.Entry other place ∷ log) a at e h k t c l =
    (l.0, l.1, l.2, l.3, l.4, of_entry links (n + 1) entries done log a at e (omega arith) k t c l.5)
of_entry links n [] (b ∷ done) (item.Stopped x y other tag stop reply ∷ log) a at e h k t c l =
    (l.0, l.1, l.2, l.3, l.4, of_entry links n [] done log a at e h k t c l.5)
of_entry links n (first ∷ entries) (b ∷ done) (item.Stopped x y other tag stop reply ∷ log) a at e h k t c l =
    (l.0, l.1, l.2, l.3, l.4, of_entry links n (first ∷ entries) done log a at e h k t c l.5)

-- one stopped call more
of_stop : (links : List Link) (n : ℕ) (entries : List Entry) (done : List Asked) (log : List Linked) (a : Asked) (stopped : StoppedCall)
    → linked links a.taken ≡ Err stopped → IsLogOf links n entries done log
    → IsLogOf links n entries (done ++ a ∷ []) (log ++ item.Stopped a.target a.channel a.taken stopped.tag stopped.stop (stopped_reply (mark_of a.taken)) ∷ [])
of_stop links n [] [] [] a s k l = (refl, k, refl, refl, refl, refl)
of_stop links n (first ∷ entries) [] [] a s k l = absurd cc
of_stop links n [] [] (i ∷ log) a s k l = absurd l
of_stop links n (first ∷ entries) [] (i ∷ log) a s k l = absurd l
of_stop links n [] (b ∷ done) [] a s k l = absurd l
of_stop links n (first ∷ entries) (b ∷ done) [] a s k l = absurd l
of_stop links n [] (b ∷ done) (item.Entry other place ∷ log) a s k l = absurd l
of_stop links n (first ∷ entries) (b ∷ done) (item.Entry other place ∷ log) a s k l =
    (l.0, l.1, l.2, l.3, l.4, of_stop links (n + 1) entries done log a s k l.5)
of_stop links n [] (b ∷ done) (item.Stopped x y other tag stop reply ∷ log) a s k l =
    (l.0, l.1, l.2, l.3, l.4, of_stop links n [] done log a s k l.5)
of_stop links n (first ∷ entries) (b ∷ done) (item.Stopped x y other tag stop reply ∷ log) a s k l =
    (l.0, l.1, l.2, l.3, l.4, of_stop links n (first ∷ entries) done log a s k l.5)

-- the log of a history is of these answers
abbrev IsOf : LinkedHistory → List Asked → Type 0
IsOf s done = IsLogOf s.links 0 s.history.entries done s.log

one_answer : (s : LinkedHistory) (done : List Asked) (a : Asked) → IsOf s done → IsOf (answered_linked s a.target a.channel a.taken) (done ++ a ∷ [])
one_answer s done a h = by (linked s.links a.taken) refl
  where
    by : (r : Result Copied StoppedCall) → linked s.links a.taken ≡ r → IsOf (answered_linked s a.target a.channel a.taken) (done ++ a ∷ [])
    by (Ok copy) e =
        subst (λ r. IsOf (answered_by s a.target a.channel a.taken r) (done ++ a ∷ [])) (sym e)
        (of_entry s.links 0 s.history.entries done s.log a (length s.history.entries) _ (omega arith) e refl refl h)
    by (Err stopped) e =
        subst (λ r. IsOf (answered_by s a.target a.channel a.taken r) (done ++ a ∷ [])) (sym e)
        (of_stop s.links 0 s.history.entries done s.log a stopped e h)

all_answers : (s : LinkedHistory) (done asked : List Asked) → IsOf s done → IsOf (all_answered s asked) (done ++ asked)
all_answers s done [] h = subst (IsOf s) (sym (append-nil done)) h
all_answers s done (a ∷ asked) h =
    subst (IsOf (all_answered (answered_linked s a.target a.channel a.taken) asked)) (append_assoc done (a ∷ []) asked)
    (all_answers (answered_linked s a.target a.channel a.taken) (done ++ a ∷ []) asked (one_answer s done a h))

pub links_stay : (s : LinkedHistory) (asked : List Asked) → (all_answered s asked).links ≡ s.links
links_stay s [] = refl
links_stay s (a ∷ asked) = links_stay (answered_linked s a.target a.channel a.taken) asked ∙ one (linked s.links a.taken)
  where
    one : (r : Result Copied StoppedCall) → (answered_by s a.target a.channel a.taken r).links ≡ s.links
    one (Ok copy) = refl
    one (Err stopped) = refl

pub logs_are_of_answers : LogsAreOfAnswers
logs_are_of_answers links setting asked =
    let s = new_linked links setting in
    let after = all_answered s asked in
    subst (λ l. IsLogOf l 0 after.history.entries asked after.log) (links_stay s asked) (all_answers s [] asked refl)

pub stopped_calls_change_nothing : StoppedCallsChangeNothing
stopped_calls_change_nothing s target channel taken stopped e = ap (λ r. (answered_by s target channel taken r).history) e

-- ---- how many there are

abbrev IsCounted : List Entry → List Asked → List Linked → Type 0
IsCounted entries asked log = (length log ≡ length asked) × (length entries + count_by is_stopped log ≡ length asked)

entry_counted : (entries : List Entry) (e : Entry) (asked : List Asked) (a : Asked) (log : List Linked) (taken : Copied) (at : ℕ) → IsCounted entries asked log
    → IsCounted (e ∷ entries) (a ∷ asked) (item.Entry taken at ∷ log)
entry_counted entries e asked a log taken at h = let n = h.0 in let m = h.1 in (omega (arith, n), grind (arith, common_steps, m))

stop_counted : (entries : List Entry) (asked : List Asked) (a : Asked) (log : List Linked) (x y : ℕ) (taken : Copied) (tag : CallTag) (stop : Stop) (reply : Reply)
    → IsCounted entries asked log → IsCounted entries (a ∷ asked) (item.Stopped x y taken tag stop reply ∷ log)
stop_counted entries asked a log x y taken tag stop reply h = let n = h.0 in let m = h.1 in (omega (arith, n), grind (arith, common_steps, m))

counted : (links : List Link) (n : ℕ) (entries : List Entry) (asked : List Asked) (log : List Linked) → IsLogOf links n entries asked log → IsCounted entries asked log
counted links n [] [] [] l = (refl, refl)
counted links n (e ∷ entries) [] [] l = absurd cc
counted links n [] [] (i ∷ log) l = absurd l
counted links n (e ∷ entries) [] (i ∷ log) l = absurd l
counted links n [] (a ∷ asked) [] l = absurd l
counted links n (e ∷ entries) (a ∷ asked) [] l = absurd l
counted links n [] (a ∷ asked) (item.Entry taken at ∷ log) l = absurd l
counted links n (e ∷ entries) (a ∷ asked) (item.Entry taken at ∷ log) l =
    entry_counted entries e asked a log taken at (counted links (n + 1) entries asked log l.5)
counted links n [] (a ∷ asked) (item.Stopped x y taken tag stop reply ∷ log) l =
    stop_counted [] asked a log x y taken tag stop reply (counted links n [] asked log l.5)
counted links n (e ∷ entries) (a ∷ asked) (item.Stopped x y taken tag stop reply ∷ log) l =
    stop_counted (e ∷ entries) asked a log x y taken tag stop reply (counted links n (e ∷ entries) asked log l.5)

pub logs_are_counted : LogsAreCounted
logs_are_counted links setting asked =
    let after = all_answered (new_linked links setting) asked in
    counted links 0 after.history.entries asked after.log (logs_are_of_answers links setting asked)
