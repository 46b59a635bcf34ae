-- The replies of entries on clean channels as they are kept: a row for each thread, four for each target, with the reply to each call at its place.
use Rattle.std.specs.Prelude.{◌≡◌, ℕ, ◌+◌, ◌*◌, ◌<◌, Bool, true, false, ◌&&◌, ◌==◌, nat_lt, nat_le, List, [], length, Option, None, Some, slice_index_or, if◌then◌else◌}
use Rattle.sb_actor.specs.Places.{mark_at}
use Rattle.sb_actor.specs.Marks.{marks_of_thread}
use Rattle.sb_statements.specs.declared.scripts.Script.{Script}
use Rattle.sb_transcript.specs.declared.read_lines.EntryLine.{EntryLine}
use Rattle.sb_transcript.specs.declared.read_lines.ShownResult.{ShownResult}
use Rattle.sb_audit.specs.Clauses.{fits_entries, has_entry, is_above, is_reply_of}
use Rattle.sb_audit.specs.declared.slots.OwnReply.{OwnReply}

-- the row of a thread; one that is not there has no replies
abbrev pub row_at : List (List (Option OwnReply)) → ℕ → ℕ → List (Option OwnReply)
row_at rows target thread = if nat_lt thread 4 then slice_index_or rows (target * 4 + thread) [] else []

-- the reply to the call at a place of a thread, if there is one
abbrev pub slot_at : List (List (Option OwnReply)) → ℕ → ℕ → ℕ → Option OwnReply
slot_at rows target thread place = slice_index_or (row_at rows target thread) place None

-- a row ends with a reply at this place, and before it stays as it was
pub record IsPutInto (place : ℕ) (own : OwnReply) (old new : List (Option OwnReply)) : Type 0 where
  pub size : length new ≡ place + 1
  pub slots : (q : ℕ) → slice_index_or new q None ≡ (if place == q then Some own else slice_index_or old q None)

-- so does the row of one thread, and the others stay
pub record IsPut (target thread place : ℕ) (own : OwnReply) (old new : List (List (Option OwnReply))) : Type 0 where
  pub here : IsPutInto place own (row_at old target thread) (row_at new target thread)
  pub others : (t k : ℕ) → (target == t && thread == k) ≡ false → row_at new t k ≡ row_at old t k

-- a result is the kept reply
abbrev pub has_slot : ShownResult → Option OwnReply → Bool
has_slot r None = false
has_slot r (Some own) = is_reply_of r own.channel own.reply

-- or there is no kept reply
abbrev pub fits_slot : ShownResult → Option OwnReply → Bool
fits_slot r None = true
fits_slot r (Some own) = is_reply_of r own.channel own.reply

-- the rows agree with the entries: on which places are above them, and on whether a result is the reply of those that answer its call
pub record KeepsRows (script : Script) (entries : List EntryLine) (rows : List (List (Option OwnReply))) : Type 0 where
  pub above : (t k p : ℕ) → is_above script entries t k p ≡ nat_le (length (row_at rows t k)) p
  pub has : (t k p : ℕ) (r : ShownResult) → p < marks_of_thread → has_entry script entries t (mark_at k p) r ≡ has_slot r (slot_at rows t k p)
  pub fits : (t k p : ℕ) (r : ShownResult) → p < marks_of_thread → fits_entries script entries t (mark_at k p) r ≡ fits_slot r (slot_at rows t k p)
