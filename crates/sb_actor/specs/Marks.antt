-- Marks: the number by which a call of a thread is known.
use Rattle.std.specs.Prelude.{◌≡◌, ℕ, ◌<◌, ◌+◌, ◌*◌, ◌-◌, ◌/◌, ◌%◌, Option, None, Some, nat_le, if◌then◌else◌}
use Rattle.sb_actor.specs.declared.marks.CallMark.{CallMark}

-- a thread has this many marks, one for each place
abbrev pub marks_of_thread : ℕ
marks_of_thread = 65536

-- the thread with number k has the marks from (k + 1) * 65536
abbrev pub mark_at : ℕ → ℕ → ℕ
mark_at thread place = (thread + 1) * 65536 + place

-- the thread of a mark
abbrev pub thread_of : ℕ → ℕ
thread_of mark = mark / 65536 - 1

-- its place in the thread
abbrev pub place_of : ℕ → ℕ
place_of mark = mark % 65536

-- the thread and the place that a number names, if it is a mark
abbrev pub mark_of_number : ℕ → Option CallMark
mark_of_number number = if nat_le 65536 number then Some (record { thread = thread_of number; place = place_of number }) else None

-- a mark is read back as the thread and the place that it was made of
abbrev pub MarksComeBack : Type 0
MarksComeBack = (thread place : ℕ) → place < marks_of_thread → mark_of_number (mark_at thread place) ≡ Some (record { thread = thread; place = place })

-- and what is read as a mark is the number that its thread and its place make
abbrev pub ReadMarksAreMarks : Type 0
ReadMarksAreMarks = (number : ℕ) (mark : CallMark) → mark_of_number number ≡ Some mark → mark_at mark.thread mark.place ≡ number
