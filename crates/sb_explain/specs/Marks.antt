-- The call that a mark belongs to.
use Rattle.std.specs.Prelude.{ℕ, ◌-◌, ◌/◌, ◌%◌, Bool, nat_le, ◌&&◌, Option, None, Some, if◌then◌else◌}
use Rattle.sb_actor.specs.Places.{is_call, statement_at}
use Rattle.sb_explain.specs.declared.marks.CallPlace.{CallPlace}
use Rattle.sb_statements.specs.declared.scripts.Script.{Script}

-- the thread and the place that a mark of a call tells
abbrev pub place_of_mark : ℕ → CallPlace
place_of_mark mark = record { thread = mark / 65536 - 1; place = mark % 65536 }

-- there is a call there
abbrev pub is_call_at : Script → ℕ → CallPlace → Bool
is_call_at script target call = is_call (statement_at script target call.thread call.place)

-- the call of a target that has this mark
abbrev pub call_of_mark : Script → ℕ → ℕ → Option CallPlace
call_of_mark script target mark =
    if nat_le 1 (mark / 65536) && is_call_at script target (place_of_mark mark) then Some (place_of_mark mark) else None
