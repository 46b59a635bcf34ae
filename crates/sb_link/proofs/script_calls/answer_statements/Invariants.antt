use Rattle.std.proofs.Common.{◌≡◌, true, length}
use Rattle.std.specs.List.{list_all}
use Rattle.sb_link.specs.LinkedHistories.{all_answered}
use Rattle.sb_link.specs.ScriptCalls.{asked_by_statements, can_be_asked}
use Rattle.sb_link.proofs.script_calls.answer_statements.Given as goal

-- the answers to what is left, after those so far, are the answers to all
abbrev pub invariant-loop-first : goal.invariant-loop-first
invariant-loop-first g l =
    (all_answered l.book (asked_by_statements l.rest) ≡ all_answered l.initial.book (asked_by_statements l.initial.rest))
    × (l.book.history.setting ≡ l.initial.book.history.setting)
    × (list_all (can_be_asked l.book.history.setting) l.rest ≡ true)

abbrev pub decreases-loop-first : goal.decreases-loop-first
decreases-loop-first g l = length l.rest
