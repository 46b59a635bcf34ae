use Rattle.std.proofs.Common.{◌≡◌, ◌≤◌, ◌<◌, ◌+◌, ◌==◌, ◌&&◌, ◌||◌, ℕ, length, take}
use Rattle.std.specs.List.{list_all, list_any}
use Rattle.sb_index.specs.Bounds.{first_of, last_of}
use Rattle.sb_index.specs.Marks.{AreFresh, AreSized, is_marked}
use Rattle.sb_index.specs.Questions.{cond_may_pass, lies}
use Rattle.sb_index.specs.declared.questions.Question.TheVariants.{Within}
use Rattle.sb_index.proofs.slots.put_numbers.Given as goal

abbrev pub invariant-loop-number : goal.invariant-loop-number
invariant-loop-number l =
    AreSized l.marks (length l.bounds + 1)
    × ((from : ℕ) → l.rule < from → AreFresh l.fn.marks from → AreFresh l.marks from)
    × ((slot : ℕ) (k : ℕ) → slot ≤ length l.bounds → is_marked l.marks slot k ≡ (is_marked l.fn.marks slot k
    || (k == l.rule && (list_any (lies (first_of l.bounds slot) (last_of l.bounds slot)) (take l.number-index l.numbers)
    && list_all (cond_may_pass (Within l.feature (first_of l.bounds slot) (last_of l.bounds slot))) l.conds))))
