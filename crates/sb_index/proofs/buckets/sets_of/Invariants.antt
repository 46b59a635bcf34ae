use Rattle.std.proofs.Common.{◌≡◌, ◌≤◌, ◌<◌, ℕ, false, [], length, take}
use Rattle.std.specs.Prelude.{slice_index_or}
use Rattle.sb_index.specs.Sets.{has}
use Rattle.sb_index.specs.Tables.{Selects, rules_for}
use Rattle.sb_index.specs.declared.questions.Question.TheVariants.{Without}
use Rattle.sb_index.proofs.buckets.sets_of.Given as goal

abbrev pub invariant-loop-rule : goal.invariant-loop-rule
invariant-loop-rule l =
    (l.at ≡ length (rules_for l.tag (take l.rule-index l.rules))) × (l.at ≤ l.rule-index) × (length l.sets.items ≡ 64)
    × ((bucket : ℕ) → bucket < 64 → Selects (take l.rule-index l.rules) l.tag (Without l.param bucket) (slice_index_or l.sets.items bucket []))
    × ((bucket : ℕ) (k : ℕ) → bucket < 64 → l.at ≤ k → has (slice_index_or l.sets.items bucket []) k ≡ false)
