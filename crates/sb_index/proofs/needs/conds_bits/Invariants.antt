use Rattle.std.proofs.Common.{◌≡◌, ℕ, take}
use Rattle.std.specs.Int.{bit_at}
use Rattle.std.specs.List.{list_all}
use Rattle.std.specs.Prelude.{if◌then◌else◌}
use Rattle.sb_index.specs.Questions.{cond_may_pass}
use Rattle.sb_index.specs.declared.questions.Question.TheVariants.{Without}
use Rattle.sb_index.proofs.needs.conds_bits.Given as goal

abbrev pub invariant-loop-cond : goal.invariant-loop-cond
invariant-loop-cond l = (bucket : ℕ) → bit_at l.bits bucket ≡ (if list_all (cond_may_pass (Without l.param bucket)) (take l.cond-index l.conds) then 0 else 1)
