use Rattle.std.proofs.Common.{rules, ◌≡◌, ◌≤◌, ◌<◌, ◌+◌, ◌/◌, ◌%◌, ◌^◌, ℕ, sym, subst, arith}
use Rattle.std.specs.Int.{trailing_zeros, w64}
use Rattle.std.specs.Prelude.{slice_index_or}
use Rattle.sb_index.specs.Sets.{Has}
use Rattle.sb_index.proofs.SetLemmas.{lowest_left, none_left}
use Rattle.sb_index.proofs.sets.RuleSet.next_from.Goals as goal

pub returns-then-word-ne0 : goal.returns-then-word-ne0
returns-then-word-ne0 c =
    let words = c.self.inside.words in
    let at = c.loop-at.at in
    let small : slice_index_or words (at / 64) 0 < 2 ^ 64 = search rules in
    let fits : slice_index_or words (at / 64) 0 / 2 ^ (at % 64) < 2 ^ 64 = search rules in
    let some : 0 < slice_index_or words (at / 64) 0 / 2 ^ (at % 64) = search rules in
    let before : (k : ℕ) → c.args.from ≤ k → k < at → Has words k → ⊥ =
    λ k h g has. c.loop-at.invariant.1 k h g (subst (λ w. Has w k) c.self.view_is has) in
    let found = lowest_left words c.args.from at small c.loop-at-test.true some fits before in (
      omega (arith, c.loop-at.invariant.0),
      found.0,
      subst (λ w. Has w (at + trailing_zeros w64 (slice_index_or words (at / 64) 0 / 2 ^ (at % 64)))) c.self.view_is found.1,
      λ k h g has. found.2 k h g (subst (λ w. Has w k) (sym c.self.view_is) has),
    )

pub loop-at-preserved : goal.loop-at-preserved
loop-at-preserved c =
    let words = c.self.inside.words in
    let at = c.loop-at.at in
    let none : slice_index_or words (at / 64) 0 / 2 ^ (at % 64) ≡ 0 = search rules in
    let before : (k : ℕ) → c.args.from ≤ k → k < at → Has words k → ⊥ =
    λ k h g has. c.loop-at.invariant.1 k h g (subst (λ w. Has w k) c.self.view_is has) in
    (omega (arith, c.loop-at.invariant.0), λ k h g has. none_left words c.args.from at k none before h g (subst (λ w. Has w k) (sym c.self.view_is) has))
