use Rattle.std.proofs.Common.{◌≡◌, ◌≤◌, ◌∙◌, ℕ, Some, None, cond, ltb, not, unwrap_or, rules, tests, eqb, arith}
use Rattle.std.proofs.lemmas.Bool.Decides.{nat_tests}
use Rattle.std.proofs.lemmas.Iterator.{YieldsList-from_slice}
use Rattle.std.proofs.lemmas.Iterator.Search.{position_from_yields_List}
use Rattle.std.proofs.lemmas.List.Sums.{prefix_len-le-length}
use Rattle.sb_scripttext.proofs.actors.dot_at.Goals as goal

first_or_end : (n end : ℕ) → n ≤ end → unwrap_or (cond (ltb n end) (Some n) None) end ≡ n
first_or_end n end h = grind (arith, nat_tests)

pub returns-clause-value : goal.returns-clause-value
returns-clause-value c =
    let e = position_from_yields_List (λ b. eqb b 46) _ _ c.position.result c.position.ensures.ran (YieldsList-from_slice c.args.word.now cc) (λ x b q k. search (rules, tests)) in
    c.unwrap_or.ensures ∙ rw e (first_or_end _ _ (prefix_len-le-length {X = ℕ} (λ x. not (eqb x 46)) c.args.word.now))
