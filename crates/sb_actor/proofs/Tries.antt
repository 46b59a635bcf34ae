-- The last try of a round.
use Rattle.std.proofs.Common.{◌≡◌, ◌≢◌, ◌∙◌, refl, sym, subst, ℕ, ◌+◌, Bool, true, false, ◌==◌, ◌&&◌, length, Option, arith}
use Rattle.std.proofs.lemmas.Bool.Decides.{nat_tests}
use Rattle.sb_actor.specs.Acts.{abandoned, free}
use Rattle.sb_actor.specs.Endings.{GoesOn}
use Rattle.sb_actor.specs.ThreadStages.{ThreadAt}
use Rattle.sb_actor.specs.ThreadTable.{ThreadNext, after_round, after_try}
use Rattle.sb_actor.specs.declared.endings.Ending.{Ending}
use Rattle.sb_statements.specs.declared.scripts.Script.{Script}

pub last_try : (script : Script) (x y : ThreadAt) (c n rounds found : ℕ) (all_abandoned both : Bool) (o : Option Ending) → found ≢ free → c + 1 ≡ n → n ≡ length x.clean
    → both ≡ (all_abandoned && found == abandoned)
    → GoesOn script x (after_round script x rounds both) y o → GoesOn script x (after_try script x c rounds all_abandoned found) y o
last_try script x y c n rounds found all_abandoned both o other last long e h = subst (λ (next : ThreadNext). GoesOn script x next y o) (sym same) h
  where
    taken : (found == free) ≡ false
    taken = grind (arith, nat_tests, other)

    at_end : (c + 1 == length x.clean) ≡ true
    at_end = let whole = last ∙ long in grind (arith, nat_tests, whole)

    same : after_try script x c rounds all_abandoned found ≡ after_round script x rounds both
    same = rw (taken, at_end, e) refl
