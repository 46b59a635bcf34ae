-- The class of a call tells its change.
use Rattle.std.proofs.Common.{◌≡◌, ◌∙◌, ℕ, Bool, true, false, List, [], ◌∷◌, ◌++◌, eqb, cond, refl, ap, sym, append-nil}
use Rattle.sb_rule.specs.declared.actions.Action.TheVariants.{Allow, Deny, Alarm, Fake, ReadOnly}
use Rattle.sb_rule.specs.declared.verdicts.Verdict.{Verdict}
use Rattle.sb_rule.specs.declared.verdicts.Verdict.TheVariants as verdict
use Rattle.sb_compare.specs.Classes.{bit_of, class_of_change, class_of_verdict, verdict_numbers}
use Rattle.sb_compare.specs.declared.changes.Change.{Change}

-- the verdict that is told by two numbers
abbrev told_by : ℕ → ℕ → Verdict
told_by line number =
    cond (eqb number 0) (verdict.Rule line Allow)
    (cond (eqb number 1) (verdict.Rule line Deny)
    (cond (eqb number 2) (verdict.Rule line Alarm)
    (cond (eqb number 3) (verdict.Rule line Fake) (cond (eqb number 4) (verdict.Rule line ReadOnly) verdict.NoRule))))

-- the verdict that numbers begin with, and what follows it
abbrev first_verdict : List ℕ → Verdict
first_verdict (line ∷ number ∷ rest) = told_by line number
first_verdict _ = verdict.NoRule

abbrev after_verdict : List ℕ → List ℕ
after_verdict (line ∷ number ∷ rest) = rest
after_verdict _ = []

abbrev after_bit : List ℕ → List ℕ
after_bit [] = []
after_bit (bit ∷ rest) = rest

abbrev first_bit : List ℕ → Bool
first_bit [] = false
first_bit (bit ∷ rest) = eqb bit 1

first_is : (v : Verdict) (rest : List ℕ) → first_verdict (verdict_numbers v ++ rest) ≡ v
first_is (verdict.Rule line Allow) rest = refl
first_is (verdict.Rule line Deny) rest = refl
first_is (verdict.Rule line Alarm) rest = refl
first_is (verdict.Rule line Fake) rest = refl
first_is (verdict.Rule line ReadOnly) rest = refl
first_is verdict.NoRule rest = refl

after_is : (v : Verdict) (rest : List ℕ) → after_verdict (verdict_numbers v ++ rest) ≡ rest
after_is (verdict.Rule line action) rest = refl
after_is verdict.NoRule rest = refl

bit_is : (test : Bool) → eqb (bit_of test) 1 ≡ test
bit_is true = refl
bit_is false = refl

-- the change that is told by a class
abbrev change_from : List ℕ → Change
change_from class = record {
  old = first_verdict (after_bit class);
  new = first_verdict (after_verdict (after_bit class));
  writes = first_bit class;
}

change_back : (change : Change) → change_from (class_of_change change) ≡ change
change_back change = λ i. record {
  old = first_is change.old (verdict_numbers change.new ++ []) i;
  new = (ap first_verdict (after_is change.old (verdict_numbers change.new ++ [])) ∙ first_is change.new []) i;
  writes = bit_is change.writes i;
}

pub same_change : (a b : Change) → class_of_change a ≡ class_of_change b → a ≡ b
same_change a b e = sym (change_back a) ∙ ap change_from e ∙ change_back b

-- the numbers of a change, one after another
pub numbers_joined : (bit : ℕ) (old new : List ℕ) → (bit ∷ []) ++ old ++ new ≡ bit ∷ (old ++ (new ++ []))
numbers_joined bit old new = λ i. bit ∷ (old ++ sym (append-nil new) i)

pub same_verdict : (a b : Bool) (v w : Verdict) → class_of_verdict a v ≡ class_of_verdict b w → v ≡ w
same_verdict a b v w e = sym (first_is v []) ∙ ap (λ l. first_verdict (after_bit l)) e ∙ first_is w []

pub numbers_of_verdict : (bit : ℕ) (numbers : List ℕ) → (bit ∷ []) ++ numbers ≡ bit ∷ (numbers ++ [])
numbers_of_verdict bit numbers = λ i. bit ∷ sym (append-nil numbers) i
