-- Policies compared one after another.
use Rattle.std.specs.List.{list_all}
use Rattle.std.proofs.Common.{◌≡◌, ◌∙◌, ◌<◌, ℕ, zero, suc, Bool, true, false, cond, Option, None, Some, List, [], ◌∷◌, ◌++◌, ◌&&◌, leb, length, get_or, refl, ap, sym, subst, arith, append-nil, append_assoc}
use Rattle.std.proofs.lemmas.Bool.{and_parts, false≢true}
use Rattle.sb_rule.specs.Limits.{most_policies}
use Rattle.sb_rule.specs.WellMade.{are_named_apart, are_well_made, is_named, is_well_made}
use Rattle.sb_rule.specs.declared.policies.Policy.{Policy}
use Rattle.sb_compare.specs.Comparing.{policy_named, AreChangesFrom, AreCompared}
use Rattle.sb_compare.specs.declared.changes.ShownChange.{ShownChange}
use Rattle.sb_compare.proofs.Walks.{AreComparedSoFar}

abbrev has_policy : Option Policy → Bool
has_policy None = false
has_policy (Some policy) = true

abbrev found : Policy → Option Policy → Policy
found other None = other
found other (Some policy) = policy

-- the policy of a name is well made if all are
pub named_made : (name : List ℕ) (policies : List Policy) (policy : Policy) → policy_named name policies ≡ Some policy → list_all is_well_made policies ≡ true → is_well_made policy ≡ true
named_made name [] policy e made = absurd (no_some e)
  where
    no_some : None ≡ Some policy → ⊥
    no_some e = false≢true (ap has_policy e)
named_made name (p ∷ policies) policy e made =
    let q = and_parts (is_well_made p) (list_all is_well_made policies) made in
    by (is_named name p) e q.0 (λ later. named_made name policies policy later q.1)
  where
    by : (b : Bool) → cond b (Some p) (policy_named name policies) ≡ Some policy → is_well_made p ≡ true
        → (policy_named name policies ≡ Some policy → is_well_made policy ≡ true) → is_well_made policy ≡ true
    by true e one later = subst (λ x. is_well_made x ≡ true) (ap (found policy) e) one
    by false e one later = later e

-- well-made policies are well made, each of them
pub all_made : (policies : List Policy) → are_well_made policies ≡ true → list_all is_well_made policies ≡ true
all_made policies h = (and_parts (leb (length policies) most_policies && are_named_apart policies) (list_all is_well_made policies) h).1

-- each of them is
pub made_at : (policies : List Policy) (i : ℕ) (policy : Policy) → i < length policies → policy ≡ get_or policies i policy → list_all is_well_made policies ≡ true → is_well_made policy ≡ true
made_at [] i policy low is made = absurd (omega (arith, low))
made_at (p ∷ policies) zero policy low is made = ap is_well_made is ∙ (and_parts (is_well_made p) (list_all is_well_made policies) made).0
made_at (p ∷ policies) (suc i) policy low is made = made_at policies i policy (omega (arith, low)) is (and_parts (is_well_made p) (list_all is_well_made policies) made).1

pub compared_more : (olds all rest : List Policy) (new : Policy) (before after : List ShownChange)
    → (here : List ShownChange) × (after ≡ before ++ here) × AreChangesFrom (policy_named new.name olds) new here → AreComparedSoFar olds all (new ∷ rest) before
    → AreComparedSoFar olds all rest after
compared_more olds all rest new before after put so later h =
    subst (AreCompared olds all) (sym (append_assoc before put.0 later) ∙ ap (λ l. l ++ later) (sym put.1)) (so (put.0 ++ later) (put.0, later, refl, put.2, h))

pub compared_all : (olds all rest : List Policy) (shown : List ShownChange) → rest ≡ [] → AreComparedSoFar olds all rest shown → AreCompared olds all shown
compared_all olds all rest shown e so = subst (AreCompared olds all) (append-nil shown) (so [] (subst (λ r. AreCompared olds r []) (sym e) refl))
