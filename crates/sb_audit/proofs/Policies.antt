-- The policy of a target.
use Rattle.std.proofs.Common.{◌≡◌, ◌∙◌, ◌<◌, ℕ, Bool, true, false, ◌&&◌, List, [], length, get_or, nat_lt, refl, sym, subst, arith}
use Rattle.std.specs.List.{list_all}
use Rattle.std.specs.Prelude.{is_ok}
use Rattle.std.proofs.lemmas.Bool.{and_parts, false≢true}
use Rattle.std.proofs.lemmas.Bool.Decides.{nat_tests}
use Rattle.std.proofs.lemmas.List.{get_or-map, get_or_read}
use Rattle.std.proofs.lemmas.List.Folds.{list_all_at}
use Rattle.sb_kernel.specs.Openings.{opened}
use Rattle.sb_rule.specs.Verdicts.{policy_at}
use Rattle.sb_rule.specs.WellMade.{are_well_made}
use Rattle.sb_rule.specs.declared.policies.Policy.{Policy}
use Rattle.sb_statements.specs.Soundness.{is_sound}
use Rattle.sb_statements.specs.declared.scripts.Script.{Script}
use Rattle.sb_statements.specs.declared.scripts.TargetScript.{TargetScript}
use Rattle.sb_book.specs.Readiness.{is_judged, is_ready}
use Rattle.sb_audit.specs.Audited.{policy_of}

policy_found : (policies : List Policy) (script : Script) (t : ℕ) (d : TargetScript) → t < length script.targets
    → policy_of policies script t ≡ policy_at policies (get_or script.targets t d).policy
policy_found policies script t d h = get_or-map (λ target. policy_at policies target.policy) script.targets t d (record { name = []; rules = [] }) h

-- what holds of all elements holds of the one at a place
each_holds : {X : Type 0} (p : X → Bool) (xs : List X) (i : ℕ) (d : X) → i < length xs → list_all p xs ≡ true → p (get_or xs i d) ≡ true
each_holds p xs i d h all = by (p (get_or xs i d)) refl
  where
    by : (b : Bool) → p (get_or xs i d) ≡ b → p (get_or xs i d) ≡ true
    by true e = e
    by false e = absurd (false≢true (sym (list_all_at p xs i d h e) ∙ all))

less : (a b : ℕ) → nat_lt a b ≡ true → a < b
less a b h = grind (arith, nat_tests)

there : (policies : List Policy) (script : Script) (t : ℕ) (d : TargetScript) → is_ready policies script ≡ true → t < length script.targets
    → (get_or script.targets t d).policy < length policies
there policies script t d ready h =
    let first = and_parts (is_sound script && are_well_made policies && list_all (is_judged (length policies)) script.targets) (is_ok (opened script.start)) ready in
    let second = and_parts (is_sound script && are_well_made policies) (list_all (is_judged (length policies)) script.targets) first.0 in
    less (get_or script.targets t d).policy (length policies) (each_holds (is_judged (length policies)) script.targets t d h second.1)

-- the number of the policy of a target is that of one of these policies
pub policy_there : (policies list : List Policy) (script : Script) (targets : List TargetScript) (t : ℕ) (d : TargetScript) → list ≡ policies → targets ≡ script.targets
    → is_ready policies script ≡ true → t < length script.targets → (get_or targets t d).policy < length list
policy_there policies list script targets t d l s ready h =
    subst (λ (ps : List Policy). (get_or targets t d).policy < length ps) (sym l)
    (subst (λ (ts : List TargetScript). (get_or ts t d).policy < length policies) (sym s) (there policies script t d ready h))

-- what is read there is the policy of the target
pub policy_read : (policies list : List Policy) (script : Script) (targets : List TargetScript) (t : ℕ) (d : TargetScript) (p : Policy) → list ≡ policies
    → targets ≡ script.targets → is_ready policies script ≡ true → t < length script.targets → p ≡ get_or list (get_or targets t d).policy p → p ≡ policy_of policies script t
policy_read policies list script targets t d p l s ready h is =
    let read : p ≡ get_or policies (get_or script.targets t d).policy p = is ∙ (λ i. get_or (l i) (get_or (s i) t d).policy p) in
    get_or_read policies (get_or script.targets t d).policy p (there policies script t d ready h) read (record { name = []; rules = [] })
    ∙ sym (policy_found policies script t d h)
