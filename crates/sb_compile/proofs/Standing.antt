-- The policies of targets, each with its program.
use Rattle.std.specs.Prelude.{nat_le, slice_index_or}
use Rattle.std.specs.List.{list_all}
use Rattle.std.proofs.Common.{◌≡◌, ◌∙◌, ◌+◌, ◌<◌, ◌≤◌, ℕ, zero, suc, true, List, [], ◌∷◌, ◌++◌, ◌&&◌, drop, length, map, refl, sym, ap, arith}
use Rattle.std.proofs.lemmas.Bool.{and_parts}
use Rattle.std.proofs.lemmas.List.{append_assoc, drop_more, length-append, length-map}
use Rattle.sb_statements.specs.declared.scripts.TargetScript.{TargetScript}
use Rattle.sb_rule.specs.Verdicts.{policy_at}
use Rattle.sb_rule.specs.WellMade.{is_well_made, are_well_made, are_named_apart}
use Rattle.sb_rule.specs.declared.policies.Policy.{Policy}
use Rattle.sb_compile.specs.Compiling.{Compiled, program_of, policies_of_targets}
use Rattle.sb_compile.specs.Targets.{nothing, policies_in}
use Rattle.sb_compile.proofs.Members.{both}

-- the program at a number is that of the policy there
pub program_at : (policies : List Policy) (n : ℕ) → slice_index_or (map program_of policies) n (program_of nothing) ≡ program_of (policy_at policies n)
program_at [] n = refl
program_at (policy ∷ policies) zero = refl
program_at (policy ∷ policies) (suc n) = program_at policies n

policy_made : (policies : List Policy) (n : ℕ) → list_all is_well_made policies ≡ true → is_well_made (policy_at policies n) ≡ true
policy_made [] n h = refl
policy_made (policy ∷ policies) zero h = (and_parts (is_well_made policy) (list_all is_well_made policies) h).0
policy_made (policy ∷ policies) (suc n) h = policy_made policies n (and_parts (is_well_made policy) (list_all is_well_made policies) h).1

-- the policies of targets are well made
pub targets_made : (policies : List Policy) (numbers : List ℕ) → list_all is_well_made policies ≡ true → list_all is_well_made (policies_in policies numbers) ≡ true
targets_made policies [] h = refl
targets_made policies (n ∷ numbers) h = both (policy_made policies n h) (targets_made policies numbers h)

-- the policy of a target is the one at its number
pub number_at : (policies : List Policy) (numbers : List ℕ) (target : ℕ) → target < length numbers
    → policy_at (policies_in policies numbers) target ≡ policy_at policies (slice_index_or numbers target 0)
number_at policies [] target h = absurd (omega (arith, h))
number_at policies (n ∷ numbers) zero h = refl
number_at policies (n ∷ numbers) (suc target) h = number_at policies numbers target (omega (arith, h))

-- each target has a number
pub as_many : (policies : List Policy) (numbers : List ℕ) → length (policies_in policies numbers) ≡ length numbers
as_many policies numbers = length-map numbers (λ number. policy_at policies number)

pub numbered : (policies : List Policy) (targets : List TargetScript)
    → policies_in policies (map (λ target. target.policy) targets) ≡ policies_of_targets policies targets
numbered policies [] = refl
numbered policies (t ∷ targets) = ap (λ l. policy_at policies t.policy ∷ l) (numbered policies targets)

pub each_made : (policies : List Policy) → are_well_made policies ≡ true → list_all is_well_made policies ≡ true
each_made policies h = (and_parts (nat_le (length policies) 8 && are_named_apart policies) (list_all is_well_made policies) h).1

-- a program more, of the first policy that is left
pub next_compiled : (policies : List Policy) (before after whole : List Compiled) (policy : Policy) → length before < length policies
    → policy ≡ slice_index_or policies (length before) policy → after ≡ before ++ program_of policy ∷ []
    → before ++ map program_of (drop (length before) policies) ≡ whole
    → (after ++ map program_of (drop (length after) policies) ≡ whole) × (length after ≤ length policies)
next_compiled policies before after whole policy inside is pushed e =
    let counted : length after ≡ length before + 1 = ap length pushed ∙ length-append before (program_of policy ∷ []) in
    let left = map program_of (drop (length before + 1) policies) in (
      (λ i. pushed i ++ map program_of (drop (counted i) policies))
          ∙ append_assoc before (program_of policy ∷ []) left
          ∙ ap (λ p. before ++ program_of p ∷ left) is
          ∙ ap (λ l. before ++ map program_of l) (sym (drop_more policies (length before) policy inside))
          ∙ e,
      omega (arith, counted, inside),
    )
