-- The policies of a well-made list.
use Rattle.std.proofs.Common.{◌≡◌, ◌<◌, ◌∙◌, ℕ, Bool, true, false, List, length, refl, ap, sym}
use Rattle.std.specs.List.{list_all}
use Rattle.std.specs.Prelude.{◌&&◌, nat_le, slice_index_or}
use Rattle.std.proofs.lemmas.Bool.{and_parts, false≢true}
use Rattle.std.proofs.lemmas.List.Folds.{list_all_at}
use Rattle.sb_rule.specs.WellMade.{are_named_apart, are_well_made, is_well_made}
use Rattle.sb_rule.specs.declared.policies.Policy.{Policy}

-- what passes at each place passes at one
one_passes : {X : Type 0} (test : X → Bool) (xs : List X) (n : ℕ) (d : X) → n < length xs → list_all test xs ≡ true → test (slice_index_or xs n d) ≡ true
one_passes test xs n d h all = by (test (slice_index_or xs n d)) refl
  where
    by : (b : Bool) → test (slice_index_or xs n d) ≡ b → b ≡ true
    by true e = refl
    by false e = absurd (false≢true (sym (list_all_at test xs n d h e) ∙ all))

pub policy_is_well_made : (policies : List Policy) (n : ℕ) (policy : Policy) → n < length policies → policy ≡ slice_index_or policies n policy
    → are_well_made policies ≡ true → is_well_made policy ≡ true
policy_is_well_made policies n policy h is made =
    let each = (and_parts (nat_le (length policies) 8 && are_named_apart policies) (list_all is_well_made policies) made).1 in
    ap is_well_made is ∙ one_passes is_well_made policies n policy h each
