use Rattle.std.proofs.Common.{rules, ◌≡◌, ◌∙◌, ◌+◌, ◌<◌, ◌++◌, true, ap, arith, drop, length, sym}
use Rattle.std.specs.List.{list_all}
use Rattle.std.specs.Prelude.{◌&&◌, nat_le}
use Rattle.std.proofs.lemmas.Bool.{and_parts}
use Rattle.std.proofs.lemmas.Bool.Decides.{nat_tests}
use Rattle.std.proofs.lemmas.List.{append_assoc, drop_more}
use Rattle.sb_rule.specs.WellMade.{are_named_apart, is_well_made}
use Rattle.sb_compile.specs.Compiling.{program_of}
use Rattle.sb_compile.specs.Listing.{listing_of}
use Rattle.sb_plain.specs.Check.{listings}
use Rattle.sb_plain.proofs.check.listings.Goals as goal

pub loop-policy-preserved : goal.loop-policy-preserved
loop-policy-preserved c =
    let policies = c.args.policies.now.list in
    let text = c.loop-policy.text.items in
    let number = c.loop-policy.number in
    let policy = c.in-Some.policy in
    let inside : number < length policies = c.in-Some.ensures.0 in
    let listing = listing_of (program_of policy) in
    let left = listings (drop (number + 1) policies) in
    let listed : c.put_listing.new.text.items ≡ text ++ listing = search rules in (
      ap (λ t. t ++ left) listed
          ∙ append_assoc text listing left
          ∙ ap (λ p. text ++ (listing_of (program_of p) ++ left)) (c.in-Some.ensures.1 policy)
          ∙ ap (λ l. text ++ listings l) (sym (drop_more policies number policy inside))
          ∙ c.loop-policy.invariant.0,
      omega (arith, inside),
    )

pub overflow_add-number : goal.overflow_add-number
overflow_add-number c =
    let policies = c.args.policies.now.list in
    let inside : c.loop-policy.number < length policies = c.in-Some.ensures.0 in
    let made = (and_parts (nat_le (length policies) 8 && are_named_apart policies) (list_all is_well_made policies) c.establish_well_made.ensures).0 in
    let few : nat_le (length policies) 8 ≡ true = (and_parts (nat_le (length policies) 8) (are_named_apart policies) made).0 in
    grind (arith, nat_tests, inside, few)
