use Rattle.std.specs.List.{flat_map}
use Rattle.std.proofs.Common.{◌≡◌, ◌∙◌, ◌∷◌, ◌++◌, ◌+◌, [], ap, subst, sym, take}
use Rattle.std.proofs.lemmas.List.{take_more}
use Rattle.sb_compare.specs.CoverTexts.{cover_text, decided_lines, target_lines, AreCovered}
use Rattle.sb_compare.proofs.CoverTextLemmas.{covered_more, text_more}
use Rattle.sb_compare.proofs.cover_texts.cover_list.Goals as goal

pub loop-policy-preserved : goal.loop-policy-preserved
loop-policy-preserved c =
    let policies = c.args.policies.now in
    let i = c.loop-policy.policy-index in
    let policy = c.policy-item.result in
    let inv = c.loop-policy.invariant in
    let put = c.in_ok-put_policy.ensures.text in
    let more : take (i + 1) policies ≡ take i policies ++ policy ∷ [] =
    take_more policies i policy c.loop-policy-test.true ∙ ap (λ p. take i policies ++ p ∷ []) (sym c.policy-item.is) in (
      inv.0 ++ put.0 ∷ [],
      subst (λ l. AreCovered l (inv.0 ++ put.0 ∷ [])) (sym more) (covered_more (take i policies) inv.0 policy put.0 inv.1 put.1),
      put.2 ∙ ap (λ t. t ++ (target_lines policy.name ++ flat_map decided_lines put.0)) inv.2
          ∙ sym (text_more (take i policies) inv.0 policy put.0 inv.1) ∙ ap (λ l. cover_text l (inv.0 ++ put.0 ∷ [])) (sym more),
    )
