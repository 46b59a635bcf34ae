-- The text of policies, one policy after another.
use Rattle.std.specs.List.{flat_map}
use Rattle.std.proofs.Common.{◌≡◌, ◌∙◌, ℕ, List, [], ◌∷◌, ◌++◌, codes, refl, ap, sym, subst, append-nil, append_assoc}
use Rattle.sb_call.specs.CallWords.{every_tag}
use Rattle.sb_rule.specs.declared.policies.Policy.{Policy}
use Rattle.sb_compare.specs.CoverTexts.{cover_text, decided_lines, policies_lines, target_lines, AreCovered}
use Rattle.sb_compare.specs.Decided.{AreAllDecided}
use Rattle.sb_compare.specs.declared.decided.Decided.{Decided}

-- one policy more
pub covered_more : (policies : List Policy) (lists : List (List Decided)) (policy : Policy) (list : List Decided) → AreCovered policies lists → AreAllDecided policy every_tag list
    → AreCovered (policies ++ policy ∷ []) (lists ++ list ∷ [])
covered_more [] lists policy list h all = subst (λ l. AreCovered (policy ∷ []) (l ++ list ∷ [])) (sym h) (all, refl)
covered_more (p ∷ policies) [] policy list h all = absurd h
covered_more (p ∷ policies) (l ∷ lists) policy list h all = (h.0, covered_more policies lists policy list h.1 all)

-- the lines of a policy
abbrev lines_of : Policy → List Decided → List ℕ
lines_of policy list = target_lines policy.name ++ flat_map decided_lines list

lines_more : (policies : List Policy) (lists : List (List Decided)) (policy : Policy) (list : List Decided) → AreCovered policies lists
    → policies_lines (policies ++ policy ∷ []) (lists ++ list ∷ []) ≡ policies_lines policies lists ++ lines_of policy list
lines_more [] lists policy list h =
    subst (λ l. policies_lines (policy ∷ []) (l ++ list ∷ []) ≡ lines_of policy list) (sym h)
    (append-nil (lines_of policy list))
lines_more (p ∷ policies) [] policy list h = absurd h
lines_more (p ∷ policies) (l ∷ lists) policy list h =
    ap (λ r. lines_of p l ++ r) (lines_more policies lists policy list h.1) ∙ sym (append_assoc (lines_of p l) (policies_lines policies lists) (lines_of policy list))

pub text_more : (policies : List Policy) (lists : List (List Decided)) (policy : Policy) (list : List Decided) → AreCovered policies lists
    → cover_text (policies ++ policy ∷ []) (lists ++ list ∷ []) ≡ cover_text policies lists ++ (target_lines policy.name ++ flat_map decided_lines list)
text_more policies lists policy list h =
    ap (λ l. codes "sandbox-script 1\n" ++ l) (lines_more policies lists policy list h)
    ∙ sym (append_assoc (codes "sandbox-script 1\n") (policies_lines policies lists) (lines_of policy list))
