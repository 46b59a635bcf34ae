use Rattle.std.proofs.Common.{◌≡◌, List, take}
use Rattle.sb_compare.specs.CoverTexts.{cover_text, AreCovered}
use Rattle.sb_compare.specs.declared.decided.Decided.{Decided}
use Rattle.sb_compare.proofs.cover_texts.cover_list.Given as goal

abbrev pub invariant-loop-policy : goal.invariant-loop-policy
invariant-loop-policy l =
    (lists : List (List Decided)) × AreCovered (take l.policy-index l.policies) lists × (l.text.items ≡ cover_text (take l.policy-index l.policies) lists)
