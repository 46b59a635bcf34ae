use Rattle.std.specs.Prelude.{IfOk}
use Rattle.std.proofs.Common.{◌≡◌, ◌∙◌, List, ap, length, subst}
use Rattle.sb_rule.specs.declared.policies.Policies.{Policies}
use Rattle.sb_compare.specs.CompareTexts.{compare_text}
use Rattle.sb_compare.specs.Comparing.{AreCompared}
use Rattle.sb_compare.specs.declared.changes.ShownChange.{ShownChange}
use Rattle.sb_compare.specs.declared.compare_texts.Comparison.{Comparison}
use Rattle.sb_compare.proofs.compare_texts.compare.Goals as goal

pub returns-clause-text : goal.returns-clause-text
returns-clause-text c =
    let olds = c.args.olds.now.list in
    let news = c.args.news.now.list in
    let old : c.deref.result.now ≡ olds = c.deref.ensures ∙ ap (λ (p : Policies). p.list) c.policies.ensures.policies in
    let new : c.deref-2.result.now ≡ news = c.deref-2.ensures ∙ ap (λ (p : Policies). p.list) c.policies-2.ensures.policies in
    subst (λ o. IfOk c.compare_lists.result (λ (k : Comparison). (shown : List ShownChange) × AreCompared o news shown × (k.text.items ≡ compare_text o news shown) × (k.changed ≡ length shown))) old
    (subst (λ n. IfOk c.compare_lists.result (λ (k : Comparison). (shown : List ShownChange) × AreCompared c.deref.result.now n shown
    × (k.text.items ≡ compare_text c.deref.result.now n shown) × (k.changed ≡ length shown))) new c.compare_lists.ensures.text)
