use Rattle.std.proofs.Common.{◌≡◌, ◌∙◌, ap, subst, true}
use Rattle.std.specs.List.{list_all}
use Rattle.sb_rule.specs.declared.policies.Policies.{Policies}
use Rattle.sb_ruletext.specs.Printing.{printed}
use Rattle.sb_ruletext.specs.Values.{is_policy_of_values}
use Rattle.sb_ruletext.proofs.PrintedLengths.{printed_short}
use Rattle.sb_ruletext.proofs.PrintedTexts.{printed_again}
use Rattle.sb_ruletext.proofs.printing.print_policies.Goals as goal

pub returns-clause-text : goal.returns-clause-text
returns-clause-text c =
    let same : c.deref.result.now ≡ c.args.policies.now.list = c.deref.ensures ∙ ap (λ (p : Policies). p.list) c.policies.ensures.policies in
    c.in_ok-text.ensures.text ∙ ap printed same

pub returns-clause-short : goal.returns-clause-short
returns-clause-short c =
    let same : c.deref.result.now ≡ c.args.policies.now.list = c.deref.ensures ∙ ap (λ (p : Policies). p.list) c.policies.ensures.policies in
    printed_short c.args.policies.now.list c.deref.result.now _ same c.policies.ensures.well_made c.in_ok-text.ensures.values
    c.in_ok-text.ensures.text

pub returns-clause-values : goal.returns-clause-values
returns-clause-values c =
    let same : c.deref.result.now ≡ c.args.policies.now.list = c.deref.ensures ∙ ap (λ (p : Policies). p.list) c.policies.ensures.policies in
    subst (λ l. list_all is_policy_of_values l ≡ true) same c.in_ok-text.ensures.values

pub returns-clause-read_again : goal.returns-clause-read_again
returns-clause-read_again c =
    let same : c.deref.result.now ≡ c.args.policies.now.list = c.deref.ensures ∙ ap (λ (p : Policies). p.list) c.policies.ensures.policies in
    printed_again c.args.policies.now.list c.deref.result.now _ c.printed_policies_are_read.ensures same c.policies.ensures.well_made
    c.in_ok-text.ensures.values c.in_ok-text.ensures.text
