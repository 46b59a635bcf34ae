use Rattle.std.proofs.Common.{◌≡◌, ◌∙◌, ◌++◌, ◌∷◌, [], List, refl, ap, codes}
use Rattle.std.proofs.lemmas.Grind.{flat_map-append}
use Rattle.std.proofs.lemmas.List.{append-nil, take_all}
use Rattle.std.specs.List.{flat_map}
use Rattle.sb_call.specs.declared.tags.CallTag.{CallTag}
use Rattle.sb_rule.specs.declared.conditions.Cond.{Cond}
use Rattle.sb_text.specs.TokenLaws.{written_token}
use Rattle.sb_ruletext.specs.Printing.{joined_tokens, spaced}
use Rattle.sb_ruletext.specs.Values.{is_test_of_values}
use Rattle.sb_ruletext.proofs.Appended.{next_taken, part_appended, all_next}
use Rattle.sb_ruletext.proofs.printing.put_more_conds.Goals as goal

tokens_more : (tag : CallTag) (conds : List Cond) (cond : Cond)
    → flat_map (joined_tokens (codes "and") tag) (conds ++ cond ∷ []) ≡ flat_map (joined_tokens (codes "and") tag) conds ++ joined_tokens (codes "and") tag cond
tokens_more tag conds cond = rw (flat_map-append (joined_tokens (codes "and") tag) conds (cond ∷ []), append-nil (joined_tokens (codes "and") tag cond)) refl

one_more : (tag : CallTag) (conds : List Cond) (cond : Cond)
    → spaced (flat_map (joined_tokens (codes "and") tag) (conds ++ cond ∷ [])) ≡ spaced (flat_map (joined_tokens (codes "and") tag) conds) ++ spaced (joined_tokens (codes "and") tag cond)
one_more tag conds cond =
    ap spaced (tokens_more tag conds cond) ∙ flat_map-append (λ token. 32 ∷ written_token token) (flat_map (joined_tokens (codes "and") tag) conds) (joined_tokens (codes "and") tag cond)

pub loop-cond-preserved : goal.loop-cond-preserved
loop-cond-preserved c =
    let taken = next_taken _ _ _ c.loop-cond-test.true c.cond-item.is in record {
      text = part_appended (λ conds. spaced (flat_map (joined_tokens (codes "and") c.args.tag) conds)) c.args.conds.now c.loop-cond.cond-index c.cond-item.result _ _ _ _ taken
          (one_more c.args.tag _ c.cond-item.result) c.loop-cond.invariant.text c.in_ok-put_joined.ensures.text;
      values = all_next (λ cond. is_test_of_values cond.test) c.args.conds.now c.loop-cond.cond-index c.cond-item.result taken
          c.loop-cond.invariant.values c.in_ok-put_joined.ensures.values;
    }

pub returns-clause-text : goal.returns-clause-text
returns-clause-text c = rw (take_all c.loop-cond.cond-index c.args.conds.now c.loop-cond-test.false) at c.loop-cond.invariant.text

pub returns-clause-values : goal.returns-clause-values
returns-clause-values c = rw (take_all c.loop-cond.cond-index c.args.conds.now c.loop-cond-test.false) at c.loop-cond.invariant.values
