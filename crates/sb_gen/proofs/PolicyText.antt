-- The text of the policy has no fault, and means one policy.
use Rattle.std.proofs.Common.{◌≡◌, ◌∙◌, refl, ap, sym, ℕ, List, length}
use Rattle.std.specs.Prelude.{Result, Ok, Err}
use Rattle.std.specs.Str.{chars, is_utf8}
use Rattle.std.specs.Str.Lossy.{utf8_valid_len}
use lib.Utf8.{encode}
use Rattle.sb_rule.specs.declared.policies.Policy.{Policy}
use Rattle.sb_ruletext.specs.Conditions.{test_at, condition_at}
use Rattle.sb_ruletext.specs.Lines.{heading, rule, grant, with_last_rules, line_of}
use Rattle.sb_ruletext.specs.PolicyTexts.{PolicyFault, reading}
use Rattle.sb_ruletext.specs.Steps.{joined_at}
use Rattle.sb_text.specs.Readings.{read_lines}
use Rattle.sb_gen.specs.Policies.{policy_text, AreMade}

-- how many policies were read
abbrev count_of : Result (List Policy) PolicyFault → ℕ
count_of (Ok policies) = length policies
count_of (Err fault) = 0

one_is_read : count_of (reading policy_text) ≡ 1
unfolding read_lines test_at condition_at heading rule grant with_last_rules line_of joined_at utf8_valid_len is_utf8 chars encode
one_is_read = refl

pub one_is_made : (policies : List Policy) → AreMade policies → length policies ≡ 1
one_is_made policies made = ap count_of (sym made) ∙ one_is_read

pub text_has_no_fault : (fault : PolicyFault) → reading policy_text ≡ Err fault → ⊥
text_has_no_fault fault e =
    let none : ◌≡◌ {A = ℕ} 0 1 = ap count_of (sym e) ∙ one_is_read in
    cc
