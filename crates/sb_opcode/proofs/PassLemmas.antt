-- What the walk keeps: the rest of a rule that fails is passed over.
use Rattle.std.proofs.Common.{◌≡◌, ◌∙◌, Bool, true, false, cond, List, [], ◌∷◌, ◌&&◌, ◌<◌, length, refl, ap, sym, arith}
use Rattle.std.specs.Prelude.{not}
use Rattle.std.proofs.lemmas.Bool.{false≢true}
use Rattle.sb_call.specs.declared.arguments.Arg.{Arg}
use Rattle.sb_opcode.specs.Groups.{is_act, after_action}
use Rattle.sb_opcode.specs.Records.{IsPassed}
use Rattle.sb_opcode.specs.Opcodes.{Opcode}
use Rattle.sb_opcode.specs.Meaning.{action_of_rule}
use Rattle.sb_opcode.specs.Walking.{Standing, Between, All, One, Decided, Failed, step, is_failed, walk}
use Rattle.sb_rule.specs.declared.verdicts.Verdict.{Verdict}
use Rattle.sb_opcode.proofs.WalkLemmas.{rule_passed}

pub passed_action : (acts : Bool) (before after : List Opcode) → IsPassed acts before after → after_action before ≡ cond acts after (after_action after)
passed_action acts before after p = ap after_action p.1 ∙ ap (λ b. cond b after (after_action after)) (sym p.2)

pub passed_shorter : (acts : Bool) (before after : List Opcode) → IsPassed acts before after → length after < length before
passed_shorter acts before after p = let len : length before ≡ length (p.0 ∷ after) = ap length p.1 in omega (arith, len)

pub failed_is : (s : Standing) → is_failed s ≡ true → s ≡ Failed
failed_is Between h = absurd (false≢true h)
failed_is (All left) h = absurd (false≢true h)
failed_is (One whole) h = absurd (false≢true h)
failed_is (Decided holds) h = absurd (false≢true h)
failed_is Failed h = refl

-- after an opcode that is no action
pub walk_step : (args : List Arg) (s t : Standing) (op : Opcode) (before mid : List Opcode) (whole : Verdict) → before ≡ op ∷ mid → is_act op ≡ false
    → t ≡ step args s op → walk args s before ≡ whole → walk args t mid ≡ whole
walk_step args s t op before mid whole e a h w =
    ap (λ u. walk args u mid) h
    ∙ (λ i. cond (sym a i && not (is_failed s)) (action_of_rule (op ∷ [])) (walk args (cond (sym a i) Between (step args s op)) mid))
    ∙ ap (walk args s) (sym e) ∙ w

-- and if the rule fails
pub walk_passed : (args : List Arg) (t : Standing) (mid after : List Opcode) (whole : Verdict) → is_failed t ≡ true
    → after ≡ after_action mid → walk args t mid ≡ whole → walk args Between after ≡ whole
walk_passed args t mid after whole f e w =
    ap (walk args Between) e ∙ sym (rule_passed args mid) ∙ ap (λ u. walk args u mid) (sym (failed_is t f)) ∙ w
