use Rattle.std.proofs.Common.{rules, ◌≡◌, ◌∙◌, ◌≤◌, ◌<◌, ℕ, false, [], length, sym, arith}
use Rattle.std.specs.Prelude.{slice_index_or}
use Rattle.sb_index.specs.Sets.{Has}
use Rattle.sb_opcode.specs.Groups.{rules_of}
use Rattle.sb_opcode.specs.Meaning.{rule_holds}
use Rattle.sb_compile.proofs.Candidates.{at_end, at_one, past_one, to_next}
use Rattle.sb_compile.proofs.call_codes.judge_among.Goals as goal

pub returns-then-number-len : goal.returns-then-number-len
returns-then-number-len c =
    let ops = c.args.rules.now.code in
    let args = c.args.args.now in
    let number = c.in-Some.number in
    let next = c.in-Some.ensures in
    let past : length (rules_of ops) ≤ number = search rules in
    sym (at_end args (rules_of ops) number past) ∙ sym (to_next ops args c.args.set.now c.loop-number.at number c.requires.candidates next.0 next.3)
    ∙ c.loop-number.invariant.0

pub returns-in-Some-judge_rule : goal.returns-in-Some-judge_rule
returns-in-Some-judge_rule c =
    let ops = c.args.rules.now.code in
    let args = c.args.args.now in
    let number = c.in-Some.number in
    let next = c.in-Some.ensures in
    let judged = c.in-Some-judge_rule.ensures in
    let within : number < length (rules_of ops) = search rules in
    judged.1 ∙ sym (at_one ops args number within judged.0)
    ∙ sym (to_next ops args c.args.set.now c.loop-number.at number c.requires.candidates next.0 next.3) ∙ c.loop-number.invariant.0

pub loop-number-preserved : goal.loop-number-preserved
loop-number-preserved c =
    let ops = c.args.rules.now.code in
    let args = c.args.args.now in
    let number = c.in-Some.number in
    let next = c.in-Some.ensures in
    let unheld : rule_holds args (slice_index_or (rules_of ops) number []) ≡ false = search rules in (
      sym (past_one ops args number unheld)
          ∙ sym (to_next ops args c.args.set.now c.loop-number.at number c.requires.candidates next.0 next.3) ∙ c.loop-number.invariant.0,
      omega (arith, next.1),
    )

pub returns : goal.returns
returns c =
    let ops = c.args.rules.now.code in
    let args = c.args.args.now in
    let at = c.loop-number.at in
    let none : (k : ℕ) → at ≤ k → k < 256 → Has c.args.set.now k → ⊥ = search rules in
    sym (at_end args (rules_of ops) 256 c.requires.few) ∙ sym (to_next ops args c.args.set.now at 256 c.requires.candidates c.loop-number.invariant.1 none)
    ∙ c.loop-number.invariant.0
