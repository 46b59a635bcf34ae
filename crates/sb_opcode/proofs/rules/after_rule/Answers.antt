use Rattle.std.proofs.Common.{rules, ◌≡◌, ◌∙◌, true, false, cond, ap, sym, arith}
use Rattle.sb_opcode.specs.Groups.{after_action}
use Rattle.sb_opcode.specs.Unpacking.{opcodes_of}
use Rattle.sb_opcode.proofs.KnownLemmas.{later_passed}
use Rattle.sb_opcode.proofs.RuleLemmas.{after_of, passed_parts, suffix_of}
use Rattle.sb_opcode.proofs.rules.after_rule.Goals as goal

pub returns-then-acts-clause-packed : goal.returns-then-acts-clause-packed
returns-then-acts-clause-packed c =
    later_passed c.loop-acts.rest.now c.in-Some.later.now c.in-Some.acts c.in-Some.ensures c.loop-acts.invariant.0

pub returns-then-acts-clause-later : goal.returns-then-acts-clause-later
returns-then-acts-clause-later c =
    let later = opcodes_of c.in-Some.later.now in
    let yes : c.in-Some.acts ≡ true = search rules in
    sym (after_of c.loop-acts.rest.now c.in-Some.later.now c.in-Some.acts c.in-Some.ensures c.loop-acts.invariant.0
    ∙ ap (λ b. cond b later (after_action later)) yes)
    ∙ c.loop-acts.invariant.1

pub returns-then-acts-clause-suffix : goal.returns-then-acts-clause-suffix
returns-then-acts-clause-suffix c =
    let p = passed_parts c.loop-acts.rest.now c.in-Some.later.now c.in-Some.acts c.in-Some.ensures c.loop-acts.invariant.0 in
    suffix_of c.args.words.now c.loop-acts.rest.now c.in-Some.later.now c.loop-acts.invariant.2 (p.0, p.1)

pub returns-then-acts-clause-shorter : goal.returns-then-acts-clause-shorter
returns-then-acts-clause-shorter c some =
    let p = passed_parts c.loop-acts.rest.now c.in-Some.later.now c.in-Some.acts c.in-Some.ensures c.loop-acts.invariant.0 in
    omega (arith, p.2, c.loop-acts.invariant.3)

pub loop-acts-preserved : goal.loop-acts-preserved
loop-acts-preserved c =
    let rest = c.loop-acts.rest.now in
    let later = c.in-Some.later.now in
    let packed = c.loop-acts.invariant.0 in
    let p = passed_parts rest later c.in-Some.acts c.in-Some.ensures packed in
    let no : c.in-Some.acts ≡ false = search rules in (
      later_passed rest later c.in-Some.acts c.in-Some.ensures packed,
      sym (after_of rest later c.in-Some.acts c.in-Some.ensures packed ∙ ap (λ b. cond b (opcodes_of later) (after_action (opcodes_of later))) no)
          ∙ c.loop-acts.invariant.1,
      suffix_of c.args.words.now rest later c.loop-acts.invariant.2 (p.0, p.1),
      omega (arith, p.2, c.loop-acts.invariant.3),
    )
