use Rattle.std.proofs.Common.{rules, ◌≡◌, true, false, length, ap, refl, arith}
use Rattle.sb_opcode.specs.Groups.{is_act}
use Rattle.sb_opcode.specs.Records.{opcode_of}
use Rattle.sb_opcode.specs.Walking.{walk, standing_of, is_failed, Between}
use Rattle.sb_opcode.proofs.PassLemmas.{walk_step, walk_passed}
use Rattle.sb_opcode.proofs.walks.walk.Goals as goal

pub loop-opcode-smaller-then-is_failed : goal.loop-opcode-smaller-then-is_failed
loop-opcode-smaller-then-is_failed c = omega (arith, c.pass_rule.ensures.shorter, ap length c.in-Some.ensures)

pub loop-opcode-preserved-then-is_failed : goal.loop-opcode-preserved-then-is_failed
loop-opcode-preserved-then-is_failed c =
    let args = c.args.args.now in
    let s = standing_of c.loop-opcode.state in
    let t = standing_of c.step-state.result in
    let op = opcode_of c.in-Some.opcode in
    let mid = c.next_record.new.self in
    let whole = walk args Between c.records-records.result in
    let plain : is_act op ≡ false = search rules in
    let failed : is_failed t ≡ true = search rules in (
      walk_passed args t mid c.pass_rule.new.records whole failed c.pass_rule.ensures.rest
          (walk_step args s t op c.loop-opcode.records mid whole c.in-Some.ensures plain c.step-state.ensures c.loop-opcode.invariant.0),
      refl,
    )
