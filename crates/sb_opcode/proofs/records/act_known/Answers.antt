use Rattle.std.specs.Prelude.{slice_index_or}
use Rattle.std.proofs.Common.{rules, ◌≡◌}
use Rattle.sb_opcode.proofs.RuleLemmas.{act_says}
use Rattle.sb_opcode.proofs.records.act_known.Goals as goal

pub returns-in-len4-up : goal.returns-in-len4-up
returns-in-len4-up c args =
    let words = c.args.words.now in
    let head : slice_index_or words 0 0 ≡ 6 = search rules in
    act_says words args c.line_known.result c.action_known.result c.in-len4-up.len_at_least head c.line_known.ensures
    c.action_known.ensures c.requires
