use Rattle.sb_text.proofs.ReadingLaws.{refused_in_turn}
use Rattle.sb_text.proofs.reading.read_below.Goals as goal

pub returns-in-Err : goal.returns-in-Err
returns-in-Err g c =
    let grammar = g.G.TextGrammar.grammar c.args.grammar.now in
    let left = g.L.TextLines.left in
    refused_in_turn grammar c.args.version grammar.start c.loop-line.draft c.add.new.draft (left c.args.lines) (left c.loop-line.lines)
    (g.L.TextLines.numbered c.in-Some.line) (left c.next_line.new.self) c.in-Err.refused c.refuse.result
    c.loop-line.invariant c.in-Some.ensures.line c.in-Err.ensures c.refuse.ensures
