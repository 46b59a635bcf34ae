use Rattle.sb_cover.proofs.TextLemmas.{leads_none, stands_none}
use Rattle.sb_cover.proofs.text_machines.TextMachineMachine.next.Goals as goal

pub returns-in_ok-next-in-None-clause-leads : goal.returns-in_ok-next-in-None-clause-leads
returns-in_ok-next-in-None-clause-leads c = λ word like before.
    leads_none c.args.self.now.table.now.conds.items c.args.self.now.table.now.patterns.items c.args.self.now.questions.now c.args.self.now.first word c.numbers.result.now c.args.state.now
    c.in_ok-next-in-None.next c.args.letter c.in-None.ensures.cases c.numbers.ensures c.in_ok-next-in-None.ensures before

pub returns-in_ok-next-in-None-clause-stands : goal.returns-in_ok-next-in-None-clause-stands
returns-in_ok-next-in-None-clause-stands c = λ word unit like before.
    stands_none c.args.self.now.table.now.conds.items c.args.self.now.table.now.patterns.items c.args.self.now.questions.now c.args.self.now.first word c.numbers.result.now c.args.state.now
    c.in_ok-next-in-None.next unit c.in-None.ensures.cases c.numbers.ensures c.in_ok-next-in-None.ensures before
