use Rattle.std.proofs.Common.{◌≡◌, ◌∙◌, ◌∷◌, subst, sym}
use Rattle.sb_cover.specs.TextMachines.{IsLike}
use Rattle.sb_cover.proofs.TextLemmas.{letter_none}
use Rattle.sb_cover.proofs.text_machines.TextMachineMachine.letters.Goals as goal

pub returns-in_ok-letters-in-Some-clause-all : goal.returns-in_ok-letters-in-Some-clause-all
returns-in_ok-letters-in-Some-clause-all c = λ unit.
    let l = c.in_ok-letters-in-Some.ensures unit in
    let whole : c.numbers.result.now ≡ c.in-Some.mode.now ∷ c.in-Some.positions.now = c.in-Some.ensures.cases.0 in
    (l.0, l.1, subst (λ s. IsLike c.args.self.now.table.now.patterns.items s unit l.0) (sym whole ∙ c.numbers.ensures) l.2)

pub returns-in_ok-letters-in-None-clause-all : goal.returns-in_ok-letters-in-None-clause-all
returns-in_ok-letters-in-None-clause-all c =
    letter_none c.args.self.now.table.now.patterns.items c.in_ok-letters-in-None.letters.items c.numbers.result.now c.args.state.now c.in-None.ensures.cases c.numbers.ensures
    c.in_ok-letters-in-None.ensures
