use Rattle.std.proofs.Common.{◌∙◌, ◌++◌, ◌∷◌, [], subst, sym}
use Rattle.sb_cover.specs.Bits.{IsRead}
use Rattle.sb_cover.proofs.BitLemmas.{read_like}
use Rattle.sb_cover.proofs.bits.BitMachineMachine.next.Goals as goal

pub returns-in_ok-next-in-Some-clause-stands : goal.returns-in_ok-next-in-Some-clause-stands
returns-in_ok-next-in-Some-clause-stands c = λ word unit like read.
    let comparisons = c.args.self.now.comparisons.items in
    let width = c.args.self.now.width in
    read_like comparisons width unit c.args.letter word c.in_ok-next-in-Some.next like
    (subst (λ l. IsRead l width (word ++ c.args.letter ∷ []) c.in_ok-next-in-Some.next) c.deref.ensures.value
    (c.in_ok-next-in-Some.ensures width word c.args.self.now.narrow
    (subst (λ l. IsRead l width word (c.in-Some.left.now ∷ c.in-Some.codes.now)) (sym c.deref.ensures.value) (subst (IsRead comparisons width word) (sym c.numbers.ensures ∙ c.in-Some.ensures.cases.0) read))))
