use Rattle.std.specs.Prelude.{IfSome}
use Rattle.std.proofs.Common.{◌≡◌, ◌<◌, ◌^◌, [], ℕ, length, subst}
use Rattle.sb_call.specs.declared.arguments.Arg.TheVariants as arg
use Rattle.sb_cover.specs.AskedConds.{met}
use Rattle.sb_cover.specs.Bits.{AreBelow, AreNumbers, CompareAlike}
use Rattle.sb_cover.specs.Choices.{AreNumbersPicked}
use Rattle.sb_cover.specs.Pruning.{AgreeWhereNeeded}
use Rattle.sb_cover.proofs.NumberLemmas.{pow_up}
use Rattle.sb_cover.proofs.NumberPickLemmas.{numbers_are_choices, unknown}
use Rattle.sb_cover.proofs.number_picking.number_choices.Goals as goal

pub pick_all-requires : goal.pick_all-requires
pick_all-requires c = λ f g agree.
    c.in_ok-needed.ensures f g (unknown c.unknown-signs.result.fails.items c.unknown-signs.result.holds.items f c.unknown-signs.ensures.fails c.unknown-signs.ensures.holds)
    (subst (λ l. AgreeWhereNeeded l f g) c.deref-4.ensures.value agree)

pub returns-clause-all : goal.returns-clause-all
returns-clause-all c =
    let conds = c.args.table.now.conds.items in
    let needed = c.in_ok-needed.needed.items in
    let questions = c.args.questions.now in
    let comparisons = c.in_ok-comparisons.comparisons.items in
    let numbers = c.in-Some.numbers.items in
    let picked = c.in_ok-picked.picked in
    let agree : (a b : ℕ) → a < 2 ^ 64 → b < 2 ^ 64 → CompareAlike comparisons a b → AgreeWhereNeeded needed (met conds (arg.Num a)) (met conds (arg.Num b)) =
    subst (λ l. (a b : ℕ) → a < 2 ^ 64 → b < 2 ^ 64 → CompareAlike comparisons a b → AgreeWhereNeeded needed (met l (arg.Num a)) (met l (arg.Num b))) c.deref.ensures.value
    (subst (λ l. (a b : ℕ) → a < 2 ^ 64 → b < 2 ^ 64 → CompareAlike comparisons a b → AgreeWhereNeeded l (met c.deref.result.now (arg.Num a)) (met c.deref.result.now (arg.Num b)))
    c.deref-2.ensures.value c.in_ok-comparisons.ensures) in
    let all : AreNumbers comparisons c.args.width numbers = subst (λ o. IfSome o (λ v. AreNumbers comparisons c.args.width v.items)) c.in-Some.is c.in_ok-numbers.ensures.all in
    let below : AreBelow (2 ^ c.args.width) numbers = subst (λ o. IfSome o (λ v. AreBelow (2 ^ c.args.width) v.items)) c.in-Some.is c.in_ok-numbers.ensures.below in
    let kept : AreNumbersPicked conds questions numbers (length numbers) picked.values.items picked.labels.keys =
    subst (λ l. AreNumbersPicked l questions numbers (length numbers) picked.values.items picked.labels.keys) c.deref-3.ensures.value
    (subst (λ l. AreNumbersPicked c.deref-3.result.now questions l (length l) picked.values.items picked.labels.keys) c.deref-5.ensures.value c.in_ok-picked.ensures) in
    numbers_are_choices conds needed questions comparisons c.args.width numbers picked.values.items picked.labels.keys (pow_up c.args.width 64 c.requires)
    (λ f g agrees. c.in_ok-needed.ensures f g (unknown c.unknown-signs.result.fails.items c.unknown-signs.result.holds.items f c.unknown-signs.ensures.fails c.unknown-signs.ensures.holds) agrees)
    agree below all kept
