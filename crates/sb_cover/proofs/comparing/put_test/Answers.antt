use Rattle.std.specs.List.{list_any}
use Rattle.std.specs.Prelude.{bit_and}
use Rattle.std.proofs.Common.{◌≡◌, eqb, subst, sym}
use Rattle.sb_call.specs.declared.arguments.Arg.TheVariants as arg
use Rattle.sb_rule.specs.Verdicts.{test_holds}
use Rattle.sb_cover.proofs.comparing.put_test.Goals as goal

pub returns-in_ok-put_numbers-in-OneOf-clause-tells : goal.returns-in_ok-put_numbers-in-OneOf-clause-tells
returns-in_ok-put_numbers-in-OneOf-clause-tells c = λ a b alike.
    let mask = c.args.mask in
    let told = subst (λ l. list_any (λ n. eqb n (bit_and a mask)) l ≡ list_any (λ n. eqb n (bit_and b mask)) l) c.deref.ensures (c.in_ok-put_numbers-in-OneOf.ensures.tells a b alike) in
    subst (λ t. test_holds t (arg.Num (bit_and a mask)) ≡ test_holds t (arg.Num (bit_and b mask))) (sym c.in-OneOf.is) told
