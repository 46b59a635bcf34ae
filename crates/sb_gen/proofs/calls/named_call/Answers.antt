use Rattle.std.proofs.Common.{◌∙◌, ◌++◌, ◌∷◌, [], List, ap, get_or, map, sym, take}
use Rattle.std.proofs.lemmas.List.{map-append, take_more}
use Rattle.sb_call.specs.declared.arguments.Arg.{Arg}
use Rattle.sb_call.specs.declared.arguments.Arg.TheVariants.{Num, Str}
use Rattle.sb_gen.proofs.calls.named_call.Goals as goal

pub loop-number-preserved : goal.loop-number-preserved
loop-number-preserved c =
    let numbers = c.args.numbers.now in
    let i = c.loop-number.number-index in
    let number = get_or numbers i 0 in
    c.in_ok-push-2.ensures.items ∙ ap (λ (args : List Arg). args ++ Num number ∷ []) c.loop-number.invariant
    ∙ ap (λ (args : List Arg). Str c.args.name ∷ args) (sym (ap (map Num) (take_more numbers i 0 c.loop-number-test.true) ∙ map-append Num (take i numbers) (number ∷ [])))
