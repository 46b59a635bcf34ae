use Rattle.std.proofs.Common.{◌∙◌, ◌++◌, ◌∷◌, [], List, ℕ, ap, get_or, sym}
use Rattle.std.proofs.lemmas.List.{take_more}
use Rattle.sb_gen.proofs.names.ascii.Goals as goal

pub loop-byte-preserved : goal.loop-byte-preserved
loop-byte-preserved c =
    c.in_ok-push.ensures.items ∙ ap (λ (unit : ℕ). c.loop-byte.units.items ++ unit ∷ []) c.from.ensures
    ∙ ap (λ (units : List ℕ). units ++ get_or c.args.text.now c.loop-byte.byte-index 0 ∷ []) c.loop-byte.invariant
    ∙ sym (take_more c.args.text.now c.loop-byte.byte-index 0 c.loop-byte-test.true)
