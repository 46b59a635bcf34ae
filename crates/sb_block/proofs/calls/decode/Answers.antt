use Rattle.std.proofs.Common.{◌≡◌, ◌∙◌, sym}
use Rattle.sb_block.specs.Calls.{arguments_in}
use Rattle.sb_block.proofs.FaultLemmas.{faultless_copies_fit}
use Rattle.sb_block.proofs.calls.decode.Goals as goal

pub returns-clause-fits : goal.returns-clause-fits
returns-clause-fits c =
    let args : c.in_ok-arguments_in.field-0 ≡ arguments_in c.descriptors.result.now c.words-words.result.now = c.in_ok-arguments_in.ensures in
    rw (c.tag_in.ensures, args, c.descriptors.ensures.value, c.words-words.ensures.value)
    (faultless_copies_fit c.args.copy.now (sym c.fault_of.ensures ∙ c.in_default.is))
