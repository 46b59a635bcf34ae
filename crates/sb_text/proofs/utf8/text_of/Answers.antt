use Rattle.std.proofs.Common.{arith}
use Rattle.std.proofs.lemmas.Bool.Decides.{nat_tests}
use Rattle.std.proofs.lemmas.Str.{utf8_valid_len-IsUtf8}
use Rattle.sb_text.proofs.utf8.text_of.Goals as goal

pub returns-in-Ok : goal.returns-in-Ok
returns-in-Ok c =
    let e = utf8_valid_len-IsUtf8 c.args.bytes.now c.in-Ok.ensures.cases.1 in
    grind (arith, nat_tests)
