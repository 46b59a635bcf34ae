use Rattle.std.proofs.Common.{rules, ◌≡◌, ◌∙◌, true, false, sym, ap}
use Rattle.std.specs.List.{list_all}
use Rattle.sb_opcode.specs.Faults.{fault_of}
use Rattle.sb_opcode.specs.Packing.{packed, is_sized}
use Rattle.sb_opcode.specs.Unpacking.{is_packed, opcodes_of}
use Rattle.sb_opcode.proofs.PackingLemmas.{packing_of_opcodes, opcodes_sized, not_packing}
use Rattle.sb_opcode.proofs.verified.verify_words.Goals as goal

pub returns-then-not-is_packed : goal.returns-then-not-is_packed
returns-then-not-is_packed c =
    let none : is_packed c.args.words.items ≡ false = search rules in
    (not_packing c.args.words.items none, c.new.ensures)

pub returns-in-Ok : goal.returns-in-Ok
returns-in-Ok c =
    let tag = c.args.tag in
    let words = c.args.words.items in
    let some : is_packed words ≡ true = search rules in
    let ensured = c.in-Ok.ensures in
    let code = ensured.2 ∙ c.code_of.ensures in (
      ap packed code ∙ packing_of_opcodes words some,
      ap (list_all is_sized) code ∙ opcodes_sized words some,
      ap (fault_of tag) ensured.2 ∙ ensured.0,
      ensured.1,
    )

pub returns-in-Err : goal.returns-in-Err
returns-in-Err c =
    let tag = c.args.tag in
    let words = c.args.words.items in
    let some : is_packed words ≡ true = search rules in
    let code = c.code_of.ensures in
    let ensured = c.in-Err.ensures in (
      (opcodes_of words, opcodes_sized words some, packing_of_opcodes words some, ap (fault_of tag) (sym code) ∙ ensured.0),
      c.new-in-Err.ensures ∙ c.into_words.ensures ∙ ap packed (ensured.1 ∙ code) ∙ packing_of_opcodes words some,
    )
