use Rattle.std.proofs.Common.{rules, ◌≡◌, ◌∙◌, ◌<◌, drop, length, ap, sym, subst, true, [], arith}
use Rattle.std.proofs.lemmas.List.{get_or_read}
use Rattle.std.specs.Prelude.{None, slice_index_or}
use Rattle.sb_opcode.specs.Faults.{fault_of}
use Rattle.sb_opcode.specs.Groups.{rules_of}
use Rattle.sb_opcode.specs.Meaning.{rule_verdict}
use Rattle.sb_opcode.specs.Packing.{packed}
use Rattle.sb_opcode.specs.Unpacking.{opcodes_of}
use Rattle.sb_opcode.specs.WholeGroups.{is_whole_rule}
use Rattle.sb_opcode.proofs.RuleLemmas.{begins, rule_says, rule_whole}
use Rattle.sb_opcode.proofs.rules.RuleCodes.rule_says.Goals as goal

pub returns-clause-says : goal.returns-clause-says
returns-clause-says c =
    let code = c.self.inside.code in
    let ops = code.code in
    let args = c.args.args.now in
    let number = c.args.number in
    let words = c.words-words.result.now in
    let places = c.self.inside.places.items in
    let rest = c.words_from.result.now in
    let same_code : c.code.result.now ≡ ops = search rules in
    let sound : fault_of code.tag ops ≡ None = search rules in
    let within : number < length (rules_of ops) = subst (λ v. number < length (rules_of v.code)) (sym c.self.view_is) c.requires in
    let there : number < length places = omega (arith, within, c.self.invariant.0) in
    let are : words ≡ packed ops = c.words-words.ensures.words ∙ ap packed same_code in
    let back : opcodes_of words ≡ ops = c.words-words.ensures.opcodes ∙ same_code in
    let same : rest ≡ drop (slice_index_or places number 0) words =
    c.words_from.ensures ∙ ap (λ p. drop p words) (get_or_read places number c.index-place.result.now there c.index-place.ensures 0) in
    let tail = begins ops words rest places number 0 are back c.self.invariant.1 there same in
    subst (λ v. c.walk_first_rule.result ≡ rule_verdict args (slice_index_or (rules_of v.code) number [])) c.self.view_is
    (c.walk_first_rule.ensures
    ∙ rule_says c.faultless_codes_are_whole.ensures.parts c.faultless_codes_are_whole.ensures.whole code.tag ops args number (opcodes_of rest) sound within tail)

pub returns-clause-whole : goal.returns-clause-whole
returns-clause-whole c =
    let code = c.self.inside.code in
    let number = c.args.number in
    let sound : fault_of code.tag code.code ≡ None = search rules in
    let within : number < length (rules_of code.code) = subst (λ v. number < length (rules_of v.code)) (sym c.self.view_is) c.requires in
    subst (λ v. is_whole_rule (slice_index_or (rules_of v.code) number []) ≡ true) c.self.view_is
    (rule_whole (rules_of code.code) number [] ((c.faultless_codes_are_whole.ensures.whole code.tag code.code).0 sound).1 within)
