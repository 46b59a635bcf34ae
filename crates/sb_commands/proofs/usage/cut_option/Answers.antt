use Rattle.std.proofs.Common.{rules, ◌≡◌, ◌∷◌, false, sym, subst, map, Some, Ok, Err, string_bytes}
use Rattle.sb_commands.specs.Forms.{choice_of}
use Rattle.sb_commands.specs.Usage.{IsCut, cut_option, cut_value, fault_of, is_given, left_of, option_of, texts, with_given}
use Rattle.sb_commands.proofs.OptionSteps.{cut_made, cut_refused, handed}
use Rattle.sb_commands.proofs.usage.cut_option.Goals as goal

-- its number is wrong
pub returns-in_err-left-in-Some-option_of : goal.returns-in_err-left-in-Some-option_of
returns-in_err-left-in-Some-option_of c = λ g same.
    let options = map choice_of c.args.options.now in
    let word = string_bytes c.in-Some.word.now in
    let later = texts c.in-Some.later.now in
    let n = c.in-Some-option_of.number in
    let choice = choice_of c.in-Some-option_of.option in
    let fault = c.in_err-left-in-Some-option_of.field-0.0 in
    let split : c.args.words.now ≡ c.in-Some.word.now ∷ c.in-Some.later.now = search rules in
    let found : option_of options word ≡ Some (n, choice) = search rules in
    let new : is_given n c.args.given ≡ false = search rules in
    let is : left_of (cut_value choice c.args.total word later) ≡ Err (fault_of fault) = search rules in
    handed (cut_option options g c.args.total (texts c.args.words.now)) c.from_residual.result fault c.from_residual.ensures.1
    (subst (λ ws. IsCut (cut_option options g c.args.total (texts ws)) (Err fault)) (sym split)
    (cut_refused options g c.args.total word later n choice fault found (subst (λ f. is_given n f ≡ false) (sym same) new) is))

-- it is cut
pub returns-in_ok-left-in-Some-option_of : goal.returns-in_ok-left-in-Some-option_of
returns-in_ok-left-in-Some-option_of c = λ g same.
    let options = map choice_of c.args.options.now in
    let word = string_bytes c.in-Some.word.now in
    let later = texts c.in-Some.later.now in
    let n = c.in-Some-option_of.number in
    let choice = choice_of c.in-Some-option_of.option in
    let left = c.in_ok-left-in-Some-option_of.left in
    let split : c.args.words.now ≡ c.in-Some.word.now ∷ c.in-Some.later.now = search rules in
    let found : option_of options word ≡ Some (n, choice) = search rules in
    let new : is_given n c.args.given ≡ false = search rules in
    let is : left_of (cut_value choice c.args.total word later) ≡ Ok (texts left.now) = search rules in
    let flags : c.with.result ≡ with_given n c.args.given = search rules in
    subst (λ ws. IsCut (cut_option options g c.args.total (texts ws)) (Ok (c.with.result, left))) (sym split)
    (cut_made options g c.args.total word later n choice c.with.result left found (subst (λ f. is_given n f ≡ false) (sym same) new) is
    (subst (λ f. c.with.result ≡ with_given n f) (sym same) flags))
