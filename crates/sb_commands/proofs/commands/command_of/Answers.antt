use Rattle.std.proofs.Common.{rules, ◌≡◌, ◌∙◌, sym, ap, subst, length, ◌∷◌, Some, Ok, Err, string_bytes}
use Rattle.std.specs.Prelude.{suc}
use Rattle.std.proofs.lemmas.List.{length-map}
use Rattle.sb_commands.specs.Commands.{IsCommandOf, command_of}
use Rattle.sb_commands.specs.Forms.{form_by, form_of}
use Rattle.sb_commands.specs.Usage.{IsTested, fault_of, read_after, texts}
use Rattle.sb_commands.proofs.TakenWords.{command_is_found, tested_are_command, tested_are_fault}
use Rattle.sb_commands.proofs.commands.command_of.Goals as goal

-- arguments that were tested are a command
pub invariant_of-result : goal.invariant_of-result
invariant_of-result c =
    let split : c.args.words.now ≡ c.in-Some.name.now ∷ c.in-Some.later.now = search rules in
    let listed : form_by (string_bytes c.in-Some.name.now) ≡ Some (form_of c.in-Some-form_by.form) = search rules in
    let tested : IsTested (read_after (form_of c.in-Some-form_by.form) (length c.args.words.now) (texts c.in-Some.later.now)) (Ok c.in-Ok.field-0) = search rules in
    subst (λ ws. IsCommandOf (form_of c.in-Some-form_by.form) (texts ws)) (sym split)
    (tested_are_command (string_bytes c.in-Some.name.now) (form_of c.in-Some-form_by.form) (length c.args.words.now) (texts c.in-Some.later.now) c.in-Ok.field-0 listed
    (ap length split ∙ ap suc (sym (length-map c.in-Some.later.now string_bytes))) tested)

-- which is this one
pub returns-in-Ok : goal.returns-in-Ok
returns-in-Ok c =
    let split : c.args.words.now ≡ c.in-Some.name.now ∷ c.in-Some.later.now = search rules in
    let listed : form_by (string_bytes c.in-Some.name.now) ≡ Some (form_of c.in-Some-form_by.form) = search rules in
    let tested : IsTested (read_after (form_of c.in-Some-form_by.form) (length c.args.words.now) (texts c.in-Some.later.now)) (Ok c.in-Ok.field-0) = search rules in
    let is : IsCommandOf (form_of c.in-Some-form_by.form) (texts c.args.words.now) = subst (λ ws. IsCommandOf (form_of c.in-Some-form_by.form) (texts ws)) (sym split)
    (tested_are_command (string_bytes c.in-Some.name.now) (form_of c.in-Some-form_by.form) (length c.args.words.now) (texts c.in-Some.later.now) c.in-Ok.field-0 listed
    (ap length split ∙ ap suc (sym (length-map c.in-Some.later.now string_bytes))) tested) in
    record { exact = command_is_found (form_of c.in-Some-form_by.form) (texts c.args.words.now) is }

-- the first fault
pub returns-in-Err : goal.returns-in-Err
returns-in-Err c =
    let split : c.args.words.now ≡ c.in-Some.name.now ∷ c.in-Some.later.now = search rules in
    let listed : form_by (string_bytes c.in-Some.name.now) ≡ Some (form_of c.in-Some-form_by.form) = search rules in
    let tested : IsTested (read_after (form_of c.in-Some-form_by.form) (length c.args.words.now) (texts c.in-Some.later.now)) (Err c.in-Err.fault) = search rules in
    record {
      exact = subst (λ ws. command_of (texts ws) ≡ Err (fault_of c.in-Err.fault)) (sym split)
          (tested_are_fault (string_bytes c.in-Some.name.now) (form_of c.in-Some-form_by.form) (length c.args.words.now) (texts c.in-Some.later.now) c.in-Err.fault listed
          (ap length split ∙ ap suc (sym (length-map c.in-Some.later.now string_bytes))) tested);
    }
