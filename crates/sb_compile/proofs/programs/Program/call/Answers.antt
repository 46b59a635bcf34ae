use Rattle.std.specs.Prelude.{None, Some, slice_index_or}
use Rattle.std.proofs.Common.{rules, ◌≡◌, ◌∙◌, ◌-◌, true, ap, sym}
use Rattle.sb_call.specs.Tags.{number_of}
use Rattle.sb_compile.specs.Compiling.{code_in}
use Rattle.sb_compile.specs.Programs.{code_in_call, is_for_tag}
use Rattle.sb_compile.proofs.Calls.{call_for, code_at}
use Rattle.sb_compile.proofs.Verdicts.{same_tag}
use Rattle.sb_compile.proofs.programs.Program.call.Goals as goal

pub returns-in-Some-Some : goal.returns-in-Some-Some
returns-in-Some-Some c =
    let tag = c.args.tag in
    let calls = c.self.inside.calls.items in
    let there : slice_index_or calls (number_of tag - 1) None ≡ Some c.in-Some-Some.call = search rules in
    let same : is_for_tag tag (Some c.in-Some-Some.call) ≡ true = ap (is_for_tag tag) (sym there) ∙ call_for calls tag c.self.invariant in (
      ap code_in_call (sym there) ∙ sym (code_at calls (number_of tag - 1)) ∙ ap (λ program. code_in program tag) c.self.view_is,
      same_tag c.tags_and_numbers.ensures.tags c.in-Some-Some.call.tag tag same,
    )

pub returns-in_default : goal.returns-in_default
returns-in_default c =
    let tag = c.args.tag in
    let calls = c.self.inside.calls.items in
    let none : slice_index_or calls (number_of tag - 1) None ≡ None = search rules in
    sym (ap (λ program. code_in program tag) c.self.view_is) ∙ code_at calls (number_of tag - 1) ∙ ap code_in_call none
