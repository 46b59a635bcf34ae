use Rattle.std.proofs.Common.{rules, ◌≡◌, ◌∙◌, ap, Ok}
use Rattle.sb_call.specs.Arguments.{fits}
use Rattle.sb_call.specs.Tags.{shape_of}
use Rattle.sb_scripttext.proofs.Fitting.{read_arguments_fit}
use Rattle.sb_scripttext.specs.Arguments.{args_at}
use Rattle.sb_scripttext.proofs.arguments.call.Goals as goal

pub has_small_block-requires : goal.has_small_block-requires
has_small_block-requires c =
    let tag = c.in_ok-tag.tag in
    let read : args_at (shape_of tag) c.tag_at.new.tokens ≡ Ok (c.in_ok-args.args, c.args_at.new.tokens) = search rules in
    let same : c.as_slice.result.now ≡ c.in_ok-args.args = search rules in
    ap (λ args. fits tag args) same ∙ read_arguments_fit tag c.tag_at.new.tokens c.args_at.new.tokens c.in_ok-args.args read
