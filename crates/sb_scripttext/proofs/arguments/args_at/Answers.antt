use Rattle.std.proofs.Common.{rules, ◌≡◌, sym, ap, ◌∙◌, [], ◌∷◌, List}
use Rattle.std.proofs.lemmas.Result.{err_from_is_err_and}
use Rattle.sb_call.specs.declared.arguments.Arg.{Arg}
use Rattle.sb_scripttext.specs.Arguments.{args_at}
use Rattle.sb_scripttext.proofs.Reading.{empty, with_args, args_none, args_refused, args_before, args_more}
use Rattle.sb_scripttext.proofs.arguments.args_at.Goals as goal

pub returns-in_err-arg_at : goal.returns-in_err-arg_at
returns-in_err-arg_at c =
    let p = err_from_is_err_and c.from_residual.result c.from_residual.ensures.1 in
    let front : c.loop-kind.left.now ≡ c.in-Some.kind.now ∷ c.in-Some.more.now = search rules in
    let kept = sym (ap (λ kinds. with_args c.loop-kind.args (args_at kinds c.loop-kind.tokens)) front) ∙ c.loop-kind.invariant in
    rw (p.1, p.2) (args_refused c.loop-kind.args c.in-Some.kind.now c.in-Some.more.now c.loop-kind.tokens c.arg_at.new.tokens c.arg_at.new.tokens
    (args_at c.args.kinds.now c.args.tokens.now) c.in_err-arg_at.field-0.0 kept c.in_err-arg_at.ensures)

pub returns : goal.returns
returns c =
    let none : c.loop-kind.left.now ≡ [] = empty c.loop-kind.left.now (search rules) in
    sym c.loop-kind.invariant ∙ ap (λ kinds. with_args c.loop-kind.args (args_at kinds c.loop-kind.tokens)) none ∙ args_none c.loop-kind.args c.loop-kind.tokens

pub loop-kind-init : goal.loop-kind-init
loop-kind-init c =
    ap (λ (done : List Arg). with_args done (args_at c.args.kinds.now c.args.tokens.now)) (c.new-args.ensures ∙ c.in-Ok.ensures.items)
    ∙ args_before (args_at c.args.kinds.now c.args.tokens.now)

pub loop-kind-preserved : goal.loop-kind-preserved
loop-kind-preserved c =
    let front : c.loop-kind.left.now ≡ c.in-Some.kind.now ∷ c.in-Some.more.now = search rules in
    let kept = sym (ap (λ kinds. with_args c.loop-kind.args (args_at kinds c.loop-kind.tokens)) front) ∙ c.loop-kind.invariant in
    ap (λ (done : List Arg). with_args done (args_at c.in-Some.more.now c.arg_at.new.tokens)) c.in_ok-push.ensures.ok
    ∙ sym (args_more c.loop-kind.args c.in-Some.kind.now c.in-Some.more.now c.loop-kind.tokens c.in_ok-arg_at.field-0 c.arg_at.new.tokens c.in_ok-arg_at.ensures)
    ∙ kept
