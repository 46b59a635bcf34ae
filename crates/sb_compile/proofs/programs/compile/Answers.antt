use Rattle.std.proofs.Common.{rules, ◌≡◌, ◌∙◌, ◌+◌, ◌<◌, ◌∷◌, ◌++◌, [], ap, get_or, length, map, sym, take}
use Rattle.std.proofs.lemmas.List.{map-append, take_more}
use Rattle.sb_call.specs.declared.tags.CallTag.TheVariants.{Ping}
use Rattle.sb_compile.specs.Compiling.{code_of}
use Rattle.sb_compile.specs.Programs.{code_in_call, are_for}
use Rattle.sb_compile.proofs.Calls.{pushed_for}
use Rattle.sb_compile.proofs.programs.compile.Goals as goal

pub loop-tag-preserved : goal.loop-tag-preserved
loop-tag-preserved c =
    let tags = c.every_tag-tag-items.result.now in
    let at = c.loop-tag.tag-index in
    let tag = get_or tags at Ping in
    let calls = c.loop-tag.calls.items in
    let call = c.in_ok-compile_call.field-0 in
    let code = code_of c.args.policy.now.rules in
    let inside : at < length tags = search rules in
    let more : take (at + 1) tags ≡ take at tags ++ tag ∷ [] = take_more tags at Ping inside in
    let pushed = c.in_ok-push.ensures.items in (
      ap (map code_in_call) pushed
          ∙ map-append code_in_call calls (call ∷ [])
          ∙ (λ i. c.loop-tag.invariant.0 i ++ c.in_ok-compile_call.ensures.code i ∷ [])
          ∙ sym (map-append code (take at tags) (tag ∷ []))
          ∙ ap (map code) (sym more),
      (λ i. are_for (more i) (pushed i)) ∙ pushed_for (take at tags) calls tag call c.loop-tag.invariant.1 c.in_ok-compile_call.ensures.tag,
    )
