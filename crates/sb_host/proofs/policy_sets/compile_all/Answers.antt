use Rattle.std.proofs.Common.{rules, ◌≡◌, ◌∙◌, ◌<◌, ◌∷◌, ◌++◌, [], ap, length, map, slice_index_or}
use Rattle.sb_compile.specs.Compiling.{program_of}
use Rattle.sb_host.proofs.Standing.{next_compiled}
use Rattle.sb_host.proofs.policy_sets.compile_all.Goals as goal

pub loop-policy-preserved : goal.loop-policy-preserved
loop-policy-preserved c =
    let policies = c.args.policies.now.list in
    let before = c.loop-policy.items.items in
    let policy = c.in-Some.policy in
    let counted : c.len.result ≡ length before = search rules in
    let inside : length before < length policies = search rules in
    let pushed : c.push.new.self.items ≡ before ++ program_of policy ∷ [] =
    c.in_ok-push.ensures.items ∙ ap (λ program. before ++ program ∷ []) c.in_ok-compile.ensures in
    next_compiled policies before c.push.new.self.items (map program_of policies) policy inside
    (c.in-Some.ensures.1 policy ∙ ap (λ n. slice_index_or policies n policy) counted) pushed c.loop-policy.invariant.0
