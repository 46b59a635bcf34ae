use Rattle.std.proofs.Common.{◌≡◌, ◌∙◌, subst, sym, ap, true, List, ◌++◌}
use Rattle.std.specs.List.{list_all}
use Rattle.sb_statements.specs.PlacedStatements.{Placed, placed as seen}
use Rattle.sb_local.specs.Denials.{can_be_judged, denial_in, denials_in}
use Rattle.sb_local.specs.declared.denials.LocalDenial.{LocalDenial}
use Rattle.sb_local.proofs.Denied.{can_be_judged_first, judged_step, on_err, some_denied}
use Rattle.sb_local.proofs.denials.denials_in.Goals as goal

pub returns-in_err-note_denial-clause-memory : goal.returns-in_err-note_denial-clause-memory
returns-in_err-note_denial-clause-memory g c =
    let policies = g.J.Judge.policies c.args.judge.now in
    let all = denials_in policies c.args.statements in
    let denied = c.loop-first.denied in
    let left = subst (λ (ps : List Placed). denied ++ denials_in policies ps ≡ all) c.in-Some.ensures c.loop-first.invariant.0 in
    on_err _ c.from_residual.result (some_denied policies all denied (seen c.in-Some.first) c.in-Some.later left c.in_err-note_denial.ensures.err)

pub loop-first-preserved : goal.loop-first-preserved
loop-first-preserved g c =
    let policies = g.J.Judge.policies c.args.judge.now in
    let all = denials_in policies c.args.statements in
    let denied = c.loop-first.denied in
    let first = seen c.in-Some.first in
    let later = c.in-Some.later in
    let left = subst (λ (ps : List Placed). denied ++ denials_in policies ps ≡ all) c.in-Some.ensures c.loop-first.invariant.0 in
    let judged = subst (λ (ps : List Placed). list_all (can_be_judged policies) ps ≡ true) c.in-Some.ensures c.loop-first.invariant.1 in (
      ap (λ (ds : List LocalDenial). ds ++ denials_in policies later) c.in_ok-note_denial.ensures.ok ∙ (sym (judged_step policies denied first later) ∙ left),
      (can_be_judged_first policies first later judged).2,
    )
