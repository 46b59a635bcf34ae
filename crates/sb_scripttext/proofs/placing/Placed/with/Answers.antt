use Rattle.std.proofs.Common.{rules, ◌≡◌, ◌∙◌, ◌<◌, ap, subst, sym, true, length}
use Rattle.std.specs.Prelude.{is_some}
use Rattle.sb_kernel.specs.Openings.{placed, opened}
use Rattle.sb_statements.specs.Limits.{most_start_lines}
use Rattle.sb_scripttext.proofs.Opened.{opened_placed, room_made}
use Rattle.sb_scripttext.proofs.placing.Placed.with.Goals as goal

pub place-requires-clause-few : goal.place-requires-clause-few
place-requires-clause-few c =
    room_made c.openings_make_few.ensures c.self.inside.lines c.self.inside.kernel c.self.invariant
    (subst (λ lines. length lines < most_start_lines) (sym c.self.view_is) c.requires.few)

pub invariant_of-result : goal.invariant_of-result
invariant_of-result c =
    let can : is_some (placed c.self.inside.kernel c.args.line) ≡ true = search rules in
    ap opened c.in_ok-push.ensures.ok
    ∙ opened_placed c.self.inside.lines c.args.line c.self.inside.kernel c.place.new.self c.self.invariant can c.in_ok-place.ensures.ok
