use Rattle.std.proofs.Common.{◌≡◌, ◌∙◌, ◌<◌, List, ap, map, subst, sym, length, arith}
use Rattle.std.specs.List.{All}
use Rattle.sb_run.specs.Servers.{IsServer, ServerAt}
use Rattle.sb_run.specs.Started.{StartedServerAt}
use Rattle.sb_run.proofs.Firsts.{first_at, firsts_set}
use Rattle.sb_run.proofs.groups.serve_with_each.Goals as goal

abbrev first : StartedServerAt → ServerAt
first s = s.first

pub serve-requires-after_bounds : goal.serve-requires-after_bounds
serve-requires-after_bounds g c κs within =
    let same = ap length c.loop-at.invariant in
    let more = c.loop-at-test.true in
    let end = c.len-at-end.ensures in
    let all = subst (λ (l : List StartedServerAt). All (IsServer c.args.context.now) (map first l)) (sym c.loop-at.invariant) c.requires in
    subst (λ (s : StartedServerAt). IsServer c.args.context.now s.first) (sym c.index_mut.ensures.value)
    (first_at first (IsServer c.args.context.now) c.loop-at.servers.items c.loop-at.at c.index_mut.result.now (omega (arith, same, more, end)) all)

pub returns-in_err-serve-clause-first : goal.returns-in_err-serve-clause-first
returns-in_err-serve-clause-first g c =
    firsts_set first c.loop-at.servers.items c.loop-at.at c.index_mut.result.now c.serve.new.self c.index_mut.ensures.value c.serve.ensures.first ∙ ap (map first) c.loop-at.invariant
