use Rattle.std.proofs.lemmas.List.{take_all}
use Rattle.std.proofs.Common.{rules, length, ◌≤◌, ◌+◌, ◌≡◌, ◌∙◌, ◌++◌, drop, sym, ap, take, subst, List, ℕ}
use Rattle.std.specs.Prelude.{OnErr}
use Rattle.sb_outside.specs.Outside.{GrowsByPrefix, GrowsUpTo, joined}
use Rattle.sb_outside.proofs.Prefixes.{fault_left, joined_at, joined_next, left_cut, prefix_cut}
use Rattle.sb_outside.proofs.sink.put_lines.Goals as goal

pub returns-in-Err-clause-prefix : goal.returns-in-Err-clause-prefix
returns-in-Err-clause-prefix g c =
    let written = g.S.Sink.written in
    let pending = g.S.Sink.pending in
    let lines = c.args.lines.now in
    let at = c.loop-line.line-index in
    let line = c.line-item.result in
    rw (joined_at lines at line c.loop-line-test.true c.line-item.is)
    (prefix_cut (written c.args.sink.now) (pending c.args.sink.now) (joined (take at lines)) (pending c.loop-line.sink) (written c.loop-line.sink) (written c.put.new.self)
    line (joined (drop (at + 1) lines)) c.loop-line.invariant.0 (rw c.as_slice.ensures at c.in-Err.ensures.prefix))

pub loop-line-preserved : goal.loop-line-preserved
loop-line-preserved g c =
    let written = g.S.Sink.written in
    let pending = g.S.Sink.pending in
    let lines = c.args.lines.now in
    let at = c.loop-line.line-index in
    let line = c.line-item.result in
    let before = joined (take at lines) in
    let more : joined (take (at + 1) lines) ≡ before ++ line = joined_next lines at line c.loop-line-test.true c.line-item.is in (
      subst (λ put. GrowsUpTo (written c.args.sink.now) (pending c.args.sink.now ++ put) (written c.put.new.self) (pending c.put.new.self)) (sym more)
          (left_cut (written c.args.sink.now) (pending c.args.sink.now) before (pending c.loop-line.sink) (written c.loop-line.sink) (written c.put.new.self)
          line (pending c.put.new.self) c.loop-line.invariant.0 (rw c.as_slice.ensures at c.in-Ok.ensures.ok)),
      c.in-Ok.ensures.ok_count ∙ c.loop-line.invariant.1,
    )

pub returns-clause-prefix : goal.returns-clause-prefix
returns-clause-prefix g c =
    let written = g.S.Sink.written in
    let pending = g.S.Sink.pending in
    let lines = c.args.lines.now in
    let end : length lines ≤ c.loop-line.line-index = search rules in
    let all : take c.loop-line.line-index lines ≡ lines = take_all c.loop-line.line-index lines end in
    fault_left c.finish.result (written c.args.sink.now) (pending c.args.sink.now ++ joined lines) (pending c.loop-line.sink) (written c.loop-line.sink) (written c.finish.new.self)
    (subst (λ ls. GrowsUpTo (written c.args.sink.now) (pending c.args.sink.now ++ joined ls) (written c.loop-line.sink) (pending c.loop-line.sink)) all c.loop-line.invariant.0)
    c.finish.ensures.prefix
