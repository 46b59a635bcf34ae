use Rattle.std.proofs.Common.{rules, ◌≡◌, ◌∙◌, ◌∷◌, ◌++◌, ◌+◌, length}
use Rattle.sb_transcript.proofs.CutLaws.{grown_on, grown_partly, total_left, two_parts}
use Rattle.sb_transcript.proofs.line_buffers.put_pieces.Goals as goal

-- a line that was put in part
pub returns-in-Err-clause-prefix : goal.returns-in-Err-clause-prefix
returns-in-Err-clause-prefix g c =
    let written = g.S.Sink.written in
    let line = c.split_at.result.0.now in
    let behind = c.split_at.result.1.now in
    let cut : c.loop-count.rest.now ≡ line ++ behind = two_parts c.in-Some.count.now c.loop-count.rest.now line behind (search rules) (search rules) in
    grown_partly (written c.args.sink.now) (g.S.Sink.pending c.args.sink.now ++ c.args.bytes.now) (g.S.Sink.pending c.loop-count.sink) c.loop-count.rest.now line behind
    (written c.loop-count.sink) (written c.put.new.self) c.loop-count.invariant.0 cut c.in-Err.ensures.prefix

-- and one that was put
pub loop-count-preserved : goal.loop-count-preserved
loop-count-preserved g c =
    let written = g.S.Sink.written in
    let line = c.split_at.result.0.now in
    let behind = c.split_at.result.1.now in
    let cut : c.loop-count.rest.now ≡ line ++ behind = two_parts c.in-Some.count.now c.loop-count.rest.now line behind (search rules) (search rules) in
    let first : c.loop-count.lengths.now ≡ c.in-Some.count.now ∷ c.in-Some.later.now = search rules in
    let left : length behind + c.in-Some.count.now ≡ length c.loop-count.rest.now = search rules in (
      grown_on (written c.args.sink.now) (g.S.Sink.pending c.args.sink.now ++ c.args.bytes.now) (g.S.Sink.pending c.loop-count.sink) c.loop-count.rest.now line behind
          (g.S.Sink.pending c.put.new.self) (written c.loop-count.sink) (written c.put.new.self) c.loop-count.invariant.0 cut c.in-Ok.ensures.ok,
      total_left c.loop-count.lengths.now c.in-Some.later.now c.loop-count.rest.now behind c.in-Some.count.now first c.loop-count.invariant.1 left,
      c.in-Ok.ensures.ok_count ∙ c.loop-count.invariant.2,
    )
