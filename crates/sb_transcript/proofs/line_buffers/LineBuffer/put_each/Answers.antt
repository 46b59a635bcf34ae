use Rattle.std.proofs.Common.{◌≡◌, ◌∙◌, ◌++◌, OnErr, OnOk, List, ℕ, ap, subst}
use Rattle.sb_outside.specs.Outside.{GrowsBy, GrowsByPrefix, joined}
use Rattle.sb_transcript.proofs.CutLaws.{joined_cut}
use Rattle.sb_transcript.proofs.line_buffers.LineBuffer.put_each.Goals as goal

pub returns-clause-ok : goal.returns-clause-ok
returns-clause-ok g c =
    let whole : c.self.inside.bytes.items ≡ joined c.args.self.now =
    joined_cut c.self.inside.lengths.items c.self.inside.bytes.items c.self.invariant ∙ ap joined c.self.view_is in
    let P : List ℕ → Type 0 = λ bytes. OnOk c.put_pieces.result (GrowsBy (g.S.Sink.written c.args.sink.now) (g.S.Sink.pending c.args.sink.now ++ bytes) (g.S.Sink.written c.put_pieces.new.sink)) in
    subst P (c.deref.ensures.value ∙ whole) c.put_pieces.ensures.ok

pub returns-clause-prefix : goal.returns-clause-prefix
returns-clause-prefix g c =
    let whole : c.self.inside.bytes.items ≡ joined c.args.self.now =
    joined_cut c.self.inside.lengths.items c.self.inside.bytes.items c.self.invariant ∙ ap joined c.self.view_is in
    let P : List ℕ → Type 0 = λ bytes. OnErr c.put_pieces.result (GrowsByPrefix (g.S.Sink.written c.args.sink.now) (g.S.Sink.pending c.args.sink.now ++ bytes) (g.S.Sink.written c.put_pieces.new.sink)) in
    subst P (c.deref.ensures.value ∙ whole) c.put_pieces.ensures.prefix
