use Rattle.sb_cover.proofs.LetterLemmas.{noted_more}
use Rattle.sb_cover.proofs.letters.note_positions.Goals as goal

pub loop-position-preserved : goal.loop-position-preserved
loop-position-preserved c = record {
  here = noted_more c.args.patterns.now c.loop-position.letters.items c.note_position.new.letters.items c.args.positions.now c.loop-position.position-index c.loop-position-test.true
      c.in_ok-note_position.ensures.kept c.loop-position.invariant.here c.in_ok-note_position.ensures.here;
  kept = λ u h. c.in_ok-note_position.ensures.kept u (c.loop-position.invariant.kept u h);
}
