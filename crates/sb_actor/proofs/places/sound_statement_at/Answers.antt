use Rattle.sb_actor.specs.Found.{IsFound}
use Rattle.sb_actor.specs.Places.{statement_at}
use Rattle.sb_actor.proofs.Soundness.{lifted}
use Rattle.sb_actor.proofs.places.sound_statement_at.Goals as goal

pub returns-clause-found : goal.returns-clause-found
returns-clause-found c =
    let script = c.args.script.now in
    let there = statement_at script c.args.target c.args.thread c.args.place in
    lifted (λ s. s.now) (λ s. IsFound script.targets c.args.target c.args.thread c.args.place s) c.statement_at.result there c.statement_at.ensures
    (c.establish_found.ensures.each c.args.target c.args.thread c.args.place)
