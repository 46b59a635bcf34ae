use Rattle.sb_actor.proofs.Soundness.{are_found}
use Rattle.sb_actor.proofs.places.establish_found.Goals as goal

pub returns : goal.returns
returns c =
    are_found c.sound_parts.ensures.targets c.sound_parts.ensures.statements c.args.script.now c.establish_sound.ensures.sound c.establish_sound.ensures.units
