use Rattle.sb_core.proofs.Ending.{finishing_from}
use Rattle.sb_core.proofs.finishes.world_of.Goals as goal

pub invariant_of-result : goal.invariant_of-result
invariant_of-result c =
    finishing_from c.sound_parts.ensures.targets c.args.script.now c.args.words c.args.workers.items c.args.book c.args.results.now c.establish_sound.ensures.sound c.requires
    c.in_ok-words_from.field-0.items c.new.result.items c.in_ok-words_from.ensures c.new.ensures.items
