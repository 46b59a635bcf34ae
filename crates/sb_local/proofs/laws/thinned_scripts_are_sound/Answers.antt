use Rattle.sb_local.proofs.Staying.{actors_stay, clean_stays, ready_stays, setting_stays, sound_stays}
use Rattle.sb_local.proofs.laws.thinned_scripts_are_sound.Goals as goal

pub returns-clause-sound : goal.returns-clause-sound
returns-clause-sound c = sound_stays

pub returns-clause-ready : goal.returns-clause-ready
returns-clause-ready c = ready_stays

pub returns-clause-settings : goal.returns-clause-settings
returns-clause-settings c = setting_stays

pub returns-clause-clean : goal.returns-clause-clean
returns-clause-clean c = clean_stays

pub returns-clause-actors : goal.returns-clause-actors
returns-clause-actors c = actors_stay
