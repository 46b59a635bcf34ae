-- The world and the setting with which a run begins.
use Rattle.sb_book.specs.Histories.{Setting, setting_of}
use Rattle.sb_core.specs.Worlds.{WorldAt, start_world}
use Rattle.sb_shared.specs.declared.views.Origin.{Origin}

-- the world before the first step
abbrev pub start_of : Origin → WorldAt
start_of key = start_world key.policies.value.list key.script.value

-- the policy and the channels of each target
abbrev pub setting_in : Origin → Setting
setting_in key = setting_of key.policies.value.list key.script.value
