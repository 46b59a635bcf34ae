use Rattle.std.proofs.Common.{◌≡◌, drop}
use Rattle.sb_scripttext.specs.ScriptTexts.{first_absence}
use Rattle.sb_scripttext.proofs.script_texts.first_absence.Given as goal

-- the first that is absent is among those that are left
abbrev pub invariant-loop-word : goal.invariant-loop-word
invariant-loop-word l = first_absence l.targets (drop l.word-index l.named) ≡ first_absence l.targets l.named
