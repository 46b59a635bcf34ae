-- The messages of script texts.
use Rattle.std.specs.Prelude.{ℕ, Bool, true, false, List, [], ◌∷◌}
use Rattle.sb_scripttext.specs.Kinds.{kind_number}
use Rattle.sb_scripttext.specs.ScriptTexts.{ScriptFault}
use Rattle.sb_scripttext.specs.declared.faults.ScriptKind.{ScriptKind}
use Rattle.sb_scripttext.specs.declared.faults.ScriptKind.TheVariants.{NotUtf8, UnknownWord, WrongArgs, OutOfRange, NoSuchTarget, NoSuchChannel, TooMany, TooBig}
use Rattle.sb_message.specs.declared.messages.FaultyText.TheVariants.{Script}
use Rattle.sb_message.specs.Causes.{names_word}
use Rattle.sb_message.specs.Messages.{IsMessage}

-- the numbers between the words: a range; a target and how many there are; a channel, its target, and how many that has
abbrev pub script_numbers : ScriptKind → List ℕ
script_numbers (OutOfRange low high) = low ∷ high ∷ []
script_numbers (NoSuchTarget target targets) = target ∷ targets ∷ []
script_numbers (NoSuchChannel channel target channels) = channel ∷ target ∷ channels ∷ []
script_numbers _ = []

-- whether the words name the token
abbrev pub script_names : ScriptKind → Bool
script_names NotUtf8 = false
script_names (UnknownWord fault) = names_word fault
script_names (WrongArgs fault) = names_word fault
script_names (NoSuchTarget target targets) = false
script_names (NoSuchChannel channel target channels) = false
script_names (TooMany limit) = false
script_names TooBig = false
script_names _ = true

-- a text is a message of a fault of a script file of this name, with the line that has it
abbrev pub IsScriptMessage : List ℕ → ScriptFault → List ℕ → List ℕ → Type 0
IsScriptMessage file fault line text =
    IsMessage (record { text = Script; line = fault.line; column = fault.column; kind = kind_number fault.kind })
    (script_numbers fault.kind) (script_names fault.kind) file line text
