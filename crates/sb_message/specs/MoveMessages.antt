-- The messages of files of moves.
use Rattle.std.specs.Prelude.{ℕ, ◌-◌, ◌^◌, Bool, true, false, List, [], ◌∷◌}
use Rattle.sb_dup.specs.Kinds.{kind_number}
use Rattle.sb_dup.specs.MoveTexts.{MoveFault}
use Rattle.sb_dup.specs.declared.faults.MoveKind.{MoveKind}
use Rattle.sb_dup.specs.declared.faults.MoveKind.TheVariants.{UnknownWord, NoSuchTarget, BadNumber, WideAccess, TooMany}
use Rattle.sb_message.specs.declared.messages.FaultyText.TheVariants.{Moves}
use Rattle.sb_message.specs.Causes.{names_word}
use Rattle.sb_message.specs.Messages.{IsMessage}

-- the numbers between the words: a target and how many there are; the range of an access
abbrev pub move_numbers : MoveKind → List ℕ
move_numbers (NoSuchTarget target targets) = target ∷ targets ∷ []
move_numbers WideAccess = 0 ∷ (2 ^ 32 - 1) ∷ []
move_numbers _ = []

-- whether the words name the token
abbrev pub move_names : MoveKind → Bool
move_names (UnknownWord fault) = names_word fault
move_names (NoSuchTarget target targets) = false
move_names BadNumber = true
move_names WideAccess = true
move_names TooMany = false

-- a text is a message of a fault of a file of moves of this name, with the line that has it
abbrev pub IsMoveMessage : List ℕ → MoveFault → List ℕ → List ℕ → Type 0
IsMoveMessage file fault line text =
    IsMessage (record { text = Moves; line = fault.line; column = fault.column; kind = kind_number fault.kind })
    (move_numbers fault.kind) (move_names fault.kind) file line text
