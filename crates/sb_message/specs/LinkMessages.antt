-- The messages of files of links.
use Rattle.std.specs.Prelude.{ℕ, Bool, true, false, List, []}
use Rattle.sb_link.specs.Kinds.{kind_number}
use Rattle.sb_link.specs.LinkTexts.{LinkFault}
use Rattle.sb_link.specs.declared.faults.LinkKind.{LinkKind}
use Rattle.sb_link.specs.declared.faults.LinkKind.TheVariants.{NotUtf8, UnknownWord, BadName, SameName, TooMany}
use Rattle.sb_message.specs.declared.messages.FaultyText.TheVariants.{Links}
use Rattle.sb_message.specs.Causes.{names_word}
use Rattle.sb_message.specs.Messages.{IsMessage}

-- whether the words name the token
abbrev pub link_names : LinkKind → Bool
link_names NotUtf8 = false
link_names (UnknownWord fault) = names_word fault
link_names BadName = true
link_names SameName = true
link_names TooMany = false

-- a text is a message of a fault of a file of links of this name, with the line that has it
abbrev pub IsLinkMessage : List ℕ → LinkFault → List ℕ → List ℕ → Type 0
IsLinkMessage file fault line text =
    IsMessage (record { text = Links; line = fault.line; column = fault.column; kind = kind_number fault.kind })
    [] (link_names fault.kind) file line text
