-- The messages of policy texts.
use Rattle.std.specs.Prelude.{ℕ, Bool, true, false, List, []}
use Rattle.sb_ruletext.specs.Kinds.{kind_number}
use Rattle.sb_ruletext.specs.PolicyTexts.{PolicyFault}
use Rattle.sb_ruletext.specs.declared.faults.PolicyFaultKind.{PolicyFaultKind}
use Rattle.sb_ruletext.specs.declared.faults.PolicyFaultKind.TheVariants.{NotUtf8, BadVersion, UnknownWord, BadPattern, TooMany, NoHeading}
use Rattle.sb_text.specs.declared.refusals.WordFault.TheVariants.{Misplaced}
use Rattle.sb_message.specs.declared.messages.FaultyText.TheVariants.{Policy}
use Rattle.sb_message.specs.Causes.{names_word}
use Rattle.sb_message.specs.Messages.{IsMessage}

-- whether the words name the token
abbrev pub policy_names : PolicyFaultKind → Bool
policy_names NotUtf8 = false
policy_names BadVersion = false
policy_names (UnknownWord Misplaced) = false
policy_names (UnknownWord fault) = names_word fault
policy_names (BadPattern fault) = false
policy_names (TooMany limit) = false
policy_names NoHeading = false
policy_names _ = true

-- a text is a message of a fault of a policy file of this name, with the line that has it
abbrev pub IsPolicyMessage : List ℕ → PolicyFault → List ℕ → List ℕ → Type 0
IsPolicyMessage file fault line text =
    IsMessage (record { text = Policy; line = fault.line; column = fault.column; kind = kind_number fault.kind })
    [] (policy_names fault.kind) file line text
