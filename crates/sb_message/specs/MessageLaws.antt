-- What is true of all messages.
use Rattle.std.specs.Prelude.{◌≡◌, ◌⊎◌, ⊤, ℕ, List, Option, Err}
use Rattle.sb_commands.specs.Commands.{command_of}
use Rattle.sb_commands.specs.Usage.{NotUtf8, fault_of}
use Rattle.sb_audit.specs.declared.answers.Refuted.{Refuted}
use Rattle.sb_dup.specs.MoveTexts.{MoveFault}
use Rattle.sb_link.specs.LinkTexts.{LinkFault}
use Rattle.sb_ruletext.specs.PolicyTexts.{PolicyFault}
use Rattle.sb_scripttext.specs.ScheduleTexts.{ScheduleFault}
use Rattle.sb_scripttext.specs.ScriptTexts.{ScriptFault}
use Rattle.sb_message.specs.AuditMessages.{audit_message}
use Rattle.sb_glyphs.specs.CleanTexts.{IsClean}
use Rattle.sb_message.specs.LinkMessages.{IsLinkMessage}
use Rattle.sb_message.specs.MoveMessages.{IsMoveMessage}
use Rattle.sb_message.specs.PolicyMessages.{IsPolicyMessage}
use Rattle.sb_message.specs.ScheduleMessages.{IsScheduleMessage}
use Rattle.sb_message.specs.ScriptMessages.{IsScriptMessage}
use Rattle.sb_message.specs.StatusMessages.{IsMessageOf}
use Rattle.sb_message.specs.declared.statuses.Refusal.TheVariants.{Usage}
use Rattle.sb_message.specs.declared.statuses.Status.{Status}
use Rattle.sb_message.specs.declared.statuses.Status.TheVariants.{Refused}

-- if the status is a fault of arguments it is that of these
abbrev pub IsOfArguments : List (List ℕ) → Status → Type 0
IsOfArguments words (Refused (Usage fault)) = (fault_of fault ≡ NotUtf8) ⊎ (command_of words ≡ Err (fault_of fault))
IsOfArguments words status = ⊤

-- every message is clean, whatever the name of the file, the fault and the bytes of the line are
abbrev pub MessagesAreClean : Type 0
MessagesAreClean =
    ((file line text : List ℕ) (fault : PolicyFault) → IsPolicyMessage file fault line text → IsClean text)
    × ((file line text : List ℕ) (fault : ScriptFault) → IsScriptMessage file fault line text → IsClean text)
    × ((file line text : List ℕ) (fault : ScheduleFault) → IsScheduleMessage file fault line text → IsClean text)
    × ((file line text : List ℕ) (fault : LinkFault) → IsLinkMessage file fault line text → IsClean text)
    × ((file line text : List ℕ) (fault : MoveFault) → IsMoveMessage file fault line text → IsClean text)
    × ((file : List ℕ) (refuted : Refuted) (shown : Option (List ℕ)) → IsClean (audit_message file refuted shown))
    × ((words names : List (List ℕ)) (status : Status) (shown : Option (List ℕ)) (text : List ℕ) → IsOfArguments words status
    → IsMessageOf words names status shown text → IsClean text)
