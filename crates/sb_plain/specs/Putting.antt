-- How an end is put.
use Rattle.std.specs.Prelude.{◌≡◌, ◌⊎◌, List, ℕ, ◌++◌, Option, None, Some, Result, Ok, Err, ⊤}
use Rattle.sb_message.specs.Statuses.{status_of}
use Rattle.sb_message.specs.declared.statuses.EndStatus.{EndStatus}
use Rattle.sb_message.specs.declared.statuses.EndStatus.TheVariants.{Unfinished}
use Rattle.sb_message.specs.declared.statuses.Status.{Status}
use Rattle.sb_message.specs.declared.statuses.Status.TheVariants.{WriteFault}
use Rattle.sb_outside.specs.Outside.{GrowsBy, GrowsByPrefix, joined}
use Rattle.sb_outside.specs.declared.sink.SinkFault.{SinkFault}
use Rattle.sb_plain.specs.declared.ends.Ending.{Ending}
use Rattle.sb_plain.specs.declared.ends.Ending.TheVariants as ending
use Rattle.sb_plain.specs.declared.ends.Lines.{Lines}
use Rattle.sb_plain.specs.declared.ends.Lines.TheVariants.{Texts, Transcript}

-- the bytes of what is put
abbrev pub bytes_of : Lines → List ℕ
bytes_of (Texts texts) = joined texts
bytes_of (Transcript lines) = joined lines

-- what is put at an end, and its status
abbrev pub text_of : Ending → Option (List ℕ)
text_of (ending.Text lines status) = Some (bytes_of lines)
text_of (ending.Unfinished target thread) = None

abbrev pub end_status : Ending → EndStatus
end_status (ending.Text lines status) = status
end_status (ending.Unfinished target thread) = Unfinished target thread

-- a text was put: the output grew by what was pending and then by it; or the output failed, and grew by a prefix of that
abbrev pub IsPut : {E : Type 0} → List ℕ → Option (List ℕ) → List ℕ → Option (List ℕ) → Type 0 → Result ⊤ E → Type 0
IsPut text before pending after rose (Ok put) = GrowsBy before (pending ++ text) after
IsPut text before pending after rose (Err fault) = GrowsByPrefix before (pending ++ text) after × rose

-- the status after what is due was put: that of the end if all of the text was, or if nothing is due; or that the output failed
abbrev pub IsEnded : {S : Type 0} → Option (List ℕ) → EndStatus → S → S → Option (List ℕ) → List ℕ → Option (List ℕ) → Type 0 → Status → Type 0
IsEnded None end out out' before pending after rose status = (status ≡ status_of end) × (out' ≡ out)
IsEnded (Some text) end out out' before pending after rose status =
    ((status ≡ status_of end) × GrowsBy before (pending ++ text) after) ⊎ ((fault : SinkFault) × (status ≡ WriteFault fault) × GrowsByPrefix before (pending ++ text) after × rose)
