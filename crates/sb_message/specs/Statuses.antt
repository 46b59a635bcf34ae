-- How commands end: the exit code of each status, and the line that tells it.
use Rattle.std.specs.Prelude.{ℕ, List, ◌++◌, codes}
use Rattle.std.specs.Fmt.{decimal}
use Rattle.sb_call.specs.CallWords.{call_word}
use Rattle.sb_commands.specs.Forms.{forms}
use Rattle.sb_commands.specs.UsageMessages.{forms_text}
use Rattle.sb_message.specs.TextFaults.{fault_code, fault_text}
use Rattle.sb_message.specs.declared.statuses.Difference.{Difference}
use Rattle.sb_message.specs.declared.statuses.Difference.TheVariants.{Policies, Claims, Notes, NoEntry}
use Rattle.sb_message.specs.declared.statuses.EndStatus.{EndStatus}
use Rattle.sb_message.specs.declared.statuses.EndStatus.TheVariants as end
use Rattle.sb_message.specs.declared.statuses.FileRefusal.{FileRefusal}
use Rattle.sb_message.specs.declared.statuses.FileRefusal.TheVariants.{Missing, TooLong, ReadFault}
use Rattle.sb_message.specs.declared.statuses.Refusal.{Refusal}
use Rattle.sb_message.specs.declared.statuses.Refusal.TheVariants.{Usage, File, Text, TooComplex, NoMemory}
use Rattle.sb_message.specs.declared.statuses.Status.{Status}
use Rattle.sb_message.specs.declared.statuses.Status.TheVariants.{Done, Differs, Unfinished, WriteFault, Refused}

-- the status of a command whose text was put, if it has one
abbrev pub status_of : EndStatus → Status
status_of end.Done = Done
status_of (end.Differs difference) = Differs difference
status_of (end.Unfinished target thread) = Unfinished target thread

-- ---- exit codes

abbrev pub file_code : FileRefusal → ℕ
file_code Missing = 6
file_code TooLong = 7
file_code (ReadFault cause) = 8

abbrev pub refusal_code : Refusal → ℕ
refusal_code (Usage fault) = 2
refusal_code (Text which fault) = fault_code fault
refusal_code (File which why) = file_code why
refusal_code NoMemory = 11
refusal_code (TooComplex call) = 17

-- the exit code of a status
abbrev pub code_of : Status → ℕ
code_of Done = 0
code_of (WriteFault fault) = 9
code_of (Unfinished target thread) = 10
code_of (Differs difference) = 15
code_of (Refused refusal) = refusal_code refusal

-- ---- lines

abbrev pub difference_text : Difference → List ℕ
difference_text (Policies changed single) = codes "changed " ++ (decimal changed ++ (codes ", only in one file " ++ decimal single))
difference_text (Claims claims hold) = codes "claims " ++ (decimal claims ++ (codes ", hold " ++ decimal hold))
difference_text (Notes notes) = codes "notes " ++ decimal notes
difference_text (NoEntry entry entries) = codes "no entry " ++ (decimal entry ++ (codes " of " ++ decimal entries))

-- what is told of a file that was not read
abbrev pub file_text : ℕ → FileRefusal → List ℕ
file_text which Missing = codes "missing file " ++ decimal which
file_text which TooLong = codes "file " ++ (decimal which ++ codes " too long")
file_text which (ReadFault cause) = codes "read fault in file " ++ decimal which

abbrev pub refusal_text : Refusal → List ℕ
refusal_text (Usage fault) = codes "usage: " ++ forms_text forms
refusal_text (Text which fault) = fault_text fault
refusal_text (File which why) = file_text which why
refusal_text (TooComplex call) = codes "too complex: " ++ call_word call
refusal_text NoMemory = codes "no memory"

-- what is told of a status
abbrev pub text_of : Status → List ℕ
text_of Done = codes "done"
text_of (Differs difference) = codes "differs: " ++ difference_text difference
text_of (Unfinished target thread) = codes "unfinished: target " ++ (decimal target ++ (codes " thread " ++ decimal thread))
text_of (WriteFault fault) = codes "write fault"
text_of (Refused refusal) = refusal_text refusal

-- the line of a status on standard error, except for its end
abbrev pub line_of : Status → List ℕ
line_of status = codes "sandbox: " ++ text_of status
