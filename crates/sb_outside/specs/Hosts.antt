-- Why a real file was not read, which faults are counted, and what a writer is given of the bytes that are due.
use Rattle.std.specs.Prelude.{◌≡◌, ℕ, List, ◌++◌, Option}
use Rattle.std.specs.Io.KnownBytes.{Appends}
use Rattle.std.specs.declared.io.ErrorKind.{ErrorKind}
use Rattle.std.specs.declared.io.ErrorKind.TheVariants as kind
use Rattle.sb_outside.specs.Outside.{next_count}
use Rattle.sb_outside.specs.declared.files.FileFault.{FileFault}
use Rattle.sb_outside.specs.declared.files.FileFault.TheVariants.{Missing, TooLong, Failed, NoMemory}
use Rattle.sb_outside.specs.declared.files.ReadCause.{ReadCause}
use Rattle.sb_outside.specs.declared.files.ReadCause.TheVariants as said
use Rattle.sb_outside.specs.declared.sink.SinkFault.{SinkFault}
use Rattle.sb_outside.specs.declared.sink.SinkFault.TheVariants as sink

-- what the system says of a file, by the kind of its error
abbrev pub cause_of : ErrorKind → ReadCause
cause_of kind.IsADirectory = said.Directory
cause_of kind.PermissionDenied = said.Denied
cause_of kind.NotADirectory = said.NoDirectory
cause_of kind.FilesystemLoop = said.Loop
cause_of _ = said.Other

-- what a refused opening comes to: only 'not found' is a missing file
abbrev pub open_fault : ErrorKind → FileFault
open_fault kind.NotFound = Missing
open_fault kind.OutOfMemory = NoMemory
open_fault k = Failed (cause_of k)

-- what a failed reading comes to
abbrev pub read_fault : ErrorKind → FileFault
read_fault kind.OutOfMemory = NoMemory
read_fault k = Failed (cause_of k)

-- what a failed writing comes to
abbrev pub sink_fault : ErrorKind → SinkFault
sink_fault kind.BrokenPipe = sink.Closed
sink_fault kind.WouldBlock = sink.Full
sink_fault _ = sink.Failed

-- the count of faults after an answer: each fault counts, except running out of memory
abbrev pub count_after : FileFault → ℕ → ℕ
count_after Missing count = next_count count
count_after TooLong count = next_count count
count_after (Failed c) count = next_count count
count_after NoMemory count = count

-- a write failed, and this is what its reason comes to
abbrev pub IsBroken : {W : Type 0} → (W → ErrorKind → W → Type 0) → W → SinkFault → Type 0
IsBroken {W} fails now fault = (before : W) × (kind : ErrorKind) × fails before kind now × (fault ≡ sink_fault kind)

-- of the bytes that were due the writer was given the first, where it tells what it has, and the others are left
abbrev pub Gives : Option (List ℕ) → List ℕ → Option (List ℕ) → List ℕ → Type 0
Gives old due new left = (part : List ℕ) × (due ≡ part ++ left) × Appends old new part
