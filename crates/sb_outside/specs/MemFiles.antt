-- Files in memory, as a map.
use Rattle.std.specs.Prelude.{◌≡◌, ◌==◌, ◌⊎◌, ℕ, length, Bool, List, [], ◌∷◌, Option, None, Some, Result, Ok, Err, Vec, if◌then◌else◌, nat_eq, nat_le}
use Rattle.std.specs.declared.alloc.Global.{Global}
use Rattle.std.specs.Cmp.Lexicographic.{pointwise}
use Rattle.std.specs.List.{list_any}
use Rattle.sb_outside.specs.Outside.{next_count}
use Rattle.sb_outside.specs.declared.mem_files.StoredFile.{StoredFile}
use Rattle.sb_outside.specs.declared.mem_files.MemFiles.{MemFiles}
use Rattle.sb_outside.specs.declared.files.FileFault.{FileFault}
use Rattle.sb_outside.specs.declared.files.FileFault.TheVariants.{Missing, TooLong, Failed, NoMemory}
use Rattle.sb_outside.specs.declared.files.ReadCause.TheVariants.{Other}

-- the content of the first file of this name
abbrev pub content_of : List StoredFile → List ℕ → Option (List ℕ)
content_of [] name = None
content_of (f ∷ fs) name = if pointwise nat_eq f.name name then Some f.content else content_of fs name

-- the next call is one of those that fail
abbrev pub is_failing : MemFiles → Bool
is_failing m = list_any (λ n. n == next_count m.calls) m.fails

-- what was found, if it has no more than `most` bytes
abbrev pub found : Option (List ℕ) → ℕ → Result (List ℕ) FileFault
found None most = Err Missing
found (Some bytes) most = if nat_le (length bytes) most then Ok bytes else Err TooLong

-- what the next call answers, with ample memory
abbrev pub read_of : MemFiles → List ℕ → ℕ → Result (List ℕ) FileFault
read_of m name most = if is_failing m then Err (Failed Other) else found (content_of m.files name) most

-- the files after the next call
abbrev pub after_read : MemFiles → MemFiles
after_read m = record m { calls = next_count m.calls; faults = if is_failing m then next_count m.faults else m.faults }

-- a call answered this, or had no memory
abbrev pub IsAnswer : Result (List ℕ) FileFault → Result (Vec ℕ Global) FileFault → Type 0
IsAnswer wanted (Ok bytes) = wanted ≡ Ok bytes.items
IsAnswer wanted (Err fault) = (fault ≡ NoMemory) ⊎ (wanted ≡ Err fault)
