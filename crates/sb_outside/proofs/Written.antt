-- What a put writes is a prefix of its bytes, and all of them if it took all.
use Rattle.std.proofs.Common.{◌≡◌, ℕ, ◌-◌, Bool, true, false, if◌then◌else◌, List, [], ◌++◌, length, take, drop, Some, refl, sym}
use Rattle.std.proofs.lemmas.List.{take-append-drop}
use Rattle.sb_outside.specs.Outside.{GrowsByPrefix}
use Rattle.sb_outside.specs.MemSink.{Stored, is_failing, written_by}

cut : (b : Bool) (n : ℕ) (bytes : List ℕ) → bytes ≡ (if b then [] else take n bytes) ++ (if b then bytes else drop n bytes)
cut true n bytes = refl
cut false n bytes = sym (take-append-drop n bytes)

pub grows_by_written : (s : Stored) (bytes : List ℕ) → GrowsByPrefix (Some s.bytes) bytes (Some (s.bytes ++ written_by s bytes))
grows_by_written s bytes =
    (written_by s bytes, (if is_failing s then bytes else drop (s.room - length s.bytes) bytes), cut _ _ _, refl)
