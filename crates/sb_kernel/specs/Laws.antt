-- Laws of the namespace.
use Rattle.std.specs.Prelude.{◌≡◌, ◌≤◌, ℕ, length, true, false, List, [], ◌∷◌, None}
use Rattle.sb_call.specs.Statuses.{invalid_handle, refusal}
use Rattle.sb_call.specs.declared.arguments.Arg.{Arg}
use Rattle.sb_call.specs.declared.arguments.Arg.TheVariants.{Num}
use Rattle.sb_call.specs.declared.tags.CallTag.{CallTag}
use Rattle.sb_call.specs.declared.tags.CallTag.TheVariants as tag
use Rattle.sb_handles.specs.Effects.{is_done}
use Rattle.sb_handles.specs.Tables.{held_by}
use Rattle.sb_kernel.specs.Kept.{IsKept, IsSound}
use Rattle.sb_kernel.specs.Namespaces.{Space, answered_with, perform, perform_request}
use Rattle.sb_kernel.specs.Requests.{Request, is_proper}

-- a call that answers a status other than success, and other than that the name exists, leaves the namespace equal
abbrev pub RefusedCallsChangeNothing : Type 0
RefusedCallsChangeNothing = (ns : Space) (target : ℕ) (tag : CallTag) (args : List Arg)
    → is_done (perform ns target tag args).answer.status ≡ false → (perform ns target tag args).space ≡ ns

-- handle.close of a number under which the target holds nothing is refused, and leaves the namespace equal, whoever else holds it
abbrev pub UnheldClosesChangeNothing : Type 0
UnheldClosesChangeNothing = (ns : Space) (target handle : ℕ) → held_by ns.handles target handle ≡ None
    → perform ns target tag.HandleClose (Num handle ∷ []) ≡ answered_with ns (refusal invalid_handle)

-- no answer has more than seven extended words
abbrev pub AnswersAreShort : Type 0
AnswersAreShort = (ns : Space) (target : ℕ) (tag : CallTag) (args : List Arg) → length (perform ns target tag args).answer.ext ≤ 7

-- each request keeps what a kernel keeps of its namespace
abbrev pub RequestsAreKept : Type 0
RequestsAreKept = (ns : Space) (target : ℕ) (request : Request) → is_proper request ≡ true → IsSound ns → IsKept (perform_request ns target request).space
