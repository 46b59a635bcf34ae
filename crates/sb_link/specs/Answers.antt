-- What becomes of a call when the names of its copy are resolved first.
use Rattle.std.specs.Prelude.{◌≡◌, ⊤, true, ℕ, ◌+◌, nat_le, List, [], ◌∷◌, length, Option, None, Some, option_map, Result, Ok, Err, if◌then◌else◌}
use Rattle.sb_call.specs.Arguments.{fits}
use Rattle.sb_call.specs.Statuses.{path_not_found}
use Rattle.sb_call.specs.Tags.{shape_of}
use Rattle.sb_call.specs.declared.arguments.Arg.{Arg}
use Rattle.sb_call.specs.declared.arguments.Arg.TheVariants as arg
use Rattle.sb_call.specs.declared.replies.Reply.{Reply}
use Rattle.sb_call.specs.declared.tags.CallTag.{CallTag}
use Rattle.sb_call.specs.declared.tags.ParamKind.{ParamKind}
use Rattle.sb_call.specs.declared.tags.ParamKind.TheVariants.{Text, Name, Num, Handle}
use Rattle.sb_block.specs.Blocks.{block}
use Rattle.sb_block.specs.Calls.{decoded}
use Rattle.sb_block.specs.Copies.{Copied, whole}
use Rattle.sb_block.specs.Layout.{most_words}
use Rattle.sb_block.specs.declared.calls.Call.{Call}
use Rattle.sb_block.specs.declared.faults.BlockFault.{BlockFault}
use Rattle.sb_book.specs.Histories.{denied_outcome}
use Rattle.sb_text.specs.Steps.{◌>>=◌, on_value}
use Rattle.sb_link.specs.Resolution.{resolve}
use Rattle.sb_link.specs.declared.links.Link.{Link}
use Rattle.sb_link.specs.declared.stops.Stop.{Stop}
use Rattle.sb_link.specs.declared.stops.Stop.TheVariants.{Loop, TooBig}
use Rattle.sb_link.specs.declared.stops.StoppedCall.{StoppedCall}

-- an argument of a kind: a name as what it resolves to, if it does, and any other as it is
abbrev pub resolved_arg : List Link → ParamKind → Arg → Option Arg
resolved_arg links Name (arg.Str name) = option_map arg.Str (resolve links name)
resolved_arg links Name (arg.Num number) = Some (arg.Num number)
resolved_arg links Text a = Some a
resolved_arg links Num a = Some a
resolved_arg links Handle a = Some a

-- the arguments of these kinds, the first of which is parameter i; or the first parameter that does not resolve
abbrev pub resolved_from : List Link → ℕ → List ParamKind → List Arg → Result (List Arg) Stop
resolved_from links i [] args = Ok []
resolved_from links i (kind ∷ kinds) [] = Ok []
resolved_from links i (kind ∷ kinds) (a ∷ args) = elim (resolved_arg links kind a) [
  | None ↦ Err (Loop i)
  | Some other ↦ on_value (λ others. other ∷ others) (resolved_from links (i + 1) kinds args)
]

-- the arguments of a call
abbrev pub resolved_args : List Link → CallTag → List Arg → Result (List Arg) Stop
resolved_args links tag args = resolved_from links 0 (shape_of tag) args

-- the copy of the whole block of a call, if it has at most 64 words
abbrev pub copy_of : CallTag → ℕ → List Arg → Result Copied Stop
copy_of tag mark args = if nat_le (length (block tag args mark)) most_words then Ok (whole (block tag args mark)) else Err TooBig

-- a stop of a call with this tag
abbrev pub stop_of : CallTag → Result Copied Stop → Result Copied StoppedCall
stop_of tag (Ok copy) = Ok copy
stop_of tag (Err stop) = Err (record { tag = tag; stop = stop })

-- the copy of a call with its names resolved
abbrev pub resolved_copy : List Link → Call → Result Copied Stop
resolved_copy links call = resolved_args links call.tag call.args >>= copy_of call.tag call.mark

-- the same, or the call that stops
abbrev pub linked_call : List Link → Call → Result Copied StoppedCall
linked_call links call = stop_of call.tag (resolved_copy links call)

-- of a copy with this call or this fault: with a fault it stays as it is
abbrev pub linked_by : List Link → Copied → Result Call BlockFault → Result Copied StoppedCall
linked_by links copy (Err fault) = Ok copy
linked_by links copy (Ok call) = linked_call links call

-- what becomes of a copy
abbrev pub linked : List Link → Copied → Result Copied StoppedCall
linked links copy = linked_by links copy (decoded copy)

-- the reply to a call that stops
abbrev pub stopped_reply : ℕ → Reply
stopped_reply mark = record { mark = mark; outcome = denied_outcome; status = path_not_found; handle = 0; ext = [] }

-- ---- names that are resolved

-- a name is its own resolution
abbrev pub IsResolvedArg : List Link → ParamKind → Arg → Type 0
IsResolvedArg links Name (arg.Str name) = resolve links name ≡ Some name
IsResolvedArg links Name (arg.Num number) = ⊤
IsResolvedArg links Text a = ⊤
IsResolvedArg links Num a = ⊤
IsResolvedArg links Handle a = ⊤

-- so is each name of these arguments
abbrev pub AreResolved : List Link → List ParamKind → List Arg → Type 0
AreResolved links [] args = ⊤
AreResolved links (kind ∷ kinds) [] = ⊤
AreResolved links (kind ∷ kinds) (a ∷ args) = IsResolvedArg links kind a × AreResolved links kinds args

-- and each name of a call
abbrev pub IsResolvedCall : List Link → Result Call BlockFault → Type 0
IsResolvedCall links (Err fault) = ⊤
IsResolvedCall links (Ok call) = AreResolved links (shape_of call.tag) call.args

-- the arguments of a call fit it
abbrev pub IsFittingCall : Result Call BlockFault → Type 0
IsFittingCall (Err fault) = ⊤
IsFittingCall (Ok call) = fits call.tag call.args ≡ true
