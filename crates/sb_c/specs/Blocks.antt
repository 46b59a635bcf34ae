-- Blocks: the check of a copy, and the layout of a call.
use Rattle.std.specs.Prelude.{◌≡◌, ◌<◌, ℕ, ◌+◌, Bool, true, false, ◌&&◌, is_some, List, [], ◌∷◌, length, take, Option, None, Some}
use Rattle.sb_call.specs.Arguments.{fits}
use Rattle.sb_call.specs.Tags.{tag_of}
use Rattle.sb_call.specs.declared.arguments.Arg.{Arg}
use Rattle.sb_call.specs.declared.tags.CallTag.{CallTag}
use Rattle.sb_block.specs.Blocks.{block, encodes}
use Rattle.sb_block.specs.Copies.{Copied}
use Rattle.sb_block.specs.Faults.{fault as first_fault}
use Rattle.sb_block.specs.declared.faults.BlockFault.{BlockFault}
use Rattle.sb_book.specs.Replies.{fault_words}
use Rattle.sb_c.specs.Arguments.{are_within, arguments_meant}
use Rattle.sb_c.specs.declared.shapes.Argument.{Argument}
use Rattle.sb_c.specs.declared.shapes.CopyFault.{CopyFault}
use Rattle.sb_c.specs.declared.statuses.Status.{Status}
use Rattle.sb_c.specs.declared.statuses.Status.TheVariants as status

-- C is shown the number of a fault and its values, as the reply to a copy with this fault has them
abbrev pub IsFaultShown : BlockFault → CopyFault → Type 0
IsFaultShown found shown = (shown.number ∷ take shown.count shown.values ≡ fault_words found) × (1 + shown.count ≡ length (fault_words found))

-- the first fault of a copy is shown
abbrev pub HasFault : Option BlockFault → CopyFault → Type 0
HasFault None shown = ⊥
HasFault (Some found) shown = IsFaultShown found shown

-- the status of a check: there is no such copy, its first fault is shown, or it has none
abbrev pub IsChecked : Option Copied → CopyFault → Option Status → Type 0
IsChecked None shown (Some status.BadCall) = Unit {0}
IsChecked (Some copy) shown (Some status.Ok) = first_fault copy ≡ None
IsChecked (Some copy) shown (Some status.Fault) = HasFault (first_fault copy) shown
IsChecked copy shown status = ⊥

-- a call of C: its number, its arguments, and the units of which its strings are parts
pub record CallOfC : Type 0 where
  pub number : ℕ
  pub arguments : List Argument
  pub units : List ℕ

abbrev pub call_of_c : ℕ → List Argument → List ℕ → CallOfC
call_of_c number arguments units = record { number = number; arguments = arguments; units = units }

abbrev pub args_of : CallOfC → List Arg
args_of c = arguments_meant c.units c.arguments

-- there is such a call, and each string lies within the units
abbrev pub is_named : CallOfC → Bool
is_named c = are_within c.units c.arguments && is_some (tag_of c.number)

-- its arguments are those of the call
abbrev pub fits_tag : Option CallTag → List Arg → Bool
fits_tag None args = false
fits_tag (Some tag) args = fits tag args

abbrev pub is_call : CallOfC → Bool
is_call c = are_within c.units c.arguments && fits_tag (tag_of c.number) (args_of c)

-- its block has at most 64 words
abbrev pub encodes_tag : Option CallTag → List Arg → Bool
encodes_tag None args = false
encodes_tag (Some tag) args = encodes tag args

abbrev pub has_block : CallOfC → Bool
has_block c = are_within c.units c.arguments && encodes_tag (tag_of c.number) (args_of c)

-- its block with a mark
abbrev pub block_by_tag : Option CallTag → List Arg → ℕ → List ℕ
block_by_tag None args mark = []
block_by_tag (Some tag) args mark = block tag args mark

abbrev pub block_of_call : CallOfC → ℕ → List ℕ
block_of_call c mark = block_by_tag (tag_of c.number) (args_of c) mark

-- why there is no block of a call: it is none, it is too big, or there was no memory for its arguments
abbrev pub IsNoBlock : CallOfC → Status → Type 0
IsNoBlock c status.BadCall = is_call c ≡ false
IsNoBlock c status.NoMemory = is_named c ≡ true
IsNoBlock c status.TooBig = (is_call c ≡ true) × (has_block c ≡ false)
IsNoBlock c _ = ⊥

-- the status of a layout into a room of this many words: the block is at its front and has this many words, it needs more room, or there is none
abbrev pub IsLaid : CallOfC → ℕ → ℕ → ℕ → List ℕ → Option Status → Type 0
IsLaid c mark room count front (Some status.Ok) = (has_block c ≡ true) × (front ≡ block_of_call c mark) × (length front ≡ count)
IsLaid c mark room count front (Some status.NoRoom) = (has_block c ≡ true) × (room < length (block_of_call c mark))
IsLaid c mark room count front (Some s) = IsNoBlock c s
IsLaid c mark room count front None = ⊥
