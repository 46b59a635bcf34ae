-- Copies and blocks of hosts.
use Rattle.std.specs.Prelude.{◌≡◌, ℕ, true, false, List, Option, None, Some, if◌then◌else◌}
use Rattle.sb_call.specs.Arguments.{fits}
use Rattle.sb_call.specs.declared.arguments.Arg.{Arg}
use Rattle.sb_call.specs.declared.tags.CallTag.{CallTag}
use Rattle.sb_block.specs.Blocks.{encodes}
use Rattle.sb_block.specs.Copies.{Copied, copied, is_copy}
use Rattle.sb_host.specs.declared.blocks.NoBlock.{NoBlock}
use Rattle.sb_host.specs.declared.blocks.NoBlock.TheVariants.{Unfit, TooBig}

-- the copy of a count, an end and words, if a worker can make it
abbrev pub copy_of : ℕ → ℕ → List ℕ → Option Copied
copy_of count end words = if is_copy (copied count end words) then Some (copied count end words) else None

-- the arguments are not those of the call, or they are and the block is too big
abbrev pub IsNoBlock : CallTag → List Arg → NoBlock → Type 0
IsNoBlock tag args Unfit = fits tag args ≡ false
IsNoBlock tag args TooBig = (fits tag args ≡ true) × (encodes tag args ≡ false)
