-- The number of a fault is the first of its words.
use Rattle.std.proofs.Common.{◌≡◌, ℕ, List, ap}
use Rattle.std.specs.Prelude.{slice_index}
use Rattle.sb_block.specs.declared.faults.BlockFault.{BlockFault}
use Rattle.sb_book.specs.Replies.{fault_words}
use Rattle.sb_c.specs.Blocks.{IsFaultShown}
use Rattle.sb_c.specs.declared.shapes.CopyFault.{CopyFault}

pub first_of_words : (found : BlockFault) (shown : CopyFault) → IsFaultShown found shown → shown.number ≡ slice_index (fault_words found) 0
first_of_words found shown is = ap (λ (ws : List ℕ). slice_index ws 0) is.0
