-- What a book is to answer with.
use Rattle.std.specs.Prelude.{◌≡◌, ◌<◌, List, length, slice_index}
use Rattle.sb_book.specs.Histories.{History}
use Rattle.sb_rule.specs.declared.policies.Policy.{Policy}

-- the targets of a book are judged by these policies, and the first of them is there and has a channel
pub record CanAnswer (policies : List Policy) (h : History) : Type 0 where
  pub judged : h.setting.policies ≡ policies
  pub target : 0 < length policies
  pub channel : 0 < slice_index h.setting.channels 0
