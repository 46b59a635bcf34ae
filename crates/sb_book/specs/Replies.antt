-- What replies say: outcomes, the words of a fault, and the answer of a service.
use Rattle.std.specs.Prelude.{ℕ, List, [], ◌∷◌}
use Rattle.sb_call.specs.declared.replies.Answer.{Answer}
use Rattle.sb_call.specs.declared.replies.Reply.{Reply}
use Rattle.sb_block.specs.declared.faults.BlockFault.{BlockFault}
use Rattle.sb_block.specs.declared.faults.BlockFault.TheVariants.{TooManyParams, BadEnd, CountChanged, EndChanged, BadParamType, BadPlace, UnknownTag, WrongShape, BadSize, BadName}

-- a fault's number, and then its values
abbrev pub fault_words : BlockFault → List ℕ
fault_words (TooManyParams n) = 1 ∷ n ∷ []
fault_words (BadEnd e) = 2 ∷ e ∷ []
fault_words (CountChanged a b) = 3 ∷ a ∷ b ∷ []
fault_words (EndChanged a b) = 4 ∷ a ∷ b ∷ []
fault_words (BadParamType i) = 5 ∷ i ∷ []
fault_words (BadPlace i) = 6 ∷ i ∷ []
fault_words (UnknownTag t) = 7 ∷ t ∷ []
fault_words WrongShape = 8 ∷ []
fault_words (BadSize i) = 9 ∷ i ∷ []
fault_words (BadName i) = 10 ∷ i ∷ []

-- the outcome of a reply to a call that was performed
abbrev pub performed_outcome : ℕ
performed_outcome = 0

-- to a block that was refused
abbrev pub refused_outcome : ℕ
refused_outcome = 1

-- to a call that was denied
abbrev pub denied_outcome : ℕ
denied_outcome = 2

-- to a call that was faked
abbrev pub faked_outcome : ℕ
faked_outcome = 3

-- the reply that shows a service's answer
abbrev pub performed_reply : ℕ → Answer → Reply
performed_reply mark a = record { mark = mark; outcome = performed_outcome; status = a.status; handle = a.handle; ext = a.ext }
