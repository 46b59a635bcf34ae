-- Whether two lines show the same decision, and the same reply.
use Rattle.std.specs.Prelude.{ℕ, Bool, false, ◌&&◌, ◌==◌, nat_eq, List}
use Rattle.std.specs.Cmp.Lexicographic.{pointwise}
use Rattle.sb_block.specs.declared.faults.BlockFault.{BlockFault}
use Rattle.sb_book.specs.Histories.{fault_words}
use Rattle.sb_call.specs.Tags.{number_of}
use Rattle.sb_call.specs.declared.arguments.Arg.{Arg}
use Rattle.sb_call.specs.declared.arguments.Arg.TheVariants.{Num, Str}
use Rattle.sb_call.specs.declared.tags.CallTag.{CallTag}
use Rattle.sb_transcript.specs.declared.read_lines.ShownDecision.{ShownDecision}
use Rattle.sb_transcript.specs.declared.read_lines.ShownDecision.TheVariants.{Refused, NoRule, Denied, Alarmed, Faked, Allowed, ReadOnly}
use Rattle.sb_transcript.specs.declared.read_lines.ShownReply.{ShownReply}

-- two lists of numbers are the same
abbrev pub same_numbers : List ℕ → List ℕ → Bool
same_numbers a b = pointwise nat_eq a b

abbrev pub same_tag : CallTag → CallTag → Bool
same_tag a b = number_of a == number_of b

abbrev pub same_argument : Arg → Arg → Bool
same_argument (Num a) (Num b) = a == b
same_argument (Str a) (Str b) = same_numbers a b
same_argument (Num a) (Str b) = false
same_argument (Str a) (Num b) = false

abbrev pub same_arguments : List Arg → List Arg → Bool
same_arguments a b = pointwise same_argument a b

-- a fault's number and its values
abbrev pub same_fault : BlockFault → BlockFault → Bool
same_fault a b = same_numbers (fault_words a) (fault_words b)

abbrev pub same_decision : ShownDecision → ShownDecision → Bool
same_decision (Refused a) (Refused b) = same_fault a b
same_decision (NoRule t) (NoRule u) = same_tag t u
same_decision (Denied t n) (Denied u m) = same_tag t u && n == m
same_decision (Alarmed t n) (Alarmed u m) = same_tag t u && n == m
same_decision (Faked t n) (Faked u m) = same_tag t u && n == m
same_decision (Allowed t a n) (Allowed u b m) = same_tag t u && same_arguments a b && n == m
same_decision (ReadOnly t a n) (ReadOnly u b m) = same_tag t u && same_arguments a b && n == m
same_decision a b = false

abbrev pub same_reply : ShownReply → ShownReply → Bool
same_reply a b = a.outcome == b.outcome && a.status == b.status && a.handle == b.handle && same_numbers a.ext b.ext
