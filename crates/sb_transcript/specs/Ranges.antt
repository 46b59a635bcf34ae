-- The numbers of a line are in the ranges of their types, and its names are names.
use Rattle.std.specs.Prelude.{◌≡◌, ⊤, ◌<◌, ◌≤◌, ◌^◌, Bool, true, length}
use Rattle.std.specs.List.{list_all}
use Rattle.sb_base.specs.Wide.{is_unit}
use Rattle.sb_block.specs.declared.faults.BlockFault.{BlockFault}
use Rattle.sb_block.specs.declared.faults.BlockFault.TheVariants.{TooManyParams, BadEnd, CountChanged, EndChanged, BadParamType, BadPlace, UnknownTag, WrongShape, BadSize, BadName}
use Rattle.sb_call.specs.ShortNames.{is_short_name}
use Rattle.sb_call.specs.declared.arguments.Arg.{Arg}
use Rattle.sb_call.specs.declared.arguments.Arg.TheVariants.{Num, Str}
use Rattle.sb_transcript.specs.declared.read_lines.ShownDecision.{ShownDecision}
use Rattle.sb_transcript.specs.declared.read_lines.ShownDecision.TheVariants.{Refused, NoRule, Denied, Alarmed, Faked, Allowed, ReadOnly}
use Rattle.sb_transcript.specs.declared.read_lines.ShownReply.{ShownReply}
use Rattle.sb_transcript.specs.declared.read_lines.ShownResult.{ShownResult}
use Rattle.sb_transcript.specs.declared.read_lines.ShownResult.TheVariants.{Reply, NoChannel, SendLost, Foreign, TimedOut, Stored, Found, Met, Unmet}
use Rattle.sb_transcript.specs.declared.read_lines.EntryLine.{EntryLine}
use Rattle.sb_transcript.specs.declared.read_lines.ResultLine.{ResultLine}
use Rattle.sb_transcript.specs.declared.read_lines.TotalsLine.{TotalsLine}
use Rattle.sb_transcript.specs.declared.read_lines.Line.{Line}
use Rattle.sb_transcript.specs.declared.read_lines.Line.TheVariants as line
use Rattle.sb_base.specs.Numbers.{is_word64}

abbrev pub FaultInRange : BlockFault → Type 0
FaultInRange (TooManyParams n) = n < 2 ^ 64
FaultInRange (BadEnd n) = n < 2 ^ 64
FaultInRange (CountChanged a b) = (a < 2 ^ 64) × (b < 2 ^ 64)
FaultInRange (EndChanged a b) = (a < 2 ^ 64) × (b < 2 ^ 64)
FaultInRange (BadParamType i) = i < 2 ^ 32
FaultInRange (BadPlace i) = i < 2 ^ 32
FaultInRange (UnknownTag n) = n < 2 ^ 64
FaultInRange WrongShape = ⊤
FaultInRange (BadSize i) = i < 2 ^ 32
FaultInRange (BadName i) = i < 2 ^ 32

abbrev pub is_argument : Arg → Bool
is_argument (Num n) = is_word64 n
is_argument (Str units) = list_all is_unit units

abbrev pub DecisionInRange : ShownDecision → Type 0
DecisionInRange (Refused fault) = FaultInRange fault
DecisionInRange (NoRule tag) = ⊤
DecisionInRange (Denied tag n) = n < 2 ^ 32
DecisionInRange (Alarmed tag n) = n < 2 ^ 32
DecisionInRange (Faked tag n) = n < 2 ^ 32
DecisionInRange (Allowed tag args n) = (list_all is_argument args ≡ true) × (n < 2 ^ 32)
DecisionInRange (ReadOnly tag args n) = (list_all is_argument args ≡ true) × (n < 2 ^ 32)

pub record ReplyInRange (r : ShownReply) : Type 0 where
  pub outcome : r.outcome < 2 ^ 64
  pub status : r.status < 2 ^ 64
  pub handle : r.handle < 2 ^ 64
  pub few : length r.ext ≤ 7
  pub words : list_all is_word64 r.ext ≡ true

abbrev pub ResultInRange : ShownResult → Type 0
ResultInRange (Reply channel reply) = (channel < 2 ^ 32) × ReplyInRange reply
ResultInRange NoChannel = ⊤
ResultInRange (SendLost channel found) = (channel < 2 ^ 32) × (found < 2 ^ 64)
ResultInRange (Foreign channel mark) = (channel < 2 ^ 32) × (mark < 2 ^ 64)
ResultInRange (TimedOut channel) = channel < 2 ^ 32
ResultInRange Stored = ⊤
ResultInRange (Found value) = value < 2 ^ 64
ResultInRange (Met loads) = loads < 2 ^ 32
ResultInRange (Unmet loads) = loads < 2 ^ 32

pub record EntryInRange (e : EntryLine) : Type 0 where
  pub number : e.number < 2 ^ 64
  pub target : is_short_name e.target ≡ true
  pub channel : e.channel < 2 ^ 32
  pub mark : e.mark < 2 ^ 64
  pub decision : DecisionInRange e.decision
  pub reply : ReplyInRange e.reply

pub record ResultLineInRange (r : ResultLine) : Type 0 where
  pub target : is_short_name r.target ≡ true
  pub thread : r.thread < 2 ^ 32
  pub place : r.place < 2 ^ 32
  pub result : ResultInRange r.result

pub record TotalsInRange (t : TotalsLine) : Type 0 where
  pub entries : t.entries < 2 ^ 64
  pub performed : t.performed < 2 ^ 64
  pub faked : t.faked < 2 ^ 64
  pub denied : t.denied < 2 ^ 64
  pub refused : t.refused < 2 ^ 64
  pub results : t.results < 2 ^ 64

-- each line of the program is so by its types
abbrev pub InRange : Line → Type 0
InRange (line.Entry e) = EntryInRange e
InRange (line.Result r) = ResultLineInRange r
InRange (line.Totals t) = TotalsInRange t
