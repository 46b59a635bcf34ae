use Rattle.std.proofs.Common.{length}
use Rattle.sb_audit.specs.Audited.{audited}
use Rattle.sb_audit.proofs.Reading.{IsRead}
use Rattle.sb_audit.proofs.audits.answer.Given as goal

abbrev pub invariant-loop-raw : goal.invariant-loop-raw
invariant-loop-raw g l =
    IsRead l.context.policies l.context.script (audited l.context.policies l.context.script l.text) (length l.text) l.walk l.last l.lines

abbrev pub decreases-loop-raw : goal.decreases-loop-raw
decreases-loop-raw g l = length l.lines
