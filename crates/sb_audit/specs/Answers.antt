-- The answer to a transcript that is refuted.
use Rattle.std.specs.Prelude.{ℕ}
use Rattle.sb_audit.specs.Dues.{clause_of}
use Rattle.sb_audit.specs.declared.answers.AuditAnswer.{AuditAnswer}
use Rattle.sb_audit.specs.declared.answers.AuditAnswer.TheVariants.{No}
use Rattle.sb_audit.specs.declared.dues.Due.{Due}

-- the clause that asks for what is due fails at this line
abbrev pub refutation : ℕ → Due → AuditAnswer
refutation line due = No (record { line = line; clause = clause_of due; due = due })
