-- The totals that verdicts over all statements give, if each statement is a call and every channel is clean.
use Rattle.std.specs.Prelude.{◌≡◌, ℕ, Bool, true, false, List, count_by, sum_by}
use Rattle.std.specs.List.{list_all}
use Rattle.sb_book.specs.Decisions.{by_verdict}
use Rattle.sb_book.specs.Readiness.{IsReady}
use Rattle.sb_book.specs.declared.decisions.Decision.{Decision}
use Rattle.sb_book.specs.declared.reports.Report.{Report}
pub use Rattle.sb_core.specs.EntryCounts.{statement_count, statements_in}
use Rattle.sb_core.specs.Fits.{Fits}
use Rattle.sb_local.specs.Serial.{is_call}
use Rattle.sb_rule.specs.Verdicts.{policy_at, verdict_of}
use Rattle.sb_rule.specs.declared.policies.Policy.{Policy}
use Rattle.sb_statements.specs.Scripts.{is_clean}
use Rattle.sb_statements.specs.declared.scripts.Script.{Script}
use Rattle.sb_statements.specs.declared.scripts.TargetScript.{TargetScript}
use Rattle.sb_statements.specs.declared.statements.Statement.{Statement}
use Rattle.sb_statements.specs.declared.statements.Statement.TheVariants.{Call, Store, Exchange, Load, Wait}
use Rattle.sb_transcript.specs.Fields.{ended}
use Rattle.sb_transcript.specs.Totals.{is_denied, is_faked, is_performed, totals_line}
use Rattle.sb_transcript.specs.declared.read_lines.Line.TheVariants.{Totals}

-- a statement is a call on which the verdict of the policy leads to such a decision
abbrev pub is_decided : (Decision → Bool) → Policy → Statement → Bool
is_decided is_such policy (Call tag args) = is_such (by_verdict tag args (verdict_of policy tag args))
is_decided is_such policy (Store target word value) = false
is_decided is_such policy (Exchange target word from to) = false
is_decided is_such policy (Load target word) = false
is_decided is_such policy (Wait target word value most) = false

-- how many statements of a target are
abbrev pub decided_in : (Decision → Bool) → List Policy → TargetScript → ℕ
decided_in is_such policies target = sum_by (λ statements. count_by (is_decided is_such (policy_at policies target.policy)) statements) target.threads

-- and of a script
abbrev pub decided : (Decision → Bool) → List Policy → Script → ℕ
decided is_such policies script = sum_by (decided_in is_such policies) script.targets

-- as many entries and results as statements; how many calls are performed, faked and denied by their verdicts; and no block is refused
abbrev pub totals_by : List Policy → Script → List ℕ
totals_by policies script =
    ended (Totals (record {
      entries = statement_count script;
      performed = decided is_performed policies script;
      faked = decided is_faked policies script;
      denied = decided is_denied policies script;
      refused = 0;
      results = statement_count script;
    }))

-- each statement is a call
abbrev pub are_calls : Script → Bool
are_calls script = list_all (λ target. list_all (λ statements. list_all is_call statements) target.threads) script.targets

-- every channel is clean
abbrev pub AllClean : Script → Type 0
AllClean script = (target channel : ℕ) → is_clean script target channel ≡ true

-- the totals of every report that fits a script of calls with clean channels are those of the verdicts
abbrev pub TotalsAreOfVerdicts : Type 0
TotalsAreOfVerdicts = (policies : List Policy) (script : Script) (report : Report) → IsReady policies script
    → are_calls script ≡ true → AllClean script → Fits policies script report → totals_line report ≡ totals_by policies script
