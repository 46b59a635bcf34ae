-- What `make SEED TARGETS CALLS` means.
use Rattle.std.specs.Prelude.{◌≡◌, ℕ, ◌*◌, List, [], ◌++◌, Some, codes, Result, Ok, Err, None}
use Rattle.std.specs.Fmt.{decimal}
use Rattle.sb_book.specs.declared.reports.Report.{Report}
use Rattle.sb_core.specs.Runs.{IsSomeRun}
use Rattle.sb_gen.specs.Policies.{policy_text}
use Rattle.sb_gen.specs.Scripts.{script_of}
use Rattle.sb_rule.specs.declared.policies.Policy.{Policy}
use Rattle.sb_ruletext.specs.PolicyTexts.{PolicyFault, reading}
use Rattle.sb_statements.specs.declared.schedules.Schedule.{Schedule}
use Rattle.sb_message.specs.declared.statuses.EndStatus.TheVariants.{Done}
use Rattle.sb_plain.specs.Contents.{Contents, ShownRefusal, missing}
use Rattle.sb_plain.specs.Ends.{End, IsOrderOf, ScriptRun}
use Rattle.sb_plain.specs.Readings.{ReportedEnd, reported}
use Rattle.sb_plain.specs.Replay.{whole_run}
use Rattle.sb_top.specs.Totals.{totals_by}

-- the policies of a text without a fault
abbrev pub policies_or_none : Result (List Policy) PolicyFault → List Policy
policies_or_none (Ok policies) = policies
policies_or_none (Err fault) = []

-- the policies of generated scripts, by their text
unfoldable pub made_policies : List Policy
made_policies = policies_or_none (reading policy_text)

-- `made targets A threads B calls C`: two threads a target, each with C calls
abbrev pub made_line : ℕ → ℕ → List ℕ
made_line targets calls =
    codes "made targets " ++ (decimal targets ++ (codes " threads " ++ (decimal (targets * 2) ++ (codes " calls " ++ (decimal (targets * 2 * calls) ++ codes "\n")))))

-- that line, and the totals that the verdicts of the policy over all statements give
unfoldable pub made_text : ℕ → ℕ → ℕ → List ℕ
made_text seed targets calls = made_line targets calls ++ totals_by made_policies (script_of seed targets calls)

-- the report is that of a run of the script that is made, by some order of steps
abbrev pub IsMadeReport : ℕ → ℕ → ℕ → Report → Type 0
IsMadeReport seed targets calls report = IsSomeRun made_policies (script_of seed targets calls) report

-- the run of the script that is made, by this order of steps
abbrev pub made_run : ℕ → ℕ → ℕ → Schedule → ScriptRun
made_run seed targets calls order = record {
  policies = made_policies;
  script = script_of seed targets calls;
  ran = whole_run made_policies (script_of seed targets calls) order;
}

-- the two lines are written
abbrev pub made_end : ℕ → ℕ → ℕ → Schedule → End
made_end seed targets calls order =
    record { text = Some (made_text seed targets calls); status = Done; run = Some (made_run seed targets calls order); notes = None }

-- this is the end of a run of the script that is made, by some order of steps
pub record IsMadeEnd (seed targets calls : ℕ) (end : ReportedEnd) : Type 0 where
  pub order : Schedule
  pub is_order : IsOrderOf order (made_end seed targets calls order)
  pub is : end ≡ reported (made_end seed targets calls order)

-- a script is made and run by this order of steps
abbrev pub make_end : ℕ → ℕ → ℕ → Schedule → Contents → Result End ShownRefusal
make_end seed targets calls order [] = Ok (made_end seed targets calls order)
make_end seed targets calls order _ = Err (missing 1)
