-- What `why` and `judge` tell.
use Rattle.std.specs.Prelude.{ℕ, ◌+◌, Bool, true, nat_lt, List, [], ◌∷◌, ◌++◌, length, slice_get, Option, None, Some, Result, Ok, Err}
use Rattle.sb_block.specs.Calls.{decoded}
use Rattle.sb_block.specs.Copies.{Copied, mark_of}
use Rattle.sb_block.specs.declared.calls.Call.{Call}
use Rattle.sb_block.specs.declared.faults.BlockFault.{BlockFault}
use Rattle.sb_book.specs.Histories.{setting_of}
use Rattle.sb_book.specs.declared.entries.Entry.{Entry}
use Rattle.sb_call.specs.declared.arguments.Arg.{Arg}
use Rattle.sb_call.specs.declared.tags.CallTag.{CallTag}
use Rattle.sb_explain.specs.Lines.{copy_line, mark_line, no_entry_line, reason_lines, refused_line, verdict_line}
use Rattle.sb_explain.specs.Reasons.{reasons}
use Rattle.sb_rule.specs.Verdicts.{policy_at, verdict_of}
use Rattle.sb_rule.specs.declared.policies.Policy.{Policy}
use Rattle.sb_rule.specs.declared.policies.Rule.{Rule}
use Rattle.sb_statements.specs.declared.scripts.Script.{Script}
use Rattle.sb_transcript.specs.EntryLines.{entry_line}

-- the rules that judge the calls of a target
abbrev pub rules_of : List Policy → Script → ℕ → List Rule
rules_of policies script target = (policy_at (setting_of policies script).policies target).rules

-- a call, and what each of these rules for it says, up to the one that decides
abbrev pub call_lines : List Rule → CallTag → List Arg → List (List ℕ)
call_lines rules tag args = copy_line tag args ∷ reason_lines tag args (reasons rules tag args)

-- the fault of a copy, or its call
abbrev pub decoded_lines : List Rule → Copied → Result Call BlockFault → List (List ℕ)
decoded_lines rules taken (Ok call) = call_lines rules call.tag call.args
decoded_lines rules taken (Err fault) = refused_line fault taken ∷ []

abbrev pub copy_lines : List Rule → Copied → List (List ℕ)
copy_lines rules taken = decoded_lines rules taken (decoded taken)

-- the lines of entry n: its line in the transcript, the call that its mark belongs to, and its copy
abbrev pub lines_of_entry : List Policy → Script → List ℕ → ℕ → Entry → List (List ℕ)
lines_of_entry policies script lines n e =
    entry_line script n e ∷ mark_line script lines e.target (mark_of e.taken) ∷ copy_lines (rules_of policies script e.target) e.taken

-- the lines of entries, the first of which has the number n
abbrev pub entry_lines : List Policy → Script → List ℕ → ℕ → List Entry → List (List ℕ)
entry_lines policies script lines n [] = []
entry_lines policies script lines n (e ∷ es) = lines_of_entry policies script lines n e ++ entry_lines policies script lines (n + 1) es

-- the lines of the entry that is asked for, of this many, or the line that there is none
abbrev pub lines_of_asked : List Policy → Script → List ℕ → ℕ → ℕ → Option Entry → List (List ℕ)
lines_of_asked policies script lines count asked (Some e) = lines_of_entry policies script lines asked e
lines_of_asked policies script lines count asked None = no_entry_line asked count ∷ []

abbrev pub asked_lines : List Policy → Script → List ℕ → List Entry → ℕ → List (List ℕ)
asked_lines policies script lines entries asked = lines_of_asked policies script lines (length entries) asked (slice_get entries asked)

-- there is the entry that is asked for; if none is asked for, nothing is lacking
abbrev pub has_entry : List Entry → Option ℕ → Bool
has_entry entries None = true
has_entry entries (Some asked) = nat_lt asked (length entries)

-- the lines of `why`: those of all entries, or of the one that is asked for
abbrev pub why_lines : List Policy → Script → List ℕ → List Entry → Option ℕ → List (List ℕ)
why_lines policies script lines entries None = entry_lines policies script lines 0 entries
why_lines policies script lines entries (Some asked) = asked_lines policies script lines entries asked

-- the lines of `judge`: the verdict of a policy on a call, and what its rules say
abbrev pub judge_lines : Policy → CallTag → List Arg → List (List ℕ)
judge_lines policy tag args = verdict_line (verdict_of policy tag args) ∷ call_lines policy.rules tag args
