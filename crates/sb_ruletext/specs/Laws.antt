-- What is true of all policy texts: what one line can do to the lines after it.
use Rattle.std.specs.Prelude.{◌≡◌, ℕ, map, ◌≤◌, ◌<◌, true, false, List, ◌++◌, length, None, Ok, Err}
use Rattle.sb_rule.specs.WellMade.{are_well_made}
use Rattle.sb_rule.specs.declared.policies.Policy.{Policy}
use Rattle.sb_rule.specs.declared.policies.Rule.{Rule}
use Rattle.sb_ruletext.specs.PolicyTexts.{PolicyFault, reading}
use Rattle.sb_ruletext.specs.declared.faults.PolicyFaultKind.TheVariants.{BadVersion}
use Rattle.sb_text.specs.LineLaws.{ended, is_line}
use Rattle.sb_text.specs.Lines.{raw_lines, lines_of, is_skipped, without_cr}
use Rattle.sb_text.specs.Readings.{is_some_line, renumbered, behind}
use Rattle.sb_text.specs.Utf8.{not_utf8_place}

-- a fault on one of the first lines of a text, not all of which are blank or comments, is that of each text that begins with these lines
abbrev pub FirstFaultsStay : Type 0
FirstFaultsStay = (front rest other : List ℕ) (fault : PolicyFault)
    → not_utf8_place (ended front ++ rest) ≡ None → not_utf8_place (ended front ++ other) ≡ None
    → is_some_line (lines_of (ended front)) ≡ true → fault.line ≤ length (raw_lines (ended front))
    → reading (ended front ++ rest) ≡ Err fault → reading (ended front ++ other) ≡ Err fault

-- the lines before a fault, not all of which are blank or comments, are policies
abbrev pub LinesBeforeAreRead : Type 0
LinesBeforeAreRead = (front rest : List ℕ) (fault : PolicyFault)
    → not_utf8_place (ended front ++ rest) ≡ None → not_utf8_place (ended front) ≡ None
    → is_some_line (lines_of (ended front)) ≡ true → length (raw_lines (ended front)) < fault.line
    → reading (ended front ++ rest) ≡ Err fault → (policies : List Policy) × (reading (ended front) ≡ Ok policies)

-- blank or comment lines lack a version
abbrev pub SilentTextsLackAVersion : Type 0
SilentTextsLackAVersion = (text : List ℕ) → not_utf8_place text ≡ None → is_some_line (lines_of text) ≡ false
    → reading text ≡ Err (record { line = 1; column = 0; kind = BadVersion })

-- the policies that a text is read as are well made
abbrev pub ReadPoliciesAreWellMade : Type 0
ReadPoliciesAreWellMade = (text : List ℕ) (policies : List Policy) → reading text ≡ Ok policies → are_well_made policies ≡ true

-- a rule, and a policy, with other numbers of lines
abbrev pub renumbered_rule : (ℕ → ℕ) → Rule → Rule
renumbered_rule f rule = record { tag = rule.tag; conds = rule.conds; action = rule.action; line = f rule.line }

abbrev pub renumbered_policy : (ℕ → ℕ) → Policy → Policy
renumbered_policy f policy = record { name = policy.name; rules = map (renumbered_rule f) policy.rules }

-- a blank or comment line may be put in anywhere below the version line, and changes nothing but numbers of lines
abbrev pub SkippedLinesCountAlone : Type 0
SkippedLinesCountAlone = (front line rest : List ℕ) → is_line line ≡ true → is_skipped (without_cr line) ≡ true
    → is_some_line (lines_of (ended front)) ≡ true
    → not_utf8_place (ended front ++ rest) ≡ None → not_utf8_place (ended front ++ (ended line ++ rest)) ≡ None
    → reading (ended front ++ (ended line ++ rest))
    ≡ renumbered (behind (length (raw_lines (ended front)))) (map (renumbered_policy (behind (length (raw_lines (ended front)))))) (reading (ended front ++ rest))
