-- What a policy text means: policies, or the first fault.
use Rattle.std.specs.Prelude.{ℕ, List, [], Result, codes}
use Rattle.sb_rule.specs.declared.policies.Policy.{Policy}
use Rattle.sb_ruletext.specs.Lines.{line_of}
use Rattle.sb_ruletext.specs.declared.faults.PolicyFaultKind.{PolicyFaultKind}
use Rattle.sb_ruletext.specs.declared.faults.PolicyFaultKind.TheVariants.{NotUtf8, BadVersion}
use Rattle.sb_text.specs.Lines.{NumberedLine}
use Rattle.sb_text.specs.Readings.{Grammar, read_text}
use Rattle.sb_text.specs.Steps.{version_at}
use Rattle.sb_text.specs.Tokens.{by_tokens, tokens_of}
use Rattle.sb_text.specs.declared.refusals.LineFault.{LineFault}
use Rattle.sb_text.specs.declared.refusals.TokenFault.{TokenFault}

-- the first fault of a policy text
abbrev pub PolicyFault : Type 0
PolicyFault = LineFault PolicyFaultKind

-- the version line: `sandbox-policy 1` or `sandbox-policy 2`
abbrev pub policy_version : List ℕ → Result ℕ (TokenFault PolicyFaultKind)
policy_version line = version_at BadVersion (codes "sandbox-policy") 2 (tokens_of line)

-- the policies so far, and what a line of a text of this version adds to them
abbrev pub add_line : ℕ → List Policy → NumberedLine → Result (List Policy) (TokenFault PolicyFaultKind)
add_line version policies line = line_of version policies line.number (tokens_of line.text)

-- policy texts
abbrev pub grammar : Grammar (List Policy) PolicyFaultKind
grammar = record { layout = by_tokens; version = policy_version; no_version = BadVersion; start = []; add = add_line }

-- the policies of a text, or its first fault
abbrev pub reading : List ℕ → Result (List Policy) PolicyFault
reading text = read_text NotUtf8 grammar text
