use Rattle.std.proofs.Common.{◌≡◌, drop}
use Rattle.std.specs.List.{list_any}
use Rattle.sb_commands.specs.Inquiries.{is_help_flag}
use Rattle.sb_commands.specs.Usage.{texts}
use Rattle.sb_commands.proofs.inquiries.has_help_flag.Given as goal

-- the arguments that are left decide
abbrev pub invariant-loop-word : goal.invariant-loop-word
invariant-loop-word l = list_any is_help_flag (texts (drop l.word-index l.words)) ≡ list_any is_help_flag (texts l.words)
