use Rattle.std.proofs.Common.{◌≡◌, ◌≤◌, length}
use Rattle.std.specs.Str.{IsUtf8}
use Rattle.sb_text.specs.Tokens.{Between, by_tokens, scan, tokens_of}
use Rattle.sb_text.proofs.tokens.without_blanks.Given as goal

abbrev pub invariant-loop-rest : goal.invariant-loop-rest
invariant-loop-rest l = IsUtf8 l.rest × (length l.rest ≤ length l.text) × (scan by_tokens (Between (length l.text)) l.rest ≡ tokens_of l.text)

abbrev pub decreases-loop-rest : goal.decreases-loop-rest
decreases-loop-rest l = length l.rest
