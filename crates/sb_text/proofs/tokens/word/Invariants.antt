use Rattle.std.proofs.Common.{◌≡◌, ℕ, ◌-◌, ◌≤◌, [], length, take, drop}
use Rattle.sb_text.specs.Tokens.{by_tokens, scan, InWord}
use Rattle.sb_text.proofs.tokens.word.Given as goal

abbrev pub invariant-loop-n : goal.invariant-loop-n
invariant-loop-n l =
    (l.n ≤ length l.text) × ((place : ℕ) → scan by_tokens (InWord place (take l.n l.text)) (drop l.n l.text) ≡ scan by_tokens (InWord place []) l.text)

abbrev pub decreases-loop-n : goal.decreases-loop-n
decreases-loop-n l = length l.initial.text - l.n
