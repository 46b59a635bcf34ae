-- Readers of a policy text's lines, and items that are joined by a word.
use Rattle.std.specs.Prelude.{⊤, ℕ, zero, suc, List, [], ◌∷◌, Result, Ok, if◌then◌else◌}
use Rattle.sb_ruletext.specs.declared.faults.PolicyFaultKind.{PolicyFaultKind}
use Rattle.sb_ruletext.specs.declared.faults.PolicyFaultKind.TheVariants.{UnknownWord, TooMany}
use Rattle.sb_ruletext.specs.declared.faults.PolicyLimit.{PolicyLimit}
use Rattle.sb_text.specs.Columns.{fails}
use Rattle.sb_text.specs.Steps.{◌>>=◌, Read, word_at, quoted_at, end_at, begins_with, later}
use Rattle.sb_text.specs.Tokens.{Lexemes, Next, End, Word, Quoted, Bad}
use Rattle.sb_text.specs.declared.refusals.TokenFault.{TokenFault}
use Rattle.sb_text.specs.declared.refusals.WordFault.TheVariants.{Missing, Broken, Extra}

-- a word. A quoted token in its place has this fault; a broken one, or none, is UnknownWord
abbrev pub word_or : PolicyFaultKind → Lexemes → Read (List ℕ) PolicyFaultKind
word_or quoted tokens = word_at quoted (UnknownWord Broken) (UnknownWord Missing) tokens

-- what is between quotes. A word in its place has this fault; a broken token, or none, is UnknownWord
abbrev pub quoted_or : PolicyFaultKind → Lexemes → Read (List ℕ) PolicyFaultKind
quoted_or word tokens = quoted_at word (UnknownWord Broken) (UnknownWord Missing) tokens

-- the line ends here. Any extra token is UnknownWord
abbrev pub line_end : Lexemes → Result ⊤ (TokenFault PolicyFaultKind)
line_end tokens = end_at (UnknownWord Extra) (UnknownWord Broken) tokens

-- the fault if one more begins than there may be; a missing or broken token is the fault of its own
abbrev pub excess : PolicyLimit → Lexemes → PolicyFaultKind
excess limit (Next place (Word w) tokens) = TooMany limit
excess limit (Next place (Quoted q) tokens) = TooMany limit
excess limit (Next place Bad tokens) = UnknownWord Broken
excess limit (End place) = UnknownWord Missing

-- an item, and more after this word: at most this many, of which there are no more than the limit allows
unfoldable pub joined_at : {A : Type 0} → PolicyLimit → ℕ → List ℕ → (Lexemes → Read A PolicyFaultKind) → Lexemes → Read (List A) PolicyFaultKind
joined_at limit zero joint item_at tokens = fails tokens (excess limit tokens)
joined_at limit (suc n) joint item_at tokens = do
  (first, rest) ← item_at tokens
  if begins_with joint rest
      then (joined_at limit n joint item_at (later rest) >>= λ (others, rest). Ok (first ∷ others, rest))
      else Ok (first ∷ [], rest)
