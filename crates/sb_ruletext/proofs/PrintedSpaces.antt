-- A line of tokens is its first token, and a space before each other.
use Rattle.std.proofs.Common.{◌≡◌, ◌∙◌, ℕ, List, [], ◌∷◌, ◌++◌, ap, sym}
use Rattle.std.proofs.lemmas.List.{append_assoc, append-nil}
use Rattle.sb_text.specs.TokenLaws.{written_token, written_line}
use Rattle.sb_text.specs.Tokens.{Lexeme, Word}
use Rattle.sb_ruletext.specs.Printing.{spaced}
use Rattle.sb_text.specs.PlainLines.{line_text}

pub spaced_line : (token : Lexeme) (more : List Lexeme) → written_line (token ∷ more) ≡ written_token token ++ spaced more
spaced_line token [] = sym (append-nil (written_token token))
spaced_line token (next ∷ more) = ap (λ rest. written_token token ++ 32 ∷ rest) (spaced_line next more)

regrouped : (old first second more end : List ℕ) → (((old ++ first) ++ 32 ∷ second) ++ more) ++ end ≡ old ++ ((first ++ 32 ∷ (second ++ more)) ++ end)
regrouped old first second more end = simp append_assoc

-- a line, put piece by piece: two words, the other tokens, and an LF
pub line_in_pieces : (old first second : List ℕ) (more : List Lexeme)
    → (((old ++ first) ++ 32 ∷ second) ++ spaced more) ++ 10 ∷ [] ≡ old ++ line_text (Word first ∷ Word second ∷ more)
line_in_pieces old first second more =
    let line : written_line (Word first ∷ Word second ∷ more) ≡ first ++ 32 ∷ (second ++ spaced more) = spaced_line (Word first) (Word second ∷ more) in
    regrouped old first second (spaced more) (10 ∷ []) ∙ ap (λ l. old ++ (l ++ 10 ∷ [])) (sym line)
