-- Tokens as lists and numbers, by which proofs tell them apart.
use Rattle.std.specs.Prelude.{◌≡◌, refl, ℕ, zero, suc, List, [], ◌∷◌}
use Rattle.std.specs.Coded.{Coded, code_by, coded×, coded_list, coded_ℕ}
use Rattle.sb_text.specs.Tokens.{Lexeme, Lexemes, Word, Quoted, Bad, Next, End}

-- a token as its kind and its bytes
abbrev pub parts_of : Lexeme → ℕ × List ℕ
parts_of (Word w) = (0, w)
parts_of (Quoted q) = (1, q)
parts_of Bad = (2, [])

-- the token of this kind and these bytes
abbrev pub of_parts : ℕ → List ℕ → Lexeme
of_parts zero w = Word w
of_parts (suc zero) q = Quoted q
of_parts (suc (suc n)) bytes = Bad

pub same_parts : (token : Lexeme) → of_parts (parts_of token).0 (parts_of token).1 ≡ token
same_parts (Word w) = refl
same_parts (Quoted q) = refl
same_parts Bad = refl

abbrev pub lexeme_code : Coded Lexeme
lexeme_code = code_by (ℕ × List ℕ) (coded× coded_ℕ (coded_list coded_ℕ)) parts_of (λ p. of_parts p.0 p.1) same_parts

-- tokens as a list of them with their places, and the place of the end
abbrev pub list_of : Lexemes → List (ℕ × Lexeme) × ℕ
list_of (Next place token tokens) = ((place, token) ∷ (list_of tokens).0, (list_of tokens).1)
list_of (End place) = ([], place)

-- the tokens of such a list, and the end at this place
abbrev pub of_list : List (ℕ × Lexeme) → ℕ → Lexemes
of_list [] end = End end
of_list (token ∷ tokens) end = Next token.0 token.1 (of_list tokens end)

pub same_list : (tokens : Lexemes) → of_list (list_of tokens).0 (list_of tokens).1 ≡ tokens
same_list (Next place token tokens) = λ i. Next place token (same_list tokens i)
same_list (End place) = refl

abbrev pub lexemes_code : Coded Lexemes
lexemes_code =
    code_by (List (ℕ × Lexeme) × ℕ) (coded× (coded_list (coded× coded_ℕ lexeme_code)) coded_ℕ) list_of (λ p. of_list p.0 p.1) same_list
