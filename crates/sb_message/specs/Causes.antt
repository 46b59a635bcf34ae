-- What is wrong, in words. The words are those of the program; the definitions have what they may be, and the numbers between them.
use Rattle.std.specs.Prelude.{◌≡◌, ℕ, Bool, true, false, ◌&&◌, nat_le, nat_lt, List, [], ◌∷◌, ◌++◌, if◌then◌else◌}
use Rattle.std.specs.Fmt.{decimal}
use Rattle.std.specs.List.{list_all}
use Rattle.sb_text.specs.declared.refusals.WordFault.{WordFault}
use Rattle.sb_text.specs.declared.refusals.WordFault.TheVariants.{Missing, NoVersion}

-- a printable ASCII character
abbrev pub is_printable : ℕ → Bool
is_printable b = nat_le 32 b && nat_lt b 127

-- words: printable ASCII characters
abbrev pub are_words : List ℕ → Bool
are_words text = list_all is_printable text

-- words with these numbers between them, in this order
abbrev pub HasNumbers : List ℕ → List ℕ → Type 0
HasNumbers [] text = are_words text ≡ true
HasNumbers (n ∷ numbers) text =
    (before : List ℕ) × (after : List ℕ) × (are_words before ≡ true) × (text ≡ before ++ (decimal n ++ after)) × HasNumbers numbers after

-- words, after them the token if they name it, and what may stand there
abbrev pub cause_text : List ℕ → Bool → List ℕ → List ℕ → List ℕ
cause_text words names_token named hint = words ++ (if names_token then named else []) ++ hint

-- whether the words for a token that is not due name it
abbrev pub names_word : WordFault → Bool
names_word Missing = false
names_word NoVersion = false
names_word _ = true

-- words and a number, and again words and a number
abbrev pub two_text : List ℕ → ℕ → List ℕ → ℕ → List ℕ
two_text before first between second = before ++ decimal first ++ between ++ decimal second
