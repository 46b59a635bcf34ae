-- Words with numbers between them, and the messages that have them.
use Rattle.std.proofs.Common.{◌≡◌, ◌∙◌, ℕ, Bool, true, List, [], ◌∷◌, ◌++◌, ap, refl, sym}
use Rattle.std.proofs.lemmas.List.{append_assoc, append-nil}
use Rattle.std.specs.Fmt.{decimal}
use Rattle.sb_message.specs.declared.messages.NumberedFault.{NumberedFault}
use Rattle.sb_message.specs.Causes.{HasNumbers, are_words, cause_text, two_text}
use Rattle.sb_message.specs.Messages.{IsMessage, fault_message, message_with}
use Rattle.sb_message.specs.Places.{named_at, shown_line}

two_in : (before between after : List ℕ) (n m : ℕ)
    → two_text before n between m ++ after ≡ before ++ (decimal n ++ (between ++ (decimal m ++ after)))
two_in before between after n m =
    append_assoc (before ++ decimal n ++ between) (decimal m) after
    ∙ append_assoc (before ++ decimal n) between (decimal m ++ after)
    ∙ append_assoc before (decimal n) (between ++ (decimal m ++ after))

-- words with two numbers between them
pub two_numbers : (before between after : List ℕ) (n m : ℕ) (text : List ℕ) → are_words before ≡ true → are_words between ≡ true → are_words after ≡ true
    → text ≡ two_text before n between m ++ after → HasNumbers (n ∷ m ∷ []) text
two_numbers before between after n m text b c a t =
    (before, between ++ (decimal m ++ after), b, t ∙ two_in before between after n m, (between, after, c, refl, a))

-- words with three numbers, the last of them at the end
pub three_numbers : (before between after : List ℕ) (n m k : ℕ) (text : List ℕ) → are_words before ≡ true → are_words between ≡ true → are_words after ≡ true
    → text ≡ two_text before n between m ++ after ++ decimal k → HasNumbers (n ∷ m ∷ k ∷ []) text
three_numbers before between after n m k text b c a t = (
  before,
  between ++ (decimal m ++ (after ++ (decimal k ++ []))),
  b,
  t
      ∙ ap (λ d. two_text before n between m ++ after ++ d) (sym (append-nil (decimal k)))
      ∙ append_assoc (two_text before n between m) after (decimal k ++ [])
      ∙ two_in before between (after ++ (decimal k ++ [])) n m,
  (between, after ++ (decimal k ++ []), c, refl, (after, [], a, refl, refl)),
)

-- a message that was put together of these parts
pub told : (fault : NumberedFault) (numbers : List ℕ) (names_token : Bool) (file line words hint named lines cause text : List ℕ) → HasNumbers numbers words
    → are_words hint ≡ true → named ≡ named_at fault.text fault.column line → lines ≡ shown_line fault.text fault.column line
    → cause ≡ cause_text words names_token named hint → text ≡ message_with fault cause file lines → IsMessage fault numbers names_token file line text
told fault numbers names_token file line words hint named lines cause text w h n l c t = record {
  words = words;
  hint = hint;
  numbered = w;
  plain = h;
  is = t ∙ (λ i. message_with fault (c i) file (l i)) ∙ ap (λ named. fault_message fault (cause_text words names_token named hint) file line) n;
}
