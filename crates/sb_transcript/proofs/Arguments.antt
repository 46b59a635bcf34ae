-- Arguments that are read one after another.
use Rattle.std.proofs.Common.{◌≡◌, ◌∙◌, ℕ, refl, sym, ap, List, [], ◌∷◌, ◌++◌, append_assoc, Option, None, Some}
use Rattle.std.proofs.lemmas.List.{append-nil}
use Rattle.sb_call.specs.declared.arguments.Arg.{Arg}
use Rattle.sb_transcript.specs.Reading.{argument_of, with_argument, arguments_at}
use Rattle.sb_transcript.specs.Steps.{Read}

-- arguments that follow others
abbrev pub with_arguments : List Arg → Read (List Arg × List ℕ) → Read (List Arg × List ℕ)
with_arguments before None = None
with_arguments before (Some ((args, word), rest)) = Some ((before ++ args, word), rest)

one : (before : List Arg) (arg : Arg) (field : List ℕ) (fields : List (List ℕ)) (read : Read (List Arg × List ℕ))
    → with_arguments (before ++ arg ∷ []) read ≡ with_arguments before (with_argument field fields (Some arg) read)
one before arg field fields None = refl
one before arg field fields (Some ((args, word), rest)) = ap (λ items. Some ((items, word), rest)) (append_assoc before (arg ∷ []) args)

at_fields : (before : List Arg) (field : List ℕ) (fields l : List (List ℕ)) (o : Option Arg) (z : Read (List Arg × List ℕ)) → with_arguments before (arguments_at l) ≡ z → l ≡ field ∷ fields
    → argument_of field ≡ o → with_arguments before (with_argument field fields o (arguments_at fields)) ≡ z
at_fields before field fields l o z begun e h =
    sym (ap (λ o. with_arguments before (with_argument field fields o (arguments_at fields))) h) ∙ sym (ap (λ fs. with_arguments before (arguments_at fs)) e) ∙ begun

-- one more argument, a word after the arguments, or no word
pub one_more : (before : List Arg) (arg : Arg) (field : List ℕ) (fields l : List (List ℕ)) (z : Read (List Arg × List ℕ)) → with_arguments before (arguments_at l) ≡ z → l ≡ field ∷ fields
    → argument_of field ≡ Some arg → with_arguments (before ++ arg ∷ []) (arguments_at fields) ≡ z
one_more before arg field fields l z begun e h = one before arg field fields (arguments_at fields) ∙ at_fields before field fields l (Some arg) z begun e h

pub none_more : (before : List Arg) (field : List ℕ) (fields l : List (List ℕ)) (z : Read (List Arg × List ℕ)) → with_arguments before (arguments_at l) ≡ z → l ≡ field ∷ fields
    → argument_of field ≡ None → z ≡ Some ((before, field), fields)
none_more before field fields l z begun e h =
    sym (at_fields before field fields l None z begun e h) ∙ ap (λ items. Some ((items, field), fields)) (append-nil before)

pub no_word : (before : List Arg) (l : List (List ℕ)) (z : Read (List Arg × List ℕ)) → with_arguments before (arguments_at l) ≡ z → l ≡ [] → z ≡ None
no_word before l z begun e = sym begun ∙ ap (λ fs. with_arguments before (arguments_at fs)) e
