-- Arguments are read back, and their fields hold no blank outside of quotes.
use Rattle.std.proofs.Common.{◌≡◌, ◌∙◌, ℕ, ◌^◌, ◌<◌, true, List, [], ◌∷◌, ◌++◌, map, None, Some, ap, arith}
use Rattle.std.specs.Prelude.{option_map}
use Rattle.std.specs.List.{list_all}
use Rattle.std.proofs.lemmas.Bool.{and_parts}
use Rattle.std.proofs.lemmas.Bool.Decides.{nat_tests}
use Rattle.sb_base.specs.Numbers.{hexadecimal, is_word64}
use Rattle.sb_call.specs.declared.arguments.Arg.{Arg}
use Rattle.sb_call.specs.declared.arguments.Arg.TheVariants.{Num, Str}
use Rattle.sb_transcript.specs.Fields.{argument_field}
use Rattle.sb_transcript.specs.Ranges.{is_argument}
use Rattle.sb_transcript.specs.Reading.{argument_of, with_argument, arguments_at}
use Rattle.sb_transcript.proofs.NumbersBack.{number_back, hexadecimal_plain}
use Rattle.sb_transcript.proofs.PassingLines.{Leads, AllPass, plain_leads, quoted_leads}
use Rattle.sb_transcript.specs.declared.cuts.Place.TheVariants.{Plain}
use Rattle.sb_transcript.proofs.Unquoted.{units_back}

word64 : (n : ℕ) → is_word64 n ≡ true → n < 2 ^ 64
word64 n h = grind (arith, nat_tests)

argument_back : (arg : Arg) → is_argument arg ≡ true → argument_of (argument_field arg) ≡ Some arg
argument_back (Num n) h = ap (option_map Num) (number_back n (word64 n h))
argument_back (Str units) h = ap (λ us. Some (Str us)) (units_back units h)

pub arguments_back : (args : List Arg) (word : List ℕ) (rest : List (List ℕ)) → list_all is_argument args ≡ true → argument_of word ≡ None
    → arguments_at (map argument_field args ++ word ∷ rest) ≡ Some ((args, word), rest)
arguments_back [] word rest h e = ap (λ o. with_argument word rest o (arguments_at rest)) e
arguments_back (arg ∷ args) word rest h e =
    let p = and_parts (is_argument arg) (list_all is_argument args) h in
    ap (λ o. with_argument (argument_field arg) (map argument_field args ++ word ∷ rest) o (arguments_at (map argument_field args ++ word ∷ rest))) (argument_back arg p.0)
    ∙ ap (with_argument (argument_field arg) (map argument_field args ++ word ∷ rest) (Some arg)) (arguments_back args word rest p.1 e)

argument_passes : (arg : Arg) → is_argument arg ≡ true → Leads 32 Plain Plain (argument_field arg)
argument_passes (Num n) h = plain_leads 32 (48 ∷ 120 ∷ hexadecimal n) (hexadecimal_plain n (word64 n h))
argument_passes (Str units) h = quoted_leads units h

pub arguments_pass : (args : List Arg) → list_all is_argument args ≡ true → AllPass 32 (map argument_field args)
arguments_pass [] h = tt
arguments_pass (arg ∷ args) h =
    let p = and_parts (is_argument arg) (list_all is_argument args) h in
    (argument_passes arg p.0, arguments_pass args p.1)
