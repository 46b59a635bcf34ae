use Rattle.std.proofs.Common.{◌≡◌, ◌∙◌, ◌++◌, ◌∷◌, ◌<◌, [], ℕ, List, true, ap, arith, codes, get_or, nat_lt, refl, sym}
use Rattle.std.proofs.lemmas.Bool.Decides.{nat_tests}
use Rattle.std.specs.Prelude.{◌^◌}
use Rattle.std.proofs.lemmas.Grind.{flat_map-append}
use Rattle.std.proofs.lemmas.List.{append-nil, append_assoc, take_all, take_more}
use Rattle.std.specs.List.{flat_map}
use Rattle.sb_text.specs.TokenLaws.{written_token}
use Rattle.sb_base.specs.Numbers.{is_word64}
use Rattle.sb_ruletext.specs.Printing.{number_word, or_tokens, spaced}
use Rattle.sb_ruletext.proofs.Appended.{part_appended, all_next}
use Rattle.sb_ruletext.proofs.printing.put_more_numbers.Goals as goal

tokens_more : (numbers : List ℕ) (number : ℕ) → flat_map or_tokens (numbers ++ number ∷ []) ≡ flat_map or_tokens numbers ++ or_tokens number
tokens_more numbers number = rw (flat_map-append or_tokens numbers (number ∷ []), append-nil (or_tokens number)) refl

one_more : (numbers : List ℕ) (number : ℕ) → spaced (flat_map or_tokens (numbers ++ number ∷ [])) ≡ spaced (flat_map or_tokens numbers) ++ spaced (or_tokens number)
one_more numbers number =
    ap spaced (tokens_more numbers number) ∙ flat_map-append (λ token. 32 ∷ written_token token) (flat_map or_tokens numbers) (or_tokens number)

regrouped : (now first second : List ℕ) → ((now ++ 32 ∷ first) ++ 32 ∷ []) ++ second ≡ now ++ 32 ∷ (first ++ 32 ∷ (second ++ []))
regrouped now first second =
    append_assoc (now ++ 32 ∷ first) (32 ∷ []) second ∙ append_assoc now (32 ∷ first) (32 ∷ second)
    ∙ ap (λ end. now ++ 32 ∷ (first ++ 32 ∷ end)) (sym (append-nil second))

in_pieces : (now worded split next : List ℕ) (number : ℕ) → worded ≡ now ++ 32 ∷ codes "or" → split ≡ worded ++ 32 ∷ [] → next ≡ split ++ number_word number
    → next ≡ now ++ spaced (or_tokens number)
in_pieces now worded split next number e f g =
    g ∙ ap (λ t. t ++ number_word number) (f ∙ ap (λ t. t ++ 32 ∷ []) e) ∙ regrouped now (codes "or") (number_word number)

is_below : (number limit : ℕ) → number < limit → nat_lt number limit ≡ true
is_below number limit h = grind (arith, nat_tests)

pub loop-number-preserved : goal.loop-number-preserved
loop-number-preserved c =
    let numbers = c.args.numbers.now in
    let i = c.loop-number.number-index in
    let number = get_or numbers i 0 in
    let taken = take_more numbers i 0 c.loop-number-test.true in record {
      text = part_appended (λ numbers. spaced (flat_map or_tokens numbers)) numbers i number _ _ _ _ taken (one_more _ number) c.loop-number.invariant.text
          (in_pieces _ _ _ _ number c.in_ok-put_word.ensures c.in_ok-push.ensures.items c.in_ok-put_number.ensures);
      values = all_next is_word64 numbers i number taken c.loop-number.invariant.values (is_below number (2 ^ 64) (omega (arith, c.type_inv.numbers i)));
    }

pub returns-clause-text : goal.returns-clause-text
returns-clause-text c = rw (take_all c.loop-number.number-index c.args.numbers.now c.loop-number-test.false) at c.loop-number.invariant.text

pub returns-clause-values : goal.returns-clause-values
returns-clause-values c = rw (take_all c.loop-number.number-index c.args.numbers.now c.loop-number-test.false) at c.loop-number.invariant.values
