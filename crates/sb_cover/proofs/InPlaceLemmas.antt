-- Strings in place of others.
use Rattle.std.proofs.Common.{◌≡◌, ◌⊎◌, inl, ◌∙◌, ◌<◌, ℕ, Bool, true, false, cond, not, List, [], ◌∷◌, ◌&&◌, ◌||◌, eqb, leb, length, map, refl, ap, sym, subst, arith}
use Rattle.std.proofs.lemmas.Bool.{and_parts, false≢true}
use Rattle.std.proofs.lemmas.Bool.Decides.{nat_tests}
use Rattle.sb_base.specs.Names.{is_ordinary}
use Rattle.sb_base.specs.Surrogates.{is_high}
use Rattle.sb_call.specs.declared.arguments.Arg.TheVariants as arg
use Rattle.sb_rule.specs.Matching.{matches}
use Rattle.sb_rule.specs.Verdicts.{test_holds}
use Rattle.sb_rule.specs.declared.cells.Cell.{Cell}
use Rattle.sb_cover.specs.AskedConds.{by_negation, cond_at, cells_of_cond, is_text, met, TextsAreMatched}
use Rattle.sb_cover.specs.Choices.{IsInPlace}
use Rattle.sb_cover.specs.Letters.{IsStandIn}
use Rattle.sb_cover.specs.Modes.{accepts, mode_after}
use Rattle.sb_cover.specs.Positions.{cells_at}
use Rattle.sb_cover.specs.Shown.{is_plain_unit, starts_low, mended, are_plain}
use Rattle.sb_cover.specs.declared.asked_conds.AskedCond.{AskedCond}
use Rattle.sb_cover.proofs.ModeLemmas.{mode_other}
use Rattle.sb_cover.proofs.ShownLemmas.{mended_length, mended_same}
use Rattle.sb_cover.proofs.TextLemmas.{cells_are}

pub in_place_itself : (conds : List AskedCond) (units text : List ℕ) → text ≡ units → IsInPlace conds units text
in_place_itself conds units text e = record {
  long = ap length e;
  accepted = λ first h. ap (accepts first) e ∙ h;
  same = λ n. ap (λ u. met conds (arg.Str u) n) e;
}

-- a unit that no script can have by itself is no `\`
not_slash : (u : ℕ) → is_plain_unit u ≡ false → eqb u 92 ≡ false
not_slash u h = grind (arith, nat_tests)

mended_accepted : (patterns : List (List Cell)) (other : ℕ) → IsStandIn patterns other → (units : List ℕ) (follows : Bool) (mode : ℕ) → accepts mode units ≡ true
    → accepts mode (mended other follows units) ≡ true
mended_accepted patterns other is [] follows mode h = h
mended_accepted patterns other is (u ∷ us) true mode h = mended_accepted patterns other is us false (mode_after mode u) h
mended_accepted patterns other is (u ∷ us) false mode h =
    by (is_high u && starts_low us) refl (is_plain_unit u) refl (λ m k. mended_accepted patterns other is us (is_high u && starts_low us) m k)
  where
    by : (b : Bool) → (is_high u && starts_low us) ≡ b → (p : Bool) → is_plain_unit u ≡ p
        → ((m : ℕ) → accepts m us ≡ true → accepts m (mended other (is_high u && starts_low us) us) ≡ true)
        → accepts (mode_after mode (cond ((is_high u && starts_low us) || is_plain_unit u) u other)) (mended other (is_high u && starts_low us) us) ≡ true
    by true e p k rest =
        (λ i. accepts (mode_after mode (cond (e i || is_plain_unit u) u other)) (mended other (is_high u && starts_low us) us)) ∙ rest (mode_after mode u) h
    by false e true k rest =
        (λ i. accepts (mode_after mode (cond (e i || k i) u other)) (mended other (is_high u && starts_low us) us)) ∙ rest (mode_after mode u) h
    by false e false k rest =
        (λ i. accepts (mode_after mode (cond (e i || k i) u other)) (mended other (is_high u && starts_low us) us))
        ∙ rest (mode_after mode other) (mode_other mode u other is (inl (not_slash u k)) us h)

pub in_place_mended : TextsAreMatched → (conds : List AskedCond) (patterns : List (List Cell)) (other : ℕ) (units : List ℕ) → patterns ≡ map cells_of_cond conds → IsStandIn patterns other
    → ((k : ℕ) → are_plain false (cells_at patterns k) ≡ true) → IsInPlace conds units (mended other false units)
in_place_mended law conds patterns other units e is plain = record {
  long = mended_length other false units;
  accepted = λ first h. mended_accepted patterns other is units false first h;
  same = λ n.
      let cells : cells_of_cond (cond_at conds n) ≡ cells_at patterns n = sym (cells_are conds patterns n e) in
      ap (by_negation (cond_at conds n).cond.negated)
      (law (cond_at conds n).cond.test (mended other false units)
      ∙ ap (λ b. is_text (cond_at conds n).cond.test && b)
      (ap (λ c. matches c (mended other false units)) cells ∙ mended_same other (cells_at patterns n) units is.own (plain n) (is.apart n) ∙ sym (ap (λ c. matches c units) cells))
      ∙ sym (law (cond_at conds n).cond.test units));
}
