-- How far strings are names.
use Rattle.std.proofs.Common.{◌≡◌, ◌⊎◌, inl, inr, ◌∙◌, ℕ, Bool, true, false, cond, not, List, [], ◌∷◌, ◌++◌, ◌&&◌, ◌||◌, eqb, leb, refl, ap, sym, subst, arith}
use Rattle.std.proofs.lemmas.Bool.{false≢true}
use Rattle.std.proofs.lemmas.Bool.Decides.{nat_tests}
use Rattle.sb_base.specs.Names.{is_ordinary}
use Rattle.sb_base.specs.Wide.{folded}
use Rattle.sb_rule.specs.declared.cells.Cell.{Cell}
use Rattle.sb_cover.specs.Letters.{IsStandIn}
use Rattle.sb_cover.specs.Modes.{mode_after, mode_inside, mode_of_word, accepts, is_accepting}

pub mode_of_longer : (first : ℕ) (word : List ℕ) (unit : ℕ) → mode_of_word first (word ++ unit ∷ []) ≡ mode_after (mode_of_word first word) unit
mode_of_longer first [] unit = refl
mode_of_longer first (u ∷ us) unit = mode_of_longer (mode_after first u) us unit

pub accepts_by_mode : (mode : ℕ) (units : List ℕ) → accepts mode units ≡ is_accepting (mode_of_word mode units)
accepts_by_mode mode [] = refl
accepts_by_mode mode (u ∷ us) = accepts_by_mode (mode_after mode u) us

dead : (a b : Bool) (mode : ℕ) → cond a 0 (cond (b && false) mode 0) ≡ 0
dead true b mode = refl
dead false true mode = refl
dead false false mode = refl

-- the mode 0 stays
pub stays : (u : ℕ) → mode_after 0 u ≡ 0
stays u = dead (eqb u 92) (is_ordinary u) (mode_inside u)

-- no string of the mode 0 is accepted
pub never_accepts : (units : List ℕ) → accepts 0 units ≡ false
never_accepts [] = refl
never_accepts (u ∷ us) = ap (λ mode. accepts mode us) (stays u) ∙ never_accepts us

-- the mode, by what is known of a unit
abbrev mode_by : ℕ → Bool → Bool → Bool → ℕ
mode_by mode slash ordinary ends =
    cond (eqb mode 5) 5 (cond slash (cond (eqb mode 1 || eqb mode 3) 2 0) (cond (ordinary && (eqb mode 2 || (eqb mode 3 || eqb mode 4))) (cond ends 4 3) 0))

folded_slash : (u : ℕ) → eqb (folded u) 92 ≡ eqb u 92
folded_slash u = grind (arith, nat_tests)

folded_ends : (u : ℕ) → (eqb (folded u) 32 || eqb (folded u) 46) ≡ (eqb u 32 || eqb u 46)
folded_ends u = grind (arith, nat_tests)

folded_ordinary : (u : ℕ) → is_ordinary (folded u) ≡ is_ordinary u
folded_ordinary u = grind (arith, nat_tests)

pub mode_folded : (mode u : ℕ) → mode_after mode (folded u) ≡ mode_after mode u
mode_folded mode u = λ i. mode_by mode (folded_slash u i) (folded_ordinary u i) (folded_ends u i)

-- after a unit with which no component ends, at least as much is accepted
ends_less : (later : List ℕ) → accepts 4 later ≡ true → accepts 3 later ≡ true
ends_less [] h = absurd (false≢true h)
ends_less (u ∷ us) h = by (eqb u 92) (is_ordinary u) refl refl
  where
    by : (s o : Bool) → eqb u 92 ≡ s → is_ordinary u ≡ o → accepts 3 (u ∷ us) ≡ true
    by true o e k = absurd (false≢true (sym (never_accepts us) ∙ sym (λ i. accepts (mode_by 4 (e i) (is_ordinary u) (eqb u 32 || eqb u 46)) us) ∙ h))
    by false true e k =
        (λ i. accepts (mode_by 3 (e i) (k i) (eqb u 32 || eqb u 46)) us) ∙ sym (λ i. accepts (mode_by 4 (e i) (k i) (eqb u 32 || eqb u 46)) us) ∙ h
    by false false e k = absurd (false≢true (sym (never_accepts us) ∙ sym (λ i. accepts (mode_by 4 (e i) (k i) (eqb u 32 || eqb u 46)) us) ∙ h))

-- a unit that stands for others
pub mode_other : {patterns : List (List Cell)} → (mode u other : ℕ) → IsStandIn patterns other → (eqb u 92 ≡ false) ⊎ (eqb mode 5 ≡ true)
    → (later : List ℕ) → accepts (mode_after mode u) later ≡ true → accepts (mode_after mode other) later ≡ true
mode_other mode u other is apart later h = by (eqb mode 5) refl apart
  where
    ends : (eqb other 32 || eqb other 46) ≡ false
    ends = λ i. is.no_space i || is.no_dot i

    slash : eqb other 92 ≡ false
    slash = ordinary_slash other is.ordinary
      where
        ordinary_slash : (n : ℕ) → is_ordinary n ≡ true → eqb n 92 ≡ false
        ordinary_slash n o = grind (arith, nat_tests)

    of_other : accepts (mode_after mode other) later ≡ accepts (mode_by mode false true false) later
    of_other = λ i. accepts (mode_by mode (slash i) (is.ordinary i) (ends i)) later

    plain : (m o e : Bool) → eqb mode 5 ≡ false → eqb u 92 ≡ false → (eqb mode 2 || (eqb mode 3 || eqb mode 4)) ≡ m → is_ordinary u ≡ o → (eqb u 32 || eqb u 46) ≡ e
        → accepts (mode_by mode false true false) later ≡ true
    plain m o e no_any no_slash a b c = inner m o e a b c
      where
        now : accepts (mode_after mode u) later ≡ accepts (cond (is_ordinary u && (eqb mode 2 || (eqb mode 3 || eqb mode 4))) (cond (eqb u 32 || eqb u 46) 4 3) 0) later
        now = λ i. accepts (cond (no_any i) 5 (cond (no_slash i) (cond (eqb mode 1 || eqb mode 3) 2 0) (cond (is_ordinary u && (eqb mode 2 || (eqb mode 3 || eqb mode 4))) (cond (eqb u 32 || eqb u 46) 4 3) 0))) later

        goal_is : accepts (mode_by mode false true false) later ≡ accepts (cond (eqb mode 2 || (eqb mode 3 || eqb mode 4)) 3 0) later
        goal_is = λ i. accepts (cond (no_any i) 5 (cond (eqb mode 2 || (eqb mode 3 || eqb mode 4)) 3 0)) later

        inner : (m o e : Bool) → (eqb mode 2 || (eqb mode 3 || eqb mode 4)) ≡ m → is_ordinary u ≡ o → (eqb u 32 || eqb u 46) ≡ e
            → accepts (mode_by mode false true false) later ≡ true
        inner true true true a b c =
            goal_is ∙ (λ i. accepts (cond (a i) 3 0) later) ∙ ends_less later (sym (λ i. accepts (cond (b i && a i) (cond (c i) 4 3) 0) later) ∙ sym now ∙ h)
        inner true true false a b c =
            goal_is ∙ (λ i. accepts (cond (a i) 3 0) later) ∙ sym (λ i. accepts (cond (b i && a i) (cond (c i) 4 3) 0) later) ∙ sym now ∙ h
        inner true false e a b c =
            absurd (false≢true (sym (never_accepts later) ∙ sym (λ i. accepts (cond (b i && (eqb mode 2 || (eqb mode 3 || eqb mode 4))) (cond (eqb u 32 || eqb u 46) 4 3) 0) later) ∙ sym now ∙ h))
        inner false true e a b c =
            absurd (false≢true (sym (never_accepts later) ∙ sym (λ i. accepts (cond (b i && a i) (cond (eqb u 32 || eqb u 46) 4 3) 0) later) ∙ sym now ∙ h))
        inner false false e a b c =
            absurd (false≢true (sym (never_accepts later) ∙ sym (λ i. accepts (cond (b i && a i) (cond (eqb u 32 || eqb u 46) 4 3) 0) later) ∙ sym now ∙ h))

    by : (m : Bool) → eqb mode 5 ≡ m → (eqb u 92 ≡ false) ⊎ (eqb mode 5 ≡ true) → accepts (mode_after mode other) later ≡ true
    by true e a =
        of_other ∙ (λ i. accepts (cond (e i) 5 (cond (eqb mode 2 || (eqb mode 3 || eqb mode 4)) 3 0)) later)
        ∙ sym (λ i. accepts (cond (e i) 5 (cond (eqb u 92) (cond (eqb mode 1 || eqb mode 3) 2 0) (cond (is_ordinary u && (eqb mode 2 || (eqb mode 3 || eqb mode 4))) (mode_inside u) 0))) later) ∙ h
    by false e (inl no_slash) = of_other ∙ plain (eqb mode 2 || (eqb mode 3 || eqb mode 4)) (is_ordinary u) (eqb u 32 || eqb u 46) e no_slash refl refl refl
    by false e (inr k) = absurd (false≢true (sym e ∙ k))
