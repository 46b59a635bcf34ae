-- Strings that a script can have are matched as those in whose place they are.
use Rattle.std.specs.Prelude.{nat_le}
use Rattle.std.specs.Bool.{beq}
use Rattle.std.specs.List.{list_all}
use Rattle.std.proofs.Common.{◌≡◌, ◌∙◌, ℕ, suc, Bool, true, false, cond, not, List, [], ◌∷◌, ◌&&◌, ◌||◌, eqb, leb, length, refl, ap, sym, subst, arith}
use Rattle.std.proofs.lemmas.Bool.{and_parts, eqb-true, false≢true}
use Rattle.std.proofs.lemmas.Bool.Decides.{nat_tests}
use Rattle.sb_base.specs.Names.{is_ordinary}
use Rattle.sb_base.specs.Surrogates.{is_high, is_low, is_surrogate, is_paired, is_paired_after, WalksFindPairs}
use Rattle.sb_base.specs.Wide.{folded}
use Rattle.sb_rule.specs.Matching.{matches, matches_some_rest}
use Rattle.sb_rule.specs.declared.cells.Cell.{Cell}
use Rattle.sb_rule.specs.declared.cells.Cell.TheVariants.{Lit, One, Any}
use Rattle.sb_cover.specs.Letters.{is_apart, IsStandIn}
use Rattle.sb_cover.specs.Modes.{accepts, mode_after, mode_inside}
use Rattle.sb_cover.specs.Shown.{is_plain_unit, is_shown, starts_low, unit_for, begins_pair, mended, are_plain, fits_after, begins_after}
use Rattle.sb_cover.proofs.ModeLemmas.{never_accepts}

-- the first half of a pair, or a plain unit, is no second half
high_not_low : (u : ℕ) → is_high u ≡ true → is_low u ≡ false
high_not_low u h = grind (arith, nat_tests)

low_not_high : (u : ℕ) → is_low u ≡ true → is_high u ≡ false
low_not_high u h = grind (arith, nat_tests)

plain_not_low : (u : ℕ) → is_plain_unit u ≡ true → is_low u ≡ false
plain_not_low u h = grind (arith, nat_tests)

plain_not_high : (u : ℕ) → is_plain_unit u ≡ true → is_high u ≡ false
plain_not_high u h = grind (arith, nat_tests)

-- a literal that is half of a pair matches itself alone
same_high : (u w : ℕ) → is_high w ≡ true → eqb (folded u) (folded w) ≡ true → is_high u ≡ true
same_high u w h e = grind (arith, nat_tests)

same_low : (u w : ℕ) → is_low w ≡ true → eqb (folded u) (folded w) ≡ true → is_low u ≡ true
same_low u w h e = grind (arith, nat_tests)

-- a plain literal matches plain units alone
same_plain : (u w : ℕ) → is_plain_unit w ≡ true → eqb (folded u) (folded w) ≡ true → is_plain_unit u ≡ true
same_plain u w h e = grind (arith, nat_tests)

and_false : (b : Bool) → (b && false) ≡ false
and_false true = refl
and_false false = refl

-- no unit but the second half follows the first half of a pair
second_fails : (cells : List Cell) (us : List ℕ) → are_plain true cells ≡ true → starts_low us ≡ false → matches cells us ≡ false
second_fails [] us plain none = absurd (false≢true plain)
second_fails (One ∷ rest) us plain none = absurd (false≢true plain)
second_fails (Any ∷ rest) us plain none = absurd (false≢true plain)
second_fails (Lit w ∷ rest) [] plain none = refl
second_fails (Lit w ∷ rest) (u ∷ us) plain none = by (eqb (folded u) (folded w)) refl
  where
    by : (b : Bool) → eqb (folded u) (folded w) ≡ b → (eqb (folded u) (folded w) && matches rest us) ≡ false
    by true e = absurd (false≢true (sym none ∙ same_low u w (and_parts (is_low w) (are_plain false rest) plain).0 e))
    by false e = ap (λ b. b && matches rest us) e

apart_fails : (other w : ℕ) → folded other ≡ other → not (eqb (folded w) other) ≡ true → eqb (folded other) (folded w) ≡ false
apart_fails other w own apart = ap (λ n. eqb n (folded w)) own ∙ flip other (folded w) apart
  where
    flip : (x y : ℕ) → not (eqb y x) ≡ true → eqb x y ≡ false
    flip x y h = grind (arith, nat_tests)

-- some rest is matched, if the same test holds of all rests
mended_rests : (other : ℕ) (test : List ℕ → Bool) → ((us : List ℕ) (follows : Bool) → (follows ≡ true → starts_low us ≡ true) → test (mended other follows us) ≡ test us)
    → (us : List ℕ) (follows : Bool) → (follows ≡ true → starts_low us ≡ true) → matches_some_rest test (mended other follows us) ≡ matches_some_rest test us
mended_rests other test same [] follows low = same [] follows low
mended_rests other test same (u ∷ us) true low =
    λ i. same (u ∷ us) true low i || mended_rests other test same us false (λ h. absurd (false≢true h)) i
mended_rests other test same (u ∷ us) false low =
    λ i. same (u ∷ us) false low i || mended_rests other test same us (is_high u && starts_low us) (λ h. (and_parts (is_high u) (starts_low us) h).1) i

mutual
  -- the same cells match
  mended_matches : (other : ℕ) → folded other ≡ other → (cells : List Cell) → are_plain false cells ≡ true → list_all (is_apart other) cells ≡ true
      → (us : List ℕ) (follows : Bool) → (follows ≡ true → starts_low us ≡ true) → matches cells (mended other follows us) ≡ matches cells us
  mended_matches other own [] plain apart [] follows low = refl
  mended_matches other own [] plain apart (u ∷ us) true low = refl
  mended_matches other own [] plain apart (u ∷ us) false low = refl
  mended_matches other own (One ∷ rest) plain apart [] follows low = refl
  mended_matches other own (One ∷ rest) plain apart (u ∷ us) true low = mended_matches other own rest plain apart us false (λ h. absurd (false≢true h))
  mended_matches other own (One ∷ rest) plain apart (u ∷ us) false low =
      mended_matches other own rest plain apart us (is_high u && starts_low us) (λ h. (and_parts (is_high u) (starts_low us) h).1)
  mended_matches other own (Any ∷ rest) plain apart us follows low =
      mended_rests other (matches rest) (λ us follows low. mended_matches other own rest plain apart us follows low) us follows low
  mended_matches other own (Lit w ∷ rest) plain apart [] follows low = refl
  mended_matches other own (Lit w ∷ rest) plain apart (u ∷ us) true low = second (is_high w) refl plain
    where
      second : (h : Bool) → is_high w ≡ h → cond h (are_plain true rest) (is_plain_unit w && are_plain false rest) ≡ true
          → (eqb (folded u) (folded w) && matches rest (mended other false us)) ≡ (eqb (folded u) (folded w) && matches rest us)
      second h e p = ap (λ b. b && matches rest (mended other false us)) (no_match h e p) ∙ sym (ap (λ b. b && matches rest us) (no_match h e p))
        where
          no_match : (h : Bool) → is_high w ≡ h → cond h (are_plain true rest) (is_plain_unit w && are_plain false rest) ≡ true → eqb (folded u) (folded w) ≡ false
          no_match true e p = fails (eqb (folded u) (folded w)) refl
            where
              fails : (b : Bool) → eqb (folded u) (folded w) ≡ b → eqb (folded u) (folded w) ≡ false
              fails true k = absurd (false≢true (sym (low_not_high u (low refl)) ∙ same_high u w e k))
              fails false k = k
          no_match false e p = fails (eqb (folded u) (folded w)) refl
            where
              fails : (b : Bool) → eqb (folded u) (folded w) ≡ b → eqb (folded u) (folded w) ≡ false
              fails true k = absurd (false≢true (sym (plain_not_low u (same_plain u w (and_parts (is_plain_unit w) (are_plain false rest) p).0 k)) ∙ low refl))
              fails false k = k
  mended_matches other own (Lit w ∷ rest) plain apart (u ∷ us) false low =
      first (is_high w) refl plain (is_high u && starts_low us) refl (is_plain_unit u) refl
      (λ p. mended_seconds other own rest p (and_parts (not (eqb (folded w) other)) (list_all (is_apart other) rest) apart).1 us)
      (λ p. mended_matches other own rest p (and_parts (not (eqb (folded w) other)) (list_all (is_apart other) rest) apart).1 us)
    where
      first : (h : Bool) → is_high w ≡ h → cond h (are_plain true rest) (is_plain_unit w && are_plain false rest) ≡ true
          → (begins : Bool) → (is_high u && starts_low us) ≡ begins → (single : Bool) → is_plain_unit u ≡ single
          → (are_plain true rest ≡ true → starts_low us ≡ true → matches rest (mended other true us) ≡ matches rest us)
          → (are_plain false rest ≡ true → (follows : Bool) → (follows ≡ true → starts_low us ≡ true) → matches rest (mended other follows us) ≡ matches rest us)
          → matches (Lit w ∷ rest) (cond ((is_high u && starts_low us) || is_plain_unit u) u other ∷ mended other (is_high u && starts_low us) us) ≡ matches (Lit w ∷ rest) (u ∷ us)
      first h e p true b single s pairs same =
          (λ i. matches (Lit w ∷ rest) (cond (b i || is_plain_unit u) u other ∷ mended other (b i) us)) ∙ kept h e p
        where
          parts : (is_high u ≡ true) × (starts_low us ≡ true)
          parts = and_parts (is_high u) (starts_low us) b

          kept : (h : Bool) → is_high w ≡ h → cond h (are_plain true rest) (is_plain_unit w && are_plain false rest) ≡ true
              → (eqb (folded u) (folded w) && matches rest (mended other true us)) ≡ (eqb (folded u) (folded w) && matches rest us)
          kept true e p = ap (λ m. eqb (folded u) (folded w) && m) (pairs p parts.1)
          kept false e p = ap (λ m. eqb (folded u) (folded w) && m) (same (and_parts (is_plain_unit w) (are_plain false rest) p).1 true (λ k. parts.1))
      first h e p false b true s pairs same =
          (λ i. matches (Lit w ∷ rest) (cond (b i || s i) u other ∷ mended other (b i) us)) ∙ kept h e p
        where
          kept : (h : Bool) → is_high w ≡ h → cond h (are_plain true rest) (is_plain_unit w && are_plain false rest) ≡ true
              → (eqb (folded u) (folded w) && matches rest (mended other false us)) ≡ (eqb (folded u) (folded w) && matches rest us)
          kept true e p = ap (λ c. c && matches rest (mended other false us)) (fails (eqb (folded u) (folded w)) refl) ∙ sym (ap (λ c. c && matches rest us) (fails (eqb (folded u) (folded w)) refl))
            where
              fails : (c : Bool) → eqb (folded u) (folded w) ≡ c → eqb (folded u) (folded w) ≡ false
              fails true k = absurd (false≢true (sym (plain_not_high u s) ∙ same_high u w e k))
              fails false k = k
          kept false e p = ap (λ m. eqb (folded u) (folded w) && m) (same (and_parts (is_plain_unit w) (are_plain false rest) p).1 false (λ k. absurd (false≢true k)))
      first h e p false b false s pairs same =
          (λ i. matches (Lit w ∷ rest) (cond (b i || s i) u other ∷ mended other (b i) us))
          ∙ ap (λ c. c && matches rest (mended other false us)) (apart_fails other w own (and_parts (not (eqb (folded w) other)) (list_all (is_apart other) rest) apart).0)
          ∙ sym (fails h e p (eqb (folded u) (folded w)) refl)
        where
          fails : (h : Bool) → is_high w ≡ h → cond h (are_plain true rest) (is_plain_unit w && are_plain false rest) ≡ true
              → (c : Bool) → eqb (folded u) (folded w) ≡ c → (eqb (folded u) (folded w) && matches rest us) ≡ false
          fails h e p false k = ap (λ c. c && matches rest us) k
          fails true e p true k =
              let none : starts_low us ≡ false = ap (λ c. c && starts_low us) (sym (same_high u w e k)) ∙ b in
              ap (λ m. eqb (folded u) (folded w) && m) (second_fails rest us p none) ∙ and_false (eqb (folded u) (folded w))
          fails false e p true k = absurd (false≢true (sym s ∙ same_plain u w (and_parts (is_plain_unit w) (are_plain false rest) p).0 k))

  -- the second half of a pair, and what follows
  mended_seconds : (other : ℕ) → folded other ≡ other → (cells : List Cell) → are_plain true cells ≡ true → list_all (is_apart other) cells ≡ true
      → (us : List ℕ) → starts_low us ≡ true → matches cells (mended other true us) ≡ matches cells us
  mended_seconds other own [] plain apart us low = absurd (false≢true plain)
  mended_seconds other own (One ∷ rest) plain apart us low = absurd (false≢true plain)
  mended_seconds other own (Any ∷ rest) plain apart us low = absurd (false≢true plain)
  mended_seconds other own (Lit w ∷ rest) plain apart [] low = refl
  mended_seconds other own (Lit w ∷ rest) plain apart (u ∷ us) low =
      ap (λ m. eqb (folded u) (folded w) && m)
      (mended_matches other own rest (and_parts (is_low w) (are_plain false rest) plain).1 (and_parts (not (eqb (folded w) other)) (list_all (is_apart other) rest) apart).1 us false
      (λ h. absurd (false≢true h)))

-- one step of the walk
pub mended_step : (other : ℕ) (follows : Bool) (u : ℕ) (us : List ℕ) → mended other follows (u ∷ us) ≡ unit_for other follows u us ∷ mended other (begins_pair follows u us) us
mended_step other true u us = refl
mended_step other false u us = refl

pub plain_step : (follows : Bool) (cell : Cell) (rest : List Cell) → are_plain follows (cell ∷ rest) ≡ (fits_after follows cell && are_plain (begins_after follows cell) rest)
plain_step follows One rest = refl
plain_step follows Any rest = refl
plain_step true (Lit w) rest = refl
plain_step false (Lit w) rest = by (is_high w)
  where
    by : (h : Bool) → cond h (are_plain true rest) (is_plain_unit w && are_plain false rest) ≡ ((h || is_plain_unit w) && are_plain h rest)
    by true = refl
    by false = refl

-- as many units
pub mended_length : (other : ℕ) (follows : Bool) (us : List ℕ) → length (mended other follows us) ≡ length us
mended_length other follows [] = refl
mended_length other true (u ∷ us) = ap suc (mended_length other false us)
mended_length other false (u ∷ us) = ap suc (mended_length other (is_high u && starts_low us) us)

-- a mended string is one that a script can have
mended_units : (other : ℕ) → is_plain_unit other ≡ true → (us : List ℕ) (follows : Bool) → (follows ≡ true → starts_low us ≡ true)
    → list_all (λ u. leb 32 u && not (eqb u 34)) (mended other follows us) ≡ true
mended_units other plain [] follows low = refl
mended_units other plain (u ∷ us) true low =
    λ i. low_unit u (low refl) i && mended_units other plain us false (λ h. absurd (false≢true h)) i
  where
    low_unit : (u : ℕ) → is_low u ≡ true → (leb 32 u && not (eqb u 34)) ≡ true
    low_unit u h = grind (arith, nat_tests)
mended_units other plain (u ∷ us) false low =
    λ i. one (is_high u && starts_low us) refl (is_plain_unit u) refl i && mended_units other plain us (is_high u && starts_low us) (λ h. (and_parts (is_high u) (starts_low us) h).1) i
  where
    high_unit : (u : ℕ) → is_high u ≡ true → (leb 32 u && not (eqb u 34)) ≡ true
    high_unit u h = grind (arith, nat_tests)

    plain_unit : (u : ℕ) → is_plain_unit u ≡ true → (leb 32 u && not (eqb u 34)) ≡ true
    plain_unit u h = grind (arith, nat_tests)

    one : (begins : Bool) → (is_high u && starts_low us) ≡ begins → (single : Bool) → is_plain_unit u ≡ single
        → (leb 32 (cond ((is_high u && starts_low us) || is_plain_unit u) u other) && not (eqb (cond ((is_high u && starts_low us) || is_plain_unit u) u other) 34)) ≡ true
    one true b single s =
        (λ i. leb 32 (cond (b i || is_plain_unit u) u other) && not (eqb (cond (b i || is_plain_unit u) u other) 34)) ∙ high_unit u (and_parts (is_high u) (starts_low us) b).0
    one false b true s = (λ i. leb 32 (cond (b i || s i) u other) && not (eqb (cond (b i || s i) u other) 34)) ∙ plain_unit u s
    one false b false s = (λ i. leb 32 (cond (b i || s i) u other) && not (eqb (cond (b i || s i) u other) 34)) ∙ plain_unit other plain

mended_pairs : (other : ℕ) → is_plain_unit other ≡ true → (us : List ℕ) (follows : Bool) → (follows ≡ true → starts_low us ≡ true)
    → is_paired_after follows (mended other follows us) ≡ true
mended_pairs other plain [] true low = absurd (false≢true (low refl))
mended_pairs other plain [] false low = refl
mended_pairs other plain (u ∷ us) true low =
    (λ i. beq (low refl i) true && is_paired_after (low_not_high u (low refl) i) (mended other false us)) ∙ mended_pairs other plain us false (λ h. absurd (false≢true h))
mended_pairs other plain (u ∷ us) false low =
    one (is_high u && starts_low us) refl (is_plain_unit u) refl (λ follows h. mended_pairs other plain us follows h)
  where
    one : (begins : Bool) → (is_high u && starts_low us) ≡ begins → (single : Bool) → is_plain_unit u ≡ single
        → ((follows : Bool) → (follows ≡ true → starts_low us ≡ true) → is_paired_after follows (mended other follows us) ≡ true)
        → is_paired_after false (cond ((is_high u && starts_low us) || is_plain_unit u) u other ∷ mended other (is_high u && starts_low us) us) ≡ true
    one true b single s rest =
        let p = and_parts (is_high u) (starts_low us) b in
        (λ i. is_paired_after false (cond (b i || is_plain_unit u) u other ∷ mended other (b i) us))
        ∙ (λ i. beq (high_not_low u p.0 i) false && is_paired_after (p.0 i) (mended other true us)) ∙ rest true (λ h. p.1)
    one false b true s rest =
        (λ i. is_paired_after false (cond (b i || s i) u other ∷ mended other (b i) us))
        ∙ (λ i. beq (plain_not_low u s i) false && is_paired_after (plain_not_high u s i) (mended other false us)) ∙ rest false (λ h. absurd (false≢true h))
    one false b false s rest =
        (λ i. is_paired_after false (cond (b i || s i) u other ∷ mended other (b i) us))
        ∙ (λ i. beq (plain_not_low other plain i) false && is_paired_after (plain_not_high other plain i) (mended other false us)) ∙ rest false (λ h. absurd (false≢true h))

pub mended_shown : WalksFindPairs → (other : ℕ) → is_plain_unit other ≡ true → (us : List ℕ) → is_shown (mended other false us) ≡ true
mended_shown law other plain us =
    λ i. mended_units other plain us false (λ h. absurd (false≢true h)) i && (sym (law (mended other false us)) ∙ mended_pairs other plain us false (λ h. absurd (false≢true h))) i

pub mended_same : (other : ℕ) (cells : List Cell) (us : List ℕ) → folded other ≡ other → are_plain false cells ≡ true → list_all (is_apart other) cells ≡ true
    → matches cells (mended other false us) ≡ matches cells us
mended_same other cells us own plain apart = mended_matches other own cells plain apart us false (λ h. absurd (false≢true h))
