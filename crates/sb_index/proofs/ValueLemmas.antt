-- Values that conditions admit.
use Rattle.std.proofs.Common.{◌≡◌, ◌∙◌, ℕ, Bool, true, false, cond, ◌&&◌, eqb, max, min, refl, ap, sym, arith}
use Rattle.std.specs.Prelude.{nat_le}
use Rattle.std.proofs.lemmas.Bool.{and_parts, eqb-false, ne_eqb}
use Rattle.std.proofs.lemmas.Bool.Decides.{nat_tests}
use Rattle.sb_index.specs.Questions.{lies}

pub one_value : (n first last : ℕ) → lies first last n ≡ (nat_le n last && nat_le first n)
one_value n first last = swap (nat_le first n) (nat_le n last)
  where
    swap : (a b : Bool) → (a && b) ≡ (b && a)
    swap true true = refl
    swap true false = refl
    swap false true = refl
    swap false false = refl

-- of another parameter it is not asked
pub not_asked : (wanted param : ℕ) (b : Bool) → eqb wanted param ≡ false → cond (eqb param wanted) b true ≡ true
not_asked wanted param b h = ap (λ t. cond t b true) (turned h)
  where
    turned : eqb wanted param ≡ false → eqb param wanted ≡ false
    turned h = ne_eqb param wanted (λ e. eqb-false wanted param h (sym e))

-- a range and another
pub ranges_meet : (lo hi low high first last : ℕ) (admits : Bool) → (nat_le lo last && nat_le first hi) ≡ admits
    → (nat_le (max lo low) last && nat_le first (min hi high)) ≡ (admits && (nat_le low last && nat_le first high))
ranges_meet lo hi low high first last admits e =
    ap (λ b. b && nat_le first (min hi high)) (above lo low last) ∙ ap (λ b. (nat_le lo last && nat_le low last) && b) (below hi high first)
    ∙ parts (nat_le lo last) (nat_le low last) (nat_le first hi) (nat_le first high) ∙ ap (λ b. b && (nat_le low last && nat_le first high)) e
  where
    above : (a b c : ℕ) → nat_le (max a b) c ≡ (nat_le a c && nat_le b c)
    above a b c = grind (arith, nat_tests)

    below : (a b c : ℕ) → nat_le c (min a b) ≡ (nat_le c a && nat_le c b)
    below a b c = grind (arith, nat_tests)

    parts : (a b c d : Bool) → ((a && b) && (c && d)) ≡ ((a && c) && (b && d))
    parts true true c d = refl
    parts true false true d = refl
    parts true false false d = refl
    parts false b c d = refl

pub left_lies : (a b : Bool) (P : Type 0) → (a ≡ true → P) → (a && b) ≡ true → P
left_lies a b P f h = f (and_parts a b h).0

pub right_lies : (a b : Bool) → (a && b) ≡ true → b ≡ true
right_lies a b h = (and_parts a b h).1

pub first_values : (x admits : Bool) → admits ≡ true → x ≡ (admits && x)
first_values x admits e = sym (ap (λ b. b && x) e)
