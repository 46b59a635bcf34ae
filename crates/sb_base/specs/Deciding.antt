-- Tests that decide a fact, in the forms that tests of structs and enums are made of.
use Rattle.std.specs.Prelude.{◌≡◌, Bool, true, false, refl}
use Rattle.std.specs.Bool.{Decides}
use Rattle.std.specs.Cmp.{IsPartialEquivalence}
use Rattle.std.proofs.Common.{sym, ◌∙◌}
use Rattle.std.proofs.lemmas.Bool.{false≢true}

-- what no value meets is decided by `false`
pub decides_never : {P : Type 0} → (P → false ≡ true) → Decides false P
decides_never f = (λ e. absurd (false≢true e), f)

module _ {K : Type 0} (E : K → K → Bool) (decides : (x y : K) → Decides (E x y) (x ≡ y)) where
  one_truth : (s t : Bool) → (s ≡ true → t ≡ true) → (t ≡ true → s ≡ true) → s ≡ t
  one_truth true t f g = sym (f refl)
  one_truth false true f g = g refl
  one_truth false false f g = refl

  symm : (x y : K) → E x y ≡ E y x
  symm x y = one_truth (E x y) (E y x) (λ e. (decides y x).1 (sym ((decides x y).0 e))) (λ e. (decides x y).1 (sym ((decides y x).0 e)))

  trans : (x y z : K) → E x y ≡ true → E y z ≡ true → E x z ≡ true
  trans x y z h k = (decides x z).1 ((decides x y).0 h ∙ (decides y z).0 k)

  -- a test that decides equality is symmetric and transitive
  pub laws_of_decides : IsPartialEquivalence E
  laws_of_decides = record { symm = symm; trans = trans }
