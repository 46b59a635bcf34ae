-- A node without children is above no other.
use Rattle.std.proofs.Common.{◌≡◌, ◌<◌, ◌==◌, ℕ, Bool, true, false, zero, suc, refl, sym, ◌∙◌, ap, arith, List, [], ◌∷◌}
use Rattle.std.proofs.lemmas.Bool.{false≢true}
use Rattle.std.specs.Prelude.{Option, None, Some, is_some, option_map}
use Rattle.sb_arena.specs.Forests.{Agrees, Forest, IsAbove, ancestor, children_of, first_of, has, parent_of}

-- a list without a first element is empty
pub nothing_first : (xs : List ℕ) → first_of xs ≡ None → xs ≡ []
nothing_first [] h = refl
nothing_first (x ∷ xs) h = absurd (cc)

-- nothing is made of nothing
pub none_given : {X Y : Type 0} (g : X → Y) (o : Option X) (y : Option Y) → is_some o ≡ false → option_map g o ≡ y → y ≡ None
none_given g None y h e = sym e
none_given g (Some x) y h e = absurd (false≢true (sym h))

module _ {T : Type 0} (f : Forest T) (agrees : Agrees f) (child : ℕ) (childless : children_of f child ≡ []) where
  -- the child is no parent
  no_parent : (n : ℕ) → parent_of f n ≡ Some child → ⊥
  no_parent n e = false≢true (sym (ap (has n) childless) ∙ (agrees n child).1 e)

  not_above : (k n : ℕ) → (n ≡ child → ⊥) → ancestor f.rows k (Some n) ≡ Some child → ⊥
  not_above zero n other e = other (some_is n child e)
    where
      value : ℕ → Option ℕ → ℕ
      value d None = d
      value d (Some m) = m

      some_is : (a b : ℕ) → Some a ≡ Some b → a ≡ b
      some_is a b e = ap (value a) e
  not_above (suc k) n other e = by (parent_of f n) refl e (not_above k)
    where
      by : (o : Option ℕ) → parent_of f n ≡ o → ancestor f.rows k o ≡ Some child
          → ((m : ℕ) → (m ≡ child → ⊥) → ancestor f.rows k (Some m) ≡ Some child → ⊥) → ⊥
      by None p e again = absurd (cc)
      by (Some m) p e again = again m (λ same. no_parent n (p ∙ ap Some same)) e

  pub is_apart : (parent : ℕ) → (parent ≡ child → ⊥) → IsAbove f child parent → ⊥
  is_apart parent other above = not_above above.0 parent other above.1
