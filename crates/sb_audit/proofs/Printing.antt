-- Lists of numbers, and of others, of which something holds.
use Rattle.std.proofs.Common.{◌≡◌, ℕ, ◌<◌, zero, suc, true, List, [], ◌∷◌, get_or, refl, subst}
use Rattle.std.proofs.lemmas.Bool.{and_from, lt-ltb}
use Rattle.std.proofs.lemmas.Option.{none-some}
use Rattle.std.specs.List.{list_all}
use Rattle.sb_base.specs.Numbers.{is_word64}
use Rattle.sb_base.specs.Wide.{is_unit}
use Rattle.sb_transcript.specs.Printable.{Each}
use Rattle.sb_audit.proofs.Converse.Lists.{some_same}

pub all_units : (us : List ℕ) → ((i : ℕ) → get_or us i 0 < 65536) → list_all is_unit us ≡ true
all_units [] h = refl
all_units (u ∷ us) h = and_from (is_unit u) (list_all is_unit us) (lt-ltb u 65536 (h 0)) (all_units us (λ i. h (suc i)))

pub all_words : (ws : List ℕ) → ((i : ℕ) → get_or ws i 0 < 18446744073709551616) → list_all is_word64 ws ≡ true
all_words [] h = refl
all_words (w ∷ ws) h = and_from (is_word64 w) (list_all is_word64 ws) (lt-ltb w 18446744073709551616 (h 0)) (all_words ws (λ i. h (suc i)))

-- what holds of a first element and of each after it holds of each
pub each_more : {A : Type 0} (P : A → Type 0) (x : A) (xs : List A) → P x → Each P xs → Each P (x ∷ xs)
each_more P x xs h more zero y e = subst P (some_same x y e) h
each_more P x xs h more (suc n) y e = more n y e

pub each_none : {A : Type 0} (P : A → Type 0) → Each P []
each_none P n y e = absurd (none-some y e)
