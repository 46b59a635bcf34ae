-- After an error a list begins with what it held.
use Rattle.std.proofs.Common.{◌≡◌, ◌∙◌, ◌+◌, ℕ, ap, sym, arith, List, [], ◌∷◌, ◌++◌, length, take}
use Rattle.std.proofs.Math.Seq.{take-append_seam}
use Rattle.std.proofs.lemmas.List.{take-take}
use Rattle.std.specs.Prelude.{Result, Ok, Err, OnErr}

pub on_err : {A E P : Type 0} (r : Result A E) → P → OnErr r P
on_err (Ok x) h = tt
on_err (Err e) h = h

pub kept : (n : ℕ) (old more new : List ℕ) → n ≡ length old → new ≡ old ++ more → take n new ≡ old
kept n old more new e h = rw (h, e) (take-append_seam old more)

-- what began with one byte more begins with the others
pub kept_before : (n m b : ℕ) (old new : List ℕ) → n ≡ length old → m ≡ n + 1 → take m new ≡ old ++ b ∷ [] → take n new ≡ old
kept_before n m b old new e f h = rw e (sym (take-take (length old) (length old + 1) new (omega arith)) ∙ ap (take (length old)) (rw (f, e) at h) ∙ take-append_seam old (b ∷ []))
