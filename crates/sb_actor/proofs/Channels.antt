-- Which of the first channels are clean.
use Rattle.std.proofs.Common.{arith, ◌≡◌, refl, ℕ, zero, suc, ◌+◌, [], ◌∷◌, ◌++◌, length, length-append}
use native.Mathlib.Numerals.{unary_clauses}
use Rattle.sb_statements.specs.Scripts.{is_clean}
use Rattle.sb_statements.specs.declared.scripts.Script.{Script}
use Rattle.sb_actor.specs.Places.{clean_upto}

pub clean_length : (script : Script) (target n : ℕ) → length (clean_upto script target n) ≡ n
clean_length script target zero = refl
clean_length script target (suc n) =
    let e = length-append (clean_upto script target n) (is_clean script target n ∷ []) in
    let k = clean_length script target n in
    omega (arith, e, k)

clean_next : (script : Script) (target n : ℕ) → clean_upto script target (suc n) ≡ clean_upto script target n ++ is_clean script target n ∷ []
clean_next script target n = refl

pub clean_more : (script : Script) (target n : ℕ) → clean_upto script target (n + 1) ≡ clean_upto script target n ++ is_clean script target n ∷ []
clean_more script target n = simp unary_clauses (clean_next script target n)
