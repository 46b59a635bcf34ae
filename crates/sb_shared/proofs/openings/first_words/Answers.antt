use Rattle.std.proofs.Common.{◌≡◌, ℕ, ◌<◌, ◌+◌, List, [], ◌∷◌, ◌++◌, length, slice_index, subst, sym, arith, length-append}
use Rattle.std.proofs.lemmas.Grind.{common_steps}
use Rattle.sb_shared.specs.Opening.{AreFirst, first_word}
use Rattle.sb_shared.proofs.openings.first_words.Goals as goal

-- the values of a function, and one more
one_more : (f : ℕ → ℕ) (xs : List ℕ) (n x : ℕ) → length xs ≡ n → ((i : ℕ) → i < n → slice_index xs i ≡ f i) → x ≡ f n → (i : ℕ) → i < n + 1 → slice_index (xs ++ x ∷ []) i ≡ f i
one_more f xs n x len each is i below = grind (arith, common_steps, len, each, is, below)

pub loop-place-preserved : goal.loop-place-preserved
loop-place-preserved c =
    let first = first_word c.args.script.now.targets in
    let xs = c.loop-place.words.items in
    let n = c.loop-place.place in
    let x = c.first_word.result in
    let kept = c.loop-place.invariant in
    let len = length-append xs (x ∷ []) in
    let size = kept.0 in
    subst (AreFirst c.args.script.now.targets (n + 1)) (sym c.in_ok-push.ensures.items) (omega (arith, len, size), one_more first xs n x kept.0 kept.1 c.first_word.ensures)
