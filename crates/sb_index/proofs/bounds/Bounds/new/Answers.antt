use Rattle.std.proofs.Common.{rules, ◌≡◌, ◌∙◌, ◌<◌, ◌≤◌, ◌+◌, ◌++◌, ◌∷◌, [], ap, drop, length, subst, sym, arith}
use Rattle.std.specs.Prelude.{slice_index_or}
use Rattle.std.proofs.lemmas.List.{get_or_default, length-append}
use Rattle.sb_index.specs.Bounds.{IsRising, first_of, rising_above}
use Rattle.sb_index.proofs.BoundLemmas.{bound_put}
use Rattle.sb_index.proofs.SlotLemmas.{last_pushed, rising_pushed}
use Rattle.sb_index.proofs.bounds.Bounds.new.Goals as goal

pub loop-number-preserved : goal.loop-number-preserved
loop-number-preserved c =
    let numbers = c.args.numbers.now in
    let i = c.loop-number.number-index in
    let items = c.loop-number.items.items in
    let old = c.loop-number.invariant in
    let n = slice_index_or numbers i 0 in
    let is : n ≡ slice_index_or numbers i n = get_or_default numbers i 0 n c.loop-number-test.true in
    let above : c.loop-number.last < n = search rules in
    let room : length items < c.args.most = search rules in
    let pushed : c.push.new.self.items ≡ items ++ n ∷ [] = search rules in
    let more : length items + 1 ≡ length (items ++ n ∷ []) = omega (arith, length-append items (n ∷ [])) in
    subst
    (λ l. IsRising l × (length l ≤ c.args.most) × (n ≡ first_of l (length l)) × (l ++ rising_above n (drop (i + 1) numbers) ≡ rising_above 0 numbers)) (sym pushed) (
      rising_pushed items n old.0 (omega (arith, old.2, above)),
      omega (arith, more, room),
      last_pushed items n ∙ ap (first_of (items ++ n ∷ [])) more,
      bound_put items numbers (rising_above 0 numbers) c.loop-number.last i n c.loop-number-test.true is above old.3,
    )
