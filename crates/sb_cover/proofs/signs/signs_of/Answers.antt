use Rattle.std.proofs.Common.{◌≡◌, ◌∙◌, ◌<◌, ◌++◌, ◌∷◌, ◌+◌, [], ℕ, List, true, false, ap, get_or, length, length-append, subst, sym}
use Rattle.sb_cover.specs.Positions.{tells}
use Rattle.sb_cover.specs.Pruning.{is_needed, is_true, AreSure}
use Rattle.sb_cover.specs.TextMachines.{told}
use Rattle.sb_cover.proofs.SignLemmas.{sure_cond}
use Rattle.sb_cover.proofs.signs.signs_of.Goals as goal

pub loop-number-preserved : goal.loop-number-preserved
loop-number-preserved c =
    let conds = c.args.table.now.conds.items in
    let patterns = c.args.table.now.patterns.items in
    let positions = c.args.positions.now in
    let i = c.loop-number.number in
    let asked = c.asked-item.result in
    let fails = c.loop-number.fails.items in
    let holds = c.loop-number.holds.items in
    let low : i < length conds = subst (λ l. i < length l) c.deref-asked-items.ensures.value c.loop-number-test.true in
    let is : asked ≡ get_or conds i asked = subst (λ l. asked ≡ get_or l i asked) c.deref-asked-items.ensures.value c.asked-item.is in
    let live : c.is_needed-is_live.result ≡ is_needed c.in_ok-live.live.items i = c.is_needed-is_live.ensures ∙ ap (λ l. is_needed l i) c.deref-in-loop-number.ensures.value in
    let sure : c.is_set-is_sure.result ≡ is_true c.in_ok-sure.sure.items i = c.is_set-is_sure.ensures ∙ ap (λ l. get_or l i false) c.deref-in-loop-number-2.ensures.value in
    let all : (n : ℕ) (later : List ℕ) → is_true c.in_ok-sure.sure.items n ≡ true → tells patterns positions n later ≡ true =
    subst (λ p. (n : ℕ) (later : List ℕ) → is_true c.in_ok-sure.sure.items n ≡ true → tells p positions n later ≡ true) c.deref.ensures.value c.in_ok-sure.ensures in
    record {
      fails = ap length c.in_ok-push.ensures.items ∙ length-append fails (c.does_fail.result ∷ []) ∙ ap (λ n. n + 1) c.loop-number.invariant.fails;
      holds = ap length c.in_ok-push-2.ensures.items ∙ length-append holds (c.does_hold.result ∷ []) ∙ ap (λ n. n + 1) c.loop-number.invariant.holds;
      sure = λ later.
          subst (λ x. AreSure x c.push-in-loop-number.new.self.items (told conds patterns positions later)) (sym c.in_ok-push.ensures.items)
          (subst (λ y. AreSure (fails ++ c.does_fail.result ∷ []) y (told conds patterns positions later)) (sym c.in_ok-push-2.ensures.items)
          (sure_cond conds patterns positions later fails holds c.in_ok-live.live.items c.in_ok-sure.sure.items i asked c.is_needed-is_live.result c.is_set-is_sure.result c.does_fail.result
          c.does_hold.result low is c.loop-number.invariant.fails c.loop-number.invariant.holds live sure c.in_ok-live.ensures all c.does_fail.ensures c.does_hold.ensures
          (c.loop-number.invariant.sure later)));
    }
