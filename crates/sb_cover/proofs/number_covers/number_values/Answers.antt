use Rattle.std.specs.List.{Contains}
use Rattle.std.specs.Prelude.{IfSome}
use Rattle.std.proofs.Common.{◌≤◌, ◌<◌, ℕ, length, subst}
use Rattle.sb_cover.specs.Bits.{value_of, IsRead}
use Rattle.sb_explore.specs.Exploring.{list_at, AreFound, AllReached}
use Rattle.sb_cover.proofs.NumberLemmas.{numbers_stand}
use Rattle.sb_cover.proofs.number_covers.number_values.Goals as goal

pub returns-clause-all : goal.returns-clause-all
returns-clause-all c =
    let after = IsRead c.args.comparisons.items c.args.width in
    let found = c.in-Some.found in
    let each : AreFound after found.words.items found.states.keys = subst (λ o. IfSome o (λ f. AreFound after f.words.items f.states.keys)) c.in-Some.is c.in_ok-found.ensures.each in
    let all : AllReached after found.words.items found.states.keys = subst (λ o. IfSome o (λ f. AllReached after f.words.items f.states.keys)) c.in-Some.is c.in_ok-found.ensures.all in
    let values = c.in_ok-values-2.values.items in
    numbers_stand c.args.comparisons.items c.args.width found.words.items found.states.keys values each all
    (subst (λ l. (k : ℕ) → k < length l → c.args.width ≤ length (list_at l k) → Contains values (value_of c.args.width (list_at l k))) c.deref.ensures.value c.in_ok-values-2.ensures.here)
