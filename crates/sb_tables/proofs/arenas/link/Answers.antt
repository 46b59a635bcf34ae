use Rattle.std.proofs.Common.{rules, ◌≡◌, ◌≢◌, false, sym}
use Rattle.std.specs.Prelude.{is_some}
use Rattle.sb_tables.proofs.Apart.{is_apart, none_given, nothing_first}
use Rattle.sb_tables.proofs.arenas.link.Goals as goal

pub link-requires-clause-apart : goal.link-requires-clause-apart
link-requires-clause-apart c =
    let none : is_some c.first_child.result ≡ false = search rules in
    let differ : c.args.child.0 ≢ c.in_ok-parent.parent.0 = search rules in
    is_apart c.args.arena.now c.establish_forest.ensures.agree c.args.child.0
    (nothing_first _ (none_given (λ n. n.0) c.first_child.result _ none c.first_child.ensures)) c.in_ok-parent.parent.0 (λ same. differ (sym same))
