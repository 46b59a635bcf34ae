use Rattle.std.proofs.Common.{◌≡◌, ◌∷◌, ◌+◌, false, drop, get_or, subst}
use Rattle.std.proofs.Math.ListN.{drop_of_length-le}
use Rattle.std.proofs.lemmas.List.{at_drop_more}
use Rattle.sb_rule.specs.declared.actions.Action.TheVariants.{Allow}
use Rattle.sb_rule.specs.declared.verdicts.Verdict.TheVariants.{Rule}
use Rattle.sb_compare.specs.declared.changes.Change.{Change}
use Rattle.sb_compare.proofs.Walks.{ArePutSoFar}
use Rattle.sb_compare.proofs.ShownChangeLemmas.{put_all, put_more, put_none}
use Rattle.sb_compare.proofs.shown_changes.put_changes.Goals as goal

-- what stands at no place
abbrev no_change : Change
no_change = record { old = Rule 0 Allow; new = Rule 0 Allow; writes = false }

pub loop-change-init : goal.loop-change-init
loop-change-init c = λ old new name old_made new_made are written. put_none c.args.tag old new c.args.changes.now c.args.shown.now

pub loop-change-preserved : goal.loop-change-preserved
loop-change-preserved c = λ old new name old_made new_made are written.
    let changes = c.args.changes.now in
    let at = c.loop-change.change-index in
    let change = get_or changes at no_change in
    let more : drop at changes ≡ change ∷ drop (at + 1) changes = at_drop_more (λ l. l) changes at no_change c.loop-change-test.true in
    put_more c.args.tag old new changes (drop (at + 1) changes) change c.args.shown.now c.loop-change.shown c.put_change.new.shown
    (c.in_ok-put_change.ensures old new name old_made new_made are written)
    (subst (λ rest. ArePutSoFar c.args.tag old new changes rest c.args.shown.now c.loop-change.shown) more (c.loop-change.invariant old new name old_made new_made are written))

pub returns : goal.returns
returns c = λ old new name old_made new_made are written.
    put_all c.args.tag old new c.args.changes.now (drop c.loop-change.change-index c.args.changes.now) c.args.shown.now c.loop-change.shown (drop_of_length-le c.args.changes.now c.loop-change-test.false) (c.loop-change.invariant old new name old_made new_made are written)
