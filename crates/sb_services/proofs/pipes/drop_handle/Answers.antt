use Rattle.std.proofs.Common.{rules, ◌≡◌, true, false, Some, subst, sym, ◌∙◌, ap, arith, nat_le, not}
use Rattle.std.proofs.lemmas.Bool.Decides.{nat_tests}
use Rattle.sb_names.specs.Maps.{found}
use Rattle.sb_services.specs.PipeKeeping.{is_numbered}
use Rattle.sb_services.proofs.PipeDrops.{dropped_last, gone_with_last, own_number}
use Rattle.sb_services.proofs.pipes.drop_handle.Goals as goal

pub returns-else-row-gt1-clause-rows : goal.returns-else-row-gt1-clause-rows
returns-else-row-gt1-clause-rows c =
    let f : found c.args.rows.now c.args.name.now ≡ Some c.in-Some.row = search rules in
    let n = own_number c.args.rows.now c.args.name.now c.args.number c.in-Some.row f c.establish_order.ensures c.requires.under c.requires.there in
    let last : nat_le c.in-Some.row.handles 1 ≡ true = grind (arith, nat_tests, c.if-row-gt1.false) in
    c.remove.ensures.rows ∙ sym (dropped_last c.args.rows.now c.args.name.now c.args.number c.in-Some.row f n last c.requires.under)

pub returns-else-row-gt1-clause-gone : goal.returns-else-row-gt1-clause-gone
returns-else-row-gt1-clause-gone c =
    let f : found c.args.rows.now c.args.name.now ≡ Some c.in-Some.row = search rules in
    let n = own_number c.args.rows.now c.args.name.now c.args.number c.in-Some.row f c.establish_order.ensures c.requires.under c.requires.there in
    let last : nat_le c.in-Some.row.handles 1 ≡ true = grind (arith, nat_tests, c.if-row-gt1.false) in
    let out = dropped_last c.args.rows.now c.args.name.now c.args.number c.in-Some.row f n last c.requires.under in
    let gone = gone_with_last c.out_is_out.ensures c.args.rows.now c.args.name.now c.args.number out c.establish_order.ensures c.requires.under in
    sym (ap not (subst (λ rows. is_numbered rows c.args.number ≡ false) (sym c.remove.ensures.rows) gone))
