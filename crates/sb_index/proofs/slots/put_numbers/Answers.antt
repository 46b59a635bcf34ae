use Rattle.std.proofs.Common.{◌≡◌, eqb}
use Rattle.std.specs.List.{list_all}
use Rattle.std.specs.Prelude.{slice_index_or}
use Rattle.std.proofs.lemmas.List.{get_or_default, take_all}
use Rattle.sb_index.specs.Bounds.{first_of, last_of}
use Rattle.sb_index.specs.Marks.{is_marked}
use Rattle.sb_index.specs.Questions.{cond_may_pass}
use Rattle.sb_index.specs.declared.questions.Question.TheVariants.{Within}
use Rattle.sb_index.proofs.SlotLemmas.{no_number, number_put}
use Rattle.sb_index.proofs.slots.put_numbers.Goals as goal

pub loop-number-init : goal.loop-number-init
loop-number-init c =
    let bounds = c.args.bounds.now in (
      c.requires.sized,
      λ from h fresh. fresh,
      λ slot k h. no_number (is_marked c.args.marks.now slot k) (eqb k c.args.rule)
          (list_all (cond_may_pass (Within c.args.feature (first_of bounds slot) (last_of bounds slot))) c.args.conds.now),
    )

pub loop-number-preserved : goal.loop-number-preserved
loop-number-preserved c =
    let bounds = c.args.bounds.now in
    let numbers = c.args.numbers.now in
    let i = c.loop-number.number-index in
    let old = c.loop-number.invariant in
    let put = c.put_number.ensures in
    let n = slice_index_or numbers i 0 in
    let is : n ≡ slice_index_or numbers i n = get_or_default numbers i 0 n c.loop-number-test.true in (
      put.sized,
      λ from h fresh. put.fresh from h (old.1 from h fresh),
      λ slot k h. number_put (first_of bounds slot) (last_of bounds slot) numbers i n (is_marked c.args.marks.now slot k)
          (is_marked c.loop-number.marks slot k) (is_marked c.put_number.new.marks slot k) (eqb k c.args.rule)
          (list_all (cond_may_pass (Within c.args.feature (first_of bounds slot) (last_of bounds slot))) c.args.conds.now)
          c.loop-number-test.true is (old.2 slot k h) (put.marked slot k h),
    )

pub returns-clause-fresh : goal.returns-clause-fresh
returns-clause-fresh c = c.loop-number.invariant.1

pub returns-clause-marked : goal.returns-clause-marked
returns-clause-marked c = rw (take_all c.loop-number.number-index c.args.numbers.now c.loop-number-test.false) at c.loop-number.invariant.2
