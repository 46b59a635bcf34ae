use Rattle.std.specs.List.{list_any}
use Rattle.std.specs.Prelude.{bit_and}
use Rattle.std.proofs.Common.{◌∙◌, ap, eqb, get_or, sym}
use Rattle.std.proofs.lemmas.List.{take_all}
use Rattle.sb_cover.proofs.CompareLemmas.{more_more, number_more, one_more}
use Rattle.sb_cover.proofs.comparing.put_numbers.Goals as goal

pub loop-number-preserved : goal.loop-number-preserved
loop-number-preserved c = record {
  more = more_more c.args.comparisons.now.items c.loop-number.comparisons.items c.put.new.comparisons.items c.loop-number.invariant.more
      (one_more c.loop-number.comparisons.items c.put.new.comparisons.items (record { mask = c.args.mask; bound = get_or c.args.numbers.now c.loop-number.number-index 0 }) c.in_ok-put.ensures);
  tells = λ a b. number_more c.loop-number.comparisons.items c.put.new.comparisons.items c.args.mask c.args.numbers.now c.loop-number.number-index a b c.loop-number-test.true c.in_ok-put.ensures
      (c.loop-number.invariant.tells a b);
}

pub returns-clause-tells : goal.returns-clause-tells
returns-clause-tells c = λ a b alike.
    let all = take_all c.loop-number.number-index c.args.numbers.now c.loop-number-test.false in
    sym (ap (list_any (λ n. eqb n (bit_and a c.args.mask))) all) ∙ c.loop-number.invariant.tells a b alike ∙ ap (list_any (λ n. eqb n (bit_and b c.args.mask))) all
