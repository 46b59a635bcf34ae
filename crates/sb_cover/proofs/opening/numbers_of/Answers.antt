use Rattle.std.specs.List.{list_all}
use Rattle.std.specs.Prelude.{IfSome}
use Rattle.std.proofs.Common.{◌≡◌, ◌∙◌, ◌++◌, ◌∷◌, [], List, ap, get_or, subst}
use Rattle.sb_call.specs.declared.arguments.Arg.{Arg}
use Rattle.sb_rule.specs.Verdicts.{cond_holds}
use Rattle.sb_cover.specs.Calls.{met_from}
use Rattle.sb_cover.specs.Opening.{asked_of}
use Rattle.sb_cover.specs.PlainQuestions.{is_plain_cond}
use Rattle.sb_cover.specs.declared.asked_conds.AskedCond.{AskedCond}
use Rattle.sb_cover.proofs.OpeningLemmas.{more_more, numbers_one}
use Rattle.sb_cover.proofs.PlainLemmas.{element_passes}
use Rattle.sb_cover.proofs.opening.numbers_of.Goals as goal

pub loop-cond-preserved : goal.loop-cond-preserved
loop-cond-preserved c =
    let old = c.loop-cond.conds.items in
    let new = c.number_of.new.conds.items in
    let n = c.in-Some.number in
    let item = c.cond-item.result in
    let met : (more : List AskedCond) (args : List Arg) → met_from (new ++ more) 0 args n ≡ cond_holds item (asked_of c.args.is_cut args) =
    subst (λ o. IfSome o (λ n. (more : List AskedCond) (args : List Arg) → met_from (new ++ more) 0 args n ≡ cond_holds item (asked_of c.args.is_cut args))) c.in-Some.is c.in_ok-number.ensures.met in
    record {
      more = more_more c.args.conds.now.items old new c.loop-cond.invariant.more c.in_ok-number.ensures.more;
      met = λ more args.
          ap (list_all (met_from (new ++ more) 0 args)) c.in_ok-push.ensures.items
          ∙ numbers_one old new c.args.rule_conds.now c.args.is_cut c.loop-cond.numbers.items n c.loop-cond.cond-index item c.loop-cond-test.true c.in_ok-number.ensures.more
          c.loop-cond.invariant.met (λ more args. met more args ∙ ap (λ x. cond_holds x (asked_of c.args.is_cut args)) c.cond-item.is) more args;
      plain = λ all before.
          c.in_ok-number.ensures.plain (element_passes is_plain_cond c.args.rule_conds.now c.loop-cond.cond-index item c.loop-cond-test.true c.cond-item.is all)
          (c.loop-cond.invariant.plain all before);
    }
