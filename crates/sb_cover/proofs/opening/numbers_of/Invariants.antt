use Rattle.std.specs.List.{list_all}
use Rattle.std.proofs.Common.{◌≡◌, ◌++◌, List, true, take}
use Rattle.sb_call.specs.declared.arguments.Arg.{Arg}
use Rattle.sb_rule.specs.Verdicts.{cond_holds}
use Rattle.sb_cover.specs.Calls.{met_from}
use Rattle.sb_cover.specs.Opening.{AreMore, asked_of}
use Rattle.sb_cover.specs.PlainQuestions.{is_plain_asked, is_plain_cond}
use Rattle.sb_cover.specs.declared.asked_conds.AskedCond.{AskedCond}
use Rattle.sb_cover.proofs.opening.numbers_of.Given as goal

abbrev pub invariant-loop-cond : goal.invariant-loop-cond
invariant-loop-cond l = record {
  more : AreMore l.fn.conds.items l.conds.items;
  met : (more : List AskedCond) (args : List Arg)
      → list_all (met_from (l.conds.items ++ more) 0 args) l.numbers.items ≡ list_all (λ c. cond_holds c (asked_of l.is_cut args)) (take l.cond-index l.rule_conds);
  plain : list_all is_plain_cond l.rule_conds ≡ true → list_all is_plain_asked l.fn.conds.items ≡ true → list_all is_plain_asked l.conds.items ≡ true;
}
