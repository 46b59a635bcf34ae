use Rattle.std.specs.List.{list_all}
use Rattle.std.proofs.Common.{◌≡◌, true, take}
use Rattle.sb_cover.specs.Opening.{AreMore, AreOpened, AreUnread}
use Rattle.sb_cover.specs.PlainQuestions.{is_plain_asked, is_plain_rule}
use Rattle.sb_cover.proofs.opening.rules_for.Given as goal

abbrev pub invariant-loop-place : goal.invariant-loop-place
invariant-loop-place l = record {
  more : AreMore l.fn.conds.items l.conds.items;
  rules : AreOpened l.conds.items l.tag l.rules l.is_cut (take l.place l.rules) l.opened;
  unread : AreUnread l.opened;
  plain : list_all is_plain_rule l.rules ≡ true → list_all is_plain_asked l.fn.conds.items ≡ true → list_all is_plain_asked l.conds.items ≡ true;
}
