use Rattle.std.specs.List.{list_all}
use Rattle.std.proofs.Common.{◌≡◌, true, take}
use Rattle.sb_cover.specs.Opening.{AllOpened, AllUnread}
use Rattle.sb_cover.specs.PlainQuestions.{is_plain_asked, is_plain_question}
use Rattle.sb_cover.proofs.opening.open_questions.Given as goal

abbrev pub invariant-loop-question : goal.invariant-loop-question
invariant-loop-question l = record {
  rules : AllOpened l.conds.items l.tag (take l.question-index l.questions) l.opened;
  unread : AllUnread l.opened;
  plain : list_all is_plain_question l.questions ≡ true → list_all is_plain_asked l.fn.conds.items ≡ true → list_all is_plain_asked l.conds.items ≡ true;
}
