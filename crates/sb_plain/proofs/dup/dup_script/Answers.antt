use Rattle.std.proofs.Common.{◌≡◌, ◌∙◌, rules, subst}
use Rattle.sb_book.specs.Histories.{setting_of}
use Rattle.sb_book.specs.ReadyScripts.{Ready}
use Rattle.sb_plain.specs.Contents.{no_schedule}
use Rattle.sb_plain.specs.Replay.{whole_run}
use Rattle.sb_plain.proofs.Moving.{each_judged, moves_ended}
use Rattle.sb_plain.proofs.dup.dup_script.Goals as goal

pub end_of_moves-requires-clause-between : goal.end_of_moves-requires-clause-between
end_of_moves-requires-clause-between c =
    let same : c.deref.result.now ≡ c.args.opened.script = search rules in
    each_judged c.policies.result.now.list c.in_ok-judge.judge.policies c.deref.result.now c.args.opened.script c.args.moves.now c.in_ok-judge.ensures same c.requires.between

pub returns : goal.returns
returns c =
    let opened = c.args.opened in
    let P : Ready → Type 0 = λ z. c.in_ok-ran.ran ≡ whole_run z.policies z.script no_schedule in
    let whole : P opened = subst P (c.of.ensures ∙ c.into_parts-ready.ensures.ready) c.in_ok-ran.ensures.value in
    let same : c.deref-2.result.now ≡ opened.script = search rules in
    let judged : c.in_ok-judge.judge.policies ≡ (setting_of opened.policies opened.script).policies = search rules in
    moves_ended opened c.in_ok-judge.judge.policies c.deref-2.result.now c.args.moves.now c.in_ok-ran.ran c.end_of_moves.result judged same whole c.end_of_moves.ensures
