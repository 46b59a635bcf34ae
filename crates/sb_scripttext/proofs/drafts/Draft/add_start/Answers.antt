use Rattle.std.proofs.Common.{rules, ◌≡◌, ◌<◌, length}
use Rattle.std.proofs.lemmas.Result.{err_from_is_err_and}
use Rattle.sb_scripttext.proofs.Started.{start_more, start_refused}
use Rattle.sb_scripttext.proofs.drafts.Draft.add_start.Goals as goal

pub returns-in_err-self : goal.returns-in_err-self
returns-in_err-self c =
    let p = err_from_is_err_and c.from_residual.result c.from_residual.ensures.1 in
    rw (p.1, p.2) (start_refused c.args.self.now _ c.args.line c.replace-start.result c.in_err-self.field-0.0 c.replace-start.ensures.value c.in_err-self.ensures)

pub returns : goal.returns
returns c =
    let few : length c.args.self.now.start < 4096 = search rules in
    start_more c.args.self.now c.args.line c.replace-start.result c.in_ok-self.field-0 c.replace-start.ensures.value c.in_ok-self.ensures few
