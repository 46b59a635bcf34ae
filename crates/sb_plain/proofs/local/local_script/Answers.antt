use Rattle.std.proofs.Common.{◌≡◌, ◌∙◌, sym, subst, true, rules, List}
use Rattle.std.specs.Prelude.{IfOk}
use Rattle.std.specs.List.{list_all}
use Rattle.sb_book.specs.Histories.{setting_of}
use Rattle.sb_book.specs.ReadyScripts.{Ready}
use Rattle.sb_core.specs.Runs.{ran}
use Rattle.sb_kernel.specs.Openings.{opening}
use Rattle.sb_local.specs.Lines.{denial_lines}
use Rattle.sb_local.specs.declared.denials.LocalDenial.{LocalDenial}
use Rattle.sb_statements.specs.Actors.{is_step_there}
use Rattle.sb_statements.specs.declared.scripts.Script.{Script}
use Rattle.sb_plain.specs.Readings.{ReportedEnd, reported}
use Rattle.sb_plain.specs.Local.{local_run_end, reported_after}
use Rattle.sb_plain.proofs.LocalRuns.{judges_sent, local_ended, opens_as_written, sent_there, thinned_to}
use Rattle.sb_plain.proofs.local.local_script.Goals as goal

pub of-requires : goal.of-requires
of-requires c =
    let written = c.into_parts-written.result.0 in
    let kernel = c.into_parts-written.result.1 in
    let sent = c.in_ok-sent.sent.ready in
    let denied = c.in_ok-sent.sent.denied in
    let judged = c.in_ok-judge.judge.policies in
    let j : judged ≡ (setting_of written.policies written.script).policies = search rules in
    let h = thinned_to written sent judged denied j c.in_ok-sent.ensures.policies c.in_ok-sent.ensures.script c.in_ok-sent.ensures.denied in
    let P : Ready → Type 0 = λ z. kernel ≡ opening z.script.start in
    let same : sent ≡ c.ready.result.now = search rules in
    let at_start : kernel ≡ opening written.script.start = search rules in
    record { opens = subst P same (opens_as_written written sent judged denied h kernel at_start) }

pub run-requires-clause-judge : goal.run-requires-clause-judge
run-requires-clause-judge c κs =
    let written = c.into_parts-written.result.0 in
    let sent = c.in_ok-sent.sent.ready in
    let denied = c.in_ok-sent.sent.denied in
    let judged = c.in_ok-judge.judge.policies in
    let j : judged ≡ (setting_of written.policies written.script).policies = search rules in
    let h = thinned_to written sent judged denied j c.in_ok-sent.ensures.policies c.in_ok-sent.ensures.script c.in_ok-sent.ensures.denied in
    let P : Ready → Type 0 = λ z. judged ≡ (setting_of z.policies z.script).policies in
    let same : sent ≡ c.of.result = search rules in
    subst P same (judges_sent c.thinned_scripts_are_sound.ensures.settings written sent judged denied h)

pub run-requires-clause-there : goal.run-requires-clause-there
run-requires-clause-there c κs =
    let written = c.into_parts-written.result.0 in
    let sent = c.in_ok-sent.sent.ready in
    let denied = c.in_ok-sent.sent.denied in
    let judged = c.in_ok-judge.judge.policies in
    let steps = c.args.schedule.now.steps in
    let j : judged ≡ (setting_of written.policies written.script).policies = search rules in
    let h = thinned_to written sent judged denied j c.in_ok-sent.ensures.policies c.in_ok-sent.ensures.script c.in_ok-sent.ensures.denied in
    let P : Ready → Type 0 = λ z. list_all (is_step_there z.script.targets) steps ≡ true in
    let there : P written = subst P (sym c.into_parts-written.ensures.ready) c.requires.there in
    let same : sent ≡ c.of.result = search rules in
    subst P same (sent_there c.thinned_scripts_are_sound.ensures.actors written sent judged denied h steps there)

pub returns : goal.returns
returns c =
    let written = c.into_parts-written.result.0 in
    let sent = c.in_ok-sent.sent.ready in
    let denied = c.in_ok-sent.sent.denied in
    let judged = c.in_ok-judge.judge.policies in
    let schedule = c.args.schedule.now in
    let ran_of = c.in_ok-ran.ran in
    let j : judged ≡ (setting_of written.policies written.script).policies = search rules in
    let h = thinned_to written sent judged denied j c.in_ok-sent.ensures.policies c.in_ok-sent.ensures.script c.in_ok-sent.ensures.denied in
    let w : c.deref-2.result.now ≡ written.script = search rules in
    let d : c.denied.result.now ≡ denied = search rules in
    let s : c.deref-3.result.now ≡ sent.script = search rules in
    let r : ran_of ≡ ran sent.policies sent.script schedule = search rules in
    let P : Script → Type 0 = λ x. IfOk c.end_of_local.result (λ end. end ≡ reported_after (denial_lines x c.denied.result.now) c.deref-3.result.now ran_of) in
    let p : P written.script = subst P w c.end_of_local.ensures in
    let Q : List LocalDenial → Type 0 = λ x. IfOk c.end_of_local.result (λ end. end ≡ reported_after (denial_lines written.script x) c.deref-3.result.now ran_of) in
    let q : Q denied = subst Q d p in
    let R : Script → Type 0 = λ x. IfOk c.end_of_local.result (λ end. end ≡ reported_after (denial_lines written.script denied) x ran_of) in
    let of_sent : R sent.script = subst R s q in
    let E : ReportedEnd → Type 0 = λ x. IfOk c.end_of_local.result (λ end. end ≡ x) in
    let ended : E (reported (local_run_end written.policies written.script schedule)) =
    subst E (local_ended written sent judged denied h schedule ran_of r) of_sent in
    let T : Ready → Type 0 = λ z. IfOk c.end_of_local.result (λ end. end ≡ reported (local_run_end z.policies z.script schedule)) in
    subst T c.into_parts-written.ensures.ready ended
