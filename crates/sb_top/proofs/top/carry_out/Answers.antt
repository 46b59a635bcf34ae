use Rattle.std.proofs.Common.{◌≡◌, sym, subst, ℕ, List, map}
use Rattle.std.specs.Borrow.{Bor}
use Rattle.std.specs.Prelude.{IfErr, Result, Ok, Err}
use Rattle.sb_commands.specs.declared.works.PlainWork.{PlainWork}
use Rattle.sb_outside.specs.Outside.{Rose}
use Rattle.sb_plain.specs.Audit.{audited_end, most_transcript_bytes}
use Rattle.sb_plain.specs.Contents.{ShownRefusal, most_bytes, schedule_if}
use Rattle.sb_plain.specs.Dup.{moves_end, moves_of}
use Rattle.sb_plain.specs.Linked.{calls_end, links_of}
use Rattle.sb_plain.specs.Local.{local_run_end}
use Rattle.sb_plain.specs.Readings.{GivesEnd, IsFound, IsOfText, ReportedEnd, reported}
use Rattle.sb_plain.specs.Replay.{run_end}
use Rattle.sb_plain.specs.ScriptEnds.{ends, needed}
use Rattle.sb_top.specs.Top.{HasFiles, plain_meaning}
use Rattle.sb_plain.proofs.Carrying.{end_of_text, gives_end}
use Rattle.sb_plain.proofs.Checking.{check_came, check_refused}
use Rattle.sb_plain.proofs.KeptFiles.{handed_on, made_of, result_caused, stopped}
use Rattle.sb_plain.proofs.ScriptEnds.{made_of_read, refused_read}
use Rattle.sb_top.proofs.top.carry_out.Goals as goal

pub only_text-requires : goal.only_text-requires
only_text-requires g c = subst (λ (w : PlainWork). HasFiles w (map (λ (name : Bor (List ℕ)). name.now) c.args.names.now)) c.in-Check.is c.requires

pub returns-in_err-text-in-Check-clause-files : goal.returns-in_err-text-in-Check-clause-files
returns-in_err-text-in-Check-clause-files g c = stopped c.from_residual.result c.in_err-text-in-Check.field-0.0 c.from_residual.ensures.1 c.in_err-text-in-Check.ensures.files

pub returns-in_err-text-in-Check-clause-found : goal.returns-in_err-text-in-Check-clause-found
returns-in_err-text-in-Check-clause-found g c =
    let refusal = c.in_err-text-in-Check.field-0.0 in
    let P : Result ReportedEnd ShownRefusal → Type 0 = IsFound reported 1 (plain_meaning c.args.work) (map (λ (name : Bor (List ℕ)). name.now) c.args.names.now) (g.F.Files.held c.args.files.now) in
    handed_on P c.from_residual.result refusal c.from_residual.ensures.1
    (subst (λ (w : PlainWork). IsFound reported 1 (plain_meaning w) (map (λ (name : Bor (List ℕ)). name.now) c.args.names.now) (g.F.Files.held c.args.files.now) (Err refusal)) (sym c.in-Check.is)
    (check_refused (g.F.Files.held c.args.files.now) (map (λ (name : Bor (List ℕ)). name.now) c.args.names.now) refusal (subst (λ (w : PlainWork). HasFiles w (map (λ (name : Bor (List ℕ)). name.now) c.args.names.now)) c.in-Check.is c.requires) c.in_err-text-in-Check.ensures.found))

pub returns-in_ok-text-in-Check-clause-found : goal.returns-in_ok-text-in-Check-clause-found
returns-in_ok-text-in-Check-clause-found g c =
    subst (λ (w : PlainWork). IsFound reported 1 (plain_meaning w) (map (λ (name : Bor (List ℕ)). name.now) c.args.names.now) (g.F.Files.held c.args.files.now) c.check_policy.result) (sym c.in-Check.is)
    (check_came (g.F.Files.held c.args.files.now) (map (λ (name : Bor (List ℕ)). name.now) c.args.names.now) c.in_ok-text-in-Check.text c.check_policy.result (subst (λ (w : PlainWork). HasFiles w (map (λ (name : Bor (List ℕ)). name.now) c.args.names.now)) c.in-Check.is c.requires) c.in_ok-text-in-Check.ensures.found c.check_policy.ensures.given)

pub read_script-requires : goal.read_script-requires
read_script-requires g c = subst (λ (w : PlainWork). HasFiles w (map (λ (name : Bor (List ℕ)). name.now) c.args.names.now)) c.in-Replay.is c.requires

pub returns-in_err-opened-in-Replay-clause-files : goal.returns-in_err-opened-in-Replay-clause-files
returns-in_err-opened-in-Replay-clause-files g c = stopped c.from_residual-in_err-opened-in-Replay.result c.in_err-opened-in-Replay.field-0.0 c.from_residual-in_err-opened-in-Replay.ensures.1 c.in_err-opened-in-Replay.ensures.files

pub returns-in_err-opened-in-Replay-clause-found : goal.returns-in_err-opened-in-Replay-clause-found
returns-in_err-opened-in-Replay-clause-found g c =
    let refusal = c.in_err-opened-in-Replay.field-0.0 in
    let P : Result ReportedEnd ShownRefusal → Type 0 = IsFound reported 1 (plain_meaning c.args.work) (map (λ (name : Bor (List ℕ)). name.now) c.args.names.now) (g.F.Files.held c.args.files.now) in
    handed_on P c.from_residual-in_err-opened-in-Replay.result refusal c.from_residual-in_err-opened-in-Replay.ensures.1
    (subst (λ (w : PlainWork). IsFound reported 1 (plain_meaning w) (map (λ (name : Bor (List ℕ)). name.now) c.args.names.now) (g.F.Files.held c.args.files.now) (Err refusal)) (sym c.in-Replay.is)
    (refused_read most_bytes schedule_if (ends run_end) (g.F.Files.held c.args.files.now) (map (λ (name : Bor (List ℕ)). name.now) c.args.names.now) refusal c.in_err-opened-in-Replay.ensures.found))

pub returns-in_ok-opened-in-Replay-clause-found : goal.returns-in_ok-opened-in-Replay-clause-found
returns-in_ok-opened-in-Replay-clause-found g c =
    subst (λ (w : PlainWork). IsFound reported 1 (plain_meaning w) (map (λ (name : Bor (List ℕ)). name.now) c.args.names.now) (g.F.Files.held c.args.files.now) c.end_or_refusal.result) (sym c.in-Replay.is)
    (made_of_read most_bytes schedule_if (ends run_end) (g.F.Files.held c.args.files.now) (map (λ (name : Bor (List ℕ)). name.now) c.args.names.now) c.in_ok-opened-in-Replay.opened c.in_ok-opened-in-Replay.schedule c.end_or_refusal.result c.in_ok-opened-in-Replay.ensures.found (subst (GivesEnd (Ok (run_end c.in_ok-opened-in-Replay.opened.policies c.in_ok-opened-in-Replay.opened.script c.in_ok-opened-in-Replay.schedule))) (sym c.end_or_refusal.ensures) (gives_end c.replay_script.result (run_end c.in_ok-opened-in-Replay.opened.policies c.in_ok-opened-in-Replay.opened.script c.in_ok-opened-in-Replay.schedule) c.replay_script.ensures)))

pub returns-in_err-opened-in-Linked-clause-files : goal.returns-in_err-opened-in-Linked-clause-files
returns-in_err-opened-in-Linked-clause-files g c = stopped c.from_residual-in_err-opened-in-Linked.result c.in_err-opened-in-Linked.field-0.0 c.from_residual-in_err-opened-in-Linked.ensures.1 c.in_err-opened-in-Linked.ensures.files

pub returns-in_err-opened-in-Linked-clause-found : goal.returns-in_err-opened-in-Linked-clause-found
returns-in_err-opened-in-Linked-clause-found g c =
    let refusal = c.in_err-opened-in-Linked.field-0.0 in
    let P : Result ReportedEnd ShownRefusal → Type 0 = IsFound reported 1 (plain_meaning c.args.work) (map (λ (name : Bor (List ℕ)). name.now) c.args.names.now) (g.F.Files.held c.args.files.now) in
    handed_on P c.from_residual-in_err-opened-in-Linked.result refusal c.from_residual-in_err-opened-in-Linked.ensures.1
    (subst (λ (w : PlainWork). IsFound reported 1 (plain_meaning w) (map (λ (name : Bor (List ℕ)). name.now) c.args.names.now) (g.F.Files.held c.args.files.now) (Err refusal)) (sym c.in-Linked.is)
    (refused_read most_bytes (λ script. needed links_of) (ends calls_end) (g.F.Files.held c.args.files.now) (map (λ (name : Bor (List ℕ)). name.now) c.args.names.now) refusal c.in_err-opened-in-Linked.ensures.found))

pub returns-in_ok-opened-in-Linked-clause-found : goal.returns-in_ok-opened-in-Linked-clause-found
returns-in_ok-opened-in-Linked-clause-found g c =
    subst (λ (w : PlainWork). IsFound reported 1 (plain_meaning w) (map (λ (name : Bor (List ℕ)). name.now) c.args.names.now) (g.F.Files.held c.args.files.now) c.end_or_refusal-in-Linked.result) (sym c.in-Linked.is)
    (made_of_read most_bytes (λ script. needed links_of) (ends calls_end) (g.F.Files.held c.args.files.now) (map (λ (name : Bor (List ℕ)). name.now) c.args.names.now) c.in_ok-opened-in-Linked.opened c.in_ok-opened-in-Linked.links c.end_or_refusal-in-Linked.result c.in_ok-opened-in-Linked.ensures.found (subst (GivesEnd (Ok (calls_end c.in_ok-opened-in-Linked.opened.policies c.in_ok-opened-in-Linked.opened.script c.in_ok-opened-in-Linked.links))) (sym c.end_or_refusal-in-Linked.ensures) (gives_end c.linked_script.result (calls_end c.in_ok-opened-in-Linked.opened.policies c.in_ok-opened-in-Linked.opened.script c.in_ok-opened-in-Linked.links) c.linked_script.ensures)))

pub returns-in_err-opened-in-Dup-clause-files : goal.returns-in_err-opened-in-Dup-clause-files
returns-in_err-opened-in-Dup-clause-files g c = stopped c.from_residual-in_err-opened-in-Dup.result c.in_err-opened-in-Dup.field-0.0 c.from_residual-in_err-opened-in-Dup.ensures.1 c.in_err-opened-in-Dup.ensures.files

pub returns-in_err-opened-in-Dup-clause-found : goal.returns-in_err-opened-in-Dup-clause-found
returns-in_err-opened-in-Dup-clause-found g c =
    let refusal = c.in_err-opened-in-Dup.field-0.0 in
    let P : Result ReportedEnd ShownRefusal → Type 0 = IsFound reported 1 (plain_meaning c.args.work) (map (λ (name : Bor (List ℕ)). name.now) c.args.names.now) (g.F.Files.held c.args.files.now) in
    handed_on P c.from_residual-in_err-opened-in-Dup.result refusal c.from_residual-in_err-opened-in-Dup.ensures.1
    (subst (λ (w : PlainWork). IsFound reported 1 (plain_meaning w) (map (λ (name : Bor (List ℕ)). name.now) c.args.names.now) (g.F.Files.held c.args.files.now) (Err refusal)) (sym c.in-Dup.is)
    (refused_read most_bytes (λ script. needed (moves_of script)) (ends moves_end) (g.F.Files.held c.args.files.now) (map (λ (name : Bor (List ℕ)). name.now) c.args.names.now) refusal c.in_err-opened-in-Dup.ensures.found))

pub returns-in_ok-opened-in-Dup-clause-found : goal.returns-in_ok-opened-in-Dup-clause-found
returns-in_ok-opened-in-Dup-clause-found g c =
    subst (λ (w : PlainWork). IsFound reported 1 (plain_meaning w) (map (λ (name : Bor (List ℕ)). name.now) c.args.names.now) (g.F.Files.held c.args.files.now) c.end_or_refusal-in-Dup.result) (sym c.in-Dup.is)
    (made_of_read most_bytes (λ script. needed (moves_of script)) (ends moves_end) (g.F.Files.held c.args.files.now) (map (λ (name : Bor (List ℕ)). name.now) c.args.names.now) c.in_ok-opened-in-Dup.opened c.in_ok-opened-in-Dup.moves c.end_or_refusal-in-Dup.result c.in_ok-opened-in-Dup.ensures.found (subst (GivesEnd (Ok (moves_end c.in_ok-opened-in-Dup.opened.policies c.in_ok-opened-in-Dup.opened.script c.in_ok-opened-in-Dup.moves))) (sym c.end_or_refusal-in-Dup.ensures) (gives_end c.dup_script.result (moves_end c.in_ok-opened-in-Dup.opened.policies c.in_ok-opened-in-Dup.opened.script c.in_ok-opened-in-Dup.moves) c.dup_script.ensures)))

pub returns-in_err-opened-in-Local-clause-files : goal.returns-in_err-opened-in-Local-clause-files
returns-in_err-opened-in-Local-clause-files g c = stopped c.from_residual-in_err-opened-in-Local.result c.in_err-opened-in-Local.field-0.0 c.from_residual-in_err-opened-in-Local.ensures.1 c.in_err-opened-in-Local.ensures.files

pub returns-in_err-opened-in-Local-clause-found : goal.returns-in_err-opened-in-Local-clause-found
returns-in_err-opened-in-Local-clause-found g c =
    let refusal = c.in_err-opened-in-Local.field-0.0 in
    let P : Result ReportedEnd ShownRefusal → Type 0 = IsFound reported 1 (plain_meaning c.args.work) (map (λ (name : Bor (List ℕ)). name.now) c.args.names.now) (g.F.Files.held c.args.files.now) in
    handed_on P c.from_residual-in_err-opened-in-Local.result refusal c.from_residual-in_err-opened-in-Local.ensures.1
    (subst (λ (w : PlainWork). IsFound reported 1 (plain_meaning w) (map (λ (name : Bor (List ℕ)). name.now) c.args.names.now) (g.F.Files.held c.args.files.now) (Err refusal)) (sym c.in-Local.is)
    (refused_read most_bytes schedule_if (ends local_run_end) (g.F.Files.held c.args.files.now) (map (λ (name : Bor (List ℕ)). name.now) c.args.names.now) refusal c.in_err-opened-in-Local.ensures.found))

pub returns-in_ok-opened-in-Local-clause-found : goal.returns-in_ok-opened-in-Local-clause-found
returns-in_ok-opened-in-Local-clause-found g c =
    subst (λ (w : PlainWork). IsFound reported 1 (plain_meaning w) (map (λ (name : Bor (List ℕ)). name.now) c.args.names.now) (g.F.Files.held c.args.files.now) c.end_or_refusal-in-Local.result) (sym c.in-Local.is)
    (made_of_read most_bytes schedule_if (ends local_run_end) (g.F.Files.held c.args.files.now) (map (λ (name : Bor (List ℕ)). name.now) c.args.names.now) c.in_ok-opened-in-Local.opened c.in_ok-opened-in-Local.schedule c.end_or_refusal-in-Local.result c.in_ok-opened-in-Local.ensures.found (subst (GivesEnd (Ok (local_run_end c.in_ok-opened-in-Local.opened.policies c.in_ok-opened-in-Local.opened.script c.in_ok-opened-in-Local.schedule))) (sym c.end_or_refusal-in-Local.ensures) (gives_end c.local_script.result (local_run_end c.in_ok-opened-in-Local.opened.policies c.in_ok-opened-in-Local.opened.script c.in_ok-opened-in-Local.schedule) c.local_script.ensures)))

pub returns-in_err-opened-in-Audit-clause-files : goal.returns-in_err-opened-in-Audit-clause-files
returns-in_err-opened-in-Audit-clause-files g c = stopped c.from_residual-in_err-opened-in-Audit.result c.in_err-opened-in-Audit.field-0.0 c.from_residual-in_err-opened-in-Audit.ensures.1 c.in_err-opened-in-Audit.ensures.files

pub returns-in_err-opened-in-Audit-clause-found : goal.returns-in_err-opened-in-Audit-clause-found
returns-in_err-opened-in-Audit-clause-found g c =
    let refusal = c.in_err-opened-in-Audit.field-0.0 in
    let P : Result ReportedEnd ShownRefusal → Type 0 = IsFound reported 1 (plain_meaning c.args.work) (map (λ (name : Bor (List ℕ)). name.now) c.args.names.now) (g.F.Files.held c.args.files.now) in
    handed_on P c.from_residual-in_err-opened-in-Audit.result refusal c.from_residual-in_err-opened-in-Audit.ensures.1
    (subst (λ (w : PlainWork). IsFound reported 1 (plain_meaning w) (map (λ (name : Bor (List ℕ)). name.now) c.args.names.now) (g.F.Files.held c.args.files.now) (Err refusal)) (sym c.in-Audit.is)
    (refused_read most_transcript_bytes (λ script. needed Ok) audited_end (g.F.Files.held c.args.files.now) (map (λ (name : Bor (List ℕ)). name.now) c.args.names.now) refusal c.in_err-opened-in-Audit.ensures.found))

pub returns-in_ok-opened-in-Audit-clause-found : goal.returns-in_ok-opened-in-Audit-clause-found
returns-in_ok-opened-in-Audit-clause-found g c =
    subst (λ (w : PlainWork). IsFound reported 1 (plain_meaning w) (map (λ (name : Bor (List ℕ)). name.now) c.args.names.now) (g.F.Files.held c.args.files.now) c.audit_text.result) (sym c.in-Audit.is)
    (made_of_read most_transcript_bytes (λ script. needed Ok) audited_end (g.F.Files.held c.args.files.now) (map (λ (name : Bor (List ℕ)). name.now) c.args.names.now) c.in_ok-opened-in-Audit.opened c.in_ok-opened-in-Audit.text c.audit_text.result c.in_ok-opened-in-Audit.ensures.found c.audit_text.ensures.given)
