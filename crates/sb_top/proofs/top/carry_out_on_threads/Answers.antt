use Rattle.std.proofs.Common.{◌≡◌, ◌∙◌, ◌≤◌, ◌<◌, ◌^◌, arith, rules, sym, subst, ℕ, List, map}
use Rattle.std.specs.Borrow.{Bor}
use Rattle.std.specs.Prelude.{IfErr, IfOk, Result, Ok, Err}
use Rattle.sb_commands.specs.Commands.{HasNumbers, threaded}
use Rattle.sb_commands.specs.NumberWords.{number_of}
use Rattle.sb_commands.specs.Values.{values_of}
use Rattle.sb_commands.specs.declared.works.ThreadedWork.{ThreadedWork}
use Rattle.sb_outside.specs.Outside.{Rose}
use Rattle.sb_plain.specs.Contents.{ShownRefusal}
use Rattle.sb_plain.specs.Ends.{OnThreads}
use Rattle.sb_plain.specs.Readings.{IsFoundBy, IsFoundOnThreads, IsOfText, ReportedEnd}
use Rattle.sb_plain.specs.ScriptEnds.{IsWithScript, is_not_named}
use Rattle.sb_top.specs.Make.{IsMadeEnd, make_end}
use Rattle.sb_top.specs.Run.{threads_end}
use Rattle.sb_top.specs.Top.{HasThreadedFiles, threaded_meaning}
use Rattle.sb_plain.proofs.Carrying.{end_of_text}
use Rattle.sb_plain.proofs.KeptFiles.{handed_on, made_of, result_caused, stopped, untouched}
use Rattle.sb_top.proofs.Made.{makes_found}
use Rattle.sb_top.proofs.Running.{run_found, run_refused}
use Rattle.sb_top.proofs.ThreadedNumbers.{calls, targets, workers}
use Rattle.sb_top.proofs.top.carry_out_on_threads.Goals as goal

-- ---- `run`

pub read_script-requires : goal.read_script-requires
read_script-requires g c = subst (λ (w : ThreadedWork). HasThreadedFiles w (map (λ (name : Bor (List ℕ)). name.now) c.args.names.now)) c.in-Run.is c.requires.files

pub run_script-requires-clause-workers : goal.run_script-requires-clause-workers
run_script-requires-clause-workers g c κs within =
    let known = workers (values_of c.args.values) (subst (λ (w : ThreadedWork). HasNumbers (threaded w (values_of c.args.values))) c.in-Run.is c.requires.numbers) in
    subst (λ (n : ℕ). (1 ≤ n) × (n ≤ 8)) (sym (c.small-workers.ensures ∙ c.unwrap_or.ensures)) known

pub small-workers-requires : goal.small-workers-requires
small-workers-requires g c =
    let known = workers (values_of c.args.values) (subst (λ (w : ThreadedWork). HasNumbers (threaded w (values_of c.args.values))) c.in-Run.is c.requires.numbers) in
    subst (λ (n : ℕ). n < 2 ^ 32) (sym c.unwrap_or.ensures) (omega (arith, known.1))

pub returns-in_err-opened-in-Run-clause-files : goal.returns-in_err-opened-in-Run-clause-files
returns-in_err-opened-in-Run-clause-files g c =
    stopped c.from_residual.result c.in_err-opened-in-Run.field-0.0 c.from_residual.ensures.1 c.in_err-opened-in-Run.ensures.files

pub returns-in_err-opened-in-Run-clause-found : goal.returns-in_err-opened-in-Run-clause-found
returns-in_err-opened-in-Run-clause-found g c =
    let refusal = c.in_err-opened-in-Run.field-0.0 in
    let P : Result ReportedEnd ShownRefusal → Type 0 = IsFoundBy (OnThreads (threaded_meaning c.args.work (values_of c.args.values))) (map (λ (name : Bor (List ℕ)). name.now) c.args.names.now) (g.F.Files.held c.args.files.now) in
    handed_on P c.from_residual.result refusal c.from_residual.ensures.1
    (subst (λ (w : ThreadedWork). IsFoundBy (OnThreads (threaded_meaning w (values_of c.args.values))) (map (λ (name : Bor (List ℕ)). name.now) c.args.names.now) (g.F.Files.held c.args.files.now) (Err refusal)) (sym c.in-Run.is)
    (run_refused (g.F.Files.held c.args.files.now) (map (λ (name : Bor (List ℕ)). name.now) c.args.names.now) refusal c.in_err-opened-in-Run.ensures.found))

pub returns-in_ok-opened-in-Run-clause-found : goal.returns-in_ok-opened-in-Run-clause-found
returns-in_ok-opened-in-Run-clause-found g c =
    subst (λ (w : ThreadedWork). IsFoundBy (OnThreads (threaded_meaning w (values_of c.args.values))) (map (λ (name : Bor (List ℕ)). name.now) c.args.names.now) (g.F.Files.held c.args.files.now) c.end_or_refusal.result) (sym c.in-Run.is)
    (subst (λ (r : Result ReportedEnd ShownRefusal). IsFoundBy (OnThreads threads_end) (map (λ (name : Bor (List ℕ)). name.now) c.args.names.now) (g.F.Files.held c.args.files.now) r) (sym c.end_or_refusal.ensures)
    (run_found (g.F.Files.held c.args.files.now) (map (λ (name : Bor (List ℕ)). name.now) c.args.names.now) c.in_ok-opened-in-Run.opened c.run_script.result c.in_ok-opened-in-Run.ensures.found c.run_script.ensures))

pub returns-in_err-opened-in-Run-clause-unread : goal.returns-in_err-opened-in-Run-clause-unread
returns-in_err-opened-in-Run-clause-unread g c = λ e. absurd (subst (λ (names : List (Bor (List ℕ))). IsWithScript is_not_named (map (λ (name : Bor (List ℕ)). name.now) names)) e (subst (λ (w : ThreadedWork). HasThreadedFiles w (map (λ (name : Bor (List ℕ)). name.now) c.args.names.now)) c.in-Run.is c.requires.files))

-- ---- `make`

pub returns-in-Make-clause-files : goal.returns-in-Make-clause-files
returns-in-Make-clause-files g c =
    untouched c.end_or_refusal-in-Make.result
    (result_caused (g.F.Files.held c.args.files.now) (Rose (g.F.Files.faults c.args.files.now) (g.F.Files.faults c.args.files.now)) c.end_or_refusal-in-Make.result
    (subst (λ (r : Result ReportedEnd ShownRefusal). IfErr r (λ refusal. IsOfText refusal.why)) (sym c.end_or_refusal-in-Make.ensures) (end_of_text c.make_script.result)))

pub make_script-requires-clause-targets : goal.make_script-requires-clause-targets
make_script-requires-clause-targets g c κs within =
    let known = subst (λ (w : ThreadedWork). HasNumbers (threaded w (values_of c.args.values))) c.in-Make.is c.requires.numbers in
    let t : c.small-targets.result ≡ number_of (values_of c.args.values).second = search rules in
    subst (λ (n : ℕ). (1 ≤ n) × (n ≤ 8)) (sym t) (targets (values_of c.args.values) known)

pub make_script-requires-clause-calls : goal.make_script-requires-clause-calls
make_script-requires-clause-calls g c κs within =
    let known = subst (λ (w : ThreadedWork). HasNumbers (threaded w (values_of c.args.values))) c.in-Make.is c.requires.numbers in
    let k : c.small-calls.result ≡ number_of (values_of c.args.values).third = search rules in
    subst (λ (n : ℕ). (1 ≤ n) × (n ≤ 4096)) (sym k) (calls (values_of c.args.values) known)

pub returns-in-Make-clause-found : goal.returns-in-Make-clause-found
returns-in-Make-clause-found g c =
    let t : c.small-targets.result ≡ number_of (values_of c.args.values).second = search rules in
    let k : c.small-calls.result ≡ number_of (values_of c.args.values).third = search rules in
    let s : c.number_of-seed.result ≡ number_of (values_of c.args.values).first = search rules in
    let none = subst (λ (w : ThreadedWork). HasThreadedFiles w (map (λ (name : Bor (List ℕ)). name.now) c.args.names.now)) c.in-Make.is c.requires.files in
    let P : ℕ → ℕ → ℕ → Type 0 = λ seed targets calls. IfOk c.make_script.result (IsMadeEnd seed targets calls) in
    let one = subst (λ (n : ℕ). P n c.small-targets.result c.small-calls.result) s c.make_script.ensures in
    let two = subst (λ (n : ℕ). P (number_of (values_of c.args.values).first) n c.small-calls.result) t one in
    let made = subst (λ (n : ℕ). P (number_of (values_of c.args.values).first) (number_of (values_of c.args.values).second) n) k two in
    subst (λ (w : ThreadedWork). IsFoundBy (OnThreads (threaded_meaning w (values_of c.args.values))) (map (λ (name : Bor (List ℕ)). name.now) c.args.names.now) (g.F.Files.held c.args.files.now) c.end_or_refusal-in-Make.result) (sym c.in-Make.is)
    (subst (λ (r : Result ReportedEnd ShownRefusal). IsFoundOnThreads (make_end (number_of (values_of c.args.values).first) (number_of (values_of c.args.values).second) (number_of (values_of c.args.values).third)) (map (λ (name : Bor (List ℕ)). name.now) c.args.names.now) (g.F.Files.held c.args.files.now) r)
    (sym c.end_or_refusal-in-Make.ensures)
    (makes_found (number_of (values_of c.args.values).first) (number_of (values_of c.args.values).second) (number_of (values_of c.args.values).third) (g.F.Files.held c.args.files.now) (map (λ (name : Bor (List ℕ)). name.now) c.args.names.now) c.make_script.result none made))
