use Rattle.std.proofs.Common.{◌≡◌, ◌∙◌, ap, refl, subst, sym, ℕ, List, map, rules}
use Rattle.std.specs.Prelude.{IsSome, Ok, Err}
use Rattle.std.proofs.lemmas.Bool.{false≢true}
use Rattle.std.specs.Borrow.{Bor}
use Rattle.sb_commands.specs.Commands.{files_of}
use Rattle.sb_commands.specs.Values.{values_of}
use Rattle.sb_commands.specs.declared.works.Work.TheVariants as work
use Rattle.sb_message.specs.declared.statuses.Refusal.TheVariants.{NoMemory}
use Rattle.sb_message.specs.declared.statuses.Status.{Status}
use Rattle.sb_plain.specs.Contents.{refused}
use Rattle.sb_plain.specs.Effects.{effect}
use Rattle.sb_plain.specs.Outcomes.{file_of}
use Rattle.sb_plain.specs.declared.outcomes.Outcome.{Outcome}
use Rattle.sb_top.specs.Top.{meaning_of}
use Rattle.sb_plain.proofs.KeptFiles.{unread}
use Rattle.sb_top.proofs.Finishing.{put_ending, put_orderly, starved_ending, told_ending, told_orderly}
use Rattle.sb_top.proofs.Meant.{threaded_found, has_threaded_files, no_names}
use Rattle.sb_top.proofs.top.threads_top.Goals as goal

pub carry_out_on_threads-requires-clause-files : goal.carry_out_on_threads-requires-clause-files
carry_out_on_threads-requires-clause-files g c κs within =
    let is : c.args.command.now.work ≡ work.Threaded c.work-work.result = search rules in
    let same : map (λ (name : Bor (List ℕ)). name.now) c.as_slice.result.now ≡ files_of c.args.command.now = search rules in
    has_threaded_files c.args.command.now c.work-work.result (map (λ (name : Bor (List ℕ)). name.now) c.as_slice.result.now) is same

-- there was no memory to read the arguments
pub returns-in-Err-clause-ends : goal.returns-in-Err-clause-ends
returns-in-Err-clause-ends g c =
    starved_ending (effect g.F.Files.held g.F.Files.faults g.K.Sink.written g.K.Sink.pending g.K.Sink.faults c.args.files.now c.args.files.now c.args.out.now c.args.out.now) c.bare.result (meaning_of c.args.command.now) (files_of c.args.command.now)
    (record { status = c.bare.ensures.status; report = c.bare.ensures.report; shown = c.bare.ensures.shown; untouched = refl; unwritten = refl })

pub returns-in-Err-clause-orderly : goal.returns-in-Err-clause-orderly
returns-in-Err-clause-orderly g c =
    let names = files_of c.args.command.now in
    told_orderly g.F.Files.held g.F.Files.faults g.K.Sink.written g.K.Sink.pending g.K.Sink.faults c.args.files.now c.args.files.now c.args.out.now c.args.out.now c.bare.result
    names (refused NoMemory) (unread (refused NoMemory) refl) (λ e. refl) refl
    (record { status = c.bare.ensures.status; report = c.bare.ensures.report; shown = c.bare.ensures.shown; untouched = refl; unwritten = refl })
    (λ n. absurd (false≢true (subst (λ (s : Status). IsSome (file_of s)) c.bare.ensures.status n))) (λ s. absurd (false≢true (subst IsSome c.bare.ensures.shown s)))

-- the command came to an end
pub returns-in-Ok-carry_out_on_threads-clause-ends : goal.returns-in-Ok-carry_out_on_threads-clause-ends
returns-in-Ok-carry_out_on_threads-clause-ends g c =
    let command = c.args.command.now in
    let found = c.in-Ok-carry_out_on_threads.end in
    let is : c.args.command.now.work ≡ work.Threaded c.work-work.result = search rules in
    let same : map (λ (name : Bor (List ℕ)). name.now) c.as_slice.result.now ≡ files_of c.args.command.now = search rules in
    put_ending (effect g.F.Files.held g.F.Files.faults g.K.Sink.written g.K.Sink.pending g.K.Sink.faults c.args.files.now c.carry_out_on_threads.new.files c.args.out.now c.put.new.out) c.put.result (meaning_of command) (files_of command) found
    (threaded_found command c.work-work.result (values_of c.in-Ok.values) (map (λ (name : Bor (List ℕ)). name.now) c.as_slice.result.now) (g.F.Files.held c.args.files.now) (Ok found) is c.in-Ok.ensures.values same c.in-Ok-carry_out_on_threads.ensures.found)
    (record { ended = c.put.ensures.ended; report = c.put.ensures.report; shown = c.put.ensures.shown })

pub returns-in-Ok-carry_out_on_threads-clause-orderly : goal.returns-in-Ok-carry_out_on_threads-clause-orderly
returns-in-Ok-carry_out_on_threads-clause-orderly g c =
    let command = c.args.command.now in
    let found = c.in-Ok-carry_out_on_threads.end in
    let same : map (λ (name : Bor (List ℕ)). name.now) c.as_slice.result.now ≡ files_of c.args.command.now = search rules in
    let files : c.files-names.result ≡ files_of command = search rules in
    put_orderly g.F.Files.held g.F.Files.faults g.K.Sink.written g.K.Sink.pending g.K.Sink.faults c.args.files.now c.carry_out_on_threads.new.files c.args.out.now c.put.new.out c.put.result
    (files_of command) found c.in-Ok-carry_out_on_threads.ensures.files (λ e. c.in-Ok-carry_out_on_threads.ensures.unread (no_names c.as_slice.result.now (same ∙ e))) c.put.ensures.counted
    (record { ended = c.put.ensures.ended; report = c.put.ensures.report; shown = c.put.ensures.shown }) (c.put.ensures.files ∙ files) c.put.ensures.done_count
    c.put.ensures.finished

-- it was refused
pub returns-in-Err-carry_out_on_threads-clause-ends : goal.returns-in-Err-carry_out_on_threads-clause-ends
returns-in-Err-carry_out_on_threads-clause-ends g c =
    let command = c.args.command.now in
    let refusal = c.in-Err-carry_out_on_threads.refused in
    let is : c.args.command.now.work ≡ work.Threaded c.work-work.result = search rules in
    let same : map (λ (name : Bor (List ℕ)). name.now) c.as_slice.result.now ≡ files_of c.args.command.now = search rules in
    told_ending (effect g.F.Files.held g.F.Files.faults g.K.Sink.written g.K.Sink.pending g.K.Sink.faults c.args.files.now c.carry_out_on_threads.new.files c.args.out.now c.args.out.now) c.into_outcome.result (meaning_of command) (files_of command) refusal
    (threaded_found command c.work-work.result (values_of c.in-Ok.values) (map (λ (name : Bor (List ℕ)). name.now) c.as_slice.result.now) (g.F.Files.held c.args.files.now) (Err refusal) is c.in-Ok.ensures.values same c.in-Err-carry_out_on_threads.ensures.found)
    (record {
      status = ap (λ (x : Outcome). x.status) c.into_outcome.ensures;
      report = ap (λ (x : Outcome). x.report) c.into_outcome.ensures;
      shown = ap (λ (x : Outcome). x.shown) c.into_outcome.ensures;
      untouched = refl;
      unwritten = refl;
    }) c.in-Err-carry_out_on_threads.ensures.files.caused

pub returns-in-Err-carry_out_on_threads-clause-orderly : goal.returns-in-Err-carry_out_on_threads-clause-orderly
returns-in-Err-carry_out_on_threads-clause-orderly g c =
    let command = c.args.command.now in
    let refusal = c.in-Err-carry_out_on_threads.refused in
    let same : map (λ (name : Bor (List ℕ)). name.now) c.as_slice.result.now ≡ files_of c.args.command.now = search rules in
    let files : c.files-names.result ≡ files_of command = search rules in
    let named : c.into_outcome.result.files ≡ files_of command = ap (λ (x : Outcome). x.files) c.into_outcome.ensures ∙ files in
    told_orderly g.F.Files.held g.F.Files.faults g.K.Sink.written g.K.Sink.pending g.K.Sink.faults c.args.files.now c.carry_out_on_threads.new.files c.args.out.now c.args.out.now c.into_outcome.result
    (files_of command) refusal c.in-Err-carry_out_on_threads.ensures.files (λ e. c.in-Err-carry_out_on_threads.ensures.unread (no_names c.as_slice.result.now (same ∙ e))) refl (record {
      status = ap (λ (x : Outcome). x.status) c.into_outcome.ensures;
      report = ap (λ (x : Outcome). x.report) c.into_outcome.ensures;
      shown = ap (λ (x : Outcome). x.shown) c.into_outcome.ensures;
      untouched = refl;
      unwritten = refl;
    }) (λ n. named) (λ n. named)
