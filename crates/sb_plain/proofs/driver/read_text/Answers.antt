use Rattle.std.proofs.Common.{◌≡◌, ◌≤◌, length, ap, sym, subst, ℕ, rules}
use Rattle.std.specs.Prelude.{Ok, Err}
use Rattle.sb_outside.specs.Outside.{Rose}
use Rattle.sb_plain.specs.Contents.{FileContent, ShownRefusal, refusal_of, refused}
use Rattle.sb_plain.specs.Endings.{IsCaused}
use Rattle.sb_plain.proofs.ReadFiles.{FoundAlone, text_read, text_unread}
use Rattle.sb_plain.proofs.driver.read_text.Goals as goal

pub returns-in-Ok-clause-found : goal.returns-in-Ok-clause-found
returns-in-Ok-clause-found g c =
    let size : length c.in-Ok.bytes.items ≤ c.args.most = search rules in
    let held = g.F.Files.held c.args.files.now in
    let P : FileContent → Type 0 = λ t. FoundAlone c.args.most c.args.which held c.args.name.now (Ok t) in
    subst P (sym c.new.ensures) (text_read c.args.most c.args.which c.in-Ok.bytes.items held c.args.name.now c.in-Ok.ensures.ok size)

pub returns-in-Ok-clause-files : goal.returns-in-Ok-clause-files
returns-in-Ok-clause-files g c =
    record { kept = c.in-Ok.ensures.kept; counted = c.in-Ok.ensures.counted; ok_count = c.in-Ok.ensures.ok_count; caused = tt }

pub returns-in-Err-clause-found : goal.returns-in-Err-clause-found
returns-in-Err-clause-found g c =
    let held = g.F.Files.held c.args.files.now in
    let rose = Rose (g.F.Files.faults c.args.files.now) (g.F.Files.faults c.read.new.self) in
    let found = text_unread c.args.most c.args.which held c.args.name.now rose c.in-Err.fault (λ cause e. c.in-Err.ensures.failed cause (ap Err e)) (λ e. c.in-Err.ensures.missing (ap Err e)) (λ e. c.in-Err.ensures.too_long (ap Err e)) in
    let P : ShownRefusal → Type 0 = λ r. FoundAlone c.args.most c.args.which held c.args.name.now (Err r) in
    let told : c.new-in-Err.result ≡ refused (refusal_of c.in-Err.fault c.args.which) = search rules in
    subst P (sym told) found.0

pub returns-in-Err-clause-files : goal.returns-in-Err-clause-files
returns-in-Err-clause-files g c =
    let held = g.F.Files.held c.args.files.now in
    let rose = Rose (g.F.Files.faults c.args.files.now) (g.F.Files.faults c.read.new.self) in
    let found = text_unread c.args.most c.args.which held c.args.name.now rose c.in-Err.fault (λ cause e. c.in-Err.ensures.failed cause (ap Err e)) (λ e. c.in-Err.ensures.missing (ap Err e)) (λ e. c.in-Err.ensures.too_long (ap Err e)) in
    let P : ShownRefusal → Type 0 = λ r. IsCaused held rose r.why in
    let told : c.new-in-Err.result ≡ refused (refusal_of c.in-Err.fault c.args.which) = search rules in
    record { kept = c.in-Err.ensures.kept; counted = c.in-Err.ensures.counted; ok_count = tt; caused = subst P (sym told) found.1 }
