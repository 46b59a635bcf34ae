use Rattle.std.proofs.Common.{◌≡◌, ◌∙◌, ◌+◌, ◌∷◌, rules, true, sym, ap}
use Rattle.std.specs.Prelude.{is_some, unwrap_or}
use Rattle.sb_kernel.specs.Openings.{opened, opened_from, placed}
use Rattle.sb_kernel.specs.Kept.{MadeAtMost}
use Rattle.sb_kernel.specs.Namespaces.{Space}
use Rattle.sb_kernel.proofs.Placing.{opened_more, placed_made}
use Rattle.sb_kernel.proofs.kernels.Kernel.start.Goals as goal

pub loop-line-preserved : goal.loop-line-preserved
loop-line-preserved c =
    let at = c.loop-line.at in
    let kernel = c.loop-line.kernel in
    let line = c.in-Some.line.now in
    let later = c.in-Some.later.now in
    let taken : is_some (placed kernel line) ≡ true = search rules in
    let next : c.place.new.self ≡ unwrap_or (placed kernel line) kernel = c.in_ok-place.ensures.ok in
    let left : c.loop-line.rest.now ≡ line ∷ later = search rules in
    let whole : opened_from at kernel (line ∷ later) ≡ opened c.args.lines.now = search rules in
    let more : opened_from (at + 1) c.place.new.self later ≡ opened c.args.lines.now =
    ap (λ (s : Space). opened_from (at + 1) s later) next ∙ sym (opened_more at kernel line later taken) ∙ whole in
    let made : MadeAtMost (at + 1) c.place.new.self = rw next (placed_made at kernel line c.loop-line.invariant.1) in
    (more, made, search rules, search rules)
