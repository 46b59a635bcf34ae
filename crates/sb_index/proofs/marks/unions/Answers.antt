use Rattle.std.proofs.Common.{◌≡◌, ◌∙◌, ◌+◌, ◌++◌, ◌∷◌, [], suc, length, ap, arith}
use Rattle.std.proofs.lemmas.List.{length_push}
use Rattle.std.specs.Prelude.{slice_index_or}
use Rattle.sb_index.specs.Marks.{up_to}
use Rattle.sb_index.specs.Sets.{has}
use Rattle.sb_index.proofs.MarkLemmas.{sets_pushed, union_more}
use Rattle.sb_index.proofs.marks.unions.Goals as goal

pub loop-one-preserved : goal.loop-one-preserved
loop-one-preserved c =
    let sets = c.args.sets.now in
    let i = c.loop-one.one-index in
    let old = c.loop-one.invariant in
    let all = c.loop-one.all.items in
    let up = union_more sets i c.one-item.result c.loop-one.set c.unite.new.self c.one-item.is c.loop-one-test.true old.1 c.unite.ensures in
    let pushed : c.push.new.self.items ≡ all ++ c.copy.result ∷ [] = c.in_ok-push.ensures.items in
    let more : suc i ≡ i + 1 = omega arith in (
      ap length pushed ∙ length_push all c.copy.result ∙ ap (λ n. n + 1) old.0,
      λ k. up k ∙ ap (λ n. up_to sets n k) more,
      λ slot k h. ap (λ s. has (slice_index_or s slot []) k) pushed
          ∙ sets_pushed (λ s k. up_to sets (suc s) k) all c.copy.result i old.0 old.2 (λ k. ap (λ s. has s k) c.copy.ensures ∙ up k) slot k h,
    )
