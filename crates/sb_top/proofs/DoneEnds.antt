-- A command that is done came to an end of its meaning.
use Rattle.std.proofs.Common.{◌≡◌, ◌∙◌, ℕ, ◌++◌, List, None, Some, Option, inl, inr, refl, sym}
use Rattle.std.specs.Prelude.{IsOkAnd, Result, Ok, Err}
use Rattle.sb_message.specs.Statuses.{status_of}
use Rattle.sb_message.specs.declared.statuses.FileRefusal.TheVariants.{ReadFault}
use Rattle.sb_message.specs.declared.statuses.Refusal.{Refusal}
use Rattle.sb_message.specs.declared.statuses.Refusal.TheVariants.{File, NoMemory}
use Rattle.sb_message.specs.declared.statuses.Status.TheVariants.{Done, Refused, Unfinished, WriteFault}
use Rattle.sb_outside.specs.Outside.{GrowsBy}
use Rattle.sb_outside.specs.declared.sink.SinkFault.{SinkFault}
use Rattle.sb_plain.specs.Contents.{Contents, ShownRefusal}
use Rattle.sb_plain.specs.Effects.{Effect}
use Rattle.sb_plain.specs.Endings.{IsDone, IsEndFor, IsMeant, IsUnwritten, IsWritten}
use Rattle.sb_plain.specs.Ends.{End}
use Rattle.sb_plain.specs.Replay.{if_finished, run_status}
use Rattle.sb_plain.specs.declared.outcomes.Outcome.{Outcome}

pub refused : (why : Refusal) → Refused why ≡ Done → ⊥
refused why e = cc

write_fault : (fault : SinkFault) → WriteFault fault ≡ Done → ⊥
write_fault fault e = cc

unfinished : (target thread : ℕ) → Unfinished target thread ≡ Done → ⊥
unfinished target thread e = cc

-- it came to an end of the command
pub done_end : {G S : Type 0} (e : Effect G S) (o : Outcome) (meaning : Contents → Result End ShownRefusal) (contents : Contents)
    → IsEndFor meaning contents e o → o.status ≡ Done → (end : End) × (meaning contents ≡ Ok end) × IsDone end e o
done_end e o meaning contents h done = by h
  where
    meant : (r : Result End ShownRefusal) → meaning contents ≡ r → IsMeant r e o → (end : End) × (meaning contents ≡ Ok end) × IsDone end e o
    meant (Ok end) is m = (end, is, m)
    meant (Err refusal) is m = absurd (refused refusal.why (sym m.status ∙ done))

    unwritten : (r : Result End ShownRefusal) → IsOkAnd r (λ x. IsUnwritten x e o) → ⊥
    unwritten (Ok x) u = write_fault u.fault (sym u.status ∙ done)
    unwritten (Err refusal) u = u

    by : IsEndFor meaning contents e o → (end : End) × (meaning contents ≡ Ok end) × IsDone end e o
    by (inl m) = meant (meaning contents) refl m
    by (inr (inl u)) = absurd (refused (File u.file (ReadFault u.cause)) (sym u.is.status ∙ done))
    by (inr (inr (inl u))) = absurd (unwritten (meaning contents) u)
    by (inr (inr (inr s))) = absurd (refused NoMemory (sym s.status ∙ done))

-- an end that writes a text if no thread is unfinished
pub end_done : {G S : Type 0} (e : Effect G S) (o : Outcome) (text : List ℕ) (left : Option (ℕ × ℕ)) → o.status ≡ status_of (run_status left)
    → IsWritten (if_finished text left) e → o.status ≡ Done → (left ≡ None) × GrowsBy e.written (e.pending ++ text) e.written'
end_done e o text None is w done = (refl, w)
end_done e o text (Some thread) is w done = absurd (unfinished thread.0 thread.1 (sym is ∙ done))
