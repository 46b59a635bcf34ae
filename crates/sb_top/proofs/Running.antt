-- What `run` comes to.
use Rattle.std.proofs.Common.{◌≡◌, ◌∙◌, ap, refl, sym, subst, ℕ, List, lit≤, ◌≤◌, arith, Option, None, Some}
use Rattle.std.specs.Prelude.{⊤, IfOk, IfSome, IsOkAnd, Result, Ok, Err}
use Rattle.sb_book.specs.ReadyScripts.{Ready}
use Rattle.sb_message.specs.declared.statuses.Refusal.TheVariants.{NoMemory}
use Rattle.sb_outside.specs.Outside.{Held}
use Rattle.sb_statements.specs.declared.scripts.Script.{Script}
use Rattle.sb_text.specs.Steps.{◌>>=◌}
use Rattle.sb_plain.specs.Contents.{FileContent, ShownRefusal, most_bytes, no_schedule, refused}
use Rattle.sb_plain.specs.Ends.{End, IsOrderOf, OnThreads}
use Rattle.sb_plain.specs.Readings.{IsFoundOnThreads, ReportedEnd, end_or_refusal, reported}
use Rattle.sb_plain.specs.Replay.{run_end}
use Rattle.sb_plain.specs.ScriptEnds.{nothing, script_read}
use Rattle.sb_plain.specs.Sound.{AreEndsSound, IsSound, RunsAreSound}
use Rattle.sb_top.specs.Run.{IsThreadsEnd, ordered_end, threads_end}
use Rattle.sb_plain.proofs.Carrying.{on_threads, starved}
use Rattle.sb_plain.proofs.Readings.{same_end}
use Rattle.sb_plain.proofs.ScriptEnds.{ReadFound, each_end, refused_read, same_read}
use Rattle.sb_plain.proofs.Suiting.{AreSuited, IsThird, RefusesFor, script_suited}

abbrev later : Script → Option FileContent → Result ⊤ ShownRefusal
later script = nothing

-- the end of the script that was read, by the order of its run
run_done : (held : Option Held) (names : List (List ℕ)) (ready : Ready) (found : ReportedEnd) → ReadFound most_bytes later held names (Ok (ready, tt))
    → IsThreadsEnd ready.policies ready.script found → IsFoundOnThreads threads_end names held (Ok found)
run_done held names ready found h e =
    let is : threads_end e.order h.contents ≡ Ok (run_end ready.policies ready.script e.order) =
    ap (λ r. r >>= λ x. ordered_end e.order x.0.policies x.0.script x.1)
    (same_read most_bytes later (ordered_end e.order) (script_read most_bytes later h.contents) (ready, tt) h.is) in
    record {
      order = e.order;
      contents = h.contents;
      are = h.are;
      ordered = λ k. subst (λ x. IfOk x (IsOrderOf e.order)) (sym is) e.is_order;
      is = subst (λ x. IsOkAnd x (λ y. found ≡ reported y)) (sym is) e.is;
    }

-- or there was no memory for it
pub run_found : {E : Type 0} (held : Option Held) (names : List (List ℕ)) (ready : Ready) (made : Result ReportedEnd E) → ReadFound most_bytes later held names (Ok (ready, tt))
    → IfOk made (IsThreadsEnd ready.policies ready.script) → IsFoundOnThreads threads_end names held (end_or_refusal made)
run_found held names ready (Ok found) h e = run_done held names ready found h e
run_found held names ready (Err error) h e = starved (OnThreads threads_end) names held (refused NoMemory) refl

-- the files are refused whatever the order is
pub run_refused : (held : Option Held) (names : List (List ℕ)) (refusal : ShownRefusal) → ReadFound most_bytes later held names (Err refusal)
    → IsFoundOnThreads threads_end names held (Err refusal)
run_refused held names refusal h =
    on_threads threads_end names held refusal (refused_read most_bytes later (ordered_end no_schedule) held names refusal h)

nothing_refuses : (script : Script) (text : Option FileContent) → IsThird 2 text → RefusesFor 2 (later script text)
nothing_refuses script None third = tt
nothing_refuses script (Some text) third = absurd (no_third third.1)
  where
    no_third : 3 ≤ 2 → ⊥
    no_third h = omega (arith, h)

pub run_suited : AreSuited 2 (OnThreads threads_end)
run_suited order = script_suited 2 most_bytes later (ordered_end order) (lit≤ tt) nothing_refuses (λ policies script text none third e. tt)

pub run_sound : RunsAreSound → AreEndsSound (OnThreads threads_end)
run_sound law order =
    each_end most_bytes later (ordered_end order) (λ (x : End). IsOrderOf order x → IfSome x.run IsSound)
    (λ first second files r reached parts e.
    subst (λ (x : End). IsOrderOf order x → IfSome x.run IsSound) (same_end (run_end r.0.policies r.0.script order) reached e)
    (λ is. law r.0.policies r.0.script order is.can))
