-- What commands come to if memory runs out.
use Rattle.std.proofs.Common.{◌≡◌, ℕ, inr, refl, List, Option}
use Rattle.std.specs.Prelude.{IfErr, IfOk, Result, Ok, Err}
use Rattle.std.proofs.lemmas.Bool.{false≢true}
use Rattle.sb_message.specs.declared.statuses.Refusal.TheVariants.{NoMemory}
use Rattle.sb_outside.specs.Outside.{Held}
use Rattle.sb_statements.specs.declared.schedules.Schedule.{Schedule}
use Rattle.sb_plain.specs.Contents.{Contents, ShownRefusal, no_schedule, refused}
use Rattle.sb_plain.specs.Ends.{End, Meaning, OnThreads, Plain}
use Rattle.sb_plain.specs.Readings.{GivesEnd, IsFound, IsFoundBy, IsFoundOnThreads, IsOfText, ReportedEnd, end_or_refusal, reported}
use Rattle.sb_plain.proofs.ReadFiles.{are_rest, rest_of}

-- out of memory
pub starved : (meaning : Meaning) (names : List (List ℕ)) (held : Option Held) (refusal : ShownRefusal) → refusal ≡ refused NoMemory → IsFoundBy meaning names held (Err refusal)
starved (Plain meaning) names held refusal e = record { contents = rest_of held names; are = are_rest held names; is = inr (inr e) }
starved (OnThreads meaning) names held refusal e = record {
  order = no_schedule;
  contents = rest_of held names;
  are = are_rest held names;
  ordered = λ k. absurd (false≢true k);
  is = inr (inr e);
}

-- a refusal of a command that runs on threads, whatever the order of steps
pub on_threads : (meaning : Schedule → Contents → Result End ShownRefusal) (names : List (List ℕ)) (held : Option Held) (refusal : ShownRefusal)
    → IsFound reported 1 (meaning no_schedule) names held (Err refusal) → IsFoundOnThreads meaning names held (Err refusal)
on_threads meaning names held refusal h = record {
  order = no_schedule;
  contents = h.contents;
  are = h.are;
  ordered = λ k. absurd (false≢true k);
  is = h.is;
}

-- an end that was made is what is meant
pub gives_end : {E : Type 0} (made : Result ReportedEnd E) (end : End) → IfOk made (λ found. found ≡ reported end) → GivesEnd (Ok end) (end_or_refusal made)
gives_end (Ok found) end h = h
gives_end (Err error) end h = inr refl

-- and that there was no memory for it comes of no file
pub end_of_text : {E : Type 0} (made : Result ReportedEnd E) → IfErr (end_or_refusal made) (λ refusal. IsOfText refusal.why)
end_of_text (Ok found) = tt
end_of_text (Err error) = tt
