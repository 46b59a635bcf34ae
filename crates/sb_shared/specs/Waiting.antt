-- When a step of a thread found nothing to go on with.
use Rattle.std.specs.Prelude.{ℕ, Bool, false, ◌&&◌, ◌==◌, not, nat_le, is_some}
use Rattle.sb_actor.specs.ThreadStages.{ThreadAt}
use Rattle.sb_actor.specs.ThreadTable.{thread_after, thread_plan}
use Rattle.sb_actor.specs.declared.acts.Act.{Act}
use Rattle.sb_actor.specs.declared.acts.Act.TheVariants as act
use Rattle.sb_statements.specs.declared.scripts.Script.{Script}
use Rattle.sb_statements.specs.declared.statements.Word.{Word}
use Rattle.sb_shared.specs.Parts.{seen_of}

-- a step is a load of this word, or an exchange on it or on the same word of an earlier channel
abbrev pub is_again : Word → Act → Bool
is_again last (act.Load t word) = word.channel == last.channel && word.at == last.at
is_again last (act.Exchange t word from to) = nat_le word.channel last.channel && word.at == last.at
is_again last _ = false

-- a load or an exchange is to be made again: of the same word, or in another round of channels
abbrev pub repeats : Act → Act → Bool
repeats (act.Load t word) next = is_again word next
repeats (act.Exchange t word from to) next = is_again word next
repeats _ next = false

-- a step on a word that found n ended no statement, and is to be made again
abbrev pub waits_after : Script → ThreadAt → ℕ → Bool
waits_after script x n =
    not (is_some (thread_after script x (seen_of (thread_plan script x) n)).ended)
    && repeats (thread_plan script x) (thread_plan script (thread_after script x (seen_of (thread_plan script x) n)).thread)
