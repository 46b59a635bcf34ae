-- Steps as C sees them, and what C found.
use Rattle.std.specs.Prelude.{ℕ}
use Rattle.sb_actor.specs.declared.acts.Act.{Act}
use Rattle.sb_actor.specs.declared.acts.Act.TheVariants as act
use Rattle.sb_c.specs.declared.shapes.Step.{Step}

-- a step on no word
abbrev pub plain_step : ℕ → Step
plain_step kind = record { kind = kind; channel = 0; word = 0; room = 0; expected = 0; value = 0 }

-- the kind of a step, its word, and what it stores
abbrev pub step_shown : Act → Step
step_shown act.Idle = plain_step 0
step_shown (act.Load t w) = record { kind = 1; channel = w.channel; word = w.at; room = 0; expected = 0; value = 0 }
step_shown (act.Store t w v) = record { kind = 2; channel = w.channel; word = w.at; room = 0; expected = 0; value = v }
step_shown (act.Exchange t w from to) = record { kind = 3; channel = w.channel; word = w.at; room = 0; expected = from; value = to }
step_shown act.Take = plain_step 4
step_shown act.Answer = plain_step 5
step_shown act.Give = plain_step 6
