-- The ranges of a call in memory.
use Rattle.std.specs.Prelude.{nat_le, nat_lt, take, if◌then◌else◌}
use Rattle.std.proofs.Common.{◌≡◌, Bool, true, false, ◌&&◌, ◌||◌, ◌==◌, refl, sym, ap, ◌∙◌, arith}
use Rattle.std.proofs.lemmas.Bool.{and_parts, false≢true}
use Rattle.std.proofs.lemmas.Bool.Decides.{nat_tests}
use Rattle.sb_actor.specs.ThreadStages.{Fill}
use Rattle.sb_host.specs.Calls.{CallAt, call_in, goes_on, has_range, is_call, is_placed, phase_in, phase_numbered, result_in, stage_in}
use Rattle.sb_host.specs.declared.calls.CallPhase.{CallPhase}
use Rattle.sb_host.specs.declared.calls.CallPhase.TheVariants as phase
use Rattle.sb_host.specs.declared.calls.ClientCall.{ClientCall}

abbrev is_idle : CallPhase → Bool
is_idle phase.Idle = true
is_idle _ = false

-- memory that is not idle holds a call
held : (s : ClientCall) → is_idle (phase_in s) ≡ false → is_call s ≡ true
held s h = by (is_call s) refl h
  where
    by : (b : Bool) → is_call s ≡ b → is_idle (phase_in s) ≡ false → is_call s ≡ true
    by true e h = e
    by false e h = absurd (false≢true (sym h ∙ ap (λ b. is_idle (if b then phase_numbered s.phase else phase.Idle)) e))

-- its block has words
some_words : (s : ClientCall) → has_range s ≡ true → nat_lt 0 s.len ≡ true
some_words s h =
    let all = and_parts (nat_lt s.channel s.channels && nat_le s.channels 8 && nat_le 16 s.len && nat_le s.len 64) (s.patience == 0 || nat_lt s.count s.patience) h in
    let four = and_parts (nat_lt s.channel s.channels && nat_le s.channels 8 && nat_le 16 s.len) (nat_le s.len 64) all.0 in
    let three = and_parts (nat_lt s.channel s.channels && nat_le s.channels 8) (nat_le 16 s.len) four.0 in
    let low = three.1 in
    grind (arith, nat_tests, low)

-- the call with its channel, before the first word is stored
abbrev filled : ClientCall → ClientCall
filled s = record s { at = 0; phase = 2 }

abbrev filled_as : ClientCall → Bool → CallAt
filled_as s whole = record {
  channels = s.channels;
  patience = s.patience;
  block = take s.len s.block;
  stage = stage_in (filled s) (if whole then phase.Fill else phase.Idle);
  result = result_in (filled s) (if whole then phase.Fill else phase.Idle);
}

abbrev tried_as : ClientCall → CallPhase → CallAt
tried_as s p = record {
  channels = s.channels;
  patience = s.patience;
  block = take s.len s.block;
  stage = Fill s.channel 0;
  result = result_in s p;
}

-- a call that has its channel is filled next
pub fills : (s : ClientCall) → phase_in s ≡ phase.Try → call_in (filled s) ≡ goes_on (call_in s) (Fill s.channel 0)
fills s h =
    let whole = held s (ap is_idle h) in
    let range = (and_parts (has_range s) (is_placed (phase_numbered s.phase) s.at s.len) whole).0 in
    let ready : (has_range s && nat_lt 0 s.len) ≡ true = rw (range, some_words s range) refl in
    ap (filled_as s) ready ∙ ap (tried_as s) (sym h)
