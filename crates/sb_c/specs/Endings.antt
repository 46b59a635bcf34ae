-- How a call ended, as C sees it.
use Rattle.std.specs.Prelude.{ℕ, List, [], ◌∷◌, replicate, slice_index, Option, None, Some}
use Rattle.sb_block.specs.Replies.{reply_words}
use Rattle.sb_statements.specs.declared.results.CallResult.{CallResult}
use Rattle.sb_statements.specs.declared.results.CallResult.TheVariants.{Reply, NoChannel, SendLost, Foreign, TimedOut}
use Rattle.sb_c.specs.declared.shapes.CallEnding.{CallEnding}

-- an ending without a reply
abbrev pub plain_ending : ℕ → ℕ → ℕ → CallEnding
plain_ending kind channel found =
    record { kind = kind; channel = channel; found = found; outcome = 0; status = 0; handle = 0; count = 0; words = replicate 7 0 }

-- a reply by its twelve words: mark, outcome, status, handle, the number of its extended words, and seven of these, 0 where there is none
abbrev pub reply_shown : ℕ → List ℕ → CallEnding
reply_shown channel words = record {
  kind = 1;
  channel = channel;
  found = slice_index words 0;
  outcome = slice_index words 1;
  status = slice_index words 2;
  handle = slice_index words 3;
  count = slice_index words 4;
  words = slice_index words 5 ∷ slice_index words 6 ∷ slice_index words 7 ∷ slice_index words 8 ∷ slice_index words 9 ∷ slice_index words 10 ∷ slice_index words 11 ∷ [];
}

-- a call that goes on or never began has the kind 0, and each way to end its own
abbrev pub ending_shown : Option CallResult → CallEnding
ending_shown None = plain_ending 0 0 0
ending_shown (Some (Reply channel reply)) = reply_shown channel (reply_words reply)
ending_shown (Some (Foreign channel mark)) = plain_ending 2 channel mark
ending_shown (Some NoChannel) = plain_ending 3 0 0
ending_shown (Some (SendLost channel found)) = plain_ending 4 channel found
ending_shown (Some (TimedOut channel)) = plain_ending 5 channel 0
