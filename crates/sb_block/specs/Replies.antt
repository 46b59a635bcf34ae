-- Replies in the words of a block.
use Rattle.std.specs.Prelude.{◌≡◌, ◌≤◌, ℕ, List, [], ◌∷◌, length, slice_index, take, drop, min}
use Rattle.sb_call.specs.declared.replies.Reply.{Reply}

-- the seven words that represent extended words: 0 for each that is not there
abbrev pub seven_of : List ℕ → List ℕ
seven_of ext =
    slice_index ext 0 ∷ slice_index ext 1 ∷ slice_index ext 2 ∷ slice_index ext 3 ∷ slice_index ext 4
    ∷ slice_index ext 5 ∷ slice_index ext 6 ∷ []

-- mark, outcome, status, handle, the number of extended words, and seven words for them
abbrev pub reply_words : Reply → List ℕ
reply_words r = r.mark ∷ r.outcome ∷ r.status ∷ r.handle ∷ length r.ext ∷ seven_of r.ext

-- as many extended words as the count says, and at most seven
abbrev pub read_reply : List ℕ → Reply
read_reply words = record {
  mark = slice_index words 0;
  outcome = slice_index words 1;
  status = slice_index words 2;
  handle = slice_index words 3;
  ext = take (min (slice_index words 4) 7) (drop 5 words);
}

-- a reply that is written is read back
abbrev pub RepliesComeBack : Type 0
RepliesComeBack = (r : Reply) → length r.ext ≤ 7 → read_reply (reply_words r) ≡ r
