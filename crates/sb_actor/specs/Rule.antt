-- Rule S: what the words of a target and the views of its actors have in common at every moment. Words and views are related only through
-- who owns each clean channel (`Owner`): the words fit it, and each view fits it.
--
--   state          who is at the channel                        what holds
--   free           nobody (idle)                                the worker is not engaged there
--   busy           one thread, in Fill or Send (filling)        the words filled are its block's; the worker is not engaged there
--   ready          one thread, in Wait (sent)                   until the worker replies the block is there; what it has loaded of count, end and copy is
--                                                               the block's; once it replies its copy is the whole block, and what it stored is there
--   acknowledged   one thread, in Wait, Fetch or Free           the worker is not engaged there; the last call served there is the block whole, with a
--                  (has_reply)                                  reply whose twelve words are there; the words fetched are the first of them
use Rattle.std.specs.Prelude.{◌≡◌, ◌⊎◌, ℕ, ◌+◌, ◌*◌, ◌/◌, ◌<◌, ◌≤◌, Bool, true, false, cond, ◌==◌, ◌&&◌, nat_lt, List, [], ◌∷◌, ◌++◌, length, slice_index, take, map}
use Rattle.std.specs.List.{filter}
use mathlib.Core.Option.{Option, none, some}
use lib.ListN.{get_elem?}
use Rattle.sb_block.specs.Copies.{whole, mark_of}
use Rattle.sb_actor.specs.Views.{Served, EndedCall, ThreadPlace, Try, Fill, Wait, Fetch, ThreadView, WorkerPlace, Look, Count, End, Copy, Whole, Reply, WorkerView}
use Rattle.sb_actor.specs.Moves.{IsBlock, is_clean}
use Rattle.sb_actor.specs.Ranges.{IsReplyTo}
use Rattle.sb_actor.specs.Acts.{free, busy, ready, acknowledged}
use Rattle.sb_block.specs.Layout.{most_words, reply_length}
use Rattle.sb_statements.specs.Words.{words_of_channel}

-- who owns a clean channel, by number, and with what: nobody; a thread that fills its block; one that handed it over; one that has the reply to it
pub data Owner : Type 0 where
  idle : Owner
  filling : ℕ → List ℕ → Owner
  sent : ℕ → List ℕ → Owner
  has_reply : ℕ → List ℕ → List ℕ → Owner

abbrev pub owner_of : Owner → Option ℕ
owner_of idle = none
owner_of (filling k words) = some k
owner_of (sent k block) = some k
owner_of (has_reply k block reply) = some k

-- the words of a channel, as a function
abbrev pub Row : Type 0
Row = ℕ → ℕ

abbrev pub row : List ℕ → ℕ → Row
row words c j = cond (nat_lt j words_of_channel) (slice_index words (c * words_of_channel + j)) 0

-- the first n words of a list are in the row from word j on
abbrev pub AreIn : List ℕ → ℕ → ℕ → Row → Type 0
AreIn words n j f = (i : ℕ) → i < n → f (j + i) ≡ slice_index words i

-- if channel c sees the worker: elsewhere it looks
abbrev pub sees : ℕ → WorkerView → WorkerPlace
sees c v = cond (c == v.channel) v.place Look

-- what the worker has loaded and stored at a ready channel with this block
abbrev pub Reads : List ℕ → Row → WorkerPlace → Type 0
Reads block f Look = AreIn block (length block) 1 f
Reads block f Count = AreIn block (length block) 1 f
Reads block f (End count) = AreIn block (length block) 1 f × (count ≡ slice_index block 2)
Reads block f (Copy count end words) = AreIn block (length block) 1 f × (count ≡ slice_index block 2) × (end ≡ length block) × (length words < end) × (words ≡ take (length words) block)
Reads block f (Whole taken) = AreIn block (length block) 1 f × (taken ≡ whole block)
Reads block f (Reply taken reply) = (taken ≡ whole block) × (0 < length reply) × (length reply ≤ reply_length) × AreIn reply (length reply) 4 f × (slice_index reply 0 ≡ mark_of taken)

-- the invariant of a channel: its words and the worker, by who owns it
abbrev pub ChannelInvariant : Owner → WorkerPlace → Row → Type 0
ChannelInvariant idle p f = (f 0 ≡ free) × (p ≡ Look)
ChannelInvariant (filling k words) p f = (f 0 ≡ busy) × (p ≡ Look) × (length words ≤ most_words) × AreIn words (length words) 1 f
ChannelInvariant (sent k block) p f = (f 0 ≡ ready) × IsBlock k block × Reads block f p
ChannelInvariant (has_reply k block reply) p f = (f 0 ≡ acknowledged) × IsBlock k block × (p ≡ Look) × IsReplyTo (whole block) reply × AreIn reply reply_length 4 f

-- a served call on a clean channel whose mark has the number k
abbrev pub is_of : List Bool → ℕ → Served → Bool
is_of clean k x = is_clean clean x.channel && (mark_of x.taken / 65536 == k + 1)

abbrev pub calls_of : List Bool → ℕ → List Served → List Served
calls_of clean k served = filter (is_of clean k) served

-- the call as the worker served it: the copy is the block whole
abbrev pub as_served : EndedCall → Served
as_served x = record { channel = x.channel; taken = whole x.block; reply = x.reply }

-- the channel at which a thread is
abbrev pub place : ThreadPlace → Option ℕ
place (Try c all_abandoned) = none
place (Fill c words) = some c
place (Wait c block) = some c
place (Fetch c block words) = some c

-- the call at a channel that is served and not yet ended
abbrev pub served_at : ℕ → Owner → List EndedCall
served_at c idle = []
served_at c (filling k words) = []
served_at c (sent k block) = []
served_at c (has_reply k block reply) = record { channel = c; block = block; reply = reply } ∷ []

abbrev pub waiting : List Bool → (ℕ → Owner) → Option ℕ → List EndedCall
waiting clean owners none = []
waiting clean owners (some c) = cond (is_clean clean c) (served_at c (owners c)) []

-- where the thread of number k is at a clean channel
abbrev pub Agrees : ℕ → ThreadPlace → Owner → Type 0
Agrees k (Try c all_abandoned) m = Unit {0}
Agrees k (Fill c words) m = m ≡ filling k words
Agrees k (Wait c block) m = (m ≡ sent k block) ⊎ ((reply : List ℕ) × (m ≡ has_reply k block reply))
Agrees k (Fetch c block words) m = (reply : List ℕ) × (m ≡ has_reply k block reply) × (length words ≤ reply_length) × (words ≡ take (length words) reply)

-- if a thread found all channels abandoned in this round, no channel below is clean
abbrev pub AllAbandoned : List Bool → ThreadPlace → Type 0
AllAbandoned clean (Try c all_abandoned) = all_abandoned ≡ true → (d : ℕ) → d < c → is_clean clean d ≡ false
AllAbandoned clean _ = Unit {0}

-- the block that a thread handed over has its number, also on a channel that is not clean
abbrev pub HandedIsOwn : ℕ → ThreadPlace → Type 0
HandedIsOwn k (Wait c block) = IsBlock k block
HandedIsOwn k (Fetch c block words) = IsBlock k block
HandedIsOwn k _ = Unit {0}

-- the reply that the worker stores has the mark of its copy
abbrev pub Replies : WorkerPlace → Type 0
Replies (Reply taken reply) = (0 < length reply) × (length reply ≤ reply_length) × (slice_index reply 0 ≡ mark_of taken)
Replies _ = Unit {0}

-- of thread i, by what the rule knows of the channels and of the calls served
module _ (clean : List Bool) (owners : ℕ → Owner) (served : List Served) where
  pub record FitsThread (i : ℕ) (v : ThreadView) : Type 0 where
    pub number : v.number ≡ i
    pub its_clean : v.clean ≡ clean
    pub agrees : (c : ℕ) → place v.place ≡ some c → is_clean clean c ≡ true → Agrees v.number v.place (owners c)
    pub only : (c : ℕ) → is_clean clean c ≡ true → owner_of (owners c) ≡ some v.number → place v.place ≡ some c
    pub calls : calls_of clean v.number served ≡ map as_served (v.ended_calls ++ waiting clean owners (place v.place))
    pub all_abandoned : AllAbandoned clean v.place
    pub handed_is_own : HandedIsOwn v.number v.place

-- of the worker, beside this many threads
module _ (clean : List Bool) (owners : ℕ → Owner) (threads : ℕ) where
  pub record FitsWorker (v : WorkerView) : Type 0 where
    pub its_clean : v.clean ≡ clean
    pub owners_there : (c k : ℕ) → is_clean clean c ≡ true → owner_of (owners c) ≡ some k → k < threads
    pub no_strangers : (k : ℕ) → threads ≤ k → calls_of clean k v.served ≡ []
    pub of_threads : (n : ℕ) (x : Served) → get_elem? v.served n ≡ some x → is_clean clean x.channel ≡ true → (k : ℕ) × (k < threads) × (mark_of x.taken / 65536 ≡ k + 1)
    pub replied : (n : ℕ) (x : Served) → get_elem? v.served n ≡ some x → IsReplyTo x.taken x.reply
    pub replies : Replies v.place

-- a call served on channel c
abbrev pub is_on : ℕ → Served → Bool
is_on c x = x.channel == c

-- the last call served on an acknowledged channel is the one whose reply is there
abbrev pub Last : List Served → ℕ → Owner → Type 0
Last served c idle = Unit {0}
Last served c (filling k words) = Unit {0}
Last served c (sent k block) = Unit {0}
Last served c (has_reply k block reply) = (before : List Served) × (filter (is_on c) served ≡ before ++ as_served (record { channel = c; block = block; reply = reply }) ∷ [])

-- the rule, over the words of a target with these clean channels, the view of its worker, and those of its threads, in order
pub record Rule (clean : List Bool) (words : List ℕ) (worker : WorkerView) (threads : List ThreadView) : Type 0 where
  pub owners : ℕ → Owner
  pub sized : length words ≡ length clean * words_of_channel
  pub each_channel : (c : ℕ) → is_clean clean c ≡ true → ChannelInvariant (owners c) (sees c worker) (row words c)
  pub lasts : (c : ℕ) → is_clean clean c ≡ true → Last worker.served c (owners c)
  pub fits_worker : FitsWorker clean owners (length threads) worker
  pub fits : (i : ℕ) (v : ThreadView) → get_elem? threads i ≡ some v → FitsThread clean owners worker.served i v
