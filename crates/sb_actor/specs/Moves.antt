-- What a step does to its word and to the view of its actor, for each kind of step. These are the rows of the two tables, as a word
-- and a view see them.
use Rattle.std.specs.Prelude.{◌≡◌, ℕ, ◌+◌, ◌*◌, ◌/◌, ◌<◌, ◌≤◌, Bool, true, false, ◌==◌, ◌&&◌, nat_lt, List, [], ◌∷◌, ◌++◌, length, slice_index, slice_index_or, if◌then◌else◌}
use Rattle.sb_block.specs.Copies.{copied, is_end, mark_of}
use Rattle.sb_block.specs.Packing.{offset_of}
use Rattle.sb_actor.specs.Views.{Served, EndedCall, ThreadPlace, Try, Fill, Wait, Fetch, WorkerPlace, Look, Count, End, Copy, Whole, Reply, ThreadView, WorkerView}
use Rattle.sb_actor.specs.Acts.{free as free_state, busy, ready, acknowledged, abandoned}
use Rattle.sb_block.specs.Layout.{most_words, most_parameters, reply_length, first_offset, count_in, end_in, mark_in}
use Rattle.sb_statements.specs.Words.{words_of_channel}

-- the kinds of step: a thread's within a call, the worker's, and those of the other statements, which name a word directly
pub data Deed : Type 0 where
  take_it : Deed
  fill : ℕ → Deed
  send : Deed
  wait : Deed
  fetch : Deed
  free : Deed
  abandon : Deed
  look : Deed
  load_count : Deed
  load_end : Deed
  copy : Deed
  answer : ℕ → Deed
  acknowledge : Deed
  stray_store : ℕ → Deed
  stray_exchange : ℕ → ℕ → Deed
  stray_load : Deed
  stray_wait : Deed

-- whether an exchange, or a load that looks for a value, met what it found
abbrev pub met : Deed → ℕ → Bool
met take_it n = n == free_state
met send n = n == busy
met wait n = n == acknowledged
met look n = n == ready
met acknowledge n = n == ready
met (stray_exchange from to) n = n == from
met d n = true

-- the word after a step that found n
abbrev pub wrote : Deed → Bool → ℕ → ℕ
wrote take_it b n = if b then busy else n
wrote (fill x) b n = x
wrote send b n = if b then ready else n
wrote free b n = free_state
wrote abandon b n = abandoned
wrote (answer x) b n = x
wrote acknowledge b n = if b then acknowledged else n
wrote (stray_store x) b n = x
wrote (stray_exchange from to) b n = if b then to else n
wrote d b n = n

-- word j of channel c: 0 is its state, and 1 + i is block word i
abbrev pub at : ℕ → ℕ → ℕ
at c j = c * words_of_channel + j

-- a channel that is there and clean
abbrev pub is_clean : List Bool → ℕ → Bool
is_clean clean c = slice_index_or clean c false

-- the next channel, or channel 0 after the last
abbrev pub next : List Bool → ℕ → ℕ
next clean c = if nat_lt (c + 1) (length clean) then c + 1 else 0

-- where a thread is outside a call
abbrev pub no_call : ThreadPlace
no_call = Try 0 true

-- after the last channel the next round begins, with no channel found but abandoned ones
abbrev pub try_next : List Bool → ℕ → Bool → ThreadPlace
try_next clean c all_abandoned = if nat_lt (c + 1) (length clean) then Try (c + 1) all_abandoned else no_call

-- where a thread is after a step that found n
abbrev pub thread_place : List Bool → ThreadPlace → Deed → Bool → ℕ → ThreadPlace
thread_place clean (Try c all_abandoned) take_it b n = if b then Fill c [] else try_next clean c (all_abandoned && n == abandoned)
thread_place clean (Fill c words) (fill x) b n = Fill c (words ++ x ∷ [])
thread_place clean (Fill c words) send b n = if b then Wait c words else no_call
thread_place clean (Wait c block) wait b n = if b then Fetch c block [] else Wait c block
thread_place clean (Wait c block) abandon b n = no_call
thread_place clean (Fetch c block words) fetch b n = Fetch c block (words ++ n ∷ [])
thread_place clean (Fetch c block words) free b n = no_call
thread_place clean p d b n = p

-- the call on a clean channel that ended with the step
abbrev pub ended : List Bool → ThreadPlace → Deed → List EndedCall
ended clean (Fetch c block words) free = if is_clean clean c then record { channel = c; block = block; reply = words } ∷ [] else []
ended clean p d = []

abbrev pub thread_result : ThreadView → Deed → Bool → ℕ → ThreadView
thread_result v d b n = record v { place = thread_place v.clean v.place d b n; ended_calls = v.ended_calls ++ ended v.clean v.place d }

-- a thread's view after a step that found n
abbrev pub thread_view : ThreadView → Deed → ℕ → ThreadView
thread_view v d n = thread_result v d (met d n) n

-- a whole block of the thread with this number: its count and its end say what it is, and its mark has the number
pub record IsBlock (number : ℕ) (block : List ℕ) : Type 0 where
  pub few : count_in block ≤ most_parameters
  pub low : first_offset (count_in block) ≤ length block
  pub high : length block ≤ most_words
  pub end : end_in block ≡ length block
  pub mark : mark_in block / 65536 ≡ number + 1

-- the step that a thread may make, on word w
abbrev pub ThreadMay : ThreadView → ThreadPlace → ℕ → Deed → Type 0
ThreadMay v (Try c all_abandoned) w take_it = (c < length v.clean) × (w ≡ at c 0)
ThreadMay v (Fill c words) w (fill x) = (c < length v.clean) × (w ≡ at c (1 + length words)) × (length words < most_words)
ThreadMay v (Fill c words) w send = (c < length v.clean) × (w ≡ at c 0) × IsBlock v.number words
ThreadMay v (Wait c block) w wait = (c < length v.clean) × (w ≡ at c 0)
ThreadMay v (Wait c block) w abandon = (c < length v.clean) × (w ≡ at c 0) × (is_clean v.clean c ≡ false)
ThreadMay v (Fetch c block words) w fetch = (c < length v.clean) × (w ≡ at c (4 + length words)) × (length words < reply_length)
ThreadMay v (Fetch c block words) w free = (c < length v.clean) × (w ≡ at c 0) × (length words ≡ reply_length)
ThreadMay v p w d = ⊥

-- after the count, the end and each word of the copy
abbrev pub counted : ℕ → WorkerPlace
counted n = if nat_lt most_parameters n then Whole (copied n 0 []) else End n

abbrev pub ended_at : ℕ → ℕ → WorkerPlace
ended_at c n = if is_end c n then Copy c n [] else Whole (copied c n [])

abbrev pub copied_to : ℕ → ℕ → List ℕ → WorkerPlace
copied_to c e words = if length words == e then Whole (copied c e words) else Copy c e words

-- where the worker is after a step that found n
abbrev pub worker_place : WorkerPlace → Deed → Bool → ℕ → WorkerPlace
worker_place Look look b n = if b then Count else Look
worker_place Count load_count b n = counted n
worker_place (End c) load_end b n = ended_at c (offset_of n)
worker_place (Copy c e words) copy b n = copied_to c e (words ++ n ∷ [])
worker_place (Whole taken) (answer x) b n = Reply taken (x ∷ [])
worker_place (Reply taken reply) (answer x) b n = Reply taken (reply ++ x ∷ [])
worker_place (Reply taken reply) acknowledge b n = Look
worker_place p d b n = p

abbrev pub worker_channel : List Bool → ℕ → Deed → Bool → ℕ
worker_channel clean c look b = if b then c else next clean c
worker_channel clean c acknowledge b = next clean c
worker_channel clean c d b = c

-- the call that was served with the step
abbrev pub served_by : ℕ → WorkerPlace → Deed → List Served
served_by c (Reply taken reply) acknowledge = record { channel = c; taken = taken; reply = reply } ∷ []
served_by c p d = []

abbrev pub worker_result : WorkerView → Deed → Bool → ℕ → WorkerView
worker_result v d b n = record v {
  channel = worker_channel v.clean v.channel d b;
  place = worker_place v.place d b n;
  served = v.served ++ served_by v.channel v.place d;
}

-- the worker's view after a step that found n
abbrev pub worker_view : WorkerView → Deed → ℕ → WorkerView
worker_view v d n = worker_result v d (met d n) n

-- the step that the worker may make, on word w. The first word of a reply is the mark of the copy
abbrev pub WorkerMay : WorkerView → WorkerPlace → ℕ → Deed → Type 0
WorkerMay v Look w look = (v.channel < length v.clean) × (w ≡ at v.channel 0)
WorkerMay v Count w load_count = (v.channel < length v.clean) × (w ≡ at v.channel 3)
WorkerMay v (End c) w load_end = (v.channel < length v.clean) × (w ≡ at v.channel (16 + c)) × (c ≤ most_parameters)
WorkerMay v (Copy c e words) w copy = (v.channel < length v.clean) × (w ≡ at v.channel (1 + length words)) × (length words < e) × (e ≤ most_words)
WorkerMay v (Whole taken) w (answer x) = (v.channel < length v.clean) × (w ≡ at v.channel 4) × (x ≡ mark_of taken)
WorkerMay v (Reply taken reply) w (answer x) = (v.channel < length v.clean) × (w ≡ at v.channel (4 + length reply)) × (length reply < reply_length)
WorkerMay v (Reply taken reply) w acknowledge = (v.channel < length v.clean) × (w ≡ at v.channel 0) × (length reply ≡ reply_length)
WorkerMay v p w d = ⊥

-- word w is one of a channel that is there and not clean
abbrev pub IsUnclean : List Bool → ℕ → Type 0
IsUnclean clean w = (c j : ℕ) → w ≡ at c j → j < words_of_channel → (c < length clean) × (is_clean clean c ≡ false)

-- word w is one of a channel that is there
abbrev pub IsWord : List Bool → ℕ → Type 0
IsWord clean w = w < length clean * words_of_channel

-- the step of a statement that names word w: it stores into no clean channel
abbrev pub StrayMay : List Bool → ℕ → Deed → Type 0
StrayMay clean w (stray_store x) = IsWord clean w × IsUnclean clean w
StrayMay clean w (stray_exchange from to) = IsWord clean w × IsUnclean clean w
StrayMay clean w stray_load = IsWord clean w
StrayMay clean w stray_wait = IsWord clean w
StrayMay clean w d = ⊥
