-- A step of a thread stores, fetches and tells values that have a source.
use Rattle.std.proofs.Common.{◌≡◌, inl, inr, ◌∙◌, refl, subst, sym, ℕ, ◌+◌, ◌<◌, ◌≤◌, min, true, ◌&&◌, ◌==◌, if◌then◌else◌, List, [], ◌∷◌, ◌++◌, length, length-drop, take, drop, get_or-drop, Option, Some, IfSome, lit<, lit≤, arith}
use Rattle.std.specs.Prelude.{is_none}
use Rattle.sb_actor.specs.ThreadStages.{Try, Fill, Fetch}
use Rattle.sb_statements.specs.declared.results.CallResult.TheVariants as call
use Rattle.sb_statements.specs.declared.results.StmtResult.TheVariants as result
use Rattle.sb_statements.specs.declared.statements.Statement.TheVariants as statement
use Rattle.sb_core.proofs.Sourcing.{WritesSource, block_source, state_source, each_more}
use Rattle.sb_core.proofs.Existence.{word_parts}
use Rattle.std.proofs.lemmas.List.{length-take-le, get_or-take}
use Rattle.sb_core.proofs.Names.{Abandon, abandoned, at, block_of, CallResult, ends, Entry, first_stage, Free, goes_on, has_word, HasBlockSource, HasSource, HasStateSource, is_call, is_calling, is_over, is_statement, IsSoundThreadStage, IsSourcedReply, mark_at, Observation, read_reply, Script, Send, Shows, ShowsCall, slice_index, Statement, statement_at, StmtResult, StoresThere, Stray, stray_row, thread_after, thread_plan, ThreadAt, ThreadNext, ThreadStage, value_in, Wait, Word}
use Rattle.sb_core.proofs.ThreadRows.{CallRows, DirectRows, walk}

-- what a thread has fetched has sources
abbrev pub IsTracedThread : Script → List Entry → ℕ → ThreadStage → Type 0
IsTracedThread script es t (Fetch c words) = (i : ℕ) → i < length words → HasBlockSource script es t c (3 + i) (slice_index words i)
IsTracedThread script es t (Free c words) = (i : ℕ) → i < length words → HasBlockSource script es t c (3 + i) (slice_index words i)
IsTracedThread script es t _ = Unit {0}

-- what a step found has a source
abbrev pub FindsAt : Script → List Entry → Option Statement → ℕ → Type 0
FindsAt script es (Some (statement.Exchange u word from to)) n = HasSource script es u word.channel word.at n
FindsAt script es (Some (statement.Load u word)) n = HasSource script es u word.channel word.at n
FindsAt script es _ n = Unit {0}

abbrev pub Finds : Script → List Entry → ThreadAt → ThreadStage → ℕ → Type 0
Finds script es x (Send c) n = HasStateSource script x.target c n
Finds script es x (Fetch c words) n = HasBlockSource script es x.target c (3 + length words) n
Finds script es x (Stray loads most) n = FindsAt script es (statement_at script x.target x.thread x.place) n
Finds script es x _ n = Unit {0}

abbrev pub ShowsStatement : Script → List Entry → ThreadAt → StmtResult → Type 0
ShowsStatement script es x r = (s : Statement) × (statement_at script x.target x.thread x.place ≡ Some s) × Shows script es x.target s r

pub record Traces (script : Script) (es : List Entry) (x : ThreadAt) (n : ThreadNext) : Type 0 where
  pub stage : IsTracedThread script es x.target n.thread.stage
  pub shown : IfSome n.ended (λ r. ShowsStatement script es x r)

pub traced_first : (script : Script) (es : List Entry) (t : ℕ) (o : Option Statement) → IsTracedThread script es t (first_stage o)
traced_first script es t (Some (statement.Call tag args)) = tt
traced_first script es t _ = tt

-- the extended words of a reply that is read
ext_length : (words : List ℕ) (n : ℕ) → length words ≡ 12 → length (take (min n 7) (drop 5 words)) ≡ min n 7
ext_length words n e = length-take-le (min n 7) (drop 5 words) (let d = length-drop 5 words in omega (arith, d, e))

ext_at : (words : List ℕ) (n i : ℕ) → i < n → slice_index (take n (drop 5 words)) i ≡ slice_index words (5 + i)
ext_at words n i l = get_or-take n (drop 5 words) i 0 l ∙ get_or-drop 5 words i 0

-- a reply that is read from twelve words that have sources
pub sourced_reply : (script : Script) (es : List Entry) (t c : ℕ) (words : List ℕ) → length words ≡ 12 → ((i : ℕ) → i < length words → HasBlockSource script es t c (3 + i) (slice_index words i))
    → IsSourcedReply script es t c (read_reply words)
sourced_reply script es t c words n h = record {
  mark = h 0 (omega (arith, n));
  outcome = h 1 (omega (arith, n));
  status = h 2 (omega (arith, n));
  handle = h 3 (omega (arith, n));
  many = (slice_index words 4, h 4 (omega (arith, n)), ext_length words (slice_index words 4) n);
  words = λ i l.
      let size = ext_length words (slice_index words 4) n in
      let few : i < min (slice_index words 4) 7 = omega (arith, size, l) in
      let low : 5 + i < length words = omega (arith, n, few) in
      subst (λ z. HasBlockSource script es t c (8 + i) z) (sym (ext_at words (min (slice_index words 4) 7) i few))
      (subst (λ z. HasBlockSource script es t c z (slice_index words (5 + i))) (eight i) (h (5 + i) low));
}
  where
    eight : (i : ℕ) → 3 + (5 + i) ≡ 8 + i
    eight i = omega arith

module _ (script : Script) (es : List Entry) (x : ThreadAt) where
  abbrev here : Option Statement
  here = statement_at script x.target x.thread x.place

  -- what has been traced stays so, by what the step found
  abbrev Step : ThreadStage → ℕ → ThreadNext → Type 0
  Step stage n next = IsTracedThread script es x.target stage → Finds script es x stage n → Traces script es x next

  over : (r : StmtResult) → ShowsStatement script es x r → Traces script es x (ends script x r)
  over r s = record { stage = traced_first script es x.target (statement_at script x.target x.thread (x.place + 1)); shown = s }

  on : (s : ThreadStage) → IsTracedThread script es x.target s → Traces script es x (goes_on x s)
  on s h = record { stage = h; shown = tt }

  call_shows : (o : Option Statement) → here ≡ o → is_call o ≡ true → (r : CallResult) → ShowsCall script es x.target r → ShowsStatement script es x (result.Call r)
  call_shows (Some (statement.Call tag args)) e h r s = (statement.Call tag args, e, s)
  call_shows _ e h r s = absurd (cc)

  module _ (calls : is_call here ≡ true) where
    ended_call : (r : CallResult) → ShowsCall script es x.target r → Traces script es x (ends script x (result.Call r))
    ended_call r s = over (result.Call r) (call_shows here refl calls r s)

    reply_shown : (c : ℕ) (words : List ℕ) → length words ≡ 12 → IsTracedThread script es x.target (Free c words) → IsSourcedReply script es x.target c (read_reply words)
    reply_shown c words n h = sourced_reply script es x.target c words n h

    more_fetched : (c n : ℕ) (words : List ℕ) → IsTracedThread script es x.target (Fetch c words) → HasBlockSource script es x.target c (3 + length words) n
        → IsTracedThread script es x.target (Fetch c (words ++ n ∷ []))
    more_fetched c n words w l = each_more (λ i z. HasBlockSource script es x.target c (3 + i) z) words n w l

    call_traces : CallRows script x Step
    call_traces = record {
      took = λ c r n a w b h l. on (Fill c 0) tt;
      tried = λ c r n a w p b h l. on (Try (c + 1) r (a && n == abandoned)) tt;
      round = λ c r m n a w p b h l. on (Try 0 m true) tt;
      none = λ c r n a e f h l. ended_call call.NoChannel tt;
      filled = λ c i n w m h l. on (Fill c (i + 1)) tt;
      whole = λ c i n w h l. on (Send c) tt;
      sent = λ c n w h l. on (Wait c 0) tt;
      lost = λ c n w e h l. ended_call (call.SendLost c n) l;
      replied = λ c m n w h l. on (Fetch c []) (λ i q. absurd (omega (arith, q)));
      waits_on = λ c m k n w p h l. on (Wait c k) tt;
      tired = λ c m n w h l. on (Abandon c) tt;
      fetched = λ c n ws w m h l. on (Fetch c (ws ++ n ∷ [])) (more_fetched c n ws h l);
      read = λ c n ws w m h l. on (Free c (ws ++ n ∷ [])) (more_fetched c n ws h l);
      own = λ c n ws w e m h l. ended_call (call.Reply c (read_reply ws)) (reply_shown c ws e h);
      foreign = λ c n ws w e m h l. ended_call (call.Foreign c (slice_index ws 0)) (h 0 (omega (arith, e)));
      given_up = λ c n w h l. ended_call (call.TimedOut c) tt;
    }

  direct_traces : DirectRows script x Step
  direct_traces = record {
    store_ends = λ loads most n t w v e h l. over result.Stored (statement.Store t w v, e, tt);
    exchange_ends = λ loads most n t w from to e h l. over (result.Found n) (statement.Exchange t w from to, e, subst (λ o. FindsAt script es o n) e l);
    load_ends = λ loads most n t w e h l. over (result.Found n) (statement.Load t w, e, subst (λ o. FindsAt script es o n) e l);
    met = λ loads most n t w v k e low h l. over (result.Met (loads + 1)) (statement.Wait t w v k, e, tt);
    unmet = λ loads most n t w v k e last h l. over (result.Unmet most) (statement.Wait t w v k, e, tt);
    again = λ loads most n t w v k e low h l. on (Stray (loads + 1) most) tt;
  }

  -- every step
  pub step_traces : IsSoundThreadStage (length x.clean) x.patience x.block x.stage → is_calling x.stage ≡ is_call here → is_over x.stage ≡ is_none here
      → IsTracedThread script es x.target x.stage → (seen : Observation) → Finds script es x x.stage (value_in seen) → Traces script es x (thread_after script x seen)
  step_traces s calls none w seen l =
      walk script x Step call_traces direct_traces (λ n h f. record { stage = w; shown = tt }) x.stage s calls none seen w l

  -- what the step writes
  of_block : (o : Option Statement) → here ≡ o → is_call o ≡ true → (i : ℕ) → i < length (block_of (mark_at x.thread x.place) o) → (c : ℕ)
      → HasBlockSource script es x.target c i (slice_index (block_of (mark_at x.thread x.place) o) i)
  of_block (Some (statement.Call tag args)) e h i l c = inr (inl (x.thread, x.place, tag, args, e, l, refl))
  of_block _ e h i l c = absurd (cc)

  low_place : (t : ℕ) (word : Word) → has_word script.targets t word ≡ true → word.at < 65
  low_place t word h = let low = (word_parts script t word h).1 in omega (arith, low)

  by_hand_source : (u : ℕ) (word : Word) (value : ℕ) (s : Statement) → here ≡ Some s
      → ((c j : ℕ) → word.channel ≡ c → word.at ≡ j → StoresThere u c j value s) → HasSource script es u word.channel word.at value
  by_hand_source u word value s e f = record {
    state = λ q. inr (x.target, x.thread, x.place, s, e, f word.channel 0 refl q);
    word = λ i q. inr (inr (inl (x.target, x.thread, x.place, s, e, f word.channel (1 + i) refl q)));
  }

  stray_writes : (y : ThreadAt) (loads most : ℕ) (o : Option Statement) → here ≡ o → IfSome o (λ s. is_statement script.targets s ≡ true) → WritesSource script es (stray_row script y loads most o).step
  stray_writes y loads most (Some (statement.Store t word value)) e h =
      (low_place t word h, by_hand_source t word value (statement.Store t word value) e (λ c j f g. (refl, f, g, refl)))
  stray_writes y loads most (Some (statement.Exchange t word from to)) e h =
      (low_place t word h, by_hand_source t word to (statement.Exchange t word from to) e (λ c j f g. (refl, f, g, refl)))
  stray_writes y loads most _ e h = tt

  pub row_writes : (stage : ThreadStage) → IsSoundThreadStage (length x.clean) x.patience x.block stage → is_calling stage ≡ is_call here → length x.block ≤ 64
      → x.block ≡ block_of (mark_at x.thread x.place) here → IfSome here (λ s. is_statement script.targets s ≡ true) → WritesSource script es (thread_plan script (record x { stage = stage }))
  row_writes (Try c rounds all_abandoned) s calls short b good = (lit< tt, state_source script es x.target c 2 (inl (lit≤ tt, lit≤ tt)))
  row_writes (Fill c i) s calls short b good =
      let low = s.1 in
      let inside : i < length (block_of (mark_at x.thread x.place) here) = subst (λ (z : List ℕ). i < length z) b low in (
        omega (arith, low, short),
        block_source script es x.target c i (slice_index x.block i)
            (subst (λ (z : List ℕ). HasBlockSource script es x.target c i (slice_index z i)) (sym b) (of_block here refl (sym calls) i inside c)),
      )
  row_writes (Send c) s calls short b good = (lit< tt, state_source script es x.target c 3 (inl (lit≤ tt, lit≤ tt)))
  row_writes (Free c words) s calls short b good = (lit< tt, state_source script es x.target c 1 (inl (lit≤ tt, lit≤ tt)))
  row_writes (Abandon c) s calls short b good = (lit< tt, state_source script es x.target c 5 (inl (lit≤ tt, lit≤ tt)))
  row_writes (Stray loads most) s calls short b good = stray_writes (record x { stage = Stray loads most }) loads most here refl good
  row_writes _ s calls short b good = tt
