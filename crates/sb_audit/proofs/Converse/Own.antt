-- The entries on clean channels and the results of calls there are the same, one to one and in order.
use Rattle.std.proofs.Common.{◌≡◌, ◌∙◌, ℕ, ◌+◌, ◌<◌, ◌⊎◌, inl, inr, zero, suc, Bool, true, false, List, [], ◌∷◌, ◌++◌, map, Some, slice_get, filter, refl, ap, sym, subst, arith}
use Rattle.std.proofs.lemmas.Option.{none-some}
use Rattle.sb_actor.specs.Fitting.{Suits}
use Rattle.sb_actor.specs.Moves.{is_clean}
use Rattle.sb_actor.specs.Places.{block_of, clean_channels, mark_at, statement_at}
use Rattle.sb_block.specs.Blocks.{block}
use Rattle.sb_block.specs.Copies.{mark_of, whole}
use Rattle.sb_block.specs.Layout.{mark_in}
use Rattle.sb_book.specs.declared.entries.Entry.{Entry}
use Rattle.sb_call.specs.declared.arguments.Arg.{Arg}
use Rattle.sb_call.specs.declared.replies.Reply.{Reply}
use Rattle.sb_call.specs.declared.tags.CallTag.{CallTag}
use Rattle.sb_core.specs.Fits.{Answered, OwnReplies, ResultsSuit, by_entry, by_result, is_entry_of, results_at}
use Rattle.sb_core.specs.Results.{result_at}
use Rattle.sb_core.specs.Views.{OwnCall, own_calls, own_from, own_if, own_of}
use Rattle.sb_statements.specs.Actors.{thread_count}
use Rattle.sb_statements.specs.declared.results.CallResult.TheVariants as call
use Rattle.sb_statements.specs.declared.results.StmtResult.{StmtResult}
use Rattle.sb_statements.specs.declared.results.StmtResult.TheVariants as result
use Rattle.sb_statements.specs.declared.scripts.Script.{Script}
use Rattle.sb_statements.specs.declared.statements.Statement.{Statement}
use Rattle.sb_statements.specs.declared.statements.Statement.TheVariants as statement
use Rattle.sb_audit.proofs.Converse.Lists.{IsIn, Rises, filtered, in_later, map_twice, mapped, rises_from, some_same, unfiltered, unmapped}

-- the result of a call that got this reply on this channel
abbrev pub replied : ℕ → Reply → StmtResult
replied channel reply = result.Call (call.Reply channel reply)

-- the block of the call of a thread at a place
abbrev pub block_at : Script → ℕ → ℕ → ℕ → List ℕ
block_at script t k i = block_of (mark_at k i) (statement_at script t k i)

-- a call that got a reply on a channel, with this block
abbrev own_with : ℕ → List ℕ → Reply → OwnCall
own_with channel block reply = record { channel = channel; block = block; reply = reply }

-- ---- the calls of a list of results

-- a call is that of this result
pub record IsCallOf (clean : List Bool) (block : List ℕ) (r : StmtResult) (x : OwnCall) : Type 0 where
  pub result_is : r ≡ replied x.channel x.reply
  pub on_clean : is_clean clean x.channel ≡ true
  pub block_is : x.block ≡ block

if_clean : (clean : List Bool) (block : List ℕ) (c : ℕ) (reply : Reply) (rest : List OwnCall) (x : OwnCall) (b : Bool) → is_clean clean c ≡ b
    → IsIn x (own_if b (own_with c block reply) ++ rest) → IsCallOf clean block (replied c reply) x ⊎ IsIn x rest
if_clean clean block c reply rest x true e (zero, h) =
    let same : own_with c block reply ≡ x = some_same (own_with c block reply) x h in
    inl (record {
      result_is = ap (λ (y : OwnCall). replied y.channel y.reply) same;
      on_clean = ap (λ (y : OwnCall). is_clean clean y.channel) (sym same) ∙ e;
      block_is = ap (λ (y : OwnCall). y.block) (sym same);
    })
if_clean clean block c reply rest x true e (suc n, h) = inr (n, h)
if_clean clean block c reply rest x false e w = inr w

first_or_rest : (clean : List Bool) (block : List ℕ) (r : StmtResult) (rest : List OwnCall) (x : OwnCall) → IsIn x (own_of clean block r ++ rest)
    → IsCallOf clean block r x ⊎ IsIn x rest
first_or_rest clean block (result.Call (call.Reply c reply)) rest x w = if_clean clean block c reply rest x (is_clean clean c) refl w
first_or_rest clean block (result.Call call.NoChannel) rest x w = inr w
first_or_rest clean block (result.Call (call.SendLost c found)) rest x w = inr w
first_or_rest clean block (result.Call (call.Foreign c mark)) rest x w = inr w
first_or_rest clean block (result.Call (call.TimedOut c)) rest x w = inr w
first_or_rest clean block result.Stored rest x w = inr w
first_or_rest clean block (result.Found n) rest x w = inr w
first_or_rest clean block (result.Met loads) rest x w = inr w
first_or_rest clean block (result.Unmet loads) rest x w = inr w

-- a call of a thread's results from place i on is that of one of them
abbrev HasResult : Script → ℕ → ℕ → ℕ → List StmtResult → OwnCall → Type 0
HasResult script t k i results x =
    (j : ℕ) × (r : StmtResult) × (slice_get results j ≡ Some r) × IsCallOf (clean_channels script t) (block_at script t k (i + j)) r x

of_first : (script : Script) (t k i : ℕ) (r : StmtResult) (rs : List StmtResult) (x : OwnCall) → IsCallOf (clean_channels script t) (block_at script t k i) r x
    → HasResult script t k i (r ∷ rs) x
of_first script t k i r rs x h =
    let same : i ≡ i + 0 = omega arith in
    (0, r, refl, subst (λ (j : ℕ). IsCallOf (clean_channels script t) (block_at script t k j) r x) same h)

of_rest : (script : Script) (t k i : ℕ) (r : StmtResult) (rs : List StmtResult) (x : OwnCall) → HasResult script t k (i + 1) rs x → HasResult script t k i (r ∷ rs) x
of_rest script t k i r rs x (j, s, e, h) =
    let same : i + 1 + j ≡ i + suc j = omega arith in
    (suc j, s, e, subst (λ (n : ℕ). IsCallOf (clean_channels script t) (block_at script t k n) s x) same h)

own_at : (script : Script) (t k i : ℕ) (results : List StmtResult) (x : OwnCall) → IsIn x (own_from script t k i results) → HasResult script t k i results x
own_at script t k i [] x (n, h) = absurd (none-some x h)
own_at script t k i (r ∷ rs) x w = by (first_or_rest (clean_channels script t) (block_at script t k i) r (own_from script t k (i + 1) rs) x w) (own_at script t k (i + 1) rs x)
  where
    by : IsCallOf (clean_channels script t) (block_at script t k i) r x ⊎ IsIn x (own_from script t k (i + 1) rs)
        → (IsIn x (own_from script t k (i + 1) rs) → HasResult script t k (i + 1) rs x) → HasResult script t k i (r ∷ rs) x
    by (inl h) more = of_first script t k i r rs x h
    by (inr v) more = of_rest script t k i r rs x (more v)

-- and each result that is a reply on a clean channel has its call
own_there : (script : Script) (t k i j : ℕ) (results : List StmtResult) (c : ℕ) (reply : Reply) → slice_get results j ≡ Some (replied c reply)
    → is_clean (clean_channels script t) c ≡ true
    → IsIn (own_with c (block_at script t k (i + j)) reply) (own_from script t k i results)
own_there script t k i j [] c reply h g = absurd (none-some (replied c reply) h)
own_there script t k i zero (r ∷ rs) c reply h g =
    let same : i ≡ i + 0 = omega arith in
    let x = λ (n : ℕ). own_with c (block_at script t k n) reply in
    let first : own_of (clean_channels script t) (block_at script t k i) r ≡ x i ∷ [] =
    ap (own_of (clean_channels script t) (block_at script t k i)) (some_same r (replied c reply) h) ∙ ap (λ b. own_if b (x i)) g in
    (0, ap (λ l. slice_get (l ++ own_from script t k (i + 1) rs) 0) first ∙ ap (λ n. Some (x n)) same)
own_there script t k i (suc j) (r ∷ rs) c reply h g =
    let same : i + 1 + j ≡ i + suc j = omega arith in
    in_later (own_with c (block_at script t k (i + suc j)) reply) (own_of (clean_channels script t) (block_at script t k i) r) (own_from script t k (i + 1) rs)
    (subst (λ (n : ℕ). IsIn (own_with c (block_at script t k n) reply) (own_from script t k (i + 1) rs)) same
    (own_there script t k (i + 1) j rs c reply h g))

-- ---- their marks rise

-- the mark in the block of a call
abbrev mark_of_call : OwnCall → ℕ
mark_of_call x = mark_in x.block

-- each reply is the result of a call
abbrev AreCalls : Script → ℕ → ℕ → ℕ → List StmtResult → Type 0
AreCalls script t k i results = (j c : ℕ) (reply : Reply) → slice_get results j ≡ Some (replied c reply)
    → (tag : CallTag) × (args : List Arg) × (statement_at script t k (i + j) ≡ Some (statement.Call tag args))

marked : (script : Script) (t k i : ℕ) (tag : CallTag) (args : List Arg) → statement_at script t k i ≡ Some (statement.Call tag args)
    → mark_in (block_at script t k i) ≡ mark_at k i
marked script t k i tag args e = ap (λ s. mark_in (block_of (mark_at k i) s)) e

rising_if : (script : Script) (t k i c : ℕ) (reply : Reply) (rest : List OwnCall) (b : Bool) → mark_in (block_at script t k i) ≡ mark_at k i
    → Rises (mark_at k (i + 1)) (map mark_of_call rest)
    → Rises (mark_at k i) (map mark_of_call (own_if b (own_with c (block_at script t k i) reply) ++ rest))
rising_if script t k i c reply rest true e a =
    let next : mark_at k (i + 1) ≡ mark_in (block_at script t k i) + 1 = omega (arith, e) in
    (omega (arith, e), subst (λ n. Rises n (map mark_of_call rest)) next a)
rising_if script t k i c reply rest false e a = rises_from (mark_at k i) (mark_at k (i + 1)) (map mark_of_call rest) (omega arith) a

rising_of : (script : Script) (t k i : ℕ) (r : StmtResult) (rest : List OwnCall)
    → ((c : ℕ) (reply : Reply) → r ≡ replied c reply → mark_in (block_at script t k i) ≡ mark_at k i) → Rises (mark_at k (i + 1)) (map mark_of_call rest)
    → Rises (mark_at k i) (map mark_of_call (own_of (clean_channels script t) (block_at script t k i) r ++ rest))
rising_of script t k i (result.Call (call.Reply c reply)) rest m a =
    rising_if script t k i c reply rest (is_clean (clean_channels script t) c) (m c reply refl) a
rising_of script t k i (result.Call call.NoChannel) rest m a = rises_from (mark_at k i) (mark_at k (i + 1)) (map mark_of_call rest) (omega arith) a
rising_of script t k i (result.Call (call.SendLost c found)) rest m a = rises_from (mark_at k i) (mark_at k (i + 1)) (map mark_of_call rest) (omega arith) a
rising_of script t k i (result.Call (call.Foreign c mark)) rest m a = rises_from (mark_at k i) (mark_at k (i + 1)) (map mark_of_call rest) (omega arith) a
rising_of script t k i (result.Call (call.TimedOut c)) rest m a = rises_from (mark_at k i) (mark_at k (i + 1)) (map mark_of_call rest) (omega arith) a
rising_of script t k i result.Stored rest m a = rises_from (mark_at k i) (mark_at k (i + 1)) (map mark_of_call rest) (omega arith) a
rising_of script t k i (result.Found n) rest m a = rises_from (mark_at k i) (mark_at k (i + 1)) (map mark_of_call rest) (omega arith) a
rising_of script t k i (result.Met loads) rest m a = rises_from (mark_at k i) (mark_at k (i + 1)) (map mark_of_call rest) (omega arith) a
rising_of script t k i (result.Unmet loads) rest m a = rises_from (mark_at k i) (mark_at k (i + 1)) (map mark_of_call rest) (omega arith) a

first_is_call : (script : Script) (t k i : ℕ) (r : StmtResult) (rs : List StmtResult) → AreCalls script t k i (r ∷ rs) → (c : ℕ) (reply : Reply) → r ≡ replied c reply
    → mark_in (block_at script t k i) ≡ mark_at k i
first_is_call script t k i r rs calls c reply e =
    let w = calls 0 c reply (ap Some e) in
    let same : i + 0 ≡ i = omega arith in
    marked script t k i w.0 w.1 (subst (λ (n : ℕ). statement_at script t k n ≡ Some (statement.Call w.0 w.1)) same w.2)

rest_are_calls : (script : Script) (t k i : ℕ) (r : StmtResult) (rs : List StmtResult) → AreCalls script t k i (r ∷ rs) → AreCalls script t k (i + 1) rs
rest_are_calls script t k i r rs calls j c reply e =
    let w = calls (suc j) c reply e in
    let same : i + suc j ≡ i + 1 + j = omega arith in
    (w.0, w.1, subst (λ (n : ℕ). statement_at script t k n ≡ Some (statement.Call w.0 w.1)) same w.2)

own_rises : (script : Script) (t k i : ℕ) (results : List StmtResult) → AreCalls script t k i results → Rises (mark_at k i) (map mark_of_call (own_from script t k i results))
own_rises script t k i [] calls = tt
own_rises script t k i (r ∷ rs) calls =
    rising_of script t k i r (own_from script t k (i + 1) rs) (first_is_call script t k i r rs calls)
    (own_rises script t k (i + 1) rs (rest_are_calls script t k i r rs calls))

-- ---- the entries

abbrev pub mark_of_entry : Entry → ℕ
mark_of_entry e = mark_of e.taken

-- a suitable reply is the result of a call
suits_reply : (clean : List Bool) (mark : ℕ) (s : Statement) (c : ℕ) (reply : Reply) → Suits clean mark s (replied c reply)
    → (tag : CallTag) × (args : List Arg) × (s ≡ statement.Call tag args)
suits_reply clean mark (statement.Call tag args) c reply h = (tag, args, refl)
suits_reply clean mark (statement.Store t w v) c reply h = absurd h
suits_reply clean mark (statement.Exchange t w from to) c reply h = absurd h
suits_reply clean mark (statement.Load t w) c reply h = absurd h
suits_reply clean mark (statement.Wait t w v most) c reply h = absurd h

are_calls : (script : Script) (results : List (List (List StmtResult))) → ResultsSuit script results → (t k : ℕ) → AreCalls script t k 0 (results_at results t k)
are_calls script results suit t k j c reply e =
    let w = suit t k j (replied c reply) e in
    let v = suits_reply (clean_channels script t) (mark_at k j) w.0 c reply w.2 in
    let same : j ≡ 0 + j = omega arith in
    (v.0, v.1, subst (λ (n : ℕ). statement_at script t k n ≡ Some (statement.Call v.0 v.1)) same (w.1 ∙ ap Some v.2))

-- the marks of a thread's entries on clean channels rise
pub entries_rise : (script : Script) (entries : List Entry) (results : List (List (List StmtResult))) → OwnReplies script entries results → ResultsSuit script results
    → (t k : ℕ) → k < thread_count (slice_get script.targets t) → Rises (mark_at k 0) (map mark_of_entry (filter (is_entry_of script t k) entries))
entries_rise script entries results replies suit t k l =
    let own = own_calls script t k (results_at results t k) in
    let rises : Rises (mark_at k 0) (map mark_of_call own) = own_rises script t k 0 (results_at results t k) (are_calls script results suit t k) in
    let same : map mark_of_call own ≡ map mark_of_entry (filter (is_entry_of script t k) entries) =
    sym (map_twice (λ (a : Answered). mark_of a.taken) by_result own)
    ∙ ap (map (λ (a : Answered). mark_of a.taken)) (sym (replies.own t k l))
    ∙ map_twice (λ (a : Answered). mark_of a.taken) by_entry (filter (is_entry_of script t k) entries) in
    subst (λ ms. Rises (mark_at k 0) ms) same rises

-- an entry of a thread on a clean channel is the reply to a call: its result, its statement, and the copy, which is the whole block
pub record IsReplyTo (script : Script) (results : List (List (List StmtResult))) (t k : ℕ) (e : Entry) : Type 0 where
  pub place : ℕ
  pub tag : CallTag
  pub args : List Arg
  pub result_is : result_at results t k place ≡ Some (replied e.channel e.reply)
  pub statement_is : statement_at script t k place ≡ Some (statement.Call tag args)
  pub taken_is : e.taken ≡ whole (block tag args (mark_at k place))

pub entry_replies : (script : Script) (entries : List Entry) (results : List (List (List StmtResult))) → OwnReplies script entries results → ResultsSuit script results
    → (t k : ℕ) → k < thread_count (slice_get script.targets t) → (n : ℕ) (e : Entry) → slice_get entries n ≡ Some e → is_entry_of script t k e ≡ true
    → IsReplyTo script results t k e
entry_replies script entries results replies suit t k l n e h p =
    let of_entry : IsIn (by_entry e) (map by_entry (filter (is_entry_of script t k) entries)) =
    mapped by_entry (filter (is_entry_of script t k) entries) e (filtered (is_entry_of script t k) entries n e h p) in
    let of_result : IsIn (by_entry e) (map by_result (own_calls script t k (results_at results t k))) =
    subst (λ (l : List Answered). IsIn (by_entry e) l) (replies.own t k l) of_entry in
    let w = unmapped by_result (own_calls script t k (results_at results t k)) (by_entry e) of_result in
    let x = w.0 in
    let v = own_at script t k 0 (results_at results t k) x w.1 in
    let j = v.0 in
    let is = v.3 in
    let same : 0 + j ≡ j = omega arith in
    let shown : v.1 ≡ replied e.channel e.reply = is.result_is ∙ ap (λ (a : Answered). replied a.channel a.reply) w.2 in
    let got : slice_get (results_at results t k) j ≡ Some (replied e.channel e.reply) = v.2 ∙ ap Some shown in
    let calls = are_calls script results suit t k j e.channel e.reply got in
    let there : statement_at script t k j ≡ Some (statement.Call calls.0 calls.1) = subst (λ (m : ℕ). statement_at script t k m ≡ Some (statement.Call calls.0 calls.1)) same calls.2 in
    record {
      place = j;
      tag = calls.0;
      args = calls.1;
      result_is = got;
      statement_is = there;
      taken_is =
          ap (λ (a : Answered). a.taken) (sym w.2) ∙ ap whole is.block_is ∙ ap (λ (m : ℕ). whole (block_at script t k m)) same ∙ ap (λ s. whole (block_of (mark_at k j) s)) there;
    }

-- and each result that is a reply on a clean channel has its entry
pub record HasEntry (script : Script) (entries : List Entry) (t k i c : ℕ) (reply : Reply) : Type 0 where
  pub entry : Entry
  pub is_there : IsIn entry entries
  pub of_thread : is_entry_of script t k entry ≡ true
  pub on_channel : entry.channel ≡ c
  pub replied_so : entry.reply ≡ reply
  pub taken_is : entry.taken ≡ whole (block_at script t k i)

pub reply_has_entry : (script : Script) (entries : List Entry) (results : List (List (List StmtResult))) → OwnReplies script entries results
    → (t k i c : ℕ) (reply : Reply) → k < thread_count (slice_get script.targets t) → result_at results t k i ≡ Some (replied c reply)
    → is_clean (clean_channels script t) c ≡ true → HasEntry script entries t k i c reply
reply_has_entry script entries results replies t k i c reply l h g =
    let same : 0 + i ≡ i = omega arith in
    let x = own_with c (block_at script t k (0 + i)) reply in
    let of_result : IsIn (by_result x) (map by_result (own_calls script t k (results_at results t k))) =
    mapped by_result (own_calls script t k (results_at results t k)) x (own_there script t k 0 i (results_at results t k) c reply h g) in
    let of_entry : IsIn (by_result x) (map by_entry (filter (is_entry_of script t k) entries)) =
    subst (λ (l : List Answered). IsIn (by_result x) l) (sym (replies.own t k l)) of_result in
    let w = unmapped by_entry (filter (is_entry_of script t k) entries) (by_result x) of_entry in
    let v = unfiltered (is_entry_of script t k) entries w.0 w.1 in
    record {
      entry = w.0;
      is_there = v.0;
      of_thread = v.1;
      on_channel = ap (λ (a : Answered). a.channel) w.2;
      replied_so = ap (λ (a : Answered). a.reply) w.2;
      taken_is = ap (λ (a : Answered). a.taken) w.2 ∙ ap (λ (m : ℕ). whole (block_at script t k m)) same;
    }
