-- The one walk over the rows of a thread's table: each case of a row, with what the numbers of its stage and its tests say. What holds in each case holds of
-- every step of a thread.
use Rattle.std.proofs.Common.{◌≡◌, refl, sym, ℕ, ◌+◌, ◌<◌, Bool, true, false, ◌&&◌, ◌==◌, if◌then◌else◌, [], ◌∷◌, ◌++◌, length, length-append, Option, Some, arith, ◌≢◌, ◌⊎◌, inl, inr, List}
use Rattle.std.specs.Prelude.{is_none}
use Rattle.sb_core.proofs.Names.{Abandon, abandoned, acknowledged, after_round, busy, ends, Free, goes_on, has_clean, is_call, is_calling, is_clean_at, is_over, is_result_of, IsSoundThreadStage, mark_at, Observation, Over, read_reply, Script, Send, slice_index, Statement, statement_at, stays, StmtResult, Stray, stray_row, thread_row, ThreadAt, ThreadNext, ThreadStage, value_in, Wait, Word}
use Rattle.sb_actor.specs.Acts.{free}
use Rattle.sb_actor.specs.ThreadStages.{Try, Fill, Fetch}
use Rattle.sb_statements.specs.declared.results.CallResult.TheVariants as call
use Rattle.sb_statements.specs.declared.results.StmtResult.TheVariants as result
use Rattle.sb_statements.specs.declared.statements.Statement.TheVariants as statement
use Rattle.sb_core.proofs.Numbers.{is_same, not_same}

-- a choice
pub pick : (P : ThreadNext → Type 0) (b : Bool) (x y : ThreadNext) → (b ≡ true → P x) → (b ≡ false → P y) → P (if b then x else y)
pick P true x y f g = f refl
pick P false x y f g = g refl

-- of two stages at which the statement goes on
pub pick_stage : (P : ThreadNext → Type 0) (at : ThreadAt) (b : Bool) (s u : ThreadStage) → (b ≡ true → P (goes_on at s)) → (b ≡ false → P (goes_on at u))
    → P (goes_on at (if b then s else u))
pick_stage P at true s u f g = f refl
pick_stage P at false s u f g = g refl

-- the result is one of the thread's present statement
abbrev pub IsOwnResult : Script → ThreadAt → StmtResult → Type 0
IsOwnResult script x r = (s : Statement) × (statement_at script x.target x.thread x.place ≡ Some s) × (is_result_of s r ≡ true)

module _ (script : Script) (x : ThreadAt) (P : ThreadStage → ℕ → ThreadNext → Type 0) where
  abbrev here : Option Statement
  here = statement_at script x.target x.thread x.place

  abbrev count : ℕ
  count = length x.clean

  -- the cases of a call: the stage, the value that its step found, and what it leads to
  pub record CallRows : Type 0 where
    pub took : (c rounds n : ℕ) (all : Bool) → c < count → 0 < length x.block → P (Try c rounds all) n (goes_on x (Fill c 0))
    pub tried : (c rounds n : ℕ) (all : Bool) → c + 1 < count → rounds < x.patience → 0 < length x.block → P (Try c rounds all) n (goes_on x (Try (c + 1) rounds (all && n == abandoned)))
    pub round : (c rounds next n : ℕ) (all : Bool) → 0 < count → next < x.patience → 0 < length x.block → P (Try c rounds all) n (goes_on x (Try 0 next true))
    pub none : (c rounds n : ℕ) (all : Bool) → c + 1 ≡ count → ((all && n == abandoned) ≡ true) ⊎ (has_clean x.clean ≡ false) → P (Try c rounds all) n (ends script x (result.Call call.NoChannel))
    pub filled : (c i n : ℕ) → c < count → i + 1 < length x.block → P (Fill c i) n (goes_on x (Fill c (i + 1)))
    pub whole : (c i n : ℕ) → c < count → P (Fill c i) n (goes_on x (Send c))
    pub sent : (c n : ℕ) → c < count → P (Send c) n (goes_on x (Wait c 0))
    pub lost : (c n : ℕ) → c < count → (n == busy) ≡ false → P (Send c) n (ends script x (result.Call (call.SendLost c n)))
    pub replied : (c loads n : ℕ) → c < count → P (Wait c loads) n (goes_on x (Fetch c []))
    pub waits_on : (c loads more n : ℕ) → c < count → more < x.patience → P (Wait c loads) n (goes_on x (Wait c more))
    pub tired : (c loads n : ℕ) → c < count → P (Wait c loads) n (goes_on x (Abandon c))
    pub fetched : (c n : ℕ) (words : List ℕ) → c < count → length (words ++ n ∷ []) < 12 → P (Fetch c words) n (goes_on x (Fetch c (words ++ n ∷ [])))
    pub read : (c n : ℕ) (words : List ℕ) → c < count → length (words ++ n ∷ []) ≡ 12 → P (Fetch c words) n (goes_on x (Free c (words ++ n ∷ [])))
    pub own : (c n : ℕ) (words : List ℕ) → c < count → length words ≡ 12 → slice_index words 0 ≡ mark_at x.thread x.place
        → P (Free c words) n (ends script x (result.Call (call.Reply c (read_reply words))))
    pub foreign : (c n : ℕ) (words : List ℕ) → c < count → length words ≡ 12 → slice_index words 0 ≢ mark_at x.thread x.place
        → P (Free c words) n (ends script x (result.Call (call.Foreign c (slice_index words 0))))
    pub given_up : (c n : ℕ) → c < count → P (Abandon c) n (ends script x (result.Call (call.TimedOut c)))

  -- and of a statement that names a word
  pub record DirectRows : Type 0 where
    pub store_ends : (loads most n t : ℕ) (word : Word) (value : ℕ) → here ≡ Some (statement.Store t word value) → P (Stray loads most) n (ends script x result.Stored)
    pub exchange_ends : (loads most n t : ℕ) (word : Word) (from to : ℕ) → here ≡ Some (statement.Exchange t word from to) → P (Stray loads most) n (ends script x (result.Found n))
    pub load_ends : (loads most n t : ℕ) (word : Word) → here ≡ Some (statement.Load t word) → P (Stray loads most) n (ends script x (result.Found n))
    pub met : (loads most n t : ℕ) (word : Word) (value limit : ℕ) → here ≡ Some (statement.Wait t word value limit) → loads < most → P (Stray loads most) n (ends script x (result.Met (loads + 1)))
    pub unmet : (loads most n t : ℕ) (word : Word) (value limit : ℕ) → here ≡ Some (statement.Wait t word value limit) → loads + 1 ≡ most → P (Stray loads most) n (ends script x (result.Unmet most))
    pub again : (loads most n t : ℕ) (word : Word) (value limit : ℕ) → here ≡ Some (statement.Wait t word value limit) → loads + 1 < most → P (Stray loads most) n (goes_on x (Stray (loads + 1) most))

  module _ (rows : CallRows) where
    round_row : (c rounds n : ℕ) (all : Bool) → c + 1 ≡ count → rounds < x.patience → 0 < length x.block → P (Try c rounds all) n (after_round script x rounds (all && n == abandoned))
    round_row c rounds n all last low block =
        pick (P (Try c rounds all) n) (all && n == abandoned) (ends script x (result.Call call.NoChannel))
        (if has_clean x.clean then goes_on x (Try 0 rounds true) else (if rounds + 1 == x.patience then ends script x (result.Call call.NoChannel) else goes_on x (Try 0 (rounds + 1) true)))
        (λ e. rows.none c rounds n all last (inl e))
        (λ e. pick (P (Try c rounds all) n) (has_clean x.clean) (goes_on x (Try 0 rounds true))
        (if rounds + 1 == x.patience then ends script x (result.Call call.NoChannel) else goes_on x (Try 0 (rounds + 1) true))
        (λ f. rows.round c rounds rounds n all (omega (arith, last)) low block)
        (λ f. pick (P (Try c rounds all) n) (rounds + 1 == x.patience) (ends script x (result.Call call.NoChannel)) (goes_on x (Try 0 (rounds + 1) true))
        (λ g. rows.none c rounds n all last (inr f))
        (λ g. let ne = not_same (rounds + 1) x.patience g in rows.round c rounds (rounds + 1) n all (omega (arith, last)) (omega (arith, ne, low)) block)))

    reply_row : (c n : ℕ) (words : List ℕ) → c < count → length words ≡ 12 → (b : Bool) → (slice_index words 0 == mark_at x.thread x.place) ≡ b
        → P (Free c words) n (ends script x (result.Call (if b then call.Reply c (read_reply words) else call.Foreign c (slice_index words 0))))
    reply_row c n words w e true f = rows.own c n words w e (is_same (slice_index words 0) (mark_at x.thread x.place) f)
    reply_row c n words w e false f = rows.foreign c n words w e (not_same (slice_index words 0) (mark_at x.thread x.place) f)

    pub call_row : (stage : ThreadStage) → IsSoundThreadStage count x.patience x.block stage → is_calling stage ≡ true → (seen : Observation)
        → P stage (value_in seen) ((thread_row script x stage).next seen)
    call_row (Try c rounds all) s h seen =
        let n = value_in seen in
        let within = s.0 in
        pick (P (Try c rounds all) n) (n == free) (goes_on x (Fill c 0))
        (if c + 1 == count then after_round script x rounds (all && n == abandoned) else goes_on x (Try (c + 1) rounds (all && n == abandoned)))
        (λ e. rows.took c rounds n all s.0 s.2)
        (λ e. pick (P (Try c rounds all) n) (c + 1 == count) (after_round script x rounds (all && n == abandoned)) (goes_on x (Try (c + 1) rounds (all && n == abandoned)))
        (λ f. round_row c rounds n all (is_same (c + 1) count f) s.1 s.2)
        (λ f. let ne = not_same (c + 1) count f in rows.tried c rounds n all (omega (arith, ne, within)) s.1 s.2))
    call_row (Fill c i) s h seen =
        let low = s.1 in
        pick_stage (P (Fill c i) (value_in seen)) x (i + 1 == length x.block) (Send c) (Fill c (i + 1)) (λ e. rows.whole c i (value_in seen) s.0)
        (λ e. let ne = not_same (i + 1) (length x.block) e in rows.filled c i (value_in seen) s.0 (omega (arith, ne, low)))
    call_row (Send c) s h seen =
        pick (P (Send c) (value_in seen)) (value_in seen == busy) (goes_on x (Wait c 0)) (ends script x (result.Call (call.SendLost c (value_in seen))))
        (λ e. rows.sent c (value_in seen) s) (λ e. rows.lost c (value_in seen) s e)
    call_row (Wait c loads) s h seen =
        let n = value_in seen in
        let low = s.1 in
        pick_stage (P (Wait c loads) n) x (n == acknowledged) (Fetch c []) (if is_clean_at x c then Wait c loads else (if loads + 1 == x.patience then Abandon c else Wait c (loads + 1)))
        (λ e. rows.replied c loads n s.0)
        (λ e. pick_stage (P (Wait c loads) n) x (is_clean_at x c) (Wait c loads) (if loads + 1 == x.patience then Abandon c else Wait c (loads + 1))
        (λ f. rows.waits_on c loads loads n s.0 s.1)
        (λ f. pick_stage (P (Wait c loads) n) x (loads + 1 == x.patience) (Abandon c) (Wait c (loads + 1)) (λ g. rows.tired c loads n s.0)
        (λ g. let ne = not_same (loads + 1) x.patience g in rows.waits_on c loads (loads + 1) n s.0 (omega (arith, ne, low)))))
    call_row (Fetch c words) s h seen =
        let n = value_in seen in
        let low = s.1 in
        let longer = length-append words (n ∷ []) in
        pick_stage (P (Fetch c words) n) x (length (words ++ n ∷ []) == 12) (Free c (words ++ n ∷ [])) (Fetch c (words ++ n ∷ []))
        (λ e. rows.read c n words s.0 (is_same (length (words ++ n ∷ [])) 12 e))
        (λ e. let ne = not_same (length (words ++ n ∷ [])) 12 e in rows.fetched c n words s.0 (omega (arith, ne, low, longer)))
    call_row (Free c words) s h seen = reply_row c (value_in seen) words s.0 s.1 (slice_index words 0 == mark_at x.thread x.place) refl
    call_row (Abandon c) s h seen = rows.given_up c (value_in seen) s
    call_row _ s h seen = absurd (cc)

  direct_row : DirectRows → (o : Option Statement) → here ≡ o → is_call o ≡ false → is_none o ≡ false → (loads most : ℕ) → loads < most → (seen : Observation)
      → P (Stray loads most) (value_in seen) ((stray_row script x loads most o).next seen)
  direct_row rows (Some (statement.Store t word value)) e h k loads most low seen = rows.store_ends loads most (value_in seen) t word value e
  direct_row rows (Some (statement.Exchange t word from to)) e h k loads most low seen = rows.exchange_ends loads most (value_in seen) t word from to e
  direct_row rows (Some (statement.Load t word)) e h k loads most low seen = rows.load_ends loads most (value_in seen) t word e
  direct_row rows (Some (statement.Wait t word value limit)) e h k loads most low seen =
      let n = value_in seen in
      pick (P (Stray loads most) n) (n == value) (ends script x (result.Met (loads + 1))) (if loads + 1 == most then ends script x (result.Unmet most) else goes_on x (Stray (loads + 1) most))
      (λ f. rows.met loads most n t word value limit e low)
      (λ f. pick (P (Stray loads most) n) (loads + 1 == most) (ends script x (result.Unmet most)) (goes_on x (Stray (loads + 1) most))
      (λ g. rows.unmet loads most n t word value limit e (is_same (loads + 1) most g))
      (λ g. let ne = not_same (loads + 1) most g in rows.again loads most n t word value limit e (omega (arith, ne, low))))
  direct_row rows _ e h k loads most low seen = absurd (cc)

  -- every step of a thread whose stage is sound and one of its statement
  pub walk : (is_call here ≡ true → CallRows) → DirectRows → ((n : ℕ) → P Over n (stays x)) → (stage : ThreadStage) → IsSoundThreadStage count x.patience x.block stage
      → is_calling stage ≡ is_call here → is_over stage ≡ is_none here → (seen : Observation) → P stage (value_in seen) ((thread_row script x stage).next seen)
  walk call direct still (Stray loads most) s calls over seen = direct_row direct here refl (sym calls) (sym over) loads most s seen
  walk call direct still Over s calls over seen = still (value_in seen)
  walk call direct still stage s calls over seen = call_row (call (sym calls)) stage s refl seen
