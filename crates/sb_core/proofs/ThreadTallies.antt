-- A step of a thread that makes a channel ready is counted.
use Rattle.std.proofs.Common.{◌≡◌, refl, ap, ℕ, ◌+◌, ◌≤◌, Bool, true, false, ◌&&◌, ◌==◌, if◌then◌else◌, List, [], ◌∷◌, ◌++◌, length, Option, None, Some, lit≤, arith}
use Rattle.sb_core.proofs.Names.{Abandon, abandoned, Act, ends, ends_on, Free, goes_on, has_sent, is_state, IsSoundThreadStage, nat_tests, Observation, one_if, option_to_list, Over, read_reply, Script, Send, slice_index, Statement, statement_at, StmtResult, Stray, stray_row, tally_from, tally_of, thread_plan, thread_row, ThreadAt, ThreadNext, ThreadStage, value_in, Wait}
use Rattle.sb_actor.specs.ThreadStages.{Try, Fill, Fetch}
use Rattle.sb_actor.specs.declared.acts.Act.TheVariants as act
use Rattle.sb_statements.specs.declared.results.CallResult.TheVariants as call
use Rattle.sb_statements.specs.declared.results.StmtResult.TheVariants as result
use Rattle.sb_statements.specs.declared.statements.Statement.TheVariants as statement
use Rattle.sb_core.proofs.ThreadRows.{CallRows, call_row}

-- a step that found n made the channel ready
abbrev pub readies : ℕ → ℕ → Act → ℕ → Bool
readies t c (act.Store u word value) n = is_state t c u word && value == 3
readies t c (act.Exchange u word from to) n = is_state t c u word && (n == from && to == 3)
readies t c _ n = false

-- what a result adds
abbrev pub tally_in : ℕ → ℕ → ℕ → Option Statement → Option StmtResult → ℕ
tally_in t c u o None = 0
tally_in t c u o (Some r) = tally_of t c u o r

-- before and after a step
abbrev pub IsCounted : Script → ℕ → ℕ → ThreadAt → ThreadStage → ℕ → ThreadNext → Type 0
IsCounted script t c x stage rise n =
    one_if (x.target == t && has_sent c stage) + rise
    ≤ one_if (x.target == t && has_sent c n.thread.stage) + tally_in t c x.target (statement_at script x.target x.thread x.place) n.ended

and_none : (a : Bool) → (a && false) ≡ false
and_none true = refl
and_none false = refl

no_rise : (a b : Bool) → b ≡ false → one_if (a && b) ≡ 0
no_rise true b e = ap one_if e
no_rise false b e = refl

none_sent : (a : Bool) → one_if (a && false) ≡ 0
none_sent true = refl
none_sent false = refl

-- tests of a step on a state word
send_rise : (a b e : Bool) → one_if ((a && (b && true)) && (e && true)) ≤ one_if (a && b)
send_rise true true true = lit≤ tt
send_rise true true false = lit≤ tt
send_rise true false e = lit≤ tt
send_rise false b e = lit≤ tt

state_none : (a b f : Bool) → f ≡ false → one_if ((a && (b && true)) && f) ≡ 0
state_none true true f e = ap one_if e
state_none true false f e = refl
state_none false b f e = refl

block_none : (a b d f : Bool) → d ≡ false → one_if ((a && (b && d)) && f) ≡ 0
block_none true true d f e = ap (λ z. one_if (z && f)) e
block_none true false d f e = refl
block_none false b d f e = refl

later_word : (i : ℕ) → (1 + i == 0) ≡ false
later_word i = grind (arith, nat_tests)

module _ (script : Script) (t c : ℕ) (x : ThreadAt) where
  abbrev mine : Bool
  mine = x.target == t

  abbrev here : Option Statement
  here = statement_at script x.target x.thread x.place

  -- nothing was there before
  any : (stage : ThreadStage) (rise : ℕ) (n : ThreadNext) → has_sent c stage ≡ false → rise ≡ 0 → IsCounted script t c x stage rise n
  any stage rise n e f =
      let zero_sent : one_if (mine && has_sent c stage) ≡ 0 = no_rise mine (has_sent c stage) e in
      omega (arith, zero_sent, f)

  -- the block stays handed over
  stays_sent : (stage s : ThreadStage) (rise : ℕ) → has_sent c stage ≡ has_sent c s → rise ≡ 0 → IsCounted script t c x stage rise (goes_on x s)
  stays_sent stage s rise e f =
      let same : one_if (mine && has_sent c stage) ≡ one_if (mine && has_sent c s) = ap (λ b. one_if (mine && b)) e in
      omega (arith, same, f)

  -- a call that ends
  ends_sent : (stage : ThreadStage) (rise : ℕ) (r : StmtResult) → has_sent c stage ≡ ends_on c r → rise ≡ 0 → IsCounted script t c x stage rise (ends script x r)
  ends_sent stage rise r e f =
      let same : one_if (mine && has_sent c stage) ≡ one_if (mine && ends_on c r) = ap (λ b. one_if (mine && b)) e in
      omega (arith, same, f)

  -- what a step counts
  abbrev Step : ThreadStage → ℕ → ThreadNext → Type 0
  Step stage n next = IsCounted script t c x stage (one_if (readies t c (thread_plan script (record x { stage = stage })) n)) next

  tries : (d rounds n : ℕ) (all : Bool) (next : ThreadNext) → Step (Try d rounds all) n next
  tries d rounds n all next = any (Try d rounds all) _ next refl (state_none mine (d == c) (n == 1 && false) (and_none (n == 1)))

  fills : (d i n : ℕ) (next : ThreadNext) → Step (Fill d i) n next
  fills d i n next = any (Fill d i) _ next refl (block_none mine (d == c) (1 + i == 0) _ (later_word i))

  call_counted : CallRows script x Step
  call_counted = record {
    took = λ d r n a w b. tries d r n a (goes_on x (Fill d 0));
    tried = λ d r n a w p b. tries d r n a (goes_on x (Try (d + 1) r (a && n == abandoned)));
    round = λ d r m n a w p b. tries d r n a (goes_on x (Try 0 m true));
    none = λ d r n a e h. tries d r n a (ends script x (result.Call call.NoChannel));
    filled = λ d i n w l. fills d i n (goes_on x (Fill d (i + 1)));
    whole = λ d i n w. fills d i n (goes_on x (Send d));
    sent = λ d n w.
        let low = send_rise mine (d == c) (n == 2) in
        let zero_sent = none_sent mine in
        omega (arith, low, zero_sent);
    lost = λ d n w e.
        let zero_sent = none_sent mine in
        let zero_rise : one_if ((mine && (d == c && true)) && (n == 2 && true)) ≡ 0 = state_none mine (d == c) (n == 2 && true) (ap (λ b. b && true) e) in
        omega (arith, zero_sent, zero_rise);
    replied = λ d l n w. stays_sent (Wait d l) (Fetch d []) 0 refl refl;
    waits_on = λ d l m n w p. stays_sent (Wait d l) (Wait d m) 0 refl refl;
    tired = λ d l n w. stays_sent (Wait d l) (Abandon d) 0 refl refl;
    fetched = λ d n ws w l. stays_sent (Fetch d ws) (Fetch d (ws ++ n ∷ [])) 0 refl refl;
    read = λ d n ws w e. stays_sent (Fetch d ws) (Free d (ws ++ n ∷ [])) 0 refl refl;
    own = λ d n ws w e m. ends_sent (Free d ws) _ (result.Call (call.Reply d (read_reply ws))) refl (state_none mine (d == c) false refl);
    foreign = λ d n ws w e m. ends_sent (Free d ws) _ (result.Call (call.Foreign d (slice_index ws 0))) refl (state_none mine (d == c) false refl);
    given_up = λ d n w. ends_sent (Abandon d) _ (result.Call (call.TimedOut d)) refl (state_none mine (d == c) false refl);
  }

  -- a statement that names a word
  stray_counted : (y : ThreadAt) (loads most : ℕ) (o : Option Statement) → here ≡ o → (seen : Observation) → has_sent c y.stage ≡ false
      → one_if (x.target == t && has_sent c (Stray loads most)) + one_if (readies t c (stray_row script y loads most o).step (value_in seen))
      ≤ one_if (x.target == t && has_sent c ((stray_row script x loads most o).next seen).thread.stage) + tally_in t c x.target o ((stray_row script x loads most o).next seen).ended
  stray_counted y loads most (Some (statement.Call tag args)) e seen f = let zero_sent = none_sent mine in omega (arith, zero_sent)
  stray_counted y loads most _ e seen f = let zero_sent = none_sent mine in omega (arith, zero_sent)

  -- each row
  pub row_counted : (stage : ThreadStage) → IsSoundThreadStage (length x.clean) x.patience x.block stage → (seen : Observation) → Step stage (value_in seen) ((thread_row script x stage).next seen)
  row_counted (Stray loads most) s seen = stray_counted (record x { stage = Stray loads most }) loads most here refl seen refl
  row_counted Over s seen = let zero_sent = none_sent mine in omega (arith, zero_sent)
  row_counted stage s seen = call_row script x Step call_counted stage s refl seen

-- the tally of results with one more
pub tally_more : (script : Script) (t c u k i j : ℕ) (results : List StmtResult) (o : Option StmtResult) → j ≡ i + length results
    → tally_from script t c u k i (results ++ option_to_list o) ≡ tally_from script t c u k i results + tally_in t c u (statement_at script u k j) o
tally_more script t c u k i j [] None e = refl
tally_more script t c u k i j [] (Some r) e =
    let same : i ≡ j = omega (arith, e) in
    let one = ap (λ z. tally_of t c u (statement_at script u k z) r) same in
    omega (arith, one)
tally_more script t c u k i j (q ∷ results) o e =
    let rest = tally_more script t c u k (i + 1) j results o (omega (arith, e)) in
    omega (arith, rest)
