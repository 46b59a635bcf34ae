-- What the step of a thread tells of its call: a result that suits its statement, and a Reply on a clean channel exactly if the view has one more call.
use Rattle.std.proofs.Common.{◌≡◌, ◌≢◌, ◌∙◌, refl, ap, subst, sym, ℕ, zero, suc, ◌+◌, ◌<◌, ◌≤◌, Bool, true, false, ◌&&◌, ◌==◌, if◌then◌else◌, List, [], ◌∷◌, ◌++◌, length, map, Option, None, Some, IfSome, arith, ⊎_elim}
use Rattle.std.specs.Prelude.{is_none}
use Rattle.sb_core.proofs.Names.{Abandon, abandoned, and_parts, as_own, CallResult, Deed, ends, fetch, first_stage, Free, goes_on, has_clean, is_call, is_calling, is_over, IsSoundThreadStage, IsUncleanAt, mark_at, mark_in, Observation, Over, own_call, own_if, own_of, OwnCall, read_reply, Script, Send, slice_index, Statement, statement_at, StmtResult, Stray, Suits, SuitsCall, thread_after, thread_deed, thread_place_of, ThreadAt, ThreadNext, ThreadStage, value_in, Wait, Word}
use Rattle.sb_actor.specs.Moves.{ended, is_clean}
use Rattle.sb_actor.specs.Moves.{free as freed}
use Rattle.sb_actor.specs.ThreadStages.{Try, Fill, Fetch}
use Rattle.sb_statements.specs.declared.results.CallResult.TheVariants as call
use Rattle.sb_statements.specs.declared.results.StmtResult.TheVariants as result
use Rattle.sb_statements.specs.declared.statements.Statement.TheVariants as statement
use Rattle.sb_core.proofs.Settling.{none_at}
use Rattle.sb_core.proofs.Numbers.{is_same, not_same}
use Rattle.sb_core.proofs.ThreadRows.{CallRows, DirectRows, walk}

-- what the step of a thread knows of its statement and, if it found n, of its channel
abbrev pub Learns : Script → ThreadAt → ThreadStage → ℕ → Type 0
Learns script x (Try c rounds all_abandoned) n = (is_clean x.clean c ≡ true → n ≢ 5) × (all_abandoned ≡ true → (d : ℕ) → d < c → is_clean x.clean d ≡ false)
Learns script x (Send c) n = is_clean x.clean c ≡ true → n ≡ 2
Learns script x (Free c words) n = is_clean x.clean c ≡ true → slice_index words 0 ≡ mark_in x.block
Learns script x (Abandon c) n = is_clean x.clean c ≡ false
Learns script x (Stray loads most) n = (t : ℕ) (w : Word) (value limit : ℕ) → statement_at script x.target x.thread x.place ≡ Some (statement.Wait t w value limit) → most ≡ limit
Learns script x _ n = Unit {0}

-- a wait makes as many loads as its statement says
abbrev pub Waits : Script → ThreadAt → ThreadStage → Type 0
Waits script x (Stray loads most) = (t : ℕ) (w : Word) (value limit : ℕ) → statement_at script x.target x.thread x.place ≡ Some (statement.Wait t w value limit) → most ≡ limit
Waits script x _ = Unit {0}

-- the call that a stage ends with a reply on a clean channel
abbrev pub own_by : ThreadAt → ThreadStage → List OwnCall
own_by x (Free c words) = own_if (is_clean x.clean c) (record { channel = c; block = x.block; reply = read_reply words })
own_by x _ = []

-- those of a result, if there is one
abbrev pub own_in : ThreadAt → Option StmtResult → List OwnCall
own_in x None = []
own_in x (Some r) = own_of x.clean x.block r

abbrev pub SuitsStatement : Script → ThreadAt → StmtResult → Type 0
SuitsStatement script x r = (s : Statement) × (statement_at script x.target x.thread x.place ≡ Some s) × Suits x.clean (mark_at x.thread x.place) s r

pub record StepResult (script : Script) (x : ThreadAt) (stage : ThreadStage) (n : ThreadNext) : Type 0 where
  pub suits : IfSome n.ended (λ r. SuitsStatement script x r)
  pub own : own_in x n.ended ≡ own_by x stage
  pub waits : Waits script n.thread n.thread.stage

-- the view has that call too
pub ended_own : (x : ThreadAt) (stage : ThreadStage) (d : Deed) → thread_deed x.block stage ≡ Some d
    → map as_own (ended x.clean (thread_place_of x.block stage) d) ≡ own_by x stage
ended_own x (Fetch c words) d e =
    let same : fetch ≡ d = cc in
    subst (λ z. map as_own (ended x.clean (thread_place_of x.block (Fetch c words)) z) ≡ []) same refl
ended_own x (Free c words) d e =
    let same : freed ≡ d = cc in
    subst (λ z. map as_own (ended x.clean (thread_place_of x.block (Free c words)) z) ≡ own_by x (Free c words)) same (by_test (is_clean x.clean c))
  where
    by_test : (b : Bool) → map as_own (if b then record { channel = c; block = x.block; reply = words } ∷ [] else []) ≡ own_if b (record { channel = c; block = x.block; reply = read_reply words })
    by_test true = refl
    by_test false = refl
ended_own x (Stray loads most) d e = absurd (cc)
ended_own x Over d e = absurd (cc)
ended_own x _ d e = refl

-- a channel that is there and not clean
unclean_at : (clean : List Bool) (c : ℕ) → c < length clean → is_clean clean c ≡ false → IsUncleanAt clean c
unclean_at [] c l e = absurd (omega arith)
unclean_at (b ∷ clean) zero l e = e
unclean_at (b ∷ clean) (suc c) l e = unclean_at clean c (omega (arith, l)) e

-- if no channel is clean none is
pub none_clean : (clean : List Bool) → ((c : ℕ) → c < length clean → is_clean clean c ≡ false) → has_clean clean ≡ false
none_clean clean each = none_at (λ mark. mark) clean false each

unless : (b : Bool) → (b ≡ true → ⊥) → b ≡ false
unless true f = absurd (f refl)
unless false f = refl

waits_calling : (script : Script) (x : ThreadAt) (s : ThreadStage) → is_calling s ≡ true → Waits script x s
waits_calling script x (Stray loads most) e = absurd (cc)
waits_calling script x Over e = absurd (cc)
waits_calling script x _ e = tt

-- a statement begins so
pub waits_first : (script : Script) (x : ThreadAt) (o : Option Statement) → statement_at script x.target x.thread x.place ≡ o → Waits script x (first_stage o)
waits_first script x (Some (statement.Call tag args)) e = tt
waits_first script x (Some (statement.Wait t w value most)) e = λ u v a b f. cc
waits_first script x None e = tt
waits_first script x _ e = λ u v a b f. absurd (cc)

module _ (script : Script) (x : ThreadAt) where
  abbrev here : Option Statement
  here = statement_at script x.target x.thread x.place

  abbrev mark : ℕ
  mark = mark_at x.thread x.place

  -- the statement after it begins
  next_waits : (r : StmtResult) → Waits script (ends script x r).thread (ends script x r).thread.stage
  next_waits r = waits_first script (ends script x r).thread (statement_at script x.target x.thread (x.place + 1)) refl

  -- any result that suits the call
  call_suits : (o : Option Statement) → here ≡ o → is_call o ≡ true → (r : CallResult) → SuitsCall x.clean mark r → SuitsStatement script x (result.Call r)
  call_suits (Some (statement.Call tag args)) e h r s = (statement.Call tag args, e, s)
  call_suits _ e h r s = absurd (cc)

  -- a call
  module _ (calls : is_call here ≡ true) (marked : mark_in x.block ≡ mark) where
    on_goes : (stage s : ThreadStage) → is_calling s ≡ true → own_by x stage ≡ [] → StepResult script x stage (goes_on x s)
    on_goes stage s e none = record { suits = tt; own = sym none; waits = waits_calling script (goes_on x s).thread s e }

    on_ends : (stage : ThreadStage) (r : CallResult) → SuitsCall x.clean mark r → own_call x.clean x.block r ≡ own_by x stage → StepResult script x stage (ends script x (result.Call r))
    on_ends stage r s own = record { suits = call_suits here refl calls r s; own = own; waits = next_waits (result.Call r) }

    -- all channels found 5 in this round
    all_are_abandoned : (c n : ℕ) (all_abandoned : Bool) → c + 1 ≡ length x.clean → (is_clean x.clean c ≡ true → n ≢ 5) → (all_abandoned ≡ true → (d : ℕ) → d < c → is_clean x.clean d ≡ false)
        → (all_abandoned && n == abandoned) ≡ true → has_clean x.clean ≡ false
    all_are_abandoned c n all_abandoned last this below e =
        let parts = and_parts all_abandoned (n == abandoned) e in
        let five : n ≡ 5 = is_same n 5 parts.1 in
        none_clean x.clean (λ d l. by_place d (below parts.0 d) (unless (is_clean x.clean c) (λ t. this t five)) (omega (arith, l, last)))
      where
        by_place : (d : ℕ) → (d < c → is_clean x.clean d ≡ false) → is_clean x.clean c ≡ false → d ≤ c → is_clean x.clean d ≡ false
        by_place d f g l = at (d == c) refl
          where
            at : (b : Bool) → (d == c) ≡ b → is_clean x.clean d ≡ false
            at true e = subst (λ z. is_clean x.clean z ≡ false) (sym (is_same d c e)) g
            at false e = let ne = not_same d c e in f (omega (arith, ne, l))

    call_tells : CallRows script x (λ stage n next. Learns script x stage n → StepResult script x stage next)
    call_tells = record {
      took = λ c r n a w b l. on_goes (Try c r a) (Fill c 0) refl refl;
      tried = λ c r n a w p b l. on_goes (Try c r a) (Try (c + 1) r (a && n == abandoned)) refl refl;
      round = λ c r m n a w p b l. on_goes (Try c r a) (Try 0 m true) refl refl;
      none = λ c r n a e h l. on_ends (Try c r a) call.NoChannel (⊎_elim (λ all. all_are_abandoned c n a e l.0 l.1 all) (λ f. f) h) refl;
      filled = λ c i n w m l. on_goes (Fill c i) (Fill c (i + 1)) refl refl;
      whole = λ c i n w l. on_goes (Fill c i) (Send c) refl refl;
      sent = λ c n w l. on_goes (Send c) (Wait c 0) refl refl;
      lost = λ c n w e l.
          let ne = not_same n 2 e in
          on_ends (Send c) (call.SendLost c n) (unclean_at x.clean c w (unless (is_clean x.clean c) (λ t. ne (l t))), ne) refl;
      replied = λ c m n w l. on_goes (Wait c m) (Fetch c []) refl refl;
      waits_on = λ c m k n w p l. on_goes (Wait c m) (Wait c k) refl refl;
      tired = λ c m n w l. on_goes (Wait c m) (Abandon c) refl refl;
      fetched = λ c n ws w m l. on_goes (Fetch c ws) (Fetch c (ws ++ n ∷ [])) refl refl;
      read = λ c n ws w m l. on_goes (Fetch c ws) (Free c (ws ++ n ∷ [])) refl refl;
      own = λ c n ws w e m l. on_ends (Free c ws) (call.Reply c (read_reply ws)) (w, m) refl;
      foreign = λ c n ws w e m l.
          let unclean = unless (is_clean x.clean c) (λ t. m (l t ∙ marked)) in
          on_ends (Free c ws) (call.Foreign c (slice_index ws 0)) (unclean_at x.clean c w unclean, m)
          (sym (ap (λ b. own_if b (record { channel = c; block = x.block; reply = read_reply ws })) unclean));
      given_up = λ c n w l. on_ends (Abandon c) (call.TimedOut c) (unclean_at x.clean c w l) refl;
    }

  -- a statement that names a word
  stray_ends : (loads most : ℕ) (r : StmtResult) → SuitsStatement script x r → own_of x.clean x.block r ≡ [] → StepResult script x (Stray loads most) (ends script x r)
  stray_ends loads most r s own = record { suits = s; own = own; waits = next_waits r }

  direct_tells : DirectRows script x (λ stage n next. Learns script x stage n → StepResult script x stage next)
  direct_tells = record {
    store_ends = λ loads most n t w v e l. stray_ends loads most result.Stored (statement.Store t w v, e, tt) refl;
    exchange_ends = λ loads most n t w from to e l. stray_ends loads most (result.Found n) (statement.Exchange t w from to, e, tt) refl;
    load_ends = λ loads most n t w e l. stray_ends loads most (result.Found n) (statement.Load t w, e, tt) refl;
    met = λ loads most n t w v k e low l.
        let same = l t w v k e in
        stray_ends loads most (result.Met (loads + 1)) (statement.Wait t w v k, e, (omega arith, omega (arith, low, same))) refl;
    unmet = λ loads most n t w v k e last l. stray_ends loads most (result.Unmet most) (statement.Wait t w v k, e, l t w v k e) refl;
    again = λ loads most n t w v k e low l. record { suits = tt; own = refl; waits = l };
  }

  -- every step
  pub step_tells : (is_call here ≡ true → mark_in x.block ≡ mark) → Waits script x x.stage → IsSoundThreadStage (length x.clean) x.patience x.block x.stage → is_calling x.stage ≡ is_call here
      → is_over x.stage ≡ is_none here → (seen : Observation) → Learns script x x.stage (value_in seen) → StepResult script x x.stage (thread_after script x seen)
  step_tells marked wait s calls over seen l =
      walk script x (λ stage n next. Learns script x stage n → StepResult script x stage next) (λ c. call_tells c (marked c)) direct_tells
      (λ n l. record { suits = tt; own = refl; waits = wait }) x.stage s calls over seen l
