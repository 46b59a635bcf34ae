-- A call in plain memory makes the steps of a thread.
use Rattle.std.specs.Prelude.{nat_lt, slice_index_or}
use Rattle.std.proofs.Common.{◌≡◌, ◌∙◌, ℕ, zero, suc, ◌+◌, ◌<◌, Bool, true, false, ◌&&◌, ◌==◌, List, [], ◌∷◌, ◌++◌, length, replicate, None, Some, refl, sym, ap, subst, arith}
use Rattle.std.proofs.lemmas.Bool.{false≢true}
use Rattle.std.proofs.lemmas.Bool.Decides.{nat_tests}
use Rattle.std.proofs.lemmas.List.{get_or-replicate, length-replicate}
use Rattle.sb_block.specs.Layout.{mark_in}
use Rattle.sb_block.specs.Replies.{read_reply}
use Rattle.sb_actor.specs.Acts.{abandoned, acknowledged, busy, free}
use Rattle.sb_actor.specs.Observations.{Value}
use Rattle.sb_actor.specs.Places.{mark_at}
use Rattle.sb_actor.specs.ThreadStages.{ThreadStage, Try, Fill, Send, Wait, Fetch, Free, Abandon, Stray, Over, ThreadAt}
use Rattle.sb_actor.specs.ThreadTable.{has_clean, reply_by, thread_after, thread_plan}
use Rattle.sb_statements.specs.declared.results.StmtResult.TheVariants.{Call}
use Rattle.sb_statements.specs.declared.scripts.Script.{Script}
use Rattle.sb_host.specs.Calls.{AreNext, CallAt, CallsStepAsThreads, IsThreadOf, call_after, call_plan, is_within}

-- a thread and a call of their parts
abbrev thread : ℕ → ℕ → ℕ → ℕ → ℕ → List ℕ → ThreadStage → ThreadAt
thread t place px n p block s = record {
  target = 0;
  thread = t;
  patience = px;
  clean = replicate n (p == 0);
  place = place;
  block = block;
  stage = s;
}

abbrev call : ℕ → ℕ → List ℕ → ThreadStage → CallAt
call n p block s = record { channels = n; patience = p; block = block; stage = s; result = None }

alike : (t place px n p : ℕ) (block : List ℕ) (s : ThreadStage) → ((p == 0) ≡ false → px ≡ p) → mark_at t place ≡ mark_in block
    → IsThreadOf (thread t place px n p block s) (call n p block s)
alike t place px n p block s patient mark = record {
  target = refl;
  clean = refl;
  patience = patient;
  block = refl;
  mark = mark;
  stage = refl;
}

-- the same where it is known whether the call waits for ever
alike_if : (b : Bool) (t place px n p : ℕ) (block : List ℕ) (s : ThreadStage) → (p == 0) ≡ b → ((p == 0) ≡ false → px ≡ p) → mark_at t place ≡ mark_in block
    → IsThreadOf (record { target = 0; thread = t; patience = px; clean = replicate n b; place = place; block = block; stage = s }) (call n p block s)
alike_if b t place px n p block s z patient mark = record {
  target = refl;
  clean = ap (λ b. replicate n b) (sym z);
  patience = patient;
  block = refl;
  mark = mark;
  stage = refl;
}

-- channels that are all clean, or none
any_clean : (n : ℕ) (b : Bool) → 0 < n → has_clean (replicate n b) ≡ b
any_clean zero b h = absurd (omega (arith, h))
any_clean (suc n) true h = refl
any_clean (suc zero) false h = refl
any_clean (suc (suc n)) false h = any_clean (suc n) false (omega arith)

clean_at : (n c : ℕ) (b : Bool) → c < n → slice_index_or (replicate n b) c true ≡ b
clean_at n c b h = get_or-replicate n c b true h

is_less : (c n : ℕ) → nat_lt c n ≡ true → c < n
is_less c n h = grind (arith, nat_tests, h)

first_within : (c n : ℕ) → nat_lt c n ≡ true → nat_lt 0 n ≡ true
first_within c n h = grind (arith, nat_tests, h)

next_within : (c n : ℕ) → nat_lt c n ≡ true → (c + 1 == n) ≡ false → nat_lt (c + 1) n ≡ true
next_within c n h e = grind (arith, nat_tests, h, e)

-- what a step leads to
abbrev Next : Script → ThreadAt → CallAt → ℕ → Type 0
Next script x y found = AreNext (thread_after script x (Value found)) (call_after y found) (call_after y found).result

abbrev Goal : Script → ℕ → ℕ → ℕ → ℕ → ℕ → List ℕ → ℕ → ThreadStage → Type 0
Goal script t place px n p block found s = Next script (thread t place px n p block s) (call n p block s) found

-- a step of both, at a stage
abbrev StepsAt : ThreadStage → Type 0
StepsAt s = (script : Script) (t place px n p : ℕ) (block : List ℕ) (found : ℕ) → ((p == 0) ≡ false → px ≡ p) → mark_at t place ≡ mark_in block
    → is_within n s ≡ true → Next script (thread t place px n p block s) (call n p block s) found

tries : (c rounds : ℕ) (all_abandoned : Bool) → StepsAt (Try c rounds all_abandoned)
tries c rounds all_abandoned script t place px n p block found patient mark h = by (found == free) refl
  where
    counted : (last all : Bool) → (found == free) ≡ false → (c + 1 == length (replicate n (p == 0))) ≡ true → (c + 1 == n) ≡ true
        → (all_abandoned && found == abandoned) ≡ false → (p == 0) ≡ false → (rounds + 1 == px) ≡ last → (rounds + 1 == p) ≡ last
        → has_clean (replicate n (p == 0)) ≡ false → Goal script t place px n p block found (Try c rounds all_abandoned)
    counted true all e l l' a z r r' c' = rw (e, l, l', a, c', z, r, r') refl
    counted false all e l l' a z r r' c' =
        rw (e, l, l', a, c', z, r, r') (refl, alike_if false t place px n p block (Try 0 (rounds + 1) true) z patient mark, first_within c n h)

    patience : (z : Bool) → (found == free) ≡ false → (c + 1 == length (replicate n (p == 0))) ≡ true → (c + 1 == n) ≡ true
        → (all_abandoned && found == abandoned) ≡ false → (p == 0) ≡ z → has_clean (replicate n (p == 0)) ≡ z → Goal script t place px n p block found (Try c rounds all_abandoned)
    patience true e l l' a z c' = rw (e, l, l', a, c', z) (refl, alike_if true t place px n p block (Try 0 rounds true) z patient mark, first_within c n h)
    patience false e l l' a z c' =
        counted (rounds + 1 == p) true e l l' a z (ap (λ k. rounds + 1 == k) (patient z)) refl c'

    round : (a : Bool) → (found == free) ≡ false → (c + 1 == n) ≡ true → (all_abandoned && found == abandoned) ≡ a → Goal script t place px n p block found (Try c rounds all_abandoned)
    round true e l a = rw (e, ap (λ k. c + 1 == k) (length-replicate n (p == 0)) ∙ l, l, a) refl
    round false e l a =
        patience (p == 0) e (ap (λ k. c + 1 == k) (length-replicate n (p == 0)) ∙ l) l a refl (any_clean n (p == 0) (is_less 0 n (first_within c n h)))

    next : (l : Bool) → (found == free) ≡ false → (c + 1 == n) ≡ l → Goal script t place px n p block found (Try c rounds all_abandoned)
    next true e l = round (all_abandoned && found == abandoned) e l refl
    next false e l =
        rw (e, ap (λ k. c + 1 == k) (length-replicate n (p == 0)) ∙ l, l)
        (refl, alike t place px n p block (Try (c + 1) rounds (all_abandoned && found == abandoned)) patient mark, next_within c n h l)

    by : (b : Bool) → (found == free) ≡ b → Goal script t place px n p block found (Try c rounds all_abandoned)
    by true e = rw (e) (refl, alike t place px n p block (Fill c 0) patient mark, h)
    by false e = next (c + 1 == n) e refl

fills : (c i : ℕ) → StepsAt (Fill c i)
fills c i script t place px n p block found patient mark h = by (i + 1 == length block) refl
  where
    by : (b : Bool) → (i + 1 == length block) ≡ b → Next script (thread t place px n p block (Fill c i)) (call n p block (Fill c i)) found
    by true e = rw (e) (refl, alike t place px n p block (Send c) patient mark, h)
    by false e = rw (e) (refl, alike t place px n p block (Fill c (i + 1)) patient mark, h)

sends : (c : ℕ) → StepsAt (Send c)
sends c script t place px n p block found patient mark h = by (found == busy) refl
  where
    by : (b : Bool) → (found == busy) ≡ b → Next script (thread t place px n p block (Send c)) (call n p block (Send c)) found
    by true e = rw (e) (refl, alike t place px n p block (Wait c 0) patient mark, h)
    by false e = rw (e) refl

waits : (c loads : ℕ) → StepsAt (Wait c loads)
waits c loads script t place px n p block found patient mark h = by (found == acknowledged) refl
  where
    counted : (last : Bool) → (found == acknowledged) ≡ false → (p == 0) ≡ false → slice_index_or (replicate n (p == 0)) c true ≡ false
        → (loads + 1 == px) ≡ last → (loads + 1 == p) ≡ last → Goal script t place px n p block found (Wait c loads)
    counted true e z c' r r' = rw (e, c', z, r, r') (refl, alike_if false t place px n p block (Abandon c) z patient mark, h)
    counted false e z c' r r' = rw (e, c', z, r, r') (refl, alike_if false t place px n p block (Wait c (loads + 1)) z patient mark, h)

    patience : (z : Bool) → (found == acknowledged) ≡ false → (p == 0) ≡ z → slice_index_or (replicate n (p == 0)) c true ≡ z → Goal script t place px n p block found (Wait c loads)
    patience true e z c' = rw (e, c', z) (refl, alike_if true t place px n p block (Wait c loads) z patient mark, h)
    patience false e z c' = counted (loads + 1 == p) e z c' (ap (λ k. loads + 1 == k) (patient z)) refl

    by : (b : Bool) → (found == acknowledged) ≡ b → Goal script t place px n p block found (Wait c loads)
    by true e = rw (e) (refl, alike t place px n p block (Fetch c []) patient mark, h)
    by false e = patience (p == 0) e refl (clean_at n c (p == 0) (is_less c n h))

fetches : (c : ℕ) (words : List ℕ) → StepsAt (Fetch c words)
fetches c words script t place px n p block found patient mark h = by (length (words ++ found ∷ []) == 12) refl
  where
    by : (b : Bool) → (length (words ++ found ∷ []) == 12) ≡ b
        → Next script (thread t place px n p block (Fetch c words)) (call n p block (Fetch c words)) found
    by true e = rw (e) (refl, alike t place px n p block (Free c (words ++ found ∷ [])) patient mark, h)
    by false e = rw (e) (refl, alike t place px n p block (Fetch c (words ++ found ∷ [])) patient mark, h)

frees : (c : ℕ) (words : List ℕ) → StepsAt (Free c words)
frees c words script t place px n p block found patient mark h = ap (λ m. Some (Call (reply_by c m (read_reply words)))) mark

-- both make the same step
plans : (script : Script) (t place px n p : ℕ) (block : List ℕ) (s : ThreadStage) → is_within n s ≡ true
    → call_plan (call n p block s) ≡ thread_plan script (thread t place px n p block s)
plans script t place px n p block (Try c rounds all_abandoned) h = refl
plans script t place px n p block (Fill c i) h = refl
plans script t place px n p block (Send c) h = refl
plans script t place px n p block (Wait c loads) h = refl
plans script t place px n p block (Fetch c words) h = refl
plans script t place px n p block (Free c words) h = refl
plans script t place px n p block (Abandon c) h = refl
plans script t place px n p block (Stray loads most) h = absurd (false≢true h)
plans script t place px n p block Over h = absurd (false≢true h)

-- and go on or end alike
steps : (s : ThreadStage) → StepsAt s
steps (Try c rounds all_abandoned) = tries c rounds all_abandoned
steps (Fill c i) = fills c i
steps (Send c) = sends c
steps (Wait c loads) = waits c loads
steps (Fetch c words) = fetches c words
steps (Free c words) = frees c words
steps (Abandon c) = λ script t place px n p block found patient mark h. refl
steps (Stray loads most) = λ script t place px n p block found patient mark h. absurd (false≢true h)
steps Over = λ script t place px n p block found patient mark h. absurd (false≢true h)

-- the same of a thread and a call that are alike
both : (script : Script) (x : ThreadAt) (y : CallAt) (found : ℕ) → IsThreadOf x y → is_within y.channels y.stage ≡ true → y.result ≡ None
    → (x ≡ thread x.thread x.place x.patience y.channels y.patience y.block y.stage) × (y ≡ call y.channels y.patience y.block y.stage)
both script x y found is h none = (
  λ i. record {
    target = is.target i;
    thread = x.thread;
    patience = x.patience;
    clean = is.clean i;
    place = x.place;
    block = is.block i;
    stage = is.stage i;
  },
  λ i. record { channels = y.channels; patience = y.patience; block = y.block; stage = y.stage; result = none i },
)

pub as_threads : CallsStepAsThreads
as_threads script x y found is h none =
    let same = both script x y found is h none in
    subst (λ x'. (call_plan y ≡ thread_plan script x') × Next script x' y found) (sym same.0)
    (subst (λ y'. (call_plan y' ≡ thread_plan script (thread x.thread x.place x.patience y.channels y.patience y.block y.stage))
    × Next script (thread x.thread x.place x.patience y.channels y.patience y.block y.stage) y' found)
    (sym same.1) (
      plans script x.thread x.place x.patience y.channels y.patience y.block y.stage h,
      steps y.stage script x.thread x.place x.patience y.channels y.patience y.block found is.patience is.mark h,
    ))
