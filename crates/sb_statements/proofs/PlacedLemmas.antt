-- What the statements of a sound script are, one after another.
use Rattle.std.proofs.Common.{◌≡◌, refl, ap, sym, ◌∙◌, subst, get_or, ◌<◌, ◌≤◌, ◌+◌, ◌-◌, ◌*◌, ℕ, zero, suc, List, [], ◌∷◌, ◌++◌, append_assoc, Bool, true, ◌&&◌, ◌||◌, length, drop, arith}
use Rattle.std.proofs.lemmas.Bool.{and_parts, and_from, lt-ltb}
use Rattle.std.proofs.lemmas.Bool.Decides.{nat_tests}
use Rattle.std.proofs.lemmas.List.{length-append}
use Rattle.std.proofs.lemmas.List.Folds.{list_all-append, list_any-append}
use Rattle.std.proofs.lemmas.Option.{slice_get_within}
use Rattle.std.specs.Prelude.{nat_le, nat_lt, None, Some, slice_get}
use Rattle.std.specs.List.{list_all, list_any}
use Rattle.sb_statements.specs.CleanTables.{some_writes}
use Rattle.sb_statements.specs.PlacedStatements.{Placed, PlacedStatementsAreSound, is_short_target, is_short_thread, is_sound_in, placed_in_targets, placed_in_thread, placed_in_threads, placed_statements}
use Rattle.sb_statements.specs.Scripts.{threads_write, writes_channel}
use Rattle.sb_statements.specs.Soundness.{is_sound, is_statement, is_target, is_thread}
use Rattle.sb_statements.specs.Units.{statement_has_units, target_has_units, thread_has_units}
use Rattle.sb_statements.specs.declared.scripts.Script.{Script}
use Rattle.sb_statements.specs.declared.scripts.TargetScript.{TargetScript}
use Rattle.sb_statements.specs.declared.statements.Statement.{Statement}
use Rattle.sb_statements.proofs.Bounds.{few_targets}
use Rattle.sb_statements.proofs.SoundLemmas.{all_statements, all_targets, all_threads}

-- ---- threads and targets are short

all_by : {X : Type 0} (p q : X → Bool) → ((x : X) → p x ≡ true → q x ≡ true) → (xs : List X) → list_all p xs ≡ true → list_all q xs ≡ true
all_by p q f [] h = refl
all_by p q f (x ∷ xs) h =
    let parts = and_parts (p x) (list_all p xs) h in
    and_from (q x) (list_all q xs) (f x parts.0) (all_by p q f xs parts.1)

short_thread : (targets : List TargetScript) (ss : List Statement) → is_thread targets ss ≡ true → is_short_thread ss ≡ true
short_thread targets ss h = (and_parts (nat_le (length ss) 4096) (list_all (is_statement targets) ss) h).0

short_target : (targets : List TargetScript) (target : TargetScript) → is_target targets target ≡ true → is_short_target target ≡ true
short_target targets target h =
    let few = nat_le (length target.threads) 4 in
    let some = nat_le 1 target.channels && nat_le target.channels 8 in
    let all = and_parts (some && few) (list_all (is_thread targets) target.threads) h in
    let low = (and_parts some few all.0).1 in
    and_from few (list_all is_short_thread target.threads) low (all_by (is_thread targets) is_short_thread (short_thread targets) target.threads all.1)

pub few_and_short : (script : Script) → is_sound script ≡ true → (length script.targets ≤ 8) × (list_all is_short_target script.targets ≡ true)
few_and_short script h =
    (few_targets script h, all_by (is_target script.targets) is_short_target (short_target script.targets) script.targets (all_targets script h))

-- ---- each statement is sound

both : (a b : Bool) → a ≡ true → b ≡ true → (a && b) ≡ true
both = and_from

module _ (targets : List TargetScript) where
  thread_sound : (t k i : ℕ) (ss : List Statement) → nat_lt t (length targets) ≡ true → list_all (is_statement targets) ss ≡ true → thread_has_units ss ≡ true
      → list_all (is_sound_in targets) (placed_in_thread t k i ss) ≡ true
  thread_sound t k i [] low h u = refl
  thread_sound t k i (s ∷ ss) low h u =
      let there = nat_lt t (length targets) in
      let sound = and_parts (is_statement targets s) (list_all (is_statement targets) ss) h in
      let units = and_parts (statement_has_units s) (thread_has_units ss) u in
      let first = both (there && is_statement targets s) (statement_has_units s) (both there (is_statement targets s) low sound.0) units.0 in
      both (there && is_statement targets s && statement_has_units s) (list_all (is_sound_in targets) (placed_in_thread t k (i + 1) ss)) first
      (thread_sound t k (i + 1) ss low sound.1 units.1)

  threads_sound : (t k : ℕ) (threads : List (List Statement)) → nat_lt t (length targets) ≡ true → list_all (is_thread targets) threads ≡ true
      → list_all thread_has_units threads ≡ true → list_all (is_sound_in targets) (placed_in_threads t k threads) ≡ true
  threads_sound t k [] low h u = refl
  threads_sound t k (ss ∷ more) low h u =
      let sound = and_parts (is_thread targets ss) (list_all (is_thread targets) more) h in
      let units = and_parts (thread_has_units ss) (list_all thread_has_units more) u in
      let first = thread_sound t k 0 ss low (all_statements targets ss sound.0) units.0 in
      let rest = threads_sound t (k + 1) more low sound.1 units.1 in
      list_all-append (is_sound_in targets) (placed_in_thread t k 0 ss) (placed_in_threads t (k + 1) more)
      ∙ both (list_all (is_sound_in targets) (placed_in_thread t k 0 ss)) (list_all (is_sound_in targets) (placed_in_threads t (k + 1) more)) first rest

  targets_sound : (t : ℕ) (ts : List TargetScript) → t + length ts ≤ length targets → list_all (is_target targets) ts ≡ true
      → list_all target_has_units ts ≡ true → list_all (is_sound_in targets) (placed_in_targets t ts) ≡ true
  targets_sound t [] low h u = refl
  targets_sound t (x ∷ ts) low h u =
      let sound = and_parts (is_target targets x) (list_all (is_target targets) ts) h in
      let units = and_parts (target_has_units x) (list_all target_has_units ts) u in
      let first = threads_sound t 0 x.threads (lt-ltb t (length targets) (omega (arith, low))) (all_threads targets x sound.0) units.0 in
      let rest = targets_sound (t + 1) ts (omega (arith, low)) sound.1 units.1 in
      list_all-append (is_sound_in targets) (placed_in_threads t 0 x.threads) (placed_in_targets (t + 1) ts)
      ∙ both (list_all (is_sound_in targets) (placed_in_threads t 0 x.threads)) (list_all (is_sound_in targets) (placed_in_targets (t + 1) ts)) first rest

pub placed_sound : PlacedStatementsAreSound
placed_sound script h u = targets_sound script.targets 0 script.targets (omega arith) (all_targets script h) u

-- ---- statement n

abbrev at : ℕ → ℕ → ℕ → Statement → Placed
at t k i s = record { target = t; thread = k; place = i; statement = s }

-- the same place under another name
moved : (xs : List Placed) (n t k p q : ℕ) (s : Statement) → p ≡ q → slice_get xs n ≡ Some (at t k p s) → slice_get xs n ≡ Some (at t k q s)
moved xs n t k p q s e h = subst (λ r. slice_get xs n ≡ Some (at t k r s)) e h

in_thread : (t k i n : ℕ) (ss : List Statement) (s : Statement) (rest : List Placed) → n < length ss → s ≡ get_or ss n s
    → slice_get (placed_in_thread t k i ss ++ rest) n ≡ Some (at t k (i + n) s)
in_thread t k i n [] s rest low e = absurd (omega (arith, low))
in_thread t k i zero (x ∷ ss) s rest low e =
    moved (placed_in_thread t k i (x ∷ ss) ++ rest) 0 t k i (i + 0) s (omega arith) (ap (λ y. Some (at t k i y)) (sym e))
in_thread t k i (suc n) (x ∷ ss) s rest low e =
    moved (placed_in_thread t k (i + 1) ss ++ rest) n t k ((i + 1) + n) (i + suc n) s (omega arith) (in_thread t k (i + 1) n ss s rest (omega (arith, low)) e)

after_thread : (t k i n : ℕ) (ss : List Statement) (rest : List Placed) → length ss ≤ n
    → slice_get (placed_in_thread t k i ss ++ rest) n ≡ slice_get rest (n - length ss)
after_thread t k i n [] rest h = ap (slice_get rest) (omega arith)
after_thread t k i zero (x ∷ ss) rest h = absurd (omega (arith, h))
after_thread t k i (suc n) (x ∷ ss) rest h =
    let e = after_thread t k (i + 1) n ss rest (omega (arith, h)) in
    let same : n - length ss ≡ suc n - length (x ∷ ss) = omega arith in
    subst (λ m. slice_get (placed_in_thread t k (i + 1) ss ++ rest) n ≡ slice_get rest m) same e

pub here : (t k n : ℕ) (ss : List Statement) (more : List (List Statement)) (s : Statement) (rest : List Placed) → n < length ss → s ≡ get_or ss n s
    → slice_get (placed_in_threads t k (ss ∷ more) ++ rest) n ≡ Some (at t k n s)
here t k n ss more s rest low e =
    let tail = placed_in_threads t (k + 1) more ++ rest in
    ap (λ ps. slice_get ps n) (append_assoc (placed_in_thread t k 0 ss) (placed_in_threads t (k + 1) more) rest)
    ∙ moved (placed_in_thread t k 0 ss ++ tail) n t k (0 + n) n s (omega arith) (in_thread t k 0 n ss s tail low e)

pub later : (t k n : ℕ) (ss : List Statement) (more : List (List Statement)) (rest : List Placed) → length ss ≤ n
    → slice_get (placed_in_threads t k (ss ∷ more) ++ rest) n ≡ slice_get (placed_in_threads t (k + 1) more ++ rest) (n - length ss)
later t k n ss more rest h =
    ap (λ ps. slice_get ps n) (append_assoc (placed_in_thread t k 0 ss) (placed_in_threads t (k + 1) more) rest)
    ∙ after_thread t k 0 n ss (placed_in_threads t (k + 1) more ++ rest) h

-- ---- the statements from number n on

pub none_left : (xs : List Placed) (n : ℕ) → slice_get xs n ≡ None → drop n xs ≡ []
none_left [] zero h = refl
none_left [] (suc n) h = refl
none_left (x ∷ xs) zero h = absurd (cc)
none_left (x ∷ xs) (suc n) h = none_left xs n h

first_after : (xs : List Placed) (n : ℕ) (x : Placed) → slice_get xs n ≡ Some x → drop n xs ≡ x ∷ drop (suc n) xs
first_after [] n x h = absurd (cc)
first_after (y ∷ ys) zero x h =
    let same : y ≡ x = cc in
    ap (λ z. z ∷ ys) same
first_after (y ∷ ys) (suc n) x h = first_after ys n x h

pub first_left : (xs : List Placed) (n : ℕ) (x : Placed) → slice_get xs n ≡ Some x → drop n xs ≡ x ∷ drop (n + 1) xs
first_left xs n x h =
    let next : suc n ≡ n + 1 = omega arith in
    first_after xs n x h ∙ ap (λ m. x ∷ drop m xs) next

thread_length : (t k i : ℕ) (ss : List Statement) → length (placed_in_thread t k i ss) ≡ length ss
thread_length t k i [] = refl
thread_length t k i (s ∷ ss) = ap suc (thread_length t k (i + 1) ss)

threads_length : (t k : ℕ) (threads : List (List Statement)) → list_all is_short_thread threads ≡ true
    → length (placed_in_threads t k threads) ≤ length threads * 4096
threads_length t k [] h = omega arith
threads_length t k (ss ∷ more) h =
    let parts = and_parts (is_short_thread ss) (list_all is_short_thread more) h in
    let low = parts.0 in
    let short : length ss ≤ 4096 = grind (arith, nat_tests, low) in
    let joined = length-append (placed_in_thread t k 0 ss) (placed_in_threads t (k + 1) more) in
    omega (arith, short, joined, thread_length t k 0 ss, threads_length t (k + 1) more parts.1)

targets_length : (t : ℕ) (ts : List TargetScript) → list_all is_short_target ts ≡ true → length (placed_in_targets t ts) ≤ length ts * 16384
targets_length t [] h = omega arith
targets_length t (x ∷ ts) h =
    let parts = and_parts (is_short_target x) (list_all is_short_target ts) h in
    let its = and_parts (nat_le (length x.threads) 4) (list_all is_short_thread x.threads) parts.0 in
    let low = its.0 in
    let few : length x.threads ≤ 4 = grind (arith, nat_tests, low) in
    let joined = length-append (placed_in_threads t 0 x.threads) (placed_in_targets (t + 1) ts) in
    omega (arith, few, joined, threads_length t 0 x.threads its.1, targets_length (t + 1) ts parts.1)

-- a sound script has at most 131,072 statements, so the next number fits
pub few_statements : (script : Script) (n : ℕ) (x : Placed) → is_sound script ≡ true → slice_get (placed_statements script) n ≡ Some x → n < 131072
few_statements script n x h e =
    let short = few_and_short script h in
    omega (arith, short.0, targets_length 0 script.targets short.1, slice_get_within (placed_statements script) n x e)

-- ---- which of them write to a channel

thread_writes : (a c t k i : ℕ) (ss : List Statement) → some_writes (placed_in_thread t k i ss) a c ≡ list_any (writes_channel a c) ss
thread_writes a c t k i [] = refl
thread_writes a c t k i (s ∷ ss) = ap (λ b. writes_channel a c s || b) (thread_writes a c t k (i + 1) ss)

threads_writes : (a c t k : ℕ) (threads : List (List Statement)) → some_writes (placed_in_threads t k threads) a c ≡ threads_write a c threads
threads_writes a c t k [] = refl
threads_writes a c t k (ss ∷ more) =
    let joined = list_any-append (λ p. writes_channel a c p.statement) (placed_in_thread t k 0 ss) (placed_in_threads t (k + 1) more) in
    joined ∙ ap (λ b. b || some_writes (placed_in_threads t (k + 1) more) a c) (thread_writes a c t k 0 ss)
    ∙ ap (λ b. list_any (writes_channel a c) ss || b) (threads_writes a c t (k + 1) more)

targets_write : (a c t : ℕ) (ts : List TargetScript) → some_writes (placed_in_targets t ts) a c ≡ list_any (λ x. threads_write a c x.threads) ts
targets_write a c t [] = refl
targets_write a c t (x ∷ ts) =
    let joined = list_any-append (λ p. writes_channel a c p.statement) (placed_in_threads t 0 x.threads) (placed_in_targets (t + 1) ts) in
    joined ∙ ap (λ b. b || some_writes (placed_in_targets (t + 1) ts) a c) (threads_writes a c t 0 x.threads)
    ∙ ap (λ b. threads_write a c x.threads || b) (targets_write a c (t + 1) ts)

pub placed_writes : (a c : ℕ) (script : Script) → some_writes (placed_statements script) a c ≡ list_any (λ x. threads_write a c x.threads) script.targets
placed_writes a c script = targets_write a c 0 script.targets
