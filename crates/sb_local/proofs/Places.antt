-- Each statement of a thinned script is the one that was at its old place, and no other statement is left out than a call that is denied.
use Rattle.std.proofs.Common.{◌≡◌, ◌∙◌, ◌⊎◌, inl, inr, ⊎_elim, refl, sym, ap, subst, ℕ, zero, suc, ◌+◌, Bool, true, false, if◌then◌else◌, List, [], ◌∷◌, ◌++◌, length, map, Option, None, Some, arith}
use Rattle.std.specs.Prelude.{slice_get, slice_index_or}
use Rattle.sb_actor.specs.Places.{or_none, threads_of}
use Rattle.sb_call.specs.declared.tags.CallTag.{CallTag}
use Rattle.sb_rule.specs.Verdicts.{policy_at, verdict_of}
use Rattle.sb_rule.specs.declared.policies.Policy.{Policy}
use Rattle.sb_rule.specs.declared.verdicts.Verdict.{Verdict}
use Rattle.sb_statements.specs.declared.scripts.TargetScript.{TargetScript}
use Rattle.sb_statements.specs.declared.statements.Statement.{Statement}
use Rattle.sb_statements.specs.declared.statements.Statement.TheVariants.{Call}
use Rattle.sb_local.specs.Denials.{denial_of, is_local_denial}
use Rattle.sb_local.specs.Laws.{EachIsSentOrDenied, SentCallsAreForTheBroker, StatementsHadTheirPlaces, old_place}
use Rattle.sb_local.specs.declared.denials.LocalDenial.{LocalDenial}
use Rattle.sb_local.specs.Denials.{denial_at}
use Rattle.sb_local.specs.Thinning.{kept_from, kept_in_targets, place_if_kept, statement_if_kept, thin_targets, thin_thread}
use Rattle.sb_local.proofs.Denied.{denied_from, denied_in_targets, denied_in_threads, script_denials}

pub plus_zero : (i : ℕ) → i + 0 ≡ i
plus_zero i = omega arith

pub zero_plus : (i : ℕ) → 0 + i ≡ i
zero_plus i = omega arith

suc_plus : (n m : ℕ) → suc n + m ≡ suc (n + m)
suc_plus n m = omega arith

shifted : (i m : ℕ) → (i + 1) + m ≡ i + suc m
shifted i m = omega arith

-- the place that a kept statement had, i being that of the first
abbrev pub HadPlace : Policy → ℕ → List Statement → ℕ → Statement → Type 0
HadPlace policy i ss j s = (m : ℕ) × (slice_get (kept_from policy i ss) j ≡ Some (i + m)) × (slice_get ss m ≡ Some s)

had_later : (policy : Policy) (i : ℕ) (x : Statement) (ss : List Statement) (j : ℕ) (s : Statement) → HadPlace policy (i + 1) ss j s
    → (m : ℕ) × (slice_get (kept_from policy (i + 1) ss) j ≡ Some (i + m)) × (slice_get (x ∷ ss) m ≡ Some s)
had_later policy i x ss j s r = (suc r.0, r.1 ∙ ap (λ n. Some n) (shifted i r.0), r.2)

in_first : (policy : Policy) (i : ℕ) (x : Statement) (ss : List Statement) (s : Statement) (o : Option (CallTag × Verdict))
    → ((n : ℕ) → slice_get (thin_thread policy ss) n ≡ Some s → HadPlace policy (i + 1) ss n s)
    → (j : ℕ) → slice_get (statement_if_kept x o ++ thin_thread policy ss) j ≡ Some s
    → (m : ℕ) × (slice_get (place_if_kept i o ++ kept_from policy (i + 1) ss) j ≡ Some (i + m)) × (slice_get (x ∷ ss) m ≡ Some s)
in_first policy i x ss s None f zero h = (0, ap (λ n. Some n) (sym (plus_zero i)), h)
in_first policy i x ss s None f (suc j) h = had_later policy i x ss j s (f j h)
in_first policy i x ss s (Some d) f j h = had_later policy i x ss j s (f j h)

in_thread : (policy : Policy) (ss : List Statement) (i j : ℕ) (s : Statement) → slice_get (thin_thread policy ss) j ≡ Some s → HadPlace policy i ss j s
in_thread policy [] i j s h = absurd (cc)
in_thread policy (x ∷ ss) i j s h = in_first policy i x ss s (denial_of policy x) (λ n g. in_thread policy ss (i + 1) n s g) j h

in_threads : (policy : Policy) (threads : List (List Statement)) (k j : ℕ) (s : Statement)
    → slice_get (or_none (slice_get (map (thin_thread policy) threads) k)) j ≡ Some s
    → (i : ℕ) × (slice_get (slice_index_or (map (kept_from policy 0) threads) k []) j ≡ Some i) × (slice_get (or_none (slice_get threads k)) i ≡ Some s)
in_threads policy [] k j s h = absurd (cc)
in_threads policy (ss ∷ more) zero j s h = let r = in_thread policy ss 0 j s h in (r.0, r.1 ∙ ap (λ n. Some n) (zero_plus r.0), r.2)
in_threads policy (ss ∷ more) (suc k) j s h = in_threads policy more k j s h

in_targets : (policies : List Policy) (u : ℕ) (xs : List TargetScript) (t k j : ℕ) (s : Statement)
    → slice_get (or_none (slice_get (threads_of (slice_get (thin_targets policies u xs) t)) k)) j ≡ Some s
    → (i : ℕ) × (old_place (kept_in_targets policies u xs) t k j ≡ Some i) × (slice_get (or_none (slice_get (threads_of (slice_get xs t)) k)) i ≡ Some s)
in_targets policies u [] t k j s h = absurd (cc)
in_targets policies u (x ∷ xs) zero k j s h = in_threads (policy_at policies u) x.threads k j s h
in_targets policies u (x ∷ xs) (suc t) k j s h = in_targets policies (u + 1) xs t k j s h

pub statements_had_places : StatementsHadTheirPlaces
statements_had_places policies script t k j s h = in_targets policies 0 script.targets t k j s h

-- Each statement is sent, or is a call that is denied.

-- element n of a second list comes after all of the first
after_all : {X : Type 0} (xs ys : List X) (n : ℕ) (x : X) → slice_get ys n ≡ Some x → slice_get (xs ++ ys) (length xs + n) ≡ Some x
after_all [] ys n x h = ap (λ m. slice_get ys m) (zero_plus n) ∙ h
after_all (y ∷ xs) ys n x h = ap (λ m. slice_get (y ∷ (xs ++ ys)) m) (suc_plus (length xs) n) ∙ after_all xs ys n x h

before_all : {X : Type 0} (xs ys : List X) (n : ℕ) (x : X) → slice_get xs n ≡ Some x → slice_get (xs ++ ys) n ≡ Some x
before_all [] ys n x h = absurd (cc)
before_all (y ∷ xs) ys zero x h = h
before_all (y ∷ xs) ys (suc n) x h = before_all xs ys n x h

-- a denial at a place of thread k of target t is in a list
abbrev Has : List LocalDenial → ℕ → ℕ → ℕ → Type 0
Has ds t k i = (n : ℕ) × (d : LocalDenial) × (slice_get ds n ≡ Some d) × (d.target ≡ t) × (d.thread ≡ k) × (d.place ≡ i)

has_after : (xs ys : List LocalDenial) (t k i : ℕ) → Has ys t k i → Has (xs ++ ys) t k i
has_after xs ys t k i h = (length xs + h.0, h.1, after_all xs ys h.0 h.1 h.2, h.3, h.4, h.5)

has_before : (xs ys : List LocalDenial) (t k i : ℕ) → Has xs t k i → Has (xs ++ ys) t k i
has_before xs ys t k i h = (h.0, h.1, before_all xs ys h.0 h.1 h.2, h.3, h.4, h.5)

-- a statement of a thread is sent from its place
abbrev Sent : List ℕ → List Statement → ℕ → Statement → Type 0
Sent places ss i s = (j : ℕ) × (slice_get places j ≡ Some i) × (slice_get ss j ≡ Some s)

sent_after : (ps qs : List ℕ) (xs ys : List Statement) (i : ℕ) (s : Statement) → length ps ≡ length xs → Sent qs ys i s → Sent (ps ++ qs) (xs ++ ys) i s
sent_after ps qs xs ys i s e h =
    (length xs + h.0, subst (λ n. slice_get (ps ++ qs) (n + h.0) ≡ Some i) e (after_all ps qs h.0 i h.1), after_all xs ys h.0 s h.2)

as_many : (i : ℕ) (s : Statement) (o : Option (CallTag × Verdict)) → length (place_if_kept i o) ≡ length (statement_if_kept s o)
as_many i s None = refl
as_many i s (Some d) = refl

one_of_two : (t k i : ℕ) (s : Statement) (o : Option (CallTag × Verdict)) → Sent (place_if_kept i o) (statement_if_kept s o) i s ⊎ Has (denial_at t k i o) t k i
one_of_two t k i s None = inl (0, refl, refl)
one_of_two t k i s (Some d) = inr (0, record { target = t; thread = k; place = i; tag = d.0; verdict = d.1 }, refl, refl, refl, refl)

sent_before : (ps qs : List ℕ) (xs ys : List Statement) (i : ℕ) (s : Statement) → Sent ps xs i s → Sent (ps ++ qs) (xs ++ ys) i s
sent_before ps qs xs ys i s h = (h.0, before_all ps qs h.0 i h.1, before_all xs ys h.0 s h.2)

each_in_thread : (policy : Policy) (t k : ℕ) (ss : List Statement) (i m : ℕ) (s : Statement) → slice_get ss m ≡ Some s
    → Sent (kept_from policy i ss) (thin_thread policy ss) (i + m) s ⊎ Has (denied_from policy t k i ss) t k (i + m)
each_in_thread policy t k [] i m s h = absurd (cc)
each_in_thread policy t k (x ∷ ss) i zero s h =
    let same : x ≡ s = cc in
    let at : i ≡ i + 0 = sym (plus_zero i) in
    subst (λ n. Sent (kept_from policy i (x ∷ ss)) (thin_thread policy (x ∷ ss)) n s ⊎ Has (denied_from policy t k i (x ∷ ss)) t k n) at
    (subst (λ y. Sent (kept_from policy i (x ∷ ss)) (thin_thread policy (x ∷ ss)) i y ⊎ Has (denied_from policy t k i (x ∷ ss)) t k i) same
    (⊎_elim
    (λ a. inl (sent_before (place_if_kept i (denial_of policy x)) (kept_from policy (i + 1) ss) (statement_if_kept x (denial_of policy x))
    (thin_thread policy ss) i x a))
    (λ b. inr (has_before (denial_at t k i (denial_of policy x)) (denied_from policy t k (i + 1) ss) t k i b))
    (one_of_two t k i x (denial_of policy x))))
each_in_thread policy t k (x ∷ ss) i (suc m) s h =
    subst (λ n. Sent (kept_from policy i (x ∷ ss)) (thin_thread policy (x ∷ ss)) n s ⊎ Has (denied_from policy t k i (x ∷ ss)) t k n) (shifted i m)
    (⊎_elim
    (λ a. inl (sent_after (place_if_kept i (denial_of policy x)) (kept_from policy (i + 1) ss) (statement_if_kept x (denial_of policy x))
    (thin_thread policy ss) ((i + 1) + m) s (as_many i x (denial_of policy x)) a))
    (λ b. inr (has_after (denial_at t k i (denial_of policy x)) (denied_from policy t k (i + 1) ss) t k ((i + 1) + m) b))
    (each_in_thread policy t k ss (i + 1) m s h))

each_in_threads : (policy : Policy) (t : ℕ) (threads : List (List Statement)) (u k i : ℕ) (s : Statement) → slice_get (or_none (slice_get threads k)) i ≡ Some s
    → Sent (slice_index_or (map (kept_from policy 0) threads) k []) (or_none (slice_get (map (thin_thread policy) threads) k)) i s
    ⊎ Has (denied_in_threads policy t u threads) t (u + k) i
each_in_threads policy t [] u k i s h = absurd (cc)
each_in_threads policy t (ss ∷ more) u zero i s h =
    ⊎_elim
    (λ a. inl (subst (λ n. Sent (kept_from policy 0 ss) (thin_thread policy ss) n s) (zero_plus i) a))
    (λ b. inr (has_before (denied_from policy t u 0 ss) (denied_in_threads policy t (u + 1) more) t (u + 0) i
    (subst (λ n. Has (denied_from policy t u 0 ss) t n i) (sym (plus_zero u)) (subst (λ n. Has (denied_from policy t u 0 ss) t u n) (zero_plus i) b))))
    (each_in_thread policy t u ss 0 i s h)
each_in_threads policy t (ss ∷ more) u (suc k) i s h =
    ⊎_elim
    (λ a. inl a)
    (λ b. inr (has_after (denied_from policy t u 0 ss) (denied_in_threads policy t (u + 1) more) t (u + suc k) i
    (subst (λ n. Has (denied_in_threads policy t (u + 1) more) t n i) (shifted u k) b)))
    (each_in_threads policy t more (u + 1) k i s h)

each_in_targets : (policies : List Policy) (xs : List TargetScript) (u t k i : ℕ) (s : Statement)
    → slice_get (or_none (slice_get (threads_of (slice_get xs t)) k)) i ≡ Some s
    → Sent (slice_index_or (slice_index_or (kept_in_targets policies u xs) t []) k [])
    (or_none (slice_get (threads_of (slice_get (thin_targets policies u xs) t)) k)) i s
    ⊎ Has (denied_in_targets policies u xs) (u + t) k i
each_in_targets policies [] u t k i s h = absurd (cc)
each_in_targets policies (x ∷ xs) u zero k i s h =
    ⊎_elim
    (λ a. inl a)
    (λ b. inr (has_before (denied_in_threads (policy_at policies u) u 0 x.threads) (denied_in_targets policies (u + 1) xs) (u + 0) k i
    (subst (λ n. Has (denied_in_threads (policy_at policies u) u 0 x.threads) n k i) (sym (plus_zero u))
    (subst (λ n. Has (denied_in_threads (policy_at policies u) u 0 x.threads) u n i) (zero_plus k) b))))
    (each_in_threads (policy_at policies u) u x.threads 0 k i s h)
each_in_targets policies (x ∷ xs) u (suc t) k i s h =
    ⊎_elim
    (λ a. inl a)
    (λ b. inr (has_after (denied_in_threads (policy_at policies u) u 0 x.threads) (denied_in_targets policies (u + 1) xs) (u + suc t) k i
    (subst (λ n. Has (denied_in_targets policies (u + 1) xs) n k i) (shifted u t) b)))
    (each_in_targets policies xs (u + 1) t k i s h)

pub each_is_sent_or_denied : EachIsSentOrDenied
each_is_sent_or_denied policies script t k i s h =
    ⊎_elim
    (λ a. inl a)
    (λ b. inr (subst (λ (ds : List LocalDenial). Has ds t k i) (sym (script_denials policies script))
    (subst (λ n. Has (denied_in_targets policies 0 script.targets) n k i) (zero_plus t) b)))
    (each_in_targets policies script.targets 0 t k i s h)

-- No call that is sent is one that its target may deny itself.

none_is_kept : (policy : Policy) (x s : Statement) (ss : List Statement) (o : Option (CallTag × Verdict)) → denial_of policy x ≡ o
    → ((n : ℕ) → slice_get ss n ≡ Some s → denial_of policy s ≡ None)
    → (j : ℕ) → slice_get (statement_if_kept x o ++ ss) j ≡ Some s → denial_of policy s ≡ None
none_is_kept policy x s ss None e f zero h =
    let same : x ≡ s = cc in
    subst (λ y. denial_of policy y ≡ None) same e
none_is_kept policy x s ss None e f (suc j) h = f j h
none_is_kept policy x s ss (Some d) e f j h = f j h

sent_in_thread : (policy : Policy) (ss : List Statement) (j : ℕ) (s : Statement) → slice_get (thin_thread policy ss) j ≡ Some s → denial_of policy s ≡ None
sent_in_thread policy [] j s h = absurd (cc)
sent_in_thread policy (x ∷ ss) j s h =
    none_is_kept policy x s (thin_thread policy ss) (denial_of policy x) refl (λ n g. sent_in_thread policy ss n s g) j h

sent_in_threads : (policy : Policy) (threads : List (List Statement)) (k j : ℕ) (s : Statement)
    → slice_get (or_none (slice_get (map (thin_thread policy) threads) k)) j ≡ Some s → denial_of policy s ≡ None
sent_in_threads policy [] k j s h = absurd (cc)
sent_in_threads policy (ss ∷ more) zero j s h = sent_in_thread policy ss j s h
sent_in_threads policy (ss ∷ more) (suc k) j s h = sent_in_threads policy more k j s h

sent_in_targets : (policies : List Policy) (xs : List TargetScript) (u t k j : ℕ) (s : Statement)
    → slice_get (or_none (slice_get (threads_of (slice_get (thin_targets policies u xs) t)) k)) j ≡ Some s → denial_of (policy_at policies (u + t)) s ≡ None
sent_in_targets policies [] u t k j s h = absurd (cc)
sent_in_targets policies (x ∷ xs) u zero k j s h =
    subst (λ n. denial_of (policy_at policies n) s ≡ None) (sym (plus_zero u)) (sent_in_threads (policy_at policies u) x.threads k j s h)
sent_in_targets policies (x ∷ xs) u (suc t) k j s h =
    subst (λ n. denial_of (policy_at policies n) s ≡ None) (shifted u t) (sent_in_targets policies xs (u + 1) t k j s h)

abbrev if_local : CallTag → Verdict → Bool → Option (CallTag × Verdict)
if_local tag v b = if b then Some (tag, v) else None

not_local : (tag : CallTag) (v : Verdict) (b : Bool) → is_local_denial v ≡ b → if_local tag v b ≡ None → is_local_denial v ≡ false
not_local tag v true e h = absurd (cc)
not_local tag v false e h = e

pub sent_calls_are_for_the_broker : SentCallsAreForTheBroker
sent_calls_are_for_the_broker policies script t k j tag args h =
    let none = subst (λ n. denial_of (policy_at policies n) (Call tag args) ≡ None) (zero_plus t) (sent_in_targets policies script.targets 0 t k j (Call tag args) h) in
    not_local tag (verdict_of (policy_at policies t) tag args) (is_local_denial (verdict_of (policy_at policies t) tag args)) refl none
