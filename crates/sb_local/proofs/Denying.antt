-- Local denials are decisions of the broker.
use Rattle.std.proofs.Common.{◌≡◌, ◌∙◌, ◌⊎◌, inl, inr, ⊎_elim, refl, sym, ap, subst, ℕ, zero, suc, ◌+◌, List, [], ◌∷◌, ◌++◌, Bool, true, false, if◌then◌else◌, Option, None, Some, arith}
use Rattle.std.specs.Prelude.{slice_get}
use Rattle.sb_actor.specs.Places.{or_none, threads_of}
use Rattle.sb_block.specs.Blocks.{block}
use Rattle.sb_block.specs.Copies.{whole}
use Rattle.sb_block.specs.Laws.{BlocksComeBack}
use Rattle.sb_book.specs.Decisions.{by_decoded, by_verdict, decision_of}
use Rattle.sb_book.specs.declared.decisions.Decision.TheVariants.{Denied}
use Rattle.sb_call.specs.declared.arguments.Arg.{Arg}
use Rattle.sb_call.specs.declared.tags.CallTag.{CallTag}
use Rattle.sb_rule.specs.Verdicts.{policy_at, verdict_of}
use Rattle.sb_rule.specs.declared.actions.Action.TheVariants.{Allow, Deny, Alarm, Fake, ReadOnly}
use Rattle.sb_rule.specs.declared.policies.Policy.{Policy}
use Rattle.sb_rule.specs.declared.verdicts.Verdict.{Verdict}
use Rattle.sb_rule.specs.declared.verdicts.Verdict.TheVariants.{Rule, NoRule}
use Rattle.sb_statements.specs.Soundness.{SoundStatements, SoundTargets, is_statement}
use Rattle.sb_statements.specs.Units.{statement_has_units, target_has_units, thread_has_units}
use Rattle.sb_statements.specs.declared.scripts.TargetScript.{TargetScript}
use Rattle.sb_statements.specs.declared.statements.Statement.{Statement}
use Rattle.sb_statements.specs.declared.statements.Statement.TheVariants.{Call, Store, Exchange, Load, Wait}
use Rattle.sb_local.specs.Denials.{denial_of, if_denial, is_local_denial}
use Rattle.sb_local.specs.Laws.{DenialsAreDecisions}
use Rattle.sb_local.specs.Denials.{denial_at}
use Rattle.sb_local.proofs.Denied.{denied_from, denied_in_targets, denied_in_threads, script_denials}
use Rattle.sb_local.specs.declared.denials.LocalDenial.{LocalDenial}
use Rattle.sb_local.proofs.Sound.{one_of_all}

-- a statement that is denied is a call, and this is why
pub record IsDeniedCall (policy : Policy) (s : Statement) (tag : CallTag) (verdict : Verdict) : Type 0 where
  pub args : List Arg
  pub call : s ≡ Call tag args
  pub says : verdict_of policy tag args ≡ verdict
  pub denies : is_local_denial verdict ≡ true

some_same : {X : Type 0} (x y : X) → Some x ≡ Some y → x ≡ y
some_same x y e = cc

none_some : {X Y : Type 0} (x : X) → None ≡ Some x → Y
none_some x e = absurd (cc)

if_some : (tag : CallTag) (v : Verdict) (b : Bool) (x : CallTag × Verdict) → is_local_denial v ≡ b → (if b then Some (tag, v) else None) ≡ Some x
    → (x ≡ (tag, v)) × (is_local_denial v ≡ true)
if_some tag v true x e h = (sym (some_same {X = CallTag × Verdict} (tag, v) x h), e)
if_some tag v false x e h = none_some x h

by_test : (policy : Policy) (tag : CallTag) (args : List Arg) (x : CallTag × Verdict) → if_denial tag (verdict_of policy tag args) ≡ Some x
    → IsDeniedCall policy (Call tag args) x.0 x.1
by_test policy tag args x h =
    let same = if_some tag (verdict_of policy tag args) (is_local_denial (verdict_of policy tag args)) x refl h in
    subst (λ y. IsDeniedCall policy (Call tag args) y.0 y.1) (sym same.0) (record { args = args; call = refl; says = refl; denies = same.1 })

pub denied_call : (policy : Policy) (s : Statement) (x : CallTag × Verdict) → denial_of policy s ≡ Some x → IsDeniedCall policy s x.0 x.1
denied_call policy (Call tag args) x h = by_test policy tag args x h
denied_call policy (Store target word value) x h = absurd (cc)
denied_call policy (Exchange target word from to) x h = absurd (cc)
denied_call policy (Load target word) x h = absurd (cc)
denied_call policy (Wait target word value most) x h = absurd (cc)

-- an element of two lists is one of the first or of the second
in_either : {X : Type 0} (xs ys : List X) (n : ℕ) (x : X) → slice_get (xs ++ ys) n ≡ Some x
    → ((m : ℕ) × (slice_get xs m ≡ Some x)) ⊎ ((m : ℕ) × (slice_get ys m ≡ Some x))
in_either [] ys n x h = inr (n, h)
in_either (y ∷ xs) ys zero x h = inl (0, h)
in_either (y ∷ xs) ys (suc n) x h = ⊎_elim (λ a. inl (suc a.0, a.1)) (λ b. inr b) (in_either xs ys n x h)

-- the statement of a thread, the first of which is at place i, that a denial is of
record FromThread (policy : Policy) (t k i : ℕ) (ss : List Statement) (d : LocalDenial) : Type 0 where
  target : d.target ≡ t
  thread : d.thread ≡ k
  j : ℕ
  place : d.place ≡ i + j
  s : Statement
  there : slice_get ss j ≡ Some s
  denied : denial_of policy s ≡ Some (d.tag, d.verdict)

later : (policy : Policy) (t k i : ℕ) (s : Statement) (ss : List Statement) (d : LocalDenial) → FromThread policy t k (i + 1) ss d
    → FromThread policy t k i (s ∷ ss) d
later policy t k i s ss d f = record {
  target = f.target;
  thread = f.thread;
  j = suc f.j;
  place = omega (arith, f.place);
  s = f.s;
  there = f.there;
  denied = f.denied;
}

abbrev denial : ℕ → ℕ → ℕ → CallTag × Verdict → LocalDenial
denial t k i x = record { target = t; thread = k; place = i; tag = x.0; verdict = x.1 }

plus_zero : (i : ℕ) → i + 0 ≡ i
plus_zero i = omega arith

from_first : (policy : Policy) (t k i : ℕ) (s : Statement) (ss : List Statement) (d : LocalDenial) (o : Option (CallTag × Verdict)) → denial_of policy s ≡ o
    → ((m : ℕ) → slice_get (denied_from policy t k (i + 1) ss) m ≡ Some d → FromThread policy t k (i + 1) ss d)
    → (n : ℕ) → slice_get (denial_at t k i o ++ denied_from policy t k (i + 1) ss) n ≡ Some d → FromThread policy t k i (s ∷ ss) d
from_first policy t k i s ss d None e f n h = later policy t k i s ss d (f n h)
from_first policy t k i s ss d (Some x) e f zero h =
    subst (λ y. FromThread policy t k i (s ∷ ss) y) (some_same {X = LocalDenial} (denial t k i x) d h)
    (record { target = refl; thread = refl; j = 0; place = sym (plus_zero i); s = s; there = refl; denied = e })
from_first policy t k i s ss d (Some x) e f (suc n) h = later policy t k i s ss d (f n h)

from_thread : (policy : Policy) (t k : ℕ) (ss : List Statement) (i n : ℕ) (d : LocalDenial) → slice_get (denied_from policy t k i ss) n ≡ Some d
    → FromThread policy t k i ss d
from_thread policy t k [] i n d h = absurd (cc)
from_thread policy t k (s ∷ ss) i n d h =
    from_first policy t k i s ss d (denial_of policy s) refl (λ m g. from_thread policy t k ss (i + 1) m d g) n h

-- the same of threads, the first of which is thread k
record FromThreads (policy : Policy) (t k : ℕ) (threads : List (List Statement)) (d : LocalDenial) : Type 0 where
  target : d.target ≡ t
  j : ℕ
  thread : d.thread ≡ k + j
  ss : List Statement
  thread_there : slice_get threads j ≡ Some ss
  s : Statement
  there : slice_get ss d.place ≡ Some s
  denied : denial_of policy s ≡ Some (d.tag, d.verdict)

threads_here : (policy : Policy) (t k : ℕ) (ss : List Statement) (more : List (List Statement)) (d : LocalDenial) → FromThread policy t k 0 ss d
    → FromThreads policy t k (ss ∷ more) d
threads_here policy t k ss more d f =
    let at : d.place ≡ f.j = omega (arith, f.place) in
    record {
      target = f.target;
      j = 0;
      thread = omega (arith, f.thread);
      ss = ss;
      thread_there = refl;
      s = f.s;
      there = ap (λ i. slice_get ss i) at ∙ f.there;
      denied = f.denied;
    }

threads_later : (policy : Policy) (t k : ℕ) (ss : List Statement) (more : List (List Statement)) (d : LocalDenial) → FromThreads policy t (k + 1) more d
    → FromThreads policy t k (ss ∷ more) d
threads_later policy t k ss more d f = record {
  target = f.target;
  j = suc f.j;
  thread = omega (arith, f.thread);
  ss = f.ss;
  thread_there = f.thread_there;
  s = f.s;
  there = f.there;
  denied = f.denied;
}

from_threads : (policy : Policy) (t : ℕ) (threads : List (List Statement)) (k n : ℕ) (d : LocalDenial)
    → slice_get (denied_in_threads policy t k threads) n ≡ Some d → FromThreads policy t k threads d
from_threads policy t [] k n d h = absurd (cc)
from_threads policy t (ss ∷ more) k n d h = ⊎_elim
    (λ a. threads_here policy t k ss more d (from_thread policy t k ss 0 a.0 d a.1))
    (λ b. threads_later policy t k ss more d (from_threads policy t more (k + 1) b.0 d b.1))
    (in_either (denied_from policy t k 0 ss) (denied_in_threads policy t (k + 1) more) n d h)

-- and of targets, the first of which is target t
record FromTargets (policies : List Policy) (t : ℕ) (xs : List TargetScript) (d : LocalDenial) : Type 0 where
  m : ℕ
  target : d.target ≡ t + m
  x : TargetScript
  target_there : slice_get xs m ≡ Some x
  ss : List Statement
  thread_there : slice_get x.threads d.thread ≡ Some ss
  s : Statement
  there : slice_get ss d.place ≡ Some s
  denied : denial_of (policy_at policies d.target) s ≡ Some (d.tag, d.verdict)

targets_here : (policies : List Policy) (t : ℕ) (x : TargetScript) (xs : List TargetScript) (d : LocalDenial)
    → FromThreads (policy_at policies t) t 0 x.threads d → FromTargets policies t (x ∷ xs) d
targets_here policies t x xs d f =
    let at : d.thread ≡ f.j = omega (arith, f.thread) in
    record {
      m = 0;
      target = omega (arith, f.target);
      x = x;
      target_there = refl;
      ss = f.ss;
      thread_there = ap (λ i. slice_get x.threads i) at ∙ f.thread_there;
      s = f.s;
      there = f.there;
      denied = subst (λ u. denial_of (policy_at policies u) f.s ≡ Some (d.tag, d.verdict)) (sym f.target) f.denied;
    }

targets_later : (policies : List Policy) (t : ℕ) (x : TargetScript) (xs : List TargetScript) (d : LocalDenial)
    → FromTargets policies (t + 1) xs d → FromTargets policies t (x ∷ xs) d
targets_later policies t x xs d f = record {
  m = suc f.m;
  target = omega (arith, f.target);
  x = f.x;
  target_there = f.target_there;
  ss = f.ss;
  thread_there = f.thread_there;
  s = f.s;
  there = f.there;
  denied = f.denied;
}

from_targets : (policies : List Policy) (xs : List TargetScript) (t n : ℕ) (d : LocalDenial)
    → slice_get (denied_in_targets policies t xs) n ≡ Some d → FromTargets policies t xs d
from_targets policies [] t n d h = absurd (cc)
from_targets policies (x ∷ xs) t n d h = ⊎_elim
    (λ a. targets_here policies t x xs d (from_threads (policy_at policies t) t x.threads 0 a.0 d a.1))
    (λ b. targets_later policies t x xs d (from_targets policies xs (t + 1) b.0 d b.1))
    (in_either (denied_in_threads (policy_at policies t) t 0 x.threads) (denied_in_targets policies (t + 1) xs) n d h)

-- such a verdict denies
denied_by : (tag : CallTag) (args : List Arg) (verdict : Verdict) → is_local_denial verdict ≡ true → by_verdict tag args verdict ≡ Denied tag verdict
denied_by tag args NoRule h = refl
denied_by tag args (Rule line Deny) h = refl
denied_by tag args (Rule line Alarm) h = absurd (cc)
denied_by tag args (Rule line Fake) h = absurd (cc)
denied_by tag args (Rule line Allow) h = absurd (cc)
denied_by tag args (Rule line ReadOnly) h = absurd (cc)

-- the broker denies the whole block of a call that its target may deny itself, whatever its mark is
pub block_is_denied : BlocksComeBack → (policy : Policy) (targets : List TargetScript) (tag : CallTag) (args : List Arg) (mark : ℕ)
    → is_statement targets (Call tag args) ≡ true → statement_has_units (Call tag args) ≡ true
    → is_local_denial (verdict_of policy tag args) ≡ true
    → decision_of policy (whole (block tag args mark)) ≡ Denied tag (verdict_of policy tag args)
block_is_denied back policy targets tag args mark sound units local =
    ap (by_decoded policy) (back tag args mark sound units).1 ∙ denied_by tag args (verdict_of policy tag args) local

pub denials_are_decisions : SoundTargets → SoundStatements → BlocksComeBack → DenialsAreDecisions
denials_are_decisions targets statements back policies script n d h e =
    let nested : slice_get (denied_in_targets policies 0 script.targets) n ≡ Some d =
    subst (λ (ds : List LocalDenial). slice_get ds n ≡ Some d) (script_denials policies script) e in
    let f = from_targets policies script.targets 0 n d nested in
    let at : d.target ≡ f.m = omega (arith, f.target) in
    let x_there : slice_get script.targets d.target ≡ Some f.x = ap (λ i. slice_get script.targets i) at ∙ f.target_there in
    let c = denied_call (policy_at policies d.target) f.s (d.tag, d.verdict) f.denied in
    let call_there : slice_get f.ss d.place ≡ Some (Call d.tag c.args) = f.there ∙ ap (λ y. Some y) c.call in
    let sound = statements script d.target d.thread d.place f.x f.ss (Call d.tag c.args) h.sound x_there f.thread_there call_there in
    let its_units = one_of_all target_has_units script.targets d.target f.x h.units x_there in
    let thread_units = one_of_all thread_has_units f.x.threads d.thread f.ss its_units f.thread_there in
    let units = one_of_all statement_has_units f.ss d.place (Call d.tag c.args) thread_units call_there in
    let denies = ap is_local_denial c.says ∙ c.denies in (
      c.args,
      ap (λ o. slice_get (or_none (slice_get (threads_of o) d.thread)) d.place) x_there
          ∙ ap (λ o. slice_get (or_none o) d.place) f.thread_there ∙ call_there,
      λ mark. block_is_denied back (policy_at policies d.target) script.targets d.tag c.args mark sound units denies ∙ ap (λ v. Denied d.tag v) c.says,
    )
