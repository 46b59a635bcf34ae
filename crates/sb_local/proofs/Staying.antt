-- What thinning leaves as it was.
use Rattle.std.proofs.Common.{◌≡◌, ◌∙◌, refl, ap, ℕ, zero, suc, ◌+◌, List, [], ◌∷◌, ◌++◌, false, not, ◌||◌, length, map, Option, None, Some, is_none, arith}
use Rattle.std.specs.Prelude.{nat_lt, slice_get}
use Rattle.std.specs.List.{list_any}
use Rattle.sb_book.specs.Histories.{Setting}
use Rattle.sb_call.specs.declared.tags.CallTag.{CallTag}
use Rattle.sb_rule.specs.Verdicts.{policy_at}
use Rattle.sb_rule.specs.declared.policies.Policy.{Policy}
use Rattle.sb_rule.specs.declared.verdicts.Verdict.{Verdict}
use Rattle.sb_statements.specs.Actors.{thread_count}
use Rattle.sb_statements.specs.Scripts.{threads_write, writes_channel}
use Rattle.sb_statements.specs.declared.schedules.Actor.TheVariants.{Worker, Thread}
use Rattle.sb_statements.specs.declared.scripts.StartLine.{StartLine}
use Rattle.sb_statements.specs.declared.scripts.TargetScript.{TargetScript}
use Rattle.sb_statements.specs.declared.statements.Statement.{Statement}
use Rattle.sb_statements.specs.declared.statements.Statement.TheVariants.{Call, Store, Exchange, Load, Wait}
use Rattle.sb_local.specs.Denials.{denial_of}
use Rattle.sb_local.specs.Laws.{ActorsStay, CleanChannelsStay, SettingsStay, ThinnedScriptsAreReady, ThinnedScriptsAreSound, ThinningAgainChangesNothing}
use Rattle.sb_local.specs.Denials.{denial_at}
use Rattle.sb_local.specs.Thinning.{statement_if_kept, thin, thin_target, thin_targets, thin_thread}
use Rattle.sb_local.proofs.Denied.{denied_from, denied_in_targets, denied_in_threads, script_denials}
use Rattle.sb_local.proofs.Sound.{thinned_is_ready, thinned_length, thinned_short, thinned_sound, thinned_units}

pub sound_stays : ThinnedScriptsAreSound
sound_stays policies script h = record {
  sound = thinned_sound policies script h.sound;
  units = thinned_units policies script h.units;
  short = thinned_short policies script h.short;
}

pub ready_stays : ThinnedScriptsAreReady
ready_stays judged policies script h = record {
  ready = thinned_is_ready judged policies script h.ready;
  units = thinned_units judged script h.units;
  short = thinned_short judged script h.short;
}

-- what thinning a target leaves as it was is the same over all targets
map_thinned : {X : Type 0} (f : TargetScript → X) → ((policy : Policy) (x : TargetScript) → f (thin_target policy x) ≡ f x)
    → (policies : List Policy) (t : ℕ) (xs : List TargetScript) → map f (thin_targets policies t xs) ≡ map f xs
map_thinned f h policies t [] = refl
map_thinned f h policies t (x ∷ xs) = rw (h (policy_at policies t) x, map_thinned f h policies (t + 1) xs) refl

abbrev setting : List Policy → List ℕ → List StartLine → Setting
setting policies channels start = record { policies = policies; channels = channels; start = start }

pub setting_stays : SettingsStay
setting_stays judged policies script =
    ap (λ ps. setting ps (map (λ x. x.channels) (thin_targets judged 0 script.targets)) script.start)
    (map_thinned (λ x. policy_at policies x.policy) (λ policy x. refl) judged 0 script.targets)
    ∙ ap (λ cs. setting (map (λ x. policy_at policies x.policy) script.targets) cs script.start)
    (map_thinned (λ x. x.channels) (λ policy x. refl) judged 0 script.targets)

-- a statement that is left out writes nothing
denial_writes : (policy : Policy) (t c : ℕ) (s : Statement) → is_none (denial_of policy s) ≡ false → writes_channel t c s ≡ false
denial_writes policy t c (Call tag args) h = refl
denial_writes policy t c (Store target word value) h = absurd (cc)
denial_writes policy t c (Exchange target word from to) h = absurd (cc)
denial_writes policy t c (Load target word) h = refl
denial_writes policy t c (Wait target word value most) h = refl

writes_if : (t c : ℕ) (s : Statement) (o : Option (CallTag × Verdict)) (ys : List Statement) → (is_none o ≡ false → writes_channel t c s ≡ false)
    → list_any (writes_channel t c) (statement_if_kept s o ++ ys) ≡ (writes_channel t c s || list_any (writes_channel t c) ys)
writes_if t c s None ys h = refl
writes_if t c s (Some d) ys h = rw (h refl) refl

thread_writes : (policy : Policy) (t c : ℕ) (ss : List Statement) → list_any (writes_channel t c) (thin_thread policy ss) ≡ list_any (writes_channel t c) ss
thread_writes policy t c [] = refl
thread_writes policy t c (s ∷ ss) =
    writes_if t c s (denial_of policy s) (thin_thread policy ss) (denial_writes policy t c s)
    ∙ ap (λ b. writes_channel t c s || b) (thread_writes policy t c ss)

threads_writes : (policy : Policy) (t c : ℕ) (threads : List (List Statement)) → threads_write t c (map (thin_thread policy) threads) ≡ threads_write t c threads
threads_writes policy t c [] = refl
threads_writes policy t c (ss ∷ more) = rw (thread_writes policy t c ss) (ap (λ b. list_any (writes_channel t c) ss || b) (threads_writes policy t c more))

targets_write : (policies : List Policy) (u t c : ℕ) (xs : List TargetScript)
    → list_any (λ x. threads_write t c x.threads) (thin_targets policies u xs) ≡ list_any (λ x. threads_write t c x.threads) xs
targets_write policies u t c [] = refl
targets_write policies u t c (x ∷ xs) =
    rw (threads_writes (policy_at policies u) t c x.threads) (ap (λ b. threads_write t c x.threads || b) (targets_write policies (u + 1) t c xs))

pub clean_stays : CleanChannelsStay
clean_stays policies script target channel = ap not (targets_write policies 0 target channel script.targets)

-- a statement that is sent is sent again
again_if : (policy : Policy) (s : Statement) (o : Option (CallTag × Verdict)) (ys : List Statement) → denial_of policy s ≡ o → thin_thread policy ys ≡ ys
    → thin_thread policy (statement_if_kept s o ++ ys) ≡ statement_if_kept s o ++ ys
again_if policy s None ys e h = ap (λ o. statement_if_kept s o ++ thin_thread policy ys) e ∙ ap (λ zs. s ∷ zs) h
again_if policy s (Some d) ys e h = h

thread_again : (policy : Policy) (ss : List Statement) → thin_thread policy (thin_thread policy ss) ≡ thin_thread policy ss
thread_again policy [] = refl
thread_again policy (s ∷ ss) = again_if policy s (denial_of policy s) (thin_thread policy ss) refl (thread_again policy ss)

threads_again : (policy : Policy) (threads : List (List Statement)) → map (thin_thread policy) (map (thin_thread policy) threads) ≡ map (thin_thread policy) threads
threads_again policy [] = refl
threads_again policy (ss ∷ more) = rw (thread_again policy ss, threads_again policy more) refl

target_again : (policy : Policy) (x : TargetScript) → thin_target policy (thin_target policy x) ≡ thin_target policy x
target_again policy x = ap (λ threads. record x { threads = threads }) (threads_again policy x.threads)

targets_again : (policies : List Policy) (t : ℕ) (xs : List TargetScript) → thin_targets policies t (thin_targets policies t xs) ≡ thin_targets policies t xs
targets_again policies t [] = refl
targets_again policies t (x ∷ xs) = rw (target_again (policy_at policies t) x, targets_again policies (t + 1) xs) refl

denies_if : (policy : Policy) (t k i : ℕ) (s : Statement) (o : Option (CallTag × Verdict)) (ys : List Statement) → denial_of policy s ≡ o
    → ((j : ℕ) → denied_from policy t k j ys ≡ []) → denied_from policy t k i (statement_if_kept s o ++ ys) ≡ []
denies_if policy t k i s None ys e h = ap (λ o. denial_at t k i o ++ denied_from policy t k (i + 1) ys) e ∙ h (i + 1)
denies_if policy t k i s (Some d) ys e h = h i

thread_denies_none : (policy : Policy) (t k : ℕ) (ss : List Statement) (i : ℕ) → denied_from policy t k i (thin_thread policy ss) ≡ []
thread_denies_none policy t k [] i = refl
thread_denies_none policy t k (s ∷ ss) i =
    denies_if policy t k i s (denial_of policy s) (thin_thread policy ss) refl (λ j. thread_denies_none policy t k ss j)

threads_deny_none : (policy : Policy) (t k : ℕ) (threads : List (List Statement)) → denied_in_threads policy t k (map (thin_thread policy) threads) ≡ []
threads_deny_none policy t k [] = refl
threads_deny_none policy t k (ss ∷ more) = rw (thread_denies_none policy t k ss 0) (threads_deny_none policy t (k + 1) more)

targets_deny_none : (policies : List Policy) (t : ℕ) (xs : List TargetScript) → denied_in_targets policies t (thin_targets policies t xs) ≡ []
targets_deny_none policies t [] = refl
targets_deny_none policies t (x ∷ xs) = rw (threads_deny_none (policy_at policies t) t 0 x.threads) (targets_deny_none policies (t + 1) xs)

pub nothing_again : ThinningAgainChangesNothing
nothing_again policies script = (
  ap (λ xs. record script { targets = xs }) (targets_again policies 0 script.targets),
  script_denials policies (thin policies script).script ∙ targets_deny_none policies 0 script.targets,
)

mapped_length : {X Y : Type 0} (f : X → Y) (xs : List X) → length (map f xs) ≡ length xs
mapped_length f [] = refl
mapped_length f (x ∷ xs) = omega (arith, mapped_length f xs)

threads_stay : (policies : List Policy) (u : ℕ) (xs : List TargetScript) (t : ℕ)
    → thread_count (slice_get (thin_targets policies u xs) t) ≡ thread_count (slice_get xs t)
threads_stay policies u [] t = refl
threads_stay policies u (x ∷ xs) zero = mapped_length (thin_thread (policy_at policies u)) x.threads
threads_stay policies u (x ∷ xs) (suc t) = threads_stay policies (u + 1) xs t

pub actors_stay : ActorsStay
actors_stay policies script (Worker target) = ap (λ n. nat_lt target n) (thinned_length policies 0 script.targets)
actors_stay policies script (Thread target thread) = ap (λ n. nat_lt thread n) (threads_stay policies 0 script.targets target)
