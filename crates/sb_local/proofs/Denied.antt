-- The calls that the targets of a script deny themselves: thread by thread, and what thinning leaves if there are none.
use Rattle.std.proofs.Common.{◌≡◌, ◌≢◌, ◌∙◌, refl, sym, ap, subst, ℕ, ◌+◌, ◌<◌, ◌≤◌, List, [], ◌∷◌, ◌++◌, Bool, true, ◌&&◌, length, map, Option, None, Some, append_assoc, arith}
use Rattle.std.proofs.lemmas.Bool.{and_parts}
use Rattle.std.proofs.lemmas.Bool.Decides.{nat_tests}
use Rattle.std.proofs.lemmas.List.Concat.{flat_map-append}
use Rattle.std.specs.Prelude.{nat_lt, OnErr, Result, Ok, Err}
use Rattle.std.specs.List.{flat_map, list_all}
use Rattle.sb_call.specs.declared.tags.CallTag.{CallTag}
use Rattle.sb_rule.specs.Verdicts.{policy_at}
use Rattle.sb_rule.specs.declared.policies.Policy.{Policy}
use Rattle.sb_rule.specs.declared.verdicts.Verdict.{Verdict}
use Rattle.sb_statements.specs.PlacedStatements.{Placed, is_sound_in, placed_in_targets, placed_in_thread, placed_in_threads, placed_statements}
use Rattle.sb_statements.specs.Soundness.{is_statement}
use Rattle.sb_statements.specs.Units.{statement_has_units}
use Rattle.sb_statements.specs.declared.scripts.Script.{Script}
use Rattle.sb_statements.specs.declared.scripts.TargetScript.{TargetScript}
use Rattle.sb_statements.specs.declared.statements.Statement.{Statement}
use Rattle.sb_local.specs.Denials.{can_be_judged, denial_at, denial_in, denial_of, denials, denials_in, fits_its_call}
use Rattle.sb_local.specs.Thinning.{statement_if_kept, thin, thin_target, thin_targets, thin_thread}
use Rattle.sb_local.specs.declared.denials.LocalDenial.{LocalDenial}
use Rattle.sb_local.proofs.Sound.{all_by, fitting_call}

-- ---- thread by thread

-- the calls of a thread that its target denies itself, in order, the first statement being at this place
abbrev pub denied_from : Policy → ℕ → ℕ → ℕ → List Statement → List LocalDenial
denied_from policy t k i [] = []
denied_from policy t k i (statement ∷ more) = denial_at t k i (denial_of policy statement) ++ denied_from policy t k (i + 1) more

-- those of the threads of a target, of which the first has this number
abbrev pub denied_in_threads : Policy → ℕ → ℕ → List (List Statement) → List LocalDenial
denied_in_threads policy t k [] = []
denied_in_threads policy t k (statements ∷ more) = denied_from policy t k 0 statements ++ denied_in_threads policy t (k + 1) more

-- and those of targets, of which the first has this number
abbrev pub denied_in_targets : List Policy → ℕ → List TargetScript → List LocalDenial
denied_in_targets policies t [] = []
denied_in_targets policies t (target ∷ more) =
    denied_in_threads (policy_at policies t) t 0 target.threads ++ denied_in_targets policies (t + 1) more

thread_denials : (policies : List Policy) (t k i : ℕ) (ss : List Statement)
    → denials_in policies (placed_in_thread t k i ss) ≡ denied_from (policy_at policies t) t k i ss
thread_denials policies t k i [] = refl
thread_denials policies t k i (s ∷ ss) =
    ap (λ ds. denial_at t k i (denial_of (policy_at policies t) s) ++ ds) (thread_denials policies t k (i + 1) ss)

threads_denials : (policies : List Policy) (t k : ℕ) (threads : List (List Statement))
    → denials_in policies (placed_in_threads t k threads) ≡ denied_in_threads (policy_at policies t) t k threads
threads_denials policies t k [] = refl
threads_denials policies t k (ss ∷ more) =
    flat_map-append (denial_in policies) (placed_in_thread t k 0 ss) (placed_in_threads t (k + 1) more)
    ∙ ap (λ ds. ds ++ denials_in policies (placed_in_threads t (k + 1) more)) (thread_denials policies t k 0 ss)
    ∙ ap (λ ds. denied_from (policy_at policies t) t k 0 ss ++ ds) (threads_denials policies t (k + 1) more)

targets_denials : (policies : List Policy) (t : ℕ) (xs : List TargetScript) → denials_in policies (placed_in_targets t xs) ≡ denied_in_targets policies t xs
targets_denials policies t [] = refl
targets_denials policies t (x ∷ xs) =
    flat_map-append (denial_in policies) (placed_in_threads t 0 x.threads) (placed_in_targets (t + 1) xs)
    ∙ ap (λ ds. ds ++ denials_in policies (placed_in_targets (t + 1) xs)) (threads_denials policies t 0 x.threads)
    ∙ ap (λ ds. denied_in_threads (policy_at policies t) t 0 x.threads ++ ds) (targets_denials policies (t + 1) xs)

pub script_denials : (policies : List Policy) (script : Script) → denials policies script ≡ denied_in_targets policies 0 script.targets
script_denials policies script = targets_denials policies 0 script.targets

-- ---- no call is denied

both_empty : {X : Type 0} (xs ys : List X) → xs ++ ys ≡ [] → (xs ≡ []) × (ys ≡ [])
both_empty [] ys h = (refl, h)
both_empty (x ∷ xs) ys h = absurd (cc)

kept_if : (t k i : ℕ) (s : Statement) (o : Option (CallTag × Verdict)) (ys : List Statement) → denial_at t k i o ≡ [] → statement_if_kept s o ++ ys ≡ s ∷ ys
kept_if t k i s None ys h = refl
kept_if t k i s (Some d) ys h = absurd (cc)

thread_is_whole : (policy : Policy) (t k i : ℕ) (ss : List Statement) → denied_from policy t k i ss ≡ [] → thin_thread policy ss ≡ ss
thread_is_whole policy t k i [] h = refl
thread_is_whole policy t k i (s ∷ ss) h =
    let parts = both_empty (denial_at t k i (denial_of policy s)) (denied_from policy t k (i + 1) ss) h in
    kept_if t k i s (denial_of policy s) (thin_thread policy ss) parts.0 ∙ ap (λ xs. s ∷ xs) (thread_is_whole policy t k (i + 1) ss parts.1)

threads_are_whole : (policy : Policy) (t k : ℕ) (threads : List (List Statement)) → denied_in_threads policy t k threads ≡ []
    → map (thin_thread policy) threads ≡ threads
threads_are_whole policy t k [] h = refl
threads_are_whole policy t k (ss ∷ more) h =
    let parts = both_empty (denied_from policy t k 0 ss) (denied_in_threads policy t (k + 1) more) h in
    rw (thread_is_whole policy t k 0 ss parts.0, threads_are_whole policy t (k + 1) more parts.1) refl

targets_are_whole : (policies : List Policy) (t : ℕ) (xs : List TargetScript) → denied_in_targets policies t xs ≡ [] → thin_targets policies t xs ≡ xs
targets_are_whole policies t [] h = refl
targets_are_whole policies t (x ∷ xs) h =
    let parts = both_empty (denied_in_threads (policy_at policies t) t 0 x.threads) (denied_in_targets policies (t + 1) xs) h in
    let first : thin_target (policy_at policies t) x ≡ x =
    ap (λ threads. record x { threads = threads }) (threads_are_whole (policy_at policies t) t 0 x.threads parts.0) in
    rw (first, targets_are_whole policies (t + 1) xs parts.1) refl

pub script_is_whole : (policies : List Policy) (script : Script) → denials policies script ≡ [] → script ≡ (thin policies script).script
script_is_whole policies script h =
    ap (λ targets. record script { targets = targets }) (sym (targets_are_whole policies 0 script.targets (sym (script_denials policies script) ∙ h)))

pub no_denials : {X : Type 0} (xs : List X) → length xs < 1 → xs ≡ []
no_denials [] h = refl
no_denials (x ∷ xs) h = absurd (omega (arith, h))

-- ---- the walk over the statements

pub can_be_judged_first : (policies : List Policy) (p : Placed) (ps : List Placed) → list_all (can_be_judged policies) (p ∷ ps) ≡ true
    → (p.target < length policies) × (fits_its_call p.statement ≡ true) × (list_all (can_be_judged policies) ps ≡ true)
can_be_judged_first policies p ps h =
    let all = and_parts (can_be_judged policies p) (list_all (can_be_judged policies) ps) h in
    let first = and_parts (nat_lt p.target (length policies)) (fits_its_call p.statement) all.0 in
    let low = first.0 in
    (grind (arith, nat_tests, low), first.1, all.1)

-- what holds holds after an error
pub on_err : {A E : Type 0} (P : Type 0) (r : Result A E) → P → OnErr r P
on_err P (Ok x) p = tt
on_err P (Err e) p = p

-- a list is not empty if it ends with what is not
pub some_denied : (policies : List Policy) (all done : List LocalDenial) (p : Placed) (ps : List Placed) → done ++ denials_in policies (p ∷ ps) ≡ all
    → denial_in policies p ≢ [] → all ≢ []
some_denied policies all done p ps e some none =
    let parts = both_empty done (denial_in policies p ++ denials_in policies ps) (e ∙ none) in
    some (both_empty (denial_in policies p) (denials_in policies ps) parts.1).0

pub judged_step : (policies : List Policy) (done : List LocalDenial) (p : Placed) (ps : List Placed)
    → done ++ denials_in policies (p ∷ ps) ≡ (done ++ denial_in policies p) ++ denials_in policies ps
judged_step policies done p ps = sym (append_assoc done (denial_in policies p) (denials_in policies ps))

sound_is_judged : (policies : List Policy) (targets : List TargetScript) → length targets ≤ length policies → (p : Placed)
    → is_sound_in targets p ≡ true → can_be_judged policies p ≡ true
sound_is_judged policies targets few p h =
    let there = nat_lt p.target (length targets) in
    let sound = is_statement targets p.statement in
    let parts = and_parts (there && sound) (statement_has_units p.statement) h in
    let both = and_parts there sound parts.0 in
    let low = both.0 in
    let within : nat_lt p.target (length policies) ≡ true = grind (arith, nat_tests, low, few) in
    rw (within, fitting_call targets p.statement both.1) refl

pub all_can_be_judged : (policies : List Policy) (script : Script) → length script.targets ≤ length policies
    → list_all (is_sound_in script.targets) (placed_statements script) ≡ true → list_all (can_be_judged policies) (placed_statements script) ≡ true
all_can_be_judged policies script few =
    all_by (is_sound_in script.targets) (can_be_judged policies) (sound_is_judged policies script.targets few) (placed_statements script)

pub one_is_denied : (t k i : ℕ) (d : CallTag × Verdict) → denial_at t k i (Some d) ≢ []
one_is_denied t k i d e = absurd (cc)
