-- A thinned script is sound, and ready where the script was.
use Rattle.std.proofs.Common.{◌≡◌, ◌∙◌, refl, sym, ap, subst, ℕ, zero, suc, ◌+◌, ◌++◌, ◌≤◌, List, [], ◌∷◌, Bool, true, ◌&&◌, ◌||◌, length, map, Option, None, Some, arith}
use Rattle.std.proofs.lemmas.Bool.{and_parts}
use Rattle.std.proofs.lemmas.Bool.Decides.{nat_tests}
use Rattle.std.specs.Prelude.{nat_le, nat_eq, is_ok, slice_get}
use Rattle.std.specs.List.{list_all, list_any}
use Rattle.std.specs.Cmp.Lexicographic.{pointwise}
use Rattle.sb_book.specs.Readiness.{is_judged, is_ready}
use Rattle.sb_call.specs.Arguments.{fits}
use Rattle.sb_call.specs.declared.tags.CallTag.{CallTag}
use Rattle.sb_kernel.specs.Openings.{opened}
use Rattle.sb_rule.specs.Verdicts.{policy_at}
use Rattle.sb_rule.specs.WellMade.{are_well_made}
use Rattle.sb_rule.specs.declared.policies.Policy.{Policy}
use Rattle.sb_rule.specs.declared.verdicts.Verdict.{Verdict}
use Rattle.sb_statements.specs.SoundScripts.{IsSoundScript, has_short_name, has_short_names}
use Rattle.sb_statements.specs.Soundness.{are_targets, channels_of, is_patience, is_sound, is_start, is_statement, is_target, is_thread, names_differ}
use Rattle.sb_statements.specs.Units.{script_has_units, statement_has_units, target_has_units, thread_has_units}
use Rattle.sb_statements.specs.declared.scripts.Script.{Script}
use Rattle.sb_statements.specs.declared.scripts.StartLine.{StartLine}
use Rattle.sb_statements.specs.declared.scripts.TargetScript.{TargetScript}
use Rattle.sb_statements.specs.declared.statements.Statement.{Statement}
use Rattle.sb_statements.specs.declared.statements.Statement.TheVariants.{Call, Store, Exchange, Load, Wait}
use Rattle.sb_local.specs.Denials.{denial_of, fits_its_call}
use Rattle.sb_local.specs.Thinning.{fits_in_target, fits_in_targets, fits_in_thread, statement_if_kept, thin, thin_target, thin_targets, thin_thread}

-- what holds of all holds of one
pub one_of_all : {X : Type 0} (p : X → Bool) (xs : List X) (i : ℕ) (x : X) → list_all p xs ≡ true → slice_get xs i ≡ Some x → p x ≡ true
one_of_all p [] i x h e = absurd (cc)
one_of_all p (y ∷ ys) zero x h e =
    let same : y ≡ x = cc in
    rw (sym same) (and_parts (p y) (list_all p ys) h).0
one_of_all p (y ∷ ys) (suc i) x h e = one_of_all p ys i x (and_parts (p y) (list_all p ys) h).1 e

-- what follows from a test at each element follows of all
pub all_by : {X : Type 0} (p q : X → Bool) → ((x : X) → p x ≡ true → q x ≡ true) → (xs : List X) → list_all p xs ≡ true → list_all q xs ≡ true
all_by p q f [] h = refl
all_by p q f (x ∷ xs) h =
    let parts = and_parts (p x) (list_all p xs) h in
    rw (f x parts.0) (all_by p q f xs parts.1)

pub fitting_call : (targets : List TargetScript) (s : Statement) → is_statement targets s ≡ true → fits_its_call s ≡ true
fitting_call targets (Call tag args) h = (and_parts (fits tag args) _ h).0
fitting_call targets (Store t w v) h = refl
fitting_call targets (Exchange t w from to) h = refl
fitting_call targets (Load t w) h = refl
fitting_call targets (Wait t w v most) h = refl

fitting_thread : (targets : List TargetScript) (ss : List Statement) → is_thread targets ss ≡ true → fits_in_thread ss ≡ true
fitting_thread targets ss h =
    let parts = and_parts (nat_le (length ss) 4096) (list_all (is_statement targets) ss) h in
    all_by (is_statement targets) fits_its_call (fitting_call targets) ss parts.1

fitting_target : (targets : List TargetScript) (target : TargetScript) → is_target targets target ≡ true → fits_in_target target ≡ true
fitting_target targets target h =
    let few = nat_le 1 target.channels && nat_le target.channels 8 in
    let parts = and_parts (few && nat_le (length target.threads) 4) (list_all (is_thread targets) target.threads) h in
    all_by (is_thread targets) fits_in_thread (fitting_thread targets) target.threads parts.1

-- the targets of a sound script
pub targets_of : (script : Script) → is_sound script ≡ true → are_targets script.targets ≡ true
targets_of script h =
    let few = nat_le (length script.start) 4096 in
    (and_parts (is_patience script.patience && few && list_all is_start script.start) (are_targets script.targets) h).1

-- thinning can judge each call of a sound script
pub fits_in_sound : (script : Script) → is_sound script ≡ true → fits_in_targets script.targets ≡ true
fits_in_sound script h =
    let each = list_all (is_target script.targets) script.targets in
    let parts = and_parts (nat_le (length script.targets) 8 && names_differ script.targets) each (targets_of script h) in
    let low = and_parts (nat_le (length script.targets) 8) (names_differ script.targets) parts.0 in
    rw (low.0, all_by (is_target script.targets) fits_in_target (fitting_target script.targets) script.targets parts.1) refl

all_if : (p : Statement → Bool) (s : Statement) (o : Option (CallTag × Verdict)) (ys : List Statement) → p s ≡ true → list_all p ys ≡ true
    → list_all p (statement_if_kept s o ++ ys) ≡ true
all_if p s None ys h k = rw h k
all_if p s (Some d) ys h k = k

-- what holds of all statements of a thread holds of those that are sent
pub all_sent : (p : Statement → Bool) (policy : Policy) (ss : List Statement) → list_all p ss ≡ true → list_all p (thin_thread policy ss) ≡ true
all_sent p policy [] h = refl
all_sent p policy (s ∷ ss) h =
    let parts = and_parts (p s) (list_all p ss) h in
    all_if p s (denial_of policy s) (thin_thread policy ss) parts.0 (all_sent p policy ss parts.1)

length_if : (s : Statement) (o : Option (CallTag × Verdict)) (ys ss : List Statement) → length ys ≤ length ss
    → length (statement_if_kept s o ++ ys) ≤ length (s ∷ ss)
length_if s None ys ss l = omega (arith, l)
length_if s (Some d) ys ss l = omega (arith, l)

sent_length : (policy : Policy) (ss : List Statement) → length (thin_thread policy ss) ≤ length ss
sent_length policy [] = omega arith
sent_length policy (s ∷ ss) = length_if s (denial_of policy s) (thin_thread policy ss) ss (sent_length policy ss)

-- what holds of each target, thinned
pub all_thinned : (p q : TargetScript → Bool) → ((policy : Policy) (x : TargetScript) → p x ≡ true → q (thin_target policy x) ≡ true)
    → (policies : List Policy) (t : ℕ) (xs : List TargetScript) → list_all p xs ≡ true → list_all q (thin_targets policies t xs) ≡ true
all_thinned p q f policies t [] h = refl
all_thinned p q f policies t (x ∷ xs) h =
    let parts = and_parts (p x) (list_all p xs) h in
    rw (f (policy_at policies t) x parts.0) (all_thinned p q f policies (t + 1) xs parts.1)

-- and of each thread
pub all_threads : (p q : List Statement → Bool) (policy : Policy) → ((ss : List Statement) → p ss ≡ true → q (thin_thread policy ss) ≡ true)
    → (threads : List (List Statement)) → list_all p threads ≡ true → list_all q (map (thin_thread policy) threads) ≡ true
all_threads p q policy f [] h = refl
all_threads p q policy f (ss ∷ more) h =
    let parts = and_parts (p ss) (list_all p more) h in
    rw (f ss parts.0) (all_threads p q policy f more parts.1)

pub thinned_length : (policies : List Policy) (t : ℕ) (xs : List TargetScript) → length (thin_targets policies t xs) ≡ length xs
thinned_length policies t [] = refl
thinned_length policies t (x ∷ xs) = omega (arith, thinned_length policies (t + 1) xs)

-- a thinned target has its channels
pub thinned_channels : (policies : List Policy) (t : ℕ) (xs : List TargetScript) (i : ℕ)
    → channels_of (slice_get (thin_targets policies t xs) i) ≡ channels_of (slice_get xs i)
thinned_channels policies t [] i = refl
thinned_channels policies t (x ∷ xs) zero = refl
thinned_channels policies t (x ∷ xs) (suc i) = thinned_channels policies (t + 1) xs i

statement_stays : (policies : List Policy) (t : ℕ) (xs : List TargetScript) (s : Statement) → is_statement xs s ≡ true
    → is_statement (thin_targets policies t xs) s ≡ true
statement_stays policies t xs (Call tag args) h = h
statement_stays policies t xs (Store target word value) h = rw (thinned_channels policies t xs target) h
statement_stays policies t xs (Exchange target word from to) h = rw (thinned_channels policies t xs target) h
statement_stays policies t xs (Load target word) h = rw (thinned_channels policies t xs target) h
statement_stays policies t xs (Wait target word value most) h = rw (thinned_channels policies t xs target) h

fewer : (policy : Policy) (ss : List Statement) (n : ℕ) → nat_le (length ss) n ≡ true → nat_le (length (thin_thread policy ss)) n ≡ true
fewer policy ss n h = let less = sent_length policy ss in grind (arith, nat_tests, h, less)

thread_stays : (policies : List Policy) (t : ℕ) (xs : List TargetScript) (policy : Policy) (ss : List Statement) → is_thread xs ss ≡ true
    → is_thread (thin_targets policies t xs) (thin_thread policy ss) ≡ true
thread_stays policies t xs policy ss h =
    let parts = and_parts (nat_le (length ss) 4096) (list_all (is_statement xs) ss) h in
    let all = all_by (is_statement xs) (is_statement (thin_targets policies t xs)) (statement_stays policies t xs) ss parts.1 in
    rw (fewer policy ss 4096 parts.0) (all_sent (is_statement (thin_targets policies t xs)) policy ss all)

mapped_length : {X Y : Type 0} (f : X → Y) (xs : List X) → length (map f xs) ≡ length xs
mapped_length f [] = refl
mapped_length f (x ∷ xs) = omega (arith, mapped_length f xs)

target_stays : (policies : List Policy) (t : ℕ) (xs : List TargetScript) (policy : Policy) (x : TargetScript) → is_target xs x ≡ true
    → is_target (thin_targets policies t xs) (thin_target policy x) ≡ true
target_stays policies t xs policy x h =
    let few = nat_le 1 x.channels && nat_le x.channels 8 in
    let parts = and_parts (few && nat_le (length x.threads) 4) (list_all (is_thread xs) x.threads) h in
    let all = all_threads (is_thread xs) (is_thread (thin_targets policies t xs)) policy (thread_stays policies t xs policy) x.threads parts.1 in
    rw (mapped_length (thin_thread policy) x.threads, parts.0) all

other_names : (name : List ℕ) (policies : List Policy) (t : ℕ) (xs : List TargetScript)
    → list_any (λ other. pointwise nat_eq other.name name) (thin_targets policies t xs) ≡ list_any (λ other. pointwise nat_eq other.name name) xs
other_names name policies t [] = refl
other_names name policies t (x ∷ xs) = ap (λ b. pointwise nat_eq x.name name || b) (other_names name policies (t + 1) xs)

names_stay : (policies : List Policy) (t : ℕ) (xs : List TargetScript) → names_differ (thin_targets policies t xs) ≡ names_differ xs
names_stay policies t [] = refl
names_stay policies t (x ∷ xs) = rw (other_names x.name policies (t + 1) xs, names_stay policies (t + 1) xs) refl

targets_stay : (policies : List Policy) (xs : List TargetScript) → are_targets xs ≡ true → are_targets (thin_targets policies 0 xs) ≡ true
targets_stay policies xs h =
    let parts = and_parts (nat_le (length xs) 8 && names_differ xs) (list_all (is_target xs) xs) h in
    let all = all_thinned (is_target xs) (is_target (thin_targets policies 0 xs)) (target_stays policies 0 xs) policies 0 xs parts.1 in
    rw (thinned_length policies 0 xs, names_stay policies 0 xs, parts.0) all

pub thinned_sound : (policies : List Policy) (script : Script) → is_sound script ≡ true → is_sound (thin policies script).script ≡ true
thinned_sound policies script h =
    let few = is_patience script.patience && nat_le (length script.start) 4096 && list_all is_start script.start in
    let parts = and_parts few (are_targets script.targets) h in
    rw parts.0 (targets_stay policies script.targets parts.1)

thread_units : (policy : Policy) (ss : List Statement) → thread_has_units ss ≡ true → thread_has_units (thin_thread policy ss) ≡ true
thread_units policy ss h = all_sent statement_has_units policy ss h

target_units : (policy : Policy) (x : TargetScript) → target_has_units x ≡ true → target_has_units (thin_target policy x) ≡ true
target_units policy x h = all_threads thread_has_units thread_has_units policy (thread_units policy) x.threads h

pub thinned_units : (policies : List Policy) (script : Script) → script_has_units script ≡ true → script_has_units (thin policies script).script ≡ true
thinned_units policies script h = all_thinned target_has_units target_has_units target_units policies 0 script.targets h

short_name_stays : (policy : Policy) (x : TargetScript) → has_short_name x ≡ true → has_short_name (thin_target policy x) ≡ true
short_name_stays policy x h = h

pub thinned_short : (policies : List Policy) (script : Script) → has_short_names script ≡ true → has_short_names (thin policies script).script ≡ true
thinned_short policies script h = all_thinned has_short_name has_short_name short_name_stays policies 0 script.targets h

whole_is_sound : (policies : List Policy) (script : Script) → is_sound script ≡ true → script_has_units script ≡ true
    → has_short_names script ≡ true → IsSoundScript (thin policies script).script
whole_is_sound policies script h u n = record {
  sound = thinned_sound policies script h;
  units = thinned_units policies script u;
  short = thinned_short policies script n;
}

-- a script with the targets thinned, and with what the script has beside them, keeps what is known of a sound script
pub thinned_is_sound : (policies : List Policy) (script : Script) (patience : ℕ) (start : List StartLine) (targets : List TargetScript)
    → patience ≡ script.patience → start ≡ script.start → targets ≡ thin_targets policies 0 script.targets
    → is_sound script ≡ true → script_has_units script ≡ true → has_short_names script ≡ true
    → IsSoundScript (record { patience = patience; start = start; targets = targets })
thinned_is_sound policies script patience start targets p e f h u n =
    let made : record { patience = patience; start = start; targets = targets } ≡ (thin policies script).script =
    ap (λ (q : ℕ). record { patience = q; start = start; targets = targets }) p
    ∙ ap (λ (s : List StartLine). record { patience = script.patience; start = s; targets = targets }) e
    ∙ ap (λ (ts : List TargetScript). record script { targets = ts }) f in
    subst (λ (s : Script). IsSoundScript s) (sym made) (whole_is_sound policies script h u n)

judged_stays : (count : ℕ) (policy : Policy) (x : TargetScript) → is_judged count x ≡ true → is_judged count (thin_target policy x) ≡ true
judged_stays count policy x h = h

-- it is ready for the policies that the script was ready for
pub thinned_is_ready : (judged policies : List Policy) (script : Script) → is_ready policies script ≡ true
    → is_ready policies (thin judged script).script ≡ true
thinned_is_ready judged policies script h =
    let judges = list_all (is_judged (length policies)) script.targets in
    let parts = and_parts (is_sound script && are_well_made policies && judges) (is_ok (opened script.start)) h in
    let some = and_parts (is_sound script && are_well_made policies) judges parts.0 in
    let few = and_parts (is_sound script) (are_well_made policies) some.0 in
    let all = all_thinned (is_judged (length policies)) (is_judged (length policies)) (judged_stays (length policies)) judged 0 script.targets some.1 in
    rw (thinned_sound judged script few.0, few.1, all) parts.1

pub ready_again : (judged policies : List Policy) (script made : Script) → made ≡ (thin judged script).script → is_ready policies script ≡ true
    → is_ready policies made ≡ true
ready_again judged policies script made e h = subst (λ s. is_ready policies s ≡ true) (sym e) (thinned_is_ready judged policies script h)
