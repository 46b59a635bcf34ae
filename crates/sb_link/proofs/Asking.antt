-- The calls of a sound script can be answered.
use Rattle.std.proofs.Common.{◌≡◌, refl, ℕ, zero, suc, ◌++◌, ◌<◌, ◌≤◌, Bool, true, ◌&&◌, List, [], ◌∷◌, length, map, Result, Ok, Err, arith}
use Rattle.std.proofs.lemmas.Bool.{and_parts}
use Rattle.std.proofs.lemmas.Bool.Decides.{nat_tests}
use Rattle.std.specs.Prelude.{nat_le, nat_lt, slice_index}
use Rattle.std.specs.List.{list_all}
use Rattle.sb_block.specs.Copies.{Copied}
use Rattle.sb_book.specs.Histories.{Setting, setting_of}
use Rattle.sb_rule.specs.Verdicts.{policy_at}
use Rattle.sb_rule.specs.declared.policies.Policy.{Policy}
use Rattle.sb_statements.specs.PlacedStatements.{Placed, is_sound_in}
use Rattle.sb_statements.specs.Soundness.{are_targets, is_patience, is_sound, is_start, is_statement, is_target, is_thread, names_differ}
use Rattle.sb_statements.specs.Units.{statement_has_units}
use Rattle.sb_statements.specs.declared.scripts.Script.{Script}
use Rattle.sb_statements.specs.declared.scripts.TargetScript.{TargetScript}
use Rattle.sb_statements.specs.declared.statements.Statement.{Statement}
use Rattle.sb_statements.specs.declared.statements.Statement.TheVariants.{Call, Store, Exchange, Load, Wait}
use Rattle.sb_link.specs.Answers.{linked}
use Rattle.sb_link.specs.LinkedHistories.{Asked, LinkedHistory, all_answered, answered_by, answered_linked}
use Rattle.sb_link.specs.ScriptCalls.{can_be_asked, have_channels, is_encoded}
use Rattle.sb_link.specs.declared.stops.StoppedCall.{StoppedCall}

pub answers_join : (s : LinkedHistory) (a b : List Asked) → all_answered s (a ++ b) ≡ all_answered (all_answered s a) b
answers_join s [] b = refl
answers_join s (x ∷ a) b = answers_join (answered_linked s x.target x.channel x.taken) a b

pub setting_stays : (s : LinkedHistory) (target channel : ℕ) (taken : Copied) → (answered_linked s target channel taken).history.setting ≡ s.history.setting
setting_stays s target channel taken = one (linked s.links taken)
  where
    one : (r : Result Copied StoppedCall) → (answered_by s target channel taken r).history.setting ≡ s.history.setting
    one (Ok copy) = refl
    one (Err stopped) = refl

-- ---- calls that encode

all_by : {X : Type 0} (p q : X → Bool) → ((x : X) → p x ≡ true → q x ≡ true) → (xs : List X) → list_all p xs ≡ true → list_all q xs ≡ true
all_by p q f [] h = refl
all_by p q f (x ∷ xs) h =
    let parts = and_parts (p x) (list_all p xs) h in
    rw (f x parts.0) (all_by p q f xs parts.1)

encoded_statement : (targets : List TargetScript) (s : Statement) → is_statement targets s ≡ true → is_encoded s ≡ true
encoded_statement targets (Call tag args) h = h
encoded_statement targets (Store t w v) h = refl
encoded_statement targets (Exchange t w from to) h = refl
encoded_statement targets (Load t w) h = refl
encoded_statement targets (Wait t w v most) h = refl

-- the targets of a sound script
targets_of : (script : Script) → is_sound script ≡ true → are_targets script.targets ≡ true
targets_of script h =
    let few = nat_le (length script.start) 4096 in
    (and_parts (is_patience script.patience && few && list_all is_start script.start) (are_targets script.targets) h).1

each_target : (script : Script) → is_sound script ≡ true → list_all (is_target script.targets) script.targets ≡ true
each_target script h =
    let each = list_all (is_target script.targets) script.targets in
    (and_parts (nat_le (length script.targets) 8 && names_differ script.targets) each (targets_of script h)).1

-- ---- channels

mapped_length : {X Y : Type 0} (f : X → Y) (xs : List X) → length (map f xs) ≡ length xs
mapped_length f [] = refl
mapped_length f (x ∷ xs) = omega (arith, mapped_length f xs)

one_policy_each : (policies : List Policy) (script : Script) → length script.targets ≤ length (setting_of policies script).policies
one_policy_each policies script =
    let e = mapped_length (λ (x : TargetScript). policy_at policies x.policy) script.targets in
    omega (arith, e)

-- a statement whose target is one of a script's, and which is sound, can be asked
sound_can_be_asked : (policies : List Policy) (script : Script) (p : Placed) → is_sound_in script.targets p ≡ true
    → can_be_asked (setting_of policies script) p ≡ true
sound_can_be_asked policies script p h =
    let there = nat_lt p.target (length script.targets) in
    let sound = is_statement script.targets p.statement in
    let parts = and_parts (there && sound) (statement_has_units p.statement) h in
    let both = and_parts there sound parts.0 in
    let low = both.0 in
    let many = one_policy_each policies script in
    let within : nat_lt p.target (length (setting_of policies script).policies) ≡ true = grind (arith, nat_tests, low, many) in
    rw (within, encoded_statement script.targets p.statement both.1) refl

pub all_can_be_asked : (policies : List Policy) (script : Script) (ps : List Placed) → list_all (is_sound_in script.targets) ps ≡ true
    → list_all (can_be_asked (setting_of policies script)) ps ≡ true
all_can_be_asked policies script = all_by (is_sound_in script.targets) (can_be_asked (setting_of policies script)) (sound_can_be_asked policies script)

sound_has_units : (targets : List TargetScript) (p : Placed) → is_sound_in targets p ≡ true → statement_has_units p.statement ≡ true
sound_has_units targets p h =
    (and_parts (nat_lt p.target (length targets) && is_statement targets p.statement) (statement_has_units p.statement) h).1

pub all_have_units : (script : Script) (ps : List Placed) → list_all (is_sound_in script.targets) ps ≡ true
    → list_all (λ (p : Placed). statement_has_units p.statement) ps ≡ true
all_have_units script = all_by (is_sound_in script.targets) (λ (p : Placed). statement_has_units p.statement) (sound_has_units script.targets)

channels_there : (targets xs : List TargetScript) → list_all (is_target targets) xs ≡ true → list_all (nat_lt 0) (map (λ (x : TargetScript). x.channels) xs) ≡ true
channels_there targets [] h = refl
channels_there targets (x ∷ xs) h =
    let parts = and_parts (is_target targets x) (list_all (is_target targets) xs) h in
    let few = nat_le 1 x.channels && nat_le x.channels 8 in
    let its = and_parts (few && nat_le (length x.threads) 4) (list_all (is_thread targets) x.threads) parts.0 in
    let low = and_parts few (nat_le (length x.threads) 4) its.0 in
    let test = (and_parts (nat_le 1 x.channels) (nat_le x.channels 8) low.0).0 in
    let some : nat_lt 0 x.channels ≡ true = grind (arith, nat_tests, test) in
    rw some (channels_there targets xs parts.1)

pub sound_has_channels : (policies : List Policy) (script : Script) → is_sound script ≡ true → have_channels (setting_of policies script) ≡ true
sound_has_channels policies script h =
    let a = mapped_length (λ (x : TargetScript). policy_at policies x.policy) script.targets in
    let b = mapped_length (λ (x : TargetScript). x.channels) script.targets in
    let many : nat_le (length (setting_of policies script).policies) (length (setting_of policies script).channels) ≡ true = grind (arith, nat_tests, a, b) in
    rw many (channels_there script.targets script.targets (each_target script h))

channel_in : (channels : List ℕ) (t : ℕ) → list_all (nat_lt 0) channels ≡ true → t < length channels → 0 < slice_index channels t
channel_in [] t h l = absurd (omega (arith, l))
channel_in (c ∷ channels) zero h l =
    let test = (and_parts (nat_lt 0 c) (list_all (nat_lt 0) channels) h).0 in
    grind (arith, nat_tests, test)
channel_in (c ∷ channels) (suc t) h l = channel_in channels t (and_parts (nat_lt 0 c) (list_all (nat_lt 0) channels) h).1 (omega (arith, l))

pub channel_there : (setting : Setting) (t : ℕ) → have_channels setting ≡ true → t < length setting.policies → 0 < slice_index setting.channels t
channel_there setting t h l =
    let parts = and_parts (nat_le (length setting.policies) (length setting.channels)) (list_all (nat_lt 0) setting.channels) h in
    let test = parts.0 in
    let within : t < length setting.channels = grind (arith, nat_tests, test, l) in
    channel_in setting.channels t parts.1 within

-- the first of statements that can be asked, and those after it
pub asked_first : (setting : Setting) (p : Placed) (ps : List Placed) → list_all (can_be_asked setting) (p ∷ ps) ≡ true
    → (p.target < length setting.policies) × (is_encoded p.statement ≡ true) × (list_all (can_be_asked setting) ps ≡ true)
asked_first setting p ps h =
    let all = and_parts (can_be_asked setting p) (list_all (can_be_asked setting) ps) h in
    let first = and_parts (nat_lt p.target (length setting.policies)) (is_encoded p.statement) all.0 in
    let low = first.0 in
    (grind (arith, nat_tests, low), first.1, all.1)
