-- What the parts of a sound script are.
use Rattle.std.proofs.Common.{◌≡◌, ℕ, zero, suc, List, [], ◌∷◌, Bool, true, ◌&&◌, length, sym}
use Rattle.std.proofs.lemmas.Bool.{and_parts}
use Rattle.std.specs.Prelude.{nat_le, Some, slice_get}
use Rattle.std.specs.List.{list_all}
use Rattle.sb_statements.specs.declared.scripts.Script.{Script}
use Rattle.sb_statements.specs.declared.scripts.TargetScript.{TargetScript}
use Rattle.sb_statements.specs.declared.statements.Statement.{Statement}
use Rattle.sb_statements.specs.Soundness.{is_patience, is_start, is_statement, is_thread, is_target, are_targets, names_differ, is_sound, SoundTargets, SoundStatements}

-- what holds of all holds of one
one_of_all : {X : Type 0} (p : X → Bool) (xs : List X) (i : ℕ) (x : X) → list_all p xs ≡ true → slice_get xs i ≡ Some x → p x ≡ true
one_of_all p [] i x h e = absurd (cc)
one_of_all p (y ∷ ys) zero x h e =
    let same : y ≡ x = cc in
    rw (sym same) (and_parts (p y) (list_all p ys) h).0
one_of_all p (y ∷ ys) (suc i) x h e = one_of_all p ys i x (and_parts (p y) (list_all p ys) h).1 e

pub all_targets : (script : Script) → is_sound script ≡ true → list_all (is_target script.targets) script.targets ≡ true
all_targets script h =
    let few = nat_le (length script.start) 4096 in
    let starts = list_all is_start script.start in
    let each = list_all (is_target script.targets) script.targets in
    let targets = and_parts (is_patience script.patience && few && starts) (are_targets script.targets) h in
    (and_parts (nat_le (length script.targets) 8 && names_differ script.targets) each targets.1).1

pub all_threads : (targets : List TargetScript) (target : TargetScript) → is_target targets target ≡ true
    → list_all (is_thread targets) target.threads ≡ true
all_threads targets target h =
    let few = nat_le 1 target.channels && nat_le target.channels 8 && nat_le (length target.threads) 4 in
    (and_parts few (list_all (is_thread targets) target.threads) h).1

pub all_statements : (targets : List TargetScript) (statements : List Statement) → is_thread targets statements ≡ true
    → list_all (is_statement targets) statements ≡ true
all_statements targets statements h =
    (and_parts (nat_le (length statements) 4096) (list_all (is_statement targets) statements) h).1

pub sound_targets : SoundTargets
sound_targets script t target h e = one_of_all (is_target script.targets) script.targets t target (all_targets script h) e

pub sound_statements : SoundStatements
sound_statements script t k i target statements statement h e f g =
    let threads = all_threads script.targets target (sound_targets script t target h e) in
    let thread = one_of_all (is_thread script.targets) target.threads k statements threads f in
    one_of_all (is_statement script.targets) statements i statement (all_statements script.targets statements thread) g
