-- Generated scripts can be kept as sound ones: their strings are made of units, and their targets have short names.
use Rattle.std.proofs.lemmas.Bool.{and_from}
use Rattle.std.proofs.Common.{◌≡◌, ◌<◌, ◌≤◌, ◌+◌, ◌&&◌, refl, subst, sym, true, List, ℕ, arith}
use Rattle.std.specs.Prelude.{zero, suc}
use Rattle.std.specs.List.{list_all}
use Rattle.sb_call.specs.ShortNames.{is_short_name}
use Rattle.sb_statements.specs.SoundScripts.{IsSoundScript, has_short_name}
use Rattle.sb_statements.specs.Units.{statement_has_units, thread_has_units, target_has_units, script_has_units}
use Rattle.sb_gen.specs.Generator.{after, next}
use Rattle.sb_gen.specs.Calls.{statement_of, statements_of}
use Rattle.sb_gen.specs.Scripts.{target_of, targets_of, script_of}
use Rattle.sb_gen.proofs.EachKind.{statement_units}
use Rattle.sb_gen.proofs.Readiness.{scripts_are_sound}
use Rattle.sb_gen.proofs.TargetNames.{name_is_made, name_is_short}

statements_units : (t n x : ℕ) → t < 8 → thread_has_units (statements_of t n x) ≡ true
statements_units t zero x small = refl
statements_units t (suc n) x small =
    and_from (statement_has_units (statement_of t (next x))) (list_all statement_has_units (statements_of t n (next x))) (statement_units t (next x) small)
    (statements_units t n (next x) small)

target_units : (t n x : ℕ) → t < 8 → target_has_units (target_of t n x) ≡ true
target_units t n x small =
    and_from (thread_has_units (statements_of t n x)) (thread_has_units (statements_of t n (after n x)) && true) (statements_units t n x small)
    (and_from (thread_has_units (statements_of t n (after n x))) true (statements_units t n (after n x) small) refl)

targets_units : (t n calls x : ℕ) → t + n ≤ 8 → list_all target_has_units (targets_of t n calls x) ≡ true
targets_units t zero calls x within = refl
targets_units t (suc n) calls x within =
    and_from (target_has_units (target_of t calls x)) (list_all target_has_units (targets_of (t + 1) n calls (after calls (after calls x))))
    (target_units t calls x (omega arith)) (targets_units (t + 1) n calls (after calls (after calls x)) (omega arith))

pub scripts_have_units : (seed n calls : ℕ) → n ≤ 8 → script_has_units (script_of seed n calls) ≡ true
scripts_have_units seed n calls small = targets_units 0 n calls seed (omega arith)

-- the names of their targets

target_short : (t n x : ℕ) → t < 8 → has_short_name (target_of t n x) ≡ true
target_short t n x small = subst (λ (name : List ℕ). is_short_name name ≡ true) (sym (name_is_made t small)) (name_is_short t small)

targets_short : (t n calls x : ℕ) → t + n ≤ 8 → list_all has_short_name (targets_of t n calls x) ≡ true
targets_short t zero calls x within = refl
targets_short t (suc n) calls x within =
    and_from (has_short_name (target_of t calls x)) (list_all has_short_name (targets_of (t + 1) n calls (after calls (after calls x))))
    (target_short t calls x (omega arith)) (targets_short (t + 1) n calls (after calls (after calls x)) (omega arith))

pub scripts_are_kept : (seed n calls : ℕ) → n ≤ 8 → calls ≤ 4096 → IsSoundScript (script_of seed n calls)
scripts_are_kept seed n calls small few = record {
  sound = scripts_are_sound seed n calls small few;
  units = scripts_have_units seed n calls small;
  short = targets_short 0 n calls seed (omega arith);
}
