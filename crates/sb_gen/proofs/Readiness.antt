-- Generated scripts are ready, and their channels are clean.
use Rattle.std.proofs.lemmas.Bool.{and_from, or_from, le-leb}
use Rattle.std.proofs.Common.{◌≡◌, ◌<◌, ◌≤◌, ◌+◌, ◌&&◌, ◌||◌, refl, ap, true, false, not, ℕ, List, length, arith}
use Rattle.std.specs.Prelude.{zero, suc, nat_le, is_ok}
use Rattle.std.specs.Fmt.{digits}
use Rattle.std.specs.List.{list_all, list_any}
use Rattle.sb_book.specs.Readiness.{is_judged, is_ready}
use Rattle.sb_kernel.specs.Openings.{opened}
use Rattle.sb_rule.specs.WellMade.{are_well_made}
use Rattle.sb_rule.specs.declared.policies.Policy.{Policy}
use Rattle.sb_statements.specs.Limits.{most_statements, most_start_lines, most_targets}
use Rattle.sb_statements.specs.Scripts.{writes_channel, threads_write, is_clean}
use Rattle.sb_statements.specs.Soundness.{is_statement, is_thread, is_target, is_start, is_sound, are_targets, names_differ}
use Rattle.sb_statements.specs.declared.scripts.TargetScript.{TargetScript}
use Rattle.sb_gen.specs.Generator.{after, next}
use Rattle.sb_gen.specs.Calls.{statement_of, statements_of}
use Rattle.sb_gen.specs.Scripts.{start_of, target_of, targets_of, threads_of, script_of}
use Rattle.sb_gen.proofs.EachKind.{statement_fits, statement_is_call}
use Rattle.sb_gen.proofs.Numbers.{holds_below, one_below}

-- ---- the statements of a thread

statement_count : (t n x : ℕ) → length (statements_of t n x) ≡ n
statement_count t zero x = refl
statement_count t (suc n) x = ap suc (statement_count t n (next x))

module _ (targets : List TargetScript) where
  statements_fit : (t n x : ℕ) → t < 8 → list_all (is_statement targets) (statements_of t n x) ≡ true
  statements_fit t zero x small = refl
  statements_fit t (suc n) x small =
      and_from (is_statement targets (statement_of t (next x))) (list_all (is_statement targets) (statements_of t n (next x)))
      (statement_fits targets t (next x) small) (statements_fit t n (next x) small)

  thread_fits : (t n x : ℕ) → t < 8 → n ≤ 4096 → is_thread targets (statements_of t n x) ≡ true
  thread_fits t n x small few =
      and_from (nat_le (length (statements_of t n x)) most_statements) (list_all (is_statement targets) (statements_of t n x))
      (rw (statement_count t n x) (le-leb n 4096 few)) (statements_fit t n x small)

  -- ---- targets

  target_fits : (t n x : ℕ) → t < 8 → n ≤ 4096 → is_target targets (target_of t n x) ≡ true
  target_fits t n x small few =
      and_from (is_thread targets (statements_of t n x)) (is_thread targets (statements_of t n (after n x)) && true)
      (thread_fits t n x small few) (and_from (is_thread targets (statements_of t n (after n x))) true (thread_fits t n (after n x) small few) refl)

  targets_fit : (t n calls x : ℕ) → t + n ≤ 8 → calls ≤ 4096 → list_all (is_target targets) (targets_of t n calls x) ≡ true
  targets_fit t zero calls x within few = refl
  targets_fit t (suc n) calls x within few =
      and_from (is_target targets (target_of t calls x)) (list_all (is_target targets) (targets_of (t + 1) n calls (after calls (after calls x))))
      (target_fits t calls x (omega arith) few) (targets_fit (t + 1) n calls (after calls (after calls x)) (omega arith) few)

target_count : (t n calls x : ℕ) → length (targets_of t n calls x) ≡ n
target_count t zero calls x = refl
target_count t (suc n) calls x = ap suc (target_count (t + 1) n calls (after calls (after calls x)))

names_of_few_differ : (calls x : ℕ) → holds_below (λ n. names_differ (targets_of 0 n calls x)) 9 ≡ true
unfolding digits
names_of_few_differ calls x = refl

few_targets : (n calls x : ℕ) → n ≤ 8 → calls ≤ 4096 → are_targets (targets_of 0 n calls x) ≡ true
few_targets n calls x small few =
    and_from (nat_le (length (targets_of 0 n calls x)) most_targets && names_differ (targets_of 0 n calls x)) (list_all (is_target (targets_of 0 n calls x)) (targets_of 0 n calls x))
    (and_from (nat_le (length (targets_of 0 n calls x)) most_targets) (names_differ (targets_of 0 n calls x))
    (rw (target_count 0 n calls x) (le-leb n 8 small))
    (one_below (λ n. names_differ (targets_of 0 n calls x)) 9 n (names_of_few_differ calls x) (omega arith)))
    (targets_fit (targets_of 0 n calls x) 0 n calls x (omega arith) few)

-- each target names the first policy
targets_are_judged : (t n calls x : ℕ) → list_all (is_judged 1) (targets_of t n calls x) ≡ true
targets_are_judged t zero calls x = refl
targets_are_judged t (suc n) calls x = targets_are_judged (t + 1) n calls (after calls (after calls x))

-- ---- the objects at the start

starts_are_few : holds_below (λ n. nat_le (length (start_of n)) most_start_lines) 9 ≡ true
starts_are_few = refl

starts_are_named : holds_below (λ n. list_all is_start (start_of n)) 9 ≡ true
unfolding digits
starts_are_named = refl

starts_are_placed : holds_below (λ n. is_ok (opened (start_of n))) 9 ≡ true
unfolding digits
starts_are_placed = refl

-- ---- the script

pub scripts_are_sound : (seed n calls : ℕ) → n ≤ 8 → calls ≤ 4096 → is_sound (script_of seed n calls) ≡ true
scripts_are_sound seed n calls small few =
    and_from (nat_le (length (start_of n)) most_start_lines && list_all is_start (start_of n)) (are_targets (targets_of 0 n calls seed))
    (and_from (nat_le (length (start_of n)) most_start_lines) (list_all is_start (start_of n))
    (one_below (λ n. nat_le (length (start_of n)) most_start_lines) 9 n starts_are_few (omega arith))
    (one_below (λ n. list_all is_start (start_of n)) 9 n starts_are_named (omega arith)))
    (few_targets n calls seed small few)

pub scripts_are_ready : (policies : List Policy) (seed n calls : ℕ) → n ≤ 8 → calls ≤ 4096 → length policies ≡ 1 → are_well_made policies ≡ true
    → is_ready policies (script_of seed n calls) ≡ true
scripts_are_ready policies seed n calls small few one made =
    and_from (is_sound (script_of seed n calls) && are_well_made policies && list_all (is_judged (length policies)) (targets_of 0 n calls seed)) (is_ok (opened (start_of n)))
    (and_from (is_sound (script_of seed n calls) && are_well_made policies) (list_all (is_judged (length policies)) (targets_of 0 n calls seed))
    (and_from (is_sound (script_of seed n calls)) (are_well_made policies) (scripts_are_sound seed n calls small few) made)
    (rw one (targets_are_judged 0 n calls seed)))
    (one_below (λ n. is_ok (opened (start_of n))) 9 n starts_are_placed (omega arith))

-- ---- clean channels

module _ (target channel : ℕ) where
  statements_are_calls : (t n x : ℕ) → list_any (writes_channel target channel) (statements_of t n x) ≡ false
  statements_are_calls t zero x = refl
  statements_are_calls t (suc n) x =
      or_from (writes_channel target channel (statement_of t (next x))) (list_any (writes_channel target channel) (statements_of t n (next x)))
      (statement_is_call target channel t (next x)) (statements_are_calls t n (next x))

  threads_are_calls : (t n x : ℕ) → threads_write target channel (threads_of t n x) ≡ false
  threads_are_calls t n x =
      or_from (list_any (writes_channel target channel) (statements_of t n x)) (list_any (writes_channel target channel) (statements_of t n (after n x)) || false)
      (statements_are_calls t n x)
      (or_from (list_any (writes_channel target channel) (statements_of t n (after n x))) false (statements_are_calls t n (after n x)) refl)

  targets_are_calls : (t n calls x : ℕ) → list_any (λ u. threads_write target channel u.threads) (targets_of t n calls x) ≡ false
  targets_are_calls t zero calls x = refl
  targets_are_calls t (suc n) calls x =
      or_from (threads_write target channel (threads_of t calls x)) (list_any (λ u. threads_write target channel u.threads) (targets_of (t + 1) n calls (after calls (after calls x))))
      (threads_are_calls t calls x) (targets_are_calls (t + 1) n calls (after calls (after calls x)))

  pub scripts_are_clean : (seed n calls : ℕ) → is_clean (script_of seed n calls) target channel ≡ true
  scripts_are_clean seed n calls = ap not (targets_are_calls 0 n calls seed)
