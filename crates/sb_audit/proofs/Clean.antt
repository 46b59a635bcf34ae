-- Which channels are clean.
use Rattle.std.proofs.Common.{◌≡◌, refl, sym, subst, ap, ◌<◌, ◌≤◌, ℕ, ◌+◌, List, [], ◌∷◌, ◌++◌, Bool, true, false, not, ◌&&◌, ◌||◌, ◌==◌, length, arith}
use Rattle.std.proofs.lemmas.Bool.{and_parts}
use Rattle.std.proofs.lemmas.Bool.Decides.{nat_tests}
use Rattle.std.proofs.lemmas.List.Folds.{list_any-append}
use Rattle.std.specs.Prelude.{nat_le, nat_lt, slice_get}
use Rattle.std.specs.List.{list_all, list_any}
use native.Mathlib.Numerals.{unary_clauses}
use Rattle.sb_actor.specs.Places.{clean_upto}
use Rattle.sb_actor.specs.ThreadTable.{has_clean}
use Rattle.sb_statements.specs.Scripts.{is_clean, threads_write, writes_channel}
use Rattle.sb_statements.specs.Soundness.{channels_of, has_word, is_patience, is_start, is_statement, is_thread, is_target, are_targets, names_differ, is_sound}
use Rattle.sb_statements.specs.declared.scripts.Script.{Script}
use Rattle.sb_statements.specs.declared.scripts.TargetScript.{TargetScript}
use Rattle.sb_statements.specs.declared.statements.Statement.{Statement}
use Rattle.sb_statements.specs.declared.statements.Statement.TheVariants.{Call, Store, Exchange, Load, Wait}
use Rattle.sb_statements.specs.declared.statements.Word.{Word}

-- with one channel more
clean_next : (script : Script) (target n : ℕ) → clean_upto script target (n + 1) ≡ clean_upto script target n ++ is_clean script target n ∷ []
clean_next script target n = simp unary_clauses refl

or_false : (b : Bool) → (b || false) ≡ b
or_false true = refl
or_false false = refl

any_one : (xs : List Bool) (b : Bool) → has_clean (xs ++ b ∷ []) ≡ (has_clean xs || b)
any_one xs b =
    let e = list_any-append (λ (mark : Bool). mark) xs (b ∷ []) in
    let f = or_false b in
    subst (λ c. has_clean (xs ++ b ∷ []) ≡ (has_clean xs || c)) f e

pub clean_more : (script : Script) (target n : ℕ) → has_clean (clean_upto script target (n + 1)) ≡ (has_clean (clean_upto script target n) || is_clean script target n)
clean_more script target n =
    subst (λ xs. has_clean xs ≡ (has_clean (clean_upto script target n) || is_clean script target n)) (sym (clean_next script target n))
    (any_one (clean_upto script target n) (is_clean script target n))

-- if all pass one test, and none that passes it passes another, none passes that
none_of : {X : Type 0} (p q : X → Bool) → ((x : X) → p x ≡ true → q x ≡ false) → (xs : List X) → list_all p xs ≡ true → list_any q xs ≡ false
none_of p q f [] h = refl
none_of p q f (x ∷ xs) h =
    let parts = and_parts (p x) (list_all p xs) h in
    let here = f x parts.0 in
    let later = none_of p q f xs parts.1 in
    grind (arith, nat_tests, here, later)

-- a word that is there is not of a channel past the last
not_past : (targets : List TargetScript) (t c u : ℕ) (word : Word) → channels_of (slice_get targets t) ≤ c → has_word targets u word ≡ true
    → (u == t && word.channel == c) ≡ false
not_past targets t c u word past h = by_test (u == t && word.channel == c) refl
  where
    by_test : (b : Bool) → (u == t && word.channel == c) ≡ b → b ≡ false
    by_test false e = refl
    by_test true e =
        let parts = and_parts (u == t) (word.channel == c) e in
        let same : u ≡ t = let a = parts.0 in grind (arith, nat_tests, a) in
        let on : word.channel ≡ c = let a = parts.1 in grind (arith, nat_tests, a) in
        let low = (and_parts (nat_lt word.channel (channels_of (slice_get targets u))) (nat_le word.at 64) h).0 in
        let below : word.channel < channels_of (slice_get targets u) = grind (arith, nat_tests, low) in
        let here : word.channel < channels_of (slice_get targets t) = subst (λ v. word.channel < channels_of (slice_get targets v)) same below in
        absurd (omega arith)

statement_past : (targets : List TargetScript) (t c : ℕ) → channels_of (slice_get targets t) ≤ c → (s : Statement) → is_statement targets s ≡ true → writes_channel t c s ≡ false
statement_past targets t c past (Call tag args) h = refl
statement_past targets t c past (Store u word value) h = not_past targets t c u word past h
statement_past targets t c past (Exchange u word from to) h = not_past targets t c u word past h
statement_past targets t c past (Load u word) h = refl
statement_past targets t c past (Wait u word value most) h = refl

thread_past : (targets : List TargetScript) (t c : ℕ) → channels_of (slice_get targets t) ≤ c → (ss : List Statement) → is_thread targets ss ≡ true
    → list_any (writes_channel t c) ss ≡ false
thread_past targets t c past ss h =
    none_of (is_statement targets) (writes_channel t c) (statement_past targets t c past) ss (and_parts (nat_le (length ss) 4096) (list_all (is_statement targets) ss) h).1

target_past : (targets : List TargetScript) (t c : ℕ) → channels_of (slice_get targets t) ≤ c → (target : TargetScript) → is_target targets target ≡ true
    → threads_write t c target.threads ≡ false
target_past targets t c past target h =
    let few = nat_le 1 target.channels && nat_le target.channels 8 && nat_le (length target.threads) 4 in
    none_of (is_thread targets) (λ ss. list_any (writes_channel t c) ss) (thread_past targets t c past) target.threads (and_parts few (list_all (is_thread targets) target.threads) h).1

-- a channel that is not there is clean
pub clean_past : (script : Script) (t c : ℕ) → is_sound script ≡ true → channels_of (slice_get script.targets t) ≤ c → is_clean script t c ≡ true
clean_past script t c h past =
    let few = nat_le (length script.start) 4096 in
    let starts = list_all is_start script.start in
    let each = list_all (is_target script.targets) script.targets in
    let all = (and_parts (is_patience script.patience && few && starts) (are_targets script.targets) h).1 in
    let targets = (and_parts (nat_le (length script.targets) 8 && names_differ script.targets) each all).1 in
    ap not (none_of (is_target script.targets) (λ x. threads_write t c x.threads) (target_past script.targets t c past) script.targets targets)
