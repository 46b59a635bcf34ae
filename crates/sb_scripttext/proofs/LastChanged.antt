-- What a step makes of the last of a list.
use Rattle.std.proofs.Common.{◌≡◌, ◌∙◌, refl, ap, sym, subst, arith, ℕ, suc, List, [], ◌∷◌, ◌++◌, Bool, true, false, not, ◌&&◌, ◌||◌, nat_eq, nat_lt, length, Result, Ok, Err}
use Rattle.std.specs.Bool.{⊤}
use Rattle.sb_base.specs.declared.refusals.Refused.{Refused}
use Rattle.sb_base.specs.declared.refusals.Refused.TheVariants as refused
use Rattle.std.proofs.lemmas.Bool.{and_parts, and_from, lt-ltb}
use Rattle.std.specs.Cmp.Lexicographic.{pointwise}
use Rattle.std.specs.List.{list_all, list_any}
use Rattle.sb_statements.specs.Soundness.{names_differ}
use Rattle.sb_statements.specs.declared.scripts.TargetScript.{TargetScript}
use Rattle.sb_statements.specs.declared.statements.Statement.{Statement}
use Rattle.sb_scripttext.proofs.Sound.{made, ok_same}
use Rattle.sb_scripttext.specs.Drafts.{is_empty, change_last, last_threads}
use Rattle.sb_scripttext.specs.declared.faults.ScriptKind.{ScriptKind}
use Rattle.sb_scripttext.specs.declared.faults.ScriptKind.TheVariants.{UnknownWord}
use Rattle.sb_text.specs.declared.refusals.WordFault.TheVariants.{Misplaced}
use Rattle.sb_text.specs.Steps.{◌>>=◌, Becomes}

-- after others the last one is the one that changes
pub changed_behind : {A : Type 0} (step : A → Result A ScriptKind) (before : List A) (last : A)
    → change_last step (before ++ last ∷ []) ≡ (step last >>= λ changed. Ok (before ++ changed ∷ []))
changed_behind step [] last = refl
changed_behind {A} step (x ∷ []) last = more (step last)
  where
    more : (r : Result A ScriptKind) → ((r >>= λ changed. Ok (changed ∷ [])) >>= λ more. Ok (x ∷ more)) ≡ (r >>= λ changed. Ok (x ∷ changed ∷ []))
    more (Ok changed) = refl
    more (Err kind) = refl
changed_behind {A} step (x ∷ y ∷ before) last = ap (λ r. r >>= λ more. Ok (x ∷ more)) (changed_behind step (y ∷ before) last) ∙ more (step last)
  where
    more : (r : Result A ScriptKind)
        → ((r >>= λ changed. Ok (y ∷ (before ++ changed ∷ []))) >>= λ more. Ok (x ∷ more)) ≡ (r >>= λ changed. Ok (x ∷ y ∷ (before ++ changed ∷ [])))
    more (Ok changed) = refl
    more (Err kind) = refl

-- if there is none, no step is made
pub last_missing : {A B : Type 0} (step : A → Result A ScriptKind) (more : List A → Result B ScriptKind) (xs : List A) → xs ≡ []
    → (change_last step xs >>= more) ≡ Err (UnknownWord Misplaced)
last_missing step more xs e = ap (λ xs. change_last step xs >>= more) e

-- why a step is refused is why the list with it is
pub last_refused : {A B : Type 0} (step : A → Result A ScriptKind) (more : List A → Result B ScriptKind) (xs before : List A) (last after : A) (new : B)
    (why : Refused ScriptKind) → xs ≡ before ++ last ∷ [] → Becomes {A = ⊤} (step last) (Err why) after → Becomes {A = ⊤} (change_last step xs >>= more) (Err why) new
last_refused step more xs before last after new (refused.Fault kind) e h =
    ap (λ xs. change_last step xs >>= more) e
    ∙ ap (λ r. r >>= more) (changed_behind step before last ∙ ap (λ r. r >>= λ changed. Ok (before ++ changed ∷ [])) h)
last_refused step more xs before last after new refused.NoMemory e h = tt

-- what a step makes of the last one
pub last_changed : {A B : Type 0} (step : A → Result A ScriptKind) (more : List A → Result B ScriptKind) (xs before ys : List A) (last changed : A)
    → xs ≡ before ++ last ∷ [] → step last ≡ Ok changed → ys ≡ before ++ changed ∷ [] → (change_last step xs >>= more) ≡ more ys
last_changed step more xs before ys last changed e h f =
    ap (λ xs. change_last step xs >>= more) e
    ∙ ap (λ r. r >>= more) (changed_behind step before last ∙ ap (λ r. r >>= λ changed. Ok (before ++ changed ∷ [])) h)
    ∙ ap more (sym f)

-- what holds of all holds of them with the last one changed, if the step keeps it
pub changed_all : {A : Type 0} (p : A → Bool) (step : A → Result A ScriptKind) (xs ys : List A) → ((x y : A) → p x ≡ true → step x ≡ Ok y → p y ≡ true)
    → list_all p xs ≡ true → change_last step xs ≡ Ok ys → list_all p ys ≡ true
changed_all p step [] ys f h e = absurd cc
changed_all p step (x ∷ []) ys f h e =
    let m = made (step x) (λ changed. Ok (changed ∷ [])) ys e in
    subst (λ ys. list_all p ys ≡ true) (ok_same (m.0 ∷ []) ys m.2) (and_from (p m.0) true (f x m.0 (and_parts (p x) true h).0 m.1) refl)
changed_all p step (x ∷ y ∷ xs) ys f h e =
    let m = made (change_last step (y ∷ xs)) (λ more. Ok (x ∷ more)) ys e in
    let parts = and_parts (p x) (list_all p (y ∷ xs)) h in
    subst (λ ys. list_all p ys ≡ true) (ok_same (x ∷ m.0) ys m.2) (and_from (p x) (list_all p m.0) parts.0 (changed_all p step (y ∷ xs) m.0 f parts.1 m.1))

-- there are as many
pub changed_length : {A : Type 0} (step : A → Result A ScriptKind) (xs ys : List A) → change_last step xs ≡ Ok ys → length ys ≡ length xs
changed_length step [] ys e = absurd cc
changed_length step (x ∷ []) ys e =
    let m = made (step x) (λ changed. Ok (changed ∷ [])) ys e in subst (λ ys. length ys ≡ 1) (ok_same (m.0 ∷ []) ys m.2) refl
changed_length step (x ∷ y ∷ xs) ys e =
    let m = made (change_last step (y ∷ xs)) (λ more. Ok (x ∷ more)) ys e in
    subst (λ ys. length ys ≡ suc (length (y ∷ xs))) (ok_same (x ∷ m.0) ys m.2) (ap suc (changed_length step (y ∷ xs) m.0 m.1))

-- a step that keeps the name of a target
abbrev pub KeepsName : (TargetScript → Result TargetScript ScriptKind) → Type 0
KeepsName step = (x y : TargetScript) → step x ≡ Ok y → y.name ≡ x.name

abbrev has_name : List ℕ → TargetScript → Bool
has_name name other = pointwise nat_eq other.name name

same_names : (name : List ℕ) (step : TargetScript → Result TargetScript ScriptKind) (xs ys : List TargetScript) → KeepsName step → change_last step xs ≡ Ok ys
    → list_any (has_name name) ys ≡ list_any (has_name name) xs
same_names name step [] ys k e = absurd cc
same_names name step (x ∷ []) ys k e =
    let m = made (step x) (λ changed. Ok (changed ∷ [])) ys e in
    subst (λ ys. list_any (has_name name) ys ≡ list_any (has_name name) (x ∷ [])) (ok_same (m.0 ∷ []) ys m.2)
    (ap (λ own. pointwise nat_eq own name || false) (k x m.0 m.1))
same_names name step (x ∷ y ∷ xs) ys k e =
    let m = made (change_last step (y ∷ xs)) (λ more. Ok (x ∷ more)) ys e in
    subst (λ ys. list_any (has_name name) ys ≡ list_any (has_name name) (x ∷ y ∷ xs)) (ok_same (x ∷ m.0) ys m.2)
    (ap (λ b. has_name name x || b) (same_names name step (y ∷ xs) m.0 k m.1))

-- names that differ still do
pub changed_differ : (step : TargetScript → Result TargetScript ScriptKind) (xs ys : List TargetScript) → KeepsName step → change_last step xs ≡ Ok ys
    → names_differ ys ≡ names_differ xs
changed_differ step [] ys k e = absurd cc
changed_differ step (x ∷ []) ys k e =
    let m = made (step x) (λ changed. Ok (changed ∷ [])) ys e in subst (λ ys. names_differ ys ≡ true) (ok_same (m.0 ∷ []) ys m.2) refl
changed_differ step (x ∷ y ∷ xs) ys k e =
    let m = made (change_last step (y ∷ xs)) (λ more. Ok (x ∷ more)) ys e in
    subst (λ ys. names_differ ys ≡ names_differ (x ∷ y ∷ xs)) (ok_same (x ∷ m.0) ys m.2)
    (ap (λ b. not b && names_differ m.0) (same_names x.name step (y ∷ xs) m.0 k m.1)
    ∙ ap (λ b. not (list_any (has_name x.name) (y ∷ xs)) && b) (changed_differ step (y ∷ xs) m.0 k m.1))

-- a list with a last one is not empty
pub some_behind : {A : Type 0} (before : List A) (last : A) → is_empty (before ++ last ∷ []) ≡ false
some_behind [] last = refl
some_behind (x ∷ before) last = refl

-- the threads of the last target
pub last_behind : (before : List TargetScript) (last : TargetScript) → last_threads (before ++ last ∷ []) ≡ last.threads
last_behind [] last = refl
last_behind (x ∷ []) last = refl
last_behind (x ∷ y ∷ before) last = last_behind (y ∷ before) last

-- whether the last target has a thread
pub last_in_thread : (targets before : List TargetScript) (last : TargetScript) → targets ≡ before ++ last ∷ []
    → not (is_empty (last_threads targets)) ≡ nat_lt 0 (length last.threads)
last_in_thread targets before last e =
    ap (λ ts. not (is_empty (last_threads ts))) e ∙ ap (λ threads. not (is_empty threads)) (last_behind before last) ∙ some last.threads
  where
    some : (threads : List (List Statement)) → not (is_empty threads) ≡ nat_lt 0 (length threads)
    some [] = refl
    some (statements ∷ threads) = sym (lt-ltb 0 (suc (length threads)) (omega arith))

pub none_in_thread : (targets : List TargetScript) → length targets ≡ 0 → not (is_empty (last_threads targets)) ≡ false
none_in_thread [] e = refl
none_in_thread (target ∷ targets) e = absurd (omega (arith, e))
