-- What is read of a script stays sound from line to line.
use Rattle.std.proofs.Common.{◌≡◌, refl, sym, ap, ◌∙◌, subst, arith, ℕ, ◌+◌, List, [], ◌∷◌, ◌++◌, length, length-append, Bool, true, false, not, ◌&&◌, ◌||◌, nat_le, nat_lt, nat_eq, cond, Option, None, Some, Result, Ok, Err, codes}
use Rattle.std.specs.Prelude.{is_ok}
use Rattle.std.proofs.lemmas.Bool.{and_parts, and_from, or_parts}
use Rattle.std.proofs.lemmas.Bool.Decides.{nat_tests}
use Rattle.std.proofs.lemmas.List.Folds.{list_all-append, list_any-append}
use Rattle.std.specs.Cmp.{nat_eq_equiv, partial_equiv_from_equiv}
use Rattle.std.specs.Cmp.Lexicographic.{pointwise, lists_per}
use Rattle.std.specs.List.{list_all, list_any, position}
use Rattle.sb_statements.specs.Soundness.{is_patience, is_start, is_statement, is_thread, is_target, names_differ, is_sound}
use Rattle.sb_call.specs.CallWords.{is_word}
use Rattle.sb_call.specs.ShortNames.{is_short_name}
use Rattle.sb_statements.specs.declared.scripts.Script.{Script}
use Rattle.sb_statements.specs.declared.scripts.StartLine.{StartLine}
use Rattle.sb_statements.specs.declared.scripts.TargetScript.{TargetScript}
use Rattle.sb_statements.specs.declared.statements.Statement.{Statement}
use Rattle.sb_book.specs.Readiness.{is_judged, is_ready}
use Rattle.sb_kernel.specs.Openings.{opened}
use Rattle.sb_rule.specs.WellMade.{are_well_made, is_named}
use Rattle.sb_rule.specs.declared.policies.Policy.{Policy}
use Rattle.sb_scripttext.proofs.LastChanged.{KeepsName, changed_all, changed_length, changed_differ}
use Rattle.sb_scripttext.proofs.Opened.{opens_with}
use Rattle.sb_scripttext.proofs.Sound.{at_made, made, ok_same, passed, branches, in_range, none_absent, patience_sound, start_sound, statement_sound}
use Rattle.sb_scripttext.specs.Arguments.{most_32}
use Rattle.sb_scripttext.specs.StartFaults.{start_fault}
use Rattle.sb_scripttext.specs.Drafts.{nothing, change_last, is_opening, is_in_thread, with_patience, with_start, with_target, one_thread_more, with_thread, one_statement_more, in_last_thread, named_by, statement_at, with_statement}
use Rattle.sb_scripttext.specs.declared.drafts.Draft.{Draft}
use Rattle.sb_scripttext.specs.Lines.{is_target_named, new_name, new_name_at, policy_number, policy_at, heading, patience, set_patience, add_target, add_thread, at_start, misplaced, not_here, start_line, statement_line, plain_line, line_of}
use Rattle.sb_scripttext.specs.Openings.{can_place}
use Rattle.sb_scripttext.specs.ScriptTexts.{Absence, ScriptFault, script_version, add_line, grammar, absence, absence_fault, first_absence, patience_of, script_of, finished, reading}
use Rattle.sb_text.specs.Readings.{on_line, read_lines, read_by, where_utf8, read_text}
use Rattle.sb_text.specs.Columns.{fails}
use Rattle.sb_scripttext.specs.Steps.{number_within}
use Rattle.sb_text.specs.Steps.{◌>>=◌, at_token, or_fails, end_at}
use Rattle.sb_scripttext.specs.declared.drafts.Named.{Named}
use Rattle.sb_scripttext.specs.declared.drafts.StatementAt.{StatementAt}
use Rattle.sb_scripttext.specs.declared.faults.ScriptKind.{ScriptKind}
use Rattle.sb_scripttext.specs.declared.faults.StartFault.{StartFault}
use Rattle.sb_scripttext.specs.declared.faults.ScriptKind.TheVariants.{NotUtf8, UnknownWord, BadNumber, SameName, NoSuchPolicy, TooMany, BadStart}
use Rattle.sb_text.specs.Lines.{NumberedLine, lines_of}
use Rattle.sb_text.specs.Tokens.{Lexemes, Next, End, Word, Quoted, Bad, by_tokens, tokens_of}
use Rattle.sb_text.specs.Utf8.{Place, not_utf8_place}
use Rattle.sb_scripttext.specs.declared.faults.ScriptLimit.TheVariants.{Openings, Targets, Threads, Statements}
use Rattle.sb_text.specs.declared.refusals.TokenFault.{TokenFault}
use Rattle.sb_text.specs.declared.refusals.WordFault.TheVariants.{Broken, Extra, Missing, Repeated, Unknown}

-- a list whose last item became another
abbrev pub behind : {A : Type 0} → List A → A → List A
behind before last = before ++ last ∷ []

and_true : (b : Bool) → (b && true) ≡ b
and_true true = refl
and_true false = refl

or_false : (b : Bool) → (b || false) ≡ b
or_false true = refl
or_false false = refl

all_behind : {A : Type 0} (p : A → Bool) (before : List A) (last : A) → list_all p (behind before last) ≡ (list_all p before && p last)
all_behind p before last = list_all-append p before (last ∷ []) ∙ ap (λ b. list_all p before && b) (and_true (p last))

-- what holds of all holds with one more of which it holds
pub all_more : {A : Type 0} (p : A → Bool) (before : List A) (last : A) → list_all p before ≡ true → p last ≡ true → list_all p (behind before last) ≡ true
all_more p before last h k = all_behind p before last ∙ and_from _ _ h k

one_longer : {A : Type 0} (most : ℕ) (before : List A) (last : A) → nat_lt (length before) most ≡ true → nat_le (length (behind before last)) most ≡ true
one_longer most before last h = let e : length (behind before last) ≡ length before + 1 = length-append before (last ∷ []) in grind (arith, nat_tests, h, e)

pub none_here : (first : Option (TokenFault ScriptKind)) (line : ℕ) (others : Option Absence) → first ≡ None → others ≡ None
    → ◌≡◌ {A = Option Absence} (elim first [ None ↦ others | Some fault ↦ Some (line, fault) ]) None
none_here None line others h k = k
none_here (Some fault) line others h k = absurd cc

-- nothing of the front, and nothing of the rest, is absent
absent_front : (targets : List TargetScript) (xs ys : List Named) → first_absence targets (xs ++ ys) ≡ None → first_absence targets xs ≡ None
absent_front targets [] ys h = refl
absent_front targets (x ∷ xs) ys h =
    let parts = none_absent (absence targets x) x.at.line (first_absence targets (xs ++ ys)) h in
    none_here (absence targets x) x.at.line (first_absence targets xs) parts.0 (absent_front targets xs ys parts.1)

absent_rest : (targets : List TargetScript) (xs ys : List Named) → first_absence targets (xs ++ ys) ≡ None → first_absence targets ys ≡ None
absent_rest targets [] ys h = h
absent_rest targets (x ∷ xs) ys h = absent_rest targets xs ys (none_absent (absence targets x) x.at.line (first_absence targets (xs ++ ys)) h).1

names_symm : (a b : List ℕ) → pointwise nat_eq a b ≡ pointwise nat_eq b a
names_symm = (lists_per (partial_equiv_from_equiv nat_eq_equiv)).symm

not_true : (b : Bool) → not b ≡ true → b ≡ false
not_true false h = refl
not_true true h = absurd cc

-- one more target, of another name
differ_more : (before : List TargetScript) (last : TargetScript) → names_differ before ≡ true → list_any (is_target_named last.name) before ≡ false
    → names_differ (behind before last) ≡ true
differ_more [] last h k = refl
differ_more (x ∷ xs) last h k =
    let parts = or_parts (is_target_named last.name x) (list_any (is_target_named last.name) xs) k in
    let apart = and_parts (not (list_any (λ other. pointwise nat_eq other.name x.name) xs)) (names_differ xs) h in
    let other : pointwise nat_eq last.name x.name ≡ false = names_symm last.name x.name ∙ parts.0 in
    let none : list_any (λ other. pointwise nat_eq other.name x.name) (behind xs last) ≡ false =
    list_any-append (λ other. pointwise nat_eq other.name x.name) xs (last ∷ []) ∙ rw (not_true _ apart.0) rw (other) refl in
    and_from _ _ (ap not none) (differ_more xs last apart.1 parts.1)

-- targets are sound, provided that what their statements name is there
record AreFine (count : ℕ) (targets : List TargetScript) (named : List Named) : Type 0 where
  few : nat_le (length targets) 8 ≡ true
  differ : names_differ targets ≡ true
  judged : list_all (is_judged count) targets ≡ true
  each : (all : List TargetScript) → first_absence all named ≡ None → list_all (is_target all) targets ≡ true

-- opening lines are sound, and can be placed one after another
record AreOpen (start : List StartLine) : Type 0 where
  few : nat_le (length start) 4096 ≡ true
  sound : list_all is_start start ≡ true
  placed : is_ok (opened start) ≡ true

record IsFine (count : ℕ) (sofar : Draft) : Type 0 where
  patience : is_patience (patience_of sofar.patience) ≡ true
  start : AreOpen sofar.start
  targets : AreFine count sofar.targets sofar.named

-- what a sound target has
target_parts : (all : List TargetScript) (x : TargetScript) → is_target all x ≡ true
    → ((nat_le 1 x.channels && nat_le x.channels 8) ≡ true) × (nat_le (length x.threads) 4 ≡ true) × (list_all (is_thread all) x.threads ≡ true)
target_parts all x e =
    let a = and_parts (nat_le 1 x.channels && nat_le x.channels 8 && nat_le (length x.threads) 4) (list_all (is_thread all) x.threads) e in
    let b = and_parts (nat_le 1 x.channels && nat_le x.channels 8) (nat_le (length x.threads) 4) a.0 in
    (b.0, b.1, a.1)

-- a target with other threads
with_threads : (all : List TargetScript) (x : TargetScript) (threads : List (List Statement)) → (nat_le 1 x.channels && nat_le x.channels 8) ≡ true
    → nat_le (length threads) 4 ≡ true → list_all (is_thread all) threads ≡ true → is_target all (record x { threads = threads }) ≡ true
with_threads all x threads c l t =
    and_from (nat_le 1 x.channels && nat_le x.channels 8 && nat_le (length threads) 4) (list_all (is_thread all) threads)
    (and_from (nat_le 1 x.channels && nat_le x.channels 8) (nat_le (length threads) 4) c l) t

-- what one thread more is
thread_made : (x y : TargetScript) → one_thread_more x ≡ Ok y → (nat_lt (length x.threads) 4 ≡ true) × (record x { threads = x.threads ++ [] ∷ [] } ≡ y)
thread_made x y e = passed (nat_lt (length x.threads) 4) (record x { threads = x.threads ++ [] ∷ [] }) y (TooMany Threads) e

thread_step : (all : List TargetScript) (x y : TargetScript) → is_target all x ≡ true → one_thread_more x ≡ Ok y → is_target all y ≡ true
thread_step all x y h e =
    let t = thread_made x y e in
    let parts = target_parts all x h in
    subst (λ y. is_target all y ≡ true) t.1
    (with_threads all x (x.threads ++ [] ∷ []) parts.0 (one_longer 4 x.threads [] t.0) (all_more (is_thread all) x.threads [] parts.2 refl))

-- what one statement more is
statement_made : (statement : Statement) (x y : TargetScript) → in_last_thread statement x ≡ Ok y
    → (threads : List (List Statement)) × (change_last (one_statement_more statement) x.threads ≡ Ok threads) × (record x { threads = threads } ≡ y)
statement_made statement x y e =
    let m = made (change_last (one_statement_more statement) x.threads) (λ threads. Ok (record x { threads = threads })) y e in
    (m.0, m.1, ok_same (record x { threads = m.0 }) y m.2)

in_thread_step : (all : List TargetScript) (statement : Statement) (statements more : List Statement) → is_statement all statement ≡ true
    → is_thread all statements ≡ true → one_statement_more statement statements ≡ Ok more → is_thread all more ≡ true
in_thread_step all statement statements more s h e =
    let t = passed (nat_lt (length statements) 4096) (statements ++ statement ∷ []) more (TooMany Statements) e in
    let parts = and_parts (nat_le (length statements) 4096) (list_all (is_statement all) statements) h in
    subst (λ more. is_thread all more ≡ true) t.1
    (and_from _ _ (one_longer 4096 statements statement t.0) (all_more (is_statement all) statements statement parts.1 s))

statement_step : (all : List TargetScript) (statement : Statement) (x y : TargetScript) → is_statement all statement ≡ true → is_target all x ≡ true
    → in_last_thread statement x ≡ Ok y → is_target all y ≡ true
statement_step all statement x y s h e =
    let m = statement_made statement x y e in
    let parts = target_parts all x h in
    subst (λ y. is_target all y ≡ true) m.2
    (with_threads all x m.0 parts.0 (ap (λ n. nat_le n 4) (changed_length (one_statement_more statement) x.threads m.0 m.1) ∙ parts.1)
    (changed_all (is_thread all) (one_statement_more statement) x.threads m.0 (λ before after h e. in_thread_step all statement before after s h e) parts.2 m.1))

-- targets whose last one a step changed, which keeps its name and its policy
changed_fine : (count : ℕ) (step : TargetScript → Result TargetScript ScriptKind) (xs ys : List TargetScript) (old new : List Named) → KeepsName step
    → ((x y : TargetScript) → step x ≡ Ok y → y.policy ≡ x.policy)
    → ((all : List TargetScript) → first_absence all new ≡ None → (first_absence all old ≡ None) × ((x y : TargetScript) → is_target all x ≡ true → step x ≡ Ok y → is_target all y ≡ true))
    → AreFine count xs old → change_last step xs ≡ Ok ys → AreFine count ys new
changed_fine count step xs ys old new k j t f e = record {
  few = ap (λ n. nat_le n 8) (changed_length step xs ys e) ∙ f.few;
  differ = changed_differ step xs ys k e ∙ f.differ;
  judged = changed_all (is_judged count) step xs ys (λ x y h e. ap (λ policy. nat_lt policy count) (j x y e) ∙ h) f.judged e;
  each = λ all a. changed_all (is_target all) step xs ys (t all a).1 (f.each all (t all a).0) e;
}

-- an opening line that was placed
pub start_made : {A : Type 0} (line tokens : Lexemes) (read : Result A ScriptKind) (x : A) → at_start line tokens read ≡ Ok x → read ≡ Ok x
start_made line tokens (Ok y) x h = ap Ok (ok_same y x h)
start_made line tokens (Err kind) x h = absurd cc

-- the patience, the opening lines and the targets so far
fine_start : (count : ℕ) (sofar new : Draft) (line : StartLine) → IsFine count sofar → is_start line ≡ true → with_start sofar line ≡ Ok new → IsFine count new
fine_start count sofar new line f s h =
    let p = placeable (start_fault sofar.start line) (can_place sofar.start line) (cond (nat_lt (length sofar.start) 4096) (Ok (record sofar { start = sofar.start ++ line ∷ [] })) (Err (TooMany Openings))) new h in
    let t = passed (nat_lt (length sofar.start) 4096) (record sofar { start = sofar.start ++ line ∷ [] }) new (TooMany Openings) p.1 in
    subst (IsFine count) t.1 (record {
      patience = f.patience;
      start = record {
        few = one_longer 4096 sofar.start line t.0;
        sound = all_more is_start sofar.start line f.start.sound s;
        placed = opens_with sofar.start line f.start.placed p.0;
      };
      targets = f.targets;
    })
  where
    placeable : (why : StartFault) (b : Bool) (x : Result Draft ScriptKind) (new : Draft) → cond b x (Err (BadStart why)) ≡ Ok new → (b ≡ true) × (x ≡ Ok new)
    placeable why true x new h = (refl, h)
    placeable why false x new h = absurd cc

-- what a heading says is in its ranges
record IsHeading (count : ℕ) (targets : List TargetScript) (heading : TargetScript) : Type 0 where
  new : list_any (is_target_named heading.name) targets ≡ false
  judged : nat_lt heading.policy count ≡ true
  channels : (nat_le 1 heading.channels && nat_le heading.channels 8) ≡ true
  none : heading.threads ≡ []

new_name_read : (targets : List TargetScript) (tokens : Lexemes) (x : List ℕ × Lexemes) → new_name_at targets tokens ≡ Ok x
    → list_any (is_target_named x.0) targets ≡ false
unfolding new_name_at
new_name_read targets (Next place (Word w) tokens) x h =
    let n = made (at_token (Next place (Word w) tokens) (new_name targets w)) (λ name. Ok (name, tokens)) x h in
    let t = by_tests (is_short_name w) (list_any (is_target_named w) targets) w n.0 (at_made (Next place (Word w) tokens) (new_name targets w) n.0 n.1) in
    subst (λ (y : List ℕ × Lexemes). list_any (is_target_named y.0) targets ≡ false) (ok_same (n.0, tokens) x n.2)
    (subst (λ name. list_any (is_target_named name) targets ≡ false) t.1 t.0)
  where
    by_tests : (a b : Bool) (w name : List ℕ) → cond a (cond b (Err SameName) (Ok w)) (Err (UnknownWord Unknown)) ≡ Ok name → (b ≡ false) × (w ≡ name)
    by_tests true false w name h = (refl, ok_same w name h)
    by_tests true true w name h = absurd cc
    by_tests false b w name h = absurd cc
new_name_read targets (Next place (Quoted q) tokens) x h = absurd cc
new_name_read targets (Next place Bad tokens) x h = absurd cc
new_name_read targets (End place) x h = absurd cc

position_below : {A : Type 0} (p : A → Bool) (xs : List A) (n : ℕ) → position p xs ≡ Some n → nat_lt n (length xs) ≡ true
position_below p xs n h = grind (arith, nat_tests, h)

policy_read : (policies : List Policy) (tokens : Lexemes) (x : ℕ × Lexemes) → policy_at policies tokens ≡ Ok x → nat_lt x.0 (length policies) ≡ true
unfolding policy_at
policy_read policies (Next here (Word w) tokens) x h = by_place (position (is_named w) policies) refl
    (made (or_fails (Next here (Word w) tokens) NoSuchPolicy (position (is_named w) policies)) (λ place. at_token (Next here (Word w) tokens) (policy_number place) >>= λ policy. Ok (policy, tokens)) x h)
  where
    by_place : (place : Option ℕ) → position (is_named w) policies ≡ place
        → (n : ℕ) × (or_fails (Next here (Word w) tokens) NoSuchPolicy place ≡ Ok n) × ((at_token (Next here (Word w) tokens) (policy_number n) >>= λ policy. Ok (policy, tokens)) ≡ Ok x) → nat_lt x.0 (length policies) ≡ true
    by_place (Some n) e m =
        let p = made (at_token (Next here (Word w) tokens) (policy_number m.0)) (λ policy. Ok (policy, tokens)) x m.2 in
        let t = passed (nat_le m.0 most_32) m.0 p.0 NoSuchPolicy (at_made (Next here (Word w) tokens) (policy_number m.0) p.0 p.1) in
        subst (λ (y : ℕ × Lexemes). nat_lt y.0 (length policies) ≡ true) (ok_same (p.0, tokens) x p.2)
        (subst (λ i. nat_lt i (length policies) ≡ true) (ok_same n m.0 m.1 ∙ t.1) (position_below (is_named w) policies n e))
    by_place None e m =
        let h : ◌≡◌ {A = Result ℕ (TokenFault ScriptKind)} (or_fails (Next here (Word w) tokens) NoSuchPolicy None) (Ok m.0) = m.1 in absurd cc
policy_read policies (Next place (Quoted q) tokens) x h = absurd cc
policy_read policies (Next place Bad tokens) x h = absurd cc
policy_read policies (End place) x h = absurd cc

heading_read : (policies : List Policy) (targets : List TargetScript) (tokens : Lexemes) (x : TargetScript) → heading policies targets tokens ≡ Ok x
    → IsHeading (length policies) targets x
unfolding heading
heading_read policies targets tokens x h =
    let n = made (new_name_at targets tokens)
    (λ name. policy_at policies name.1 >>= λ policy. number_within 1 8 BadNumber (UnknownWord Missing) policy.1 >>= λ channels. end_at (UnknownWord Extra) (UnknownWord Broken) channels.1
    >>= λ end. Ok (record { name = name.0; policy = policy.0; channels = channels.0; threads = [] })) x h in
    let p = made (policy_at policies n.0.1)
    (λ policy. number_within 1 8 BadNumber (UnknownWord Missing) policy.1 >>= λ channels. end_at (UnknownWord Extra) (UnknownWord Broken) channels.1
    >>= λ end. Ok (record { name = n.0.0; policy = policy.0; channels = channels.0; threads = [] })) x n.2 in
    let c = made (number_within 1 8 BadNumber (UnknownWord Missing) p.0.1)
    (λ channels. end_at (UnknownWord Extra) (UnknownWord Broken) channels.1 >>= λ end. Ok (record { name = n.0.0; policy = p.0.0; channels = channels.0; threads = [] })) x p.2 in
    let e = made (end_at (UnknownWord Extra) (UnknownWord Broken) c.0.1) (λ end. Ok (record { name = n.0.0; policy = p.0.0; channels = c.0.0; threads = [] })) x c.2 in
    subst (IsHeading (length policies) targets) {x = record { name = n.0.0; policy = p.0.0; channels = c.0.0; threads = [] }} (ok_same (record { name = n.0.0; policy = p.0.0; channels = c.0.0; threads = [] }) x e.2) (record {
      new = new_name_read targets tokens n.0 n.1;
      judged = policy_read policies n.0.1 p.0 p.1;
      channels = in_range 1 8 BadNumber (UnknownWord Missing) p.0.1 c.0 c.1;
      none = refl;
    })

fine_target : (count : ℕ) (sofar new : Draft) (target : TargetScript) → IsFine count sofar → IsHeading count sofar.targets target
    → with_target sofar target ≡ Ok new → IsFine count new
fine_target count sofar new target f i e =
    let old = sofar.targets in
    let t = passed (nat_lt (length old) 8) (record sofar { targets = old ++ target ∷ [] }) new (TooMany Targets) e in
    let bare : (all : List TargetScript) → is_target all target ≡ true =
    λ all. subst (λ threads. is_target all (record target { threads = threads }) ≡ true) (sym i.none) (with_threads all target [] i.channels refl refl) in
    subst (IsFine count) t.1 (record {
      patience = f.patience;
      start = f.start;
      targets = record {
        few = one_longer 8 old target t.0;
        differ = differ_more old target f.targets.differ i.new;
        judged = all_more (is_judged count) old target f.targets.judged i.judged;
        each = λ all a. all_more (is_target all) old target (f.targets.each all a) (bare all);
      };
    })

fine_thread : (count : ℕ) (sofar new : Draft) → IsFine count sofar → with_thread sofar ≡ Ok new → IsFine count new
fine_thread count sofar new f e =
    let m = made (change_last one_thread_more sofar.targets) (λ targets. Ok (record sofar { targets = targets })) new e in
    subst (IsFine count) (ok_same (record sofar { targets = m.0 }) new m.2) (record {
      patience = f.patience;
      start = f.start;
      targets = changed_fine count one_thread_more sofar.targets m.0 sofar.named sofar.named
          (λ x y e. ap (λ (y : TargetScript). y.name) (sym (thread_made x y e).1)) (λ x y e. ap (λ (y : TargetScript). y.policy) (sym (thread_made x y e).1))
          (λ all a. (a, thread_step all)) f.targets m.1;
    })

fine_statement : (count : ℕ) (at : StatementAt) (sofar new : Draft) (statement : Statement) → IsFine count sofar
    → ((all : List TargetScript) → first_absence all (named_by at statement) ≡ None → is_statement all statement ≡ true)
    → with_statement sofar at statement ≡ Ok new → IsFine count new
fine_statement count at sofar new statement f s e =
    let named = sofar.named ++ named_by at statement in
    let step = in_last_thread statement in
    let m = made (change_last step sofar.targets) (λ targets. Ok (record sofar { targets = targets; named = named })) new e in
    subst (IsFine count) (ok_same (record sofar { targets = m.0; named = named }) new m.2) (record {
      patience = f.patience;
      start = f.start;
      targets = changed_fine count step sofar.targets m.0 sofar.named named
          (λ x y e. ap (λ (y : TargetScript). y.name) (sym (statement_made statement x y e).2))
          (λ x y e. ap (λ (y : TargetScript). y.policy) (sym (statement_made statement x y e).2))
          (λ all a. (
            absent_front all sofar.named (named_by at statement) a,
            λ x y h e. statement_step all statement x y (s all (absent_rest all sofar.named (named_by at statement) a)) h e,
          ))
          f.targets m.1;
    })

-- what a line makes of what is so far there, and is fine
abbrev Makes : ℕ → Result Draft (TokenFault ScriptKind) → Type 0
Makes count read = (new : Draft) → read ≡ Ok new → IsFine count new

patience_fine : (count : ℕ) (sofar : Draft) (line tokens : Lexemes) → IsFine count sofar → Makes count (set_patience sofar line tokens)
unfolding set_patience
patience_fine count sofar line tokens f = by_patience sofar.patience
  where
    told : Makes count (patience tokens >>= λ n. Ok (with_patience sofar n))
    told new h =
        let n = made (patience tokens) (λ n. Ok (with_patience sofar n)) new h in
        subst (IsFine count) (ok_same (with_patience sofar n.0) new n.2) (record {
          patience = patience_sound tokens n.0 n.1;
          start = f.start;
          targets = f.targets;
        })

    by_patience : (old : Option ℕ) → Makes count (elim old [
      | None ↦ cond (is_opening sofar) (patience tokens >>= λ n. Ok (with_patience sofar n)) (misplaced line)
      | Some n ↦ fails line (UnknownWord Repeated)
    ])
    by_patience None = branches (Makes count) (is_opening sofar) _ _ told (λ new h. absurd cc)
    by_patience (Some n) = λ new h. absurd cc

target_fine : (policies : List Policy) (sofar : Draft) (line tokens : Lexemes) → IsFine (length policies) sofar
    → Makes (length policies) (add_target policies sofar line tokens)
unfolding add_target
target_fine policies sofar line tokens f new h =
    let x = made (heading policies sofar.targets tokens) (λ target. at_token line (with_target sofar target)) new h in
    fine_target (length policies) sofar new x.0 f (heading_read policies sofar.targets tokens x.0 x.1) (at_made line (with_target sofar x.0) new x.2)

thread_fine : (count : ℕ) (sofar : Draft) (line tokens : Lexemes) → IsFine count sofar → Makes count (add_thread sofar line tokens)
unfolding add_thread
thread_fine count sofar line tokens f = branches (Makes count) (is_opening sofar) (misplaced line) _ (λ new h. absurd cc)
    (λ new h. fine_thread count sofar new f (at_made line (with_thread sofar) new (made (end_at (UnknownWord Extra) (UnknownWord Broken) tokens) (λ end. at_token line (with_thread sofar)) new h).2))

plain_fine : (count number : ℕ) (w : List ℕ) (sofar : Draft) (line tokens : Lexemes) → IsFine count sofar
    → Makes count (plain_line w sofar number line tokens)
unfolding plain_line
plain_fine count number w sofar line tokens f =
    branches (Makes count) (is_in_thread sofar) _ _
    (λ new h. let at = statement_at number tokens in
    let s = made (statement_line w line tokens) (λ statement. at_token line (with_statement sofar at statement)) new h in
    fine_statement count at sofar new s.0 f (λ all a. statement_sound w line tokens s.0 s.1 all at a) (at_made line (with_statement sofar at s.0) new s.2))
    (branches (Makes count) (is_opening sofar) _ (not_here w line)
    (λ new h. let s = made (start_line w line tokens) (λ start. at_start line tokens (with_start sofar start)) new h in
    fine_start count sofar new s.0 f (start_sound w line tokens s.0 s.1) (start_made line tokens (with_start sofar s.0) new s.2))
    (λ new h. absurd cc))

line_fine : (policies : List Policy) (sofar : Draft) (line : ℕ) (tokens : Lexemes) → IsFine (length policies) sofar
    → Makes (length policies) (line_of policies sofar line tokens)
unfolding line_of
line_fine policies sofar number (Next place (Word w) tokens) f =
    let line = Next place (Word w) tokens in
    branches (Makes (length policies)) (is_word (codes "patience") w) _ _ (patience_fine (length policies) sofar line tokens f)
    (branches (Makes (length policies)) (is_word (codes "target") w) _ _ (target_fine policies sofar line tokens f)
    (branches (Makes (length policies)) (is_word (codes "thread") w) _ _ (thread_fine (length policies) sofar line tokens f)
    (plain_fine (length policies) number w sofar line tokens f)))
line_fine policies sofar line (Next place (Quoted q) tokens) f = λ new h. absurd cc
line_fine policies sofar line (Next place Bad tokens) f = λ new h. absurd cc
line_fine policies sofar line (End place) f = λ new h. absurd cc

pub on_this : {A : Type 0} (line : NumberedLine) (read : Result A (TokenFault ScriptKind)) (x : A) → on_line by_tokens line read ≡ Ok x → read ≡ Ok x
on_this line (Ok y) x h = ap Ok (ok_same y x h)
on_this line (Err fault) x h = absurd cc

lines_fine : (policies : List Policy) (version : ℕ) (sofar : Draft) (lines : List NumberedLine) → IsFine (length policies) sofar
    → (new : Draft) → read_lines (grammar policies) version sofar lines ≡ Ok new → IsFine (length policies) new
unfolding read_lines
lines_fine policies version sofar [] f new h = subst (IsFine (length policies)) (ok_same sofar new h) f
lines_fine policies version sofar (line ∷ lines) f new h =
    let read = add_line policies sofar line in
    let m = made (on_line by_tokens line read) (λ more. read_lines (grammar policies) version more lines) new h in
    lines_fine policies version m.0 lines (line_fine policies sofar line.number (tokens_of line.text) f m.0 (on_this line read m.0 m.1)) new m.2

nothing_fine : (count : ℕ) → IsFine count nothing
nothing_fine count = record {
  patience = refl;
  start = record { few = refl; sound = refl; placed = refl };
  targets = record { few = refl; differ = refl; judged = refl; each = λ all a. refl };
}

-- a script is ready for this many policies
record IsReady (count : ℕ) (script : Script) : Type 0 where
  sound : is_sound script ≡ true
  judged : list_all (is_judged count) script.targets ≡ true
  placed : is_ok (opened script.start) ≡ true

sofar_ready : (count : ℕ) (text : List ℕ) (sofar : Draft) (script : Script) → IsFine count sofar → finished text sofar ≡ Ok script → IsReady count script
sofar_ready count text sofar script f h = by_absence (first_absence sofar.targets sofar.named) refl h
  where
    by_absence : (absent : Option Absence) → first_absence sofar.targets sofar.named ≡ absent
        → ◌≡◌ {A = Result Script ScriptFault} (elim absent [ None ↦ Ok (script_of sofar) | Some absence ↦ Err (absence_fault text absence) ]) (Ok script) → IsReady count script
    by_absence None a h =
        let t = f.targets in
        subst (IsReady count) (ok_same (script_of sofar) script h) (record {
          sound = and_from _ _ (and_from _ _ (and_from _ _ f.patience f.start.few) f.start.sound) (and_from _ _ (and_from _ _ t.few t.differ) (t.each sofar.targets a));
          judged = t.judged;
          placed = f.start.placed;
        })
    by_absence (Some fault) a h = absurd cc

by_fine : (policies : List Policy) (lines : List NumberedLine) (sofar : Draft) → read_by (grammar policies) lines ≡ Ok sofar → IsFine (length policies) sofar
by_fine policies [] sofar h = absurd cc
by_fine policies (first ∷ lines) sofar h =
    let m = made (on_line by_tokens first (script_version first.text)) (λ version. read_lines (grammar policies) version nothing lines) sofar h in
    lines_fine policies m.0 nothing lines (nothing_fine (length policies)) sofar m.2

ready : (policies : List Policy) (text : List ℕ) (script : Script) → reading policies text ≡ Ok script → IsReady (length policies) script
ready policies text script h =
    let d = made (read_text NotUtf8 (grammar policies) text) (λ sofar. finished text sofar) script h in
    sofar_ready (length policies) text d.0 script (by_utf8 d.0 (not_utf8_place text) d.1) d.2
  where
    by_utf8 : (sofar : Draft) (place : Option Place)
        → where_utf8 NotUtf8 place (read_by (grammar policies) (lines_of text)) ≡ Ok sofar
        → IsFine (length policies) sofar
    by_utf8 sofar None h = by_fine policies (lines_of text) sofar h
    by_utf8 sofar (Some place) h = absurd cc

pub scripts_are_ready : (policies : List Policy) (text : List ℕ) (script : Script) → are_well_made policies ≡ true → reading policies text ≡ Ok script
    → is_ready policies script ≡ true
scripts_are_ready policies text script m h =
    let r = ready policies text script h in and_from _ _ (and_from _ _ (and_from _ _ r.sound m) r.judged) r.placed
