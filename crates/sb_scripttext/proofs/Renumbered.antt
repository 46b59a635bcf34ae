-- What is read of lines with other numbers.
use Rattle.std.proofs.Common.{◌≡◌, refl, sym, ap, ◌∙◌, arith, append-nil, ℕ, zero, suc, ◌+◌, ◌-◌, ◌<◌, ◌≤◌, ◌&&◌, List, [], ◌∷◌, ◌++◌, Bool, true, false, nat_lt, cond, length, map, Option, None, Some, Result, Ok, Err, codes}
use Rattle.std.proofs.lemmas.Bool.{false≢true}
use Rattle.std.proofs.lemmas.Bool.Decides.{nat_tests}
use Rattle.std.specs.Prelude.{slice_get}
use Rattle.sb_call.specs.CallWords.{is_word}
use Rattle.sb_statements.specs.declared.scripts.StartLine.{StartLine}
use Rattle.sb_statements.specs.declared.scripts.TargetScript.{TargetScript}
use Rattle.sb_statements.specs.declared.statements.Statement.{Statement}
use Rattle.sb_statements.specs.declared.statements.Statement.TheVariants.{Call, Store, Exchange, Load, Wait}
use Rattle.sb_rule.specs.declared.policies.Policy.{Policy}
use Rattle.sb_scripttext.proofs.Prefixes.{read_by_lines}
use Rattle.sb_scripttext.specs.Drafts.{change_last, is_opening, is_in_thread, with_patience, with_start, with_target, one_thread_more, with_thread, in_last_thread, named_by, statement_at, with_statement}
use Rattle.sb_scripttext.specs.declared.drafts.Draft.{Draft}
use Rattle.sb_scripttext.specs.Laws.{SkippedLinesCountAlone}
use Rattle.sb_scripttext.specs.Lines.{at_start, heading, misplaced, patience, set_patience, add_target, add_thread, start_line, statement_line, plain_line, line_of}
use Rattle.sb_scripttext.specs.Openings.{can_place}
use Rattle.sb_scripttext.specs.ScriptTexts.{Absence, ScriptFault, absence_on, absence_fault, grammar, absence, first_absence, script_of, finished}
use Rattle.sb_text.specs.MissingTexts.{line_or_empty, or_empty}
use Rattle.sb_text.specs.Steps.{◌>>=◌, at_token, on_value, end_at}
use Rattle.sb_scripttext.specs.declared.drafts.Named.{Named}
use Rattle.sb_scripttext.specs.declared.drafts.StatementAt.{StatementAt}
use Rattle.sb_scripttext.specs.declared.faults.ScriptKind.{ScriptKind}
use Rattle.sb_scripttext.specs.declared.faults.ScriptKind.TheVariants.{UnknownWord, TooMany}
use Rattle.sb_text.specs.LineLaws.{LinesAppend, WrittenLinesAreRead, ended, is_line}
use Rattle.sb_text.specs.Lines.{raw_lines, lines_from, lines_of, without_cr}
use Rattle.sb_text.specs.ReadingLaws as laws
use Rattle.sb_text.specs.Readings.{is_some_line, read_by, renumbered, behind}
use Rattle.sb_text.specs.Columns.{fails}
use Rattle.sb_text.specs.Tokens.{Lexemes, Next, End, Word, Quoted, Bad, tokens_of}
use Rattle.sb_scripttext.specs.declared.faults.ScriptLimit.TheVariants.{Openings, Targets}
use Rattle.sb_text.specs.declared.refusals.TokenFault.{TokenFault}
use Rattle.sb_text.specs.declared.refusals.WordFault.TheVariants.{Broken, Extra, Repeated}

then : {A B C E : Type 0} (f : B → C) (first : Result A E) (g : A → Result B E) (h : A → Result C E)
    → ((x : A) → on_value f (g x) ≡ h x) → on_value f (first >>= g) ≡ (first >>= h)
then f (Ok x) g h same = same x
then f (Err e) g h same = refl

choice : {A B E : Type 0} (f : A → B) (b : Bool) (x y : Result A E) (v w : Result B E) → on_value f x ≡ v → on_value f y ≡ w
    → on_value f (cond b x y) ≡ cond b v w
choice f true x y v w h k = h
choice f false x y v w h k = k

map_append : {A B : Type 0} (f : A → B) (xs ys : List A) → map f (xs ++ ys) ≡ map f xs ++ map f ys
map_append f [] ys = refl
map_append f (x ∷ xs) ys = ap (λ zs. f x ∷ zs) (map_append f xs ys)

-- a fault that was placed
placed_moves : {A B K : Type 0} (f : A → B) (tokens : Lexemes) (read : Result A K) → on_value f (at_token tokens read) ≡ at_token tokens (on_value f read)
placed_moves f tokens (Ok x) = refl
placed_moves f tokens (Err kind) = refl

started_moves : {A B : Type 0} (f : A → B) (line tokens : Lexemes) (read : Result A ScriptKind)
    → on_value f (at_start line tokens read) ≡ at_start line tokens (on_value f read)
started_moves f line tokens (Ok x) = refl
started_moves f line tokens (Err kind) = refl

-- what statements name, on lines with other numbers
abbrev renumbered_at : (ℕ → ℕ) → StatementAt → StatementAt
renumbered_at f at = record { line = f at.line; target = at.target; channel = at.channel }

abbrev renumbered_named : (ℕ → ℕ) → Named → Named
renumbered_named f named = record { at = renumbered_at f named.at; target = named.target; channel = named.channel }

abbrev renumbered_sofar : (ℕ → ℕ) → Draft → Draft
renumbered_sofar f sofar = record sofar { named = map (renumbered_named f) sofar.named }

names_move : (f : ℕ → ℕ) (at : StatementAt) (statement : Statement) → map (renumbered_named f) (named_by at statement) ≡ named_by (renumbered_at f at) statement
names_move f at (Call tag args) = refl
names_move f at (Store target word value) = refl
names_move f at (Exchange target word from to) = refl
names_move f at (Load target word) = refl
names_move f at (Wait target word value most) = refl

start_moves : (f : ℕ → ℕ) (sofar : Draft) (line : StartLine) → on_value (renumbered_sofar f) (with_start sofar line) ≡ with_start (renumbered_sofar f sofar) line
start_moves f sofar line =
    choice (renumbered_sofar f) (can_place sofar.start line) _ _ _ _
    (choice (renumbered_sofar f) (nat_lt (length sofar.start) 4096) (Ok (record sofar { start = sofar.start ++ line ∷ [] })) (Err (TooMany Openings)) _ _ refl refl) refl

target_moves : (f : ℕ → ℕ) (sofar : Draft) (target : TargetScript) → on_value (renumbered_sofar f) (with_target sofar target) ≡ with_target (renumbered_sofar f sofar) target
target_moves f sofar target =
    choice (renumbered_sofar f) (nat_lt (length sofar.targets) 8) (Ok (record sofar { targets = sofar.targets ++ target ∷ [] })) (Err (TooMany Targets)) _ _ refl refl

thread_moves : (f : ℕ → ℕ) (sofar : Draft) → on_value (renumbered_sofar f) (with_thread sofar) ≡ with_thread (renumbered_sofar f sofar)
thread_moves f sofar = then (renumbered_sofar f) (change_last one_thread_more sofar.targets) _ _ (λ targets. refl)

statement_moves : (f : ℕ → ℕ) (sofar : Draft) (at : StatementAt) (statement : Statement)
    → on_value (renumbered_sofar f) (with_statement sofar at statement) ≡ with_statement (renumbered_sofar f sofar) (renumbered_at f at) statement
statement_moves f sofar at statement =
    then (renumbered_sofar f) (change_last (in_last_thread statement) sofar.targets) _ _
    (λ targets. ap (λ (names : List Named). Ok (record sofar { targets = targets; named = names })) names)
  where
    names : map (renumbered_named f) (sofar.named ++ named_by at statement) ≡ map (renumbered_named f) sofar.named ++ named_by (renumbered_at f at) statement
    names = map_append (renumbered_named f) sofar.named (named_by at statement) ∙ ap (λ more. map (renumbered_named f) sofar.named ++ more) (names_move f at statement)

patience_moves : (f : ℕ → ℕ) (sofar : Draft) (line tokens : Lexemes)
    → on_value (renumbered_sofar f) (set_patience sofar line tokens) ≡ set_patience (renumbered_sofar f sofar) line tokens
unfolding set_patience
patience_moves f sofar line tokens = by_patience sofar.patience
  where
    by_patience : (old : Option ℕ) → on_value (renumbered_sofar f) (elim old [
      | None ↦ cond (is_opening sofar) (patience tokens >>= λ n. Ok (with_patience sofar n)) (misplaced line)
      | Some n ↦ fails line (UnknownWord Repeated)
    ]) ≡ elim old [
      | None ↦ cond (is_opening sofar) (patience tokens >>= λ n. Ok (with_patience (renumbered_sofar f sofar) n)) (misplaced line)
      | Some n ↦ fails line (UnknownWord Repeated)
    ]
    by_patience None = choice (renumbered_sofar f) (is_opening sofar) _ _ _ _ (then (renumbered_sofar f) (patience tokens) _ _ (λ n. refl)) refl
    by_patience (Some n) = refl

-- a line adds the same, with other numbers
line_moves : (f : ℕ → ℕ) (policies : List Policy) (sofar : Draft) (line : ℕ) (tokens : Lexemes)
    → on_value (renumbered_sofar f) (line_of policies sofar line tokens) ≡ line_of policies (renumbered_sofar f sofar) (f line) tokens
unfolding line_of add_target add_thread plain_line
line_moves f policies sofar number (Next place (Word w) tokens) =
    let line = Next place (Word w) tokens in
    choice (renumbered_sofar f) (is_word (codes "patience") w) _ _ _ _ (patience_moves f sofar line tokens)
    (choice (renumbered_sofar f) (is_word (codes "target") w) _ _ _ _ (then (renumbered_sofar f) (heading policies sofar.targets tokens) _ _
    (λ target. placed_moves (renumbered_sofar f) line (with_target sofar target) ∙ ap (at_token line) (target_moves f sofar target)))
    (choice (renumbered_sofar f) (is_word (codes "thread") w) _ _ _ _
    (choice (renumbered_sofar f) (is_opening sofar) _ _ _ _ refl (then (renumbered_sofar f) (end_at (UnknownWord Extra) (UnknownWord Broken) tokens) _ _
    (λ end. placed_moves (renumbered_sofar f) line (with_thread sofar) ∙ ap (at_token line) (thread_moves f sofar))))
    (choice (renumbered_sofar f) (is_in_thread sofar) _ _ _ _
    (then (renumbered_sofar f) (statement_line w line tokens) _ _
    (λ statement. placed_moves (renumbered_sofar f) line (with_statement sofar (statement_at number tokens) statement)
    ∙ ap (at_token line) (statement_moves f sofar (statement_at number tokens) statement)))
    (choice (renumbered_sofar f) (is_opening sofar) _ _ _ _ (then (renumbered_sofar f) (start_line w line tokens) _ _
    (λ start. started_moves (renumbered_sofar f) line tokens (with_start sofar start)
    ∙ ap (at_start line tokens) (start_moves f sofar start))) refl))))
line_moves f policies sofar number (End place) = refl
line_moves f policies sofar number (Next place (Quoted q) tokens) = refl
line_moves f policies sofar number (Next place Bad tokens) = refl

-- what is not there, on a line with another number
abbrev renumbered_absence : (ℕ → ℕ) → Option Absence → Option Absence
renumbered_absence f None = None
renumbered_absence f (Some absence) = Some (f absence.0, absence.1)

absence_moves : (f : ℕ → ℕ) (targets : List TargetScript) (named : List Named)
    → first_absence targets (map (renumbered_named f) named) ≡ renumbered_absence f (first_absence targets named)
absence_moves f targets [] = refl
absence_moves f targets (x ∷ xs) = by_first (absence_moves f targets xs) (absence targets x)
  where
    by_first : first_absence targets (map (renumbered_named f) xs) ≡ renumbered_absence f (first_absence targets xs) → (first : Option (TokenFault ScriptKind))
        → elim first [ None ↦ first_absence targets (map (renumbered_named f) xs) | Some fault ↦ Some (f x.at.line, fault) ]
        ≡ renumbered_absence f (elim first [ None ↦ first_absence targets xs | Some fault ↦ Some (x.at.line, fault) ])
    by_first others None = others
    by_first others (Some fault) = refl

-- a line of the same text has its other number in the other text
abbrev IsOtherText : (ℕ → ℕ) → List ℕ → List ℕ → Type 0
IsOtherText f text other = (number : ℕ) → line_or_empty (f number) other ≡ line_or_empty number text

finished_moves : (f : ℕ → ℕ) (text other : List ℕ) (sofar : Draft) → IsOtherText f text other
    → renumbered f (λ script. script) (finished text sofar) ≡ finished other (renumbered_sofar f sofar)
finished_moves f text other sofar same =
    by_absence (first_absence sofar.targets sofar.named)
    ∙ ap (λ (absent : Option Absence). elim absent [ None ↦ Ok (script_of sofar) | Some absence ↦ Err (absence_fault other absence) ]) (sym (absence_moves f sofar.targets sofar.named))
  where
    by_absence : (absent : Option Absence)
        → renumbered f (λ script. script) (elim absent [ None ↦ Ok (script_of sofar) | Some absence ↦ Err (absence_fault text absence) ])
        ≡ elim (renumbered_absence f absent) [ None ↦ Ok (script_of sofar) | Some absence ↦ Err (absence_fault other absence) ]
    by_absence None = refl
    by_absence (Some absence) = ap (λ line. Err (absence_on (f absence.0) absence.1 line)) (sym (same absence.0))

read_moves : (f : ℕ → ℕ) (text other : List ℕ) (read : Result Draft ScriptFault) → IsOtherText f text other
    → renumbered f (λ script. script) (read >>= λ sofar. finished text sofar) ≡ (renumbered f (renumbered_sofar f) read >>= λ sofar. finished other sofar)
read_moves f text other (Ok sofar) same = finished_moves f text other sofar same
read_moves f text other (Err fault) same = refl

-- ---- the lines of a text in which a line was put in

before_it : {A B : Type 0} (g : A → B) (xs ys zs : List A) (j : ℕ) → j < length xs → slice_get (map g (xs ++ ys)) j ≡ slice_get (map g (xs ++ zs)) j
before_it g [] ys zs j h = absurd (omega (arith, h))
before_it g (x ∷ xs) ys zs zero h = refl
before_it g (x ∷ xs) ys zs (suc j) h = before_it g xs ys zs j (omega (arith, h))

after_it : {A B : Type 0} (g : A → B) (xs ys : List A) (l : A) (j : ℕ) → length xs ≤ j → slice_get (map g (xs ++ l ∷ ys)) (suc j) ≡ slice_get (map g (xs ++ ys)) j
after_it g [] ys l j h = refl
after_it g (x ∷ xs) ys l zero h = absurd (omega (arith, h))
after_it g (x ∷ xs) ys l (suc j) h = after_it g xs ys l j (omega (arith, h))

put_in : {A B : Type 0} (g : A → B) (xs ys : List A) (l : A) (k : ℕ) → 1 ≤ length xs
    → slice_get (map g (xs ++ l ∷ ys)) (behind (length xs) k - 1) ≡ slice_get (map g (xs ++ ys)) (k - 1)
put_in g xs ys l k some = by_number (nat_lt (length xs) k) refl
  where
    by_number : (t : Bool) → nat_lt (length xs) k ≡ t → slice_get (map g (xs ++ l ∷ ys)) (cond t (k + 1) k - 1) ≡ slice_get (map g (xs ++ ys)) (k - 1)
    by_number true t =
        let far : length xs ≤ k - 1 = grind (arith, nat_tests, t) in
        let one : k + 1 - 1 ≡ suc (k - 1) = grind (arith, nat_tests, t) in
        ap (slice_get (map g (xs ++ l ∷ ys))) one ∙ after_it g xs ys l (k - 1) far
    by_number false t = before_it g xs (l ∷ ys) ys (k - 1) (grind (arith, nat_tests, t, some))

some_raw : (n : ℕ) (raw : List (List ℕ)) → is_some_line (lines_from n raw) ≡ true → 1 ≤ length raw
some_raw n [] h = absurd (false≢true h)
some_raw n (line ∷ raw) h = omega arith

other_text : LinesAppend → WrittenLinesAreRead → (front line rest : List ℕ) → is_line line ≡ true → is_some_line (lines_of (ended front)) ≡ true
    → IsOtherText (behind (length (raw_lines (ended front)))) (ended front ++ rest) (ended front ++ (ended line ++ rest))
other_text appended written front line rest i s number =
    let raw = raw_lines (ended front) in
    let alone : raw_lines (ended line) ≡ line ∷ [] = ap raw_lines (sym (append-nil (ended line))) ∙ written (line ∷ []) (and_true (is_line line) i) in
    let whole : raw_lines (ended front ++ (ended line ++ rest)) ≡ raw ++ line ∷ raw_lines rest =
    appended front (ended line ++ rest) ∙ ap (λ lines. raw ++ lines) (appended line rest ∙ ap (λ lines. lines ++ raw_lines rest) alone) in
    ap (λ lines. or_empty (slice_get (map without_cr lines) (behind (length raw) number - 1))) whole
    ∙ ap or_empty (put_in without_cr raw (raw_lines rest) line number (some_raw 1 raw s))
    ∙ ap (λ lines. or_empty (slice_get (map without_cr lines) (number - 1))) (sym (appended front rest))
  where
    and_true : (b : Bool) → b ≡ true → (b && true) ≡ true
    and_true true h = refl
    and_true false h = h

pub skipped_lines_count_alone : LinesAppend → WrittenLinesAreRead → laws.SkippedLinesCountAlone Draft ScriptKind → SkippedLinesCountAlone
skipped_lines_count_alone appended written law policies front line rest i k s u v =
    let f = behind (length (raw_lines (ended front))) in
    let text = ended front ++ rest in
    let other = ended front ++ (ended line ++ rest) in
    read_by_lines policies other v
    ∙ ap (λ (read : Result Draft ScriptFault). read >>= λ sofar. finished other sofar)
    (law (grammar policies) (renumbered_sofar f) front line rest (refl, λ version sofar line. line_moves f policies sofar line.number (tokens_of line.text)) i k s)
    ∙ sym (read_moves f text other (read_by (grammar policies) (lines_of text)) (other_text appended written front line rest i s))
    ∙ ap (renumbered f (λ script. script)) (sym (read_by_lines policies text u))
