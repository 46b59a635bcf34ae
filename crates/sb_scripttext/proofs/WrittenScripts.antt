-- The text of a script is read as that script.
use Rattle.std.proofs.Common.{◌≡◌, ◌∙◌, ℕ, suc, ◌+◌, ◌≤◌, nat_eq, nat_le, nat_lt, Bool, true, false, not, cond, ◌&&◌, ◌||◌, List, [], ◌∷◌, ◌++◌, append-nil, append_assoc, length, length-append, map, None, Some, Option, Ok, Err, Result, codes, ap, refl, sym, subst, arith}
use Rattle.std.specs.Cmp.Lexicographic.{pointwise}
use Rattle.std.specs.List.{flat_map, list_all, list_any}
use Rattle.std.specs.Prelude.{is_ok}
use Rattle.std.proofs.lemmas.Bool.{and_parts, false≢true, and_from, or_parts}
use Rattle.std.proofs.lemmas.Bool.Decides.{nat_tests}
use Rattle.std.proofs.lemmas.List.Folds.{list_any-append}
use Rattle.sb_call.specs.ShortNames.{is_short_name}
use Rattle.sb_book.specs.Readiness.{is_judged, is_ready}
use Rattle.sb_kernel.specs.Openings.{opened}
use Rattle.sb_rule.specs.WellMade.{is_well_made, are_named_apart, are_well_made}
use Rattle.sb_rule.specs.declared.policies.Policy.{Policy}
use Rattle.sb_statements.specs.Soundness.{is_patience, is_start, is_statement, is_thread, is_target, names_differ, are_targets, is_sound}
use Rattle.sb_statements.specs.declared.scripts.Script.{Script}
use Rattle.sb_statements.specs.declared.scripts.StartLine.{StartLine}
use Rattle.sb_statements.specs.declared.scripts.StartLine.TheVariants.{Dir, File, Key, Event}
use Rattle.sb_statements.specs.declared.scripts.TargetScript.{TargetScript}
use Rattle.sb_statements.specs.declared.statements.Statement.{Statement}
use Rattle.sb_statements.specs.declared.statements.Statement.TheVariants.{Call, Store, Exchange, Load, Wait}
use Rattle.sb_scripttext.proofs.LastChanged.{changed_behind, some_behind, last_behind}
use Rattle.sb_scripttext.proofs.Opened.{place_within}
use Rattle.sb_scripttext.proofs.Prefixes.{read_by_lines}
use Rattle.sb_scripttext.proofs.Ready.{none_here}
use Rattle.sb_scripttext.proofs.Sound.{none_absent}
use Rattle.sb_text.specs.Lines.{NumberedLine}
use Rattle.sb_text.specs.TokenLaws.{placed, written_line}
use Rattle.sb_text.specs.PlainLines.{is_plain_line, numbered, PlainLinesAreUtf8, PlainLinesAreRead, PlainTokensAreRead}
use Rattle.sb_scripttext.proofs.WrittenOpenings.{start_reader, start_read}
use Rattle.sb_scripttext.proofs.WrittenStatements.{AreSound, patience_number, statement_reader, statement_read, statement_there}
use Rattle.sb_scripttext.proofs.WrittenTokens.{IsWhole, sound_target, channels_number, start_plain, statement_plain, patience_plain, heading_plain, script_plain}
use Rattle.sb_scripttext.proofs.WrittenWords.{Texts, not_true, names_symm, within_read, policy_read}
use Rattle.sb_scripttext.specs.StartFaults.{start_fault}
use Rattle.sb_scripttext.specs.Drafts.{nothing, is_empty, is_opening, is_in_thread, with_patience, with_start, with_target, one_thread_more, with_thread, one_statement_more, in_last_thread, named_by, statement_at, with_statement}
use Rattle.sb_scripttext.specs.declared.drafts.Draft.{Draft}
use Rattle.sb_scripttext.specs.Lines.{add_target, add_thread, at_start, heading, is_target_named, line_of, misplaced, new_name_at, not_here, patience, plain_line, policy_at, set_patience, start_line, statement_line}
use Rattle.sb_scripttext.specs.Openings.{can_place}
use Rattle.sb_scripttext.specs.ScriptTexts.{Absence, ScriptFault, absence_fault, grammar, absence, first_absence, finished}
use Rattle.sb_scripttext.specs.Steps.{number_within}
use Rattle.sb_scripttext.specs.Writable.{is_writable_start, is_writable_statement, is_writable_thread, is_writable_target, is_writable, are_short_named}
use Rattle.sb_scripttext.specs.Writing.{number_token, start_tokens, statement_tokens, thread_lines, policy_name, heading_tokens, target_lines, version_tokens, patience_tokens, script_lines, written}
use Rattle.sb_scripttext.specs.WritingLaws.{WrittenScriptsAreRead}
use Rattle.sb_scripttext.specs.declared.drafts.Named.{Named}
use Rattle.sb_scripttext.specs.declared.drafts.StatementAt.{StatementAt}
use Rattle.sb_scripttext.specs.declared.faults.ScriptKind.{ScriptKind}
use Rattle.sb_scripttext.specs.declared.faults.ScriptKind.TheVariants.{UnknownWord, BadNumber, SameName, TooMany, BadStart}
use Rattle.sb_text.specs.Readings.{on_line, read_lines, read_by}
use Rattle.sb_text.specs.Steps.{◌>>=◌, Read, at_token, end_at, later, version_at}
use Rattle.sb_text.specs.Tokens.{Lexeme, Lexemes, Word, by_tokens}
use Rattle.sb_text.specs.Utf8Laws.{NotUtf8PlaceTells}
use Rattle.sb_scripttext.specs.declared.faults.ScriptLimit.TheVariants.{Openings, Statements, Targets, Threads}
use Rattle.sb_text.specs.declared.refusals.TokenFault.{TokenFault}
use Rattle.sb_text.specs.declared.refusals.WordFault.TheVariants.{Broken, Extra, Missing, NoVersion, Unknown}

-- the laws of lower crates that the proof uses
pub record Laws : Type 0 where
  pub utf8 : NotUtf8PlaceTells
  pub plain : PlainLinesAreUtf8
  pub lines : PlainLinesAreRead
  pub tokens : PlainTokensAreRead
  pub texts : Texts

-- a line

line_read : Laws → (policies : List Policy) (sofar more : Draft) (n : ℕ) (tokens : List Lexeme) (lines : List (List Lexeme)) → is_plain_line tokens ≡ true
    → line_of policies sofar n (placed tokens) ≡ Ok more
    → read_lines (grammar policies) 1 sofar (numbered n (tokens ∷ lines)) ≡ read_lines (grammar policies) 1 more (numbered (n + 1) lines)
unfolding read_lines
line_read laws policies sofar more n tokens lines p e =
    let here : NumberedLine = record { number = n; text = written_line tokens } in
    ap (λ tokens. on_line by_tokens here (line_of policies sofar n tokens) >>= λ more. read_lines (grammar policies) 1 more (numbered (n + 1) lines)) (laws.tokens tokens p)
    ∙ ap (λ r. on_line by_tokens here r >>= λ more. read_lines (grammar policies) 1 more (numbered (n + 1) lines)) e

-- what is read up to some line, and what is read on from there
abbrev Continues : List Policy → Draft → ℕ → List (List Lexeme) → Draft → ℕ → Type 0
Continues policies old n lines new m = (rest : List (List Lexeme))
    → read_lines (grammar policies) 1 old (numbered n (lines ++ rest)) ≡ read_lines (grammar policies) 1 new (numbered m rest)

-- lines after others
joined : (policies : List Policy) (old middle new : Draft) (n m k : ℕ) (front lines : List (List Lexeme))
    → Continues policies old n front middle m → Continues policies middle m lines new k → Continues policies old n (front ++ lines) new k
joined policies old middle new n m k front lines f g rest =
    ap (λ all. read_lines (grammar policies) 1 old (numbered n all)) (append_assoc front lines rest) ∙ f (lines ++ rest) ∙ g rest

-- nothing of both is absent
both_there : (targets : List TargetScript) (xs ys : List Named) → first_absence targets xs ≡ None → first_absence targets ys ≡ None
    → first_absence targets (xs ++ ys) ≡ None
both_there targets [] ys h k = k
both_there targets (x ∷ xs) ys h k =
    let parts = none_absent (absence targets x) x.at.line (first_absence targets xs) h in
    none_here (absence targets x) x.at.line (first_absence targets (xs ++ ys)) parts.0 (both_there targets xs ys parts.1 k)

-- there is room for one more, and then for the others
room : {A B : Type 0} (most : ℕ) (done : List A) (more : List B) → length done + suc (length more) ≤ most → nat_lt (length done) most ≡ true
room most done more h = grind (arith, nat_tests, h)

room_behind : {A B : Type 0} (most : ℕ) (done : List A) (one : A) (more : List B) → length done + suc (length more) ≤ most
    → length (done ++ one ∷ []) + length more ≤ most
room_behind most done one more h = let e : length (done ++ one ∷ []) ≡ length done + 1 = length-append done (one ∷ []) in omega (arith, h, e)

few : (k most : ℕ) → nat_le k most ≡ true → 0 + k ≤ most
few k most h = grind (arith, nat_tests)

-- the patience

-- a patience, with which the line ends
abbrev then_patience : ℕ × Lexemes → Result ℕ (TokenFault ScriptKind)
then_patience number = end_at (UnknownWord Extra) (UnknownWord Broken) number.1 >>= λ end. Ok number.0

abbrev patient : ℕ → Result Draft (TokenFault ScriptKind)
patient n = Ok (with_patience nothing n)

patience_read : Texts → (n : ℕ) → is_patience n ≡ true → patience (placed (number_token n ∷ [])) ≡ Ok n
unfolding patience
patience_read law n h =
    ap (λ (r : Read ℕ ScriptKind). r >>= then_patience) (within_read law 1 1000000 BadNumber (UnknownWord Missing) n [] (patience_number n h) h)

patience_line : Laws → (policies : List Policy) (line n : ℕ) → is_patience n ≡ true
    → line_of policies nothing line (placed (patience_tokens n)) ≡ Ok (with_patience nothing n)
unfolding line_of set_patience
patience_line laws policies line n h = ap (λ (r : Result ℕ (TokenFault ScriptKind)). r >>= patient) (patience_read laws.texts n h)

-- opening lines

-- what is there before the first target
abbrev opening : ℕ → List StartLine → Draft
opening n start = record { patience = Some n; start = start; targets = []; named = [] }

-- what an opening line with these tokens after its first adds
abbrev starting : Lexemes → Lexemes → Draft → StartLine → Result Draft (TokenFault ScriptKind)
starting line tokens sofar start = at_start line tokens (with_start sofar start)

-- an opening line is read by its reader
start_by : (policies : List Policy) (n line : ℕ) (before : List StartLine) (start : StartLine)
    → line_of policies (opening n before) line (placed (start_tokens start))
    ≡ start_reader start (later (placed (start_tokens start))) >>= starting (placed (start_tokens start)) (later (placed (start_tokens start))) (opening n before)
unfolding line_of plain_line start_line
start_by policies n line before (Dir name) = refl
start_by policies n line before (File name attributes) = refl
start_by policies n line before (Key name) = refl
start_by policies n line before (Event name kind initial) = refl

-- an opening line that can be placed, if there is room for one more
abbrev started : Lexemes → Lexemes → ℕ → List StartLine → StartLine → Bool → Bool → Result Draft (TokenFault ScriptKind)
started line tokens n before start place room = at_start line tokens (cond place (cond room (Ok (opening n (before ++ start ∷ []))) (Err (TooMany Openings))) (Err (BadStart (start_fault before start))))

start_line_read : Texts → (policies : List Policy) (n line : ℕ) (before : List StartLine) (start : StartLine) → is_start start ≡ true
    → is_writable_start start ≡ true → can_place before start ≡ true → nat_lt (length before) 4096 ≡ true
    → line_of policies (opening n before) line (placed (start_tokens start)) ≡ Ok (opening n (before ++ start ∷ []))
start_line_read law policies n line before start h w p l =
    let first = placed (start_tokens start) in
    start_by policies n line before start
    ∙ ap (λ (r : Result StartLine (TokenFault ScriptKind)). r >>= starting first (later first) (opening n before)) (start_read law start h w)
    ∙ ap (λ t. started first (later first) n before start t (nat_lt (length before) 4096)) p
    ∙ ap (started first (later first) n before start true) l

starts_read : Laws → (policies : List Policy) (n line : ℕ) (before lines : List StartLine) → list_all is_start lines ≡ true
    → list_all is_writable_start lines ≡ true → is_ok (opened (before ++ lines)) ≡ true → length before + length lines ≤ 4096
    → (m : ℕ) × Continues policies (opening n before) line (map start_tokens lines) (opening n (before ++ lines)) m
starts_read laws policies n line before [] h w p l =
    (line, λ rest. ap (λ all. read_lines (grammar policies) 1 (opening n all) (numbered line rest)) (sym (append-nil before)))
starts_read laws policies n line before (start ∷ lines) h w p l =
    let sound = and_parts (is_start start) (list_all is_start lines) h in
    let writable = and_parts (is_writable_start start) (list_all is_writable_start lines) w in
    let opens = subst (λ all. is_ok (opened all) ≡ true) (sym (append_assoc before (start ∷ []) lines)) p in
    let further = starts_read laws policies n (line + 1) (before ++ start ∷ []) lines sound.1 writable.1 opens (room_behind 4096 before start lines l) in (
      further.0,
      λ rest.
          line_read laws policies (opening n before) (opening n (before ++ start ∷ [])) line (start_tokens start) (map start_tokens lines ++ rest)
          (start_plain laws.texts start sound.0 writable.0)
          (start_line_read laws.texts policies n line before start sound.0 writable.0 (place_within before start lines p) (room 4096 before lines l))
          ∙ further.1 rest
          ∙ ap (λ all. read_lines (grammar policies) 1 (opening n all) (numbered further.0 rest)) (append_assoc before (start ∷ []) lines),
    )

-- inside a target

-- below the heading of a target that follows what was so far there
abbrev inside : Draft → TargetScript → List (List Statement) → List Named → Draft
inside sofar target threads named = record {
  patience = sofar.patience;
  start = sofar.start;
  targets = sofar.targets ++ record target { threads = threads } ∷ [];
  named = named;
}

-- the targets with the last one changed, and the threads and the statements of that
abbrev with_targets : Draft → List Named → Result (List TargetScript) ScriptKind → Result Draft ScriptKind
with_targets sofar named r = r >>= λ targets. Ok (record sofar { targets = targets; named = named })

abbrev with_last : Draft → Result TargetScript ScriptKind → Result (List TargetScript) ScriptKind
with_last sofar r = r >>= λ changed. Ok (sofar.targets ++ changed ∷ [])

abbrev with_its_threads : TargetScript → Result (List (List Statement)) ScriptKind → Result TargetScript ScriptKind
with_its_threads target r = r >>= λ threads. Ok (record target { threads = threads })

abbrev with_last_thread : List (List Statement) → Result (List Statement) ScriptKind → Result (List (List Statement)) ScriptKind
with_last_thread threads r = r >>= λ changed. Ok (threads ++ changed ∷ [])

-- statements

in_thread : (sofar : Draft) (target : TargetScript) (threads : List (List Statement)) (before : List Statement) (named : List Named)
    → is_in_thread (inside sofar target (threads ++ before ∷ []) named) ≡ true
in_thread sofar target threads before named =
    ap (λ threads. not (is_empty threads)) (last_behind sofar.targets (record target { threads = threads ++ before ∷ [] })) ∙ ap not (some_behind threads before)

-- what a statement with these tokens after its first adds
abbrev stating : Lexemes → Lexemes → Draft → ℕ → Statement → Result Draft (TokenFault ScriptKind)
stating line tokens sofar number statement = at_token line (with_statement sofar (statement_at number tokens) statement)

-- in a thread a line is a statement
plain_in_thread : (w : List ℕ) (sofar : Draft) (number : ℕ) (line tokens : Lexemes) → is_in_thread sofar ≡ true
    → plain_line w sofar number line tokens ≡ (statement_line w line tokens >>= stating line tokens sofar number)
unfolding plain_line
plain_in_thread w sofar number line tokens h =
    by (is_in_thread sofar) (statement_line w line tokens >>= stating line tokens sofar number)
    (cond (is_opening sofar) (start_line w line tokens >>= starting line tokens sofar) (not_here w line)) h
  where
    by : (t : Bool) (a b : Result Draft (TokenFault ScriptKind)) → t ≡ true → cond t a b ≡ a
    by true a b h = refl
    by false a b h = absurd (false≢true h)

-- a statement is read by its reader

-- what the line of a statement adds, if it is read as it was written
abbrev read_by_reader : Draft → ℕ → Statement → Result Draft (TokenFault ScriptKind)
read_by_reader sofar number statement =
    statement_reader statement (placed (statement_tokens statement)) (later (placed (statement_tokens statement)))
    >>= stating (placed (statement_tokens statement)) (later (placed (statement_tokens statement))) sofar number

statement_by : (policies : List Policy) (sofar : Draft) (number : ℕ) (statement : Statement) → is_in_thread sofar ≡ true
    → line_of policies sofar number (placed (statement_tokens statement)) ≡ read_by_reader sofar number statement
unfolding line_of statement_line
statement_by policies sofar number (Call tag args) h =
    let line = placed (statement_tokens (Call tag args)) in plain_in_thread (codes "call") sofar number line (later line) h
statement_by policies sofar number (Store target word value) h =
    let line = placed (statement_tokens (Store target word value)) in plain_in_thread (codes "store") sofar number line (later line) h
statement_by policies sofar number (Exchange target word old new) h =
    let line = placed (statement_tokens (Exchange target word old new)) in plain_in_thread (codes "exchange") sofar number line (later line) h
statement_by policies sofar number (Load target word) h =
    let line = placed (statement_tokens (Load target word)) in plain_in_thread (codes "load") sofar number line (later line) h
statement_by policies sofar number (Wait target word value most) h =
    let line = placed (statement_tokens (Wait target word value most)) in plain_in_thread (codes "wait") sofar number line (later line) h

-- where a statement that was written on this line is
abbrev written_at : ℕ → Statement → StatementAt
written_at number statement = statement_at number (later (placed (statement_tokens statement)))

-- the last thread has one statement more
abbrev told_more : Draft → TargetScript → List (List Statement) → List Statement → List Named → Statement → Bool → Result Draft ScriptKind
told_more sofar target threads before named statement room =
    with_targets sofar named (with_last sofar (with_its_threads target (with_last_thread threads (cond room (Ok (before ++ statement ∷ [])) (Err (TooMany Statements))))))

statement_told : (sofar : Draft) (target : TargetScript) (threads : List (List Statement)) (before : List Statement) (named : List Named)
    (at : StatementAt) (statement : Statement) → nat_lt (length before) 4096 ≡ true
    → with_statement (inside sofar target (threads ++ before ∷ []) named) at statement
    ≡ Ok (inside sofar target (threads ++ (before ++ statement ∷ []) ∷ []) (named ++ named_by at statement))
statement_told sofar target threads before named at statement l =
    let names = named ++ named_by at statement in
    ap (with_targets sofar names) (changed_behind (in_last_thread statement) sofar.targets (record target { threads = threads ++ before ∷ [] }))
    ∙ ap (λ r. with_targets sofar names (with_last sofar (with_its_threads target r))) (changed_behind (one_statement_more statement) threads before)
    ∙ ap (told_more sofar target threads before names statement) l

statement_line_read : Texts → (policies : List Policy) (all : List TargetScript) (sofar : Draft) (target : TargetScript) (threads : List (List Statement))
    (before : List Statement) (named : List Named) (line : ℕ) (statement : Statement) → AreSound all → is_statement all statement ≡ true
    → is_writable_statement statement ≡ true → nat_lt (length before) 4096 ≡ true
    → line_of policies (inside sofar target (threads ++ before ∷ []) named) line (placed (statement_tokens statement))
    ≡ Ok (inside sofar target (threads ++ (before ++ statement ∷ []) ∷ []) (named ++ named_by (written_at line statement) statement))
statement_line_read law policies all sofar target threads before named line statement s h w l =
    let here = inside sofar target (threads ++ before ∷ []) named in
    let first = placed (statement_tokens statement) in
    statement_by policies here line statement (in_thread sofar target threads before named)
    ∙ ap (λ (r : Result Statement (TokenFault ScriptKind)). r >>= stating first (later first) here line) (statement_read law all first statement s h w)
    ∙ ap (at_token first) (statement_told sofar target threads before named (written_at line statement) statement l)

-- if lines lead: all that is named is there
record Leads (policies : List Policy) (all : List TargetScript) (old : Draft) (line : ℕ) (lines : List (List Lexeme)) (new : List Named → Draft) : Type 0 where
  names : List Named
  next : ℕ
  there : first_absence all names ≡ None
  reads : Continues policies old line lines (new names) next

statements_read : Laws → (policies : List Policy) (all : List TargetScript) (sofar : Draft) (target : TargetScript) (threads : List (List Statement))
    (before : List Statement) (named : List Named) (line : ℕ) (more : List Statement) → AreSound all → list_all (is_statement all) more ≡ true
    → list_all is_writable_statement more ≡ true → length before + length more ≤ 4096 → first_absence all named ≡ None
    → Leads policies all (inside sofar target (threads ++ before ∷ []) named) line (map statement_tokens more) (inside sofar target (threads ++ (before ++ more) ∷ []))
statements_read laws policies all sofar target threads before named line [] s h w l there = record {
  names = named;
  next = line;
  there = there;
  reads = λ rest. ap (λ all. read_lines (grammar policies) 1 (inside sofar target (threads ++ all ∷ []) named) (numbered line rest)) (sym (append-nil before));
}
statements_read laws policies all sofar target threads before named line (statement ∷ more) s h w l there =
    let sound = and_parts (is_statement all statement) (list_all (is_statement all) more) h in
    let writable = and_parts (is_writable_statement statement) (list_all is_writable_statement more) w in
    let told = before ++ statement ∷ [] in
    let names = named ++ named_by (written_at line statement) statement in
    let further = statements_read laws policies all sofar target threads told names (line + 1) more s sound.1 writable.1
    (room_behind 4096 before statement more l) (both_there all named (named_by (written_at line statement) statement) there (statement_there all (written_at line statement) statement sound.0)) in
    record {
      names = further.names;
      next = further.next;
      there = further.there;
      reads = λ rest.
          line_read laws policies (inside sofar target (threads ++ before ∷ []) named) (inside sofar target (threads ++ told ∷ []) names) line
          (statement_tokens statement) (map statement_tokens more ++ rest) (statement_plain laws.texts all statement s sound.0 writable.0)
          (statement_line_read laws.texts policies all sofar target threads before named line statement s sound.0 writable.0 (room 4096 before more l))
          ∙ further.reads rest
          ∙ ap (λ all. read_lines (grammar policies) 1 (inside sofar target (threads ++ all ∷ []) further.names) (numbered further.next rest)) (append_assoc before (statement ∷ []) more);
    }

-- threads

-- a target with one thread more
abbrev begun : Draft → TargetScript → List (List Statement) → List Named → Bool → Result Draft ScriptKind
begun sofar target threads named room =
    with_targets sofar named (with_last sofar (cond room (Ok (record target { threads = threads ++ [] ∷ [] })) (Err (TooMany Threads))))

thread_line : (policies : List Policy) (sofar : Draft) (target : TargetScript) (threads : List (List Statement)) (named : List Named) (line : ℕ)
    → nat_lt (length threads) 4 ≡ true
    → line_of policies (inside sofar target threads named) line (placed (Word (codes "thread") ∷ [])) ≡ Ok (inside sofar target (threads ++ [] ∷ []) named)
unfolding line_of add_thread
thread_line policies sofar target threads named line l =
    let here = record target { threads = threads } in
    let first = placed (Word (codes "thread") ∷ []) in
    ap (λ t. cond t (misplaced first) (at_token first (with_thread (inside sofar target threads named)))) (some_behind sofar.targets here)
    ∙ ap (at_token first) (ap (with_targets sofar named) (changed_behind one_thread_more sofar.targets here) ∙ ap (begun sofar target threads named) l)

threads_read : Laws → (policies : List Policy) (all : List TargetScript) (sofar : Draft) (target : TargetScript) (threads : List (List Statement))
    (named : List Named) (line : ℕ) (more : List (List Statement)) → AreSound all → list_all (is_thread all) more ≡ true
    → list_all is_writable_thread more ≡ true → length threads + length more ≤ 4 → first_absence all named ≡ None
    → Leads policies all (inside sofar target threads named) line (flat_map thread_lines more) (inside sofar target (threads ++ more))
threads_read laws policies all sofar target threads named line [] s h w l there = record {
  names = named;
  next = line;
  there = there;
  reads = λ rest. ap (λ all. read_lines (grammar policies) 1 (inside sofar target all named) (numbered line rest)) (sym (append-nil threads));
}
threads_read laws policies all sofar target threads named line (thread ∷ more) s h w l there =
    let sound = and_parts (is_thread all thread) (list_all (is_thread all) more) h in
    let writable = and_parts (is_writable_thread thread) (list_all is_writable_thread more) w in
    let parts = and_parts (nat_le (length thread) 4096) (list_all (is_statement all) thread) sound.0 in
    let inner = statements_read laws policies all sofar target threads [] named (line + 1) thread s parts.1 writable.0 (few (length thread) 4096 parts.0) there in
    let told = threads ++ thread ∷ [] in
    let further = threads_read laws policies all sofar target told inner.names inner.next more s sound.1 writable.1 (room_behind 4 threads thread more l) inner.there in
    let first : Continues policies (inside sofar target threads named) line (thread_lines thread) (inside sofar target told inner.names) inner.next =
    λ rest.
    line_read laws policies (inside sofar target threads named) (inside sofar target (threads ++ [] ∷ []) named) line (Word (codes "thread") ∷ [])
    (map statement_tokens thread ++ rest) refl (thread_line policies sofar target threads named line (room 4 threads more l))
    ∙ inner.reads rest in
    record {
      names = further.names;
      next = further.next;
      there = further.there;
      reads = λ rest.
          joined policies (inside sofar target threads named) (inside sofar target told inner.names) (inside sofar target (told ++ more) further.names)
          line inner.next further.next (thread_lines thread) (flat_map thread_lines more) first further.reads rest
          ∙ ap (λ all. read_lines (grammar policies) 1 (inside sofar target all further.names) (numbered further.next rest)) (append_assoc threads (thread ∷ []) more);
    }

-- headings

-- policies at most 8, of different short names
record AreNamed (policies : List Policy) : Type 0 where
  few : length policies ≤ 8
  apart : are_named_apart policies ≡ true
  short : are_short_named policies ≡ true

-- a target without its threads, as its heading says it
abbrev bare : TargetScript → TargetScript
bare target = record target { threads = [] }

abbrev with_channels : List ℕ → ℕ → ℕ × Lexemes → Result TargetScript (TokenFault ScriptKind)
with_channels name policy channels =
    end_at (UnknownWord Extra) (UnknownWord Broken) channels.1 >>= λ end. Ok (record { name = name; policy = policy; channels = channels.0; threads = [] })

abbrev with_policy : List ℕ → ℕ × Lexemes → Result TargetScript (TokenFault ScriptKind)
with_policy name policy = number_within 1 8 BadNumber (UnknownWord Missing) policy.1 >>= with_channels name policy.0

abbrev with_name : List Policy → List ℕ × Lexemes → Result TargetScript (TokenFault ScriptKind)
with_name policies name = policy_at policies name.1 >>= with_policy name.0

-- a name, and the tokens after it
abbrev then_name : Lexemes → List ℕ → Read (List ℕ) ScriptKind
then_name rest name = Ok (name, rest)

heading_read : Texts → (policies : List Policy) (targets : List TargetScript) (target : TargetScript)
    → AreNamed policies → is_judged (length policies) target ≡ true → is_short_name target.name ≡ true
    → list_any (is_target_named target.name) targets ≡ false → (nat_le 1 target.channels && nat_le target.channels 8) ≡ true
    → heading policies targets (later (placed (heading_tokens policies target))) ≡ Ok (bare target)
unfolding heading new_name_at
heading_read law policies targets target named judged short new channels =
    let rest = Word (policy_name policies target.policy) ∷ number_token target.channels ∷ [] in
    ap (λ (r : Result (List ℕ) ScriptKind). (at_token (placed (Word target.name ∷ rest)) r >>= then_name (placed rest)) >>= with_name policies)
    (by_tests (is_short_name target.name) (list_any (is_target_named target.name) targets) short new)
    ∙ ap (λ (r : Read ℕ ScriptKind). r >>= with_policy target.name) (policy_read policies target.policy (number_token target.channels ∷ []) named.few named.apart judged)
    ∙ ap (λ (r : Read ℕ ScriptKind). r >>= with_channels target.name target.policy)
    (within_read law 1 8 BadNumber (UnknownWord Missing) target.channels [] (channels_number target.channels (and_parts _ _ channels).1) channels)
  where
    by_tests : (short taken : Bool) → short ≡ true → taken ≡ false
        → ◌≡◌ {A = Result (List ℕ) ScriptKind} (cond short (cond taken (Err SameName) (Ok target.name)) (Err (UnknownWord Unknown))) (Ok target.name)
    by_tests true false e f = refl
    by_tests true true e f = absurd (false≢true (sym f))
    by_tests false taken e f = absurd (false≢true e)

abbrev headed_below : Lexemes → Draft → TargetScript → Bool → Result Draft (TokenFault ScriptKind)
headed_below line sofar target room = at_token line (cond room (Ok (inside sofar target [] sofar.named)) (Err (TooMany Targets)))

heading_line : Texts → (policies : List Policy) (sofar : Draft) (line : ℕ) (target : TargetScript)
    → AreNamed policies → is_judged (length policies) target ≡ true → is_short_name target.name ≡ true
    → list_any (is_target_named target.name) sofar.targets ≡ false → (nat_le 1 target.channels && nat_le target.channels 8) ≡ true
    → nat_lt (length sofar.targets) 8 ≡ true
    → line_of policies sofar line (placed (heading_tokens policies target)) ≡ Ok (inside sofar target [] sofar.named)
unfolding line_of add_target
heading_line law policies sofar line target named judged short new channels l =
    let first = placed (heading_tokens policies target) in
    ap (λ (r : Result TargetScript (TokenFault ScriptKind)). r >>= λ target. at_token first (with_target sofar target)) (heading_read law policies sofar.targets target named judged short new channels)
    ∙ ap (headed_below first sofar target) l

-- names that no target so far has

abbrev are_new : List TargetScript → List TargetScript → Bool
are_new done [] = true
are_new done (target ∷ targets) = not (list_any (is_target_named target.name) done) && are_new done targets

neither : (a b : Bool) → a ≡ false → b ≡ false → not (a || (b || false)) ≡ true
neither a b h k = rw (h, k) refl

new_more : (done : List TargetScript) (last : TargetScript) (targets : List TargetScript) → are_new done targets ≡ true
    → list_any (is_target_named last.name) targets ≡ false → are_new (done ++ last ∷ []) targets ≡ true
new_more done last [] h k = refl
new_more done last (target ∷ targets) h k =
    let parts = or_parts (is_target_named last.name target) (list_any (is_target_named last.name) targets) k in
    let new = and_parts (not (list_any (is_target_named target.name) done)) (are_new done targets) h in
    and_from _ _
    (ap not (list_any-append (is_target_named target.name) done (last ∷ []))
    ∙ neither (list_any (is_target_named target.name) done) (pointwise nat_eq last.name target.name) (not_true _ new.0) (names_symm last.name target.name ∙ parts.0))
    (new_more done last targets new.1 parts.1)

new_to_none : (targets : List TargetScript) → are_new [] targets ≡ true
new_to_none [] = refl
new_to_none (target ∷ targets) = new_to_none targets

-- targets

-- what each target of a script that can be written is
record AreWhole (policies : List Policy) (all targets : List TargetScript) : Type 0 where
  sound : list_all (is_target all) targets ≡ true
  judged : list_all (is_judged (length policies)) targets ≡ true
  writable : list_all is_writable_target targets ≡ true
  differ : names_differ targets ≡ true

-- what was there, with these targets and names
abbrev followed : Draft → List TargetScript → List Named → Draft
followed sofar targets named = record sofar { targets = sofar.targets ++ targets; named = named }

targets_read : Laws → (policies : List Policy) (all : List TargetScript) (sofar : Draft) (line : ℕ) (targets : List TargetScript)
    → AreNamed policies → AreSound all → AreWhole policies all targets → are_new sofar.targets targets ≡ true
    → length sofar.targets + length targets ≤ 8 → first_absence all sofar.named ≡ None
    → Leads policies all sofar line (flat_map (target_lines policies) targets) (followed sofar targets)
targets_read laws policies all sofar line [] p s t new l there = record {
  names = sofar.named;
  next = line;
  there = there;
  reads = λ rest. ap (λ all. read_lines (grammar policies) 1 (record sofar { targets = all }) (numbered line rest)) (sym (append-nil sofar.targets));
}
targets_read laws policies all sofar line (target ∷ targets) p s t new l there =
    let done = sofar.targets in
    let sound = and_parts (is_target all target) (list_all (is_target all) targets) t.sound in
    let judged = and_parts (is_judged (length policies) target) (list_all (is_judged (length policies)) targets) t.judged in
    let writable = and_parts (is_writable_target target) (list_all is_writable_target targets) t.writable in
    let named = and_parts (is_short_name target.name) (list_all is_writable_thread target.threads) writable.0 in
    let differ = and_parts (not (list_any (is_target_named target.name) targets)) (names_differ targets) t.differ in
    let is_new = and_parts (not (list_any (is_target_named target.name) done)) (are_new done targets) new in
    let parts = sound_target all target sound.0 in
    let inner = threads_read laws policies all sofar target [] sofar.named (line + 1) target.threads s parts.threads named.1
    (few (length target.threads) 4 parts.few) there in
    let middle = inside sofar target target.threads inner.names in
    let further = targets_read laws policies all middle inner.next targets p s
    (record { sound = sound.1; judged = judged.1; writable = writable.1; differ = differ.1 })
    (new_more done target targets is_new.1 (not_true _ differ.0)) (room_behind 8 done target targets l) inner.there in
    let first : Continues policies sofar line (target_lines policies target) middle inner.next =
    λ rest.
    line_read laws policies sofar (inside sofar target [] sofar.named) line (heading_tokens policies target) (flat_map thread_lines target.threads ++ rest)
    (heading_plain laws.texts policies target p.short judged.0 named.0 parts.channels)
    (heading_line laws.texts policies sofar line target p judged.0 named.0 (not_true _ is_new.0) parts.channels (room 8 done targets l))
    ∙ inner.reads rest in
    record {
      names = further.names;
      next = further.next;
      there = further.there;
      reads = λ rest.
          joined policies sofar middle (followed middle targets further.names) line inner.next further.next (target_lines policies target)
          (flat_map (target_lines policies) targets) first further.reads rest
          ∙ ap (λ all. read_lines (grammar policies) 1 (record sofar { targets = all; named = further.names }) (numbered further.next rest)) (append_assoc done (target ∷ []) targets);
    }

-- the whole text

abbrev unless_absent : List ℕ → Script → Option Absence → Result Script ScriptFault
unless_absent text script absent = elim absent [ None ↦ Ok script | Some absence ↦ Err (absence_fault text absence) ]

-- the lines below the first
lines_read : Laws → (policies : List Policy) (text : List ℕ) (script : Script) → AreNamed policies → IsWhole policies script
    → is_ok (opened script.start) ≡ true → names_differ script.targets ≡ true
    → (read_lines (grammar policies) 1 nothing (numbered 2 (patience_tokens script.patience ∷ (map start_tokens script.start ++ flat_map (target_lines policies) script.targets)))
    >>= λ sofar. finished text sofar) ≡ Ok script
unfolding read_lines
lines_read laws policies text script named whole opens differ =
    let n = script.patience in
    let targets_lines = flat_map (target_lines policies) script.targets in
    let starts = starts_read laws policies n 3 [] script.start whole.starts whole.writable_starts opens (few (length script.start) 4096 whole.few_starts) in
    let targets = targets_read laws policies script.targets (opening n script.start) starts.0 script.targets named whole.targets
    (record { sound = whole.targets.sound; judged = whole.judged; writable = whole.writable_targets; differ = differ }) (new_to_none script.targets)
    (few (length script.targets) 8 whole.targets.few) refl in
    ap (λ (r : Result Draft ScriptFault). r >>= λ sofar. finished text sofar)
    (line_read laws policies nothing (with_patience nothing n) 2 (patience_tokens n) (map start_tokens script.start ++ targets_lines)
    (patience_plain laws.texts n whole.patience) (patience_line laws policies 2 n whole.patience)
    ∙ starts.1 targets_lines
    ∙ ap (λ lines. read_lines (grammar policies) 1 (opening n script.start) (numbered starts.0 lines)) (sym (append-nil targets_lines))
    ∙ targets.reads [])
    ∙ ap (unless_absent text script) targets.there

-- the parts of a script that is ready, and of its policies
record Parts (policies : List Policy) (script : Script) : Type 0 where
  named : AreNamed policies
  whole : IsWhole policies script
  opens : is_ok (opened script.start) ≡ true
  differ : names_differ script.targets ≡ true

parts_of : (policies : List Policy) (script : Script) → are_short_named policies ≡ true → is_ready policies script ≡ true → is_writable script ≡ true
    → Parts policies script
parts_of policies script short r w =
    let outer = and_parts (is_sound script && are_well_made policies && list_all (is_judged (length policies)) script.targets) (is_ok (opened script.start)) r in
    let inner = and_parts (is_sound script && are_well_made policies) (list_all (is_judged (length policies)) script.targets) outer.0 in
    let ready = and_parts (is_sound script) (are_well_made policies) inner.0 in
    let made = and_parts (nat_le (length policies) 8 && are_named_apart policies) (list_all is_well_made policies) ready.1 in
    let apart = and_parts (nat_le (length policies) 8) (are_named_apart policies) made.0 in
    let sound = and_parts (is_patience script.patience && nat_le (length script.start) 4096 && list_all is_start script.start) (are_targets script.targets) ready.0 in
    let starts = and_parts (is_patience script.patience && nat_le (length script.start) 4096) (list_all is_start script.start) sound.0 in
    let first = and_parts (is_patience script.patience) (nat_le (length script.start) 4096) starts.0 in
    let targets = and_parts (nat_le (length script.targets) 8 && names_differ script.targets) (list_all (is_target script.targets) script.targets) sound.1 in
    let counted = and_parts (nat_le (length script.targets) 8) (names_differ script.targets) targets.0 in
    let writable = and_parts (list_all is_writable_start script.start) (list_all is_writable_target script.targets) w in
    record {
      named = record { few = (let most = few (length policies) 8 apart.0 in omega (arith, most)); apart = apart.1; short = short };
      whole = record {
        patience = first.0;
        few_starts = first.1;
        starts = starts.1;
        targets = record { few = counted.0; sound = targets.1 };
        judged = inner.1;
        writable_starts = writable.0;
        writable_targets = writable.1;
      };
      opens = outer.1;
      differ = counted.1;
    }

pub written_scripts_are_read : Laws → WrittenScriptsAreRead
written_scripts_are_read laws policies script short r w =
    let parts = parts_of policies script short r w in
    let lines = script_lines policies script in
    let text = written policies script in
    let plain = script_plain laws.texts policies script short parts.whole in
    let below = patience_tokens script.patience ∷ (map start_tokens script.start ++ flat_map (target_lines policies) script.targets) in
    read_by_lines policies (written policies script) (laws.utf8.0 (written policies script) (laws.plain lines plain))
    ∙ ap (λ all. read_by (grammar policies) all >>= λ sofar. finished text sofar) (laws.lines lines plain)
    ∙ ap (λ tokens. (on_line by_tokens (record { number = 1; text = written_line version_tokens }) (version_at (UnknownWord NoVersion) (codes "sandbox-script") 1 tokens)
    >>= λ version. read_lines (grammar policies) version nothing (numbered 2 below)) >>= λ sofar. finished text sofar)
    (laws.tokens version_tokens refl)
    ∙ lines_read laws policies text script parts.named parts.whole parts.opens parts.differ
