-- A script that is read can be written.
use Rattle.std.proofs.Common.{◌≡◌, refl, ap, subst, ℕ, ◌^◌, ◌==◌, List, [], ◌∷◌, ◌++◌, Bool, true, false, not, ◌&&◌, cond, length, nat_le, nat_lt, Option, None, Some, Result, Ok, Err, codes}
use Rattle.std.proofs.lemmas.Bool.{and_parts, and_from}
use Rattle.std.proofs.lemmas.Str.{IsUtf8-from_is_utf8}
use Rattle.std.specs.List.{list_all, list_any}
use Rattle.std.specs.Str.{is_utf8}
use Rattle.sb_block.specs.Blocks.{encodes, has_units}
use Rattle.sb_call.specs.CallWords.{is_word, tag_of_word}
use Rattle.sb_call.specs.ShortNames.{is_short_name}
use Rattle.sb_call.specs.Tags.{shape_of}
use Rattle.sb_call.specs.declared.arguments.Arg.{Arg}
use Rattle.sb_call.specs.declared.arguments.Arg.TheVariants as arg
use Rattle.sb_call.specs.declared.tags.CallTag.{CallTag}
use Rattle.sb_call.specs.declared.tags.ParamKind.{ParamKind}
use Rattle.sb_call.specs.declared.tags.ParamKind.TheVariants.{Text, Name, Num, Handle}
use Rattle.sb_base.specs.Surrogates.{is_paired}
use Rattle.sb_rule.specs.declared.policies.Policy.{Policy}
use Rattle.sb_statements.specs.Units.{statement_has_units, thread_has_units, target_has_units}
use Rattle.sb_statements.specs.declared.scripts.Script.{Script}
use Rattle.sb_statements.specs.declared.scripts.StartLine.{StartLine}
use Rattle.sb_statements.specs.declared.scripts.StartLine.TheVariants.{Dir, File, Key, Event}
use Rattle.sb_statements.specs.declared.scripts.TargetScript.{TargetScript}
use Rattle.sb_statements.specs.declared.statements.Statement.{Statement}
use Rattle.sb_statements.specs.declared.statements.Statement.TheVariants.{Call, Store, Exchange, Load, Wait}
use Rattle.sb_text.specs.Strings.{QuotedStringsAreText, is_text}
use Rattle.sb_scripttext.proofs.LastChanged.{changed_all}
use Rattle.sb_scripttext.proofs.Ready.{all_more, on_this, start_made}
use Rattle.sb_scripttext.proofs.Sound.{at_made, made, ok_same, passed, branches}
use Rattle.sb_scripttext.specs.Arguments.{most_32, tag_at, arg_at, args_at, fitting, call}
use Rattle.sb_scripttext.specs.StartFaults.{start_fault}
use Rattle.sb_scripttext.specs.Drafts.{nothing, change_last, is_opening, is_in_thread, with_patience, with_start, with_target, one_thread_more, with_thread, one_statement_more, in_last_thread, named_by, statement_at, with_statement}
use Rattle.sb_scripttext.specs.declared.drafts.Draft.{Draft}
use Rattle.sb_scripttext.specs.Lines.{is_target_named, new_name, new_name_at, policy_at, heading, patience, set_patience, add_target, add_thread, at_start, misplaced, not_here, start_line, statement_line, plain_line, line_of}
use Rattle.sb_scripttext.specs.Openings.{can_place, dir, file, key, event}
use Rattle.sb_scripttext.specs.Readiness.{ReadScriptsHaveUnits}
use Rattle.sb_scripttext.specs.ScriptTexts.{Absence, ScriptFault, absence_fault, script_version, add_line, grammar, first_absence, script_of, finished, reading}
use Rattle.sb_scripttext.specs.Statements.{value_at, target_word_at, store, exchange, load, wait}
use Rattle.sb_scripttext.specs.Steps.{number_at, within, number_within, string_at, name, name_at}
use Rattle.sb_scripttext.specs.Writable.{is_writable_start, is_writable_arg, is_writable_statement, is_writable_thread, is_writable_target, is_writable}
use Rattle.sb_base.specs.Numbers.{is_word64}
use Rattle.sb_scripttext.specs.WritingLaws.{ReadScriptsCanBeWritten}
use Rattle.sb_scripttext.specs.declared.faults.ScriptKind.{ScriptKind}
use Rattle.sb_scripttext.specs.declared.faults.ScriptKind.TheVariants.{NotUtf8, UnknownWord, UnknownCall, WrongArgs, BadNumber, OutOfRange, BadName, SameName, TooBig, TooMany, BadStart}
use Rattle.sb_text.specs.Lines.{NumberedLine, lines_of}
use Rattle.sb_text.specs.Numbers.{is_decimal_digit, is_hexadecimal_digit, value_from, below_2_64, are_digits, decimal_of, hexadecimal_of, number_of}
use Rattle.sb_text.specs.Readings.{on_line, read_lines, read_by, where_utf8, read_text}
use Rattle.sb_text.specs.Columns.{fails}
use Rattle.sb_text.specs.Steps.{◌>>=◌, at_token, or_fails, word_at, quoted_at, end_at}
use Rattle.sb_text.specs.TokenLaws.{is_quoted_byte, is_quoted_text, has_quoted_text, QuotedTokensAreText}
use Rattle.sb_text.specs.Tokens.{Lexemes, Next, End, Word, Quoted, Bad, by_tokens, lexemes, string_of, tokens_of}
use Rattle.sb_text.specs.Utf8.{Place, not_utf8_place}
use Rattle.sb_base.specs.Names.{is_name_of}
use Rattle.sb_scripttext.specs.declared.drafts.StatementAt.{StatementAt}
use Rattle.sb_base.specs.Wide.{is_unit, is_text_unit}
use Rattle.sb_scripttext.specs.declared.faults.ScriptLimit.TheVariants.{Openings, Targets, Threads, Statements}
use Rattle.sb_text.specs.declared.refusals.TokenFault.{TokenFault}
use Rattle.sb_text.specs.declared.refusals.WordFault.TheVariants.{Broken, Extra, Missing, Quoted, Repeated, Unknown, Unquoted}

-- what quoted tokens hold is text
abbrev AreText : Lexemes → Type 0
AreText tokens = list_all is_quoted_text (lexemes tokens) ≡ true

word_rest : (quoted bad missing : ScriptKind) (tokens : Lexemes) (x : List ℕ × Lexemes) → word_at quoted bad missing tokens ≡ Ok x
    → AreText tokens → AreText x.1
word_rest quoted bad missing (Next place (Word w) tokens) x h t =
    subst (λ (y : List ℕ × Lexemes). AreText y.1) {x = (w, tokens)} (ok_same (w, tokens) x h)
    (and_parts (is_quoted_text (Word w)) (list_all is_quoted_text (lexemes tokens)) t).1
word_rest quoted bad missing (Next place (Quoted q) tokens) x h t = absurd cc
word_rest quoted bad missing (Next place Bad tokens) x h t = absurd cc
word_rest quoted bad missing (End place) x h t = absurd cc

below_64 : (v n : ℕ) → below_2_64 v ≡ Some n → is_word64 n ≡ true
below_64 v n e = by_test (nat_lt v (2 ^ 64)) refl e
  where
    some_same : (v n : ℕ) → ◌≡◌ {A = Option ℕ} (Some v) (Some n) → v ≡ n
    some_same v n e = cc

    by_test : (t : Bool) → nat_lt v (2 ^ 64) ≡ t → cond t (Some v) None ≡ Some n → is_word64 n ≡ true
    by_test true h e = subst (λ n. is_word64 n ≡ true) (some_same v n e) h
    by_test false h e = absurd cc

digits_number : (t : Bool) (v n : ℕ) → cond t (below_2_64 v) None ≡ Some n → is_word64 n ≡ true
digits_number true v n e = below_64 v n e
digits_number false v n e = absurd cc

decimal_number : (w : List ℕ) (n : ℕ) → decimal_of w ≡ Some n → is_word64 n ≡ true
decimal_number w n e = digits_number (are_digits is_decimal_digit 20 w) (value_from 10 0 w) n e

-- the number of a word has 64 bits
word_number : (w : List ℕ) (n : ℕ) → number_of w ≡ Some n → is_word64 n ≡ true
word_number [] n e = decimal_number [] n e
word_number (b ∷ []) n e = decimal_number (b ∷ []) n e
word_number (b ∷ c ∷ w) n e = by_prefix (b == 48 && c == 120) e
  where
    by_prefix : (t : Bool) → cond t (hexadecimal_of w) (decimal_of (b ∷ c ∷ w)) ≡ Some n → is_word64 n ≡ true
    by_prefix true e = digits_number (are_digits is_hexadecimal_digit 16 w) (value_from 16 0 w) n e
    by_prefix false e = decimal_number (b ∷ c ∷ w) n e

-- a number of 64 bits, and text follows it
record IsRead (x : ℕ × Lexemes) : Type 0 where
  number : is_word64 x.0 ≡ true
  rest : AreText x.1

-- a number has 64 bits, whatever tokens it is among
number_small : (quoted missing : ScriptKind) (tokens : Lexemes) (x : ℕ × Lexemes) → number_at quoted missing tokens ≡ Ok x → is_word64 x.0 ≡ true
unfolding number_at
number_small quoted missing tokens x h =
    let w = made (word_at quoted (UnknownWord Broken) missing tokens) (λ word. or_fails tokens BadNumber (number_of word.0) >>= λ n. Ok (n, word.1)) x h in
    let n = made (or_fails tokens BadNumber (number_of w.0.0)) (λ n. Ok (n, w.0.1)) x w.2 in
    subst (λ (y : ℕ × Lexemes). is_word64 y.0 ≡ true) {x = (n.0, w.0.1)} (ok_same (n.0, w.0.1) x n.2)
    (word_number w.0.0 n.0 (there (number_of w.0.0) n.0 n.1))
  where
    there : (o : Option ℕ) (n : ℕ) → ◌≡◌ {A = Result ℕ (TokenFault ScriptKind)} (or_fails tokens BadNumber o) (Ok n) → o ≡ Some n
    there (Some m) n h = ap Some (ok_same m n h)
    there None n h = absurd cc

number_rest : (quoted missing : ScriptKind) (tokens : Lexemes) (x : ℕ × Lexemes) → number_at quoted missing tokens ≡ Ok x
    → AreText tokens → AreText x.1
unfolding number_at
number_rest quoted missing tokens x h t =
    let w = made (word_at quoted (UnknownWord Broken) missing tokens) (λ word. or_fails tokens BadNumber (number_of word.0) >>= λ n. Ok (n, word.1)) x h in
    let n = made (or_fails tokens BadNumber (number_of w.0.0)) (λ n. Ok (n, w.0.1)) x w.2 in
    subst (λ (y : ℕ × Lexemes). AreText y.1) {x = (n.0, w.0.1)} (ok_same (n.0, w.0.1) x n.2)
    (word_rest quoted (UnknownWord Broken) missing tokens w.0 w.1 t)

number_fine : (quoted missing : ScriptKind) (tokens : Lexemes) (x : ℕ × Lexemes) → number_at quoted missing tokens ≡ Ok x
    → AreText tokens → IsRead x
number_fine quoted missing tokens x h t = record { number = number_small quoted missing tokens x h; rest = number_rest quoted missing tokens x h t }

within_fine : (lo hi : ℕ) (quoted missing : ScriptKind) (tokens : Lexemes) (x : ℕ × Lexemes) → number_within lo hi quoted missing tokens ≡ Ok x
    → AreText tokens → IsRead x
unfolding number_within
within_fine lo hi quoted missing tokens x h t =
    let n = made (number_at quoted missing tokens) (λ n. at_token tokens (within lo hi n.0) >>= λ number. Ok (number, n.1)) x h in
    let m = made (at_token tokens (within lo hi n.0.0)) (λ number. Ok (number, n.0.1)) x n.2 in
    let p = passed (nat_le lo n.0.0 && nat_le n.0.0 hi) n.0.0 m.0 (OutOfRange lo hi) (at_made tokens (within lo hi n.0.0) m.0 m.1) in
    let fine = number_fine quoted missing tokens n.0 n.1 t in
    subst IsRead {x = (m.0, n.0.1)} (ok_same (m.0, n.0.1) x m.2)
    (record { number = subst (λ n. is_word64 n ≡ true) p.1 fine.number; rest = fine.rest })

-- a string is text, and text follows it
record IsString (x : List ℕ × Lexemes) : Type 0 where
  text : is_text x.0 ≡ true
  rest : AreText x.1

-- what the strings of quoted tokens are
abbrev QuotedAreText : Type 0
QuotedAreText = (q : List ℕ) → is_quoted_text (Quoted q) ≡ true → is_text (string_of q) ≡ true

quoted_are_text : QuotedStringsAreText → QuotedAreText
quoted_are_text law q h =
    let parts = and_parts (is_utf8 q) (list_all is_quoted_byte q) h in
    let text = law q (IsUtf8-from_is_utf8 q parts.0) parts.1 in
    and_from _ _ text.0 text.1

quoted_fine : QuotedAreText → (word bad missing : ScriptKind) (tokens : Lexemes) (x : List ℕ × Lexemes) → quoted_at word bad missing tokens ≡ Ok x
    → AreText tokens → IsString (string_of x.0, x.1)
quoted_fine law word bad missing (Next place (Quoted q) tokens) x h t =
    let parts = and_parts (is_quoted_text (Quoted q)) (list_all is_quoted_text (lexemes tokens)) t in
    subst (λ (y : List ℕ × Lexemes). IsString (string_of y.0, y.1)) {x = (q, tokens)} (ok_same (q, tokens) x h)
    (record { text = law q parts.0; rest = parts.1 })
quoted_fine law word bad missing (Next place (Word w) tokens) x h t = absurd cc
quoted_fine law word bad missing (Next place Bad tokens) x h t = absurd cc
quoted_fine law word bad missing (End place) x h t = absurd cc

string_fine : QuotedAreText → (unquoted missing : ScriptKind) (tokens : Lexemes) (x : List ℕ × Lexemes) → string_at unquoted missing tokens ≡ Ok x → AreText tokens → IsString x
unfolding string_at
string_fine law unquoted missing tokens x h t =
    let q = made (quoted_at unquoted (UnknownWord Broken) missing tokens) (λ quoted. Ok (string_of quoted.0, quoted.1)) x h in
    subst IsString {x = (string_of q.0.0, q.0.1)} (ok_same (string_of q.0.0, q.0.1) x q.2) (quoted_fine law unquoted (UnknownWord Broken) missing tokens q.0 q.1 t)

name_fine : QuotedAreText → (unquoted missing : ScriptKind) (tokens : Lexemes) (x : List ℕ × Lexemes) → name_at unquoted missing tokens ≡ Ok x → AreText tokens → IsString x
unfolding name_at
name_fine law unquoted missing tokens x h t =
    let s = made (string_at unquoted missing tokens) (λ units. at_token tokens (name units.0) >>= λ named. Ok (named, units.1)) x h in
    let n = made (at_token tokens (name s.0.0)) (λ named. Ok (named, s.0.1)) x s.2 in
    let p = passed (is_name_of s.0.0) s.0.0 n.0 BadName (at_made tokens (name s.0.0) n.0 n.1) in
    let fine = string_fine law unquoted missing tokens s.0 s.1 t in
    subst IsString {x = (n.0, s.0.1)} (ok_same (n.0, s.0.1) x n.2)
    (record { text = subst (λ us. is_text us ≡ true) p.1 fine.text; rest = fine.rest })

-- an argument can be written, and text follows it
record IsArgument (x : Arg × Lexemes) : Type 0 where
  writable : is_writable_arg x.0 ≡ true
  rest : AreText x.1

arg_fine : QuotedAreText → (kind : ParamKind) (tokens : Lexemes) (x : Arg × Lexemes) → arg_at kind tokens ≡ Ok x → AreText tokens → IsArgument x
unfolding arg_at
arg_fine law Text tokens x h t =
    let s = made (string_at (WrongArgs Unquoted) (WrongArgs Missing) tokens) (λ text. Ok (arg.Str text.0, text.1)) x h in
    let fine = string_fine law (WrongArgs Unquoted) (WrongArgs Missing) tokens s.0 s.1 t in
    subst IsArgument {x = (arg.Str s.0.0, s.0.1)} (ok_same (arg.Str s.0.0, s.0.1) x s.2) (record { writable = fine.text; rest = fine.rest })
arg_fine law Name tokens x h t =
    let n = made (name_at (WrongArgs Unquoted) (WrongArgs Missing) tokens) (λ name. Ok (arg.Str name.0, name.1)) x h in
    let fine = name_fine law (WrongArgs Unquoted) (WrongArgs Missing) tokens n.0 n.1 t in
    subst IsArgument {x = (arg.Str n.0.0, n.0.1)} (ok_same (arg.Str n.0.0, n.0.1) x n.2) (record { writable = fine.text; rest = fine.rest })
arg_fine law Num tokens x h t =
    let n = made (number_within 0 most_32 (WrongArgs Quoted) (WrongArgs Missing) tokens) (λ number. Ok (arg.Num number.0, number.1)) x h in
    let fine = within_fine 0 most_32 (WrongArgs Quoted) (WrongArgs Missing) tokens n.0 n.1 t in
    subst IsArgument {x = (arg.Num n.0.0, n.0.1)} (ok_same (arg.Num n.0.0, n.0.1) x n.2) (record { writable = fine.number; rest = fine.rest })
arg_fine law Handle tokens x h t =
    let n = made (number_at (WrongArgs Quoted) (WrongArgs Missing) tokens) (λ handle. Ok (arg.Num handle.0, handle.1)) x h in
    let fine = number_fine (WrongArgs Quoted) (WrongArgs Missing) tokens n.0 n.1 t in
    subst IsArgument {x = (arg.Num n.0.0, n.0.1)} (ok_same (arg.Num n.0.0, n.0.1) x n.2) (record { writable = fine.number; rest = fine.rest })

args_fine : QuotedAreText → (kinds : List ParamKind) (tokens : Lexemes) (x : List Arg × Lexemes) → args_at kinds tokens ≡ Ok x → AreText tokens
    → list_all is_writable_arg x.0 ≡ true
unfolding args_at
args_fine law [] tokens x h t = subst (λ (y : List Arg × Lexemes). list_all is_writable_arg y.0 ≡ true) (ok_same ([], tokens) x h) refl
args_fine law (kind ∷ kinds) tokens x h t =
    let a = made (arg_at kind tokens) (λ first. args_at kinds first.1 >>= λ others. Ok (first.0 ∷ others.0, others.1)) x h in
    let o = made (args_at kinds a.0.1) (λ others. Ok (a.0.0 ∷ others.0, others.1)) x a.2 in
    let fine = arg_fine law kind tokens a.0 a.1 t in
    subst (λ (y : List Arg × Lexemes). list_all is_writable_arg y.0 ≡ true) (ok_same (a.0.0 ∷ o.0.0, o.0.1) x o.2)
    (and_from _ _ fine.writable (args_fine law kinds a.0.1 o.0 o.1 fine.rest))

tag_rest : (tokens : Lexemes) (x : CallTag × Lexemes) → tag_at tokens ≡ Ok x → AreText tokens → AreText x.1
unfolding tag_at
tag_rest (Next place (Word w) tokens) x h t =
    let g = made (or_fails (Next place (Word w) tokens) UnknownCall (tag_of_word w)) (λ tag. Ok (tag, tokens)) x h in
    subst (λ (y : CallTag × Lexemes). AreText y.1) {x = (g.0, tokens)} (ok_same (g.0, tokens) x g.2)
    (and_parts (is_quoted_text (Word w)) (list_all is_quoted_text (lexemes tokens)) t).1
tag_rest (Next place (Quoted q) tokens) x h t = absurd cc
tag_rest (Next place Bad tokens) x h t = absurd cc
tag_rest (End place) x h t = absurd cc

-- opening lines

-- each opening line that is read can be written
abbrev Starts : Result StartLine (TokenFault ScriptKind) → Type 0
Starts read = (line : StartLine) → read ≡ Ok line → is_writable_start line ≡ true

dir_fine : QuotedAreText → (tokens : Lexemes) → AreText tokens → Starts (dir tokens)
unfolding dir
dir_fine law tokens t line h =
    let x = made (name_at (UnknownWord Unquoted) (UnknownWord Missing) tokens) (λ name. end_at (UnknownWord Extra) (UnknownWord Broken) name.1 >>= λ end. Ok (Dir name.0)) line h in
    let e = made (end_at (UnknownWord Extra) (UnknownWord Broken) x.0.1) (λ end. Ok (Dir x.0.0)) line x.2 in
    subst (λ line. is_writable_start line ≡ true) {x = Dir x.0.0} (ok_same (Dir x.0.0) line e.2) (name_fine law (UnknownWord Unquoted) (UnknownWord Missing) tokens x.0 x.1 t).text

key_fine : QuotedAreText → (tokens : Lexemes) → AreText tokens → Starts (key tokens)
unfolding key
key_fine law tokens t line h =
    let x = made (name_at (UnknownWord Unquoted) (UnknownWord Missing) tokens) (λ name. end_at (UnknownWord Extra) (UnknownWord Broken) name.1 >>= λ end. Ok (Key name.0)) line h in
    let e = made (end_at (UnknownWord Extra) (UnknownWord Broken) x.0.1) (λ end. Ok (Key x.0.0)) line x.2 in
    subst (λ line. is_writable_start line ≡ true) {x = Key x.0.0} (ok_same (Key x.0.0) line e.2) (name_fine law (UnknownWord Unquoted) (UnknownWord Missing) tokens x.0 x.1 t).text

file_fine : QuotedAreText → (tokens : Lexemes) → AreText tokens → Starts (file tokens)
unfolding file
file_fine law tokens t line h =
    let x = made (name_at (UnknownWord Unquoted) (UnknownWord Missing) tokens)
    (λ name. number_within 0 most_32 BadNumber (UnknownWord Missing) name.1 >>= λ attributes. end_at (UnknownWord Extra) (UnknownWord Broken) attributes.1 >>= λ end. Ok (File name.0 attributes.0)) line h in
    let a = made (number_within 0 most_32 BadNumber (UnknownWord Missing) x.0.1) (λ attributes. end_at (UnknownWord Extra) (UnknownWord Broken) attributes.1 >>= λ end. Ok (File x.0.0 attributes.0)) line x.2 in
    let e = made (end_at (UnknownWord Extra) (UnknownWord Broken) a.0.1) (λ end. Ok (File x.0.0 a.0.0)) line a.2 in
    subst (λ line. is_writable_start line ≡ true) {x = File x.0.0 a.0.0} (ok_same (File x.0.0 a.0.0) line e.2) (name_fine law (UnknownWord Unquoted) (UnknownWord Missing) tokens x.0 x.1 t).text

event_fine : QuotedAreText → (tokens : Lexemes) → AreText tokens → Starts (event tokens)
unfolding event
event_fine law tokens t line h =
    let x = made (name_at (UnknownWord Unquoted) (UnknownWord Missing) tokens)
    (λ name. number_within 0 1 BadNumber (UnknownWord Missing) name.1 >>= λ kind. number_within 0 1 BadNumber (UnknownWord Missing) kind.1 >>= λ initial. end_at (UnknownWord Extra) (UnknownWord Broken) initial.1 >>= λ end. Ok (Event name.0 kind.0 initial.0)) line h in
    let k = made (number_within 0 1 BadNumber (UnknownWord Missing) x.0.1)
    (λ kind. number_within 0 1 BadNumber (UnknownWord Missing) kind.1 >>= λ initial. end_at (UnknownWord Extra) (UnknownWord Broken) initial.1 >>= λ end. Ok (Event x.0.0 kind.0 initial.0)) line x.2 in
    let i = made (number_within 0 1 BadNumber (UnknownWord Missing) k.0.1) (λ initial. end_at (UnknownWord Extra) (UnknownWord Broken) initial.1 >>= λ end. Ok (Event x.0.0 k.0.0 initial.0)) line k.2 in
    let e = made (end_at (UnknownWord Extra) (UnknownWord Broken) i.0.1) (λ end. Ok (Event x.0.0 k.0.0 i.0.0)) line i.2 in
    subst (λ line. is_writable_start line ≡ true) {x = Event x.0.0 k.0.0 i.0.0} (ok_same (Event x.0.0 k.0.0 i.0.0) line e.2)
    (name_fine law (UnknownWord Unquoted) (UnknownWord Missing) tokens x.0 x.1 t).text

start_fine : QuotedAreText → (w : List ℕ) (line tokens : Lexemes) → AreText tokens → Starts (start_line w line tokens)
unfolding start_line
start_fine law w line tokens t =
    branches Starts (is_word (codes "dir") w) (dir tokens) _ (dir_fine law tokens t)
    (branches Starts (is_word (codes "file") w) (file tokens) _ (file_fine law tokens t)
    (branches Starts (is_word (codes "key") w) (key tokens) _ (key_fine law tokens t)
    (branches Starts (is_word (codes "event") w) (event tokens) _ (event_fine law tokens t) (λ start h. absurd cc))))

-- statements

-- each statement that is read can be written
abbrev States : Result Statement (TokenFault ScriptKind) → Type 0
States read = (statement : Statement) → read ≡ Ok statement → is_writable_statement statement ≡ true

call_fine : QuotedAreText → (line tokens : Lexemes) → AreText tokens → States (call line tokens)
unfolding call
call_fine law line tokens text statement h =
    let t = made (tag_at tokens) (λ tag. args_at (shape_of tag.0) tag.1 >>= λ args. end_at (WrongArgs Extra) (UnknownWord Broken) args.1 >>= λ end. at_token line (fitting tag.0 args.0)) statement h in
    let a = made (args_at (shape_of t.0.0) t.0.1) (λ args. end_at (WrongArgs Extra) (UnknownWord Broken) args.1 >>= λ end. at_token line (fitting t.0.0 args.0)) statement t.2 in
    let e = made (end_at (WrongArgs Extra) (UnknownWord Broken) a.0.1) (λ end. at_token line (fitting t.0.0 a.0.0)) statement a.2 in
    let f = passed (encodes t.0.0 a.0.0) (Call t.0.0 a.0.0) statement TooBig (at_made line (fitting t.0.0 a.0.0) statement e.2) in
    subst (λ statement. is_writable_statement statement ≡ true) f.1 (args_fine law (shape_of t.0.0) t.0.1 a.0 a.1 (tag_rest tokens t.0 t.1 text))

value_fine : (tokens : Lexemes) (x : ℕ × Lexemes) → value_at tokens ≡ Ok x → is_word64 x.0 ≡ true
value_fine tokens x h = number_small BadNumber (WrongArgs Missing) tokens x h

store_fine : (tokens : Lexemes) → States (store tokens)
unfolding store
store_fine tokens statement h =
    let w = made (target_word_at tokens) (λ word. value_at word.1 >>= λ value. end_at (WrongArgs Extra) (UnknownWord Broken) value.1 >>= λ end. Ok (Store word.0.0 word.0.1 value.0)) statement h in
    let v = made (value_at w.0.1) (λ value. end_at (WrongArgs Extra) (UnknownWord Broken) value.1 >>= λ end. Ok (Store w.0.0.0 w.0.0.1 value.0)) statement w.2 in
    let e = made (end_at (WrongArgs Extra) (UnknownWord Broken) v.0.1) (λ end. Ok (Store w.0.0.0 w.0.0.1 v.0.0)) statement v.2 in
    subst (λ statement. is_writable_statement statement ≡ true) {x = Store w.0.0.0 w.0.0.1 v.0.0} (ok_same (Store w.0.0.0 w.0.0.1 v.0.0) statement e.2)
    (value_fine w.0.1 v.0 v.1)

exchange_fine : (tokens : Lexemes) → States (exchange tokens)
unfolding exchange
exchange_fine tokens statement h =
    let w = made (target_word_at tokens) (λ word. value_at word.1 >>= λ from. value_at from.1 >>= λ to. end_at (WrongArgs Extra) (UnknownWord Broken) to.1 >>= λ end. Ok (Exchange word.0.0 word.0.1 from.0 to.0)) statement h in
    let f = made (value_at w.0.1) (λ from. value_at from.1 >>= λ to. end_at (WrongArgs Extra) (UnknownWord Broken) to.1 >>= λ end. Ok (Exchange w.0.0.0 w.0.0.1 from.0 to.0)) statement w.2 in
    let t = made (value_at f.0.1) (λ to. end_at (WrongArgs Extra) (UnknownWord Broken) to.1 >>= λ end. Ok (Exchange w.0.0.0 w.0.0.1 f.0.0 to.0)) statement f.2 in
    let e = made (end_at (WrongArgs Extra) (UnknownWord Broken) t.0.1) (λ end. Ok (Exchange w.0.0.0 w.0.0.1 f.0.0 t.0.0)) statement t.2 in
    subst (λ statement. is_writable_statement statement ≡ true) {x = Exchange w.0.0.0 w.0.0.1 f.0.0 t.0.0}
    (ok_same (Exchange w.0.0.0 w.0.0.1 f.0.0 t.0.0) statement e.2)
    (and_from _ _ (value_fine w.0.1 f.0 f.1) (value_fine f.0.1 t.0 t.1))

load_fine : (tokens : Lexemes) → States (load tokens)
unfolding load
load_fine tokens statement h =
    let w = made (target_word_at tokens) (λ word. end_at (WrongArgs Extra) (UnknownWord Broken) word.1 >>= λ end. Ok (Load word.0.0 word.0.1)) statement h in
    let e = made (end_at (WrongArgs Extra) (UnknownWord Broken) w.0.1) (λ end. Ok (Load w.0.0.0 w.0.0.1)) statement w.2 in
    subst (λ statement. is_writable_statement statement ≡ true) {x = Load w.0.0.0 w.0.0.1} (ok_same (Load w.0.0.0 w.0.0.1) statement e.2) refl

wait_fine : (tokens : Lexemes) → States (wait tokens)
unfolding wait
wait_fine tokens statement h =
    let w = made (target_word_at tokens)
    (λ word. value_at word.1 >>= λ value. value_at value.1 >>= λ loads. end_at (WrongArgs Extra) (UnknownWord Broken) loads.1 >>= λ end. at_token value.1 (within 1 1000000 loads.0) >>= λ most. Ok (Wait word.0.0 word.0.1 value.0 most)) statement h in
    let v = made (value_at w.0.1)
    (λ value. value_at value.1 >>= λ loads. end_at (WrongArgs Extra) (UnknownWord Broken) loads.1 >>= λ end. at_token value.1 (within 1 1000000 loads.0) >>= λ most. Ok (Wait w.0.0.0 w.0.0.1 value.0 most)) statement w.2 in
    let l = made (value_at v.0.1) (λ loads. end_at (WrongArgs Extra) (UnknownWord Broken) loads.1 >>= λ end. at_token v.0.1 (within 1 1000000 loads.0) >>= λ most. Ok (Wait w.0.0.0 w.0.0.1 v.0.0 most)) statement v.2 in
    let e = made (end_at (WrongArgs Extra) (UnknownWord Broken) l.0.1) (λ end. at_token v.0.1 (within 1 1000000 l.0.0) >>= λ most. Ok (Wait w.0.0.0 w.0.0.1 v.0.0 most)) statement l.2 in
    let m = made (at_token v.0.1 (within 1 1000000 l.0.0)) (λ most. Ok (Wait w.0.0.0 w.0.0.1 v.0.0 most)) statement e.2 in
    subst (λ statement. is_writable_statement statement ≡ true) {x = Wait w.0.0.0 w.0.0.1 v.0.0 m.0} (ok_same (Wait w.0.0.0 w.0.0.1 v.0.0 m.0) statement m.2)
    (value_fine w.0.1 v.0 v.1)

statement_fine : QuotedAreText → (w : List ℕ) (line tokens : Lexemes) → AreText tokens → States (statement_line w line tokens)
unfolding statement_line
statement_fine law w line tokens text =
    branches States (is_word (codes "call") w) (call line tokens) _ (call_fine law line tokens text)
    (branches States (is_word (codes "store") w) (store tokens) _ (store_fine tokens)
    (branches States (is_word (codes "exchange") w) (exchange tokens) _ (exchange_fine tokens)
    (branches States (is_word (codes "load") w) (load tokens) _ (load_fine tokens)
    (branches States (is_word (codes "wait") w) (wait tokens) _ (wait_fine tokens) (λ statement h. absurd cc)))))

-- what is so far there

-- what was read so far can be written
record IsWritable (sofar : Draft) : Type 0 where
  starts : list_all is_writable_start sofar.start ≡ true
  targets : list_all is_writable_target sofar.targets ≡ true

-- and it can of what is there with one more part
abbrev Gains : Result Draft ScriptKind → Type 0
Gains read = (new : Draft) → read ≡ Ok new → IsWritable new

-- and of what a line gives
abbrev Makes : Result Draft (TokenFault ScriptKind) → Type 0
Makes read = (new : Draft) → read ≡ Ok new → IsWritable new

start_more : (sofar : Draft) (line : StartLine) → IsWritable sofar → is_writable_start line ≡ true → Gains (with_start sofar line)
start_more sofar line f w =
    branches Gains (can_place sofar.start line) _ (Err (BadStart (start_fault sofar.start line)))
    (λ new h.
    let t = passed (nat_lt (length sofar.start) 4096) (record sofar { start = sofar.start ++ line ∷ [] }) new (TooMany Openings) h in
    subst IsWritable t.1 (record { starts = all_more is_writable_start sofar.start line f.starts w; targets = f.targets }))
    (λ new h. absurd cc)

-- the name of a target that is read is a short name
new_name_short : (targets : List TargetScript) (tokens : Lexemes) (x : List ℕ × Lexemes) → new_name_at targets tokens ≡ Ok x → is_short_name x.0 ≡ true
unfolding new_name_at
new_name_short targets (Next place (Word w) tokens) x h =
    let n = made (at_token (Next place (Word w) tokens) (new_name targets w)) (λ name. Ok (name, tokens)) x h in
    let t = by_tests (is_short_name w) (list_any (is_target_named w) targets) w n.0 (at_made (Next place (Word w) tokens) (new_name targets w) n.0 n.1) in
    subst (λ (y : List ℕ × Lexemes). is_short_name y.0 ≡ true) (ok_same (n.0, tokens) x n.2) (subst (λ name. is_short_name name ≡ true) t.1 t.0)
  where
    by_tests : (a b : Bool) (w name : List ℕ) → cond a (cond b (Err SameName) (Ok w)) (Err (UnknownWord Unknown)) ≡ Ok name → (a ≡ true) × (w ≡ name)
    by_tests true false w name h = (refl, ok_same w name h)
    by_tests true true w name h = absurd cc
    by_tests false b w name h = absurd cc
new_name_short targets (Next place (Quoted q) tokens) x h = absurd cc
new_name_short targets (Next place Bad tokens) x h = absurd cc
new_name_short targets (End place) x h = absurd cc

heading_writable : (policies : List Policy) (targets : List TargetScript) (tokens : Lexemes) (x : TargetScript) → heading policies targets tokens ≡ Ok x → is_writable_target x ≡ true
unfolding heading
heading_writable policies targets tokens x h =
    let n = made (new_name_at targets tokens)
    (λ name. policy_at policies name.1 >>= λ policy. number_within 1 8 BadNumber (UnknownWord Missing) policy.1 >>= λ channels. end_at (UnknownWord Extra) (UnknownWord Broken) channels.1
    >>= λ end. Ok (record { name = name.0; policy = policy.0; channels = channels.0; threads = [] })) x h in
    let p = made (policy_at policies n.0.1)
    (λ policy. number_within 1 8 BadNumber (UnknownWord Missing) policy.1 >>= λ channels. end_at (UnknownWord Extra) (UnknownWord Broken) channels.1
    >>= λ end. Ok (record { name = n.0.0; policy = policy.0; channels = channels.0; threads = [] })) x n.2 in
    let c = made (number_within 1 8 BadNumber (UnknownWord Missing) p.0.1)
    (λ channels. end_at (UnknownWord Extra) (UnknownWord Broken) channels.1 >>= λ end. Ok (record { name = n.0.0; policy = p.0.0; channels = channels.0; threads = [] })) x p.2 in
    let e = made (end_at (UnknownWord Extra) (UnknownWord Broken) c.0.1) (λ end. Ok (record { name = n.0.0; policy = p.0.0; channels = c.0.0; threads = [] })) x c.2 in
    subst (λ target. is_writable_target target ≡ true) {x = record { name = n.0.0; policy = p.0.0; channels = c.0.0; threads = [] }}
    (ok_same (record { name = n.0.0; policy = p.0.0; channels = c.0.0; threads = [] }) x e.2) (and_from _ _ (new_name_short targets tokens n.0 n.1) refl)

target_more : (policies : List Policy) (sofar : Draft) (line tokens : Lexemes) → IsWritable sofar → Makes (add_target policies sofar line tokens)
unfolding add_target
target_more policies sofar line tokens f new h =
    let x = made (heading policies sofar.targets tokens) (λ target. at_token line (with_target sofar target)) new h in
    let t = passed (nat_lt (length sofar.targets) 8) (record sofar { targets = sofar.targets ++ x.0 ∷ [] }) new (TooMany Targets) (at_made line (with_target sofar x.0) new x.2) in
    subst IsWritable t.1 (record { starts = f.starts; targets = all_more is_writable_target sofar.targets x.0 f.targets (heading_writable policies sofar.targets tokens x.0 x.1) })

thread_step : (x y : TargetScript) → is_writable_target x ≡ true → one_thread_more x ≡ Ok y → is_writable_target y ≡ true
thread_step x y h e =
    let t = passed (nat_lt (length x.threads) 4) (record x { threads = x.threads ++ [] ∷ [] }) y (TooMany Threads) e in
    let parts = and_parts (is_short_name x.name) (list_all is_writable_thread x.threads) h in
    subst (λ y. is_writable_target y ≡ true) t.1 (and_from _ _ parts.0 (all_more is_writable_thread x.threads [] parts.1 refl))

thread_more : (sofar : Draft) (line tokens : Lexemes) → IsWritable sofar → Makes (add_thread sofar line tokens)
unfolding add_thread
thread_more sofar line tokens f = branches Makes (is_opening sofar) (misplaced line) _ (λ new h. absurd cc) told
  where
    told : Makes (end_at (UnknownWord Extra) (UnknownWord Broken) tokens >>= λ end. at_token line (with_thread sofar))
    told new h =
        let e = made (end_at (UnknownWord Extra) (UnknownWord Broken) tokens) (λ end. at_token line (with_thread sofar)) new h in
        let m = made (change_last one_thread_more sofar.targets) (λ targets. Ok (record sofar { targets = targets })) new (at_made line (with_thread sofar) new e.2) in
        subst IsWritable (ok_same (record sofar { targets = m.0 }) new m.2)
        (record { starts = f.starts; targets = changed_all is_writable_target one_thread_more sofar.targets m.0 thread_step f.targets m.1 })

patience_more : (sofar : Draft) (line tokens : Lexemes) → IsWritable sofar → Makes (set_patience sofar line tokens)
unfolding set_patience
patience_more sofar line tokens f = by_patience sofar.patience
  where
    told : Makes (patience tokens >>= λ n. Ok (with_patience sofar n))
    told new h =
        let n = made (patience tokens) (λ n. Ok (with_patience sofar n)) new h in
        subst IsWritable (ok_same (with_patience sofar n.0) new n.2) (record { starts = f.starts; targets = f.targets })

    by_patience : (old : Option ℕ) → Makes (elim old [
      | None ↦ cond (is_opening sofar) (patience tokens >>= λ n. Ok (with_patience sofar n)) (misplaced line)
      | Some n ↦ fails line (UnknownWord Repeated)
    ])
    by_patience None = branches Makes (is_opening sofar) _ _ told (λ new h. absurd cc)
    by_patience (Some n) = λ new h. absurd cc

statement_step : (statement : Statement) (x y : TargetScript) → is_writable_statement statement ≡ true → is_writable_target x ≡ true
    → in_last_thread statement x ≡ Ok y → is_writable_target y ≡ true
statement_step statement x y s h e =
    let m = made (change_last (one_statement_more statement) x.threads) (λ threads. Ok (record x { threads = threads })) y e in
    let parts = and_parts (is_short_name x.name) (list_all is_writable_thread x.threads) h in
    subst (λ y. is_writable_target y ≡ true) (ok_same (record x { threads = m.0 }) y m.2)
    (and_from _ _ parts.0 (changed_all is_writable_thread (one_statement_more statement) x.threads m.0 one parts.1 m.1))
  where
    one : (before after : List Statement) → is_writable_thread before ≡ true → one_statement_more statement before ≡ Ok after → is_writable_thread after ≡ true
    one before after h e =
        let t = passed (nat_lt (length before) 4096) (before ++ statement ∷ []) after (TooMany Statements) e in
        subst (λ after. is_writable_thread after ≡ true) t.1 (all_more is_writable_statement before statement h s)

statement_more : (at : StatementAt) (sofar : Draft) (statement : Statement) → IsWritable sofar → is_writable_statement statement ≡ true → Gains (with_statement sofar at statement)
statement_more at sofar statement f s new h =
    let named = sofar.named ++ named_by at statement in
    let m = made (change_last (in_last_thread statement) sofar.targets) (λ targets. Ok (record sofar { targets = targets; named = named })) new h in
    subst IsWritable (ok_same (record sofar { targets = m.0; named = named }) new m.2) (record {
      starts = f.starts;
      targets = changed_all is_writable_target (in_last_thread statement) sofar.targets m.0 (λ x y h e. statement_step statement x y s h e) f.targets m.1;
    })

plain_more : QuotedAreText → (number : ℕ) (w : List ℕ) (sofar : Draft) (line tokens : Lexemes) → IsWritable sofar → AreText tokens
    → Makes (plain_line w sofar number line tokens)
unfolding plain_line
plain_more law number w sofar line tokens f t =
    branches Makes (is_in_thread sofar) _ _
    (λ new h. let at = statement_at number tokens in
    let s = made (statement_line w line tokens) (λ statement. at_token line (with_statement sofar at statement)) new h in
    statement_more at sofar s.0 f (statement_fine law w line tokens t s.0 s.1) new (at_made line (with_statement sofar at s.0) new s.2))
    (branches Makes (is_opening sofar) _ (not_here w line)
    (λ new h. let s = made (start_line w line tokens) (λ start. at_start line tokens (with_start sofar start)) new h in
    start_more sofar s.0 f (start_fine law w line tokens t s.0 s.1) new (start_made line tokens (with_start sofar s.0) new s.2))
    (λ new h. absurd cc))

line_more : QuotedAreText → (policies : List Policy) (sofar : Draft) (line : ℕ) (tokens : Lexemes) → IsWritable sofar → AreText tokens
    → Makes (line_of policies sofar line tokens)
unfolding line_of
line_more law policies sofar number (Next place (Word w) tokens) f t =
    let line = Next place (Word w) tokens in
    branches Makes (is_word (codes "patience") w) _ _ (patience_more sofar line tokens f)
    (branches Makes (is_word (codes "target") w) _ _ (target_more policies sofar line tokens f)
    (branches Makes (is_word (codes "thread") w) _ _ (thread_more sofar line tokens f)
    (plain_more law number w sofar line tokens f (and_parts (is_quoted_text (Word w)) (list_all is_quoted_text (lexemes tokens)) t).1)))
line_more law policies sofar line (Next place (Quoted q) tokens) f t = λ new h. absurd cc
line_more law policies sofar line (Next place Bad tokens) f t = λ new h. absurd cc
line_more law policies sofar line (End place) f t = λ new h. absurd cc

-- texts

lines_more : QuotedAreText → (policies : List Policy) (version : ℕ) (sofar : Draft) (lines : List NumberedLine) → IsWritable sofar → list_all has_quoted_text lines ≡ true
    → (new : Draft) → read_lines (grammar policies) version sofar lines ≡ Ok new → IsWritable new
unfolding read_lines
lines_more law policies version sofar [] f t new h = subst IsWritable (ok_same sofar new h) f
lines_more law policies version sofar (line ∷ lines) f t new h =
    let read = add_line policies sofar line in
    let parts = and_parts (has_quoted_text line) (list_all has_quoted_text lines) t in
    let m = made (on_line by_tokens line read) (λ more. read_lines (grammar policies) version more lines) new h in
    let more = line_more law policies sofar line.number (tokens_of line.text) f parts.0 m.0 (on_this line read m.0 m.1) in
    lines_more law policies version m.0 lines more parts.1 new m.2

by_writable : QuotedAreText → (policies : List Policy) (lines : List NumberedLine) (sofar : Draft) → list_all has_quoted_text lines ≡ true
    → read_by (grammar policies) lines ≡ Ok sofar → IsWritable sofar
by_writable law policies [] sofar t h = absurd cc
by_writable law policies (first ∷ lines) sofar t h =
    let m = made (on_line by_tokens first (script_version first.text)) (λ version. read_lines (grammar policies) version nothing lines) sofar h in
    lines_more law policies m.0 nothing lines (record { starts = refl; targets = refl }) (and_parts (has_quoted_text first) (list_all has_quoted_text lines) t).1 sofar m.2

script_writable : (text : List ℕ) (sofar : Draft) (script : Script) → IsWritable sofar → finished text sofar ≡ Ok script → is_writable script ≡ true
script_writable text sofar script f h = by_absence (first_absence sofar.targets sofar.named) h
  where
    by_absence : (absent : Option Absence)
        → ◌≡◌ {A = Result Script ScriptFault} (elim absent [ None ↦ Ok (script_of sofar) | Some absence ↦ Err (absence_fault text absence) ]) (Ok script) → is_writable script ≡ true
    by_absence None h = subst (λ s. is_writable s ≡ true) (ok_same (script_of sofar) script h) (and_from _ _ f.starts f.targets)
    by_absence (Some absence) h = absurd cc

read_writable : QuotedAreText → QuotedTokensAreText → (policies : List Policy) (text : List ℕ) (script : Script) → reading policies text ≡ Ok script → is_writable script ≡ true
read_writable strings law policies text script h =
    let d = made (read_text NotUtf8 (grammar policies) text) (λ sofar. finished text sofar) script h in
    script_writable text d.0 script (by_utf8 d.0 (not_utf8_place text) refl d.1) d.2
  where
    by_utf8 : (sofar : Draft) (place : Option Place) → not_utf8_place text ≡ place
        → where_utf8 NotUtf8 place (read_by (grammar policies) (lines_of text)) ≡ Ok sofar
        → IsWritable sofar
    by_utf8 sofar None e h = by_writable strings policies (lines_of text) sofar (law text e) h
    by_utf8 sofar (Some place) e h = absurd cc

pub read_scripts_can_be_written : QuotedStringsAreText → QuotedTokensAreText → ReadScriptsCanBeWritten
read_scripts_can_be_written strings law policies text script h = read_writable (quoted_are_text strings) law policies text script h

-- the strings of what can be written are made of units

text_units : (us : List ℕ) → list_all is_text_unit us ≡ true → list_all is_unit us ≡ true
text_units [] h = refl
text_units (u ∷ us) h =
    let parts = and_parts (is_text_unit u) (list_all is_text_unit us) h in
    and_from _ _ (and_parts (nat_le 32 u) (is_unit u) (and_parts (nat_le 32 u && is_unit u) (not (u == 34)) parts.0).0).1 (text_units us parts.1)

args_units : (args : List Arg) → list_all is_writable_arg args ≡ true → list_all has_units args ≡ true
args_units [] h = refl
args_units (arg.Str text ∷ args) h =
    let parts = and_parts (is_text text) (list_all is_writable_arg args) h in
    and_from _ _ (text_units text (and_parts (list_all is_text_unit text) (is_paired text) parts.0).0) (args_units args parts.1)
args_units (arg.Num number ∷ args) h = args_units args (and_parts (is_word64 number) (list_all is_writable_arg args) h).1

statement_units : (statement : Statement) → is_writable_statement statement ≡ true → statement_has_units statement ≡ true
statement_units (Call tag args) h = args_units args h
statement_units (Store target word value) h = refl
statement_units (Exchange target word old new) h = refl
statement_units (Load target word) h = refl
statement_units (Wait target word value most) h = refl

-- what each of these has, each of those has
all_as : {A : Type 0} (p q : A → Bool) → ((x : A) → p x ≡ true → q x ≡ true) → (xs : List A) → list_all p xs ≡ true → list_all q xs ≡ true
all_as p q f [] h = refl
all_as p q f (x ∷ xs) h = let parts = and_parts (p x) (list_all p xs) h in and_from _ _ (f x parts.0) (all_as p q f xs parts.1)

thread_units : (statements : List Statement) → is_writable_thread statements ≡ true → thread_has_units statements ≡ true
thread_units statements h = all_as is_writable_statement statement_has_units statement_units statements h

target_units : (target : TargetScript) → is_writable_target target ≡ true → target_has_units target ≡ true
target_units target h =
    all_as is_writable_thread thread_has_units thread_units target.threads (and_parts (is_short_name target.name) (list_all is_writable_thread target.threads) h).1

pub read_scripts_have_units : QuotedStringsAreText → QuotedTokensAreText → ReadScriptsHaveUnits
read_scripts_have_units strings law policies text script h =
    let writable = read_writable (quoted_are_text strings) law policies text script h in
    all_as is_writable_target target_has_units target_units script.targets
    (and_parts (list_all is_writable_start script.start) (list_all is_writable_target script.targets) writable).1
