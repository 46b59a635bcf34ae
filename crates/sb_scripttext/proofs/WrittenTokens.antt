-- The tokens that are written are plain.
use Rattle.std.proofs.Common.{◌≡◌, ◌∙◌, ℕ, zero, suc, ◌^◌, ◌<◌, nat_le, nat_lt, Bool, true, ◌&&◌, List, [], ◌∷◌, length, map, refl, arith}
use Rattle.std.specs.Fmt.{decimal}
use Rattle.std.specs.List.{flat_map, list_all}
use Rattle.std.proofs.lemmas.Bool.{and_parts, false≢true, and_from}
use Rattle.std.proofs.lemmas.Bool.Decides.{nat_tests}
use Rattle.std.proofs.lemmas.List.Folds.{list_all-append}
use Rattle.std.proofs.lemmas.Str.{is_utf8-from_IsUtf8}
use Rattle.sb_call.specs.CallWords.{call_word}
use Rattle.sb_call.specs.ShortNames.{is_name_byte, is_short_name}
use Rattle.sb_call.specs.declared.arguments.Arg.{Arg}
use Rattle.sb_call.specs.declared.arguments.Arg.TheVariants as arg
use Rattle.sb_call.specs.declared.tags.CallTag.{CallTag}
use Rattle.sb_call.specs.declared.tags.CallTag.TheVariants.{Ping, FileCreate, FileOpen, FileQuery, FileRename, PipeCreate, KeyCreate, KeyOpen, EventCreate, EventOpen, HandleClose}
use Rattle.sb_rule.specs.declared.policies.Policy.{Policy}
use Rattle.sb_statements.specs.Soundness.{has_word, is_patience, is_start, is_statement, is_thread, is_target}
use Rattle.sb_statements.specs.declared.scripts.Script.{Script}
use Rattle.sb_statements.specs.declared.scripts.StartLine.{StartLine}
use Rattle.sb_statements.specs.declared.scripts.StartLine.TheVariants.{Dir, File, Key, Event}
use Rattle.sb_statements.specs.declared.scripts.TargetScript.{TargetScript}
use Rattle.sb_statements.specs.declared.statements.Statement.{Statement}
use Rattle.sb_statements.specs.declared.statements.Statement.TheVariants.{Call, Store, Exchange, Load, Wait}
use Rattle.sb_statements.specs.declared.statements.Word as words
use Rattle.sb_text.specs.PlainLines.{is_plain_byte, is_plain, is_plain_line}
use Rattle.sb_scripttext.proofs.WrittenOpenings.{few_attributes, bit_number}
use Rattle.sb_scripttext.proofs.WrittenStatements.{AreSound, IsNamed, named_there, patience_number}
use Rattle.sb_scripttext.proofs.WrittenWords.{Texts, string_back, number_digits, short_number}
use Rattle.sb_book.specs.Readiness.{is_judged}
use Rattle.sb_scripttext.specs.Writable.{is_writable_start, is_writable_arg, is_writable_statement, is_writable_thread, is_writable_target, are_short_named}
use Rattle.sb_base.specs.Numbers.{is_word64}
use Rattle.sb_text.specs.Strings.{is_text, string_token}
use Rattle.sb_scripttext.specs.Writing.{number_token, place_word, start_tokens, arg_token, word_tokens, statement_tokens, thread_lines, policy_name, heading_tokens, target_lines, patience_tokens, script_lines}
use Rattle.sb_text.specs.Numbers.{is_decimal_digit, are_digits}
use Rattle.sb_text.specs.Tokens.{Lexeme, Word, utf8_of}
use Rattle.sb_base.specs.Names.{is_name_of}

-- words

all_more : {A : Type 0} (p q : A → Bool) → ((x : A) → p x ≡ true → q x ≡ true) → (xs : List A) → list_all p xs ≡ true → list_all q xs ≡ true
all_more p q f [] h = refl
all_more p q f (x ∷ xs) h = and_from _ _ (f x (and_parts _ _ h).0) (all_more p q f xs (and_parts _ _ h).1)

digit_plain : (b : ℕ) → is_decimal_digit b ≡ true → is_plain_byte b ≡ true
digit_plain b h = grind (arith, nat_tests)

digits_plain : (w : List ℕ) → are_digits is_decimal_digit 20 w ≡ true → is_plain (Word w) ≡ true
digits_plain [] h = absurd (false≢true h)
digits_plain (b ∷ w) h = all_more is_decimal_digit is_plain_byte digit_plain (b ∷ w) (and_parts _ _ h).1

number_plain : Texts → (n : ℕ) → is_word64 n ≡ true → is_plain (number_token n) ≡ true
number_plain law n h = digits_plain (decimal n) (number_digits law n h)

place_plain : Texts → (at : ℕ) → nat_le at 64 ≡ true → is_plain (Word (place_word at)) ≡ true
place_plain law zero h = refl
place_plain law (suc i) h = number_plain law i (few i h)
  where
    few : (i : ℕ) → nat_le (suc i) 64 ≡ true → is_word64 i ≡ true
    few i h = grind (arith, nat_tests)

name_byte : (b : ℕ) → is_name_byte b ≡ true → is_plain_byte b ≡ true
name_byte b h = grind (arith, nat_tests)

name_plain : (name : List ℕ) → is_short_name name ≡ true → is_plain (Word name) ≡ true
name_plain [] h = absurd (false≢true h)
name_plain (b ∷ name) h = all_more is_name_byte is_plain_byte name_byte (b ∷ name) (and_parts _ _ h).1

policy_plain : (policies : List Policy) (i : ℕ) → are_short_named policies ≡ true → i < length policies → is_plain (Word (policy_name policies i)) ≡ true
policy_plain [] i h k = absurd (omega arith)
policy_plain (policy ∷ policies) zero h k = name_plain policy.name (and_parts (is_short_name policy.name) (are_short_named policies) h).0
policy_plain (policy ∷ policies) (suc i) h k = policy_plain policies i (and_parts (is_short_name policy.name) (are_short_named policies) h).1 (omega arith)

call_plain : (tag : CallTag) → is_plain (Word (call_word tag)) ≡ true
call_plain Ping = refl
call_plain FileCreate = refl
call_plain FileOpen = refl
call_plain FileQuery = refl
call_plain FileRename = refl
call_plain PipeCreate = refl
call_plain KeyCreate = refl
call_plain KeyOpen = refl
call_plain EventCreate = refl
call_plain EventOpen = refl
call_plain HandleClose = refl

-- strings

string_plain : Texts → (us : List ℕ) → is_text us ≡ true → is_plain (string_token us) ≡ true
string_plain law us h = let s = string_back law us h in and_from _ _ s.quoted (is_utf8-from_IsUtf8 (utf8_of us) s.utf8)

-- opening lines

pub start_plain : Texts → (line : StartLine) → is_start line ≡ true → is_writable_start line ≡ true → is_plain_line (start_tokens line) ≡ true
start_plain law (Dir name) h w = and_from _ _ (string_plain law name w) refl
start_plain law (File name attributes) h w =
    let few = few_attributes attributes (and_parts (is_name_of name) (nat_lt attributes (2 ^ 32)) h).1 in
    and_from _ _ (string_plain law name w) (and_from _ _ (number_plain law attributes (short_number attributes few)) refl)
start_plain law (Key name) h w = and_from _ _ (string_plain law name w) refl
start_plain law (Event name kind initial) h w =
    let parts = and_parts (is_name_of name && nat_le kind 1) (nat_le initial 1) h in
    let first = and_parts (is_name_of name) (nat_le kind 1) parts.0 in
    and_from _ _ (string_plain law name w)
    (and_from _ _ (number_plain law kind (bit_number kind first.1)) (and_from _ _ (number_plain law initial (bit_number initial parts.1)) refl))

starts_plain : Texts → (lines : List StartLine) → list_all is_start lines ≡ true → list_all is_writable_start lines ≡ true
    → list_all is_plain_line (map start_tokens lines) ≡ true
starts_plain law [] h w = refl
starts_plain law (line ∷ lines) h w =
    and_from _ _ (start_plain law line (and_parts _ _ h).0 (and_parts _ _ w).0) (starts_plain law lines (and_parts _ _ h).1 (and_parts _ _ w).1)

-- statements

args_plain : Texts → (args : List Arg) → list_all is_writable_arg args ≡ true → list_all is_plain (map arg_token args) ≡ true
args_plain law [] w = refl
args_plain law (arg.Str text ∷ args) w = and_from _ _ (string_plain law text (and_parts _ _ w).0) (args_plain law args (and_parts _ _ w).1)
args_plain law (arg.Num number ∷ args) w = and_from _ _ (number_plain law number (and_parts _ _ w).0) (args_plain law args (and_parts _ _ w).1)

word_plain : Texts → (target : ℕ) (word : words.Word) (tokens : List Lexeme) → IsNamed target word → list_all is_plain tokens ≡ true
    → list_all is_plain (word_tokens target word.channel word.at tokens) ≡ true
word_plain law target word tokens n t =
    and_from _ _ (number_plain law target (short_number target n.short_target))
    (and_from _ _ (number_plain law word.channel (short_number word.channel n.short_channel)) (and_from _ _ (place_plain law word.at n.place) t))

value_plain : Texts → (value : ℕ) → is_word64 value ≡ true → list_all is_plain (number_token value ∷ []) ≡ true
value_plain law value h = and_from _ _ (number_plain law value h) refl

values_plain : Texts → (one two : ℕ) → is_word64 one ≡ true → is_word64 two ≡ true → list_all is_plain (number_token one ∷ number_token two ∷ []) ≡ true
values_plain law one two h k = and_from _ _ (number_plain law one h) (value_plain law two k)

pub statement_plain : Texts → (targets : List TargetScript) (statement : Statement) → AreSound targets → is_statement targets statement ≡ true
    → is_writable_statement statement ≡ true → is_plain_line (statement_tokens statement) ≡ true
statement_plain law targets (Call tag args) s h w = and_from _ _ (call_plain tag) (args_plain law args w)
statement_plain law targets (Store target word value) s h w =
    word_plain law target word (number_token value ∷ []) (named_there targets target word s h) (value_plain law value w)
statement_plain law targets (Exchange target word old new) s h w =
    word_plain law target word (number_token old ∷ number_token new ∷ []) (named_there targets target word s h)
    (values_plain law old new (and_parts (is_word64 old) (is_word64 new) w).0 (and_parts (is_word64 old) (is_word64 new) w).1)
statement_plain law targets (Load target word) s h w = word_plain law target word [] (named_there targets target word s h) refl
statement_plain law targets (Wait target word value most) s h w =
    let parts = and_parts (has_word targets target word) (is_patience most) h in
    word_plain law target word (number_token value ∷ number_token most ∷ []) (named_there targets target word s parts.0)
    (values_plain law value most w (patience_number most parts.1))

statements_plain : Texts → (targets : List TargetScript) (statements : List Statement) → AreSound targets
    → list_all (is_statement targets) statements ≡ true → list_all is_writable_statement statements ≡ true
    → list_all is_plain_line (map statement_tokens statements) ≡ true
statements_plain law targets [] s h w = refl
statements_plain law targets (statement ∷ statements) s h w =
    and_from _ _ (statement_plain law targets statement s (and_parts _ _ h).0 (and_parts _ _ w).0)
    (statements_plain law targets statements s (and_parts _ _ h).1 (and_parts _ _ w).1)

threads_plain : Texts → (targets : List TargetScript) (threads : List (List Statement)) → AreSound targets
    → list_all (is_thread targets) threads ≡ true → list_all is_writable_thread threads ≡ true
    → list_all is_plain_line (flat_map thread_lines threads) ≡ true
threads_plain law targets [] s h w = refl
threads_plain law targets (statements ∷ threads) s h w =
    let sound = (and_parts (is_thread targets statements) (list_all (is_thread targets) threads) h).0 in
    list_all-append is_plain_line (thread_lines statements) (flat_map thread_lines threads)
    ∙ and_from _ _ (statements_plain law targets statements s (and_parts _ _ sound).1 (and_parts _ _ w).0)
    (threads_plain law targets threads s (and_parts _ _ h).1 (and_parts _ _ w).1)

-- targets

pub channels_number : (n : ℕ) → nat_le n 8 ≡ true → is_word64 n ≡ true
channels_number n h = grind (arith, nat_tests)

below : (i n : ℕ) → nat_lt i n ≡ true → i < n
below i n k = grind (arith, nat_tests)

-- what a sound target has: channels from 1 to 8, at most 4 threads, and sound threads
pub record IsSoundTarget (all : List TargetScript) (target : TargetScript) : Type 0 where
  pub channels : (nat_le 1 target.channels && nat_le target.channels 8) ≡ true
  pub few : nat_le (length target.threads) 4 ≡ true
  pub threads : list_all (is_thread all) target.threads ≡ true

pub sound_target : (all : List TargetScript) (target : TargetScript) → is_target all target ≡ true → IsSoundTarget all target
sound_target all target h =
    let parts = and_parts (nat_le 1 target.channels && nat_le target.channels 8 && nat_le (length target.threads) 4) (list_all (is_thread all) target.threads) h in
    let first = and_parts (nat_le 1 target.channels && nat_le target.channels 8) (nat_le (length target.threads) 4) parts.0 in
    record { channels = first.0; few = first.1; threads = parts.1 }

pub patience_plain : Texts → (n : ℕ) → is_patience n ≡ true → is_plain_line (patience_tokens n) ≡ true
patience_plain law n h = and_from _ _ (number_plain law n (patience_number n h)) refl

pub heading_plain : Texts → (policies : List Policy) (target : TargetScript) → are_short_named policies ≡ true
    → is_judged (length policies) target ≡ true → is_short_name target.name ≡ true → (nat_le 1 target.channels && nat_le target.channels 8) ≡ true
    → is_plain_line (heading_tokens policies target) ≡ true
heading_plain law policies target p j n c =
    let channels = channels_number target.channels (and_parts (nat_le 1 target.channels) (nat_le target.channels 8) c).1 in
    and_from _ _ (name_plain target.name n)
    (and_from _ _ (policy_plain policies target.policy p (below target.policy (length policies) j)) (and_from _ _ (number_plain law target.channels channels) refl))

target_plain : Texts → (policies : List Policy) (all : List TargetScript) (target : TargetScript) → are_short_named policies ≡ true → AreSound all
    → is_target all target ≡ true → is_judged (length policies) target ≡ true → is_writable_target target ≡ true
    → list_all is_plain_line (target_lines policies target) ≡ true
target_plain law policies all target p s h j w =
    let sound = sound_target all target h in
    let parts = and_parts (is_short_name target.name) (list_all is_writable_thread target.threads) w in
    and_from _ _ (heading_plain law policies target p j parts.0 sound.channels)
    (threads_plain law all target.threads s sound.threads parts.1)

targets_plain : Texts → (policies : List Policy) (all targets : List TargetScript) → are_short_named policies ≡ true → AreSound all
    → list_all (is_target all) targets ≡ true → list_all (is_judged (length policies)) targets ≡ true → list_all is_writable_target targets ≡ true
    → list_all is_plain_line (flat_map (target_lines policies) targets) ≡ true
targets_plain law policies all [] p s h j w = refl
targets_plain law policies all (target ∷ targets) p s h j w =
    list_all-append is_plain_line (target_lines policies target) (flat_map (target_lines policies) targets)
    ∙ and_from _ _ (target_plain law policies all target p s (and_parts _ _ h).0 (and_parts (is_judged (length policies) target) (list_all (is_judged (length policies)) targets) j).0 (and_parts _ _ w).0)
    (targets_plain law policies all targets p s (and_parts _ _ h).1 (and_parts (is_judged (length policies) target) (list_all (is_judged (length policies)) targets) j).1 (and_parts _ _ w).1)

-- what a script that can be written has
pub record IsWhole (policies : List Policy) (script : Script) : Type 0 where
  pub patience : is_patience script.patience ≡ true
  pub few_starts : nat_le (length script.start) 4096 ≡ true
  pub starts : list_all is_start script.start ≡ true
  pub targets : AreSound script.targets
  pub judged : list_all (is_judged (length policies)) script.targets ≡ true
  pub writable_starts : list_all is_writable_start script.start ≡ true
  pub writable_targets : list_all is_writable_target script.targets ≡ true

-- the lines of a script are plain
pub script_plain : Texts → (policies : List Policy) (script : Script) → are_short_named policies ≡ true → IsWhole policies script
    → list_all is_plain_line (script_lines policies script) ≡ true
script_plain law policies script p s =
    and_from _ _ (patience_plain law script.patience s.patience)
    (list_all-append is_plain_line (map start_tokens script.start) (flat_map (target_lines policies) script.targets)
    ∙ and_from _ _ (starts_plain law script.start s.starts s.writable_starts)
    (targets_plain law policies script.targets script.targets p s.targets s.targets.sound s.judged s.writable_targets))
