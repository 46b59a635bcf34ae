-- The statements that are written are read as they were.
use Rattle.std.proofs.Common.{◌≡◌, ◌∙◌, ℕ, zero, suc, ◌^◌, ◌<◌, nat_le, nat_lt, Bool, true, false, cond, List, [], ◌∷◌, length, map, None, Some, Option, Ok, Err, Result, slice_get, ap, refl, arith}
use Rattle.std.specs.List.{list_all}
use Rattle.std.proofs.lemmas.Bool.{and_parts, false≢true}
use Rattle.std.proofs.lemmas.Bool.Decides.{nat_tests}
use Rattle.sb_block.specs.Blocks.{encodes}
use Rattle.sb_call.specs.Arguments.{fits_kind, fit}
use Rattle.sb_call.specs.CallWords.{call_word}
use Rattle.sb_call.specs.Tags.{shape_of}
use Rattle.sb_call.specs.declared.arguments.Arg.{Arg}
use Rattle.sb_call.specs.declared.arguments.Arg.TheVariants as arg
use Rattle.sb_call.specs.declared.tags.CallTag.{CallTag}
use Rattle.sb_call.specs.declared.tags.ParamKind.{ParamKind}
use Rattle.sb_call.specs.declared.tags.ParamKind.TheVariants.{Text, Name, Num, Handle}
use Rattle.sb_statements.specs.Soundness.{channels_of, has_word, is_patience, is_statement, is_target}
use Rattle.sb_statements.specs.declared.scripts.TargetScript.{TargetScript}
use Rattle.sb_statements.specs.declared.statements.Statement.{Statement}
use Rattle.sb_statements.specs.declared.statements.Statement.TheVariants.{Call, Store, Exchange, Load, Wait}
use Rattle.sb_statements.specs.declared.statements.Word as words
use Rattle.sb_scripttext.proofs.WrittenWords.{Texts, at_most, number_read, within_read, short_read, place_read, string_read, name_read, tag_read}
use Rattle.sb_scripttext.specs.Arguments.{most_32, arg_at, args_at, fitting, call}
use Rattle.sb_scripttext.specs.Drafts.{named_by}
use Rattle.sb_scripttext.specs.ScriptTexts.{Absence, first_absence, no_channel, no_target}
use Rattle.sb_scripttext.specs.Statements.{value_at, short_at, place_at, target_word_at, store, exchange, load, wait}
use Rattle.sb_scripttext.specs.Steps.{within}
use Rattle.sb_scripttext.specs.Writable.{is_writable_arg, is_writable_statement}
use Rattle.sb_base.specs.Numbers.{is_word64}
use Rattle.sb_scripttext.specs.Writing.{number_token, place_word, arg_token, word_tokens, statement_tokens}
use Rattle.sb_scripttext.specs.declared.faults.ScriptKind.{ScriptKind}
use Rattle.sb_scripttext.specs.declared.faults.ScriptKind.TheVariants.{UnknownWord, WrongArgs, BadNumber, OutOfRange, TooBig}
use Rattle.sb_text.specs.Steps.{◌>>=◌, Read, at_token, later, end_at}
use Rattle.sb_text.specs.TokenLaws.{placed}
use Rattle.sb_text.specs.Tokens.{Lexeme, Lexemes, Word}
use Rattle.sb_scripttext.specs.declared.drafts.Named.{Named}
use Rattle.sb_scripttext.specs.declared.drafts.StatementAt.{StatementAt}
use Rattle.sb_text.specs.declared.refusals.TokenFault.{TokenFault}
use Rattle.sb_text.specs.declared.refusals.WordFault.TheVariants.{Broken, Extra, Missing, Quoted, Unquoted}

-- arguments

-- an argument, and the tokens after it
abbrev as_text : List ℕ × Lexemes → Read Arg ScriptKind
as_text text = Ok (arg.Str text.0, text.1)

abbrev as_number : ℕ × Lexemes → Read Arg ScriptKind
as_number number = Ok (arg.Num number.0, number.1)

small_arg : (n : ℕ) → nat_lt n (2 ^ 32) ≡ true → nat_le n most_32 ≡ true
small_arg n h = grind (arith, nat_tests)

arg_read : Texts → (kind : ParamKind) (a : Arg) (rest : List Lexeme) → fits_kind kind a ≡ true → is_writable_arg a ≡ true
    → arg_at kind (placed (arg_token a ∷ rest)) ≡ Ok (a, placed rest)
unfolding arg_at
arg_read law Text (arg.Str text) rest h w = ap (λ (r : Read (List ℕ) ScriptKind). r >>= as_text) (string_read law (WrongArgs Unquoted) (WrongArgs Missing) text rest w)
arg_read law Text (arg.Num number) rest h w = absurd (false≢true h)
arg_read law Name (arg.Str text) rest h w = ap (λ (r : Read (List ℕ) ScriptKind). r >>= as_text) (name_read law (WrongArgs Unquoted) (WrongArgs Missing) text rest w h)
arg_read law Name (arg.Num number) rest h w = absurd (false≢true h)
arg_read law Num (arg.Str text) rest h w = absurd (false≢true h)
arg_read law Num (arg.Num number) rest h w =
    ap (λ (r : Read ℕ ScriptKind). r >>= as_number) (within_read law 0 most_32 (WrongArgs Quoted) (WrongArgs Missing) number rest w (at_most number (small_arg number h)))
arg_read law Handle (arg.Str text) rest h w = absurd (false≢true h)
arg_read law Handle (arg.Num number) rest h w = ap (λ (r : Read ℕ ScriptKind). r >>= as_number) (number_read law (WrongArgs Quoted) (WrongArgs Missing) number rest w)

-- an argument before others
abbrev with_others : List ParamKind → Arg × Lexemes → Read (List Arg) ScriptKind
with_others kinds first = args_at kinds first.1 >>= λ others. Ok (first.0 ∷ others.0, others.1)

abbrev behind : Arg → List Arg × Lexemes → Read (List Arg) ScriptKind
behind first others = Ok (first ∷ others.0, others.1)

args_read : Texts → (kinds : List ParamKind) (args : List Arg) → fit kinds args ≡ true → list_all is_writable_arg args ≡ true
    → args_at kinds (placed (map arg_token args)) ≡ Ok (args, placed [])
unfolding args_at
args_read law [] [] h w = refl
args_read law [] (a ∷ args) h w = absurd (false≢true h)
args_read law (kind ∷ kinds) [] h w = absurd (false≢true h)
args_read law (kind ∷ kinds) (a ∷ args) h w =
    ap (λ (r : Read Arg ScriptKind). r >>= with_others kinds) (arg_read law kind a (map arg_token args) (and_parts _ _ h).0 (and_parts _ _ w).0)
    ∙ ap (λ (r : Read (List Arg) ScriptKind). r >>= behind a) (args_read law kinds args (and_parts _ _ h).1 (and_parts _ _ w).1)

-- a call

-- the call of these arguments, with which the line ends
abbrev called : Lexemes → CallTag → List Arg × Lexemes → Result Statement (TokenFault ScriptKind)
called line tag args = end_at (WrongArgs Extra) (UnknownWord Broken) args.1 >>= λ end. at_token line (fitting tag args.0)

abbrev with_args : Lexemes → CallTag × Lexemes → Result Statement (TokenFault ScriptKind)
with_args line tag = args_at (shape_of tag.0) tag.1 >>= called line tag.0

abbrev fitted : Lexemes → CallTag → List Arg → Bool → Result Statement (TokenFault ScriptKind)
fitted line tag args t = at_token line (cond t (Ok (Call tag args)) (Err TooBig))

call_read : Texts → (line : Lexemes) (tag : CallTag) (args : List Arg) → encodes tag args ≡ true → list_all is_writable_arg args ≡ true
    → call line (placed (Word (call_word tag) ∷ map arg_token args)) ≡ Ok (Call tag args)
unfolding call
call_read law line tag args h w =
    ap (λ (r : Read CallTag ScriptKind). r >>= with_args line) (tag_read tag (map arg_token args))
    ∙ ap (λ (r : Read (List Arg) ScriptKind). r >>= called line tag)
    (args_read law (shape_of tag) args (and_parts _ _ h).0 w)
    ∙ ap (fitted line tag args) h

-- a target, and a word of one of its channels

abbrev with_place : ℕ → ℕ → ℕ × Lexemes → Read (ℕ × words.Word) ScriptKind
with_place target channel place = Ok ((target, record { channel = channel; at = place.0 }), place.1)

abbrev with_channel : ℕ → ℕ × Lexemes → Read (ℕ × words.Word) ScriptKind
with_channel target channel = place_at channel.1 >>= with_place target channel.0

abbrev with_target : ℕ × Lexemes → Read (ℕ × words.Word) ScriptKind
with_target target = short_at target.1 >>= with_channel target.0

-- what a statement names can be written: neither number is past 32 bits, and the place is one of a channel
pub record IsNamed (target : ℕ) (word : words.Word) : Type 0 where
  pub short_target : nat_le target most_32 ≡ true
  pub short_channel : nat_le word.channel most_32 ≡ true
  pub place : nat_le word.at 64 ≡ true

word_read : Texts → (target : ℕ) (word : words.Word) (rest : List Lexeme) → IsNamed target word
    → target_word_at (placed (word_tokens target word.channel word.at rest)) ≡ Ok ((target, word), placed rest)
unfolding target_word_at
word_read law target word rest n =
    ap (λ (r : Read ℕ ScriptKind). r >>= with_target) (short_read law target (number_token word.channel ∷ Word (place_word word.at) ∷ rest) n.short_target)
    ∙ ap (λ (r : Read ℕ ScriptKind). r >>= with_channel target) (short_read law word.channel (Word (place_word word.at) ∷ rest) n.short_channel)
    ∙ ap (λ (r : Read ℕ ScriptKind). r >>= with_place target word.channel) (place_read law word.at rest n.place)

-- stores, exchanges, loads and waits

abbrev stored : ℕ → words.Word → ℕ × Lexemes → Result Statement (TokenFault ScriptKind)
stored target word value = end_at (WrongArgs Extra) (UnknownWord Broken) value.1 >>= λ end. Ok (Store target word value.0)

abbrev then_stored : (ℕ × words.Word) × Lexemes → Result Statement (TokenFault ScriptKind)
then_stored word = value_at word.1 >>= stored word.0.0 word.0.1

store_read : Texts → (target : ℕ) (word : words.Word) (value : ℕ) → IsNamed target word → is_word64 value ≡ true
    → store (placed (word_tokens target word.channel word.at (number_token value ∷ []))) ≡ Ok (Store target word value)
unfolding store
store_read law target word value n h =
    ap (λ (r : Read (ℕ × words.Word) ScriptKind). r >>= then_stored) (word_read law target word (number_token value ∷ []) n)
    ∙ ap (λ (r : Read ℕ ScriptKind). r >>= stored target word) (number_read law BadNumber (WrongArgs Missing) value [] h)

abbrev exchanged : ℕ → words.Word → ℕ → ℕ × Lexemes → Result Statement (TokenFault ScriptKind)
exchanged target word old new = end_at (WrongArgs Extra) (UnknownWord Broken) new.1 >>= λ end. Ok (Exchange target word old new.0)

abbrev with_old : ℕ → words.Word → ℕ × Lexemes → Result Statement (TokenFault ScriptKind)
with_old target word old = value_at old.1 >>= exchanged target word old.0

abbrev then_exchanged : (ℕ × words.Word) × Lexemes → Result Statement (TokenFault ScriptKind)
then_exchanged word = value_at word.1 >>= with_old word.0.0 word.0.1

exchange_read : Texts → (target : ℕ) (word : words.Word) (old new : ℕ) → IsNamed target word → is_word64 old ≡ true → is_word64 new ≡ true
    → exchange (placed (word_tokens target word.channel word.at (number_token old ∷ number_token new ∷ []))) ≡ Ok (Exchange target word old new)
unfolding exchange
exchange_read law target word old new n h k =
    ap (λ (r : Read (ℕ × words.Word) ScriptKind). r >>= then_exchanged) (word_read law target word (number_token old ∷ number_token new ∷ []) n)
    ∙ ap (λ (r : Read ℕ ScriptKind). r >>= with_old target word) (number_read law BadNumber (WrongArgs Missing) old (number_token new ∷ []) h)
    ∙ ap (λ (r : Read ℕ ScriptKind). r >>= exchanged target word old) (number_read law BadNumber (WrongArgs Missing) new [] k)

abbrev loaded : (ℕ × words.Word) × Lexemes → Result Statement (TokenFault ScriptKind)
loaded word = end_at (WrongArgs Extra) (UnknownWord Broken) word.1 >>= λ end. Ok (Load word.0.0 word.0.1)

load_read : Texts → (target : ℕ) (word : words.Word) → IsNamed target word → load (placed (word_tokens target word.channel word.at [])) ≡ Ok (Load target word)
unfolding load
load_read law target word n = ap (λ (r : Read (ℕ × words.Word) ScriptKind). r >>= loaded) (word_read law target word [] n)

abbrev waited : Lexemes → ℕ → words.Word → ℕ → ℕ × Lexemes → Result Statement (TokenFault ScriptKind)
waited due target word value loads =
    end_at (WrongArgs Extra) (UnknownWord Broken) loads.1 >>= λ end. at_token due (within 1 1000000 loads.0) >>= λ most. Ok (Wait target word value most)

abbrev with_value : ℕ → words.Word → ℕ × Lexemes → Result Statement (TokenFault ScriptKind)
with_value target word value = value_at value.1 >>= waited value.1 target word value.0

abbrev then_waited : (ℕ × words.Word) × Lexemes → Result Statement (TokenFault ScriptKind)
then_waited word = value_at word.1 >>= with_value word.0.0 word.0.1

abbrev waited_within : Lexemes → ℕ → words.Word → ℕ → ℕ → Bool → Result Statement (TokenFault ScriptKind)
waited_within due target word value most t = at_token due (cond t (Ok most) (Err (OutOfRange 1 1000000))) >>= λ most. Ok (Wait target word value most)

pub patience_number : (n : ℕ) → is_patience n ≡ true → is_word64 n ≡ true
patience_number n h = grind (arith, nat_tests)

wait_read : Texts → (target : ℕ) (word : words.Word) (value most : ℕ) → IsNamed target word → is_word64 value ≡ true → is_patience most ≡ true
    → wait (placed (word_tokens target word.channel word.at (number_token value ∷ number_token most ∷ []))) ≡ Ok (Wait target word value most)
unfolding wait
wait_read law target word value most n h k =
    ap (λ (r : Read (ℕ × words.Word) ScriptKind). r >>= then_waited) (word_read law target word (number_token value ∷ number_token most ∷ []) n)
    ∙ ap (λ (r : Read ℕ ScriptKind). r >>= with_value target word) (number_read law BadNumber (WrongArgs Missing) value (number_token most ∷ []) h)
    ∙ ap (λ (r : Read ℕ ScriptKind). r >>= waited (placed (number_token most ∷ [])) target word value) (number_read law BadNumber (WrongArgs Missing) most [] (patience_number most k))
    ∙ ap (waited_within (placed (number_token most ∷ [])) target word value most) k

-- the reader of the lines of such statements
abbrev pub statement_reader : Statement → Lexemes → Lexemes → Result Statement (TokenFault ScriptKind)
statement_reader (Call tag args) line tokens = call line tokens
statement_reader (Store target word value) line tokens = store tokens
statement_reader (Exchange target word old new) line tokens = exchange tokens
statement_reader (Load target word) line tokens = load tokens
statement_reader (Wait target word value most) line tokens = wait tokens

-- what a sound statement names is there

none_below : (channel : ℕ) → nat_lt channel 0 ≡ true → false ≡ true
none_below channel h = grind (arith, nat_tests)

target_there : (targets : List TargetScript) (target channel : ℕ) → nat_lt channel (channels_of (slice_get targets target)) ≡ true
    → nat_lt target (length targets) ≡ true
target_there [] target channel h = absurd (false≢true (none_below channel h))
target_there (x ∷ targets) zero channel h = next_above zero (length targets) (omega arith)
  where
    next_above : (n m : ℕ) → n < suc m → nat_lt n (suc m) ≡ true
    next_above n m l = grind (arith, nat_tests)
target_there (x ∷ targets) (suc target) channel h = one_more target (length targets) (target_there targets target channel h)
  where
    one_more : (n m : ℕ) → nat_lt n m ≡ true → nat_lt (suc n) (suc m) ≡ true
    one_more n m l = grind (arith, nat_tests)

few_channels : (all targets : List TargetScript) (target : ℕ) → list_all (is_target all) targets ≡ true
    → nat_le (channels_of (slice_get targets target)) 8 ≡ true
few_channels all [] target h = refl
few_channels all (x ∷ targets) zero h =
    let sound = (and_parts (is_target all x) (list_all (is_target all) targets) h).0 in
    (and_parts (nat_le 1 x.channels) (nat_le x.channels 8) (and_parts _ _ (and_parts _ _ sound).0).0).1
few_channels all (x ∷ targets) (suc target) h = few_channels all targets target (and_parts (is_target all x) (list_all (is_target all) targets) h).1

-- targets at most 8, each of them sound
pub record AreSound (targets : List TargetScript) : Type 0 where
  pub few : nat_le (length targets) 8 ≡ true
  pub sound : list_all (is_target targets) targets ≡ true

-- a number below such a one is short
short_below : (n m : ℕ) → nat_lt n m ≡ true → nat_le m 8 ≡ true → nat_le n most_32 ≡ true
short_below n m h k = grind (arith, nat_tests)

pub named_there : (targets : List TargetScript) (target : ℕ) (word : words.Word) → AreSound targets → has_word targets target word ≡ true → IsNamed target word
named_there targets target word s h =
    let parts = and_parts (nat_lt word.channel (channels_of (slice_get targets target))) (nat_le word.at 64) h in
    record {
      short_target = short_below target (length targets) (target_there targets target word.channel parts.0) s.few;
      short_channel = short_below word.channel (channels_of (slice_get targets target)) parts.0 (few_channels targets targets target s.sound);
      place = parts.1;
    }

-- neither the target nor its channel is absent
word_there : (targets : List TargetScript) (at : StatementAt) (target : ℕ) (word : words.Word) → has_word targets target word ≡ true
    → first_absence targets (record { at = at; target = target; channel = word.channel } ∷ []) ≡ None
word_there targets at target word h =
    let channel = (and_parts (nat_lt word.channel (channels_of (slice_get targets target))) (nat_le word.at 64) h).0 in
    none_absent (no_channel named (channels_of (slice_get targets target))) (no_target named (length targets))
    (nat_lt target (length targets)) (nat_lt word.channel (channels_of (slice_get targets target))) (target_there targets target word.channel channel) channel
  where
    named : Named
    named = record { at = at; target = target; channel = word.channel }

    none_absent : (c t : TokenFault ScriptKind) (a b : Bool) → a ≡ true → b ≡ true
        → ◌≡◌ {A = Option Absence} (elim (cond a (cond b None (Some c)) (Some t)) [ None ↦ None | Some fault ↦ Some (at.line, fault) ]) None
    none_absent c t true true h k = refl
    none_absent c t true false h k = absurd (false≢true k)
    none_absent c t false b h k = absurd (false≢true h)

-- nothing that a sound statement names is absent
pub statement_there : (targets : List TargetScript) (at : StatementAt) (statement : Statement) → is_statement targets statement ≡ true
    → first_absence targets (named_by at statement) ≡ None
statement_there targets at (Call tag args) h = refl
statement_there targets at (Store target word value) h = word_there targets at target word h
statement_there targets at (Exchange target word old new) h = word_there targets at target word h
statement_there targets at (Load target word) h = word_there targets at target word h
statement_there targets at (Wait target word value most) h = word_there targets at target word (and_parts (has_word targets target word) (is_patience most) h).0

-- a sound statement that can be written is read from its line
pub statement_read : Texts → (targets : List TargetScript) (line : Lexemes) (statement : Statement) → AreSound targets → is_statement targets statement ≡ true
    → is_writable_statement statement ≡ true → statement_reader statement line (later (placed (statement_tokens statement))) ≡ Ok statement
statement_read law targets line (Call tag args) s h w = call_read law line tag args h w
statement_read law targets line (Store target word value) s h w = store_read law target word value (named_there targets target word s h) w
statement_read law targets line (Exchange target word old new) s h w =
    exchange_read law target word old new (named_there targets target word s h) (and_parts _ _ w).0 (and_parts _ _ w).1
statement_read law targets line (Load target word) s h w = load_read law target word (named_there targets target word s h)
statement_read law targets line (Wait target word value most) s h w =
    let parts = and_parts (has_word targets target word) (is_patience most) h in
    wait_read law target word value most (named_there targets target word s parts.0) w parts.1
