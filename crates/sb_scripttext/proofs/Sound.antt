-- What the readers of a line give is sound.
use Rattle.std.proofs.Common.{◌≡◌, refl, ap, ◌∙◌, subst, arith, ℕ, ◌+◌, ◌^◌, List, [], ◌∷◌, Bool, true, false, ◌&&◌, nat_le, nat_lt, cond, length, Option, None, Some, Result, Ok, Err, codes}
use Rattle.std.proofs.lemmas.Bool.{and_parts, and_from}
use Rattle.std.proofs.lemmas.Bool.Decides.{nat_tests}
use Rattle.std.specs.Prelude.{slice_get}
use Rattle.sb_block.specs.Blocks.{encodes}
use Rattle.sb_statements.specs.Soundness.{channels_of, is_patience, is_start, is_statement}
use Rattle.sb_call.specs.CallWords.{is_word}
use Rattle.sb_kernel.specs.Openings.{is_named}
use Rattle.sb_call.specs.Tags.{shape_of}
use Rattle.sb_statements.specs.declared.scripts.StartLine.{StartLine}
use Rattle.sb_statements.specs.declared.scripts.StartLine.TheVariants.{Dir, File, Key, Event}
use Rattle.sb_statements.specs.declared.scripts.TargetScript.{TargetScript}
use Rattle.sb_statements.specs.declared.statements.Statement.{Statement}
use Rattle.sb_statements.specs.declared.statements.Statement.TheVariants.{Call, Store, Exchange, Load, Wait}
use Rattle.sb_statements.specs.declared.statements.Word as words
use Rattle.sb_scripttext.specs.Arguments.{most_32, tag_at, args_at, fitting, call}
use Rattle.sb_scripttext.specs.Drafts.{named_by}
use Rattle.sb_scripttext.specs.Lines.{patience, start_line, statement_line}
use Rattle.sb_scripttext.specs.Openings.{dir, file, key, event}
use Rattle.sb_scripttext.specs.ScriptTexts.{Absence, absence, first_absence, no_channel, no_target}
use Rattle.sb_scripttext.specs.Statements.{value_at, short_at, block_place, place_of, place_at, target_word_at, store, exchange, load, wait}
use Rattle.sb_scripttext.specs.Steps.{number_at, within, number_within, string_at, name, name_at}
use Rattle.sb_text.specs.Steps.{◌>>=◌, at_token, or_fault, end_at}
use Rattle.sb_scripttext.specs.declared.faults.ScriptKind.{ScriptKind}
use Rattle.sb_scripttext.specs.declared.faults.ScriptKind.TheVariants.{UnknownWord, WrongArgs, BadNumber, OutOfRange, BadName, NoSuchWord, TooBig}
use Rattle.sb_text.specs.Numbers.{number_of}
use Rattle.sb_text.specs.Tokens.{Lexemes, Next, End, Word, Quoted, Bad}
use Rattle.sb_base.specs.Names.{is_name_of}
use Rattle.sb_scripttext.specs.declared.drafts.Named.{Named}
use Rattle.sb_scripttext.specs.declared.drafts.StatementAt.{StatementAt}
use Rattle.sb_text.specs.declared.refusals.TokenFault.{TokenFault}
use Rattle.sb_text.specs.declared.refusals.WordFault.TheVariants.{Broken, Extra, Missing, Quoted, Unquoted}

-- a step that was made, and what followed it
pub made : {A B E : Type 0} (first : Result A E) (next : A → Result B E) (y : B) → (first >>= next) ≡ Ok y → (x : A) × (first ≡ Ok x) × (next x ≡ Ok y)
made (Ok x) next y h = (x, refl, h)
made (Err e) next y h = absurd cc

pub ok_same : {A E : Type 0} (x y : A) → ◌≡◌ {A = Result A E} (Ok x) (Ok y) → x ≡ y
ok_same x y h = cc

-- a test that was passed
pub passed : {A E : Type 0} (b : Bool) (x y : A) (e : E) → cond b (Ok x) (Err e) ≡ Ok y → (b ≡ true) × (x ≡ y)
passed true x y e h = (refl, ok_same x y h)
passed false x y e h = absurd cc

-- what holds of both branches
pub branches : {X : Type 0} (P : X → Type 0) (b : Bool) (x y : X) → P x → P y → P (cond b x y)
branches P true x y h k = h
branches P false x y h k = k

-- a value that was placed
pub at_made : {A K : Type 0} (tokens : Lexemes) (read : Result A K) (x : A) → at_token tokens read ≡ Ok x → read ≡ Ok x
at_made tokens (Ok y) x h = ap Ok (ok_same y x h)
at_made tokens (Err kind) x h = absurd cc

pub in_range : (lo hi : ℕ) (quoted missing : ScriptKind) (tokens : Lexemes) (x : ℕ × Lexemes) → number_within lo hi quoted missing tokens ≡ Ok x
    → (nat_le lo x.0 && nat_le x.0 hi) ≡ true
unfolding number_within
in_range lo hi quoted missing tokens x h =
    let n = made (number_at quoted missing tokens) (λ n. at_token tokens (within lo hi n.0) >>= λ number. Ok (number, n.1)) x h in
    let m = made (at_token tokens (within lo hi n.0.0)) (λ number. Ok (number, n.0.1)) x n.2 in
    let t = passed (nat_le lo n.0.0 && nat_le n.0.0 hi) n.0.0 m.0 (OutOfRange lo hi) (at_made tokens (within lo hi n.0.0) m.0 m.1) in
    let same : m.0 ≡ x.0 = ap (λ (y : ℕ × Lexemes). y.0) (ok_same (m.0, n.0.1) x m.2) in
    subst (λ k. (nat_le lo k && nat_le k hi) ≡ true) (t.1 ∙ same) t.0

pub named_well : (unquoted missing : ScriptKind) (tokens : Lexemes) (x : List ℕ × Lexemes) → name_at unquoted missing tokens ≡ Ok x → is_name_of x.0 ≡ true
unfolding name_at
named_well unquoted missing tokens x h =
    let u = made (string_at unquoted missing tokens) (λ units. at_token tokens (name units.0) >>= λ named. Ok (named, units.1)) x h in
    let m = made (at_token tokens (name u.0.0)) (λ named. Ok (named, u.0.1)) x u.2 in
    let t = passed (is_name_of u.0.0) u.0.0 m.0 BadName (at_made tokens (name u.0.0) m.0 m.1) in
    let same : m.0 ≡ x.0 = ap (λ (y : List ℕ × Lexemes). y.0) (ok_same (m.0, u.0.1) x m.2) in
    subst (λ k. is_name_of k ≡ true) (t.1 ∙ same) t.0

-- a patience that was read
pub patience_sound : (tokens : Lexemes) (n : ℕ) → patience tokens ≡ Ok n → is_patience n ≡ true
unfolding patience
patience_sound tokens n h =
    let x = made (number_within 1 1000000 BadNumber (UnknownWord Missing) tokens) (λ number. end_at (UnknownWord Extra) (UnknownWord Broken) number.1 >>= λ end. Ok number.0) n h in
    let e = made (end_at (UnknownWord Extra) (UnknownWord Broken) x.0.1) (λ end. Ok x.0.0) n x.2 in
    subst (λ n. is_patience n ≡ true) (ok_same x.0.0 n e.2) (in_range 1 1000000 BadNumber (UnknownWord Missing) tokens x.0 x.1)

-- an opening line that was read is sound
abbrev pub Starts : Result StartLine (TokenFault ScriptKind) → Type 0
Starts read = (line : StartLine) → read ≡ Ok line → is_start line ≡ true

pub below_32 : (n : ℕ) → (nat_le 0 n && nat_le n most_32) ≡ true → nat_lt n (2 ^ 32) ≡ true
below_32 n h = let t = (and_parts (nat_le 0 n) (nat_le n most_32) h).1 in grind (arith, nat_tests, t)

dir_sound : (tokens : Lexemes) → Starts (dir tokens)
unfolding dir
dir_sound tokens line h =
    let x = made (name_at (UnknownWord Unquoted) (UnknownWord Missing) tokens) (λ name. end_at (UnknownWord Extra) (UnknownWord Broken) name.1 >>= λ end. Ok (Dir name.0)) line h in
    let e = made (end_at (UnknownWord Extra) (UnknownWord Broken) x.0.1) (λ end. Ok (Dir x.0.0)) line x.2 in
    subst (λ line. is_start line ≡ true) {x = Dir x.0.0} (ok_same (Dir x.0.0) line e.2) (named_well (UnknownWord Unquoted) (UnknownWord Missing) tokens x.0 x.1)

key_sound : (tokens : Lexemes) → Starts (key tokens)
unfolding key
key_sound tokens line h =
    let x = made (name_at (UnknownWord Unquoted) (UnknownWord Missing) tokens) (λ name. end_at (UnknownWord Extra) (UnknownWord Broken) name.1 >>= λ end. Ok (Key name.0)) line h in
    let e = made (end_at (UnknownWord Extra) (UnknownWord Broken) x.0.1) (λ end. Ok (Key x.0.0)) line x.2 in
    subst (λ line. is_start line ≡ true) {x = Key x.0.0} (ok_same (Key x.0.0) line e.2) (named_well (UnknownWord Unquoted) (UnknownWord Missing) tokens x.0 x.1)

file_sound : (tokens : Lexemes) → Starts (file tokens)
unfolding file
file_sound tokens line h =
    let x = made (name_at (UnknownWord Unquoted) (UnknownWord Missing) tokens)
    (λ name. number_within 0 most_32 BadNumber (UnknownWord Missing) name.1 >>= λ attributes. end_at (UnknownWord Extra) (UnknownWord Broken) attributes.1 >>= λ end. Ok (File name.0 attributes.0)) line h in
    let a = made (number_within 0 most_32 BadNumber (UnknownWord Missing) x.0.1) (λ attributes. end_at (UnknownWord Extra) (UnknownWord Broken) attributes.1 >>= λ end. Ok (File x.0.0 attributes.0)) line x.2 in
    let e = made (end_at (UnknownWord Extra) (UnknownWord Broken) a.0.1) (λ end. Ok (File x.0.0 a.0.0)) line a.2 in
    subst (λ line. is_start line ≡ true) {x = File x.0.0 a.0.0} (ok_same (File x.0.0 a.0.0) line e.2)
    (and_from (is_name_of x.0.0) (nat_lt a.0.0 (2 ^ 32)) (named_well (UnknownWord Unquoted) (UnknownWord Missing) tokens x.0 x.1) (below_32 a.0.0 (in_range 0 most_32 BadNumber (UnknownWord Missing) x.0.1 a.0 a.1)))

event_sound : (tokens : Lexemes) → Starts (event tokens)
unfolding event
event_sound tokens line h =
    let x = made (name_at (UnknownWord Unquoted) (UnknownWord Missing) tokens)
    (λ name. number_within 0 1 BadNumber (UnknownWord Missing) name.1 >>= λ kind. number_within 0 1 BadNumber (UnknownWord Missing) kind.1 >>= λ initial. end_at (UnknownWord Extra) (UnknownWord Broken) initial.1 >>= λ end. Ok (Event name.0 kind.0 initial.0)) line h in
    let k = made (number_within 0 1 BadNumber (UnknownWord Missing) x.0.1)
    (λ kind. number_within 0 1 BadNumber (UnknownWord Missing) kind.1 >>= λ initial. end_at (UnknownWord Extra) (UnknownWord Broken) initial.1 >>= λ end. Ok (Event x.0.0 kind.0 initial.0)) line x.2 in
    let i = made (number_within 0 1 BadNumber (UnknownWord Missing) k.0.1) (λ initial. end_at (UnknownWord Extra) (UnknownWord Broken) initial.1 >>= λ end. Ok (Event x.0.0 k.0.0 initial.0)) line k.2 in
    let e = made (end_at (UnknownWord Extra) (UnknownWord Broken) i.0.1) (λ end. Ok (Event x.0.0 k.0.0 i.0.0)) line i.2 in
    let kind = (and_parts (nat_le 0 k.0.0) (nat_le k.0.0 1) (in_range 0 1 BadNumber (UnknownWord Missing) x.0.1 k.0 k.1)).1 in
    let initial = (and_parts (nat_le 0 i.0.0) (nat_le i.0.0 1) (in_range 0 1 BadNumber (UnknownWord Missing) k.0.1 i.0 i.1)).1 in
    subst (λ line. is_start line ≡ true) {x = Event x.0.0 k.0.0 i.0.0} (ok_same (Event x.0.0 k.0.0 i.0.0) line e.2)
    (and_from (is_name_of x.0.0 && nat_le k.0.0 1) (nat_le i.0.0 1) (and_from (is_name_of x.0.0) (nat_le k.0.0 1) (named_well (UnknownWord Unquoted) (UnknownWord Missing) tokens x.0 x.1) kind) initial)

pub start_sound : (w : List ℕ) (line tokens : Lexemes) → Starts (start_line w line tokens)
unfolding start_line
start_sound w line tokens =
    branches Starts (is_word (codes "dir") w) (dir tokens) _ (dir_sound tokens)
    (branches Starts (is_word (codes "file") w) (file tokens) _ (file_sound tokens)
    (branches Starts (is_word (codes "key") w) (key tokens) _ (key_sound tokens)
    (branches Starts (is_word (codes "event") w) (event tokens) _ (event_sound tokens) (λ start h. absurd cc))))

named_start : (line : StartLine) → is_start line ≡ true → is_named line ≡ true
named_start (Dir name) h = h
named_start (File name attributes) h = (and_parts (is_name_of name) (nat_lt attributes (2 ^ 32)) h).0
named_start (Key name) h = h
named_start (Event name kind initial) h = (and_parts (is_name_of name) (nat_le kind 1) (and_parts (is_name_of name && nat_le kind 1) (nat_le initial 1) h).0).0

-- and its name is a name
pub start_named : (w : List ℕ) (line tokens : Lexemes) (start : StartLine) → start_line w line tokens ≡ Ok start → is_named start ≡ true
start_named w line tokens start h = named_start start (start_sound w line tokens start h)

-- a statement is sound if what it names is there
abbrev pub IsSoundOnce : Statement → Type 0
IsSoundOnce statement = (targets : List TargetScript) (at : StatementAt) → first_absence targets (named_by at statement) ≡ None → is_statement targets statement ≡ true

-- so is a statement that was read
abbrev pub States : Result Statement (TokenFault ScriptKind) → Type 0
States read = (statement : Statement) → read ≡ Ok statement → IsSoundOnce statement

call_sound : (line tokens : Lexemes) → States (call line tokens)
unfolding call
call_sound line tokens statement h targets at absent =
    let t = made (tag_at tokens) (λ tag. args_at (shape_of tag.0) tag.1 >>= λ args. end_at (WrongArgs Extra) (UnknownWord Broken) args.1 >>= λ end. at_token line (fitting tag.0 args.0)) statement h in
    let a = made (args_at (shape_of t.0.0) t.0.1) (λ args. end_at (WrongArgs Extra) (UnknownWord Broken) args.1 >>= λ end. at_token line (fitting t.0.0 args.0)) statement t.2 in
    let e = made (end_at (WrongArgs Extra) (UnknownWord Broken) a.0.1) (λ end. at_token line (fitting t.0.0 a.0.0)) statement a.2 in
    let f = passed (encodes t.0.0 a.0.0) (Call t.0.0 a.0.0) statement TooBig (at_made line (fitting t.0.0 a.0.0) statement e.2) in
    subst (λ statement. is_statement targets statement ≡ true) f.1 f.0

place_sound : (tokens : Lexemes) (x : ℕ × Lexemes) → place_at tokens ≡ Ok x → nat_le x.0 64 ≡ true
unfolding place_at
place_sound (Next place (Word w) tokens) x h =
    let p = made (at_token (Next place (Word w) tokens) (place_of w)) (λ place. Ok (place, tokens)) x h in
    subst (λ (y : ℕ × Lexemes). nat_le y.0 64 ≡ true) {x = (p.0, tokens)} (ok_same (p.0, tokens) x p.2) (by_word (is_word (codes "state") w) (number_of w) p.0 (at_made (Next place (Word w) tokens) (place_of w) p.0 p.1))
  where
    block : (i place : ℕ) → block_place i ≡ Ok place → nat_le place 64 ≡ true
    block i place h =
        let t = passed (nat_le i 63) (1 + i) place NoSuchWord h in
        let few = t.0 in
        subst (λ n. nat_le n 64 ≡ true) t.1 (grind (arith, nat_tests, few))

    by_number : (n : Option ℕ) (place : ℕ) → (or_fault BadNumber n >>= λ i. block_place i) ≡ Ok place → nat_le place 64 ≡ true
    by_number (Some i) place h = block i place h
    by_number None place h = absurd cc

    by_word : (b : Bool) (n : Option ℕ) (place : ℕ) → cond b (Ok 0) (or_fault BadNumber n >>= λ i. block_place i) ≡ Ok place → nat_le place 64 ≡ true
    by_word true n place h = subst (λ n. nat_le n 64 ≡ true) (ok_same 0 place h) refl
    by_word false n place h = by_number n place h
place_sound (Next place (Quoted q) tokens) x h = absurd cc
place_sound (Next place Bad tokens) x h = absurd cc
place_sound (End place) x h = absurd cc

word_sound : (tokens : Lexemes) (x : (ℕ × words.Word) × Lexemes) → target_word_at tokens ≡ Ok x → nat_le x.0.1.at 64 ≡ true
unfolding target_word_at
word_sound tokens x h =
    let t = made (short_at tokens)
    (λ target. short_at target.1 >>= λ channel. place_at channel.1 >>= λ place. Ok ((target.0, record { channel = channel.0; at = place.0 }), place.1)) x h in
    let c = made (short_at t.0.1) (λ channel. place_at channel.1 >>= λ place. Ok ((t.0.0, record { channel = channel.0; at = place.0 }), place.1)) x t.2 in
    let p = made (place_at c.0.1) (λ place. Ok ((t.0.0, record { channel = c.0.0; at = place.0 }), place.1)) x c.2 in
    subst (λ (y : (ℕ × words.Word) × Lexemes). nat_le y.0.1.at 64 ≡ true) {x = ((t.0.0, record { channel = c.0.0; at = p.0.0 }), p.0.1)}
    (ok_same ((t.0.0, record { channel = c.0.0; at = p.0.0 }), p.0.1) x p.2) (place_sound c.0.1 p.0 p.1)

-- nothing of all these is absent: neither the first, nor one of the others
pub none_absent : (first : Option (TokenFault ScriptKind)) (line : ℕ) (others : Option Absence)
    → ◌≡◌ {A = Option Absence} (elim first [ None ↦ others | Some fault ↦ Some (line, fault) ]) None → (first ≡ None) × (others ≡ None)
none_absent None line others h = (refl, h)
none_absent (Some fault) line others h = absurd cc

there : (targets : List TargetScript) (at : StatementAt) (target channel : ℕ) → first_absence targets (record { at = at; target = target; channel = channel } ∷ []) ≡ None
    → nat_lt channel (channels_of (slice_get targets target)) ≡ true
there targets at target channel h =
    both_there (no_channel named (channels_of (slice_get targets target))) (no_target named (length targets)) (nat_lt target (length targets)) (nat_lt channel (channels_of (slice_get targets target)))
    (none_absent (absence targets named) at.line None h).0
  where
    named : Named
    named = record { at = at; target = target; channel = channel }

    both_there : (c t : TokenFault ScriptKind) (a b : Bool) → cond a (cond b None (Some c)) (Some t) ≡ None → b ≡ true
    both_there c t true true h = refl
    both_there c t true false h = absurd cc
    both_there c t false b h = absurd cc

store_sound : (tokens : Lexemes) → States (store tokens)
unfolding store
store_sound tokens statement h =
    let w = made (target_word_at tokens) (λ word. value_at word.1 >>= λ value. end_at (WrongArgs Extra) (UnknownWord Broken) value.1 >>= λ end. Ok (Store word.0.0 word.0.1 value.0)) statement h in
    let v = made (value_at w.0.1) (λ value. end_at (WrongArgs Extra) (UnknownWord Broken) value.1 >>= λ end. Ok (Store w.0.0.0 w.0.0.1 value.0)) statement w.2 in
    let e = made (end_at (WrongArgs Extra) (UnknownWord Broken) v.0.1) (λ end. Ok (Store w.0.0.0 w.0.0.1 v.0.0)) statement v.2 in
    subst IsSoundOnce {x = Store w.0.0.0 w.0.0.1 v.0.0}
    (ok_same (Store w.0.0.0 w.0.0.1 v.0.0) statement e.2)
    (λ targets at absent. and_from _ _ (there targets at w.0.0.0 w.0.0.1.channel absent) (word_sound tokens w.0 w.1))

exchange_sound : (tokens : Lexemes) → States (exchange tokens)
unfolding exchange
exchange_sound tokens statement h =
    let w = made (target_word_at tokens) (λ word. value_at word.1 >>= λ from. value_at from.1 >>= λ to. end_at (WrongArgs Extra) (UnknownWord Broken) to.1 >>= λ end. Ok (Exchange word.0.0 word.0.1 from.0 to.0)) statement h in
    let f = made (value_at w.0.1) (λ from. value_at from.1 >>= λ to. end_at (WrongArgs Extra) (UnknownWord Broken) to.1 >>= λ end. Ok (Exchange w.0.0.0 w.0.0.1 from.0 to.0)) statement w.2 in
    let t = made (value_at f.0.1) (λ to. end_at (WrongArgs Extra) (UnknownWord Broken) to.1 >>= λ end. Ok (Exchange w.0.0.0 w.0.0.1 f.0.0 to.0)) statement f.2 in
    let e = made (end_at (WrongArgs Extra) (UnknownWord Broken) t.0.1) (λ end. Ok (Exchange w.0.0.0 w.0.0.1 f.0.0 t.0.0)) statement t.2 in
    subst IsSoundOnce {x = Exchange w.0.0.0 w.0.0.1 f.0.0 t.0.0}
    (ok_same (Exchange w.0.0.0 w.0.0.1 f.0.0 t.0.0) statement e.2)
    (λ targets at absent. and_from _ _ (there targets at w.0.0.0 w.0.0.1.channel absent) (word_sound tokens w.0 w.1))

load_sound : (tokens : Lexemes) → States (load tokens)
unfolding load
load_sound tokens statement h =
    let w = made (target_word_at tokens) (λ word. end_at (WrongArgs Extra) (UnknownWord Broken) word.1 >>= λ end. Ok (Load word.0.0 word.0.1)) statement h in
    let e = made (end_at (WrongArgs Extra) (UnknownWord Broken) w.0.1) (λ end. Ok (Load w.0.0.0 w.0.0.1)) statement w.2 in
    subst IsSoundOnce {x = Load w.0.0.0 w.0.0.1}
    (ok_same (Load w.0.0.0 w.0.0.1) statement e.2)
    (λ targets at absent. and_from _ _ (there targets at w.0.0.0 w.0.0.1.channel absent) (word_sound tokens w.0 w.1))

wait_sound : (tokens : Lexemes) → States (wait tokens)
unfolding wait
wait_sound tokens statement h =
    let w = made (target_word_at tokens)
    (λ word. value_at word.1 >>= λ value. value_at value.1 >>= λ loads. end_at (WrongArgs Extra) (UnknownWord Broken) loads.1 >>= λ end. at_token value.1 (within 1 1000000 loads.0) >>= λ most. Ok (Wait word.0.0 word.0.1 value.0 most)) statement h in
    let v = made (value_at w.0.1)
    (λ value. value_at value.1 >>= λ loads. end_at (WrongArgs Extra) (UnknownWord Broken) loads.1 >>= λ end. at_token value.1 (within 1 1000000 loads.0) >>= λ most. Ok (Wait w.0.0.0 w.0.0.1 value.0 most)) statement w.2 in
    let l = made (value_at v.0.1) (λ loads. end_at (WrongArgs Extra) (UnknownWord Broken) loads.1 >>= λ end. at_token v.0.1 (within 1 1000000 loads.0) >>= λ most. Ok (Wait w.0.0.0 w.0.0.1 v.0.0 most)) statement v.2 in
    let e = made (end_at (WrongArgs Extra) (UnknownWord Broken) l.0.1) (λ end. at_token v.0.1 (within 1 1000000 l.0.0) >>= λ most. Ok (Wait w.0.0.0 w.0.0.1 v.0.0 most)) statement l.2 in
    let m = made (at_token v.0.1 (within 1 1000000 l.0.0)) (λ most. Ok (Wait w.0.0.0 w.0.0.1 v.0.0 most)) statement e.2 in
    let t = passed (nat_le 1 l.0.0 && nat_le l.0.0 1000000) l.0.0 m.0 (OutOfRange 1 1000000) (at_made v.0.1 (within 1 1000000 l.0.0) m.0 m.1) in
    subst IsSoundOnce {x = Wait w.0.0.0 w.0.0.1 v.0.0 m.0}
    (ok_same (Wait w.0.0.0 w.0.0.1 v.0.0 m.0) statement m.2)
    (λ targets at absent. and_from (nat_lt w.0.0.1.channel (channels_of (slice_get targets w.0.0.0)) && nat_le w.0.0.1.at 64) (is_patience m.0) (and_from _ _ (there targets at w.0.0.0 w.0.0.1.channel absent) (word_sound tokens w.0 w.1)) (subst (λ n. is_patience n ≡ true) {x = l.0.0} {y = m.0} t.1 t.0))

pub statement_sound : (w : List ℕ) (line tokens : Lexemes) → States (statement_line w line tokens)
unfolding statement_line
statement_sound w line tokens =
    branches States (is_word (codes "call") w) (call line tokens) _ (call_sound line tokens)
    (branches States (is_word (codes "store") w) (store tokens) _ (store_sound tokens)
    (branches States (is_word (codes "exchange") w) (exchange tokens) _ (exchange_sound tokens)
    (branches States (is_word (codes "load") w) (load tokens) _ (load_sound tokens)
    (branches States (is_word (codes "wait") w) (wait tokens) _ (wait_sound tokens) (λ statement h. absurd cc)))))
