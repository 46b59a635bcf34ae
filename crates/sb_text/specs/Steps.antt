-- Reading from left to right, with the first fault that is met and its place. K is the kind of fault.
use Rattle.std.specs.Prelude.{◌≡◌, ⊤, ℕ, ◌+◌, ◌-◌, ◌&&◌, nat_eq, nat_le, Bool, true, false, List, [], ◌∷◌, Option, None, Some, Result, Ok, Err, if◌then◌else◌}
use Rattle.std.specs.Cmp.Lexicographic.{pointwise}
use Rattle.sb_text.specs.Columns.{fails, fails_at}
use Rattle.sb_text.specs.Tokens.{Lexemes, Next, End, Word, Quoted, Bad, place_due}
use Rattle.sb_base.specs.declared.refusals.Refused.{Refused}
use Rattle.sb_base.specs.declared.refusals.Refused.TheVariants.{Fault, NoMemory}
use Rattle.sb_text.specs.declared.refusals.TokenFault.{TokenFault}

infixl 10 ◌>>=◌
-- one step after another: the fault of the first, or what the second makes of its value
abbrev pub ◌>>=◌ : {A B K : Type 0} → Result A K → (A → Result B K) → Result B K
(Ok x) >>= f = f x
(Err fault) >>= f = Err fault

-- what was read, and the tokens after it; or a fault and its place
abbrev pub Read : Type 0 → Type 0 → Type 0
Read A K = Result (A × Lexemes) (TokenFault K)

-- a value that is there, or this fault at the token that was due
abbrev pub or_fails : {A K : Type 0} → Lexemes → K → Option A → Result A (TokenFault K)
or_fails tokens kind (Some x) = Ok x
or_fails tokens kind None = fails tokens kind

-- a value, or its fault at the token that was due
abbrev pub at_token : {A K : Type 0} → Lexemes → Result A K → Result A (TokenFault K)
at_token tokens (Ok x) = Ok x
at_token tokens (Err kind) = fails tokens kind

-- a refusal, with its fault at the token that was due
abbrev pub refused_at : {K : Type 0} → Lexemes → Refused K → Refused (TokenFault K)
refused_at tokens (Fault kind) = Fault (record { place = place_due tokens; kind = kind })
refused_at tokens NoMemory = NoMemory

-- a value that is there, or this kind of fault, without a place
abbrev pub or_fault : {A K : Type 0} → K → Option A → Result A K
or_fault kind (Some x) = Ok x
or_fault kind None = Err kind

-- the value with a function applied, or the fault
abbrev pub on_value : {A B K : Type 0} → (A → B) → Result A K → Result B K
on_value f (Ok x) = Ok (f x)
on_value f (Err fault) = Err fault

-- the test holds, or this fault at the token that was due
abbrev pub unless_fails : {K : Type 0} → Lexemes → K → Bool → Result ⊤ (TokenFault K)
unless_fails tokens kind true = Ok tt
unless_fails tokens kind false = fails tokens kind

-- a word: its bytes. The faults of a quoted token in its place, of a broken one, and of none
abbrev pub word_at : {K : Type 0} → K → K → K → Lexemes → Read (List ℕ) K
word_at quoted bad missing (Next place (Word w) tokens) = Ok (w, tokens)
word_at quoted bad missing (Next place (Quoted q) tokens) = fails_at place quoted
word_at quoted bad missing (Next place Bad tokens) = fails_at place bad
word_at quoted bad missing (End place) = fails_at place missing

-- a quoted token: what is between its quotes. The faults of a word in its place, of a broken token, and of none
abbrev pub quoted_at : {K : Type 0} → K → K → K → Lexemes → Read (List ℕ) K
quoted_at word bad missing (Next place (Quoted q) tokens) = Ok (q, tokens)
quoted_at word bad missing (Next place (Word w) tokens) = fails_at place word
quoted_at word bad missing (Next place Bad tokens) = fails_at place bad
quoted_at word bad missing (End place) = fails_at place missing

-- the line ends here. The faults of an extra token, and of a broken one
abbrev pub end_at : {K : Type 0} → K → K → Lexemes → Result ⊤ (TokenFault K)
end_at extra bad (End place) = Ok tt
end_at extra bad (Next place (Word w) tokens) = fails_at place extra
end_at extra bad (Next place (Quoted q) tokens) = fails_at place extra
end_at extra bad (Next place Bad tokens) = fails_at place bad

-- the line goes on with this word
abbrev pub begins_with : List ℕ → Lexemes → Bool
begins_with expected (Next place (Word w) tokens) = pointwise nat_eq w expected
begins_with expected _ = false

-- the tokens after the one that is due
abbrev pub later : Lexemes → Lexemes
later (Next place token tokens) = tokens
later (End place) = End place

-- the line ends here
abbrev pub is_end : Lexemes → Bool
is_end (Next place token tokens) = false
is_end (End place) = true

-- a digit from 1 to `most`
abbrev pub version_digit : ℕ → List ℕ → Option ℕ
version_digit most (d ∷ []) = if nat_le 49 d && nat_le d (48 + most) then Some (d - 48) else None
version_digit most _ = None

-- the version that a first line names: this word, and a digit from 1 to `most`. The fault is at the first token that departs
abbrev pub version_at : {K : Type 0} → K → List ℕ → ℕ → Lexemes → Result ℕ (TokenFault K)
version_at kind name most tokens = do
  (word, rest) ← word_at kind kind kind tokens
  named ← unless_fails tokens kind (pointwise nat_eq word name)
  (digit, after) ← word_at kind kind kind rest
  version ← or_fails rest kind (version_digit most digit)
  end ← end_at kind kind after
  Ok version

-- what is at a place of a line was read, with these tokens left, or its fault was met, or there was no memory
abbrev pub Reads : {A K : Type 0} → Read A K → Result A (Refused (TokenFault K)) → Lexemes → Type 0
Reads wanted (Ok x) rest = wanted ≡ Ok (x, rest)
Reads wanted (Err (Fault fault)) rest = wanted ≡ Err fault
Reads wanted (Err NoMemory) rest = ⊤

-- the same of a value that is wanted as it is seen by this function
abbrev pub ReadsAs : {A B K : Type 0} → (B → A) → Read A K → Result B (Refused (TokenFault K)) → Lexemes → Type 0
ReadsAs seen wanted (Ok x) rest = wanted ≡ Ok (seen x, rest)
ReadsAs seen wanted (Err (Fault fault)) rest = wanted ≡ Err fault
ReadsAs seen wanted (Err NoMemory) rest = ⊤

-- a value became what is wanted, or its fault was met, or there was no memory
abbrev pub Becomes : {A D F : Type 0} → Result D F → Result A (Refused F) → D → Type 0
Becomes wanted (Ok done) new = wanted ≡ Ok new
Becomes wanted (Err (Fault fault)) new = wanted ≡ Err fault
Becomes wanted (Err NoMemory) new = ⊤
