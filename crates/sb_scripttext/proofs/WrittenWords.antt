-- The words and strings that are written are read as what they mean.
use Rattle.std.proofs.Common.{◌≡◌, ◌∙◌, ℕ, zero, suc, ◌+◌, ◌^◌, ◌<◌, ◌≤◌, nat_eq, nat_lt, nat_le, Bool, true, false, not, cond, ◌&&◌, ◌||◌, List, [], ◌∷◌, None, Some, Option, Ok, Err, Result, length, position, codes, ap, refl, sym, arith}
use Rattle.std.specs.Cmp.{nat_eq_equiv, partial_equiv_from_equiv}
use Rattle.std.specs.Cmp.Lexicographic.{pointwise, lists_per, bytes_decides}
use Rattle.std.specs.Fmt.{decimal}
use Rattle.std.specs.List.{list_all, list_any, position_or_len}
use Rattle.std.proofs.lemmas.Bool.{and_parts, false≢true, or_parts}
use Rattle.std.proofs.lemmas.Bool.Decides.{nat_tests}
use Rattle.sb_call.specs.CallWords.{is_word, call_word, tag_of_word}
use Rattle.sb_call.specs.declared.tags.CallTag.{CallTag}
use Rattle.sb_call.specs.declared.tags.CallTag.TheVariants.{Ping, FileCreate, FileOpen, FileQuery, FileRename, PipeCreate, KeyCreate, KeyOpen, EventCreate, EventOpen, HandleClose}
use Rattle.sb_rule.specs.WellMade.{is_named, are_named_apart}
use Rattle.sb_rule.specs.declared.policies.Policy.{Policy}
use Rattle.sb_text.specs.Strings.{ComesBack, StringsComeBack, is_text, string_token}
use Rattle.sb_scripttext.specs.Arguments.{most_32, tag_at}
use Rattle.sb_scripttext.specs.Lines.{policy_number, policy_at}
use Rattle.sb_scripttext.specs.Statements.{short, short_at, block_place, place_of, place_at}
use Rattle.sb_scripttext.specs.Steps.{number_at, within, number_within, string_at, name, name_at}
use Rattle.sb_base.specs.Numbers.{is_word64}
use Rattle.sb_scripttext.specs.Writing.{number_token, place_word, policy_name}
use Rattle.sb_scripttext.specs.declared.faults.ScriptKind.{ScriptKind}
use Rattle.sb_scripttext.specs.declared.faults.ScriptKind.TheVariants.{UnknownCall, WrongArgs, BadNumber, OutOfRange, BadName, NoSuchPolicy, NoSuchWord}
use Rattle.sb_text.specs.NumberLaws.{DecimalsAreRead}
use Rattle.sb_text.specs.Numbers.{is_decimal_digit, are_digits, number_of}
use Rattle.sb_text.specs.Steps.{◌>>=◌, Read, at_token, or_fails, or_fault}
use Rattle.sb_text.specs.declared.refusals.WordFault.TheVariants.{Missing}
use Rattle.sb_text.specs.TokenLaws.{placed}
use Rattle.sb_text.specs.Tokens.{Lexeme, Lexemes, Word}
use Rattle.sb_base.specs.Names.{is_name_of}

-- numbers

small : (n : ℕ) → is_word64 n ≡ true → n < 2 ^ 64
small n h = grind (arith, nat_tests)

-- the laws of lower crates that the proofs on values use
pub record Texts : Type 0 where
  pub numbers : DecimalsAreRead
  pub strings : StringsComeBack

pub not_true : (t : Bool) → not t ≡ true → t ≡ false
not_true false h = refl
not_true true h = sym h

number_back : Texts → (n : ℕ) → is_word64 n ≡ true → number_of (decimal n) ≡ Some n
number_back law n h = (law.numbers n (small n h)).1

made : (t : Bool) (x : Option ℕ) (n : ℕ) → cond t x None ≡ Some n → t ≡ true
made true x n e = refl
made false x n e = cc

-- a number is written by decimal digits
pub number_digits : Texts → (n : ℕ) → is_word64 n ≡ true → are_digits is_decimal_digit 20 (decimal n) ≡ true
number_digits law n h = made _ _ n (law.numbers n (small n h)).0

pub number_read : Texts → (quoted missing : ScriptKind) (n : ℕ) (rest : List Lexeme) → is_word64 n ≡ true
    → number_at quoted missing (placed (number_token n ∷ rest)) ≡ Ok (n, placed rest)
unfolding number_at
number_read law quoted missing n rest h = ap (λ o. or_fails (placed (number_token n ∷ rest)) BadNumber o >>= λ n. Ok (n, placed rest)) (number_back law n h)

-- what `number_within` does with a number
abbrev ranged : Lexemes → ℕ → ℕ → ℕ × Lexemes → Read ℕ ScriptKind
ranged due lo hi n = at_token due (within lo hi n.0) >>= λ number. Ok (number, n.1)

-- a number that is in its range, with the tokens after it
abbrev in_range : Lexemes → ℕ → ℕ → ℕ → Lexemes → Bool → Read ℕ ScriptKind
in_range due lo hi n rest t = at_token due (cond t (Ok n) (Err (OutOfRange lo hi))) >>= λ number. Ok (number, rest)

pub within_read : Texts → (lo hi : ℕ) (quoted missing : ScriptKind) (n : ℕ) (rest : List Lexeme) → is_word64 n ≡ true
    → (nat_le lo n && nat_le n hi) ≡ true → number_within lo hi quoted missing (placed (number_token n ∷ rest)) ≡ Ok (n, placed rest)
unfolding number_within
within_read law lo hi quoted missing n rest h k =
    ap (λ (r : Read ℕ ScriptKind). r >>= ranged (placed (number_token n ∷ rest)) lo hi) (number_read law quoted missing n rest h)
    ∙ ap (in_range (placed (number_token n ∷ rest)) lo hi n (placed rest)) k

pub short_number : (n : ℕ) → nat_le n most_32 ≡ true → is_word64 n ≡ true
short_number n h = grind (arith, nat_tests)

pub at_most : (n : ℕ) → nat_le n most_32 ≡ true → (nat_le 0 n && nat_le n most_32) ≡ true
at_most n h = grind (arith, nat_tests)

-- the number of a target or a channel

-- what `short_at` does with a number
abbrev shortened : ℕ × Lexemes → Read ℕ ScriptKind
shortened n = Ok (short n.0, n.1)

abbrev short_or : ℕ → Lexemes → Bool → Read ℕ ScriptKind
short_or n rest t = Ok (cond t n most_32, rest)

pub short_read : Texts → (n : ℕ) (rest : List Lexeme) → nat_le n most_32 ≡ true → short_at (placed (number_token n ∷ rest)) ≡ Ok (n, placed rest)
unfolding short_at
short_read law n rest h =
    ap (λ (r : Read ℕ ScriptKind). r >>= shortened) (number_read law BadNumber (WrongArgs Missing) n rest (short_number n h)) ∙ ap (short_or n (placed rest)) h

-- the place of a word

no_state_at : (b : ℕ) → is_decimal_digit b ≡ true → nat_eq b 115 ≡ false
no_state_at b h = grind (arith, nat_tests)

no_state : (w : List ℕ) → are_digits is_decimal_digit 20 w ≡ true → is_word (codes "state") w ≡ false
no_state [] h = absurd (false≢true h)
no_state (b ∷ w) h =
    let digit = (and_parts (is_decimal_digit b) (list_all is_decimal_digit w)
    (and_parts (nat_le 1 (length (b ∷ w)) && nat_le (length (b ∷ w)) 20) (list_all is_decimal_digit (b ∷ w)) h).1).0 in
    ap (λ t. t && pointwise nat_eq w (codes "tate")) (no_state_at b digit)

-- what `place_of` does with a word that is `state` or not, and is this number or none
abbrev place_by : Bool → Option ℕ → Result ℕ ScriptKind
place_by t number = cond t (Ok 0) (or_fault BadNumber number >>= λ i. block_place i)

abbrev in_block : ℕ → Bool → Result ℕ ScriptKind
in_block i t = cond t (Ok (1 + i)) (Err NoSuchWord)

place_back : Texts → (at : ℕ) → nat_le at 64 ≡ true → place_of (place_word at) ≡ Ok at
place_back law zero h = refl
place_back law (suc i) h =
    ap (λ t. place_by t (number_of (decimal i))) (no_state (decimal i) (number_digits law i (number i h)))
    ∙ ap (place_by false) (number_back law i (number i h))
    ∙ ap (in_block i) (few i h)
    ∙ ap Ok {x = 1 + i} {y = suc i} (omega arith)
  where
    number : (i : ℕ) → nat_le (suc i) 64 ≡ true → is_word64 i ≡ true
    number i h = grind (arith, nat_tests)

    few : (i : ℕ) → nat_le (suc i) 64 ≡ true → nat_le i 63 ≡ true
    few i h = grind (arith, nat_tests)

-- a place, and the tokens after it
abbrev then_place : Lexemes → ℕ → Read ℕ ScriptKind
then_place rest place = Ok (place, rest)

pub place_read : Texts → (at : ℕ) (rest : List Lexeme) → nat_le at 64 ≡ true → place_at (placed (Word (place_word at) ∷ rest)) ≡ Ok (at, placed rest)
unfolding place_at
place_read law at rest h = ap (λ (p : Result ℕ ScriptKind). at_token (placed (Word (place_word at) ∷ rest)) p >>= then_place (placed rest)) (place_back law at h)

-- strings

-- a string that can be written between quotes comes back
pub string_back : Texts → (us : List ℕ) → is_text us ≡ true → ComesBack us
string_back law us h = let parts = and_parts _ _ h in law.strings us parts.0 parts.1

pub string_read : Texts → (unquoted missing : ScriptKind) (us : List ℕ) (rest : List Lexeme) → is_text us ≡ true → string_at unquoted missing (placed (string_token us ∷ rest)) ≡ Ok (us, placed rest)
unfolding string_at
string_read law unquoted missing us rest h = ap (λ us. Ok (us, placed rest)) (string_back law us h).string

-- what `name_at` does with a string
abbrev naming : Lexemes → List ℕ × Lexemes → Read (List ℕ) ScriptKind
naming due units = at_token due (name units.0) >>= λ named. Ok (named, units.1)

abbrev named : Lexemes → List ℕ → Lexemes → Bool → Read (List ℕ) ScriptKind
named due us rest t = at_token due (cond t (Ok us) (Err BadName)) >>= λ named. Ok (named, rest)

pub name_read : Texts → (unquoted missing : ScriptKind) (us : List ℕ) (rest : List Lexeme) → is_text us ≡ true → is_name_of us ≡ true
    → name_at unquoted missing (placed (string_token us ∷ rest)) ≡ Ok (us, placed rest)
unfolding name_at
name_read law unquoted missing us rest h k =
    ap (λ (r : Read (List ℕ) ScriptKind). r >>= naming (placed (string_token us ∷ rest))) (string_read law unquoted missing us rest h)
    ∙ ap (named (placed (string_token us ∷ rest)) us (placed rest)) k

-- calls

call_back : (tag : CallTag) → tag_of_word (call_word tag) ≡ Some tag
call_back Ping = refl
call_back FileCreate = refl
call_back FileOpen = refl
call_back FileQuery = refl
call_back FileRename = refl
call_back PipeCreate = refl
call_back KeyCreate = refl
call_back KeyOpen = refl
call_back EventCreate = refl
call_back EventOpen = refl
call_back HandleClose = refl

-- a call, and the tokens after it
abbrev then_tag : Lexemes → CallTag → Read CallTag ScriptKind
then_tag rest tag = Ok (tag, rest)

pub tag_read : (tag : CallTag) (rest : List Lexeme) → tag_at (placed (Word (call_word tag) ∷ rest)) ≡ Ok (tag, placed rest)
unfolding tag_at
tag_read tag rest = ap (λ o. or_fails (placed (Word (call_word tag) ∷ rest)) UnknownCall o >>= then_tag (placed rest)) (call_back tag)

-- policies

is_itself : (w : List ℕ) → pointwise nat_eq w w ≡ true
is_itself w = (bytes_decides w w).1 refl

pub names_symm : (a b : List ℕ) → pointwise nat_eq a b ≡ pointwise nat_eq b a
names_symm = (lists_per (partial_equiv_from_equiv nat_eq_equiv)).symm

-- a name that no policy has is not that of the policy at a place
other_name : (w : List ℕ) (policies : List Policy) (i : ℕ) → list_any (is_named w) policies ≡ false → i < length policies
    → pointwise nat_eq (policy_name policies i) w ≡ false
other_name w [] i h k = absurd (omega arith)
other_name w (policy ∷ policies) zero h k = (or_parts (is_named w policy) (list_any (is_named w) policies) h).0
other_name w (policy ∷ policies) (suc i) h k = other_name w policies i (or_parts (is_named w policy) (list_any (is_named w) policies) h).1 (omega arith)

first_place : (policies : List Policy) (i : ℕ) → are_named_apart policies ≡ true → i < length policies
    → position_or_len (is_named (policy_name policies i)) policies ≡ i
first_place [] i h k = absurd (omega arith)
first_place (policy ∷ policies) zero h k =
    ap (λ t. cond (not t) (1 + position_or_len (is_named policy.name) policies) 0) (is_itself policy.name)
first_place (policy ∷ policies) (suc i) h k =
    let apart = and_parts (not (list_any (is_named policy.name) policies)) (are_named_apart policies) h in
    let other = names_symm policy.name (policy_name policies i) ∙ other_name policy.name policies i (not_true _ apart.0) (omega arith) in
    ap (λ t. cond (not t) (1 + position_or_len (is_named (policy_name policies i)) policies) 0) other
    ∙ ap (λ n. 1 + n) (first_place policies i apart.1 (omega arith))
    ∙ omega arith

position_back : (policies : List Policy) (i : ℕ) → are_named_apart policies ≡ true → nat_lt i (length policies) ≡ true
    → position (is_named (policy_name policies i)) policies ≡ Some i
position_back policies i h k =
    ap (λ n. cond (nat_lt n (length policies)) (Some n) None) (first_place policies i h (below i (length policies) k))
    ∙ ap (λ t. cond t (Some i) None) k
  where
    below : (i n : ℕ) → nat_lt i n ≡ true → i < n
    below i n k = grind (arith, nat_tests)

-- a policy, and the tokens after it
abbrev then_policy : Lexemes → ℕ → Read ℕ ScriptKind
then_policy rest policy = Ok (policy, rest)

pub policy_read : (policies : List Policy) (i : ℕ) (rest : List Lexeme) → length policies ≤ 8 → are_named_apart policies ≡ true → nat_lt i (length policies) ≡ true
    → policy_at policies (placed (Word (policy_name policies i) ∷ rest)) ≡ Ok (i, placed rest)
unfolding policy_at
policy_read policies i rest few h k =
    let short : nat_le i most_32 ≡ true = grind (arith, nat_tests, few, k) in
    let due = placed (Word (policy_name policies i) ∷ rest) in
    ap (λ o. or_fails due NoSuchPolicy o >>= λ place. at_token due (policy_number place) >>= then_policy (placed rest)) (position_back policies i h k)
    ∙ ap (λ b. at_token due (cond b (Ok i) (Err NoSuchPolicy)) >>= then_policy (placed rest)) short
