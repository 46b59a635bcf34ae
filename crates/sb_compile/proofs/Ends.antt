-- What the last opcode of a group gains: its options say where the group ends, and whether it is negated.
use Rattle.std.specs.Prelude.{Option, None, Some, option_map, option_and_then, is_some, bit_or}
use Rattle.std.specs.List.{list_all}
use Rattle.std.proofs.Common.{◌≡◌, ℕ, Bool, true, false, cond, List, [], ◌∷◌, ◌||◌, eqb, refl, ap, sym, subst}
use Rattle.std.proofs.lemmas.Bool.{and_parts, eqb-true, false≢true}
use Rattle.sb_call.specs.Arguments.{arg_at}
use Rattle.sb_call.specs.declared.arguments.Arg.{Arg}
use Rattle.sb_call.specs.declared.arguments.Arg.TheVariants as arg
use Rattle.sb_opcode.specs.Options.{options_of, has, NEGATE, CLEAR, OR, FOLD, EXACT}
use Rattle.sb_opcode.specs.Opcodes.{Opcode}
use Rattle.sb_opcode.specs.Opcodes.{OpKind}
use Rattle.sb_opcode.specs.Opcodes as op
use Rattle.sb_opcode.specs.declared.options.Options.{Options}
use Rattle.sb_opcode.specs.Fragments.{after_seek, at_end}
use Rattle.sb_opcode.specs.Meaning.{units_left, after_opcode, after_all, all_hold, one_holds, is_negated, negate_if, group_holds}
use Rattle.sb_compile.specs.Compiling.{closed, end_bits, with_options}

-- the options of opcodes that do not end a group
abbrev pub is_plain_bits : ℕ → Bool
is_plain_bits n = eqb n 0 || (eqb n 4 || (eqb n 8 || eqb n 24))

abbrev pub is_plain : Opcode → Bool
is_plain op = is_plain_bits op.options.0

pub by_bits : (P : ℕ → Type 0) → P 0 → P 4 → P 8 → P 24 → (n : ℕ) → is_plain_bits n ≡ true → P n
by_bits P p q r s n h = by (eqb n 0) (eqb n 4) (eqb n 8) (eqb n 24) refl refl refl refl h
  where
    by : (a b c d : Bool) → eqb n 0 ≡ a → eqb n 4 ≡ b → eqb n 8 ≡ c → eqb n 24 ≡ d → (a || (b || (c || d))) ≡ true → P n
    by true b c d ea eb ec ed h = subst P (sym (eqb-true n 0 ea)) p
    by false true c d ea eb ec ed h = subst P (sym (eqb-true n 4 eb)) q
    by false false true d ea eb ec ed h = subst P (sym (eqb-true n 8 ec)) r
    by false false false true ea eb ec ed h = subst P (sym (eqb-true n 24 ed)) s
    by false false false false ea eb ec ed h = absurd (false≢true h)

-- what the options that end a group leave as it is, and what they say
pub record Kept (negated : Bool) (n : ℕ) : Type 0 where
  pub folds_kept : has (options_of (bit_or n (end_bits negated))) FOLD ≡ has (options_of n) FOLD
  pub exact_kept : has (options_of (bit_or n (end_bits negated))) EXACT ≡ has (options_of n) EXACT
  pub choice_kept : has (options_of (bit_or n (end_bits negated))) OR ≡ has (options_of n) OR
  pub negates_so : has (options_of (bit_or n (end_bits negated))) NEGATE ≡ negated
  pub clears_now : has (options_of (bit_or n (end_bits negated))) CLEAR ≡ true
  pub clears_not : has (options_of n) CLEAR ≡ false
  pub negates_not : has (options_of n) NEGATE ≡ false

same_all : (negated : Bool) → Kept negated 0 × Kept negated 4 × Kept negated 8 × Kept negated 24
same_all true = (
  record { folds_kept = refl; exact_kept = refl; choice_kept = refl; negates_so = refl; clears_now = refl; clears_not = refl; negates_not = refl },
  record { folds_kept = refl; exact_kept = refl; choice_kept = refl; negates_so = refl; clears_now = refl; clears_not = refl; negates_not = refl },
  record { folds_kept = refl; exact_kept = refl; choice_kept = refl; negates_so = refl; clears_now = refl; clears_not = refl; negates_not = refl },
  record { folds_kept = refl; exact_kept = refl; choice_kept = refl; negates_so = refl; clears_now = refl; clears_not = refl; negates_not = refl },
)
same_all false = (
  record { folds_kept = refl; exact_kept = refl; choice_kept = refl; negates_so = refl; clears_now = refl; clears_not = refl; negates_not = refl },
  record { folds_kept = refl; exact_kept = refl; choice_kept = refl; negates_so = refl; clears_now = refl; clears_not = refl; negates_not = refl },
  record { folds_kept = refl; exact_kept = refl; choice_kept = refl; negates_so = refl; clears_now = refl; clears_not = refl; negates_not = refl },
  record { folds_kept = refl; exact_kept = refl; choice_kept = refl; negates_so = refl; clears_now = refl; clears_not = refl; negates_not = refl },
)

pub kept : (negated : Bool) (n : ℕ) → is_plain_bits n ≡ true → Kept negated n
kept negated n h = let all = same_all negated in by_bits (Kept negated) all.0 all.1 all.2 all.3 n h

-- what an opcode leaves of a string depends on FOLD and EXACT alone
units_kept : (kind : OpKind) (a b : Options) (us : List ℕ) → has a FOLD ≡ has b FOLD → has a EXACT ≡ has b EXACT → units_left kind a us ≡ units_left kind b us
units_kept op.False a b us f x = refl
units_kept op.True a b us f x = refl
units_kept (op.Num n) a b us f x = refl
units_kept (op.Range lo hi) a b us f x = refl
units_kept (op.Mask mask) a b us f x = refl
units_kept (op.Act action line) a b us f x = refl
units_kept (op.Text cells seek) a b us f x =
    λ i. cond (x i) (at_end (after_seek seek (f i) cells us)) (after_seek seek (f i) cells us)

-- the last opcode of a group does as it did
end_kept : (negated : Bool) (op : Opcode) (arg : Arg) → is_plain op ≡ true → after_opcode (with_options (end_bits negated) op) arg ≡ after_opcode op arg
end_kept negated op (arg.Num value) h = refl
end_kept negated op (arg.Str us) h =
    let k = kept negated op.options.0 h in
    ap (option_map arg.Str) (units_kept op.kind (options_of (bit_or op.options.0 (end_bits negated))) op.options us k.folds_kept k.exact_kept)

then_equal : (f g : Arg → Option Arg) → ((arg : Arg) → f arg ≡ g arg) → (left : Option Arg) → option_and_then f left ≡ option_and_then g left
then_equal f g h None = refl
then_equal f g h (Some arg) = h arg

abbrev pub are_plain : List Opcode → Bool
are_plain ops = list_all is_plain ops

closed_after : (negated : Bool) (ops : List Opcode) (arg : Arg) → are_plain ops ≡ true → after_all (closed negated ops) arg ≡ after_all ops arg
closed_after negated [] arg h = refl
closed_after negated (op ∷ []) arg h =
    ap (λ left. option_and_then (after_all []) left) (end_kept negated op arg (and_parts (is_plain op) true h).0)
closed_after negated (op ∷ next ∷ ops) arg h =
    let p = and_parts (is_plain op) (are_plain (next ∷ ops)) h in
    then_equal (after_all (closed negated (next ∷ ops))) (after_all (next ∷ ops)) (λ left. closed_after negated (next ∷ ops) left p.1) (after_opcode op arg)

closed_one : (negated : Bool) (ops : List Opcode) (arg : Arg) → are_plain ops ≡ true → one_holds (closed negated ops) arg ≡ one_holds ops arg
closed_one negated [] arg h = refl
closed_one negated (op ∷ []) arg h =
    ap (λ left. is_some left || false) (end_kept negated op arg (and_parts (is_plain op) true h).0)
closed_one negated (op ∷ next ∷ ops) arg h =
    let p = and_parts (is_plain op) (are_plain (next ∷ ops)) h in
    ap (λ b. is_some (after_opcode op arg) || b) (closed_one negated (next ∷ ops) arg p.1)

closed_negated : (negated : Bool) (op : Opcode) (ops : List Opcode) → are_plain (op ∷ ops) ≡ true → is_negated (closed negated (op ∷ ops)) ≡ negated
closed_negated negated op [] h = (kept negated op.options.0 (and_parts (is_plain op) true h).0).negates_so
closed_negated negated op (next ∷ []) h = closed_negated negated next [] (and_parts (is_plain op) (are_plain (next ∷ [])) h).1
closed_negated negated op (next ∷ third ∷ ops) h = closed_negated negated next (third ∷ ops) (and_parts (is_plain op) (are_plain (next ∷ third ∷ ops)) h).1

-- a group, by its opcodes before the last was told that it is the last
abbrev pub plain_holds : List Arg → Opcode → List Opcode → Bool
plain_holds args op ops = cond (has op.options OR) (one_holds (op ∷ ops) (arg_at args op.param)) (all_hold (op ∷ ops) (arg_at args op.param))

pub group_closed : (negated : Bool) (args : List Arg) (op : Opcode) (ops : List Opcode) → are_plain (op ∷ ops) ≡ true
    → group_holds args (closed negated (op ∷ ops)) ≡ negate_if negated (plain_holds args op ops)
group_closed negated args op [] h =
    let arg = arg_at args op.param in
    λ i. negate_if (closed_negated negated op [] h i)
    (cond ((kept negated op.options.0 (and_parts (is_plain op) true h).0).choice_kept i) (closed_one negated (op ∷ []) arg h i)
    (is_some (closed_after negated (op ∷ []) arg h i)))
group_closed negated args op (next ∷ ops) h =
    let arg = arg_at args op.param in
    λ i. negate_if (closed_negated negated op (next ∷ ops) h i)
    (cond (has op.options OR) (closed_one negated (op ∷ next ∷ ops) arg h i) (is_some (closed_after negated (op ∷ next ∷ ops) arg h i)))
