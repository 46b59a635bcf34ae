-- The group of a condition holds if the condition does.
use Rattle.std.proofs.Math.Bool.{or-false}
use Rattle.std.specs.Prelude.{nat_lt, Option, None, Some, option_map, option_and_then, is_some, nat_le, bit_and, bit_or}
use Rattle.std.specs.Bool.{beq}
use Rattle.std.specs.List.{list_any}
use Rattle.std.proofs.Common.{◌≡◌, ◌∙◌, ℕ, Bool, true, false, not, cond, List, [], ◌∷◌, ◌++◌, ◌&&◌, ◌||◌, eqb, length, map, refl, ap, sym, arith}
use Rattle.std.proofs.lemmas.Bool.{and_parts, false≢true}
use Rattle.std.proofs.lemmas.Bool.Decides.{nat_tests}
use Rattle.sb_call.specs.Arguments.{arg_at, kind_at, fits, fits_kind, FittingArgsAreOfTheirKinds}
use Rattle.sb_call.specs.Tags.{shape_of}
use Rattle.sb_call.specs.declared.arguments.Arg.{Arg}
use Rattle.sb_call.specs.declared.arguments.Arg.TheVariants as arg
use Rattle.sb_call.specs.declared.tags.CallTag.{CallTag}
use Rattle.sb_call.specs.declared.tags.ParamKind.{ParamKind}
use Rattle.sb_call.specs.declared.tags.ParamKind.TheVariants as kind
use Rattle.sb_rule.specs.declared.cells.Cell.{Cell}
use Rattle.sb_rule.specs.declared.cells.Cell.TheVariants.{Lit}
use Rattle.sb_rule.specs.Verdicts.{test_holds, cond_holds}
use Rattle.sb_call.specs.Parameters.{is_number_kind}
use Rattle.sb_rule.specs.WellMade.{is_number_test, is_sensible, is_well_formed}
use Rattle.sb_rule.specs.declared.conditions.Cond.{Cond}
use Rattle.sb_rule.specs.declared.conditions.Test.{Test}
use Rattle.sb_rule.specs.declared.conditions.Test.TheVariants as test
use Rattle.sb_opcode.specs.Faults.{is_string_at}
use Rattle.sb_opcode.specs.Options.{OR, FOLD, EXACT}
use Rattle.sb_opcode.specs.Opcodes.{Opcode}
use Rattle.sb_opcode.specs.Opcodes as op
use Rattle.sb_opcode.specs.declared.opcodes.Seek.TheVariants.{Skip}
use Rattle.sb_opcode.specs.Fragments.{after_fragment, at_end}
use Rattle.sb_opcode.specs.Meaning.{one_holds, all_hold, after_opcode, after_all, negate_if, group_holds}
use Rattle.sb_compile.specs.Compiling.{opcode, here, closed, cond_code, test_code, first_code, later_code, or_true, runs_code}
use Rattle.sb_compile.proofs.Ends.{are_plain, group_closed}
use Rattle.sb_compile.proofs.Members.{is_member, are_members, member, members_plain, star_members, here_members, is_placed, is_placed_well}
use Rattle.sb_compile.proofs.Runs.{runs_of, pattern_holds, last_alone}
use Rattle.sb_compile.proofs.Seeking.{units_none, same_alone}

abbrev pub is_number : Arg → Bool
is_number (arg.Num n) = true
is_number (arg.Str us) = false

-- an argument of numbers if the kind of its parameter is one of numbers
abbrev pub fits_test : Test → Arg → Bool
fits_test test arg = cond (is_number_test test) (is_number arg) (not (is_number arg))

left_some : (b : Bool) (arg : Arg) → is_some (option_and_then (after_all []) (cond b (Some arg) None)) ≡ b
left_some true arg = refl
left_some false arg = refl

left_one : (b : Bool) (arg : Arg) → is_some (cond b (Some arg) None) ≡ b
left_one true arg = refl
left_one false arg = refl

swapped : (n m : ℕ) → eqb n m ≡ eqb m n
swapped n m = grind (arith, nat_tests)

any_number : (param : ℕ) (ns : List ℕ) (value : ℕ)
    → list_any (λ op. is_some (after_opcode op (arg.Num value))) (map (λ k. opcode param OR (op.Num k)) ns) ≡ list_any (λ n. eqb n value) ns
any_number param [] value = refl
any_number param (n ∷ ns) value = λ i. (left_one (eqb value n) (arg.Num value) ∙ swapped value n) i || any_number param ns value i

-- what is left after the opcodes of a test without OR
abbrev pub test_left : ℕ → Test → Arg → Option Arg
test_left param test arg = after_all (test_code param test) arg

-- the opcodes of a test hold if the test does
numbers_hold : (param n m : ℕ) (ns : List ℕ) (a : Arg) → is_number a ≡ true
    → list_any (λ op. is_some (after_opcode op a)) (test_code param (test.OneOf (n ∷ m ∷ ns))) ≡ test_holds (test.OneOf (n ∷ m ∷ ns)) a
numbers_hold param n m ns (arg.Num value) h = any_number param (n ∷ m ∷ ns) value
numbers_hold param n m ns (arg.Str us) h = absurd (false≢true h)

number_holds : (param n : ℕ) (a : Arg) → is_number a ≡ true → is_some (test_left param (test.OneOf (n ∷ [])) a) ≡ test_holds (test.OneOf (n ∷ [])) a
number_holds param n (arg.Num value) h = left_some (eqb value n) (arg.Num value) ∙ swapped value n ∙ sym (or-false (eqb n value))
number_holds param n (arg.Str us) h = absurd (false≢true h)

range_holds : (param lo hi : ℕ) (a : Arg) → is_number a ≡ true → is_some (test_left param (test.Range lo hi) a) ≡ test_holds (test.Range lo hi) a
range_holds param lo hi (arg.Num value) h = left_some (nat_le lo value && nat_le value hi) (arg.Num value)
range_holds param lo hi (arg.Str us) h = absurd (false≢true h)

mask_holds : (param mask : ℕ) (a : Arg) → is_number a ≡ true → is_some (test_left param (test.Mask mask) a) ≡ test_holds (test.Mask mask) a
mask_holds param mask (arg.Num value) h = left_some (not (eqb (bit_and value mask) 0)) (arg.Num value)
mask_holds param mask (arg.Str us) h = absurd (false≢true h)

equal_holds : (param : ℕ) (text : List ℕ) (a : Arg) → not (is_number a) ≡ true → is_some (test_left param (test.Equal text) a) ≡ test_holds (test.Equal text) a
equal_holds param text (arg.Num value) h = absurd (false≢true h)
equal_holds param text (arg.Str us) h =
    ap (λ left. is_some (option_and_then (after_all []) (option_map arg.Str (at_end (option_and_then (after_fragment true (map Lit text)) left))))) (units_none us)
    ∙ last_alone (at_end (after_fragment true (map Lit text) us)) ∙ sym (same_alone text us)

like_holds : (param : ℕ) (cells : List Cell) (a : Arg) → not (is_number a) ≡ true → is_some (test_left param (test.Like cells) a) ≡ test_holds (test.Like cells) a
like_holds param cells (arg.Num value) h = absurd (false≢true h)
like_holds param cells (arg.Str us) h = pattern_holds param cells us

choices_plain : (param : ℕ) (ns : List ℕ) → are_plain (map (λ k. opcode param OR (op.Num k)) ns) ≡ true
choices_plain param [] = refl
choices_plain param (n ∷ ns) = choices_plain param ns

-- opcodes without OR hold if nothing stops them
members_mean : (negated : Bool) (args : List Arg) (tag : CallTag) (param : ℕ) (op : Opcode) (ops : List Opcode) → are_members tag param false (op ∷ ops) ≡ true
    → group_holds args (closed negated (op ∷ ops)) ≡ negate_if negated (is_some (after_all (op ∷ ops) (arg_at args param)))
members_mean negated args tag param op ops h =
    let m = member tag param false op (and_parts (is_member tag param false op) (are_members tag param false ops) h).0 in
    group_closed negated args op ops (members_plain tag param false (op ∷ ops) h)
    ∙ (λ i. negate_if negated (cond (m.choice_is i) (one_holds (op ∷ ops) (arg_at args (m.param_is i))) (all_hold (op ∷ ops) (arg_at args (m.param_is i)))))

true_holds : (a : Arg) → all_hold (opcode 0 0 op.True ∷ []) a ≡ true
true_holds (arg.Num n) = refl
true_holds (arg.Str us) = refl

or_true_mean : (negated : Bool) (args : List Arg) (tag : CallTag) (param : ℕ) (ops : List Opcode) → are_members tag param false ops ≡ true
    → group_holds args (closed negated (or_true ops)) ≡ negate_if negated (is_some (after_all (or_true ops) (arg_at args param)))
or_true_mean negated args tag param [] h =
    group_closed negated args (opcode 0 0 op.True) [] refl
    ∙ ap (negate_if negated) (true_holds (arg_at args 0) ∙ sym (true_holds (arg_at args param)))
or_true_mean negated args tag param (op ∷ ops) h = members_mean negated args tag param op ops h

runs_mean : (negated : Bool) (args : List Arg) (tag : CallTag) (param : ℕ) (run : List Cell) (runs : List (List Cell)) → is_string_at tag param ≡ true
    → group_holds args (closed negated (runs_code param (run ∷ runs)))
    ≡ negate_if negated (is_some (after_all (runs_code param (run ∷ runs)) (arg_at args param)))
runs_mean negated args tag param run [] h = members_mean negated args tag param (here param (bit_or FOLD EXACT) run) [] (here_members tag param run h)
runs_mean negated args tag param run (next ∷ runs) h =
    or_true_mean negated args tag param (first_code param run ++ later_code param (next ∷ runs)) (star_members tag param run next runs h)

-- the group of a test
test_means : (negated : Bool) (args : List Arg) (tag : CallTag) (param : ℕ) (test : Test) → is_placed tag param test ≡ true → is_sensible test ≡ true
    → fits_test test (arg_at args param) ≡ true → group_holds args (closed negated (test_code param test)) ≡ negate_if negated (test_holds test (arg_at args param))
test_means negated args tag param (test.OneOf []) p s h = absurd (false≢true s)
test_means negated args tag param (test.OneOf (n ∷ [])) p s h =
    group_closed negated args (opcode param 0 (op.Num n)) [] refl ∙ ap (negate_if negated) (number_holds param n (arg_at args param) h)
test_means negated args tag param (test.OneOf (n ∷ m ∷ ns)) p s h =
    group_closed negated args (opcode param OR (op.Num n)) (map (λ k. opcode param OR (op.Num k)) (m ∷ ns)) (choices_plain param (n ∷ m ∷ ns))
    ∙ ap (negate_if negated) (numbers_hold param n m ns (arg_at args param) h)
test_means negated args tag param (test.Range lo hi) p s h =
    group_closed negated args (opcode param 0 (op.Range lo hi)) [] refl ∙ ap (negate_if negated) (range_holds param lo hi (arg_at args param) h)
test_means negated args tag param (test.Mask mask) p s h =
    group_closed negated args (opcode param 0 (op.Mask mask)) [] refl ∙ ap (negate_if negated) (mask_holds param mask (arg_at args param) h)
test_means negated args tag param (test.Equal text) p s h =
    group_closed negated args (opcode param (bit_or FOLD EXACT) (op.Text (map Lit text) (Skip 0))) [] refl
    ∙ ap (negate_if negated) (equal_holds param text (arg_at args param) h)
test_means negated args tag param (test.Like cells) p s h =
    let r = runs_of cells in
    let arg = arg_at args param in
    ap (λ runs. group_holds args (closed negated (runs_code param runs))) r.are
    ∙ runs_mean negated args tag param r.first r.others p
    ∙ ap (λ runs. negate_if negated (is_some (after_all (runs_code param runs) arg))) (sym r.are)
    ∙ ap (negate_if negated) (like_holds param cells arg h)

-- an argument that fits is of the kind of its parameter
kind_fits : (k : ParamKind) (a : Arg) (numeric : Bool) → fits_kind k a ≡ true → beq numeric (is_number_kind k) ≡ true → cond numeric (is_number a) (not (is_number a)) ≡ true
kind_fits kind.Text (arg.Str us) false f b = refl
kind_fits kind.Text (arg.Str us) true f b = absurd (false≢true b)
kind_fits kind.Text (arg.Num n) numeric f b = absurd (false≢true f)
kind_fits kind.Name (arg.Str us) false f b = refl
kind_fits kind.Name (arg.Str us) true f b = absurd (false≢true b)
kind_fits kind.Name (arg.Num n) numeric f b = absurd (false≢true f)
kind_fits kind.Num (arg.Num n) true f b = refl
kind_fits kind.Num (arg.Num n) false f b = absurd (false≢true b)
kind_fits kind.Num (arg.Str us) numeric f b = absurd (false≢true f)
kind_fits kind.Handle (arg.Num n) true f b = refl
kind_fits kind.Handle (arg.Num n) false f b = absurd (false≢true b)
kind_fits kind.Handle (arg.Str us) numeric f b = absurd (false≢true f)

-- the group of a well-formed condition holds if the condition does
pub cond_means : (kinds : FittingArgsAreOfTheirKinds) (tag : CallTag) (args : List Arg) (c : Cond) → fits tag args ≡ true → is_well_formed tag c ≡ true
    → group_holds args (cond_code c) ≡ cond_holds c args
cond_means kinds tag args c f w =
    let placed = is_placed_well tag c w in
    let number = is_number_kind (kind_at tag c.param) in
    let p = and_parts (nat_lt c.param (length (shape_of tag))) (beq (is_number_test c.test) number && is_sensible c.test) w in
    let q = and_parts (beq (is_number_test c.test) number) (is_sensible c.test) p.1 in
    test_means c.negated args tag c.param c.test placed.0 placed.1
    (kind_fits (kind_at tag c.param) (arg_at args c.param) (is_number_test c.test) (kinds tag args f c.param) q.0)
