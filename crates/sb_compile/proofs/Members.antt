-- The opcodes of one condition: they look at one parameter that they suit, and all have OR or none has.
use Rattle.std.specs.Bool.{beq}
use Rattle.std.specs.Prelude.{nat_lt, bit_or}
use Rattle.std.specs.List.{list_all}
use Rattle.std.proofs.Common.{◌≡◌, ◌∙◌, ℕ, Bool, true, false, not, cond, List, [], ◌∷◌, ◌++◌, ◌&&◌, eqb, length, map, refl, sym, subst}
use Rattle.std.proofs.lemmas.Bool.{and_parts, eqb-true, false≢true, not-true}
use Rattle.std.proofs.lemmas.Bool.Decides.{Decides-eqb}
use Rattle.std.proofs.lemmas.List.Folds.{list_all-append}
use Rattle.sb_call.specs.Arguments.{kind_at}
use Rattle.sb_call.specs.Tags.{shape_of}
use Rattle.sb_call.specs.declared.tags.CallTag.{CallTag}
use Rattle.sb_rule.specs.declared.cells.Cell.{Cell}
use Rattle.sb_rule.specs.declared.cells.Cell.TheVariants.{Lit}
use Rattle.sb_call.specs.Parameters.{is_number_kind}
use Rattle.sb_rule.specs.WellMade.{is_number_test, is_sensible, is_well_formed}
use Rattle.sb_rule.specs.declared.conditions.Cond.{Cond}
use Rattle.sb_rule.specs.declared.conditions.Test.{Test}
use Rattle.sb_rule.specs.declared.conditions.Test.TheVariants as test
use Rattle.sb_opcode.specs.Faults.{is_unfit, is_number_at, is_string_at, suits}
use Rattle.sb_opcode.specs.Groups.{is_act}
use Rattle.sb_opcode.specs.Options.{has, OR, FOLD, EXACT}
use Rattle.sb_opcode.specs.Opcodes.{Opcode}
use Rattle.sb_opcode.specs.Opcodes as op
use Rattle.sb_opcode.specs.declared.opcodes.Seek.TheVariants.{Skip}
use Rattle.sb_compile.specs.Compiling.{opcode, here, test_code, first_code, later_code, or_true, runs_code}
use Rattle.sb_compile.proofs.Ends.{is_plain, are_plain}
use Rattle.sb_compile.proofs.Runs.{runs_of}

abbrev pub is_member : CallTag → ℕ → Bool → Opcode → Bool
is_member tag param choice op =
    eqb op.param param && (beq (has op.options OR) choice && (is_plain op && (not (is_act op) && (suits tag op.kind op.param && not (is_unfit op)))))

abbrev pub are_members : CallTag → ℕ → Bool → List Opcode → Bool
are_members tag param choice ops = list_all (is_member tag param choice) ops

-- opcodes of one condition, of which there is one at least
pub record Group (tag : CallTag) (ops : List Opcode) : Type 0 where
  pub first : Opcode
  pub others : List Opcode
  pub are : ops ≡ first ∷ others
  pub param : ℕ
  pub choice : Bool
  pub members : are_members tag param choice (first ∷ others) ≡ true

abbrev pub same : (n : ℕ) → eqb n n ≡ true
same n = (Decides-eqb n n).1 refl

abbrev pub both : {a b : Bool} → a ≡ true → b ≡ true → (a && b) ≡ true
both p q = λ i. p i && q i

choices : (tag : CallTag) (param : ℕ) (ns : List ℕ) → is_number_at tag param ≡ true → are_members tag param true (map (λ k. opcode param OR (op.Num k)) ns) ≡ true
choices tag param [] h = refl
choices tag param (n ∷ ns) h = both (both (same param) (both h refl)) (choices tag param ns h)

first_members : (tag : CallTag) (param : ℕ) (run : List Cell) → is_string_at tag param ≡ true → are_members tag param false (first_code param run) ≡ true
first_members tag param [] h = refl
first_members tag param (c ∷ cells) h = both (both (same param) (both h refl)) refl

later_members : (tag : CallTag) (param : ℕ) (runs : List (List Cell)) → is_string_at tag param ≡ true → are_members tag param false (later_code param runs) ≡ true
later_members tag param [] h = refl
later_members tag param ([] ∷ []) h = refl
later_members tag param ((c ∷ cells) ∷ []) h = both (both (same param) (both h refl)) refl
later_members tag param (run ∷ next ∷ runs) h = both (both (same param) (both h refl)) (later_members tag param (next ∷ runs) h)

true_group : (tag : CallTag) (param : ℕ) (ops : List Opcode) → are_members tag param false ops ≡ true → Group tag (or_true ops)
true_group tag param [] h = record { first = opcode 0 0 op.True; others = []; are = refl; param = 0; choice = false; members = refl }
true_group tag param (op ∷ ops) h = record { first = op; others = ops; are = refl; param = param; choice = false; members = h }

pub star_members : (tag : CallTag) (param : ℕ) (run next : List Cell) (runs : List (List Cell)) → is_string_at tag param ≡ true
    → are_members tag param false (first_code param run ++ later_code param (next ∷ runs)) ≡ true
star_members tag param run next runs h =
    list_all-append (is_member tag param false) (first_code param run) (later_code param (next ∷ runs))
    ∙ both (first_members tag param run h) (later_members tag param (next ∷ runs) h)

pub here_members : (tag : CallTag) (param : ℕ) (run : List Cell) → is_string_at tag param ≡ true → are_members tag param false (runs_code param (run ∷ [])) ≡ true
here_members tag param run h = both (both (same param) (both h refl)) refl

pub runs_group : (tag : CallTag) (param : ℕ) (run : List Cell) (runs : List (List Cell)) → is_string_at tag param ≡ true → Group tag (runs_code param (run ∷ runs))
runs_group tag param run [] h = record {
  first = here param (bit_or FOLD EXACT) run;
  others = [];
  are = refl;
  param = param;
  choice = false;
  members = here_members tag param run h;
}
runs_group tag param run (next ∷ runs) h =
    true_group tag param (first_code param run ++ later_code param (next ∷ runs)) (star_members tag param run next runs h)

alone : (tag : CallTag) (param : ℕ) (op : Opcode) → is_member tag param false op ≡ true → Group tag (op ∷ [])
alone tag param op h = record { first = op; others = []; are = refl; param = param; choice = false; members = both h refl }

-- the parameter of a test
abbrev pub is_placed : CallTag → ℕ → Test → Bool
is_placed tag param test = cond (is_number_test test) (is_number_at tag param) (is_string_at tag param)

-- a sensible test gives opcodes of one condition
pub test_group : (tag : CallTag) (param : ℕ) (test : Test) → is_placed tag param test ≡ true → is_sensible test ≡ true → Group tag (test_code param test)
test_group tag param (test.OneOf []) h s = absurd (false≢true s)
test_group tag param (test.OneOf (n ∷ [])) h s = alone tag param (opcode param 0 (op.Num n)) (both (same param) (both h refl))
test_group tag param (test.OneOf (n ∷ m ∷ ns)) h s = record {
  first = opcode param OR (op.Num n);
  others = map (λ k. opcode param OR (op.Num k)) (m ∷ ns);
  are = refl;
  param = param;
  choice = true;
  members = choices tag param (n ∷ m ∷ ns) h;
}
test_group tag param (test.Range lo hi) h s = alone tag param (opcode param 0 (op.Range lo hi)) (both (same param) (both h refl))
test_group tag param (test.Mask mask) h s = alone tag param (opcode param 0 (op.Mask mask)) (both (same param) (both h refl))
test_group tag param (test.Equal text) h s =
    alone tag param (opcode param (bit_or FOLD EXACT) (op.Text (map Lit text) (Skip 0))) (both (same param) (both h refl))
test_group tag param (test.Like cells) h s =
    let r = runs_of cells in
    subst (λ runs. Group tag (runs_code param runs)) (sym r.are) (runs_group tag param r.first r.others h)

-- a well-formed condition has a sensible test, whose parameter suits it
pub is_placed_well : (tag : CallTag) (c : Cond) → is_well_formed tag c ≡ true → (is_placed tag c.param c.test ≡ true) × (is_sensible c.test ≡ true)
is_placed_well tag c h =
    let inside = nat_lt c.param (length (shape_of tag)) in
    let number = is_number_kind (kind_at tag c.param) in
    let p = and_parts inside (beq (is_number_test c.test) number && is_sensible c.test) h in
    let q = and_parts (beq (is_number_test c.test) number) (is_sensible c.test) p.1 in
    (by inside (is_number_test c.test) number p.0 q.0, q.1)
  where
    by : (inside numeric number : Bool) → inside ≡ true → beq numeric number ≡ true
        → cond numeric (inside && number) (inside && not number) ≡ true
    by inside true true i b = both i refl
    by inside true false i b = absurd (false≢true b)
    by inside false true i b = absurd (false≢true b)
    by inside false false i b = both i refl

-- the parameter, the lack of OR, and the options of opcodes of strings
pub record Member (tag : CallTag) (param : ℕ) (choice : Bool) (op : Opcode) : Type 0 where
  pub param_is : op.param ≡ param
  pub choice_is : has op.options OR ≡ choice
  pub plain : is_plain op ≡ true
  pub no_act : is_act op ≡ false
  pub suited : suits tag op.kind op.param ≡ true
  pub fit : is_unfit op ≡ false

equal_tests : (a b : Bool) → beq a b ≡ true → a ≡ b
equal_tests true true h = refl
equal_tests true false h = absurd (false≢true h)
equal_tests false true h = absurd (false≢true h)
equal_tests false false h = refl

pub member : (tag : CallTag) (param : ℕ) (choice : Bool) (op : Opcode) → is_member tag param choice op ≡ true → Member tag param choice op
member tag param choice op h =
    let chosen = beq (has op.options OR) choice in
    let suited = suits tag op.kind op.param in
    let a = and_parts (eqb op.param param) (chosen && (is_plain op && (not (is_act op) && (suited && not (is_unfit op))))) h in
    let b = and_parts chosen (is_plain op && (not (is_act op) && (suited && not (is_unfit op)))) a.1 in
    let c = and_parts (is_plain op) (not (is_act op) && (suited && not (is_unfit op))) b.1 in
    let d = and_parts (not (is_act op)) (suited && not (is_unfit op)) c.1 in
    let e = and_parts suited (not (is_unfit op)) d.1 in
    record {
      param_is = eqb-true op.param param a.0;
      choice_is = equal_tests (has op.options OR) choice b.0;
      plain = c.0;
      no_act = not-true (is_act op) d.0;
      suited = e.0;
      fit = not-true (is_unfit op) e.1;
    }

pub members_plain : (tag : CallTag) (param : ℕ) (choice : Bool) (ops : List Opcode) → are_members tag param choice ops ≡ true → are_plain ops ≡ true
members_plain tag param choice [] h = refl
members_plain tag param choice (op ∷ ops) h =
    let p = and_parts (is_member tag param choice op) (are_members tag param choice ops) h in
    both (member tag param choice op p.0).plain (members_plain tag param choice ops p.1)
