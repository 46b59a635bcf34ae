-- What can be asked of a rule and of the arguments of a call, so that a rule that holds of them passes.
use Rattle.std.specs.Prelude.{ℕ, ◌%◌, Bool, true, false, not, ◌&&◌, ◌==◌, nat_le, List, [], drop, if◌then◌else◌}
use Rattle.std.specs.List.{list_all, list_any}
use Rattle.sb_base.specs.Wide.{folded}
use Rattle.sb_call.specs.Arguments.{arg_at}
use Rattle.sb_call.specs.declared.arguments.Arg.{Arg}
use Rattle.sb_call.specs.declared.arguments.Arg.TheVariants as arg
use Rattle.sb_rule.specs.declared.cells.Cell.{Cell}
use Rattle.sb_rule.specs.declared.cells.Cell.TheVariants.{Lit, One, Any}
use Rattle.sb_rule.specs.declared.conditions.Cond.{Cond}
use Rattle.sb_rule.specs.declared.conditions.Test.{Test}
use Rattle.sb_rule.specs.declared.conditions.Test.TheVariants.{OneOf, Range, Mask, Equal, Like}
use Rattle.sb_rule.specs.declared.policies.Rule.{Rule}
use Rattle.sb_index.specs.Fronts.{key, edge, past}
use Rattle.sb_index.specs.declared.questions.Feature.{Feature}
use Rattle.sb_index.specs.declared.questions.Feature.TheVariants.{Number, Front}
use Rattle.sb_index.specs.declared.questions.Question.{Question}
use Rattle.sb_index.specs.declared.questions.Question.TheVariants.{Within, Without}

-- a number; a string counts as 0
abbrev pub number_in : Arg → ℕ
number_in (arg.Num n) = n
number_in (arg.Str us) = 0

-- the units of a string; a number has none
abbrev pub units_in : Arg → List ℕ
units_in (arg.Num n) = []
units_in (arg.Str us) = us

-- the number that a feature is of arguments: that of a parameter, or four units of a string after those that are skipped
abbrev pub value_of : Feature → List Arg → ℕ
value_of (Number param) args = number_in (arg_at args param)
value_of (Front param skip) args = key 4 (drop skip (units_in (arg_at args param)))

-- one of these numbers is from the first to the last
abbrev pub lies : ℕ → ℕ → ℕ → Bool
lies first last n = nat_le first n && nat_le n last

-- from the first to the last there is a number that a test of numbers admits; of a mask that is not asked
abbrev pub number_may_lie : Test → ℕ → ℕ → Bool
number_may_lie (OneOf numbers) first last = list_any (lies first last) numbers
number_may_lie (Range lo hi) first last = nat_le lo last && nat_le first hi
number_may_lie (Mask mask) first last = true
number_may_lie (Equal text) first last = true
number_may_lie (Like cells) first last = true

-- from the first to the last there is a front that a test of strings admits
abbrev pub front_may_lie : Test → ℕ → ℕ → ℕ → Bool
front_may_lie (OneOf numbers) skip first last = true
front_may_lie (Range lo hi) skip first last = true
front_may_lie (Mask mask) skip first last = true
front_may_lie (Equal text) skip first last = lies first last (key 4 (drop skip text))
front_may_lie (Like cells) skip first last = nat_le (edge 0 4 (past skip cells)) last && nat_le first (edge 65535 4 (past skip cells))

-- units fall into 64 buckets, those that are equal after folding into one
abbrev pub is_in_bucket : ℕ → ℕ → Bool
is_in_bucket bucket u = folded u % 64 == bucket

abbrev pub is_cell_in_bucket : ℕ → Cell → Bool
is_cell_in_bucket bucket (Lit u) = is_in_bucket bucket u
is_cell_in_bucket bucket One = false
is_cell_in_bucket bucket Any = false

-- a test of strings holds of none without a unit in this bucket
abbrev pub needs_bucket : Test → ℕ → Bool
needs_bucket (OneOf numbers) bucket = false
needs_bucket (Range lo hi) bucket = false
needs_bucket (Mask mask) bucket = false
needs_bucket (Equal text) bucket = list_any (is_in_bucket bucket) text
needs_bucket (Like cells) bucket = list_any (is_cell_in_bucket bucket) cells

-- the question, put to a test of the parameter that it is about
abbrev pub test_may_pass : Question → ℕ → Test → Bool
test_may_pass (Within (Number wanted) first last) param test = if param == wanted then number_may_lie test first last else true
test_may_pass (Within (Front wanted skip) first last) param test = if param == wanted then front_may_lie test skip first last else true
test_may_pass (Without wanted bucket) param test = if param == wanted then not (needs_bucket test bucket) else true

-- a negated condition passes, and another if its test does
abbrev pub cond_may_pass : Question → Cond → Bool
cond_may_pass question cond = if cond.negated then true else test_may_pass question cond.param cond.test

-- a rule passes if all its conditions do
abbrev pub may_pass : Question → Rule → Bool
may_pass question rule = list_all (cond_may_pass question) rule.conds

-- arguments are what a question is about: their feature lies from the first to the last, or their string has no unit in the bucket
abbrev pub meets : Question → List Arg → Bool
meets (Within feature first last) args = lies first last (value_of feature args)
meets (Without param bucket) args = not (list_any (is_in_bucket bucket) (units_in (arg_at args param)))
