-- Values of a feature.
use Rattle.std.specs.Prelude.{◌≡◌, ℕ, Bool, true, ◌&&◌, nat_le, Option, None, Some}
use Rattle.std.specs.List.{list_any}
use Rattle.sb_index.specs.Questions.{lies}
use Rattle.sb_index.specs.declared.values.Values.{Values}
use Rattle.sb_index.specs.declared.values.Values.TheVariants.{Among, Between}

-- one of the values is from the first to the last
abbrev pub may_lie : Values → ℕ → ℕ → Bool
may_lie (Among numbers) first last = list_any (lies first last) numbers.now
may_lie (Between lo hi) first last = nat_le lo last && nat_le first hi

-- the values, if there are some, are those that a test of ranges admits; if there are none, it admits each range
abbrev pub AreValues : Option Values → (ℕ → ℕ → Bool) → Type 0
AreValues None admits = (first last : ℕ) → admits first last ≡ true
AreValues (Some values) admits = (first last : ℕ) → admits first last ≡ may_lie values first last

-- the values, if there are some, are of a range those that are admitted, and of a list of numbers at least these; if there are none, all
-- are admitted
abbrev pub AreAdmitted : Option Values → ℕ → ℕ → Bool → Type 0
AreAdmitted None first last admits = admits ≡ true
AreAdmitted (Some (Among numbers)) first last admits = admits ≡ true → list_any (lies first last) numbers.now ≡ true
AreAdmitted (Some (Between lo hi)) first last admits = (nat_le lo last && nat_le first hi) ≡ admits
