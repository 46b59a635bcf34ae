-- Arguments that are a command, as the library reads them.
use Rattle.std.proofs.Common.{◌≡◌, refl, codes, true, false, ℕ, List, [], ◌∷◌, ◌++◌, ◌==◌, Option, Some, None}
use Rattle.clap.specs.Words.{App, Row, Text, first_of, is_simple, matches_of}
use Rattle.clap.proofs.OnLiterals.{clap_on_literals}
use Rattle.sb_commands.specs.CommandLine.{line_of}
use Rattle.sb_commands.specs.Forms.{Form, form_with}
use Rattle.sb_commands.specs.Usage.{Values}
use Rattle.sb_commands.specs.declared.works.PlainWork.TheVariants.{Check, Replay}
use Rattle.sb_commands.specs.declared.works.ThreadedWork.TheVariants.{Make, Run}
use Rattle.sb_commands.specs.declared.works.Work.TheVariants.{Plain, Threaded}

-- a form of each shape: one place, two places, two and a file that may be left out, three, and two with an option
abbrev pub one_form : Form
one_form = form_with (Plain Check)

abbrev pub pair_form : Form
pair_form = record (form_with (Plain Replay)) { last = None }

abbrev pub last_form : Form
last_form = form_with (Plain Replay)

abbrev pub three_form : Form
three_form = form_with (Threaded Make)

abbrev pub run_form : Form
run_form = form_with (Threaded Run)

-- what the getters find in these rows
abbrev pub values_in : List Row → Text → Option Text
values_in rows name = first_of name rows

-- what is done with the values that are found, whatever it is
abbrev pub Use : Type 0
Use = Option Text → Option Text → Option Text → Option Text → Option Text → Option Text → Values

abbrev pub used : Use → (Text → Option Text) → Values
used f found = f (found (codes "first")) (found (codes "second")) (found (codes "third")) (found (codes "last")) (found (codes "first-option")) (found (codes "second-option"))

-- the library finds these values
abbrev pub IsTaken : App → List Text → Option Text → Option Text → Option Text → Option Text → Option Text → Type 0
IsTaken line words first second third last option = (f : Use) → used f (values_in (matches_of line words)) ≡ f first second third last option None

-- the library's command lines are simple
pub one_is_simple : is_simple (line_of one_form) ≡ true
one_is_simple = refl

pub pair_is_simple : is_simple (line_of pair_form) ≡ true
pair_is_simple = refl

pub last_is_simple : is_simple (line_of last_form) ≡ true
last_is_simple = refl

pub run_is_simple : is_simple (line_of run_form) ≡ true
run_is_simple = refl

pub three_is_simple : is_simple (line_of three_form) ≡ true
three_is_simple = refl

-- ---- an argument that does not begin with `-` goes to the next place, or is the value of the option before it

module _ (name : Text) (b : ℕ) (bs : List ℕ) (first : (b == 45) ≡ false) where
  pub one_is_taken : IsTaken (line_of one_form) (name ∷ (b ∷ bs) ∷ []) (Some (b ∷ bs)) None None None None
  unfolding clap_on_literals
  one_is_taken = λ f. rw (first, first) refl

  module _ (d : ℕ) (ds : List ℕ) (second : (d == 45) ≡ false) where
    pub two_are_taken : IsTaken (line_of last_form) (name ∷ (b ∷ bs) ∷ (d ∷ ds) ∷ []) (Some (b ∷ bs)) (Some (d ∷ ds)) None None None
    unfolding clap_on_literals
    two_are_taken = λ f. rw (first, first, second, second) refl

    pub pair_is_taken : IsTaken (line_of pair_form) (name ∷ (b ∷ bs) ∷ (d ∷ ds) ∷ []) (Some (b ∷ bs)) (Some (d ∷ ds)) None None None
    unfolding clap_on_literals
    pair_is_taken = λ f. rw (first, first, second, second) refl

    pub run_is_taken : IsTaken (line_of run_form) (name ∷ (b ∷ bs) ∷ (d ∷ ds) ∷ []) (Some (b ∷ bs)) (Some (d ∷ ds)) None None None
    unfolding clap_on_literals
    run_is_taken = λ f. rw (first, first, second, second) refl

    module _ (e : ℕ) (es : List ℕ) (third : (e == 45) ≡ false) where
      pub two_and_last_are_taken : IsTaken (line_of last_form) (name ∷ (b ∷ bs) ∷ (d ∷ ds) ∷ (e ∷ es) ∷ []) (Some (b ∷ bs)) (Some (d ∷ ds)) None (Some (e ∷ es)) None
      unfolding clap_on_literals
      two_and_last_are_taken = λ f. rw (first, first, second, second, third, third) refl

      pub three_are_taken : IsTaken (line_of three_form) (name ∷ (b ∷ bs) ∷ (d ∷ ds) ∷ (e ∷ es) ∷ []) (Some (b ∷ bs)) (Some (d ∷ ds)) (Some (e ∷ es)) None None
      unfolding clap_on_literals
      three_are_taken = λ f. rw (first, first, second, second, third, third) refl

      -- the third is the value of the option

      pub joined_first_is_taken : IsTaken (line_of run_form) (name ∷ (codes "--workers=" ++ (e ∷ es)) ∷ (b ∷ bs) ∷ (d ∷ ds) ∷ [])
          (Some (b ∷ bs)) (Some (d ∷ ds)) None None (Some (e ∷ es))
      unfolding clap_on_literals
      joined_first_is_taken = λ f. rw (first, first, second, second) refl

      pub joined_last_is_taken : IsTaken (line_of run_form) (name ∷ (b ∷ bs) ∷ (d ∷ ds) ∷ (codes "--workers=" ++ (e ∷ es)) ∷ [])
          (Some (b ∷ bs)) (Some (d ∷ ds)) None None (Some (e ∷ es))
      unfolding clap_on_literals
      joined_last_is_taken = λ f. rw (first, first, second, second) refl

      pub apart_first_is_taken : IsTaken (line_of run_form) (name ∷ codes "--workers" ∷ (e ∷ es) ∷ (b ∷ bs) ∷ (d ∷ ds) ∷ [])
          (Some (b ∷ bs)) (Some (d ∷ ds)) None None (Some (e ∷ es))
      unfolding clap_on_literals
      apart_first_is_taken = λ f. rw (third, third, first, first, second, second) refl

      pub apart_last_is_taken : IsTaken (line_of run_form) (name ∷ (b ∷ bs) ∷ (d ∷ ds) ∷ codes "--workers" ∷ (e ∷ es) ∷ [])
          (Some (b ∷ bs)) (Some (d ∷ ds)) None None (Some (e ∷ es))
      unfolding clap_on_literals
      apart_last_is_taken = λ f. rw (first, first, second, second, third, third) refl
