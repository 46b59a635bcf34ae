-- The library takes arguments that are a command, and finds their values.
use Rattle.std.proofs.Common.{◌≡◌, ◌⊎◌, inl, inr, ◌∙◌, refl, sym, ap, subst, codes, true, false, ℕ, Bool, List, [], ◌∷◌, ◌++◌, Option, Some, None, true≢false}
use Rattle.std.specs.Prelude.{⊤, ◌&&◌, Result, Ok, Err, IsOk, length, suc, slice_get}
use Rattle.clap.specs.Words.{App, HasMatchesOf, Text, first_of, first_value, found_of, is_simple, matches_of}
use Rattle.clap.proofs.WalkLemmas.{first_value-rows}
use Rattle.clap.specs.declared.ArgMatches.{ArgMatches}
use Rattle.sb_commands.specs.Commands.{HasNumbers, HasValues, IsCommandOf, command_in, command_of, files_by, files_of, values_in, values_or_none, with_form, with_values}
use Rattle.sb_commands.specs.CommandLaws.{suits}
use Rattle.sb_commands.specs.CommandLine.{found_values, line_of, option_by}
use Rattle.sb_text.specs.MissingTexts.{or_empty}
use Rattle.sb_commands.specs.Forms.{Choice, File, Form, Help, Number, Place, Word, form_by, form_with}
use Rattle.sb_commands.specs.NumberWords.{is_number}
use Rattle.sb_commands.specs.Usage.{Cut, Fault, IsTested, Last, Values, cut_all, cut_last, cut_places, fault_of, none_given, read_after, read_by}
use Rattle.sb_commands.specs.declared.usage.GivenOptions.{GivenOptions}
use Rattle.sb_commands.specs.declared.usage_faults.UsageFault.{UsageFault}
use Rattle.sb_commands.specs.declared.works.PlainWork.TheVariants.{Check}
use Rattle.sb_commands.specs.declared.works.ThreadedWork.TheVariants.{Run}
use Rattle.sb_commands.specs.declared.works.Work.{Work}
use Rattle.sb_commands.specs.declared.works.Work.TheVariants.{Plain, Threaded}
use Rattle.sb_commands.proofs.Listed.{form_is}
use Rattle.sb_commands.proofs.NumberLaws.{has_numbers, values_suit}
use Rattle.sb_commands.proofs.ReadSteps.{IsPlainWord, IsWord, OnCut, OnGiven, OnLast, OnLeft, IsOptionAt, both, given_as, given_stays, last_left, number_is_plain, option_left, places_left, with_end, with_last, with_options, with_places, workers}
use Rattle.sb_commands.proofs.ReadWords.{IsTaken, apart_first_is_taken, apart_last_is_taken, joined_first_is_taken, joined_last_is_taken, last_is_simple, one_is_simple, one_is_taken, pair_is_simple, pair_is_taken, run_form, run_is_simple, run_is_taken, three_are_taken, three_is_simple, two_and_last_are_taken, two_are_taken, values_in as row_values}

-- of the arguments of a command of this form with this name the library finds these values
abbrev pub IsRead : Text → Form → List Text → Result Values Fault → Type 0
IsRead name form words (Ok values) = found_values form (row_values (matches_of (line_of form) (name ∷ words))) ≡ values
IsRead name form words (Err fault) = ⊤

-- what a form makes of the values that are found
abbrev found_by : Form → Option Text → Option Text → Option Text → Option Text → Option Text → Option Text → Values
found_by form first second third last first_option second_option = record {
  first = or_empty first;
  second = or_empty second;
  third = or_empty third;
  last = last;
  first_option = option_by (slice_get form.options 0) first_option;
  second_option = option_by (slice_get form.options 1) second_option;
}

read : (name : Text) (form : Form) (words : List Text) (first second third last option : Option Text)
    → IsTaken (line_of form) (name ∷ words) first second third last option → IsRead name form words (Ok (found_by form first second third last option None))
read name form words first second third last option taken = taken (found_by form)

-- a place that has no empty argument
abbrev is_due : Place → Bool
is_due (Word name) = false
is_due place = true

abbrev are_due : List Place → Bool
are_due [] = true
are_due (place ∷ places) = is_due place && are_due places

due : (place : Place) (word : Text) → is_due place ≡ true → IsWord place word → IsPlainWord word
due (File name) word d h = h
due (Number number) word d h = h
due (Word name) word d h = absurd (true≢false (sym d))

-- without options

abbrev no_flags : GivenOptions
no_flags = record { first = false; second = false }

abbrev some_flag : GivenOptions
some_flag = record { first = true; second = false }

abbrev plain_end : Form → ℕ → List Text → Option Text → Result Values Fault
plain_end form total placed last = with_end form total placed last (Ok (none_given, []))

-- ---- one place, as that of `check`

module _ (work : Work) (n does : Text) (help : Help) (p : Place) (due_p : is_due p ≡ true) (name : Text) (total : ℕ) where
  abbrev one_form : Form
  one_form = record { work = work; name = n; places = p ∷ []; last = None; options = []; does = does; help = help }

  one_end : (word : Text) → IsPlainWord word → IsRead name one_form (word ∷ []) (plain_end one_form total (word ∷ []) None)
  one_end word plain =
      subst (λ (w : Text). IsRead name one_form (w ∷ []) (plain_end one_form total (w ∷ []) None)) (sym plain.word_is)
      (read name one_form ((plain.b ∷ plain.bs) ∷ []) (Some (plain.b ∷ plain.bs)) None None None None (one_is_taken name plain.b plain.bs plain.plain))

  one_read : (words : List Text) → IsRead name one_form words (read_after one_form total words)
  one_read words = by (cut_places [] no_flags total one_form.places words) (places_left [] no_flags total one_form.places words)
    where
      by : (placed : Result (List Text) Fault) → OnLeft one_form.places words placed → IsRead name one_form words (with_places one_form total none_given words placed)
      by (Err fault) h = tt
      by (Ok (further ∷ rest)) h = tt
      by (Ok []) (word, after, e, (plain, kind), e2) =
          subst (λ (ws : List Text). IsRead name one_form ws (plain_end one_form total ws None)) (sym (e ∙ ap (λ ws. word ∷ ws) e2)) (one_end word (due p word due_p plain))

-- ---- two places

module _ (work : Work) (n does : Text) (help : Help) (p s : Place) (due_p : is_due p ≡ true) (due_s : is_due s ≡ true) (name : Text) (total : ℕ) where
  abbrev pair_form : Form
  pair_form = record { work = work; name = n; places = p ∷ s ∷ []; last = None; options = []; does = does; help = help }

  pair_end : (a b : Text) → IsPlainWord a → IsPlainWord b → IsRead name pair_form (a ∷ b ∷ []) (plain_end pair_form total (a ∷ b ∷ []) None)
  pair_end a b f g =
      subst (λ (w : Text). IsRead name pair_form (w ∷ b ∷ []) (plain_end pair_form total (w ∷ b ∷ []) None)) (sym f.word_is)
      (subst (λ (w : Text). IsRead name pair_form ((f.b ∷ f.bs) ∷ w ∷ []) (plain_end pair_form total ((f.b ∷ f.bs) ∷ w ∷ []) None)) (sym g.word_is)
      (read name pair_form ((f.b ∷ f.bs) ∷ (g.b ∷ g.bs) ∷ []) (Some (f.b ∷ f.bs)) (Some (g.b ∷ g.bs)) None None None
      (pair_is_taken name f.b f.bs f.plain g.b g.bs g.plain)))

  pair_read : (words : List Text) → IsRead name pair_form words (read_after pair_form total words)
  pair_read words = by (cut_places [] no_flags total pair_form.places words) (places_left [] no_flags total pair_form.places words)
    where
      by : (placed : Result (List Text) Fault) → OnLeft pair_form.places words placed → IsRead name pair_form words (with_places pair_form total none_given words placed)
      by (Err fault) h = tt
      by (Ok (further ∷ rest)) h = tt
      by (Ok []) (a, others, e, (f, kind), (b, rest, e2, (g, kind2), e3)) =
          subst (λ (ws : List Text). IsRead name pair_form ws (plain_end pair_form total ws None))
          (sym (e ∙ ap (λ ws. a ∷ ws) (e2 ∙ ap (λ ws. b ∷ ws) e3))) (pair_end a b (due p a due_p f) (due s b due_s g))

-- ---- two places, and a file that may be left out, as those of `replay`

module _ (work : Work) (n does l : Text) (help : Help) (p s : Place) (due_p : is_due p ≡ true) (due_s : is_due s ≡ true) (name : Text) (total : ℕ) where
  abbrev two_form : Form
  two_form = record { work = work; name = n; places = p ∷ s ∷ []; last = Some l; options = []; does = does; help = help }

  two_end : (a b : Text) → IsPlainWord a → IsPlainWord b → IsRead name two_form (a ∷ b ∷ []) (plain_end two_form total (a ∷ b ∷ []) None)
  two_end a b f g =
      subst (λ (w : Text). IsRead name two_form (w ∷ b ∷ []) (plain_end two_form total (w ∷ b ∷ []) None)) (sym f.word_is)
      (subst (λ (w : Text). IsRead name two_form ((f.b ∷ f.bs) ∷ w ∷ []) (plain_end two_form total ((f.b ∷ f.bs) ∷ w ∷ []) None)) (sym g.word_is)
      (read name two_form ((f.b ∷ f.bs) ∷ (g.b ∷ g.bs) ∷ []) (Some (f.b ∷ f.bs)) (Some (g.b ∷ g.bs)) None None None
      (two_are_taken name f.b f.bs f.plain g.b g.bs g.plain)))

  last_end : (a b c : Text) → IsPlainWord a → IsPlainWord b → IsPlainWord c
      → IsRead name two_form (a ∷ b ∷ c ∷ []) (plain_end two_form total (a ∷ b ∷ c ∷ []) (Some c))
  last_end a b c f g h =
      subst (λ (w : Text). IsRead name two_form (w ∷ b ∷ c ∷ []) (plain_end two_form total (w ∷ b ∷ c ∷ []) (Some c))) (sym f.word_is)
      (subst (λ (w : Text). IsRead name two_form ((f.b ∷ f.bs) ∷ w ∷ c ∷ []) (plain_end two_form total ((f.b ∷ f.bs) ∷ w ∷ c ∷ []) (Some c))) (sym g.word_is)
      (subst (λ (w : Text). IsRead name two_form ((f.b ∷ f.bs) ∷ (g.b ∷ g.bs) ∷ w ∷ []) (plain_end two_form total ((f.b ∷ f.bs) ∷ (g.b ∷ g.bs) ∷ w ∷ []) (Some w))) (sym h.word_is)
      (read name two_form ((f.b ∷ f.bs) ∷ (g.b ∷ g.bs) ∷ (h.b ∷ h.bs) ∷ []) (Some (f.b ∷ f.bs)) (Some (g.b ∷ g.bs)) None (Some (h.b ∷ h.bs)) None
      (two_and_last_are_taken name f.b f.bs f.plain g.b g.bs g.plain h.b h.bs h.plain))))

  two_read : (words : List Text) → IsRead name two_form words (read_after two_form total words)
  two_read words = by (cut_places [] no_flags total two_form.places words) (places_left [] no_flags total two_form.places words)
    where
      after : (a b : Text) (left : List Text) → words ≡ a ∷ b ∷ left → IsPlainWord a → IsPlainWord b → (cut : Last) → OnLast left cut
          → IsRead name two_form words (with_last two_form total none_given words cut)
      after a b left e f g (Err fault) h = tt
      after a b left e f g (Ok (None, further ∷ rest)) h = tt
      after a b left e f g (Ok (Some c, further ∷ rest)) h = tt
      after a b left e f g (Ok (None, [])) h =
          subst (λ (ws : List Text). IsRead name two_form ws (plain_end two_form total ws None)) (sym (e ∙ ap (λ ws. a ∷ b ∷ ws) h)) (two_end a b f g)
      after a b left e f g (Ok (Some c, [])) (k, h) =
          subst (λ (ws : List Text). IsRead name two_form ws (plain_end two_form total ws (Some c))) (sym (e ∙ ap (λ ws. a ∷ b ∷ ws) h))
          (last_end a b c f g k)

      by : (placed : Result (List Text) Fault) → OnLeft two_form.places words placed → IsRead name two_form words (with_places two_form total none_given words placed)
      by (Err fault) h = tt
      by (Ok left) (a, others, e, (f, kind), (b, rest, e2, (g, kind2), e3)) =
          after a b left (e ∙ ap (λ ws. a ∷ ws) (e2 ∙ ap (λ ws. b ∷ ws) e3)) (due p a due_p f) (due s b due_s g) (cut_last (Some l) total left) (last_left l total left)

-- ---- three places, as those of `make` and `linked`

module _ (work : Work) (n does : Text) (help : Help) (p s t : Place) (due_p : is_due p ≡ true) (due_s : is_due s ≡ true) (due_t : is_due t ≡ true) (name : Text) (total : ℕ) where
  abbrev three_form : Form
  three_form = record { work = work; name = n; places = p ∷ s ∷ t ∷ []; last = None; options = []; does = does; help = help }

  three_end : (a b c : Text) → IsPlainWord a → IsPlainWord b → IsPlainWord c
      → IsRead name three_form (a ∷ b ∷ c ∷ []) (plain_end three_form total (a ∷ b ∷ c ∷ []) None)
  three_end a b c f g h =
      subst (λ (w : Text). IsRead name three_form (w ∷ b ∷ c ∷ []) (plain_end three_form total (w ∷ b ∷ c ∷ []) None)) (sym f.word_is)
      (subst (λ (w : Text). IsRead name three_form ((f.b ∷ f.bs) ∷ w ∷ c ∷ []) (plain_end three_form total ((f.b ∷ f.bs) ∷ w ∷ c ∷ []) None)) (sym g.word_is)
      (subst (λ (w : Text). IsRead name three_form ((f.b ∷ f.bs) ∷ (g.b ∷ g.bs) ∷ w ∷ []) (plain_end three_form total ((f.b ∷ f.bs) ∷ (g.b ∷ g.bs) ∷ w ∷ []) None)) (sym h.word_is)
      (read name three_form ((f.b ∷ f.bs) ∷ (g.b ∷ g.bs) ∷ (h.b ∷ h.bs) ∷ []) (Some (f.b ∷ f.bs)) (Some (g.b ∷ g.bs)) (Some (h.b ∷ h.bs)) None None
      (three_are_taken name f.b f.bs f.plain g.b g.bs g.plain h.b h.bs h.plain))))

  three_read : (words : List Text) → IsRead name three_form words (read_after three_form total words)
  three_read words = by (cut_places [] no_flags total three_form.places words) (places_left [] no_flags total three_form.places words)
    where
      by : (placed : Result (List Text) Fault) → OnLeft three_form.places words placed → IsRead name three_form words (with_places three_form total none_given words placed)
      by (Err fault) h = tt
      by (Ok (further ∷ rest)) h = tt
      by (Ok []) (a, others, e, (f, kind), (b, rest, e2, (g, kind2), (c, end, e3, (h, kind3), e4))) =
          subst (λ (ws : List Text). IsRead name three_form ws (plain_end three_form total ws None))
          (sym (e ∙ ap (λ ws. a ∷ ws) (e2 ∙ ap (λ ws. b ∷ ws) (e3 ∙ ap (λ ws. c ∷ ws) e4))))
          (three_end a b c (due p a due_p f) (due s b due_s g) (due t c due_t h))

-- ---- `run`

module _ (name : Text) (total : ℕ) where
  -- the arguments of `run` with this number of workers, if one is given, are read: these after it, and the files among them
  abbrev RunEnd : List Text → List Text → Option Text → Type 0
  RunEnd words placed value = IsRead name run_form words (with_end run_form total placed None (Ok (given_as value, [])))

  -- the files as they are written, without an option and with one
  run_end : (policy script : Text) → IsPlainWord policy → IsPlainWord script → RunEnd (policy ∷ script ∷ []) (policy ∷ script ∷ []) None
  run_end policy script p s =
      subst (λ (w : Text). RunEnd (w ∷ script ∷ []) (w ∷ script ∷ []) None) (sym p.word_is)
      (subst (λ (w : Text). RunEnd ((p.b ∷ p.bs) ∷ w ∷ []) ((p.b ∷ p.bs) ∷ w ∷ []) None) (sym s.word_is)
      (read name run_form ((p.b ∷ p.bs) ∷ (s.b ∷ s.bs) ∷ []) (Some (p.b ∷ p.bs)) (Some (s.b ∷ s.bs)) None None None
      (run_is_taken name p.b p.bs p.plain s.b s.bs s.plain)))

  -- in three variables
  spelled : (P : Text → Text → Text → Type 0) (policy script value : Text) (p : IsPlainWord policy) (s : IsPlainWord script) (v : IsPlainWord value)
      → P (p.b ∷ p.bs) (s.b ∷ s.bs) (v.b ∷ v.bs) → P policy script value
  spelled P policy script value p s v x =
      subst (λ (w : Text). P w script value) (sym p.word_is)
      (subst (λ (w : Text). P (p.b ∷ p.bs) w value) (sym s.word_is) (subst (λ (w : Text). P (p.b ∷ p.bs) (s.b ∷ s.bs) w) (sym v.word_is) x))

  option_first : (policy script value : Text) (words : List Text) → IsPlainWord policy → IsPlainWord script → IsPlainWord value
      → IsOptionAt words value (policy ∷ script ∷ []) → RunEnd words (policy ∷ script ∷ []) (Some value)
  option_first policy script value words p s v (inl e) =
      subst (λ (ws : List Text). RunEnd ws (policy ∷ script ∷ []) (Some value)) (sym e)
      (spelled (λ a b c. RunEnd (codes "--workers" ∷ c ∷ a ∷ b ∷ []) (a ∷ b ∷ []) (Some c)) policy script value p s v
      (read name run_form (codes "--workers" ∷ (v.b ∷ v.bs) ∷ (p.b ∷ p.bs) ∷ (s.b ∷ s.bs) ∷ []) (Some (p.b ∷ p.bs)) (Some (s.b ∷ s.bs)) None None (Some (v.b ∷ v.bs))
      (apart_first_is_taken name p.b p.bs p.plain s.b s.bs s.plain v.b v.bs v.plain)))
  option_first policy script value words p s v (inr e) =
      subst (λ (ws : List Text). RunEnd ws (policy ∷ script ∷ []) (Some value)) (sym e)
      (spelled (λ a b c. RunEnd ((codes "--workers=" ++ c) ∷ a ∷ b ∷ []) (a ∷ b ∷ []) (Some c)) policy script value p s v
      (read name run_form ((codes "--workers=" ++ (v.b ∷ v.bs)) ∷ (p.b ∷ p.bs) ∷ (s.b ∷ s.bs) ∷ []) (Some (p.b ∷ p.bs)) (Some (s.b ∷ s.bs)) None None (Some (v.b ∷ v.bs))
      (joined_first_is_taken name p.b p.bs p.plain s.b s.bs s.plain v.b v.bs v.plain)))

  option_last : (policy script value : Text) (left : List Text) → IsPlainWord policy → IsPlainWord script → IsPlainWord value
      → IsOptionAt left value [] → RunEnd (policy ∷ script ∷ left) (policy ∷ script ∷ left) (Some value)
  option_last policy script value left p s v (inl e) =
      subst (λ (ws : List Text). RunEnd (policy ∷ script ∷ ws) (policy ∷ script ∷ ws) (Some value)) (sym e)
      (spelled (λ a b c. RunEnd (a ∷ b ∷ codes "--workers" ∷ c ∷ []) (a ∷ b ∷ codes "--workers" ∷ c ∷ []) (Some c)) policy script value p s v
      (read name run_form ((p.b ∷ p.bs) ∷ (s.b ∷ s.bs) ∷ codes "--workers" ∷ (v.b ∷ v.bs) ∷ []) (Some (p.b ∷ p.bs)) (Some (s.b ∷ s.bs)) None None (Some (v.b ∷ v.bs))
      (apart_last_is_taken name p.b p.bs p.plain s.b s.bs s.plain v.b v.bs v.plain)))
  option_last policy script value left p s v (inr e) =
      subst (λ (ws : List Text). RunEnd (policy ∷ script ∷ ws) (policy ∷ script ∷ ws) (Some value)) (sym e)
      (spelled (λ a b c. RunEnd (a ∷ b ∷ (codes "--workers=" ++ c) ∷ []) (a ∷ b ∷ (codes "--workers=" ++ c) ∷ []) (Some c)) policy script value p s v
      (read name run_form ((p.b ∷ p.bs) ∷ (s.b ∷ s.bs) ∷ (codes "--workers=" ++ (v.b ∷ v.bs)) ∷ []) (Some (p.b ∷ p.bs)) (Some (s.b ∷ s.bs)) None None (Some (v.b ∷ v.bs))
      (joined_last_is_taken name p.b p.bs p.plain s.b s.bs s.plain v.b v.bs v.plain)))

  -- the options after the files, if none is before them
  abbrev RunCut : List Text → Option Text → Option Text → List Text → Type 0
  RunCut words first second left = IsRead name run_form words (with_end run_form total words None (Ok (record { first = first; second = second }, left)))

  after_cut : (policy script : Text) (words left : List Text) → words ≡ policy ∷ script ∷ left → IsPlainWord policy → IsPlainWord script
      → (first second : Option Text) (rest : List Text) → OnGiven first second left rest → RunCut words first second rest
  after_cut policy script words left e p s first (Some value) rest h = absurd h
  after_cut policy script words left e p s first None (further ∷ rest) h = tt
  after_cut policy script words left e p s None None [] h =
      subst (λ (ws : List Text). RunEnd ws ws None) (sym (e ∙ ap (λ ws. policy ∷ script ∷ ws) h)) (run_end policy script p s)
  after_cut policy script words left e p s (Some value) None [] (number, h) =
      subst (λ (ws : List Text). RunEnd ws ws (Some value)) (sym e) (option_last policy script value left p s (number_is_plain 1 8 value number) h)

  -- no option before the files
  run_plain : (words : List Text) → IsRead name run_form words (with_places run_form total none_given words (cut_places (workers ∷ []) no_flags total run_form.places words))
  run_plain words = by (cut_places (workers ∷ []) no_flags total run_form.places words) (places_left (workers ∷ []) no_flags total run_form.places words)
    where
      after : (policy script : Text) (left : List Text) → words ≡ policy ∷ script ∷ left → IsPlainWord policy → IsPlainWord script → (cut : Cut) → OnCut left cut
          → IsRead name run_form words (with_end run_form total words None cut)
      after policy script left e p s (Err fault) h = tt
      after policy script left e p s (Ok cut) h = after_cut policy script words left e p s cut.0.first cut.0.second cut.1 h

      by : (placed : Result (List Text) Fault) → OnLeft run_form.places words placed → IsRead name run_form words (with_places run_form total none_given words placed)
      by (Err fault) h = tt
      by (Ok left) (policy, others, e, (p, kind), (script, rest, e2, (s, kind2), e3)) =
          after policy script left (e ∙ ap (λ ws. policy ∷ ws) (e2 ∙ ap (λ ws. script ∷ ws) e3)) p s (cut_all (workers ∷ []) none_given total left) (option_left total left)

  -- an option before them
  run_given : (value : Text) (words left : List Text) → is_number 1 8 value ≡ true → IsOptionAt words value left
      → IsRead name run_form words (with_places run_form total (given_as (Some value)) left (cut_places (workers ∷ []) some_flag total run_form.places left))
  run_given value words left number at = by (cut_places (workers ∷ []) some_flag total run_form.places left) (places_left (workers ∷ []) some_flag total run_form.places left)
    where
      ended : (rest : List Text) (policy script : Text) → left ≡ policy ∷ script ∷ rest → IsPlainWord policy → IsPlainWord script
          → IsRead name run_form words (with_end run_form total left None (Ok (given_as (Some value), rest)))
      ended (further ∷ rest) policy script e p s = tt
      ended [] policy script e p s =
          subst (λ (ws : List Text). RunEnd words ws (Some value)) (sym e)
          (option_first policy script value words p s (number_is_plain 1 8 value number) (subst (λ (ws : List Text). IsOptionAt words value ws) e at))

      by : (placed : Result (List Text) Fault) → OnLeft run_form.places left placed
          → IsRead name run_form words (with_places run_form total (given_as (Some value)) left placed)
      by (Err fault) h = tt
      by (Ok rest) (policy, others, e, (p, kind), (script, after, e2, (s, kind2), e3)) =
          subst (λ cut. IsRead name run_form words (with_end run_form total left None cut)) (sym (given_stays total value rest))
          (ended rest policy script (e ∙ ap (λ ws. policy ∷ ws) (e2 ∙ ap (λ ws. script ∷ ws) e3)) p s)

  run_read : (words : List Text) → IsRead name run_form words (read_after run_form total words)
  run_read words = by (cut_all (workers ∷ []) none_given total words) (option_left total words)
    where
      given : (first second : Option Text) (left : List Text) → OnGiven first second words left
          → IsRead name run_form words (with_options run_form total (Ok (record { first = first; second = second }, left)))
      given first (Some value) left h = absurd h
      given None None left e =
          subst (λ (ws : List Text). IsRead name run_form ws (with_places run_form total none_given left (cut_places (workers ∷ []) no_flags total run_form.places left))) (sym e)
          (run_plain left)
      given (Some value) None left (number, at) = run_given value words left number at

      by : (cut : Cut) → OnCut words cut → IsRead name run_form words (with_options run_form total cut)
      by (Err fault) h = tt
      by (Ok cut) h = given cut.0.first cut.0.second cut.1 h

-- ---- any form of the table

-- a form without options that has one of the four shapes
abbrev has_shape : List Place → Option Text → List Choice → Bool
has_shape (p ∷ []) None [] = true
has_shape (p ∷ s ∷ []) None [] = true
has_shape (p ∷ s ∷ []) (Some l) [] = true
has_shape (p ∷ s ∷ t ∷ []) None [] = true
has_shape _ _ _ = false

abbrev IsShaped : Form → Type 0
IsShaped form = ((are_due form.places ≡ true) × (has_shape form.places form.last form.options ≡ true)) ⊎ (form ≡ run_form)

-- each form of the table has a shape
shaped : (work : Work) → IsShaped (form_with work)
shaped (Threaded Run) = inr refl
shaped (Plain Check) = inl (refl, refl)
shaped work = inl (refl, refl)

is_shaped : (name : Text) (form : Form) → form_by name ≡ Some form → IsShaped form
is_shaped name form e = subst IsShaped (form_is name form e) (shaped form.work)

module _ (name : Text) (total : ℕ) (work : Work) (n does : Text) (help : Help) where
  abbrev shaped_as : List Place → Option Text → List Choice → Form
  shaped_as places last options = record { work = work; name = n; places = places; last = last; options = options; does = does; help = help }

  shape_read : (places : List Place) (last : Option Text) (options : List Choice) (words : List Text) → are_due places ≡ true → has_shape places last options ≡ true
      → IsRead name (shaped_as places last options) words (read_after (shaped_as places last options) total words)
  shape_read (p ∷ []) None [] words d h = one_read work n does help p (both (is_due p) true d).0 name total words
  shape_read (p ∷ s ∷ []) None [] words d h =
      let parts = both (is_due p) (is_due s && true) d in
      pair_read work n does help p s parts.0 (both (is_due s) true parts.1).0 name total words
  shape_read (p ∷ s ∷ []) (Some l) [] words d h =
      let parts = both (is_due p) (is_due s && true) d in
      two_read work n does l help p s parts.0 (both (is_due s) true parts.1).0 name total words
  shape_read (p ∷ s ∷ t ∷ []) None [] words d h =
      let parts = both (is_due p) (is_due s && (is_due t && true)) d in
      let others = both (is_due s) (is_due t && true) parts.1 in
      three_read work n does help p s t parts.0 others.0 (both (is_due t) true others.1).0 name total words
  shape_read [] last options words d h = absurd (true≢false (sym h))
  shape_read (p ∷ []) (Some l) options words d h = absurd (true≢false (sym h))
  shape_read (p ∷ []) None (choice ∷ options) words d h = absurd (true≢false (sym h))
  shape_read (p ∷ s ∷ []) None (choice ∷ options) words d h = absurd (true≢false (sym h))
  shape_read (p ∷ s ∷ []) (Some l) (choice ∷ options) words d h = absurd (true≢false (sym h))
  shape_read (p ∷ s ∷ t ∷ []) (Some l) options words d h = absurd (true≢false (sym h))
  shape_read (p ∷ s ∷ t ∷ []) None (choice ∷ options) words d h = absurd (true≢false (sym h))
  shape_read (p ∷ s ∷ t ∷ u ∷ places) last options words d h = absurd (true≢false (sym h))

  shape_is_simple : (places : List Place) (last : Option Text) (options : List Choice) → has_shape places last options ≡ true
      → is_simple (line_of (shaped_as places last options)) ≡ true
  shape_is_simple (p ∷ []) None [] h = one_is_simple
  shape_is_simple (p ∷ s ∷ []) None [] h = pair_is_simple
  shape_is_simple (p ∷ s ∷ []) (Some l) [] h = last_is_simple
  shape_is_simple (p ∷ s ∷ t ∷ []) None [] h = three_is_simple
  shape_is_simple [] last options h = absurd (true≢false (sym h))
  shape_is_simple (p ∷ []) (Some l) options h = absurd (true≢false (sym h))
  shape_is_simple (p ∷ []) None (choice ∷ options) h = absurd (true≢false (sym h))
  shape_is_simple (p ∷ s ∷ []) None (choice ∷ options) h = absurd (true≢false (sym h))
  shape_is_simple (p ∷ s ∷ []) (Some l) (choice ∷ options) h = absurd (true≢false (sym h))
  shape_is_simple (p ∷ s ∷ t ∷ []) (Some l) options h = absurd (true≢false (sym h))
  shape_is_simple (p ∷ s ∷ t ∷ []) None (choice ∷ options) h = absurd (true≢false (sym h))
  shape_is_simple (p ∷ s ∷ t ∷ u ∷ places) last options h = absurd (true≢false (sym h))

all_read : (name : Text) (total : ℕ) (form : Form) (words : List Text) → IsShaped form → IsRead name form words (read_after form total words)
all_read name total form words (inl h) = shape_read name total form.work form.name form.does form.help form.places form.last form.options words h.0 h.1
all_read name total form words (inr e) = subst (λ f. IsRead name f words (read_after f total words)) (sym e) (run_read name total words)

simple : (form : Form) → IsShaped form → is_simple (line_of form) ≡ true
simple form (inl h) = shape_is_simple [] 0 form.work form.name form.does form.help form.places form.last form.options h.1
simple form (inr e) = subst (λ f. is_simple (line_of f) ≡ true) (sym e) run_is_simple

-- of arguments after the name of a form that have values these are found
pub commands_are_read : (line : App) (name : Text) (form : Form) (total : ℕ) (words : List Text) (values : Values) (m : ArgMatches) → line ≡ line_of form
    → form_by name ≡ Some form → read_after form total words ≡ Ok values → HasMatchesOf line (name ∷ words) m
    → found_values form (first_value (found_of m)) ≡ values
commands_are_read line name form total words values m e listed ok read =
    let rows = (read (ap is_simple e ∙ simple form (is_shaped name form listed))).0 ∙ ap (λ a. matches_of a (name ∷ words)) e in
    let found : first_value (found_of m) ≡ row_values (matches_of (line_of form) (name ∷ words)) =
    λ i key. (first_value-rows (found_of m) key ∙ ap (first_of key) rows) i in
    ap (found_values form) found ∙ (subst (λ r. IsRead name form words r) ok (all_read name total form words (is_shaped name form listed)))

-- ---- arguments whose first is the name of the form

pub words_are_read : (line : App) (form : Form) (words : List Text) (m : ArgMatches) → line ≡ line_of form → IsCommandOf form words → HasMatchesOf line words m
    → HasValues form words (found_values form (first_value (found_of m)))
words_are_read line form [] m e command matches = absurd command
words_are_read line form (name ∷ words) m e (listed, ok) matches = by (read_by form words) refl ok
  where
    by : (result : Result Values Fault) → read_by form words ≡ result → IsOk result → read_by form words ≡ Ok (found_values form (first_value (found_of m)))
    by (Ok values) h k = h ∙ ap Ok (sym (commands_are_read line name form (suc (length words)) words values m e listed h matches))
    by (Err fault) h k = absurd (true≢false (sym k))

-- ---- the command that was found

-- arguments that were tested are a command, by how many there are
pub tested_are_command : (name : Text) (form : Form) (total : ℕ) (words : List Text) (tested : ⊤) → form_by name ≡ Some form → total ≡ suc (length words)
    → IsTested (read_after form total words) (Ok tested) → IsCommandOf form (name ∷ words)
tested_are_command name form total words tested listed count h = (listed, by (read_by form words) (subst (λ n. IsTested (read_after form n words) (Ok tested)) count h))
  where
    by : (result : Result Values Fault) → IsTested result (Ok tested) → IsOk result
    by (Ok values) k = refl
    by (Err fault) k = absurd k

-- and others have that fault
pub tested_are_fault : (name : Text) (form : Form) (total : ℕ) (words : List Text) (found : UsageFault) → form_by name ≡ Some form → total ≡ suc (length words)
    → IsTested (read_after form total words) (Err found) → command_of (name ∷ words) ≡ Err (fault_of found)
tested_are_fault name form total words found listed count h =
    ap (with_form words) listed ∙ by (read_by form words) (subst (λ n. IsTested (read_after form n words) (Err found)) count h)
  where
    by : (result : Result Values Fault) → IsTested result (Err found) → with_values form.work result ≡ Err (fault_of found)
    by (Ok values) k = absurd k
    by (Err fault) k = ap Err k

-- arguments that are a command are this one
pub command_is_found : (form : Form) (words : List Text) → IsCommandOf form words → command_of words ≡ Ok (command_in form words)
command_is_found form [] command = absurd command
command_is_found form (name ∷ words) (listed, ok) = ap (with_form words) listed ∙ by (read_by form words) ok
  where
    by : (result : Result Values Fault) → IsOk result → with_values form.work result ≡ Ok (record { work = form.work; values = values_or_none result })
    by (Ok values) k = refl
    by (Err fault) k = absurd (true≢false (sym k))

-- their numbers are within their bounds
pub numbers_are : (form : Form) (words : List Text) → IsCommandOf form words → HasNumbers (command_in form words)
numbers_are form [] command = absurd command
numbers_are form (name ∷ words) (listed, ok) = by (read_by form words) refl ok
  where
    by : (result : Result Values Fault) → read_by form words ≡ result → IsOk result → HasNumbers (record { work = form.work; values = values_or_none result })
    by (Ok values) e k =
        has_numbers (record { work = form.work; values = values })
        (subst (λ f. suits f values ≡ true) (sym (form_is name form listed)) (values_suit name form words values listed e))
    by (Err fault) e k = absurd (true≢false (sym k))

-- and their files are those that the form says
pub files_are : (form : Form) (words : List Text) (values : Values) → IsCommandOf form words → values ≡ values_in form words
    → files_by form values ≡ files_of (command_in form words)
files_are form [] values command e = absurd command
files_are form (name ∷ words) values (listed, ok) e = λ i. files_by (sym (form_is name form listed) i) (e i)
