-- How the next argument is cut that is an option.
use Rattle.std.proofs.Common.{◌≡◌, ◌∙◌, refl, sym, ap, subst, false, true≢false, ℕ, ◌≤◌, List, [], ◌∷◌, Option, None, Some, arith, length, map}
use Rattle.std.specs.Prelude.{zero, suc, IsErrAnd, Result, Ok, Err, is_some, String}
use Rattle.std.specs.Borrow.{Bor}
use Rattle.std.specs.declared.alloc.Global.{Global}
use Rattle.sb_commands.specs.Forms.{Choice, choice_of}
use Rattle.sb_commands.specs.declared.forms.FormOption.{FormOption}
use Rattle.sb_text.specs.Steps.{◌>>=◌}
use Rattle.sb_commands.specs.Usage.{Cut, Fault, Given, IsCut, Value, cut_all, cut_found, cut_new, cut_option, cut_value, fault_of, flags_of, give, given_at, is_given, left_of, option_of, texts, with_given}
use Rattle.sb_commands.specs.declared.usage.GivenOptions.{GivenOptions}
use Rattle.sb_commands.specs.declared.usage_faults.UsageFault.{UsageFault}
use Rattle.sb_commands.proofs.ReadSteps.{gave}

-- a fault that is handed on
pub handed : (wanted : Cut) (r : Result (GivenOptions × Bor (List (String Global))) UsageFault) (fault : UsageFault) → IsErrAnd r (λ e. e ≡ fault) → IsCut wanted (Err fault) → IsCut wanted r
handed wanted (Ok x) fault h k = absurd h
handed wanted (Err e) fault h k = subst (λ (f : UsageFault). IsCut wanted (Err f)) (sym h) k

not_given : (n : ℕ) (g : Given) → is_given n (flags_of g) ≡ false → given_at n g ≡ None
not_given zero g h = by g.first h
  where
    by : (word : Option (List ℕ)) → is_some word ≡ false → word ≡ None
    by None k = refl
    by (Some word) k = absurd (true≢false k)
not_given (suc n) g h = by g.second h
  where
    by : (word : Option (List ℕ)) → is_some word ≡ false → word ≡ None
    by None k = refl
    by (Some word) k = absurd (true≢false k)

given_more : (n : ℕ) (word : List ℕ) (g : Given) → flags_of (give n word g) ≡ with_given n (flags_of g)
given_more zero word g = refl
given_more (suc n) word g = refl

module _ (choices : List Choice) (g : Given) (total : ℕ) (word : List ℕ) (later : List (List ℕ)) (n : ℕ) (choice : Choice) where
  abbrev value : Value
  value = cut_value choice total word later

  cut_is : option_of choices word ≡ Some (n, choice) → is_given n (flags_of g) ≡ false → cut_option choices g total (word ∷ later) ≡ gave g n value
  cut_is e new =
      ap (cut_found g total word later) e ∙ ap (cut_new g total (word ∷ later) n choice word later) (not_given n g new)

  -- its number is wrong
  pub cut_refused : (found : UsageFault) → option_of choices word ≡ Some (n, choice) → is_given n (flags_of g) ≡ false → left_of value ≡ Err (fault_of found)
      → IsCut (cut_option choices g total (word ∷ later)) (Err found)
  cut_refused found e new left = subst (λ (cut : Cut). IsCut cut (Err found)) (sym (cut_is e new)) (by value left)
    where
      by : (v : Value) → left_of v ≡ Err (fault_of found) → IsCut (gave g n v) (Err found)
      by (Ok cut) h = cc
      by (Err fault) h = cc

  -- it is cut
  pub cut_made : (flags : GivenOptions) (left : Bor (List (String Global))) → option_of choices word ≡ Some (n, choice) → is_given n (flags_of g) ≡ false
      → left_of value ≡ Ok (texts left.now) → flags ≡ with_given n (flags_of g) → IsCut (cut_option choices g total (word ∷ later)) (Ok (flags, left))
  cut_made flags left e new is given = subst (λ (cut : Cut). IsCut cut (Ok (flags, left))) (sym (cut_is e new)) (by value is)
    where
      same : (a b : List (List ℕ)) → ◌≡◌ {A = Result (List (List ℕ)) Fault} (Ok a) (Ok b) → a ≡ b
      same a b h = cc

      by : (v : Value) → left_of v ≡ Ok (texts left.now) → IsCut (gave g n v) (Ok (flags, left))
      by (Ok cut) h = (given_more n cut.0 g ∙ sym given, same cut.1 (texts left.now) h)
      by (Err fault) h = cc

-- two options are cut one after the other
pub two_cut : (options : List FormOption) → 2 ≤ length options → (g : Given) (total : ℕ) (words : List (List ℕ))
    → cut_all (map choice_of options) g total words ≡ (cut_option (map choice_of options) g total words >>= λ cut. cut_option (map choice_of options) cut.0 total cut.1)
two_cut [] l g total words = absurd (omega (arith, l))
two_cut (first ∷ []) l g total words = absurd (omega (arith, l))
two_cut (first ∷ second ∷ options) l g total words = refl

pub cut_again : (choices : List Choice) (g : Given) (total : ℕ) (words : List (List ℕ)) (flags : GivenOptions) (left : Bor (List (String Global)))
    (r : Result (GivenOptions × Bor (List (String Global))) UsageFault) → IsCut (cut_option choices g total words) (Ok (flags, left))
    → ((h : Given) → flags_of h ≡ flags → IsCut (cut_option choices h total (texts left.now)) r)
    → IsCut (cut_option choices g total words >>= λ cut. cut_option choices cut.0 total cut.1) r
cut_again choices g total words flags left r is then = by (cut_option choices g total words) is
  where
    by : (cut : Cut) → IsCut cut (Ok (flags, left)) → IsCut (cut >>= λ c. cut_option choices c.0 total c.1) r
    by (Ok (given, rest)) k = subst (λ ws. IsCut (cut_option choices given total ws) r) (sym k.1) (then given k.0)
    by (Err fault) k = absurd k
