-- What a command comes to, by its work and its values.
use Rattle.std.proofs.Common.{◌≡◌, ◌∙◌, List, [], ◌∷◌, map, Option, None, Some, ℕ, refl, subst, sym}
use Rattle.std.specs.Borrow.{Bor}
use Rattle.std.specs.Prelude.{IsSome, Result}
use Rattle.sb_commands.specs.Commands.{Command, files_by, files_of, plain_files, threaded_files}
use Rattle.sb_commands.specs.Forms.{form_with}
use Rattle.sb_commands.specs.Usage.{Values}
use Rattle.sb_commands.specs.declared.works.PlainWork.{PlainWork}
use Rattle.sb_commands.specs.declared.works.PlainWork.TheVariants.{Audit, Check, Dup, Linked, Local, Replay}
use Rattle.sb_commands.specs.declared.works.ThreadedWork.{ThreadedWork}
use Rattle.sb_commands.specs.declared.works.ThreadedWork.TheVariants.{Make, Run}
use Rattle.sb_commands.specs.declared.works.Work.{Work}
use Rattle.sb_commands.specs.declared.works.Work.TheVariants as work
use Rattle.sb_outside.specs.Outside.{Held}
use Rattle.sb_plain.specs.Contents.{FileContent, ShownRefusal}
use Rattle.sb_plain.specs.Ends.{OnThreads, Plain}
use Rattle.sb_plain.specs.Readings.{IsFoundBy, ReportedEnd}
use Rattle.sb_plain.specs.ScriptEnds.{IsWithScript, may_be_named}
use Rattle.sb_top.specs.Top.{HasFiles, HasThreadedFiles, meaning_by, meaning_of, plain_meaning, threaded_meaning}

-- ---- a command has as many files as it reads

with_last : (first second : List ℕ) (last : Option (List ℕ)) → IsWithScript may_be_named (files_by (form_with (work.Plain Replay)) (record { first = first; second = second; third = []; last = last; first_option = None; second_option = None }))
with_last first second None = tt
with_last first second (Some name) = λ text. tt

pub plain_fits : (plain : PlainWork) (values : Values) → HasFiles plain (plain_files plain values)
plain_fits Check values = tt
plain_fits Replay values = with_last values.first values.second values.last
plain_fits Linked values = λ text. refl
plain_fits Dup values = λ text. refl
plain_fits Local values = with_last values.first values.second values.last
plain_fits Audit values = λ text. refl

pub threaded_fits : (threaded : ThreadedWork) (values : Values) → HasThreadedFiles threaded (threaded_files threaded values)
threaded_fits Run values = refl
threaded_fits Make values = refl

-- none that runs without threads has no files
pub never_none : (plain : PlainWork) (names : List (List ℕ)) → HasFiles plain names → names ≡ [] → ⊥
never_none Check names h e = subst (λ (n : List (List ℕ)). HasFiles Check n) e h
never_none Replay names h e = subst (λ (n : List (List ℕ)). HasFiles Replay n) e h
never_none Linked names h e = subst (λ (n : List (List ℕ)). HasFiles Linked n) e h
never_none Dup names h e = subst (λ (n : List (List ℕ)). HasFiles Dup n) e h
never_none Local names h e = subst (λ (n : List (List ℕ)). HasFiles Local n) e h
never_none Audit names h e = subst (λ (n : List (List ℕ)). HasFiles Audit n) e h

-- no names are none as they are seen
pub no_names : (names : List (Bor (List ℕ))) → map (λ name. name.now) names ≡ [] → names ≡ []
no_names [] e = refl
no_names (name ∷ names) e = cc

-- ---- a command by its work

module _ (command : Command) where
  of_command : (P : Work → Type 0) (w : Work) → command.work ≡ w → P w → P command.work
  of_command P w is h = subst P (sym is) h

  pub has_plain_files : (plain : PlainWork) (names : List (List ℕ)) → command.work ≡ work.Plain plain → names ≡ files_of command → HasFiles plain names
  has_plain_files plain names is same =
      subst (λ n. HasFiles plain n) (sym (same ∙ (λ i. files_by (form_with (is i)) command.values))) (plain_fits plain command.values)

  pub has_threaded_files : (threaded : ThreadedWork) (names : List (List ℕ)) → command.work ≡ work.Threaded threaded → names ≡ files_of command
      → HasThreadedFiles threaded names
  has_threaded_files threaded names is same =
      subst (λ n. HasThreadedFiles threaded n) (sym (same ∙ (λ i. files_by (form_with (is i)) command.values))) (threaded_fits threaded command.values)

  -- what it comes to
  pub plain_found : (plain : PlainWork) (names : List (List ℕ)) (held : Option Held) (found : Result ReportedEnd ShownRefusal) → command.work ≡ work.Plain plain
      → names ≡ files_of command → IsFoundBy (Plain (plain_meaning plain)) names held found → IsFoundBy (meaning_of command) (files_of command) held found
  plain_found plain names held found is same h =
      subst (λ n. IsFoundBy (meaning_of command) n held found) same
      (of_command (λ w. IsFoundBy (meaning_by w command.values) names held found) (work.Plain plain) is h)

  pub threaded_found : (threaded : ThreadedWork) (values : Values) (names : List (List ℕ)) (held : Option Held) (found : Result ReportedEnd ShownRefusal)
      → command.work ≡ work.Threaded threaded → values ≡ command.values → names ≡ files_of command
      → IsFoundBy (OnThreads (threaded_meaning threaded values)) names held found → IsFoundBy (meaning_of command) (files_of command) held found
  threaded_found threaded values names held found is same_values same h =
      subst (λ n. IsFoundBy (meaning_of command) n held found) same
      (of_command (λ w. IsFoundBy (meaning_by w command.values) names held found) (work.Threaded threaded) is
      (subst (λ v. IsFoundBy (OnThreads (threaded_meaning threaded v)) names held found) same_values h))
