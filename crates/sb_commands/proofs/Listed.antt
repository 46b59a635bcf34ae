-- What is true of each form of the table.
use Rattle.std.proofs.Common.{◌≡◌, refl, ap, subst, true, false, Bool, List, [], ◌∷◌, Option, Some, None, nat_eq, map, if◌then◌else◌, ◌&&◌}
use Rattle.std.specs.Prelude.{⊤, ℕ, nat_lt, ◌^◌}
use Rattle.std.specs.List.{list_all}
use Rattle.std.specs.Cmp.Lexicographic.{pointwise}
use Rattle.clap.specs.Words.{Text}
use Rattle.sb_glyphs.proofs.CleanLaws.{is_plain}
use Rattle.sb_commands.specs.Forms.{Choice, Form, Kind, Place, Switch, Takes, form_by, form_in, form_with, works}
use Rattle.sb_commands.specs.NumberWords.{is_within}
use Rattle.sb_commands.specs.Usage.{place_name}
use Rattle.sb_commands.specs.declared.works.PlainWork.TheVariants.{Check}
use Rattle.sb_commands.specs.declared.works.ThreadedWork.TheVariants.{Run}
use Rattle.sb_commands.specs.declared.works.Work.{Work}
use Rattle.sb_commands.specs.declared.works.Work.TheVariants.{Plain, Threaded}

-- ---- names

pub work_of : (work : Work) → (form_with work).work ≡ work
work_of (Plain Check) = refl
work_of (Threaded Run) = refl
work_of work = refl

-- each form is found by its name
pub listed : (work : Work) → form_by (form_with work).name ≡ Some (form_with work)
listed (Plain Check) = refl
listed (Threaded Run) = refl
listed work = refl

-- and a form that is found is that of its work
abbrev OnFound : Option Form → Type 0
OnFound None = ⊤
OnFound (Some form) = form_with form.work ≡ form

found : (ws : List Work) (name : Text) → OnFound (form_in (map form_with ws) name)
found [] name = tt
found (work ∷ ws) name = by (pointwise nat_eq name (form_with work).name) (found ws name)
  where
    by : (test : Bool) → OnFound (form_in (map form_with ws) name) → OnFound (if test then Some (form_with work) else form_in (map form_with ws) name)
    by true h = ap form_with (work_of work)
    by false h = h

pub form_is : (name : Text) (form : Form) → form_by name ≡ Some form → form_with form.work ≡ form
form_is name form e = subst OnFound e (found works name)

-- ---- places and options

-- There are at most three places, and at most one option, which is not alone. It takes a number of 64 bits, and the one that counts if it is not given is within
-- its bounds
abbrev pub is_short : List Place → Bool
is_short [] = true
is_short (p ∷ []) = true
is_short (p ∷ s ∷ []) = true
is_short (p ∷ s ∷ t ∷ []) = true
is_short _ = false

abbrev pub fits_kind : Kind → Option ℕ → Bool
fits_kind (Takes number) (Some default) = is_within number.low number.high (Some default) && nat_lt number.high (2 ^ 64)
fits_kind (Takes number) None = false
fits_kind Switch default = false

abbrev pub fits_options : List Choice → List Place → Bool
fits_options [] places = true
fits_options (choice ∷ []) [] = false
fits_options (choice ∷ []) (place ∷ places) = fits_kind choice.kind choice.default
fits_options (choice ∷ other ∷ options) places = false

abbrev pub is_regular : Form → Bool
is_regular form = is_short form.places && fits_options form.options form.places

pub regular : (work : Work) → is_regular (form_with work) ≡ true
regular (Plain Check) = refl
regular (Threaded Run) = refl
regular work = refl

-- ---- characters

-- the names of a form are of plain characters
abbrev pub is_plain_place : Place → Bool
is_plain_place place = list_all is_plain (place_name place)

abbrev pub is_plain_name : Option Text → Bool
is_plain_name None = true
is_plain_name (Some name) = list_all is_plain name

abbrev pub is_plain_kind : Kind → Bool
is_plain_kind Switch = true
is_plain_kind (Takes number) = list_all is_plain number.name

abbrev pub is_plain_choice : Choice → Bool
is_plain_choice choice = list_all is_plain choice.flag && is_plain_kind choice.kind

abbrev pub is_plain_form : Form → Bool
is_plain_form form = list_all is_plain_place form.places && (is_plain_name form.last && list_all is_plain_choice form.options)

pub plain_form : (work : Work) → is_plain_form (form_with work) ≡ true
plain_form (Plain Check) = refl
plain_form (Threaded Run) = refl
plain_form work = refl
