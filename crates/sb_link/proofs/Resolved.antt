-- Arguments whose names are resolved.
use Rattle.std.proofs.Common.{◌≡◌, ◌∙◌, ℕ, ◌+◌, ◌^◌, ◌<◌, true, List, [], ◌∷◌, ◌++◌, length, Option, None, Some, Result, Ok, Err, refl, subst, ap, sym, arith}
use Rattle.std.specs.Prelude.{IfOk, option_map}
use Rattle.std.proofs.lemmas.Bool.{and_parts, false≢true}
use Rattle.std.proofs.lemmas.List.{append_assoc, append-nil}
use Rattle.sb_block.specs.Calls.{called, decoded}
use Rattle.sb_block.specs.Copies.{Copied}
use Rattle.sb_block.specs.declared.calls.Call.{Call}
use Rattle.sb_call.specs.Arguments.{fit, fits, fits_kind}
use Rattle.sb_call.specs.Tags.{shape_of}
use Rattle.sb_call.specs.declared.arguments.Arg.{Arg}
use Rattle.sb_call.specs.declared.arguments.Arg.TheVariants as arg
use Rattle.sb_call.specs.declared.tags.CallTag.{CallTag}
use Rattle.sb_call.specs.declared.tags.CallTag.TheVariants.{Ping, FileCreate, FileOpen, FileQuery, FileRename, PipeCreate, KeyCreate, KeyOpen, EventCreate, EventOpen, HandleClose}
use Rattle.sb_call.specs.declared.tags.ParamKind.{ParamKind}
use Rattle.sb_call.specs.declared.tags.ParamKind.TheVariants.{Text, Name, Num, Handle}
use Rattle.sb_text.specs.Steps.{◌>>=◌, on_value}
use Rattle.sb_link.specs.Answers.{AreResolved, IsResolvedArg, IsResolvedCall, copy_of, resolved_arg, resolved_args, resolved_copy, resolved_from}
use Rattle.sb_link.specs.Links.{AreLinks}
use Rattle.sb_link.specs.Resolution.{resolve}
use Rattle.sb_link.specs.declared.links.Link.{Link}
use Rattle.sb_link.specs.declared.stops.Stop.{Stop}
use Rattle.sb_link.specs.declared.stops.Stop.TheVariants.{Loop}
use Rattle.sb_link.proofs.Adding.{both}
use Rattle.sb_link.proofs.Named.{names_resolve}
use Rattle.sb_link.proofs.Steps.{of_some, none_is_none, resolved_names_stay}

pub shapes_are_short : (tag : CallTag) → length (shape_of tag) < 2 ^ 32
shapes_are_short Ping = omega arith
shapes_are_short FileCreate = omega arith
shapes_are_short FileOpen = omega arith
shapes_are_short FileQuery = omega arith
shapes_are_short FileRename = omega arith
shapes_are_short PipeCreate = omega arith
shapes_are_short KeyCreate = omega arith
shapes_are_short KeyOpen = omega arith
shapes_are_short EventCreate = omega arith
shapes_are_short EventOpen = omega arith
shapes_are_short HandleClose = omega arith

-- ---- one argument

-- what is true of what an argument resolves to
abbrev Passes : List Link → ParamKind → Arg → Type 0
Passes links kind a = (fits_kind kind a ≡ true) × IsResolvedArg links kind a

text_passes : (links : List Link) (a b : Arg) → fits_kind Text a ≡ true → resolved_arg links Text a ≡ Some b → Passes links Text b
text_passes links a b h e = (subst (λ x. fits_kind Text x ≡ true) (of_some a b e) h, tt)

number_passes : (links : List Link) (a b : Arg) → fits_kind Num a ≡ true → resolved_arg links Num a ≡ Some b → Passes links Num b
number_passes links a b h e = (subst (λ x. fits_kind Num x ≡ true) (of_some a b e) h, tt)

handle_passes : (links : List Link) (a b : Arg) → fits_kind Handle a ≡ true → resolved_arg links Handle a ≡ Some b → Passes links Handle b
handle_passes links a b h e = (subst (λ x. fits_kind Handle x ≡ true) (of_some a b e) h, tt)

name_passes : (links : List Link) (a b : Arg) → AreLinks links → fits_kind Name a ≡ true → resolved_arg links Name a ≡ Some b → Passes links Name b
name_passes links (arg.Num number) b are h e = absurd (false≢true h)
name_passes links (arg.Str name) b are h e = by (resolve links name) refl
  where
    by : (r : Option (List ℕ)) → resolve links name ≡ r → Passes links Name b
    by None f = absurd (none_is_none b (sym (ap (option_map arg.Str) f) ∙ e))
    by (Some other) f =
        subst (Passes links Name) (of_some (arg.Str other) b (sym (ap (option_map arg.Str) f) ∙ e))
        (names_resolve links name other are h f, (resolved_names_stay links name other f).1)

arg_passes : (links : List Link) (kind : ParamKind) (a b : Arg) → AreLinks links → fits_kind kind a ≡ true → resolved_arg links kind a ≡ Some b → Passes links kind b
arg_passes links Text a b are h e = text_passes links a b h e
arg_passes links Name a b are h e = name_passes links a b are h e
arg_passes links Num a b are h e = number_passes links a b h e
arg_passes links Handle a b are h e = handle_passes links a b h e

-- ---- all arguments

abbrev AllPass : List Link → List ParamKind → List Arg → Type 0
AllPass links kinds args = (fit kinds args ≡ true) × AreResolved links kinds args

pub of_ok : {A E : Type 0} (x y : A) → ◌≡◌ {A = Result A E} (Ok x) (Ok y) → x ≡ y
of_ok x y e = cc

pub err_is_err : {A E : Type 0} (x : A) (e : E) → ◌≡◌ {A = Result A E} (Err e) (Ok x) → ⊥
err_is_err x e h = cc

-- what follows an argument
abbrev pub after_arg : List Link → ℕ → List ParamKind → List Arg → Option Arg → Result (List Arg) Stop
after_arg links i kinds args found = elim found [
  | None ↦ Err (Loop i)
  | Some other ↦ on_value (λ others. other ∷ others) (resolved_from links (i + 1) kinds args)
]

all_pass : (links : List Link) (i : ℕ) (kinds : List ParamKind) (args others : List Arg) → AreLinks links → fit kinds args ≡ true
    → resolved_from links i kinds args ≡ Ok others → AllPass links kinds others
all_pass links i [] [] others are h e = subst (AllPass links []) (of_ok [] others e) (refl, tt)
all_pass links i [] (a ∷ args) others are h e = absurd (false≢true h)
all_pass links i (kind ∷ kinds) [] others are h e = absurd (false≢true h)
all_pass links i (kind ∷ kinds) (a ∷ args) others are h e = by (all_pass links (i + 1) kinds args) (resolved_arg links kind a) refl
  where
    parts : (fits_kind kind a ≡ true) × (fit kinds args ≡ true)
    parts = and_parts (fits_kind kind a) (fit kinds args) h

    then : (b : Arg) → Passes links kind b → (rest : Result (List Arg) Stop) → resolved_from links (i + 1) kinds args ≡ rest
        → ((more : List Arg) → AreLinks links → fit kinds args ≡ true → resolved_from links (i + 1) kinds args ≡ Ok more → AllPass links kinds more)
        → on_value (λ others. b ∷ others) rest ≡ Ok others → AllPass links (kind ∷ kinds) others
    then b p (Ok more) f less g =
        let later = less more are parts.1 f in
        subst (AllPass links (kind ∷ kinds)) (of_ok (b ∷ more) others g) (both (fits_kind kind b) (fit kinds more) p.0 later.0, (p.1, later.1))
    then b p (Err stop) f less g = absurd (err_is_err others stop g)

    by : ((more : List Arg) → AreLinks links → fit kinds args ≡ true → resolved_from links (i + 1) kinds args ≡ Ok more → AllPass links kinds more)
        → (found : Option Arg) → resolved_arg links kind a ≡ found → AllPass links (kind ∷ kinds) others
    by less None f = absurd (err_is_err others (Loop i) (sym (ap (after_arg links i kinds args) f) ∙ e))
    by less (Some b) f =
        then b (arg_passes links kind a b are parts.0 f) (resolved_from links (i + 1) kinds args) refl less (sym (ap (after_arg links i kinds args) f) ∙ e)

pub resolved_fit : (links : List Link) (tag : CallTag) (args others : List Arg) → AreLinks links → fits tag args ≡ true
    → resolved_args links tag args ≡ Ok others → fits tag others ≡ true
resolved_fit links tag args others are h e = (all_pass links 0 (shape_of tag) args others are h e).0

pub names_resolved : (links : List Link) (tag : CallTag) (args others : List Arg) → AreLinks links → fits tag args ≡ true
    → resolved_args links tag args ≡ Ok others → AreResolved links (shape_of tag) others
names_resolved links tag args others are h e = (all_pass links 0 (shape_of tag) args others are h e).1

-- the copy of a call whose arguments resolve to these
pub resolved_then : (links : List Link) (call : Call) (args : List Arg) (copy : Copied) → resolved_args links call.tag call.args ≡ Ok args
    → copy_of call.tag call.mark args ≡ Ok copy → resolved_copy links call ≡ Ok copy
resolved_then links call args copy e f = ap (λ r. r >>= copy_of call.tag call.mark) e ∙ f

-- ---- the loop that resolves arguments

-- arguments that were resolved before these
abbrev pub after : List Arg → Result (List Arg) Stop → Result (List Arg) Stop
after done others = on_value (λ more. done ++ more) others

after_none : (others : Result (List Arg) Stop) → after [] others ≡ others
after_none (Ok others) = refl
after_none (Err stop) = refl

one_then : (done : List Arg) (b : Arg) (others : Result (List Arg) Stop) → after done (on_value (λ more. b ∷ more) others) ≡ after (done ++ b ∷ []) others
one_then done b (Ok others) = ap (λ l. Ok l) (sym (append_assoc done (b ∷ []) others))
one_then done b (Err stop) = refl

pub one_resolved : (links : List Link) (i : ℕ) (kind : ParamKind) (kinds : List ParamKind) (a b : Arg) (args done : List Arg) → resolved_arg links kind a ≡ Some b
    → after done (resolved_from links i (kind ∷ kinds) (a ∷ args)) ≡ after (done ++ b ∷ []) (resolved_from links (i + 1) kinds args)
one_resolved links i kind kinds a b args done e =
    ap (λ f. after done (after_arg links i kinds args f)) e ∙ one_then done b (resolved_from links (i + 1) kinds args)

pub none_resolved : (links : List Link) (i : ℕ) (kind : ParamKind) (kinds : List ParamKind) (a : Arg) (args done : List Arg) → resolved_arg links kind a ≡ None
    → after done (resolved_from links i (kind ∷ kinds) (a ∷ args)) ≡ Err (Loop i)
none_resolved links i kind kinds a args done e = ap (λ f. after done (after_arg links i kinds args f)) e

pub no_args : (links : List Link) (i : ℕ) (kind : ParamKind) (kinds : List ParamKind) (done : List Arg) → after done (resolved_from links i (kind ∷ kinds) []) ≡ Ok done
no_args links i kind kinds done = ap (λ l. Ok l) (append-nil done)

pub no_kinds : (links : List Link) (i : ℕ) (args done : List Arg) → after done (resolved_from links i [] args) ≡ Ok done
no_kinds links i args done = ap (λ l. Ok l) (append-nil done)

pub at_first : (links : List Link) (kinds : List ParamKind) (args : List Arg) → after [] (resolved_from links 0 kinds args) ≡ resolved_from links 0 kinds args
at_first links kinds args = after_none (resolved_from links 0 kinds args)
