-- Arguments that fit a list of kinds fit it place by place.
use Rattle.std.proofs.Common.{◌≡◌, ℕ, zero, suc, true, List, [], ◌∷◌, refl}
use Rattle.std.proofs.lemmas.Bool.{and_parts, false≢true}
use Rattle.std.specs.Prelude.{slice_index_or}
use Rattle.sb_call.specs.Arguments.{fits_kind, fit, FittingArgsAreOfTheirKinds}
use Rattle.sb_call.specs.Tags.{shape_of}
use Rattle.sb_call.specs.declared.arguments.Arg.{Arg}
use Rattle.sb_call.specs.declared.arguments.Arg.TheVariants as arg
use Rattle.sb_call.specs.declared.tags.ParamKind.{ParamKind}
use Rattle.sb_call.specs.declared.tags.ParamKind.TheVariants.{Handle}

fit_at : (ks : List ParamKind) (args : List Arg) → fit ks args ≡ true → (i : ℕ) → fits_kind (slice_index_or ks i Handle) (slice_index_or args i (arg.Num 0)) ≡ true
fit_at [] [] h i = refl
fit_at [] (a ∷ more) h i = absurd (false≢true h)
fit_at (k ∷ ks) [] h i = absurd (false≢true h)
fit_at (k ∷ ks) (a ∷ more) h zero = (and_parts (fits_kind k a) (fit ks more) h).0
fit_at (k ∷ ks) (a ∷ more) h (suc i) = fit_at ks more (and_parts (fits_kind k a) (fit ks more) h).1 i

pub fitting_args_are_of_their_kinds : FittingArgsAreOfTheirKinds
fitting_args_are_of_their_kinds tag args h i = fit_at (shape_of tag) args h i
