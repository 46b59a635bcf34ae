-- The arguments of a call that fit are of its kinds.
use Rattle.std.proofs.Common.{◌≡◌, ◌<◌, ℕ, true, List, arith, subst}
use Rattle.std.proofs.lemmas.Bool.{false≢true}
use Rattle.std.proofs.lemmas.Bool.Decides.{nat_tests}
use Rattle.std.specs.Prelude.{◌^◌, nat_lt}
use Rattle.sb_base.specs.Names.{is_name_of}
use Rattle.sb_call.specs.Arguments.{FittingArgsAreOfTheirKinds, arg_at, fits, fits_kind, kind_at}
use Rattle.sb_call.specs.declared.arguments.Arg.{Arg}
use Rattle.sb_call.specs.declared.arguments.Arg.TheVariants as arg
use Rattle.sb_call.specs.declared.tags.CallTag.{CallTag}
use Rattle.sb_call.specs.declared.tags.ParamKind.TheVariants as kind
use Rattle.sb_kernel.specs.Requests.{number_at, number_in, units_at, units_in}

-- a name is a name
pub fitting_name : FittingArgsAreOfTheirKinds → (tag : CallTag) (args : List Arg) (place : ℕ) → fits tag args ≡ true → kind_at tag place ≡ kind.Name
    → is_name_of (units_at args place) ≡ true
fitting_name kinds tag args place fit is = by (arg_at args place) (subst (λ k. fits_kind k (arg_at args place) ≡ true) is (kinds tag args fit place))
  where
    by : (a : Arg) → fits_kind kind.Name a ≡ true → is_name_of (units_in a) ≡ true
    by (arg.Num number) h = absurd (false≢true h)
    by (arg.Str text) h = h

-- a number is below 2^32
pub fitting_number : FittingArgsAreOfTheirKinds → (tag : CallTag) (args : List Arg) (place : ℕ) → fits tag args ≡ true → kind_at tag place ≡ kind.Num
    → nat_lt (number_at args place) (2 ^ 32) ≡ true
fitting_number kinds tag args place fit is = by (arg_at args place) (subst (λ k. fits_kind k (arg_at args place) ≡ true) is (kinds tag args fit place))
  where
    by : (a : Arg) → fits_kind kind.Num a ≡ true → nat_lt (number_in a) (2 ^ 32) ≡ true
    by (arg.Num number) h = h
    by (arg.Str text) h = absurd (false≢true h)

pub fitting_bits : FittingArgsAreOfTheirKinds → (tag : CallTag) (args : List Arg) (place : ℕ) → fits tag args ≡ true → kind_at tag place ≡ kind.Num
    → number_at args place < 2 ^ 32
fitting_bits kinds tag args place fit is =
    let small = fitting_number kinds tag args place fit is in
    grind (arith, nat_tests, small)
