-- Which arguments fit a call.
use Rattle.std.specs.Prelude.{◌≡◌, ◌^◌, ◌&&◌, ℕ, Bool, true, false, nat_lt, List, [], ◌∷◌, length, slice_index_or}
use Rattle.sb_base.specs.Names.{is_name_of}
use Rattle.sb_call.specs.Tags.{shape_of}
use Rattle.sb_call.specs.declared.arguments.Arg.{Arg}
use Rattle.sb_call.specs.declared.arguments.Arg.TheVariants as arg
use Rattle.sb_call.specs.declared.tags.CallTag.{CallTag}
use Rattle.sb_call.specs.declared.tags.ParamKind.{ParamKind}
use Rattle.sb_call.specs.declared.tags.ParamKind.TheVariants.{Text, Name, Num, Handle}

-- a text is any string, a name a string that is a name, a number one below 2^32, and a handle any number
abbrev pub fits_kind : ParamKind → Arg → Bool
fits_kind Text (arg.Str text) = true
fits_kind Name (arg.Str text) = is_name_of text
fits_kind Num (arg.Num number) = nat_lt number (2 ^ 32)
fits_kind Handle (arg.Num number) = true
fits_kind _ _ = false

-- there are as many arguments as kinds, and each is of its kind
abbrev pub fit : List ParamKind → List Arg → Bool
fit [] [] = true
fit [] (a ∷ more) = false
fit (k ∷ ks) [] = false
fit (k ∷ ks) (a ∷ more) = fits_kind k a && fit ks more

-- the arguments are those of a call
abbrev pub fits : CallTag → List Arg → Bool
fits tag args = fit (shape_of tag) args

-- the argument at a place, and a number if there is none
abbrev pub arg_at : List Arg → ℕ → Arg
arg_at args i = slice_index_or args i (arg.Num 0)

-- the kind of a parameter, and a handle if there is none
abbrev pub kind_at : CallTag → ℕ → ParamKind
kind_at tag i = slice_index_or (shape_of tag) i Handle

-- arguments that fit a call are as many as its parameters
abbrev pub FittingArgsAreAsMany : Type 0
FittingArgsAreAsMany = (tag : CallTag) (args : List Arg) → fits tag args ≡ true → length args ≡ length (shape_of tag)

-- and each is of the kind of its parameter; past the end the two defaults fit each other
abbrev pub FittingArgsAreOfTheirKinds : Type 0
FittingArgsAreOfTheirKinds = (tag : CallTag) (args : List Arg) → fits tag args ≡ true
    → (i : ℕ) → fits_kind (kind_at tag i) (arg_at args i) ≡ true
