-- The arguments that are read for a call fit it.
use Rattle.std.proofs.Common.{◌≡◌, refl, subst, List, [], ◌∷◌, true, Ok}
use Rattle.std.proofs.lemmas.Bool.{and_from}
use Rattle.sb_call.specs.Arguments.{fits_kind, fit}
use Rattle.sb_call.specs.Tags.{shape_of}
use Rattle.sb_call.specs.declared.arguments.Arg.{Arg}
use Rattle.sb_call.specs.declared.arguments.Arg.TheVariants as arg
use Rattle.sb_call.specs.declared.tags.ParamKind.{ParamKind}
use Rattle.sb_call.specs.declared.tags.ParamKind.TheVariants.{Text, Name, Num, Handle}
use Rattle.sb_scripttext.proofs.Sound.{made, ok_same, in_range, below_32, named_well}
use Rattle.sb_scripttext.specs.Arguments.{most_32, arg_at, args_at}
use Rattle.sb_scripttext.specs.Laws.{ReadArgumentsFit}
use Rattle.sb_scripttext.specs.Steps.{number_at, number_within, string_at, name_at}
use Rattle.sb_text.specs.Steps.{◌>>=◌}
use Rattle.sb_scripttext.specs.declared.faults.ScriptKind.TheVariants.{WrongArgs}
use Rattle.sb_text.specs.Tokens.{Lexemes}
use Rattle.sb_text.specs.declared.refusals.WordFault.TheVariants.{Missing, Quoted, Unquoted}

arg_fits : (kind : ParamKind) (tokens : Lexemes) (x : Arg × Lexemes) → arg_at kind tokens ≡ Ok x → fits_kind kind x.0 ≡ true
unfolding arg_at
arg_fits Text tokens x h =
    let t = made (string_at (WrongArgs Unquoted) (WrongArgs Missing) tokens) (λ text. Ok (arg.Str text.0, text.1)) x h in
    subst (λ (y : Arg × Lexemes). fits_kind Text y.0 ≡ true) (ok_same (arg.Str t.0.0, t.0.1) x t.2) refl
arg_fits Name tokens x h =
    let n = made (name_at (WrongArgs Unquoted) (WrongArgs Missing) tokens) (λ name. Ok (arg.Str name.0, name.1)) x h in
    subst (λ (y : Arg × Lexemes). fits_kind Name y.0 ≡ true) (ok_same (arg.Str n.0.0, n.0.1) x n.2) (named_well (WrongArgs Unquoted) (WrongArgs Missing) tokens n.0 n.1)
arg_fits Num tokens x h =
    let n = made (number_within 0 most_32 (WrongArgs Quoted) (WrongArgs Missing) tokens) (λ number. Ok (arg.Num number.0, number.1)) x h in
    subst (λ (y : Arg × Lexemes). fits_kind Num y.0 ≡ true) (ok_same (arg.Num n.0.0, n.0.1) x n.2)
    (below_32 n.0.0 (in_range 0 most_32 (WrongArgs Quoted) (WrongArgs Missing) tokens n.0 n.1))
arg_fits Handle tokens x h =
    let n = made (number_at (WrongArgs Quoted) (WrongArgs Missing) tokens) (λ handle. Ok (arg.Num handle.0, handle.1)) x h in
    subst (λ (y : Arg × Lexemes). fits_kind Handle y.0 ≡ true) (ok_same (arg.Num n.0.0, n.0.1) x n.2) refl

args_fit : (kinds : List ParamKind) (tokens : Lexemes) (x : List Arg × Lexemes) → args_at kinds tokens ≡ Ok x → fit kinds x.0 ≡ true
unfolding args_at
args_fit [] tokens x h = subst (λ (y : List Arg × Lexemes). fit [] y.0 ≡ true) (ok_same ([], tokens) x h) refl
args_fit (kind ∷ kinds) tokens x h =
    let a = made (arg_at kind tokens) (λ first. args_at kinds first.1 >>= λ others. Ok (first.0 ∷ others.0, others.1)) x h in
    let o = made (args_at kinds a.0.1) (λ others. Ok (a.0.0 ∷ others.0, others.1)) x a.2 in
    subst (λ (y : List Arg × Lexemes). fit (kind ∷ kinds) y.0 ≡ true) (ok_same (a.0.0 ∷ o.0.0, o.0.1) x o.2)
    (and_from _ _ (arg_fits kind tokens a.0 a.1) (args_fit kinds a.0.1 o.0 o.1))

pub read_arguments_fit : ReadArgumentsFit
read_arguments_fit tag tokens rest args h = args_fit (shape_of tag) tokens (args, rest) h
