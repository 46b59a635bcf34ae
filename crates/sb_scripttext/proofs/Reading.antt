-- Arguments: what was read, and what is left.
use Rattle.std.proofs.Common.{◌≡◌, refl, sym, ap, ◌∙◌, List, [], ◌∷◌, ◌++◌, append-nil, append_assoc, length, Ok, Err}
use Rattle.sb_call.specs.declared.arguments.Arg.{Arg}
use Rattle.sb_call.specs.declared.tags.ParamKind.{ParamKind}
use Rattle.sb_scripttext.specs.Arguments.{arg_at, args_at}
use Rattle.sb_text.specs.Steps.{◌>>=◌, Read, Reads}
use Rattle.sb_base.specs.declared.refusals.Refused.{Refused}
use Rattle.sb_base.specs.declared.refusals.Refused.TheVariants as refused
use Rattle.sb_scripttext.specs.declared.faults.ScriptKind.{ScriptKind}
use Rattle.sb_text.specs.Tokens.{Lexemes}
use Rattle.sb_text.specs.declared.refusals.TokenFault.{TokenFault}

-- arguments that were read, and those that follow
abbrev pub with_args : List Arg → Read (List Arg) ScriptKind → Read (List Arg) ScriptKind
with_args done (Ok read) = Ok (done ++ read.0, read.1)
with_args done (Err kind) = Err kind

one_arg : (done : List Arg) (first : Arg) (others : Read (List Arg) ScriptKind)
    → with_args done (others >>= λ others. Ok (first ∷ others.0, others.1)) ≡ with_args (done ++ first ∷ []) others
one_arg done first (Ok read) = ap (λ args. Ok (args, read.1)) (sym (append_assoc done (first ∷ []) read.0))
one_arg done first (Err kind) = refl

-- nothing was read before the first
pub args_before : (read : Read (List Arg) ScriptKind) → with_args [] read ≡ read
args_before (Ok read) = refl
args_before (Err kind) = refl

-- no argument is left
pub args_none : (done : List Arg) (tokens : Lexemes) → with_args done (args_at [] tokens) ≡ Ok (done, tokens)
unfolding args_at
args_none done tokens = ap (λ args. Ok (args, tokens)) (append-nil done)

-- a list of no items
pub empty : {A : Type 0} (xs : List A) → length xs ≡ 0 → xs ≡ []
empty [] h = refl
empty (x ∷ xs) h = absurd cc

-- the fault of an argument
pub args_bad : (done : List Arg) (kind : ParamKind) (kinds : List ParamKind) (tokens : Lexemes) (fault : TokenFault ScriptKind)
    → arg_at kind tokens ≡ Err fault → with_args done (args_at (kind ∷ kinds) tokens) ≡ Err fault
unfolding args_at
args_bad done kind kinds tokens fault h = rw (h) refl

-- an argument, and those after it
pub args_more : (done : List Arg) (kind : ParamKind) (kinds : List ParamKind) (tokens : Lexemes) (a : Arg) (rest : Lexemes)
    → arg_at kind tokens ≡ Ok (a, rest) → with_args done (args_at (kind ∷ kinds) tokens) ≡ with_args (done ++ a ∷ []) (args_at kinds rest)
unfolding args_at
args_more done kind kinds tokens a rest h = rw (h) (one_arg done a (args_at kinds rest))

-- why an argument is refused is why all are
pub args_refused : (done : List Arg) (kind : ParamKind) (kinds : List ParamKind) (tokens rest after : Lexemes) (whole : Read (List Arg) ScriptKind) (why : Refused (TokenFault ScriptKind))
    → with_args done (args_at (kind ∷ kinds) tokens) ≡ whole → Reads (arg_at kind tokens) (Err why) rest → Reads whole (Err why) after
args_refused done kind kinds tokens rest after whole (refused.Fault fault) i h = sym i ∙ args_bad done kind kinds tokens fault h
args_refused done kind kinds tokens rest after whole refused.NoMemory i h = tt
