-- The calls of generated scripts: eight kinds, each with a number K.
use Rattle.std.specs.Prelude.{ℕ, zero, suc, ◌==◌, List, [], ◌∷◌, ◌++◌, codes, if◌then◌else◌}
use Rattle.std.specs.Fmt.{decimal}
use Rattle.sb_call.specs.declared.arguments.Arg.TheVariants.{Num, Str}
use Rattle.sb_call.specs.declared.tags.CallTag.TheVariants.{Ping, FileCreate, FileOpen, FileQuery, PipeCreate, KeyOpen, EventCreate, EventOpen}
use Rattle.sb_statements.specs.declared.statements.Statement.{Statement}
use Rattle.sb_statements.specs.declared.statements.Statement.TheVariants.{Call}
use Rattle.sb_gen.specs.Generator.{next, kind_of, number_of}

-- `\make\aT`: the directory of target T
abbrev pub directory : ℕ → List ℕ
directory target = codes "\\make\\a" ++ decimal target

-- `\make\aT\kK`: a name in it
abbrev pub name_within : ℕ → ℕ → List ℕ
name_within target k = directory target ++ (codes "\\k" ++ decimal k)

-- `\kK`: a name in the root
abbrev pub root_name : ℕ → List ℕ
root_name k = codes "\\k" ++ decimal k

-- `\other\kK`: a name in a directory that is not there
abbrev pub other_name : ℕ → List ℕ
other_name k = codes "\\other\\k" ++ decimal k

-- the eight calls
abbrev pub file_create : ℕ → ℕ → Statement
file_create target k = Call FileCreate (Str (name_within target k) ∷ Num 0 ∷ Num 3 ∷ Num 7 ∷ Num 3 ∷ Num 0x40 ∷ [])

abbrev pub file_query : ℕ → ℕ → Statement
file_query target k = Call FileQuery (Str (name_within target k) ∷ [])

abbrev pub file_open : ℕ → Statement
file_open k = Call FileOpen (Str (other_name k) ∷ Num 1 ∷ Num 7 ∷ Num 0x40 ∷ [])

abbrev pub event_create : ℕ → Statement
event_create k = Call EventCreate (Str (root_name k) ∷ Num 0 ∷ Num 0 ∷ [])

abbrev pub event_open : ℕ → Statement
event_open k = Call EventOpen (Str (root_name k) ∷ Num 0 ∷ [])

abbrev pub key_open : ℕ → Statement
key_open k = Call KeyOpen (Str (root_name k) ∷ Num k ∷ [])

abbrev pub ping : ℕ → Statement
ping k = Call Ping (Num k ∷ Str (codes "made") ∷ [])

abbrev pub pipe_create : ℕ → Statement
pipe_create k = Call PipeCreate (Str (root_name k) ∷ Num 3 ∷ Num 0 ∷ Num 255 ∷ [])

-- the call of a kind with its number, by a thread of a target
abbrev pub call_of : ℕ → ℕ → ℕ → Statement
call_of target kind k =
    if kind == 0 then file_create target k
    else (if kind == 1 then file_query target k
    else (if kind == 2 then file_open k
    else (if kind == 3 then event_create k
    else (if kind == 4 then event_open k
    else (if kind == 5 then key_open k
    else (if kind == 6 then ping k
    else pipe_create k))))))

-- the statement that a number of the generator represents
abbrev pub statement_of : ℕ → ℕ → Statement
statement_of target x = call_of target (kind_of x) (number_of x)

-- the next n statements of a thread, if the generator is at x before the first
abbrev pub statements_of : ℕ → ℕ → ℕ → List Statement
statements_of target zero x = []
statements_of target (suc n) x = statement_of target (next x) ∷ statements_of target n (next x)
