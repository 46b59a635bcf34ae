-- The codes of a program are at the numbers of their calls.
use Rattle.std.specs.Prelude.{Option, None, slice_index_or}
use Rattle.std.proofs.Common.{◌≡◌, ◌∙◌, ℕ, ◌-◌, zero, suc, true, List, [], ◌∷◌, ◌++◌, map, refl, ap}
use Rattle.std.proofs.lemmas.Bool.{and_parts, false≢true}
use Rattle.sb_call.specs.Tags.{number_of}
use Rattle.sb_call.specs.declared.tags.CallTag.{CallTag}
use Rattle.sb_call.specs.declared.tags.CallTag.TheVariants.{Ping, FileCreate, FileOpen, FileQuery, FileRename, PipeCreate, KeyCreate, KeyOpen, EventCreate, EventOpen, HandleClose}
use Rattle.sb_opcode.specs.Opcodes.{Opcode}
use Rattle.sb_opcode.specs.Verified.{VerifiedCode}
use Rattle.sb_rule.specs.declared.policies.Policy.{Policy}
use Rattle.sb_call.specs.CallWords.{every_tag}
use Rattle.sb_compile.specs.Compiling.{code_in, code_of, program_of}
use Rattle.sb_compile.specs.Listing.{code_lines}
use Rattle.sb_compile.specs.Programs.{code_in_call, is_for_tag, are_for}
use Rattle.sb_compile.proofs.Members.{both}

-- one call more
pub pushed_for : (tags : List CallTag) (calls : List (Option VerifiedCode)) (tag : CallTag) (call : Option VerifiedCode) → are_for tags calls ≡ true
    → is_for_tag tag call ≡ true → are_for (tags ++ tag ∷ []) (calls ++ call ∷ []) ≡ true
pushed_for [] [] tag call h k = both k refl
pushed_for [] (c ∷ calls) tag call h k = absurd (false≢true h)
pushed_for (t ∷ tags) [] tag call h k = absurd (false≢true h)
pushed_for (t ∷ tags) (c ∷ calls) tag call h k =
    let p = and_parts (is_for_tag t c) (are_for tags calls) h in
    both p.0 (pushed_for tags calls tag call p.1 k)

for_at : (tags : List CallTag) (calls : List (Option VerifiedCode)) (i : ℕ) → are_for tags calls ≡ true
    → is_for_tag (slice_index_or tags i Ping) (slice_index_or calls i None) ≡ true
for_at [] [] i h = refl
for_at [] (c ∷ calls) i h = absurd (false≢true h)
for_at (t ∷ tags) [] i h = absurd (false≢true h)
for_at (t ∷ tags) (c ∷ calls) zero h = (and_parts (is_for_tag t c) (are_for tags calls) h).0
for_at (t ∷ tags) (c ∷ calls) (suc i) h = for_at tags calls i (and_parts (is_for_tag t c) (are_for tags calls) h).1

-- what is at the number of a call is for it
pub call_for : (calls : List (Option VerifiedCode)) (tag : CallTag) → are_for every_tag calls ≡ true → is_for_tag tag (slice_index_or calls (number_of tag - 1) None) ≡ true
call_for calls Ping h = for_at every_tag calls 0 h
call_for calls FileCreate h = for_at every_tag calls 1 h
call_for calls FileOpen h = for_at every_tag calls 2 h
call_for calls FileQuery h = for_at every_tag calls 3 h
call_for calls FileRename h = for_at every_tag calls 4 h
call_for calls PipeCreate h = for_at every_tag calls 5 h
call_for calls KeyCreate h = for_at every_tag calls 6 h
call_for calls KeyOpen h = for_at every_tag calls 7 h
call_for calls EventCreate h = for_at every_tag calls 8 h
call_for calls EventOpen h = for_at every_tag calls 9 h
call_for calls HandleClose h = for_at every_tag calls 10 h

-- the code at a place is that of the call there
pub code_at : (calls : List (Option VerifiedCode)) (i : ℕ) → slice_index_or (map code_in_call calls) i [] ≡ code_in_call (slice_index_or calls i None)
code_at [] i = refl
code_at (c ∷ calls) zero = refl
code_at (c ∷ calls) (suc i) = code_at calls i

-- the code of a call in the program of a policy
code_in_program : (policy : Policy) (tag : CallTag) → code_of policy.rules tag ≡ code_in (program_of policy) tag
code_in_program policy Ping = refl
code_in_program policy _ = refl

-- and its lines
pub code_listed : (policy : Policy) (tag : CallTag) (code : List Opcode) → code ≡ code_of policy.rules tag
    → code_lines policy.name tag code ≡ code_lines policy.name tag (code_in (program_of policy) tag)
code_listed policy tag code e = ap (code_lines policy.name tag) (e ∙ code_in_program policy tag)
