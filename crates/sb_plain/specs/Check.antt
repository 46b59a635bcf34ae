-- What `check POLICY` means.
use Rattle.std.specs.Prelude.{ℕ, List, ◌++◌, None, Some, Result, Ok}
use Rattle.std.specs.List.{flat_map}
use Rattle.sb_compile.specs.Compiling.{program_of}
use Rattle.sb_compile.specs.Listing.{listing_of}
use Rattle.sb_message.specs.declared.statuses.EndStatus.TheVariants.{Done}
use Rattle.sb_rule.specs.declared.policies.Policy.{Policy}
use Rattle.sb_ruletext.specs.Printing.{printed}
use Rattle.sb_text.specs.Steps.{◌>>=◌}
use Rattle.sb_plain.specs.Contents.{Content, Contents, FileContent, ShownRefusal, alone, file_in, policies_of}
use Rattle.sb_plain.specs.Ends.{End}

-- the listings of the programs of policies, one after another
abbrev pub listings : List Policy → List ℕ
listings policies = flat_map (λ policy. listing_of (program_of policy)) policies

-- what is printed of policies: they as a text, and then the listings of their programs
unfoldable pub checked : List Policy → List ℕ
checked policies = printed policies ++ listings policies

-- the end that prints policies, of this text
abbrev pub printed_end : List ℕ → List Policy → End
printed_end text policies = record { text = Some (checked policies); status = Done; run = None; notes = Some text }

-- the policies of a text are printed, and its notes are told
abbrev pub check_text : FileContent → Result End ShownRefusal
check_text text = policies_of text >>= λ policies. Ok (printed_end text.bytes policies)

abbrev pub check_end : Contents → Result End ShownRefusal
check_end contents = alone 1 (λ content. file_in 1 content >>= check_text) contents
