-- What `linked POLICY SCRIPT LINKS` means.
use Rattle.std.specs.Prelude.{ℕ, List, Option, None, Some, Result}
use Rattle.sb_link.specs.LinkTexts as links
use Rattle.sb_link.specs.Lines.{linked_text}
use Rattle.sb_link.specs.declared.links.Link.{Link}
use Rattle.sb_message.specs.declared.statuses.EndStatus.TheVariants.{Done}
use Rattle.sb_message.specs.declared.text_faults.TextFault.TheVariants.{Links}
use Rattle.sb_rule.specs.declared.policies.Policy.{Policy}
use Rattle.sb_statements.specs.declared.scripts.Script.{Script}
use Rattle.sb_text.specs.Steps.{◌>>=◌}
use Rattle.sb_plain.specs.Contents.{Content, Contents, FileContent, ShownRefusal, file_in, most_bytes, read_as}
use Rattle.sb_plain.specs.Ends.{End}
use Rattle.sb_plain.specs.ScriptEnds.{ends, needed, script_end}

-- the links of a text
abbrev pub links_of : FileContent → Result (List Link) ShownRefusal
links_of text = read_as Links text (links.reading text.bytes)

-- the links of the third file
abbrev pub links_in : Content → Result (List Link) ShownRefusal
links_in content = file_in 3 content >>= links_of

-- the lines of the answers to the calls of a script under policies
unfoldable pub calls_text : List Policy → Script → List Link → List ℕ
calls_text policies script links = linked_text policies script links

-- they are written, and there is no run
abbrev pub calls_end : List Policy → Script → List Link → End
calls_end policies script links = record { text = Some (calls_text policies script links); status = Done; run = None; notes = None }

-- the links are read after the script, whose calls are answered, the names of each resolved by them
abbrev pub linked_end : Contents → Result End ShownRefusal
linked_end contents = script_end most_bytes (λ script. needed links_of) (ends calls_end) contents
