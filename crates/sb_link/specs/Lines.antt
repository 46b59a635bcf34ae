-- How the answers of a book that resolves names are written.
use Rattle.std.specs.Prelude.{ℕ, List, [], ◌++◌, length, Option, None, Some, slice_get, codes}
use Rattle.std.specs.Fmt.{decimal}
use Rattle.std.specs.List.{count_by, flat_map}
use Rattle.sb_block.specs.Copies.{mark_of}
use Rattle.sb_book.specs.declared.entries.Entry.{Entry}
use Rattle.sb_call.specs.CallWords.{call_word}
use Rattle.sb_call.specs.declared.tags.CallTag.{CallTag}
use Rattle.sb_rule.specs.declared.policies.Policy.{Policy}
use Rattle.sb_statements.specs.declared.scripts.Script.{Script}
use Rattle.sb_transcript.specs.EntryLines.{entry_line, target_name}
use Rattle.sb_link.specs.LinkedHistories.{LinkedHistory, is_stopped}
use Rattle.sb_link.specs.ScriptCalls.{script_answered}
use Rattle.sb_link.specs.declared.linked_books.Linked.{Linked}
use Rattle.sb_link.specs.declared.linked_books.Linked.TheVariants as item
use Rattle.sb_link.specs.declared.links.Link.{Link}
use Rattle.sb_link.specs.declared.stops.Stop.{Stop}
use Rattle.sb_link.specs.declared.stops.Stop.TheVariants.{Loop, TooBig}

-- why a call stopped: `loop I`, with the number of the parameter, or `too-big`
abbrev pub stop_text : Stop → List ℕ
stop_text (Loop parameter) = codes "loop " ++ decimal parameter
stop_text TooBig = codes "too-big"

-- of whom the call was: `stopped TARGET C mark M`
abbrev pub place_text : List ℕ → ℕ → ℕ → List ℕ
place_text name channel mark = codes "stopped " ++ name ++ codes " " ++ decimal channel ++ codes " mark " ++ decimal mark

-- the line of a call that stopped, of a target with this name: `stopped TARGET C mark M CALL loop I` or `stopped TARGET C mark M CALL too-big`
abbrev pub stopped_line : List ℕ → ℕ → ℕ → CallTag → Stop → List ℕ
stopped_line name channel mark tag stop = place_text name channel mark ++ codes " " ++ call_word tag ++ codes " " ++ stop_text stop ++ codes "\n"

-- the last line: `linked calls C entries E stopped S`
abbrev pub linked_line : ℕ → ℕ → ℕ → List ℕ
linked_line calls entries stopped =
    codes "linked calls " ++ decimal calls ++ codes " entries " ++ decimal entries ++ codes " stopped " ++ decimal stopped ++ codes "\n"

-- ---- the lines of a log

-- the line of the entry with this number, which is there in the book of the log
abbrev pub line_if : Script → ℕ → Option Entry → List ℕ
line_if script n None = []
line_if script n (Some e) = entry_line script n e

-- the line of an item of the log of a book with these entries: that of its entry, or of its stopped call
abbrev pub item_line : Script → List Entry → Linked → List ℕ
item_line script entries (item.Entry taken at) = line_if script at (slice_get entries at)
item_line script entries (item.Stopped target channel taken tag stop reply) =
    stopped_line (target_name script target) channel (mark_of taken) tag stop

-- the line of totals of a log
abbrev pub log_totals : LinkedHistory → List ℕ
log_totals s = linked_line (length s.log) (length s.history.entries) (count_by is_stopped s.log)

-- a line for each item of the log, in order, and that of the totals
abbrev pub log_text : Script → LinkedHistory → List ℕ
log_text script s = flat_map (item_line script s.history.entries) s.log ++ log_totals s

-- the lines of the answers to all calls of a script under policies
abbrev pub linked_text : List Policy → Script → List Link → List ℕ
linked_text policies script links = log_text script (script_answered policies script links)
