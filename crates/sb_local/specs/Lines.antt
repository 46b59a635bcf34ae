-- The lines of local denials.
use Rattle.std.specs.Prelude.{ℕ, List, ◌++◌, codes}
use Rattle.std.specs.Fmt.{decimal}
use Rattle.std.specs.List.{flat_map}
use Rattle.sb_call.specs.CallWords.{call_word}
use Rattle.sb_statements.specs.Scripts.{target_name}
use Rattle.sb_statements.specs.declared.scripts.Script.{Script}
use Rattle.sb_transcript.specs.Fields.{verdict_text}
use Rattle.sb_local.specs.declared.denials.LocalDenial.{LocalDenial}

-- the thread and the place, between blanks
abbrev pub place_text : ℕ → ℕ → List ℕ
place_text thread place = codes " " ++ decimal thread ++ codes " " ++ decimal place ++ codes " "

-- the line of a local denial: target, thread, place and call, and why
abbrev pub denial_line : Script → LocalDenial → List ℕ
denial_line script d =
    codes "local " ++ target_name script d.target ++ place_text d.thread d.place ++ call_word d.tag ++ verdict_text d.verdict ++ codes "\n"

-- the lines of local denials, one after another
abbrev pub denial_lines : Script → List LocalDenial → List ℕ
denial_lines script denied = flat_map (denial_line script) denied
