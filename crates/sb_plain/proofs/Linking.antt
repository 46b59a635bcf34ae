-- The statuses and the runs of `linked`.
use Rattle.std.proofs.Common.{◌≡◌, subst, ℕ, List, Option, lit≤}
use Rattle.std.specs.Prelude.{IfSome}
use Rattle.sb_link.specs.LinkTexts as links
use Rattle.sb_link.specs.declared.links.Link.{Link}
use Rattle.sb_message.specs.declared.text_faults.TextFault.TheVariants.{Links}
use Rattle.sb_plain.specs.Contents.{FileContent, most_bytes}
use Rattle.sb_plain.specs.Ends.{End, Plain}
use Rattle.sb_plain.specs.Linked.{calls_end, linked_end, links_of}
use Rattle.sb_plain.specs.ScriptEnds.{ends, needed}
use Rattle.sb_plain.specs.Sound.{AreEndsSound, IsSound}
use Rattle.sb_plain.proofs.Readings.{same_end}
use Rattle.sb_plain.proofs.ScriptEnds.{each_end}
use Rattle.sb_plain.proofs.Suiting.{IsSuited, RefusesFor, of_needed, script_suited, third_text}

links_refuse : (text : FileContent) → text.which ≡ 3 → RefusesFor 3 (links_of text)
links_refuse text n = third_text Links 3 text (links.reading text.bytes) n (lit≤ tt)

pub linked_suited : IsSuited 3 linked_end
linked_suited =
    script_suited 3 most_bytes (λ script. needed links_of) (ends calls_end) (lit≤ tt) (λ script text third. of_needed links_of links_refuse text third)
    (λ policies script text links third e. tt)

-- it makes no run
pub linked_sound : AreEndsSound (Plain linked_end)
linked_sound =
    each_end most_bytes (λ script. needed links_of) (ends calls_end) (λ (x : End). IfSome x.run IsSound)
    (λ first second files r reached parts e.
    subst (λ (x : End). IfSome x.run IsSound) (same_end (calls_end r.0.policies r.0.script r.1) reached e) tt)
