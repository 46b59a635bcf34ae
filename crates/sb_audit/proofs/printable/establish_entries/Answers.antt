use Rattle.std.proofs.Common.{◌≡◌, List, [], ◌∷◌, sym, subst}
use Rattle.sb_book.specs.declared.entries.Entry.{Entry}
use Rattle.sb_transcript.specs.Printable.{Each, IsPrintableEntry}
use Rattle.sb_audit.proofs.Printing.{each_more, each_none}
use Rattle.sb_audit.proofs.printable.establish_entries.Goals as goal

pub loop-entry-preserved : goal.loop-entry-preserved
loop-entry-preserved c more =
    let parts : c.loop-entry.rest ≡ c.in-Some.entry ∷ c.in-Some.later = cc c.in-Some.ensures in
    c.loop-entry.invariant (subst (λ (es : List Entry). Each IsPrintableEntry es) (sym parts)
    (each_more IsPrintableEntry c.in-Some.entry c.in-Some.later c.establish_entry.ensures more))

pub returns : goal.returns
returns c =
    let none : c.loop-entry.rest ≡ [] = cc c.in_default.ensures in
    c.loop-entry.invariant (subst (λ (es : List Entry). Each IsPrintableEntry es) (sym none) (each_none IsPrintableEntry))
