-- How many entries have each decision, counted in one pass.
use Rattle.std.specs.Prelude.{ℕ, ◌+◌, List, [], ◌∷◌}
use Rattle.sb_book.specs.Rulings.{ruling_of}
use Rattle.sb_book.specs.declared.entries.Entry.{Entry}
use Rattle.sb_book.specs.declared.rulings.Ruling.{Ruling}
use Rattle.sb_book.specs.declared.rulings.Ruling.TheVariants.{Refused, Denied, Faked, Performed}
use Rattle.sb_transcript.specs.declared.counts.DecisionCounts.{DecisionCounts}

-- how many entries were counted
abbrev pub sum_of : DecisionCounts → ℕ
sum_of counts = counts.performed + (counts.faked + (counts.denied + counts.refused))

-- the counts with one ruling more
abbrev pub with_ruling : DecisionCounts → Ruling → DecisionCounts
with_ruling counts (Performed tag line action) = record counts { performed = counts.performed + 1 }
with_ruling counts (Faked tag line) = record counts { faked = counts.faked + 1 }
with_ruling counts (Denied tag verdict) = record counts { denied = counts.denied + 1 }
with_ruling counts (Refused fault) = record counts { refused = counts.refused + 1 }

-- the counts with those of more entries
abbrev pub with_entries : DecisionCounts → List Entry → DecisionCounts
with_entries counts [] = counts
with_entries counts (e ∷ es) = with_entries (with_ruling counts (ruling_of e.decision)) es

-- nothing was counted
abbrev pub no_counts : DecisionCounts
no_counts = record { performed = 0; faked = 0; denied = 0; refused = 0 }
