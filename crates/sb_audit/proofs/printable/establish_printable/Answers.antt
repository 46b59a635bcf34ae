use Rattle.std.proofs.Common.{List, arith, subst}
use Rattle.sb_book.specs.declared.entries.Entry.{Entry}
use Rattle.sb_statements.specs.declared.results.StmtResult.{StmtResult}
use Rattle.sb_transcript.specs.Printable.{ArePrintableResults, Each, IsPrintableEntry}
use Rattle.sb_audit.proofs.printable.establish_printable.Goals as goal

pub returns : goal.returns
returns c = record {
  entries = subst (λ (es : List Entry). Each IsPrintableEntry es) c.as_slice.ensures c.establish_entries.ensures;
  results = subst (λ (rs : List (List (List StmtResult))). Each ArePrintableResults rs) c.as_slice-2.ensures c.establish_results.ensures;
  few = omega arith;
}
