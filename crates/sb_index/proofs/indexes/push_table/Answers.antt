use Rattle.std.proofs.Common.{◌≡◌, ◌++◌, ◌∷◌, [], length, ap, sym, subst, arith}
use Rattle.std.proofs.lemmas.List.{length_push}
use Rattle.sb_index.specs.Tables.{AreTables}
use Rattle.sb_index.proofs.TableLemmas.{table_pushed}
use Rattle.sb_index.proofs.indexes.push_table.Goals as goal

pub new-requires : goal.new-requires
new-requires c = record { rules = c.requires.few; bounds = c.in_ok-bounds.ensures }

pub returns-in_ok-push : goal.returns-in_ok-push
returns-in_ok-push c =
    let rules = c.args.rules.now in
    let tables = c.args.tables.now.items in
    let table = c.in_ok-new.field-0 in
    let pushed : c.push.new.self.items ≡ tables ++ table ∷ [] = c.in_ok-push.ensures.items in
    record {
      two = omega (arith, ap length pushed, length_push tables table, c.if-len-lt-MAX_TABLES.true, c.len-then-len-gt0.ensures, c.args.tables.now.ok.0);
      tables = subst (AreTables rules c.args.tag) (sym pushed) (table_pushed rules c.args.tag tables table c.requires.tables c.in_ok-new.ensures);
    }
