-- Each name is one and leads to an event that was made, and no two to one, after one more was made or taken back.
use Rattle.std.proofs.Common.{◌≡◌, ◌+◌, ℕ, true, refl, sym, subst, List, [], ◌∷◌}
use Rattle.std.proofs.lemmas.Bool.{and_parts}
use Rattle.std.specs.BTreeMap.{insert_entry}
use Rattle.std.specs.Cmp.Lexicographic.{slice_cmp}
use Rattle.std.specs.List.{list_all}
use Rattle.std.specs.Ordering.{nat_cmp, match_ordering}
use Rattle.std.specs.declared.cmp.Ordering.{Ordering}
use Rattle.std.specs.declared.cmp.Ordering.TheVariants.{Less, Equal, Greater}
use Rattle.sb_base.specs.Names.{is_name_of}
use Rattle.sb_names.specs.Keys.{key_of}
use Rattle.sb_names.specs.Laws.{NamesFold}
use Rattle.sb_names.specs.Maps.{Rows, put}
use Rattle.sb_names.specs.Numbers.{AreNumbered, PutsKeepNumbers}
use Rattle.sb_services.specs.Events.{Events, AreMade, AreNamed, number_of}
use Rattle.sb_services.specs.declared.event_rows.EventRow.{EventRow}
use Rattle.sb_services.proofs.FileLemmas.{none_twice}

abbrev by_unit : List ℕ → List ℕ → Ordering
by_unit = slice_cmp nat_cmp

named_put : (key : List ℕ) (value : EventRow) (rows : Rows EventRow) → AreNamed rows → is_name_of key ≡ true → AreNamed (insert_entry by_unit rows key value)
named_put key value [] h k = rw k refl
named_put key value (row ∷ rows) h k =
    let parts = and_parts (is_name_of row.0) (list_all (λ row. is_name_of row.0) rows) h in
    by parts.0 parts.1 (by_unit key row.0) (named_put key value rows parts.1 k)
  where
    by : is_name_of row.0 ≡ true → AreNamed rows → (o : Ordering) → AreNamed (insert_entry by_unit rows key value)
        → AreNamed (match_ordering o ((key, value) ∷ row ∷ rows) ((row.0, value) ∷ rows) (row ∷ insert_entry by_unit rows key value))
    by first rest Less i = rw (k, first) rest
    by first rest Equal i = rw first rest
    by first rest Greater i = rw first i

pub one_more : PutsKeepNumbers EventRow → NamesFold → (events : Events) (rows : Rows EventRow) (name : List ℕ) (row : EventRow) (number : ℕ)
    → number ≡ events.made + 1 → row.number ≡ events.made + 1 → rows ≡ put events.rows name row → is_name_of name ≡ true
    → AreMade events → AreMade (record { rows = rows; made = number })
one_more keeps folds events rows name row number next own e is_name are = record {
  numbered = subst (λ n. AreNumbered number_of n rows) (sym next)
      (subst (λ rows. AreNumbered number_of (events.made + 1) rows) (sym e) (keeps number_of events.made events.rows name row are.numbered own));
  named = subst AreNamed (sym e) (named_put (key_of name) row events.rows are.named (folds name is_name));
}

pub none_made : (rows : Rows EventRow) → rows ≡ [] → AreMade (record { rows = rows; made = 0 })
none_made rows e = subst (λ rows. AreMade (record { rows = rows; made = 0 })) (sym e)
    (record { numbered = record { given = refl; distinct = none_twice }; named = refl })
