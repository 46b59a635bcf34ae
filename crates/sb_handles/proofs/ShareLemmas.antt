-- Shares of one object, and of one handle.
use Rattle.std.proofs.Common.{◌≡◌, ℕ, Bool, true, false, cond, refl, arith, ◌==◌, List, [], ◌∷◌}
use Rattle.std.proofs.lemmas.Bool.Decides.{nat_tests}
use Rattle.std.specs.Prelude.{◌&&◌}
use Rattle.std.specs.BTreeMap.{is_at}
use Rattle.std.specs.Cmp.{IsTotalOrder, nat_cmp_total, on_total, then_total}
use Rattle.std.specs.Map.{remove_entry}
use Rattle.sb_handles.specs.Shares.{left}
use Rattle.sb_base.specs.Orders.{by_pair}
use Rattle.sb_handles.specs.declared.objects.Share.{Share}
use Rattle.sb_handles.proofs.IndexLemmas.{same_pair}

pub pairs_total : IsTotalOrder by_pair
pairs_total = then_total (on_total (λ p. p.0) nat_cmp_total) (on_total (λ p. p.1) nat_cmp_total)

-- a share of a handle that is taken out is none of the others
pub left_removed : (object handle : ℕ) (es : List ((ℕ × ℕ) × Share)) → left (remove_entry (is_at (by_pair (object, handle))) es) handle ≡ left es handle
left_removed object handle [] = refl
left_removed object handle (e ∷ es) = by (is_at (by_pair (object, handle)) e.0) (same_pair object handle e.0.0 e.0.1) (left_removed object handle es)
  where
    by : (s : Bool) → s ≡ (object == e.0.0 && handle == e.0.1) → left (remove_entry (is_at (by_pair (object, handle))) es) handle ≡ left es handle
        → left (cond s es (e ∷ remove_entry (is_at (by_pair (object, handle))) es)) handle ≡ left (e ∷ es) handle
    by true h i =
        let same : (e.0.1 == handle) ≡ true = grind (arith, nat_tests, h) in
        rw same refl
    by false h i = rw i refl
