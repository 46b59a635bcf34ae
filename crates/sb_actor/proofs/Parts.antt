-- What stays of the rule when one channel and one view change.
use Rattle.std.proofs.Common.{◌≡◌, ◌≢◌, ◌⊎◌, ℕ, Bool, true, false, true≢false, cond, List, [], ◌++◌, map, sym, refl, ap, ◌∙◌, subst, inl, inr}
use mathlib.Core.Option.{Option, none, some, some-injective, some-ne-none}
use native.Mathlib.Decide.{ℕ_discrete}
use Rattle.sb_actor.specs.Views.{Served, ThreadPlace, Try, Fill, Wait, Fetch, ThreadView}
use Rattle.sb_actor.specs.Moves.{is_clean}
use Rattle.sb_actor.specs.Rule.{Owner, owner_of, as_served, place, served_at, waiting, Agrees, FitsThread}
use Rattle.sb_actor.proofs.Rows.{upd, upd_here, upd_else}

pub off : false ≡ true → ⊥
off e = true≢false (sym e)

-- nobody but k is at the channel
abbrev pub FreeFor : ℕ → Owner → Type 0
FreeFor k m = (owner_of m ≡ none) ⊎ (owner_of m ≡ some k)

pub not_other : (k n : ℕ) (m : Owner) → FreeFor k m → owner_of m ≡ some n → n ≢ k → ⊥
not_other k n m (inl e) o ne = some-ne-none n (sym o ∙ e)
not_other k n m (inr e) o ne = ne (some-injective n k (sym o ∙ e))

-- who is at a clean channel has it
pub agrees_owner : (k c : ℕ) (p : ThreadPlace) (m : Owner) → place p ≡ some c → Agrees k p m → owner_of m ≡ some k
agrees_owner k c (Try d f) m at a = absurd (some-ne-none c (sym at))
agrees_owner k c (Fill d ws) m at a = ap owner_of a
agrees_owner k c (Wait d b) m at (inl e) = ap owner_of e
agrees_owner k c (Wait d b) m at (inr e) = ap owner_of e.1
agrees_owner k c (Fetch d b ws) m at e = ap owner_of e.1

waiting_at : (clean : List Bool) (owners : ℕ → Owner) (c : ℕ) (m : Owner) (o : Option ℕ) → ((d : ℕ) → o ≡ some d → is_clean clean d ≡ true → d ≢ c) → waiting clean (upd owners c m) o ≡ waiting clean owners o
waiting_at clean owners c m none ne = refl
waiting_at clean owners c m (some d) ne = by_clean (is_clean clean d) refl
  where
    by_clean : (b : Bool) → is_clean clean d ≡ b → cond b (served_at d (upd owners c m d)) [] ≡ cond b (served_at d (owners d)) []
    by_clean true e = ap (served_at d) (upd_else owners c m d (ne d refl e))
    by_clean false e = refl

module _ (clean : List Bool) (owners : ℕ → Owner) (served : List Served) where
  -- a thread of another number stays as it fits
  pub thread_else : (k c : ℕ) (m : Owner) → (is_clean clean c ≡ true → FreeFor k (owners c)) → (is_clean clean c ≡ true → FreeFor k m)
      → (i : ℕ) (u : ThreadView) → u.number ≢ k → FitsThread clean owners served i u → FitsThread clean (upd owners c m) served i u
  thread_else k c m was now i u ne h =
      let elsewhere : (d : ℕ) → place u.place ≡ some d → is_clean clean d ≡ true → d ≢ c =
      λ d at cl e. not_other k u.number (owners c) (was (subst (λ x. is_clean clean x ≡ true) e cl)) (agrees_owner u.number d u.place (owners c) at (subst (λ x. Agrees u.number u.place (owners x)) e (h.agrees d at cl))) ne in
      record {
        number = h.number;
        its_clean = h.its_clean;
        agrees = λ d at cl. subst (Agrees u.number u.place) (sym (upd_else owners c m d (elsewhere d at cl))) (h.agrees d at cl);
        only = λ d cl o. only_at d cl o (ℕ_discrete d c);
        calls = h.calls ∙ ap (λ l. map as_served (u.ended_calls ++ l)) (sym (waiting_at clean owners c m (place u.place) elsewhere));
        all_abandoned = h.all_abandoned;
        handed_is_own = h.handed_is_own;
      }
    where
      only_at : (d : ℕ) → is_clean clean d ≡ true → owner_of (upd owners c m d) ≡ some u.number → Dec (d ≡ c) → place u.place ≡ some d
      only_at d cl o (yes e) = absurd (not_other k u.number m (now (subst (λ x. is_clean clean x ≡ true) e cl)) (sym (ap owner_of (upd_here owners c m d e)) ∙ o) ne)
      only_at d cl o (no n) = h.only d cl (sym (ap owner_of (upd_else owners c m d n)) ∙ o)
