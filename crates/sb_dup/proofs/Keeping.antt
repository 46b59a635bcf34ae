-- What moves keep of handles.
use Rattle.std.proofs.Common.{◌≡◌, ◌∙◌, ◌+◌, ℕ, suc, Bool, true, false, cond, ap, refl, sym, subst, arith, List, [], ◌∷◌, ◌++◌, Some}
use Rattle.std.specs.Prelude.{bit_and, option_map}
use Rattle.std.specs.List.{AllByRecursion, find}
use Rattle.std.proofs.lemmas.List.{append_assoc, append-nil}
use Rattle.sb_dup.specs.Passes.{with_access}
use Rattle.sb_dup.specs.Passings.{AreKept, IsFrom, IsNoWider}
use Rattle.sb_dup.proofs.Bits.{bits_of, own_bits}
use Rattle.sb_handles.specs.Tables.{Table, is_of, held_by, with_handle}
use Rattle.sb_handles.specs.declared.objects.Held.{Held}
use Rattle.sb_handles.specs.declared.objects.OpenHandle.{OpenHandle}

-- ---- what comes from handles

own : (held : Held) → IsNoWider held held
own held = record { object = refl; sharing = refl; access = own_bits held.access.0 }

narrower : (a b c : Held) → IsNoWider a b → IsNoWider b c → IsNoWider a c
narrower a b c p q =
    record { object = p.object ∙ q.object; sharing = p.sharing ∙ q.sharing; access = bits_of a.access.0 b.access.0 c.access.0 p.access q.access }

further_one : (first : OpenHandle) (copied : List OpenHandle) (handle : OpenHandle) → IsFrom copied handle → IsFrom (first ∷ copied) handle
further_one first copied handle h =
    record { source = h.source; is_copied = (suc h.is_copied.0, omega (arith, h.is_copied.1), h.is_copied.2); is_no_wider = h.is_no_wider }

all_further : (first : OpenHandle) (copied handles : List OpenHandle) → AllByRecursion (IsFrom copied) handles → AllByRecursion (IsFrom (first ∷ copied)) handles
all_further first copied [] h = tt
all_further first copied (handle ∷ handles) h = (further_one first copied handle h.0, all_further first copied handles h.1)

-- each handle comes from itself
all_own : (copied : List OpenHandle) → AllByRecursion (IsFrom copied) copied
all_own [] = tt
all_own (handle ∷ copied) =
    (record { source = handle; is_copied = (0, omega arith, refl); is_no_wider = own handle.held }, all_further handle copied copied (all_own copied))

all_both : (copied front rest : List OpenHandle) → AllByRecursion (IsFrom copied) front → AllByRecursion (IsFrom copied) rest
    → AllByRecursion (IsFrom copied) (front ++ rest)
all_both copied [] rest h k = k
all_both copied (handle ∷ front) rest h k = (h.0, all_both copied front rest h.1 k)

-- so does one that is found
pub found_one : (copied handles : List OpenHandle) (test : OpenHandle → Bool) (held : Held) → AllByRecursion (IsFrom copied) handles
    → option_map (λ handle. handle.held) (find test handles) ≡ Some held → (handle : OpenHandle) × IsFrom copied handle × (handle.held ≡ held)
found_one copied [] test held h e = absurd cc
found_one copied (handle ∷ handles) test held h e = by (test handle) e (found_one copied handles test held h.1)
  where
    by : (b : Bool) → option_map (λ handle. handle.held) (cond b (Some handle) (find test handles)) ≡ Some held
        → (option_map (λ handle. handle.held) (find test handles) ≡ Some held → (handle : OpenHandle) × IsFrom copied handle × (handle.held ≡ held))
        → (handle : OpenHandle) × IsFrom copied handle × (handle.held ≡ held)
    by true e more = (handle, h.0, cc)
    by false e more = more e

-- each of the handles that moves left comes from one that was copied
pub each_from : (copied handles : List OpenHandle) → AreKept copied handles → AllByRecursion (IsFrom copied) handles
each_from copied handles kept =
    subst (AllByRecursion (IsFrom copied)) (sym kept.unchanged) (all_both copied copied kept.further (all_own copied) kept.narrow)

-- ---- a handle more

pub kept_one : (copied : List OpenHandle) (table : Table) (target number : ℕ) (to access : ℕ) (held : Held) → AreKept copied table.handles
    → held_by table target number ≡ Some held → bit_and access held.access.0 ≡ access
    → AreKept copied (with_handle table to (with_access held access)).handles
kept_one copied table target number to access held kept h within =
    let found = found_one copied table.handles (is_of target number) held (each_from copied table.handles kept) h in
    let wide : IsNoWider held found.1.source.held = subst (λ held. IsNoWider held found.1.source.held) found.2 found.1.is_no_wider in
    let new : OpenHandle = record { target = to; number = table.granted + 1; held = with_access held access } in
    let narrow : IsNoWider new.held held = record { object = refl; sharing = refl; access = within } in
    let from : IsFrom copied new = record { source = found.1.source; is_copied = found.1.is_copied; is_no_wider = narrower new.held held found.1.source.held narrow wide } in
    record {
      further = kept.further ++ new ∷ [];
      unchanged = ap (λ handles. handles ++ new ∷ []) kept.unchanged ∙ append_assoc copied kept.further (new ∷ []);
      narrow = all_both copied kept.further (new ∷ []) kept.narrow (from, tt);
    }

-- before any move
pub kept_copied : (copied : List OpenHandle) → AreKept copied copied
kept_copied copied = record { further = []; unchanged = sym (append-nil copied); narrow = tt }
