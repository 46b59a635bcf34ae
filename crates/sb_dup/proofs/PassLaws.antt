-- The laws of moves.
use Rattle.std.proofs.Common.{arith, ◌≡◌, ◌∙◌, ℕ, Bool, true, false, cond, not, refl, sym, ap, List, [], ◌∷◌, Option, None, Some}
use Rattle.std.specs.Prelude.{bit_and, ◌==◌}
use Rattle.std.proofs.lemmas.Bool.{false≢true}
use Rattle.std.proofs.lemmas.Bool.Decides.{nat_tests}
use Rattle.sb_dup.specs.Chains.{table_after}
use Rattle.sb_dup.specs.Openings.{opening_of}
use Rattle.sb_dup.specs.PassLaws.{AllowedAreGranted, ChainsNeverWiden, GrantsAreAllowed, IsAllowed, RefusedMovesChangeNothing, is_given}
use Rattle.sb_dup.specs.Passes.{access_granted, by_held, by_opening, by_verdicts, given, has_more, is_granted, pass, refused}
use Rattle.sb_dup.specs.Passings.{AreKept}
use Rattle.sb_dup.specs.declared.moves.Move.{Move}
use Rattle.sb_dup.specs.declared.moves.MoveAnswer.TheVariants.{MoreAccess, Denied}
use Rattle.sb_dup.specs.declared.openings.Opening.{Opening}
use Rattle.sb_dup.proofs.Bits.{granted_within}
use Rattle.sb_dup.proofs.Keeping.{kept_copied, kept_one}
use Rattle.sb_handles.specs.Tables.{Table, held_by}
use Rattle.sb_handles.specs.declared.objects.Held.{Held}
use Rattle.sb_handles.specs.declared.objects.OpenHandle.{OpenHandle}
use Rattle.sb_kernel.specs.Namespaces.{Space}
use Rattle.sb_rule.specs.Verdicts.{policy_at, verdict_of}
use Rattle.sb_rule.specs.declared.policies.Policy.{Policy}
use Rattle.sb_rule.specs.declared.verdicts.Verdict.{Verdict}

-- ---- granted only if allowed

both_granted : (giver taker : Verdict) (m : Move) (held : Held) (table : Table) → is_given (by_verdicts giver taker m held table).answer ≡ true
    → (is_granted giver ≡ true) × (is_granted taker ≡ true)
both_granted giver taker m held table h = by (is_granted giver) (is_granted taker) h
  where
    by : (p q : Bool) → is_given (cond p (cond q (given table m.to held (access_granted giver taker m.access)) (refused table (Denied m.to taker)))
        (refused table (Denied m.from giver))).answer ≡ true → (p ≡ true) × (q ≡ true)
    by true true h = (refl, refl)
    by true false h = absurd (false≢true h)
    by false q h = absurd (false≢true h)

pub grants_are_allowed : GrantsAreAllowed
grants_are_allowed ns policies m table h = by_holder (held_by table m.from m.handle) refl h
  where
    by_call : (held : Held) → held_by table m.from m.handle ≡ Some held → has_more m.access held.access.0 ≡ false
        → (call : Option Opening) → opening_of ns held m.access ≡ call → is_given (by_opening call policies m held table).answer ≡ true → IsAllowed ns policies m table
    by_call held e w None o h = absurd (false≢true h)
    by_call held e w (Some call) o h =
        let both = both_granted (verdict_of (policy_at policies m.from) call.tag call.args) (verdict_of (policy_at policies m.to) call.tag call.args) m held table h in
        record { held = held; call = call; is_held = e; within = w; opens = o; giver = both.0; taker = both.1 }

    by_access : (held : Held) → held_by table m.from m.handle ≡ Some held → (more : Bool) → has_more m.access held.access.0 ≡ more
        → is_given (cond more (refused table (MoreAccess held.access.0)) (by_opening (opening_of ns held m.access) policies m held table)).answer ≡ true
        → IsAllowed ns policies m table
    by_access held e true w h = absurd (false≢true h)
    by_access held e false w h = by_call held e w (opening_of ns held m.access) refl h

    by_holder : (holder : Option Held) → held_by table m.from m.handle ≡ holder → is_given (by_held holder ns policies m table).answer ≡ true → IsAllowed ns policies m table
    by_holder None e h = absurd (false≢true h)
    by_holder (Some held) e h = by_access held e (has_more m.access held.access.0) refl h

-- ---- and if allowed, granted

granted_by : (giver taker : Verdict) (m : Move) (held : Held) (table : Table) → is_granted giver ≡ true → is_granted taker ≡ true
    → is_given (by_verdicts giver taker m held table).answer ≡ true
granted_by giver taker m held table g t =
    ap (λ p. is_given (cond p (cond (is_granted taker) (given table m.to held (access_granted giver taker m.access)) (refused table (Denied m.to taker)))
    (refused table (Denied m.from giver))).answer) g
    ∙ ap (λ q. is_given (cond q (given table m.to held (access_granted giver taker m.access)) (refused table (Denied m.to taker))).answer) t

pub allowed_are_granted : AllowedAreGranted
allowed_are_granted ns policies m table a =
    ap (λ holder. is_given (by_held holder ns policies m table).answer) a.is_held
    ∙ ap (λ more. is_given (cond more (refused table (MoreAccess a.held.access.0)) (by_opening (opening_of ns a.held m.access) policies m a.held table)).answer) a.within
    ∙ ap (λ call. is_given (by_opening call policies m a.held table).answer) a.opens
    ∙ granted_by (verdict_of (policy_at policies m.from) a.call.tag a.call.args) (verdict_of (policy_at policies m.to) a.call.tag a.call.args) m a.held table a.giver a.taker

-- ---- refused moves

pub refused_moves_change_nothing : RefusedMovesChangeNothing
refused_moves_change_nothing ns policies m table h = by_holder (held_by table m.from m.handle) h
  where
    by_tests : (giver taker : Verdict) (held : Held) (p q : Bool)
        → is_given (cond p (cond q (given table m.to held (access_granted giver taker m.access)) (refused table (Denied m.to taker))) (refused table (Denied m.from giver))).answer ≡ false
        → (cond p (cond q (given table m.to held (access_granted giver taker m.access)) (refused table (Denied m.to taker))) (refused table (Denied m.from giver))).table ≡ table
    by_tests giver taker held true true h = absurd (false≢true (sym h))
    by_tests giver taker held true false h = refl
    by_tests giver taker held false q h = refl

    by_call : (held : Held) (call : Option Opening) → is_given (by_opening call policies m held table).answer ≡ false → (by_opening call policies m held table).table ≡ table
    by_call held None h = refl
    by_call held (Some call) h =
        by_tests (verdict_of (policy_at policies m.from) call.tag call.args) (verdict_of (policy_at policies m.to) call.tag call.args) held
        (is_granted (verdict_of (policy_at policies m.from) call.tag call.args)) (is_granted (verdict_of (policy_at policies m.to) call.tag call.args)) h

    by_access : (held : Held) (more : Bool)
        → is_given (cond more (refused table (MoreAccess held.access.0)) (by_opening (opening_of ns held m.access) policies m held table)).answer ≡ false
        → (cond more (refused table (MoreAccess held.access.0)) (by_opening (opening_of ns held m.access) policies m held table)).table ≡ table
    by_access held true h = refl
    by_access held false h = by_call held (opening_of ns held m.access) h

    by_holder : (holder : Option Held) → is_given (by_held holder ns policies m table).answer ≡ false → (by_held holder ns policies m table).table ≡ table
    by_holder None h = refl
    by_holder (Some held) h = by_access held (has_more m.access held.access.0) h

-- ---- chains

within_bits : (access held : ℕ) → has_more access held ≡ false → bit_and access held ≡ access
within_bits access held h = by (bit_and access held) access h
  where
    by : (a b : ℕ) → not (a == b) ≡ false → a ≡ b
    by a b h = grind (arith, nat_tests)

pub pass_keeps : (copied : List OpenHandle) (ns : Space) (policies : List Policy) (m : Move) (table : Table) → AreKept copied table.handles
    → AreKept copied (pass ns policies m table).table.handles
pass_keeps copied ns policies m table kept = by_holder (held_by table m.from m.handle) refl
  where
    by_tests : (giver taker : Verdict) (held : Held) → held_by table m.from m.handle ≡ Some held → has_more m.access held.access.0 ≡ false → (p q : Bool)
        → AreKept copied (cond p (cond q (given table m.to held (access_granted giver taker m.access)) (refused table (Denied m.to taker))) (refused table (Denied m.from giver))).table.handles
    by_tests giver taker held e w true true =
        kept_one copied table m.from m.handle m.to (access_granted giver taker m.access) held kept e
        (granted_within giver taker m.access held.access.0 (within_bits m.access held.access.0 w))
    by_tests giver taker held e w true false = kept
    by_tests giver taker held e w false q = kept

    by_call : (held : Held) → held_by table m.from m.handle ≡ Some held → has_more m.access held.access.0 ≡ false → (call : Option Opening)
        → AreKept copied (by_opening call policies m held table).table.handles
    by_call held e w None = kept
    by_call held e w (Some call) =
        by_tests (verdict_of (policy_at policies m.from) call.tag call.args) (verdict_of (policy_at policies m.to) call.tag call.args) held e w
        (is_granted (verdict_of (policy_at policies m.from) call.tag call.args)) (is_granted (verdict_of (policy_at policies m.to) call.tag call.args))

    by_access : (held : Held) → held_by table m.from m.handle ≡ Some held → (more : Bool) → has_more m.access held.access.0 ≡ more
        → AreKept copied (cond more (refused table (MoreAccess held.access.0)) (by_opening (opening_of ns held m.access) policies m held table)).table.handles
    by_access held e true w = kept
    by_access held e false w = by_call held e w (opening_of ns held m.access)

    by_holder : (holder : Option Held) → held_by table m.from m.handle ≡ holder → AreKept copied (by_held holder ns policies m table).table.handles
    by_holder None e = kept
    by_holder (Some held) e = by_access held e (has_more m.access held.access.0) refl

chain_keeps : (copied : List OpenHandle) (ns : Space) (policies : List Policy) (moves : List Move) (table : Table) → AreKept copied table.handles
    → AreKept copied (table_after ns policies moves table).handles
chain_keeps copied ns policies [] table kept = kept
chain_keeps copied ns policies (m ∷ moves) table kept =
    chain_keeps copied ns policies moves (pass ns policies m table).table (pass_keeps copied ns policies m table kept)

pub chains_never_widen : ChainsNeverWiden
chains_never_widen ns policies moves table = chain_keeps table.handles ns policies moves table (kept_copied table.handles)
