-- Pipes alone are not opened by a call.
use Rattle.std.proofs.Common.{◌≡◌, ◌∙◌, ◌⊎◌, inl, inr, ℕ, Bool, true, false, cond, ap, refl, sym, subst, List, Option, None, Some}
use Rattle.std.specs.Prelude.{option_map}
use Rattle.std.proofs.lemmas.List.Elements.{All-contains, All-from_recursion}
use Rattle.sb_dup.specs.Names.{name_by}
use Rattle.sb_dup.specs.Openings.{opening_by, opening_named, opening_of}
use Rattle.sb_dup.specs.PassLaws.{GivesPipe, OnlyPipesAreNotOpened, PipesAreNotOpened}
use Rattle.sb_dup.specs.Passes.{access_granted, by_held, by_opening, given, has_more, is_granted, refused}
use Rattle.sb_dup.specs.Passings.{AreKept}
use Rattle.sb_dup.specs.declared.moves.MoveAnswer.TheVariants.{MoreAccess, NoOpening, Denied}
use Rattle.sb_dup.specs.declared.openings.Opening.{Opening}
use Rattle.sb_dup.proofs.Keeping.{each_from, found_one}
use Rattle.sb_dup.proofs.Naming.{name_found}
use Rattle.sb_services.specs.Events as events
use Rattle.sb_handles.specs.Tables.{Table, held_by, is_of}
use Rattle.sb_handles.specs.declared.objects.Held.{Held}
use Rattle.sb_handles.specs.declared.objects.Object.{Object}
use Rattle.sb_handles.specs.declared.objects.OpenHandle.{OpenHandle}
use Rattle.sb_handles.specs.declared.objects.Service.{Service}
use Rattle.sb_handles.specs.declared.objects.Service.TheVariants as service
use Rattle.sb_kernel.specs.Held.{HasRow, itself}
use Rattle.sb_kernel.specs.Kept.{IsSound}
use Rattle.sb_kernel.specs.Namespaces.{Space}
use Rattle.sb_rule.specs.Verdicts.{policy_at, verdict_of}
use Rattle.sb_rule.specs.declared.verdicts.Verdict.{Verdict}

-- ---- names

-- an object that has its row has a name, unless it is a pipe
has_name : (s : Service) (ns : Space) (n : ℕ) → IsSound ns → HasRow ns s n → (s ≡ service.Pipe) ⊎ ((name : List ℕ) × (Some name ≡ name_by s ns n))
has_name service.File ns n sound h =
    inr (h.0, name_found itself ns.files.names h.0 n sound.files_are.objects.made.distinct (ap (option_map itself) h.2 ∙ ap Some h.3))
has_name service.Pipe ns n sound h = inl refl
has_name service.Key ns n sound h =
    inr (h.0, name_found itself ns.keys.names h.0 n sound.keys_are.made.distinct (ap (option_map itself) h.2 ∙ ap Some h.3))
has_name service.Event ns n sound h =
    inr (h.0, name_found events.number_of ns.events.rows h.0 n sound.events_are.made.numbered.distinct (ap (option_map events.number_of) h.2 ∙ ap Some h.3))

-- what has a name is opened by a call, unless it is a pipe
unopened_by : (s : Service) (name : List ℕ) (access sharing : ℕ) → opening_by s name access sharing ≡ None → s ≡ service.Pipe
unopened_by service.File name access sharing h = absurd cc
unopened_by service.Pipe name access sharing h = refl
unopened_by service.Key name access sharing h = absurd cc
unopened_by service.Event name access sharing h = absurd cc

unopened : (ns : Space) (held : Held) (access : ℕ) → IsSound ns → HasRow ns held.object.service held.object.number → opening_of ns held access ≡ None
    → held.object.service ≡ service.Pipe
unopened ns held access sound row h = by (has_name held.object.service ns held.object.number sound row)
  where
    by : (held.object.service ≡ service.Pipe) ⊎ ((name : List ℕ) × (Some name ≡ name_by held.object.service ns held.object.number)) → held.object.service ≡ service.Pipe
    by (inl pipe) = pipe
    by (inr named) =
        unopened_by held.object.service named.0 access held.sharing.0 (ap (λ name. opening_named name held access) named.1 ∙ h)

-- a pipe is not opened by a call
pipe_unopened : (s : Service) (name : Option (List ℕ)) (held : Held) (access : ℕ) → held.object.service ≡ s → s ≡ service.Pipe → opening_named name held access ≡ None
pipe_unopened s None held access e pipe = refl
pipe_unopened s (Some name) held access e pipe = ap (λ s. opening_by s name access held.sharing.0) (e ∙ pipe)

-- ---- rows

-- what a handle is open on has its row, also after moves
row_of : (ns : Space) (table : Table) (target number : ℕ) (held : Held) → IsSound ns → AreKept ns.handles.handles table.handles
    → held_by table target number ≡ Some held → HasRow ns held.object.service held.object.number
row_of ns table target number held sound kept e =
    let copied = ns.handles.handles in
    let found = found_one copied table.handles (is_of target number) held (each_from copied table.handles kept) e in
    let P : OpenHandle → Type 0 = λ handle. HasRow ns handle.held.object.service handle.held.object.number in
    let row : P found.1.source = All-contains P copied found.1.source (All-from_recursion P copied sound.kept.held.rows) found.1.is_copied in
    let same : held.object ≡ found.1.source.held.object = ap (λ (h : Held). h.object) (sym found.2) ∙ found.1.is_no_wider.object in
    subst (λ (o : Object). HasRow ns o.service o.number) (sym same) row

-- ---- the laws

pub only_pipes_are_not_opened : OnlyPipesAreNotOpened
only_pipes_are_not_opened ns policies m table sound kept h = by_holder (held_by table m.from m.handle) refl h
  where
    by_tests : (giver taker : Verdict) (held : Held) (p q : Bool)
        → (cond p (cond q (given table m.to held (access_granted giver taker m.access)) (refused table (Denied m.to taker))) (refused table (Denied m.from giver))).answer ≡ NoOpening
        → ⊥
    by_tests giver taker held true true h = cc
    by_tests giver taker held true false h = cc
    by_tests giver taker held false q h = cc

    by_call : (held : Held) → held_by table m.from m.handle ≡ Some held → has_more m.access held.access.0 ≡ false
        → (call : Option Opening) → opening_of ns held m.access ≡ call → (by_opening call policies m held table).answer ≡ NoOpening → GivesPipe m table
    by_call held e w None o h =
        record { held = held; is_held = e; within = w; is_pipe = unopened ns held m.access sound (row_of ns table m.from m.handle held sound kept e) o }
    by_call held e w (Some call) o h =
        let giver = verdict_of (policy_at policies m.from) call.tag call.args in
        let taker = verdict_of (policy_at policies m.to) call.tag call.args in
        absurd (by_tests giver taker held (is_granted giver) (is_granted taker) h)

    by_access : (held : Held) → held_by table m.from m.handle ≡ Some held → (more : Bool) → has_more m.access held.access.0 ≡ more
        → (cond more (refused table (MoreAccess held.access.0)) (by_opening (opening_of ns held m.access) policies m held table)).answer ≡ NoOpening → GivesPipe m table
    by_access held e true w h = absurd cc
    by_access held e false w h = by_call held e w (opening_of ns held m.access) refl h

    by_holder : (holder : Option Held) → held_by table m.from m.handle ≡ holder → (by_held holder ns policies m table).answer ≡ NoOpening → GivesPipe m table
    by_holder None e h = absurd cc
    by_holder (Some held) e h = by_access held e (has_more m.access held.access.0) refl h

pub pipes_are_not_opened : PipesAreNotOpened
pipes_are_not_opened ns policies m table g =
    ap (λ holder. (by_held holder ns policies m table).answer) g.is_held
    ∙ ap (λ more. (cond more (refused table (MoreAccess g.held.access.0)) (by_opening (opening_of ns g.held m.access) policies m g.held table)).answer) g.within
    ∙ ap (λ call. (by_opening call policies m g.held table).answer) (pipe_unopened g.held.object.service (name_by g.held.object.service ns g.held.object.number) g.held m.access refl g.is_pipe)
