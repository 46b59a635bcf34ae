use Rattle.std.proofs.Common.{rules, ◌≡◌, ◌∙◌, ◌-◌, ap, subst, sym}
use Rattle.std.specs.List.{slice_get}
use Rattle.std.specs.Prelude.{Some}
use Rattle.sb_names.specs.Objects.{IsNameBy}
use Rattle.sb_services.specs.Events.{number_of}
use Rattle.sb_services.proofs.KeptEvents.{name_kept}
use Rattle.sb_services.proofs.events.EventService.name_of.Goals as goal

pub returns-in_ok-from_units-in-Some : goal.returns-in_ok-from_units-in-Some
returns-in_ok-from_units-in-Some c =
    let name = c.in-Some.name.now in
    let at : slice_get c.self.inside.names.items (c.args.number - 1) ≡ Some name =
    ap (λ names. slice_get names (c.args.number - 1)) (sym c.deref.ensures.value) ∙ c.in-Some.ensures.some.1 in
    let copied : c.in_ok-from_units-in-Some.field-0 ≡ name = search rules in
    subst (λ us. IsNameBy number_of c.args.self.now.rows c.args.number (Some us)) (sym copied)
    (subst (λ e. IsNameBy number_of e.rows c.args.number (Some name)) c.self.view_is
    (name_kept c.self.inside.rows c.self.inside.names.items (c.args.number - 1) c.args.number name c.self.invariant at c.in-Some.ensures.some.0))
