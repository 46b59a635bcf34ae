use Rattle.std.specs.Prelude.{is_some}
use Rattle.std.proofs.Common.{rules, ◌≡◌, ◌∙◌, sym, ap, Some, None, true, false, length}
use Rattle.sb_services.specs.PipeKeeping.{is_numbered, name_at}
use Rattle.sb_services.specs.Pipes.{Pipes, closed, fewer}
use Rattle.sb_services.proofs.NamedPipes.{kept_low, stands_under, no_name}
use Rattle.sb_services.proofs.PipeServiceLemmas.{kept_fewer, kept_gone}
use Rattle.sb_services.proofs.pipes.PipeService.close.Goals as goal

pub drop_handle-requires-clause-under : goal.drop_handle-requires-clause-under
drop_handle-requires-clause-under c =
    let kept : name_at c.self.inside.names.items c.args.number ≡ Some c.in-Some.name.now = search rules in
    stands_under c.self.inside.names.items c.self.inside.rows c.args.number c.in-Some.name.now kept c.self.invariant.1

pub drop_handle-requires-clause-there : goal.drop_handle-requires-clause-there
drop_handle-requires-clause-there c =
    let kept : name_at c.self.inside.names.items c.args.number ≡ Some c.in-Some.name.now = search rules in
    c.self.invariant.2 c.args.number (ap is_some kept)

pub invariant_of-self : goal.invariant_of-self
invariant_of-self c =
    let kept : name_at c.self.inside.names.items c.args.number ≡ Some c.in-Some.name.now = search rules in
    let gone : is_numbered c.drop_handle.new.rows c.args.number ≡ false = search rules in
    kept_gone c.self.inside.names.items c.forget.new.names.items c.self.inside.rows c.drop_handle.new.rows c.args.number c.drop_handle.ensures.rows gone
    (kept_low c.self.inside.names.items c.args.number c.in-Some.name.now kept) c.forget.ensures c.self.invariant

pub invariant_of-self-else-drop_handle : goal.invariant_of-self-else-drop_handle
invariant_of-self-else-drop_handle c =
    let there : is_numbered c.drop_handle.new.rows c.args.number ≡ true = search rules in
    kept_fewer c.self.inside.names.items c.self.inside.rows c.drop_handle.new.rows c.args.number c.drop_handle.ensures.rows there c.self.invariant

pub returns-in_default : goal.returns-in_default
returns-in_default c =
    let kept : name_at c.self.inside.names.items c.args.number ≡ None = search rules in
    let same : fewer c.self.inside.rows c.args.number ≡ c.self.inside.rows = no_name c.self.inside.names.items c.self.inside.rows c.args.number kept c.self.invariant.1 in
    let inside : Pipes = record { rows = c.self.inside.rows; made = length c.self.inside.names.items } in
    sym (ap (λ pipes. closed pipes c.args.number) (sym c.self.view_is) ∙ ap (λ rows. record inside { rows = rows }) same ∙ c.self.view_is)
