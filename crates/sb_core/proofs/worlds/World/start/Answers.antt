use Rattle.std.proofs.Common.{◌≡◌, ◌∙◌, None, ap, length, rules, subst, sym}
use Rattle.sb_core.proofs.Names.{first_words, first_workers, IsReady, IsWorld, new_history, Script, setting_of, start_threads, start_world, WorldAt}
use Rattle.sb_book.specs.ReadyScripts.{Ready}
use Rattle.sb_core.proofs.Starting.{starts_world}
use Rattle.sb_core.proofs.worlds.World.start.Goals as goal

pub invariant_of-result : goal.invariant_of-result
invariant_of-result c =
    let policies = c.args.start.policies in
    let script = c.args.start.script in
    let same : c.script-script.result.now ≡ script = c.script-script.ensures ∙ ap (λ (z : Ready). z.script) c.ready-ready.ensures in
    let ready : IsReady policies script = subst (λ (z : Ready). IsReady z.policies z.script) c.ready-ready.ensures c.establish_ready.ensures in
    let words : c.in_ok-first_words.field-0.items ≡ first_words script.targets = search rules in
    let book : c.new.result ≡ new_history (setting_of policies script) = c.new.ensures in
    let workers : c.in_ok-first_workers.field-0.items ≡ first_workers script.targets (length script.targets) = c.in_ok-first_workers.ensures ∙ ap (λ (z : Script). first_workers z.targets (length z.targets)) same in
    let threads : c.in_ok-first_threads.field-0.items ≡ start_threads script (length script.targets) = c.in_ok-first_threads.ensures ∙ ap (λ (z : Script). start_threads z (length z.targets)) same in
    let made : record {
      shared = record { words = c.in_ok-first_words.field-0.items; turn = None; book = c.new.result };
      workers = c.in_ok-first_workers.field-0.items;
      threads = c.in_ok-first_threads.field-0.items;
    } ≡ start_world policies script =
    λ i. record { shared = record { words = words i; turn = None; book = book i }; workers = workers i; threads = threads i } in
    subst (λ (world : WorldAt). IsWorld world) (sym made)
    (starts_world c.sound_parts.ensures.targets c.sound_parts.ensures.statements policies script ready)
