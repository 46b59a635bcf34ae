use Rattle.std.proofs.Common.{◌≡◌, ◌∙◌, ◌++◌, ap, subst, sym, length, map, Some, arith}
use Rattle.sb_book.specs.Histories.{History}
use Rattle.sb_shared.specs.Closing.{Ends, part_of_thread, part_of_worker, taken_thread, taken_worker}
use Rattle.sb_shared.specs.Rooms.{all_words_from, grouped}
use Rattle.sb_shared.proofs.Closed.{book_is, channels_many, closed_run, threads_many, workers_many}
use Rattle.sb_shared.proofs.worlds.SharedWorld.close.Goals as goal

pub join_workers-states-requires-clause-room : goal.join_workers-states-requires-clause-room
join_workers-states-requires-clause-room c =
    let rooms = c.into_parts-table.ensures.rooms in
    let many = workers_many c.args.self.key.script.value.targets c.args.workers.items c.requires.workers.places in
    let room = rooms.workers.1 in
    (rooms.workers.0, omega (arith, room, many))

pub end_table-words-requires-clause-few : goal.end_table-words-requires-clause-few
end_table-words-requires-clause-few c =
    let rooms = c.into_parts-table.ensures.rooms in
    let many = ap (λ l. length l) rooms.words ∙ channels_many c.args.self.key.script.value.targets in
    let few = rooms.few in
    omega (arith, many, few)

pub end_table-words-requires-clause-room : goal.end_table-words-requires-clause-room
end_table-words-requires-clause-room c =
    let rooms = c.into_parts-table.ensures.rooms in
    let many = ap (λ l. length l) rooms.words ∙ channels_many c.args.self.key.script.value.targets in
    let room = rooms.all_words.1 in
    (rooms.all_words.0, omega (arith, many, room))

pub unreachable-requires : goal.unreachable-requires
unreachable-requires c =
    let key = c.args.self.key in
    let ws = c.args.workers.items in
    let ts = c.args.threads.items in
    let parts = c.join_threads-results.new.keeper.parts in
    let end = c.end_table-words.ensures in
    let slot = c.end_table-words.result.1 in
    let taken = c.join_threads-results.new.keeper.taken in
    let ends = subst (λ k. Ends k parts taken end.0 slot) c.into_parts-table.ensures.key end.2 in
    let taken_are : taken ≡ c.args.keeper.taken ++ map taken_worker ws ++ map taken_thread ts =
    c.join_threads-results.ensures.taken ∙ ap (λ l. l ++ map taken_thread ts) c.join_workers-states.ensures.taken in
    let parts_are : parts ≡ map part_of_worker ws ++ map part_of_thread ts =
    c.join_threads-results.ensures.parts ∙ ap (λ l. l ++ map part_of_thread ts) (c.join_workers-states.ensures.parts ∙ ap (λ l. l ++ map part_of_worker ws) c.requires.keeper.empty) in
    let is = book_is c.plans_are_there.ensures.targets key parts taken c.args.keeper.taken end.0 slot ends ws ts parts_are taken_are c.requires.workers.places c.requires.threads.places in
    let none = c.in_default.is in
    absurd cc

pub group-requires : goal.group-requires
group-requires c =
    let rooms = c.into_parts-table.ensures.rooms in
    let many = ap (λ l. length l) rooms.results ∙ threads_many c.args.self.key.script.value.targets in
    let room = rooms.all_results.1 in
    record { room = (rooms.all_results.0, omega (arith, many, room)) }

pub returns-clause-closed : goal.returns-clause-closed
returns-clause-closed c =
    let key = c.args.self.key in
    let ws = c.args.workers.items in
    let ts = c.args.threads.items in
    let rooms = c.into_parts-table.ensures.rooms in
    let parts = c.join_threads-results.new.keeper.parts in
    let end = c.end_table-words.ensures in
    let slot = c.end_table-words.result.1 in
    let taken = c.join_threads-results.new.keeper.taken in
    let ends = subst (λ k. Ends k parts taken end.0 slot) c.into_parts-table.ensures.key end.2 in
    let taken_are : taken ≡ c.args.keeper.taken ++ map taken_worker ws ++ map taken_thread ts =
    c.join_threads-results.ensures.taken ∙ ap (λ l. l ++ map taken_thread ts) c.join_workers-states.ensures.taken in
    let parts_are : parts ≡ map part_of_worker ws ++ map part_of_thread ts =
    c.join_threads-results.ensures.parts ∙ ap (λ l. l ++ map part_of_thread ts) (c.join_workers-states.ensures.parts ∙ ap (λ l. l ++ map part_of_worker ws) c.requires.keeper.empty) in
    closed_run c.plans_are_there.ensures.targets key parts taken c.args.keeper.taken end.0 slot ends ws ts parts_are taken_are c.requires.workers.places c.requires.threads.places
    (record { words = c.new.result; workers = c.join_workers-states.result; book = c.into_book.result; results = c.group.result })
    (c.new.ensures ∙ end.1 ∙ ap (all_words_from end.0 0) rooms.words) c.join_workers-states.ensures.states (c.in-Some.is ∙ ap (λ (b : History). Some b) (sym c.into_book.ensures))
    (c.group.ensures ∙ (λ i. grouped (rooms.results i) (c.join_threads-results.ensures.results i)))

pub returns-clause-workers : goal.returns-clause-workers
returns-clause-workers c = c.join_workers-states.ensures.states
