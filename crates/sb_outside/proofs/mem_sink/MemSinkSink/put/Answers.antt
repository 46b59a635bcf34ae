use Rattle.std.proofs.Common.{drop, rules, sym, take}
use Rattle.std.proofs.lemmas.List.{take-append-drop}
use Rattle.sb_outside.proofs.mem_sink.MemSinkSink.put.Goals as goal

pub returns-then-fitting-bytes-clause-prefix : goal.returns-then-fitting-bytes-clause-prefix
returns-then-fitting-bytes-clause-prefix c =
    let n = c.min-fitting.result in
    let bytes = c.args.bytes.now in
    (take n bytes, drop n bytes, sym (take-append-drop n bytes), search rules)
