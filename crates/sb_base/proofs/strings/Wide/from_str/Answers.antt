use Rattle.std.proofs.lemmas.Iterator.{YieldsList-from_chars}
use Rattle.std.proofs.lemmas.Iterator.Consumers.{YieldsList-end}
use Rattle.std.proofs.lemmas.Grind.{flat_map-append}
use Rattle.std.proofs.lemmas.List.{append-nil, map-id}
use Rattle.sb_base.proofs.strings.Wide.from_str.Goals as goal

pub returns : goal.returns
returns c =
    let t = YieldsList-end (YieldsList-from_chars c.args.text.now c.utf8.text cc) c.loop-character.yielded _ c.loop-character.yielded_by _ _ c.in-None.is c.next.ensures.steps in
    let e = map-id c.loop-character.yielded in
    cc

pub loop-character-preserved : goal.loop-character-preserved
loop-character-preserved c =
    rw (c.in_ok-extend_from_slice.ensures.items, c.loop-character.invariant, c.encode_utf16.ensures.value, flat_map-append, append-nil)
