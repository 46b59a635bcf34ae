use Rattle.std.proofs.Common.{◌≡◌, ◌++◌, codes, rules}
use Rattle.sb_transcript.specs.Fields.{counted, totals_fields}
use Rattle.sb_transcript.proofs.Putting.{after_word, fields_after}
use Rattle.sb_transcript.proofs.writing.put_totals.Goals as goal

pub returns : goal.returns
returns c =
    let t = c.args.totals.now in
    let word : c.extend_from_slice.new.self.items ≡ c.args.text.now.items ++ codes "total" = search rules in
    let entries = counted (codes "entries") t.entries in
    let performed = counted (codes "performed") t.performed in
    let faked = counted (codes "faked") t.faked in
    let denied = counted (codes "denied") t.denied in
    let refused = counted (codes "refused") t.refused in
    let results = counted (codes "results") t.results in
    let two = fields_after c.extend_from_slice.new.self.items _ _ entries performed c.in_ok-put_counted.ensures c.in_ok-put_counted-2.ensures in
    let three = fields_after c.extend_from_slice.new.self.items _ _ (entries ++ performed) faked two c.in_ok-put_counted-3.ensures in
    let four = fields_after c.extend_from_slice.new.self.items _ _ (entries ++ performed ++ faked) denied three c.in_ok-put_counted-4.ensures in
    let five = fields_after c.extend_from_slice.new.self.items _ _ (entries ++ performed ++ faked ++ denied) refused four c.in_ok-put_counted-5.ensures in
    let six = fields_after c.extend_from_slice.new.self.items _ _ (entries ++ performed ++ faked ++ denied ++ refused) results five c.in_ok-put_counted-6.ensures in
    after_word c.args.text.now.items (codes "total") c.extend_from_slice.new.self.items _ (totals_fields t) word six
