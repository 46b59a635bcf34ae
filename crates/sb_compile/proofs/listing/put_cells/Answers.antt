use Rattle.std.proofs.Common.{◌≡◌, ◌∙◌, ◌++◌, ◌<◌, ◌+◌, ◌∷◌, [], ℕ, List, ap, get_or, length, map, subst, sym, take}
use Rattle.std.proofs.lemmas.List.{append-nil, map-append, take_all, take_more}
use Rattle.std.proofs.lemmas.List.Concat.{flat_map-append}
use Rattle.std.specs.Prelude.{OnOk}
use Rattle.sb_base.specs.Quoting.{quoted}
use Rattle.sb_rule.specs.PatternReading.{cell_text, text_of}
use Rattle.sb_opcode.specs.Unpacking.{cell_of}
use Rattle.sb_compile.proofs.listing.put_cells.Goals as goal

text_more : (words : List ℕ) (n : ℕ) → n < length words
    → text_of (map cell_of (take n words)) ++ cell_text (cell_of (get_or words n 0)) ≡ text_of (map cell_of (take (n + 1) words))
text_more words n h =
    let word = get_or words n 0 in
    let before = map cell_of (take n words) in
    sym (ap (λ ws. text_of (map cell_of ws)) (take_more words n 0 h) ∙ ap text_of (map-append cell_of (take n words) (word ∷ []))
    ∙ flat_map-append cell_text before (cell_of word ∷ []) ∙ ap (λ l. text_of before ++ l) (append-nil (cell_text (cell_of word))))

pub loop-word-preserved : goal.loop-word-preserved
loop-word-preserved c =
    let words = c.args.cells.now in
    let n = c.loop-word.word-index in
    c.in_ok-push_cell.ensures ∙ ap (λ units. units ++ cell_text (cell_of (get_or words n 0))) c.loop-word.invariant ∙ text_more words n c.loop-word-test.true

pub returns : goal.returns
returns c =
    let words = c.args.cells.now in
    let text : c.deref.result.now ≡ text_of (map cell_of words) =
    c.deref.ensures.value ∙ c.loop-word.invariant ∙ ap (λ ws. text_of (map cell_of ws)) (take_all c.loop-word.word-index words c.loop-word-test.false)
    in
    subst (λ us. OnOk c.quote_into.result (c.quote_into.new.out.items ≡ c.args.out.now.items ++ quoted us)) text c.quote_into.ensures.ok
