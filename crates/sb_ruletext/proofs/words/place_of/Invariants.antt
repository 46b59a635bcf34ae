use Rattle.std.proofs.Common.{◌≡◌, ◌+◌, drop, map, option_map}
use Rattle.sb_ruletext.specs.Words.{place_of}
use Rattle.sb_ruletext.proofs.words.place_of.Given as goal

-- the word has its place among those that are left
abbrev pub invariant-loop-name : goal.invariant-loop-name
invariant-loop-name l = (l.place ≡ l.name-index) × (option_map (λ n. n + l.place) (place_of (map (λ name. name.now) (drop l.name-index l.names)) l.word) ≡ place_of (map (λ name. name.now) l.names) l.word)
