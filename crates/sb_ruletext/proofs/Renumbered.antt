-- Policies whose lines are given other numbers.
use Rattle.std.proofs.Common.{◌≡◌, refl, sym, ap, ◌∙◌, ℕ, suc, ◌+◌, List, [], ◌∷◌, ◌++◌, Bool, true, false, ◌||◌, nat_le, nat_lt, cond, length, map, Result, Ok, Err, codes}
use Rattle.std.specs.List.{list_any}
use Rattle.sb_call.specs.ShortNames.{is_short_name}
use Rattle.sb_rule.specs.declared.cells.Cell.{Cell}
use Rattle.sb_rule.specs.WellMade.{is_for_readers, is_named}
use Rattle.sb_rule.specs.declared.actions.Action.{Action}
use Rattle.sb_rule.specs.declared.policies.Policy.{Policy}
use Rattle.sb_rule.specs.declared.policies.Rule.{Rule}
use Rattle.sb_ruletext.proofs.Added.{added}
use Rattle.sb_ruletext.proofs.Prefixes.{read_by_lines}
use Rattle.sb_ruletext.specs.Grants.{rules_of}
use Rattle.sb_ruletext.specs.Laws.{renumbered_rule, renumbered_policy, SkippedLinesCountAlone}
use Rattle.sb_ruletext.specs.Conditions.{cells_at}
use Rattle.sb_ruletext.specs.Lines.{name_at, with_policy, heading, call_at, first_word_fault, when_of, rule, grant_at, grant, with_rules, with_last_rules, line_of}
use Rattle.sb_ruletext.specs.PolicyTexts.{grammar}
use Rattle.sb_call.specs.CallWords.{is_word}
use Rattle.sb_ruletext.specs.Words.{action_of}
use Rattle.sb_ruletext.specs.declared.faults.PolicyFaultKind.{PolicyFaultKind}
use Rattle.sb_ruletext.specs.declared.faults.WordDue.TheVariants as word_due
use Rattle.sb_ruletext.specs.declared.faults.PolicyFaultKind.TheVariants.{TooMany, OtherWord, UnknownWord, SameName, NotReadOnly}
use Rattle.sb_ruletext.specs.declared.faults.PolicyLimit.TheVariants.{Policies, Rules}
use Rattle.sb_ruletext.specs.declared.grants.Grant.{Grant}
use Rattle.sb_ruletext.specs.declared.grants.Grant.TheVariants.{FilesAny, FilesReadonly, FilesQuery, PipesAny, RegistryAny, RegistryReadonly, EventsAny, EventsReadonly}
use Rattle.sb_text.specs.LineLaws.{ended}
use Rattle.sb_text.specs.Lines.{raw_lines}
use Rattle.sb_text.specs.ReadingLaws as laws
use Rattle.sb_text.specs.Readings.{renumbered, behind}
use Rattle.sb_text.specs.Steps.{◌>>=◌, or_fails, unless_fails, at_token, on_value, Read, end_at}
use Rattle.sb_text.specs.declared.refusals.TokenFault.{TokenFault}
use Rattle.sb_text.specs.declared.refusals.WordFault.TheVariants.{Unquoted, Extra, Broken}
use Rattle.sb_text.specs.Tokens.{Lexemes, Next, End, Word, Quoted, Bad, tokens_of}

then : {A B C E : Type 0} (f : B → C) (first : Result A E) (g : A → Result B E) (h : A → Result C E)
    → ((x : A) → on_value f (g x) ≡ h x) → on_value f (first >>= g) ≡ (first >>= h)
then f (Ok x) g h same = same x
then f (Err e) g h same = refl

granted : (f : ℕ → ℕ) (line : ℕ) (grant : Grant) (pattern : List Cell) → map (renumbered_rule f) (rules_of line grant pattern) ≡ rules_of (f line) grant pattern
granted f line FilesAny pattern = refl
granted f line FilesReadonly pattern = refl
granted f line FilesQuery pattern = refl
granted f line PipesAny pattern = refl
granted f line RegistryAny pattern = refl
granted f line RegistryReadonly pattern = refl
granted f line EventsAny pattern = refl
granted f line EventsReadonly pattern = refl

rule_moves : (f : ℕ → ℕ) (line : ℕ) (action : Action) (tokens : Lexemes)
    → on_value (map (renumbered_rule f)) (rule line action tokens) ≡ rule (f line) action tokens
unfolding rule
rule_moves f line action tokens =
    then (map (renumbered_rule f)) (call_at tokens) _ _ (λ call.
    then (map (renumbered_rule f)) (unless_fails tokens NotReadOnly (is_for_readers action call.0)) _ _ (λ may.
    then (map (renumbered_rule f)) (when_of call.0 call.1) _ _ (λ conds. refl)))

grant_moves : (f : ℕ → ℕ) (line : ℕ) (tokens : Lexemes)
    → on_value (map (renumbered_rule f)) (grant line tokens) ≡ grant (f line) tokens
unfolding grant
grant_moves f line tokens =
    then (map (renumbered_rule f)) (grant_at tokens) _ _ (λ grant.
    then (map (renumbered_rule f)) (cells_at (UnknownWord Unquoted) grant.1) _ _ (λ cells.
    then (map (renumbered_rule f)) (end_at (UnknownWord Extra) (UnknownWord Broken) cells.1) _ _ (λ end. ap Ok (granted f line grant.0 cells.0))))

same_names : (f : ℕ → ℕ) (name : List ℕ) (policies : List Policy) → list_any (is_named name) (map (renumbered_policy f) policies) ≡ list_any (is_named name) policies
same_names f name [] = refl
same_names f name (policy ∷ policies) = ap (λ b. is_named name policy || b) (same_names f name policies)

length_map : {A B : Type 0} (f : A → B) (xs : List A) → length (map f xs) ≡ length xs
length_map f [] = refl
length_map f (x ∷ xs) = ap suc (length_map f xs)

map_append : {A B : Type 0} (f : A → B) (xs ys : List A) → map f (xs ++ ys) ≡ map f xs ++ map f ys
map_append f [] ys = refl
map_append f (x ∷ xs) ys = ap (λ zs. f x ∷ zs) (map_append f xs ys)

moved : {A B C D E : Type 0} (f : A → C) (g : B → D) (first : Result A E) (other : Result C E) (k : A → Result B E) (m : C → Result D E)
    → on_value f first ≡ other → ((x : A) → on_value g (k x) ≡ m (f x)) → on_value g (first >>= k) ≡ (other >>= m)
moved f g (Ok x) other k m e h = h x ∙ ap (λ r. r >>= m) e
moved f g (Err fault) other k m e h = ap (λ r. r >>= m) e

choice : {A B E : Type 0} (f : A → B) (b : Bool) (x y : Result A E) (v w : Result B E) → on_value f x ≡ v → on_value f y ≡ w
    → on_value f (cond b x y) ≡ cond b v w
choice f true x y v w h k = h
choice f false x y v w h k = k

same_room : (f : ℕ → ℕ) (old rules : List Rule)
    → nat_le (length old + length rules) 256 ≡ nat_le (length (map (renumbered_rule f) old) + length (map (renumbered_rule f) rules)) 256
same_room f old rules =
    sym (ap (λ n. nat_le (n + length (map (renumbered_rule f) rules)) 256) (length_map (renumbered_rule f) old)
    ∙ ap (λ n. nat_le (length old + n) 256) (length_map (renumbered_rule f) rules))

rules_move : (f : ℕ → ℕ) (policy : Policy) (rules : List Rule)
    → on_value (renumbered_policy f) (with_rules policy rules) ≡ with_rules (renumbered_policy f policy) (map (renumbered_rule f) rules)
rules_move f policy rules =
    choice (renumbered_policy f) (nat_le (length policy.rules + length rules) 256) (Ok (record { name = policy.name; rules = policy.rules ++ rules })) (Err (TooMany Rules))
    (Ok (record { name = policy.name; rules = map (renumbered_rule f) policy.rules ++ map (renumbered_rule f) rules })) (Err (TooMany Rules))
    (ap (λ rs. Ok (record { name = policy.name; rules = rs })) (map_append (renumbered_rule f) policy.rules rules)) refl
    ∙ ap (λ b. cond b (Ok (record { name = policy.name; rules = map (renumbered_rule f) policy.rules ++ map (renumbered_rule f) rules })) (Err (TooMany Rules)))
    (same_room f policy.rules rules)

last_moves : (f : ℕ → ℕ) (policies : List Policy) (rules : List Rule)
    → on_value (map (renumbered_policy f)) (with_last_rules policies rules) ≡ with_last_rules (map (renumbered_policy f) policies) (map (renumbered_rule f) rules)
unfolding with_last_rules
last_moves f [] rules = refl
last_moves f (policy ∷ []) rules =
    moved (renumbered_policy f) (map (renumbered_policy f)) (with_rules policy rules) _ (λ last. Ok (last ∷ [])) (λ last. Ok (last ∷ []))
    (rules_move f policy rules) (λ last. refl)
last_moves f (policy ∷ next ∷ policies) rules =
    moved (map (renumbered_policy f)) (map (renumbered_policy f)) (with_last_rules (next ∷ policies) rules) _
    (λ others. Ok (policy ∷ others)) (λ others. Ok (renumbered_policy f policy ∷ others)) (last_moves f (next ∷ policies) rules) (λ others. refl)

placed : {A B : Type 0} (g : A → B) (line : Lexemes) (r : Result A PolicyFaultKind) (s : Result B PolicyFaultKind) → on_value g r ≡ s
    → on_value g (at_token line r) ≡ at_token line s
placed g line (Ok x) s e = ap (at_token line) e
placed g line (Err kind) s e = ap (at_token line) e

added_moves : (f : ℕ → ℕ) (line : Lexemes) (policies : List Policy) (rules others : Result (List Rule) (TokenFault PolicyFaultKind))
    → on_value (map (renumbered_rule f)) rules ≡ others
    → on_value (map (renumbered_policy f)) (added line policies rules) ≡ added line (map (renumbered_policy f) policies) others
added_moves f line [] rules others h = refl
added_moves f line (policy ∷ policies) rules others h =
    moved (map (renumbered_rule f)) (map (renumbered_policy f)) rules others (λ rules. at_token line (with_last_rules (policy ∷ policies) rules))
    (λ rules. at_token line (with_last_rules (map (renumbered_policy f) (policy ∷ policies)) rules)) h
    (λ rules. placed (map (renumbered_policy f)) line _ _ (last_moves f (policy ∷ policies) rules))

same_name : (f : ℕ → ℕ) (policies : List Policy) (tokens : Lexemes) → name_at policies tokens ≡ name_at (map (renumbered_policy f) policies) tokens
same_name f policies (Next place (Word w) tokens) =
    ap (λ b. at_token (Next place (Word w) tokens) (cond (is_short_name w) (cond b (Err SameName) (Ok w)) (Err (OtherWord word_due.Name))) >>= λ name. Ok (name, tokens)) (sym (same_names f w policies))
same_name f policies (End place) = refl
same_name f policies (Next place (Quoted q) tokens) = refl
same_name f policies (Next place Bad tokens) = refl

policy_moves : (f : ℕ → ℕ) (policies : List Policy) (name : List ℕ)
    → on_value (map (renumbered_policy f)) (with_policy policies name) ≡ with_policy (map (renumbered_policy f) policies) name
policy_moves f policies name =
    choice (map (renumbered_policy f)) (nat_lt (length policies) 8) (Ok (policies ++ record { name = name; rules = [] } ∷ [])) (Err (TooMany Policies))
    (Ok (map (renumbered_policy f) policies ++ record { name = name; rules = [] } ∷ [])) (Err (TooMany Policies))
    (ap Ok (map_append (renumbered_policy f) policies (record { name = name; rules = [] } ∷ []))) refl
    ∙ ap (λ n. cond (nat_lt n 8) (Ok (map (renumbered_policy f) policies ++ record { name = name; rules = [] } ∷ [])) (Err (TooMany Policies)))
    (sym (length_map (renumbered_policy f) policies))

heading_moves : (f : ℕ → ℕ) (policies : List Policy) (line tokens : Lexemes)
    → on_value (map (renumbered_policy f)) (heading policies line tokens) ≡ heading (map (renumbered_policy f) policies) line tokens
unfolding heading
heading_moves f policies line tokens =
    then (map (renumbered_policy f)) (name_at policies tokens) _
    (λ name. end_at (UnknownWord Extra) (UnknownWord Broken) name.1 >>= λ end. at_token line (with_policy (map (renumbered_policy f) policies) name.0))
    (λ name. then (map (renumbered_policy f)) (end_at (UnknownWord Extra) (UnknownWord Broken) name.1) _ _
    (λ end. placed (map (renumbered_policy f)) line _ _ (policy_moves f policies name.0)))
    ∙ ap (λ (read : Read (List ℕ) PolicyFaultKind). read
    >>= λ name. end_at (UnknownWord Extra) (UnknownWord Broken) name.1 >>= λ end. at_token line (with_policy (map (renumbered_policy f) policies) name.0)) (same_name f policies tokens)

-- a line adds the same, with other numbers
line_moves : (f : ℕ → ℕ) (version : ℕ) (policies : List Policy) (line : ℕ) (tokens : Lexemes)
    → on_value (map (renumbered_policy f)) (line_of version policies line tokens) ≡ line_of version (map (renumbered_policy f) policies) (f line) tokens
unfolding line_of
line_moves f version policies line (Next place (Word w) tokens) =
    choice (map (renumbered_policy f)) (is_word (codes "policy") w) _ _ _ _ (heading_moves f policies (Next place (Word w) tokens) tokens)
    (choice (map (renumbered_policy f)) (is_word (codes "grant") w) _ _ _ _
    (added_moves f (Next place (Word w) tokens) policies (grant line tokens) (grant (f line) tokens) (grant_moves f line tokens))
    (then (map (renumbered_policy f)) (or_fails (Next place (Word w) tokens) (first_word_fault w) (action_of version w)) _ _
    (λ action. added_moves f (Next place (Word w) tokens) policies (rule line action tokens) (rule (f line) action tokens) (rule_moves f line action tokens))))
line_moves f version policies line (End place) = refl
line_moves f version policies line (Next place (Quoted q) tokens) = refl
line_moves f version policies line (Next place Bad tokens) = refl

pub skipped_lines_count_alone : laws.SkippedLinesCountAlone (List Policy) PolicyFaultKind → SkippedLinesCountAlone
skipped_lines_count_alone law front line rest i k s u v =
    let f = behind (length (raw_lines (ended front))) in
    read_by_lines (ended front ++ (ended line ++ rest)) v
    ∙ law grammar (map (renumbered_policy f)) front line rest (refl, λ version policies line. line_moves f version policies line.number (tokens_of line.text)) i k s
    ∙ ap (renumbered f (map (renumbered_policy f))) (sym (read_by_lines (ended front ++ rest) u))
