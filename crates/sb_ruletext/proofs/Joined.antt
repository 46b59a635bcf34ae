-- Items that are joined by a word: what was read, and what is left.
use Rattle.std.proofs.Common.{◌≡◌, refl, sym, ap, ◌∙◌, ℕ, suc, ◌+◌, ◌-◌, ◌<◌, ◌≤◌, List, [], ◌∷◌, ◌++◌, length, length-append, true, false, Ok, Err, append_assoc, arith}
use Rattle.sb_ruletext.specs.Steps.{excess, joined_at}
use Rattle.sb_ruletext.specs.declared.faults.PolicyFaultKind.{PolicyFaultKind}
use Rattle.sb_ruletext.specs.declared.faults.PolicyLimit.{PolicyLimit}
use Rattle.sb_text.specs.Columns.{fails}
use Rattle.sb_text.specs.declared.refusals.TokenFault.{TokenFault}
use Rattle.sb_text.specs.Steps.{◌>>=◌, Read, Reads, begins_with, later}
use Rattle.sb_text.specs.Tokens.{Lexemes, place_due}
use Rattle.sb_base.specs.declared.refusals.Refused.{Refused}
use Rattle.sb_base.specs.declared.refusals.Refused.TheVariants as refused

-- how an item is read
abbrev ItemAt : Type 0 → Type 0
ItemAt A = Lexemes → Read A PolicyFaultKind

-- items that were read, and those that follow
abbrev pub with_items : {A : Type 0} → List A → Read (List A) PolicyFaultKind → Read (List A) PolicyFaultKind
with_items done (Ok read) = Ok (done ++ read.0, read.1)
with_items done (Err kind) = Err kind

one_item : {A : Type 0} (done : List A) (first : A) (others : Read (List A) PolicyFaultKind)
    → with_items done (others >>= λ others. Ok (first ∷ others.0, others.1)) ≡ with_items (done ++ first ∷ []) others
one_item done first (Ok read) = ap (λ items. Ok (items, read.1)) (sym (append_assoc done (first ∷ []) read.0))
one_item done first (Err kind) = refl

left_of : (most n : ℕ) → n < most → most - n ≡ suc (most - (n + 1))
left_of most n h = omega (arith, h)

left_after : {A : Type 0} → (most : ℕ) (done : List A) (item : A) → most - (length done + 1) ≡ most - length (done ++ item ∷ [])
left_after most done item = ap (λ n. most - n) (sym (length-append done (item ∷ [])))

grown : {A : Type 0} → (most : ℕ) (done : List A) (item : A) → length done < most → length (done ++ item ∷ []) ≤ most
grown most done item l = let e : length (done ++ item ∷ []) ≡ length done + 1 = length-append done (item ∷ []) in omega (arith, l, e)

item_bad : {A : Type 0} (limit : PolicyLimit) (k : ℕ) (joint : List ℕ) (item_at : ItemAt A) (done : List A) (tokens : Lexemes) (kind : TokenFault PolicyFaultKind)
    → item_at tokens ≡ Err kind → with_items done (joined_at limit (suc k) joint item_at tokens) ≡ Err kind
unfolding joined_at
item_bad limit k joint item_at done tokens kind h = rw (h) refl

item_last : {A : Type 0} (limit : PolicyLimit) (k : ℕ) (joint : List ℕ) (item_at : ItemAt A) (done : List A) (tokens : Lexemes) (item : A) (rest : Lexemes)
    → item_at tokens ≡ Ok (item, rest) → begins_with joint rest ≡ false
    → with_items done (joined_at limit (suc k) joint item_at tokens) ≡ Ok (done ++ item ∷ [], rest)
unfolding joined_at
item_last limit k joint item_at done tokens item rest h b = rw (h) rw (b) refl

item_more : {A : Type 0} (limit : PolicyLimit) (k : ℕ) (joint : List ℕ) (item_at : ItemAt A) (done : List A) (tokens : Lexemes) (item : A) (rest : Lexemes)
    → item_at tokens ≡ Ok (item, rest) → begins_with joint rest ≡ true
    → with_items done (joined_at limit (suc k) joint item_at tokens) ≡ with_items (done ++ item ∷ []) (joined_at limit k joint item_at (later rest))
unfolding joined_at
item_more limit k joint item_at done tokens item rest h b = rw (h) rw (b) (one_item done item (joined_at limit k joint item_at (later rest)))

-- the fault of an item
pub joined_bad : {A : Type 0} (limit : PolicyLimit) (most : ℕ) (joint : List ℕ) (item_at : ItemAt A) (done : List A) (tokens : Lexemes) (kind : TokenFault PolicyFaultKind)
    → length done < most → item_at tokens ≡ Err kind → with_items done (joined_at limit (most - length done) joint item_at tokens) ≡ Err kind
joined_bad limit most joint item_at done tokens kind l h =
    rw (left_of most (length done) l) (item_bad limit (most - (length done + 1)) joint item_at done tokens kind h)

-- the last item
pub joined_last : {A : Type 0} (limit : PolicyLimit) (most : ℕ) (joint : List ℕ) (item_at : ItemAt A) (done : List A) (tokens : Lexemes) (item : A) (rest : Lexemes)
    → length done < most → item_at tokens ≡ Ok (item, rest) → begins_with joint rest ≡ false
    → with_items done (joined_at limit (most - length done) joint item_at tokens) ≡ Ok (done ++ item ∷ [], rest)
joined_last limit most joint item_at done tokens item rest l h b =
    rw (left_of most (length done) l) (item_last limit (most - (length done + 1)) joint item_at done tokens item rest h b)

-- an item, and the word after it
pub joined_more : {A : Type 0} (limit : PolicyLimit) (most : ℕ) (joint : List ℕ) (item_at : ItemAt A) (done : List A) (tokens : Lexemes) (item : A) (rest : Lexemes)
    → length done < most → item_at tokens ≡ Ok (item, rest) → begins_with joint rest ≡ true
    → with_items done (joined_at limit (most - length done) joint item_at tokens)
    ≡ with_items (done ++ item ∷ []) (joined_at limit (most - length (done ++ item ∷ [])) joint item_at (later rest))
joined_more limit most joint item_at done tokens item rest l h b =
    rw (left_of most (length done) l) rw (sym (left_after most done item)) (item_more limit (most - (length done + 1)) joint item_at done tokens item rest h b)

-- one item too many
pub joined_full : {A : Type 0} (limit : PolicyLimit) (most : ℕ) (joint : List ℕ) (item_at : ItemAt A) (done : List A) (tokens : Lexemes) → most ≤ length done
    → with_items done (joined_at limit (most - length done) joint item_at tokens) ≡ fails tokens (excess limit tokens)
unfolding joined_at
joined_full limit most joint item_at done tokens l = let e : most - length done ≡ 0 = omega (arith, l) in rw (e) refl

-- why an item is refused is why all are
pub joined_refused : {A : Type 0} (limit : PolicyLimit) (most : ℕ) (joint : List ℕ) (item_at : ItemAt A) (done : List A) (tokens rest after : Lexemes)
    (whole : Read (List A) PolicyFaultKind) (why : Refused (TokenFault PolicyFaultKind))
    → length done < most → with_items done (joined_at limit (most - length done) joint item_at tokens) ≡ whole
    → Reads (item_at tokens) (Err why) rest → Reads whole (Err why) after
joined_refused limit most joint item_at done tokens rest after whole (refused.Fault kind) l i h = sym i ∙ joined_bad limit most joint item_at done tokens kind l h
joined_refused limit most joint item_at done tokens rest after whole refused.NoMemory l i h = tt

-- one more item was read, and the word after it
pub joined_after : {A : Type 0} (limit : PolicyLimit) (most : ℕ) (joint : List ℕ) (item_at : ItemAt A) (done now : List A) (tokens rest after : Lexemes) (item : A)
    (whole : Read (List A) PolicyFaultKind)
    → length done < most → with_items done (joined_at limit (most - length done) joint item_at tokens) ≡ whole
    → item_at tokens ≡ Ok (item, rest) → now ≡ done ++ item ∷ [] → begins_with joint rest ≡ true → after ≡ later rest
    → (length now ≤ most) × (with_items now (joined_at limit (most - length now) joint item_at after) ≡ whole)
joined_after limit most joint item_at done now tokens rest after item whole l i h e b a =
    rw (e) rw (a) (grown most done item l, sym (joined_more limit most joint item_at done tokens item rest l h b) ∙ i)

-- the last item was read, and no such word after it
pub joined_ended : {A : Type 0} (limit : PolicyLimit) (most : ℕ) (joint : List ℕ) (item_at : ItemAt A) (done now : List A) (tokens rest after : Lexemes) (item : A)
    (whole : Read (List A) PolicyFaultKind)
    → length done < most → with_items done (joined_at limit (most - length done) joint item_at tokens) ≡ whole
    → item_at tokens ≡ Ok (item, rest) → now ≡ done ++ item ∷ [] → begins_with joint rest ≡ false → after ≡ rest → whole ≡ Ok (now, after)
joined_ended limit most joint item_at done now tokens rest after item whole l i h e b a =
    rw (e) rw (a) (sym i ∙ joined_last limit most joint item_at done tokens item rest l h b)

-- one item too many is why all are refused
pub joined_over : {A : Type 0} (limit : PolicyLimit) (most : ℕ) (joint : List ℕ) (item_at : ItemAt A) (done : List A) (tokens after : Lexemes)
    (whole : Read (List A) PolicyFaultKind) (kind : PolicyFaultKind) (why : Refused (TokenFault PolicyFaultKind))
    → most ≤ length done → with_items done (joined_at limit (most - length done) joint item_at tokens) ≡ whole → kind ≡ excess limit tokens
    → why ≡ refused.Fault (record { place = place_due tokens; kind = kind }) → Reads whole (Err why) after
joined_over limit most joint item_at done tokens after whole kind why l i k w = rw (w) rw (k) (sym i ∙ joined_full limit most joint item_at done tokens l)
