-- What one pass counts of each decision is how many entries have it.
use Rattle.std.proofs.Common.{◌≡◌, ◌∙◌, ℕ, ◌+◌, cond, List, [], ◌∷◌, ap, sym, arith}
use Rattle.std.proofs.lemmas.List.Sums.{sum_by-cons}
use Rattle.sb_book.specs.Rulings.{ruling_of}
use Rattle.sb_book.specs.declared.decisions.Decision.{Decision}
use Rattle.sb_book.specs.declared.decisions.Decision.TheVariants.{Refused, Denied, Faked, Performed}
use Rattle.sb_book.specs.declared.entries.Entry.{Entry}
use Rattle.sb_transcript.specs.Counts.{no_counts, with_entries, with_ruling}
use Rattle.sb_transcript.specs.Totals.{count_of, is_performed, is_faked, is_denied, is_refused}
use Rattle.sb_transcript.specs.declared.counts.DecisionCounts.{DecisionCounts}

one_performed : (c : DecisionCounts) (d : Decision) (n : ℕ) → (with_ruling c (ruling_of d)).performed + n ≡ c.performed + (cond (is_performed d) 1 0 + n)
one_performed c (Performed tag line action args) n =
    let one : (c.performed + 1) + n ≡ c.performed + (1 + n) = omega arith in
    one
one_performed c (Faked tag line) n =
    let none : c.performed + n ≡ c.performed + (0 + n) = omega arith in
    none
one_performed c (Denied tag verdict) n =
    let none : c.performed + n ≡ c.performed + (0 + n) = omega arith in
    none
one_performed c (Refused fault) n =
    let none : c.performed + n ≡ c.performed + (0 + n) = omega arith in
    none

all_performed : (c : DecisionCounts) (es : List Entry) → (with_entries c es).performed ≡ c.performed + count_of is_performed es
all_performed c [] =
    let none : c.performed ≡ c.performed + 0 = omega arith in
    none
all_performed c (e ∷ es) =
    let more : count_of is_performed (e ∷ es) ≡ cond (is_performed e.decision) 1 0 + count_of is_performed es = sum_by-cons (λ (x : Entry). cond (is_performed x.decision) 1 0) e es in
    all_performed (with_ruling c (ruling_of e.decision)) es ∙ one_performed c e.decision (count_of is_performed es) ∙ ap (λ n. c.performed + n) (sym more)

pub performed_counts : (counts : DecisionCounts) (es : List Entry) → counts ≡ with_entries no_counts es → counts.performed ≡ count_of is_performed es
performed_counts counts es e =
    let grown : (with_entries no_counts es).performed ≡ 0 + count_of is_performed es = all_performed no_counts es in
    let whole : (with_entries no_counts es).performed ≡ count_of is_performed es = omega (arith, grown) in
    let same : counts.performed ≡ (with_entries no_counts es).performed = ap (λ (c : DecisionCounts). c.performed) e in
    same ∙ whole

one_faked : (c : DecisionCounts) (d : Decision) (n : ℕ) → (with_ruling c (ruling_of d)).faked + n ≡ c.faked + (cond (is_faked d) 1 0 + n)
one_faked c (Performed tag line action args) n =
    let none : c.faked + n ≡ c.faked + (0 + n) = omega arith in
    none
one_faked c (Faked tag line) n =
    let one : (c.faked + 1) + n ≡ c.faked + (1 + n) = omega arith in
    one
one_faked c (Denied tag verdict) n =
    let none : c.faked + n ≡ c.faked + (0 + n) = omega arith in
    none
one_faked c (Refused fault) n =
    let none : c.faked + n ≡ c.faked + (0 + n) = omega arith in
    none

all_faked : (c : DecisionCounts) (es : List Entry) → (with_entries c es).faked ≡ c.faked + count_of is_faked es
all_faked c [] =
    let none : c.faked ≡ c.faked + 0 = omega arith in
    none
all_faked c (e ∷ es) =
    let more : count_of is_faked (e ∷ es) ≡ cond (is_faked e.decision) 1 0 + count_of is_faked es = sum_by-cons (λ (x : Entry). cond (is_faked x.decision) 1 0) e es in
    all_faked (with_ruling c (ruling_of e.decision)) es ∙ one_faked c e.decision (count_of is_faked es) ∙ ap (λ n. c.faked + n) (sym more)

pub faked_counts : (counts : DecisionCounts) (es : List Entry) → counts ≡ with_entries no_counts es → counts.faked ≡ count_of is_faked es
faked_counts counts es e =
    let grown : (with_entries no_counts es).faked ≡ 0 + count_of is_faked es = all_faked no_counts es in
    let whole : (with_entries no_counts es).faked ≡ count_of is_faked es = omega (arith, grown) in
    let same : counts.faked ≡ (with_entries no_counts es).faked = ap (λ (c : DecisionCounts). c.faked) e in
    same ∙ whole

one_denied : (c : DecisionCounts) (d : Decision) (n : ℕ) → (with_ruling c (ruling_of d)).denied + n ≡ c.denied + (cond (is_denied d) 1 0 + n)
one_denied c (Performed tag line action args) n =
    let none : c.denied + n ≡ c.denied + (0 + n) = omega arith in
    none
one_denied c (Faked tag line) n =
    let none : c.denied + n ≡ c.denied + (0 + n) = omega arith in
    none
one_denied c (Denied tag verdict) n =
    let one : (c.denied + 1) + n ≡ c.denied + (1 + n) = omega arith in
    one
one_denied c (Refused fault) n =
    let none : c.denied + n ≡ c.denied + (0 + n) = omega arith in
    none

all_denied : (c : DecisionCounts) (es : List Entry) → (with_entries c es).denied ≡ c.denied + count_of is_denied es
all_denied c [] =
    let none : c.denied ≡ c.denied + 0 = omega arith in
    none
all_denied c (e ∷ es) =
    let more : count_of is_denied (e ∷ es) ≡ cond (is_denied e.decision) 1 0 + count_of is_denied es = sum_by-cons (λ (x : Entry). cond (is_denied x.decision) 1 0) e es in
    all_denied (with_ruling c (ruling_of e.decision)) es ∙ one_denied c e.decision (count_of is_denied es) ∙ ap (λ n. c.denied + n) (sym more)

pub denied_counts : (counts : DecisionCounts) (es : List Entry) → counts ≡ with_entries no_counts es → counts.denied ≡ count_of is_denied es
denied_counts counts es e =
    let grown : (with_entries no_counts es).denied ≡ 0 + count_of is_denied es = all_denied no_counts es in
    let whole : (with_entries no_counts es).denied ≡ count_of is_denied es = omega (arith, grown) in
    let same : counts.denied ≡ (with_entries no_counts es).denied = ap (λ (c : DecisionCounts). c.denied) e in
    same ∙ whole

one_refused : (c : DecisionCounts) (d : Decision) (n : ℕ) → (with_ruling c (ruling_of d)).refused + n ≡ c.refused + (cond (is_refused d) 1 0 + n)
one_refused c (Performed tag line action args) n =
    let none : c.refused + n ≡ c.refused + (0 + n) = omega arith in
    none
one_refused c (Faked tag line) n =
    let none : c.refused + n ≡ c.refused + (0 + n) = omega arith in
    none
one_refused c (Denied tag verdict) n =
    let none : c.refused + n ≡ c.refused + (0 + n) = omega arith in
    none
one_refused c (Refused fault) n =
    let one : (c.refused + 1) + n ≡ c.refused + (1 + n) = omega arith in
    one

all_refused : (c : DecisionCounts) (es : List Entry) → (with_entries c es).refused ≡ c.refused + count_of is_refused es
all_refused c [] =
    let none : c.refused ≡ c.refused + 0 = omega arith in
    none
all_refused c (e ∷ es) =
    let more : count_of is_refused (e ∷ es) ≡ cond (is_refused e.decision) 1 0 + count_of is_refused es = sum_by-cons (λ (x : Entry). cond (is_refused x.decision) 1 0) e es in
    all_refused (with_ruling c (ruling_of e.decision)) es ∙ one_refused c e.decision (count_of is_refused es) ∙ ap (λ n. c.refused + n) (sym more)

pub refused_counts : (counts : DecisionCounts) (es : List Entry) → counts ≡ with_entries no_counts es → counts.refused ≡ count_of is_refused es
refused_counts counts es e =
    let grown : (with_entries no_counts es).refused ≡ 0 + count_of is_refused es = all_refused no_counts es in
    let whole : (with_entries no_counts es).refused ≡ count_of is_refused es = omega (arith, grown) in
    let same : counts.refused ≡ (with_entries no_counts es).refused = ap (λ (c : DecisionCounts). c.refused) e in
    same ∙ whole
