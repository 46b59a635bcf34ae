-- Results and totals are read back.
use Rattle.std.proofs.Common.{◌≡◌, ◌∙◌, ℕ, ◌^◌, ◌<◌, true, List, [], ◌∷◌, Some, codes, refl, ap}
use Rattle.std.specs.Fmt.{decimal}
use Rattle.std.specs.List.{list_all}
use Rattle.sb_transcript.specs.Fields.{counted, reply_fields, result_fields, result_line_fields, totals_fields}
use Rattle.sb_transcript.specs.Ranges.{ResultInRange, ResultLineInRange, TotalsInRange}
use Rattle.sb_transcript.specs.Reading.{small_at, count_at, pair_result, result_with, result_at, result_line_at, totals_line_at}
use Rattle.sb_transcript.specs.Steps.{◌>>=◌, Read}
use Rattle.sb_transcript.specs.declared.read_lines.ResultLine.{ResultLine}
use Rattle.sb_transcript.specs.declared.read_lines.TotalsLine.{TotalsLine}
use Rattle.sb_transcript.specs.declared.read_lines.ShownResult.{ShownResult}
use Rattle.sb_transcript.specs.declared.read_lines.ShownResult.TheVariants.{Reply, NoChannel, SendLost, Foreign, TimedOut, Stored, Found, Met, Unmet}
use Rattle.sb_transcript.proofs.NumbersBack.{decimal_plain, small_plain, decimal_at_back, small_at_back, count_at_back, name_plain, name_at_back}
use Rattle.sb_transcript.proofs.PassingLines.{is_plain, AllPass, Leads, plain_leads}
use Rattle.sb_transcript.proofs.RepliesBack.{reply_back, reply_passes}
use Rattle.sb_transcript.specs.declared.cuts.Place.TheVariants.{Plain}

result_back : (r : ShownResult) → ResultInRange r → result_at (result_fields r) ≡ Some (r, [])
result_back (Reply channel reply) h =
    ap (λ o. o >>= result_with (codes "reply")) (small_at_back channel (reply_fields reply) h.0)
    ∙ ap (λ o. o >>= λ read. Some (Reply channel read.0, read.1)) (reply_back reply [] h.1)
result_back NoChannel h = refl
result_back (SendLost channel found) h =
    ap (λ o. o >>= result_with (codes "send-lost")) (small_at_back channel (decimal found ∷ []) h.0)
    ∙ ap (λ o. o >>= λ read. Some (pair_result (codes "send-lost") channel read.0, read.1)) (decimal_at_back found [] h.1)
result_back (Foreign channel mark) h =
    ap (λ o. o >>= result_with (codes "foreign")) (small_at_back channel (decimal mark ∷ []) h.0)
    ∙ ap (λ o. o >>= λ read. Some (pair_result (codes "foreign") channel read.0, read.1)) (decimal_at_back mark [] h.1)
result_back (TimedOut channel) h = ap (λ o. o >>= result_with (codes "timed-out")) (small_at_back channel [] h)
result_back Stored h = refl
result_back (Found value) h = ap (λ o. o >>= λ read. Some (Found read.0, read.1)) (decimal_at_back value [] h)
result_back (Met loads) h = ap (λ o. o >>= result_with (codes "met")) (small_at_back loads [] h)
result_back (Unmet loads) h = ap (λ o. o >>= result_with (codes "unmet")) (small_at_back loads [] h)

abbrev after_result : List ℕ → ℕ → ℕ → ShownResult × List (List ℕ) → Read ResultLine
after_result target thread place read = Some (record { target = target; thread = thread; place = place; result = read.0 }, read.1)

abbrev after_place : List ℕ → ℕ → ℕ × List (List ℕ) → Read ResultLine
after_place target thread read = result_at read.1 >>= after_result target thread read.0

abbrev after_thread : List ℕ → ℕ × List (List ℕ) → Read ResultLine
after_thread target read = small_at read.1 >>= after_place target read.0

abbrev after_target : List ℕ × List (List ℕ) → Read ResultLine
after_target read = small_at read.1 >>= after_thread read.0

pub result_line_back : (r : ResultLine) → ResultLineInRange r → result_line_at (result_line_fields r) ≡ Some (r, [])
result_line_back r h =
    ap (λ o. o >>= after_target) (name_at_back r.target (decimal r.thread ∷ decimal r.place ∷ result_fields r.result) h.target)
    ∙ ap (λ o. o >>= after_thread r.target) (small_at_back r.thread (decimal r.place ∷ result_fields r.result) h.thread)
    ∙ ap (λ o. o >>= after_place r.target r.thread) (small_at_back r.place (result_fields r.result) h.place)
    ∙ ap (λ o. o >>= after_result r.target r.thread r.place) (result_back r.result h.result)

abbrev last_total : ℕ → ℕ → ℕ → ℕ → ℕ → ℕ × List (List ℕ) → Read TotalsLine
last_total e p f d r read = Some (record { entries = e; performed = p; faked = f; denied = d; refused = r; results = read.0 }, read.1)

abbrev fifth_total : ℕ → ℕ → ℕ → ℕ → ℕ × List (List ℕ) → Read TotalsLine
fifth_total e p f d read = count_at read.1 >>= last_total e p f d read.0

abbrev fourth_total : ℕ → ℕ → ℕ → ℕ × List (List ℕ) → Read TotalsLine
fourth_total e p f read = count_at read.1 >>= fifth_total e p f read.0

abbrev third_total : ℕ → ℕ → ℕ × List (List ℕ) → Read TotalsLine
third_total e p read = count_at read.1 >>= fourth_total e p read.0

abbrev second_total : ℕ → ℕ × List (List ℕ) → Read TotalsLine
second_total e read = count_at read.1 >>= third_total e read.0

abbrev first_total : ℕ × List (List ℕ) → Read TotalsLine
first_total read = count_at read.1 >>= second_total read.0

pub totals_back : (t : TotalsLine) → TotalsInRange t → totals_line_at (totals_fields t) ≡ Some (t, [])
totals_back t h =
    let results : List (List ℕ) = counted (codes "results") t.results in
    let refused : List (List ℕ) = codes "refused" ∷ decimal t.refused ∷ results in
    let denied : List (List ℕ) = codes "denied" ∷ decimal t.denied ∷ refused in
    let faked : List (List ℕ) = codes "faked" ∷ decimal t.faked ∷ denied in
    ap (λ o. o >>= first_total) (count_at_back (codes "entries") t.entries (codes "performed" ∷ decimal t.performed ∷ faked) h.entries)
    ∙ ap (λ o. o >>= second_total t.entries) (count_at_back (codes "performed") t.performed faked h.performed)
    ∙ ap (λ o. o >>= third_total t.entries t.performed) (count_at_back (codes "faked") t.faked denied h.faked)
    ∙ ap (λ o. o >>= fourth_total t.entries t.performed t.faked) (count_at_back (codes "denied") t.denied refused h.denied)
    ∙ ap (λ o. o >>= fifth_total t.entries t.performed t.faked t.denied) (count_at_back (codes "refused") t.refused results h.refused)
    ∙ ap (λ o. o >>= last_total t.entries t.performed t.faked t.denied t.refused) (count_at_back (codes "results") t.results [] h.results)

-- ---- the fields hold no blank

word_leads : (word : List ℕ) → list_all (is_plain 32) word ≡ true → Leads 32 Plain Plain word
word_leads word h = plain_leads 32 word h

counted_pass : (word : List ℕ) (n : ℕ) (rest : List (List ℕ)) → list_all (is_plain 32) word ≡ true → n < 2 ^ 64 → AllPass 32 rest → AllPass 32 (word ∷ decimal n ∷ rest)
counted_pass word n rest h k a = (word_leads word h, (word_leads (decimal n) (decimal_plain n k), a))

small_pass : (word : List ℕ) (n : ℕ) (rest : List (List ℕ)) → list_all (is_plain 32) word ≡ true → n < 2 ^ 32 → AllPass 32 rest → AllPass 32 (word ∷ decimal n ∷ rest)
small_pass word n rest h k a = (word_leads word h, (word_leads (decimal n) (small_plain n k), a))

result_passes : (r : ShownResult) → ResultInRange r → AllPass 32 (result_fields r)
result_passes (Reply channel reply) h = small_pass (codes "reply") channel (reply_fields reply) refl h.0 (reply_passes reply h.1)
result_passes NoChannel h = (word_leads (codes "no-channel") refl, tt)
result_passes (SendLost channel found) h = small_pass (codes "send-lost") channel (decimal found ∷ []) refl h.0 (word_leads (decimal found) (decimal_plain found h.1), tt)
result_passes (Foreign channel mark) h = small_pass (codes "foreign") channel (decimal mark ∷ []) refl h.0 (word_leads (decimal mark) (decimal_plain mark h.1), tt)
result_passes (TimedOut channel) h = small_pass (codes "timed-out") channel [] refl h tt
result_passes Stored h = (word_leads (codes "stored") refl, tt)
result_passes (Found value) h = counted_pass (codes "found") value [] refl h tt
result_passes (Met loads) h = small_pass (codes "met") loads [] refl h tt
result_passes (Unmet loads) h = small_pass (codes "unmet") loads [] refl h tt

pub result_line_passes : (r : ResultLine) → ResultLineInRange r → AllPass 32 (result_line_fields r)
result_line_passes r h = (word_leads r.target (name_plain r.target h.target), (word_leads (decimal r.thread) (small_plain r.thread h.thread), (word_leads (decimal r.place) (small_plain r.place h.place), result_passes r.result h.result)))

pub totals_pass : (t : TotalsLine) → TotalsInRange t → AllPass 32 (totals_fields t)
totals_pass t h =
    let results : List (List ℕ) = counted (codes "results") t.results in
    let refused : List (List ℕ) = codes "refused" ∷ decimal t.refused ∷ results in
    let denied : List (List ℕ) = codes "denied" ∷ decimal t.denied ∷ refused in
    let faked : List (List ℕ) = codes "faked" ∷ decimal t.faked ∷ denied in
    counted_pass (codes "entries") t.entries (codes "performed" ∷ decimal t.performed ∷ faked) refl h.entries
    (counted_pass (codes "performed") t.performed faked refl h.performed
    (counted_pass (codes "faked") t.faked denied refl h.faked
    (counted_pass (codes "denied") t.denied refused refl h.denied
    (counted_pass (codes "refused") t.refused results refl h.refused
    (counted_pass (codes "results") t.results [] refl h.results tt)))))
