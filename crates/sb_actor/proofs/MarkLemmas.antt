-- A mark is read back as its thread and its place.
use Rattle.std.proofs.Common.{◌≡◌, ◌∙◌, ◌<◌, ◌≤◌, ℕ, ◌+◌, ◌-◌, ◌/◌, ◌%◌, Bool, true, false, Option, None, Some, ap, refl, arith}
use Rattle.std.proofs.lemmas.Bool.Decides.{nat_tests}
use Rattle.std.specs.Prelude.{nat_le, if◌then◌else◌}
use Rattle.sb_actor.specs.Marks.{MarksComeBack, ReadMarksAreMarks, mark_at, mark_of_number, marks_of_thread, place_of, thread_of}
use Rattle.sb_actor.specs.declared.marks.CallMark.{CallMark}

named : (k p number : ℕ) → nat_le 65536 number ≡ true → thread_of number ≡ k → place_of number ≡ p → mark_of_number number ≡ Some (record { thread = k; place = p })
named k p number h e f =
    ap (λ b. if b then Some (record { thread = thread_of number; place = place_of number }) else None) h
    ∙ ap (λ t. Some (record { thread = t; place = place_of number })) e ∙ ap (λ q. Some (record { thread = k; place = q })) f

pub marks_come_back : MarksComeBack
marks_come_back thread place low =
    let high : nat_le 65536 (mark_at thread place) ≡ true = grind (arith, nat_tests) in
    named thread place (mark_at thread place) high (omega (arith, low)) (omega (arith, low))

by_test : (b : Bool) (number : ℕ) (mark : CallMark) → nat_le 65536 number ≡ b
    → (if b then Some (record { thread = thread_of number; place = place_of number }) else None) ≡ Some mark → mark_at mark.thread mark.place ≡ number
by_test false number mark h e = absurd (cc)
by_test true number mark h e =
    let high : 65536 ≤ number = grind (arith, nat_tests, h) in
    let thread : mark.thread ≡ thread_of number = cc in
    let place : mark.place ≡ place_of number = cc in
    omega (arith, high, thread, place)

pub read_marks_are_marks : ReadMarksAreMarks
read_marks_are_marks number mark e = by_test (nat_le 65536 number) number mark refl e
