-- Examples: what the calls that read a schedule answer.
use Rattle.std.proofs.Common.{◌≡◌, ℕ, zero, suc, List, [], ◌∷◌, get_or, refl, ap, arith}
use Rattle.std.specs.Prelude.{codes, Some, None, Ok, Err}
use Rattle.std.specs.Borrow.{Bor}
use Rattle.std.specs.Global.{Vec}
use Rattle.std.specs.Str.{is_utf8, chars}
use Rattle.base.specs.Entity.{order_of}
use Rattle.trade.specs.declared.commands.OrderCommand.TheVariants.{CancelOrder}
use Rattle.schedule_text.specs.declared.event.Event.{Event}
use Rattle.schedule_text.specs.declared.event.Event.TheVariants.{Order, Journal}
use Rattle.schedule_text.specs.declared.event.ServiceName.TheVariants.{Purchasing}
use Rattle.schedule_text.specs.declared.fault.ScheduleFault.TheVariants.{BadEvent, Memory}
use Rattle.schedule_text.specs.Cuts.{Lacks, IsCut, IsRest}
use Rattle.schedule_text.specs.Escapes.{IsUnescaped}
use Rattle.schedule_text.specs.Numbers.{seat_number}
use Rattle.schedule_text.specs.Events.{events_of}
use Rattle.schedule_text.specs.Faults.{IsRead}
use Rattle.schedule_text.specs.Words.{◌>>=◌}

-- a text that is lent
abbrev lent : List ℕ → Bor (List ℕ)
lent text = record { ref_ptr = (0, 0); now = text }

-- the word `o1` has no space
o1_lacks_a_space : Lacks 32 (codes "o1")
o1_lacks_a_space zero here = λ same. omega (arith, same)
o1_lacks_a_space (suc zero) here = λ same. omega (arith, same)
o1_lacks_a_space (suc (suc i)) here = absurd (omega (arith, here))

-- a line is cut at its first space, which neither part has
a_line_is_cut : IsCut 32 (codes "o1 a b") (Some (lent (codes "o1"), lent (codes "a b")))
a_line_is_cut = (refl, o1_lacks_a_space)

-- and not at a later one
no_later_cut : IsCut 32 (codes "o1 a b") (Some (lent (codes "o1 a"), lent (codes "b"))) → ⊥
no_later_cut cut = cut.1 2 (omega arith) refl

-- with no space there is no cut
a_word_is_not_cut : IsCut 32 (codes "o1") None
a_word_is_not_cut = o1_lacks_a_space

-- behind its `#` a line goes on, which isn't missed; the line `a` doesn't begin with one
the_rest_follows : (IsRest 35 (codes "# a") (Some (lent (codes " a")))) × (IsRest 35 (codes "# a") None → ⊥)
    × (IsRest 35 (codes "a") None)
the_rest_follows = (refl, λ none. none (codes " a") refl, λ rest same. apart (ap (λ t. get_or t 0 0) same))
  where
    apart : ◌≡◌ {A = ℕ} 97 35 → ⊥
    apart h = omega arith

-- of what stands behind a backslash the letter s means a space, and the rest follows; where no letter stands, nothing
-- is meant
letters_are_unescaped : (IsUnescaped (codes "sb") (Some (32, lent (codes "b")))) × (IsUnescaped [] None)
letters_are_unescaped = ((115, refl, refl, omega arith), λ letter rest same. absurd cc)

-- the letter t means nothing
no_other_escape : IsUnescaped (codes "tb") None
no_other_escape letter rest same = rw (← ap (λ t. get_or t 0 0) same) refl

-- a number goes on to be a seat, where it is one; no number is no seat
numbers_go_on : ((Some 15 >>= seat_number) ≡ Some 15) × ((Some 16 >>= seat_number) ≡ None)
    × ((None >>= seat_number) ≡ None)
numbers_go_on = (refl, refl, refl)

-- ---- schedules

-- two events with a remark before them
abbrev text : List ℕ
text = codes "# two events\ncancel 0 o1\njournal purchasing\n"

abbrev events : List Event
events = Order (record { seat = 0; entity = order_of (codes "o1"); command = CancelOrder }) ∷ Journal Purchasing ∷ []

-- reading answers these events, or that memory ran out
a_schedule_is_answered : ((answer : Vec Event) → answer.items ≡ events → IsRead (events_of text) (Ok answer))
    × (IsRead (events_of text) (Err Memory))
unfolding is_utf8 chars lib.Utf8.encode
a_schedule_is_answered = (λ answer is. rw is refl, tt)

-- and nothing else: no line of it is faulty
no_line_is_refused : (number : ℕ) → IsRead (events_of text) (Err (BadEvent number)) → ⊥
unfolding is_utf8 chars lib.Utf8.encode
no_line_is_refused number is = cc

-- the second line is no event: that is answered, and never events
a_faulty_line_is_told : (IsRead (events_of (codes "cancel 0 o1\ncancel 0\n")) (Err (BadEvent 2)))
    × ((answer : Vec Event) → IsRead (events_of (codes "cancel 0 o1\ncancel 0\n")) (Ok answer) → ⊥)
unfolding is_utf8 chars lib.Utf8.encode
a_faulty_line_is_told = (refl, λ answer is. cc)
