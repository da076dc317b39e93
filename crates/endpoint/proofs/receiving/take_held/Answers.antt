use Rattle.std.proofs.Common.{◌≡◌, ◌+◌, Some, sym, ap, ◌∙◌, subst, refl, arith}
use Rattle.std.specs.Prelude.{⊤}
use Rattle.base.specs.Entity.{Entity}
use Rattle.base.specs.declared.entity.Kind.{Kind}
use Rattle.base.specs.declared.pair.Pair.{Pair}
use Rattle.keep.specs.Tables.{Tables, Messages}
use Rattle.resequencer.specs.Waiting.{IsNextHeld, IsNextOf}
use Rattle.std.proofs.Common.{Option, ℕ}
use Rattle.envelope.specs.declared.message.Letter.{Letter}
use Rattle.endpoint.specs.Arrivals.{DrainMay}
use Rattle.endpoint.specs.Calls.{OfHeldLetter}
use Rattle.endpoint.specs.Parts.Receiving.{Works, IsNext, Waits}
use Rattle.endpoint.proofs.Doing.{read_then}
use Rattle.endpoint.proofs.receiving.take_held.Goals as goal

found_next : (p : Pair) (n : ℕ) (found : Option Letter) (l : Letter) → found ≡ Some l → IsNextOf p n found
    → (l.pair ≡ p) × (l.number
    ≡ n + 1)
found_next p n found l is next = subst (IsNextOf p n) is next

pub handle_held-requires-clause-kind : goal.handle_held-requires-clause-kind
handle_held-requires-clause-kind g c =
    let next = found_next c.args.pair.now c.in_ok-handled.handled c.in_ok-letter.field-0 c.in-Some.letter c.in-Some.is
    c.in_ok-letter.ensures.next in
    ap (λ (p : Pair). p.to.kind) next.0 ∙ c.requires.kind

found_held : (held : Messages) (p : Pair) (n : ℕ) (found : Option Letter) (l : Letter) → found ≡ Some l
    → IsNextHeld held p n found
    → held p (n + 1) ≡ Some l.message
found_held held p n found l is next = subst (IsNextHeld held p n) is next

pub returns-in-Some : goal.returns-in-Some
returns-in-Some g c =
    let seen = g.K.Keep.seen in let ahead =
    g.W.Window.ahead in let service = g.H.Handler.service in let p = c.args.pair.now in let n =
    c.in_ok-handled.handled in
    let l = c.in-Some.letter in let found = c.in_ok-letter.field-0 in let new = c.handle_held.new.keep in
    let next = found_next p n found l c.in-Some.is c.in_ok-letter.ensures.next in
    let number = next.1 in
    read_then seen g.met.K.Keep.sound ahead service c.args.keep.now c.read_handled.new.keep new OfHeldLetter
    OfHeldLetter (λ f h. h)
    (λ t. n ≡ t.handled p) (λ _. ⊤) (DrainMay service p) (λ t k. k ≡ t.handled p) n c.handle_held.result
    (λ t good q gives. gives) c.in_ok-handled.ensures
    (read_then seen g.met.K.Keep.sound ahead service c.read_handled.new.keep c.read_next.new.keep new OfHeldLetter
    OfHeldLetter (λ f h. h)
    (λ t. IsNext l t × Waits l t) (λ t. n ≡ t.handled p) (DrainMay service p) (λ t x. IsNextHeld t.held p n x) found
    c.handle_held.result
    (λ t good is gives.
    let here : t.handled l.pair ≡ t.handled p = ap t.handled next.0 in (
      omega (arith, number, is, here),
      ap (λ q. t.held q l.number) next.0 ∙ ap (t.held p) number ∙ found_held t.held p n found l c.in-Some.is gives,
    ))
    c.in_ok-letter.ensures.reads
    (subst (λ q. Works seen c.read_next.new.keep new ahead service OfHeldLetter (λ t. IsNext l t × Waits l t)
    (DrainMay service q)
    c.handle_held.result) next.0 c.handle_held.ensures))
