use Rattle.std.proofs.Common.{ℕ, ◌≡◌, ◌≤◌, ◌<◌, inl, inr, arith, subst, sym}
use Rattle.std.proofs.lemmas.Bool.{cases_lt}
use Rattle.base.specs.Number.{IsNumber}
use Rattle.base.specs.declared.limits.TheConstants.{MAX_NUMBER}
use Rattle.endpoint.specs.Arrivals.{SettleMay}
use Rattle.endpoint.specs.Calls.{OfSettle}
use Rattle.endpoint.specs.Deeds.{Settles}
use Rattle.endpoint.specs.Parts.Receiving.{Works}
use Rattle.endpoint.proofs.Doing.{read_answers, read_then}
use Rattle.endpoint.proofs.Finishing.{mark_stays}
use Rattle.endpoint.proofs.receiving.raise_mark.Goals as goal

-- within the limit 0 alone is no number
no_number : (n : ℕ) → ¬ IsNumber n → n ≤ MAX_NUMBER → n ≡ 0
no_number n isnt small = elim (cases_lt 0 n)
    [ inl above ↦ absurd (isnt (record { positive = above; small = small })) | inr zero ↦ omega (arith, zero) ]

pub returns-in_default : goal.returns-in_default
returns-in_default g c =
    let ahead = g.W.Window.ahead in let service =
    g.H.Handler.service in let p = c.args.pair.now in let n = c.args.number in let mark =
    c.in_ok-mark.mark in
    read_answers g.K.Keep.seen g.met.K.Keep.sound ahead service c.args.keep.now c.read_settled.new.keep OfSettle
    (λ t. n ≤ t.sent p)
    (SettleMay service p n) (λ t m. m ≡ t.settled p) mark mark (Settles p n)
    (λ t good there gives.
    let s = good.numbers p in
    let none = no_number n c.in_default.ensures (omega (arith, there, s)) in
    mark_stays ahead service p n mark c.requires.kind t good there gives (omega (arith, none)))
    c.in_ok-mark.ensures

pub returns-then-number-mark : goal.returns-then-number-mark
returns-then-number-mark g c =
    let ahead = g.W.Window.ahead in let service =
    g.H.Handler.service in let p = c.args.pair.now in let n = c.args.number in let mark =
    c.in_ok-mark.mark in
    let small = c.if-number-mark.true in
    read_answers g.K.Keep.seen g.met.K.Keep.sound ahead service c.args.keep.now c.read_settled.new.keep OfSettle
    (λ t. n ≤ t.sent p)
    (SettleMay service p n) (λ t m. m ≡ t.settled p) mark mark (Settles p n)
    (λ t good there gives. mark_stays ahead service p n mark c.requires.kind t good there gives (omega (arith, small)))
    c.in_ok-mark.ensures

pub returns : goal.returns
returns g c =
    let seen = g.K.Keep.seen in let ahead =
    g.W.Window.ahead in let service = g.H.Handler.service in let p = c.args.pair.now in let n =
    c.args.number in
    let above = c.if-number-mark.false in let new = c.write_mark.new.keep in
    read_then seen g.met.K.Keep.sound ahead service c.args.keep.now c.read_settled.new.keep new OfSettle OfSettle
    (λ f h. h)
    (λ t. (t.settled p < n) × (n ≤ t.sent p)) (λ t. n ≤ t.sent p) (SettleMay service p n) (λ t m. m ≡ t.settled p)
    c.in_ok-mark.mark
    c.write_mark.result (λ t good there gives. (omega (arith, above, gives), there)) c.in_ok-mark.ensures
    (subst (λ k. Works seen c.read_settled.new.keep new ahead service OfSettle (λ t. (t.settled p < k)
    × (k ≤ t.sent p)) (SettleMay service p k)
    c.write_mark.result) c.in-Some.ensures.0 c.write_mark.ensures)
