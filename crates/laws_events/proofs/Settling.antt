-- A settle is written like no other envelope.
use Rattle.std.proofs.Common.{◌≡◌, ℕ, [], Some, sym, ap, subst, ◌∙◌, arith, get_or}
use Rattle.std.specs.Prelude.{codes, decimal}
use Rattle.base.specs.Entity.{text_of}
use Rattle.base.specs.Number.{IsNumber}
use Rattle.base.specs.declared.limits.TheConstants.{MAX_BODY}
use Rattle.base.specs.declared.pair.Pair.{Pair}
use Rattle.base.proofs.Entities.{text_of-injective}
use Rattle.stomp_frame.specs.Frames.{IsFrame}
use Rattle.envelope.specs.Reading.{Carries, read_number}
use Rattle.envelope.specs.Written.{headers_of, content_of, send_of}
use Rattle.envelope.specs.declared.message.Envelope.{Envelope}
use Rattle.envelope.specs.declared.message.Envelope.TheVariants.{Letter, Settle}
use Rattle.envelope.proofs.Texts.{read_number-decimal}
use Rattle.laws_mail.specs.Passing.{GoodFrame}
use Rattle.laws_mail.proofs.Frames.{send_alike_good}

same_value : {A : Type 0} (a b : A) → Some a ≡ Some b → a ≡ b
same_value a b e = cc

one_number : (n k : ℕ) → IsNumber n → IsNumber k → decimal n ≡ decimal k → n ≡ k
one_number n k first second e =
    let read : Some n ≡ Some k = sym (read_number-decimal n first) ∙ ap read_number e ∙ read_number-decimal k second in
    same_value n k read

same_settle : (p q : Pair) (n k : ℕ) → p.from ≡ q.from → p.to ≡ q.to → n ≡ k → Settle q k ≡ Settle p n
same_settle p q n k from to number = λ i. Settle (record { from = sym from i; to = sym to i }) (sym number i)

-- what is written like a settle is that settle
settle_alone : (p : Pair) (n : ℕ) → IsNumber n → (x : Envelope)
    → Carries (headers_of (Settle p n)) (content_of (Settle p n)) x
    → x ≡ Settle p n
settle_alone p n is (Letter l) c =
    let words : codes "settle" ≡ codes "message" = same_value _ _ c.kind in
    let first : get_or (codes "settle") 0 0 ≡ get_or (codes "message") 0 0 = ap (λ t. get_or t 0 0) words in
    absurd (omega (arith, first))
settle_alone p n is (Settle q k) c =
    same_settle p q n k
    (text_of-injective p.from q.from (same_value (text_of p.from) (text_of q.from) c.from))
    (text_of-injective p.to q.to (same_value (text_of p.to) (text_of q.to) c.to))
    (one_number n k is c.envelope.numbered.number (same_value (decimal n) (decimal k) c.number))

-- so its SEND is good
pub settle_good : (ok : Envelope → Type 0) (p : Pair) (n : ℕ) → IsNumber n → ok (Settle p n)
    → IsFrame MAX_BODY (send_of (Settle p n))
    → GoodFrame ok (send_of (Settle p n))
settle_good ok p n is good frame = send_alike_good ok (Settle p n) [] tt
    (λ x c. subst ok (sym (settle_alone p n is x c)) good) frame
