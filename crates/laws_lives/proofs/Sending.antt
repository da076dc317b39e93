-- What SENDs carry: nothing but the envelope that was written.
use Rattle.std.proofs.Common.{◌≡◌, ℕ, List, ◌++◌, codes, decimal, get_or, Some, refl, sym, ap, ◌∙◌, arith}
use Rattle.std.proofs.lemmas.List.{append_cancel_right}
use Rattle.base.proofs.Entities.{text_of-injective}
use Rattle.base.specs.Entity.{text_of}
use Rattle.base.specs.declared.pair.Pair.{Pair}
use Rattle.stomp_frame.specs.Frames.{Header, Content}
use Rattle.stomp_frame.specs.declared.command.Command.TheVariants.{Send, Message}
use Rattle.envelope.specs.Bodies.{body_of, IsMessage}
use Rattle.envelope.specs.Reading.{HaveSameValues, read_envelope, read_frame}
use Rattle.envelope.specs.Written.{headers_of, content_of, pair_of, envelope_number, kind_word, IsEnvelope}
use Rattle.envelope.specs.declared.message.Message.{Message as TheMessage}
use Rattle.envelope.specs.declared.message.Message.TheVariants.{Request, Tentative, Refused, Confirm, Cancel}
use Rattle.envelope.specs.declared.message.Envelope.{Envelope}
use Rattle.envelope.specs.declared.message.Envelope.TheVariants.{Letter, Settle}
use Rattle.envelope.proofs.Envelopes.{read_envelope-exact}
use Rattle.envelope.proofs.Frames.{message_read}
use Rattle.envelope.proofs.Headers.{read_envelope-same}
use Rattle.laws_lives.specs.Posts.{if_send, sent_in}
use Rattle.laws_lives.proofs.Numerals.{one_number}

-- octets that tell bodies apart
abbrev octet : ℕ → List ℕ → ℕ
octet i text = get_or text i 0

-- the amounts of two equal requests are written alike
request_cut : (x y : List ℕ) → codes "{\"n\":" ++ x ++ codes ",\"op\":\"request\"}" ≡ codes "{\"n\":" ++ y
    ++ codes ",\"op\":\"request\"}"
    → x ≡ y
request_cut x y e = append_cancel_right x y (codes ",\"op\":\"request\"}") cc

-- A body that can be read is one message's, also among those that can't.
one_body : (a b : TheMessage) → IsMessage a → body_of a ≡ body_of b → b ≡ a
one_body (Request m) (Request n) is e = ap Request (one_number m n is (request_cut (decimal m) (decimal n) e))
one_body (Request m) _ is e = absurd (omega (arith, ap (octet 2) e))
one_body _ (Request n) is e = absurd (omega (arith, ap (octet 2) e))
one_body Tentative Tentative is e = refl
one_body Tentative _ is e = absurd (omega (arith, ap (octet 7) e))
one_body Refused Refused is e = refl
one_body Refused _ is e = absurd (omega (arith, ap (octet 7) e))
one_body Confirm Confirm is e = refl
one_body Confirm Cancel is e = absurd (omega (arith, ap (octet 8) e))
one_body Confirm _ is e = absurd (omega (arith, ap (octet 7) e))
one_body Cancel Cancel is e = refl
one_body Cancel Confirm is e = absurd (omega (arith, ap (octet 8) e))
one_body Cancel _ is e = absurd (omega (arith, ap (octet 7) e))

-- what is the same of two envelopes that are written alike
record Alike (a b : Envelope) : Type 0 where
  kind : kind_word a ≡ kind_word b
  from : text_of (pair_of a).from ≡ text_of (pair_of b).from
  to : text_of (pair_of a).to ≡ text_of (pair_of b).to
  number : decimal (envelope_number a) ≡ decimal (envelope_number b)
  content : content_of a ≡ content_of b

same_pair_of : (p q : Pair) → text_of p.from ≡ text_of q.from → text_of p.to ≡ text_of q.to → q ≡ p
same_pair_of p q from to =
    let f = text_of-injective q.from p.from (sym from) in
    let t = text_of-injective q.to p.to (sym to) in
    λ i. record { from = f i; to = t i }

one_envelope : (a b : Envelope) → IsEnvelope a → Alike a b → b ≡ a
one_envelope (Letter l) (Letter m) is alike =
    let p = same_pair_of l.pair m.pair alike.from alike.to in
    let n = one_number l.number m.number is.numbered.number alike.number in
    let b = one_body l.message m.message is.message alike.content in
    λ i. Letter (record { pair = p i; number = n i; message = b i })
one_envelope (Settle p m) (Settle q n) is alike =
    let s = same_pair_of p q alike.from alike.to in
    let k = one_number m n is.numbered.number alike.number in
    λ i. Settle (s i) (k i)
one_envelope (Letter l) (Settle q n) is alike = absurd (omega (arith, ap (octet 0) alike.kind))
one_envelope (Settle p m) (Letter l) is alike = absurd (omega (arith, ap (octet 0) alike.kind))

some_same : {A : Type 0} (x y : A) → Some x ≡ Some y → y ≡ x
some_same x y h = cc

-- What is read of the headers and the body that are written for an envelope, with more headers below them, is that envelope.
pub only_that : (d e : Envelope) (more : List Header) → read_envelope (headers_of d ++ more) (content_of d) ≡ Some e → e ≡ d
only_that d e more read =
    let c = (read_envelope-exact (headers_of d ++ more) (content_of d) e).0 read in
    sym (one_envelope e d c.envelope (record {
      kind = some_same (kind_word d) (kind_word e) c.kind;
      from = some_same (text_of (pair_of d).from) (text_of (pair_of e).from) c.from;
      to = some_same (text_of (pair_of d).to) (text_of (pair_of e).to) c.to;
      number = some_same (decimal (envelope_number d)) (decimal (envelope_number e)) c.number;
      content = sym c.content;
    }))

-- Where the envelope can be read at all, it is read.
pub read_again : (e : Envelope) (more : List Header) → IsEnvelope e
    → read_envelope (headers_of e ++ more) (content_of e) ≡ Some e
read_again e more is = (read_envelope-exact (headers_of e ++ more) (content_of e) e).1
    (record { kind = refl; from = refl; to = refl; number = refl; content = refl; envelope = is })

-- A MESSAGE with the same values and the same body carries what the SEND did.
pub same_is_read : (send message : Content) → send.command ≡ Send → message.command ≡ Message
    → HaveSameValues message.headers send.headers → message.body ≡ send.body → read_frame message ≡ sent_in send
same_is_read send message is_send is_message same bodies =
    message_read message is_message
    ∙ (read_envelope-same message.headers send.headers message.body same
    ∙ (ap (read_envelope send.headers) bodies
    ∙ ap (λ c. if_send c (read_envelope send.headers send.body)) (sym is_send)))
