-- Which frames are good.
use Rattle.std.proofs.Common.{◌≡◌, ℕ, false, cond, List, [], ◌∷◌, ◌++◌, codes, decimal, Option, Some, None, Ok, refl}
use Rattle.std.proofs.Common.{sym, ap, ◌∙◌, subst}
use Rattle.std.proofs.Common.{arith}
use Rattle.std.specs.List.{AllByRecursion}
use Rattle.std.specs.Str.{bytes_eq}
use Rattle.base.specs.declared.limits.TheConstants.{MAX_BODY}
use Rattle.stomp_frame.specs.Frames.{Content, Header, IsFrame, frame, header, value_of}
use Rattle.stomp_frame.specs.declared.command.Command.TheVariants.{Send, Ack, Nack, Begin, Commit, Abort, Connect}
use Rattle.stomp_session.proofs.Owning.{owned, utf8}
use Rattle.stomp_client.specs.Frames.{connect_frame, subscribe_frame, disconnect_frame, transaction_frame, answer_frame}
use Rattle.stomp_client.specs.Frames.{in_transaction}
use Rattle.stomp_client.specs.Frames.{with_receipt}
use Rattle.envelope.specs.Reading.{Carries, Delivers, is_read, read_envelope, read_frame}
use Rattle.envelope.specs.Written.{IsEnvelope, content_of, headers_of, send_of}
use Rattle.envelope.specs.declared.message.Envelope.{Envelope}
use Rattle.envelope.proofs.Envelopes.{read_envelope-exact, read_envelope-written}
use Rattle.envelope.proofs.Finding.{neither}
use Rattle.envelope.proofs.Frames.{answer_exact}
use Rattle.envelope.proofs.Headers.{read_envelope-same}
use Rattle.laws_mail.specs.Passing.{carries, GoodFrame}
use Rattle.laws_mail.proofs.Serving.{not_carrying_good}

-- ---- headers behind others

-- none of these has the name
abbrev NoneNamed : List ℕ → List Header → Type 0
NoneNamed name hs = AllByRecursion (λ h. bytes_eq h.name name ≡ false) hs

none_valued : (name : List ℕ) (hs : List Header) → NoneNamed name hs → value_of name hs ≡ None
none_valued name [] others = refl
none_valued name (h ∷ hs) others = rw others.0 (none_valued name hs others.1)

value_behind : (name : List ℕ) (hs more : List Header) → NoneNamed name more
    → value_of name (hs ++ more) ≡ value_of name hs
value_behind name [] more others = none_valued name more others
value_behind name (h ∷ hs) more others =
    ap (λ (v : Option (List ℕ)). cond (bytes_eq h.name name) (Some h.value) v) (value_behind name hs more others)

-- headers of none of the names that are read
record AreOthers (hs : List Header) : Type 0 where
  kind : NoneNamed (codes "kind") hs
  from : NoneNamed (codes "from") hs
  to : NoneNamed (codes "to") hs
  number : NoneNamed (codes "number") hs

are_others : (hs : List Header) → AllByRecursion (λ h. is_read h ≡ false) hs → AreOthers hs
are_others [] others = record { kind = tt; from = tt; to = tt; number = tt }
are_others (h ∷ hs) others =
    let rest = are_others hs others.1 in
    let kind = neither (bytes_eq h.name (codes "kind")) _ others.0 in
    let from = neither (bytes_eq h.name (codes "from")) _ kind.1 in
    let to = neither (bytes_eq h.name (codes "to")) _ from.1 in
    let number = neither (bytes_eq h.name (codes "number")) _ to.1 in
    record {
      kind = (kind.0, rest.kind);
      from = (from.0, rest.from);
      to = (to.0, rest.to);
      number = (number.0, rest.number);
    }

-- they may stand behind the others
pub read_envelope-behind : (hs more : List Header) (body : List ℕ) → AllByRecursion (λ h. is_read h ≡ false) more
    → read_envelope (hs ++ more) body ≡ read_envelope hs body
read_envelope-behind hs more body others =
    let are = are_others more others in
    read_envelope-same (hs ++ more) hs body (record {
      kind = value_behind (codes "kind") hs more are.kind;
      from = value_behind (codes "from") hs more are.from;
      to = value_behind (codes "to") hs more are.to;
      number = value_behind (codes "number") hs more are.number;
    })

-- ---- CONNECT is a frame

pub connect_is_a_frame : IsFrame MAX_BODY connect_frame
connect_is_a_frame = record {
  headers = (
    owned Connect (codes "accept-version") (codes "1.2")
        (record { good = refl; ascii = refl; own = refl; utf8 = utf8 (codes "1.2") refl; short = omega arith }),
    (
      owned Connect (codes "host") (codes "outbox")
          (record { good = refl; ascii = refl; own = refl; utf8 = utf8 (codes "outbox") refl; short = omega arith }),
      tt,
    ),
  );
  count = omega arith;
  body = omega arith;
}

module _ (ok : Envelope → Type 0) where
  -- ---- frames that carry no envelope

  pub connect_good : GoodFrame ok connect_frame
  connect_good = not_carrying_good ok connect_frame refl connect_is_a_frame

  pub subscribe_good : (destination : List ℕ) → IsFrame MAX_BODY (subscribe_frame destination)
      → GoodFrame ok (subscribe_frame destination)
  subscribe_good destination is = not_carrying_good ok _ refl is

  pub disconnect_good : IsFrame MAX_BODY disconnect_frame → GoodFrame ok disconnect_frame
  disconnect_good is = not_carrying_good ok _ refl is

  pub begin_good : (number : ℕ) → IsFrame MAX_BODY (transaction_frame Begin number)
      → GoodFrame ok (transaction_frame Begin number)
  begin_good number is = not_carrying_good ok _ refl is

  pub commit_good : (number : ℕ) → IsFrame MAX_BODY (transaction_frame Commit number)
      → GoodFrame ok (transaction_frame Commit number)
  commit_good number is = not_carrying_good ok _ refl is

  pub abort_good : (number : ℕ) → IsFrame MAX_BODY (transaction_frame Abort number)
      → GoodFrame ok (transaction_frame Abort number)
  abort_good number is = not_carrying_good ok _ refl is

  pub ack_good : (message : Content) (transaction : Option ℕ) → IsFrame MAX_BODY (answer_frame Ack message transaction)
      → GoodFrame ok (answer_frame Ack message transaction)
  ack_good message None is = not_carrying_good ok _ refl is
  ack_good message (Some number) is = not_carrying_good ok _ refl is

  pub nack_good : (message : Content) (transaction : Option ℕ)
      → IsFrame MAX_BODY (answer_frame Nack message transaction)
      → GoodFrame ok (answer_frame Nack message transaction)
  nack_good message None is = not_carrying_good ok _ refl is
  nack_good message (Some number) is = not_carrying_good ok _ refl is

  -- ---- the SEND of an envelope, with headers behind its own

  -- where whatever is carried by its headers and its body is one of those
  pub send_alike_good : (e : Envelope) (more : List Header) → AllByRecursion (λ h. is_read h ≡ false) more
      → ((x : Envelope) → Carries (headers_of e) (content_of e) x → ok x)
      → IsFrame MAX_BODY (frame Send (headers_of e ++ more) (content_of e))
      → GoodFrame ok (frame Send (headers_of e ++ more) (content_of e))
  send_alike_good e more others alike is = record {
    fits = is;
    means = λ _ x k. alike x ((read_envelope-exact (headers_of e) (content_of e) x).0
        (sym (read_envelope-behind (headers_of e) more (content_of e) others) ∙ k));
  }

  same_some : (o : Option Envelope) (x y : Envelope) → o ≡ Some x → o ≡ Some y → x ≡ y
  same_some o x y p q = cc

  -- where it is one of those itself, nothing else is carried
  alone : (e : Envelope) → IsEnvelope e → ok e → (x : Envelope) → Carries (headers_of e) (content_of e) x → ok x
  alone e is good x k =
      subst ok (same_some (read_envelope (headers_of e) (content_of e)) e x (read_envelope-written e is)
      ((read_envelope-exact (headers_of e) (content_of e) x).1 k)) good

  pub send_good : (e : Envelope) → IsEnvelope e → ok e → IsFrame MAX_BODY (send_of e) → GoodFrame ok (send_of e)
  send_good e is good fits = send_alike_good e [] tt (alone e is good) fits

  pub send_receipted_good : (e : Envelope) (number : ℕ) → IsEnvelope e → ok e
      → IsFrame MAX_BODY (with_receipt number (send_of e))
      → GoodFrame ok (with_receipt number (send_of e))
  send_receipted_good e number is good fits =
      send_alike_good e (header (codes "receipt") (decimal number) ∷ []) (refl, tt) (alone e is good) fits

  pub send_within_good : (e : Envelope) (transaction : Option ℕ) → IsEnvelope e → ok e
      → IsFrame MAX_BODY (in_transaction transaction (send_of e))
      → GoodFrame ok (in_transaction transaction (send_of e))
  send_within_good e None is good fits = send_good e is good fits
  send_within_good e (Some number) is good fits =
      send_alike_good e (header (codes "transaction") (decimal number) ∷ []) (refl, tt) (alone e is good) fits

  -- ---- what is read

  pub delivered_ok : (f : Content) (e : Envelope) → GoodFrame ok f → Delivers f e → ok e
  delivered_ok f e h d = h.means (ap carries d.command) e ((read_envelope-exact f.headers f.body e).1 d.carries)

  pub message_ok : (f : Content) (e : Envelope) → GoodFrame ok f → read_frame f ≡ Some e → ok e
  message_ok f e h k = delivered_ok f e h (answer_exact f (Ok e) k)
