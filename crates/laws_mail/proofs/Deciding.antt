-- What is decided of a good frame.
use Rattle.std.proofs.Common.{◌≡◌, inl, inr, Bool, true, false, Option, Some, None, Result, Ok, Err, codes, refl, sym}
use Rattle.std.proofs.Common.{ap, ◌∙◌, subst}
use Rattle.std.specs.Str.{bytes_eq}
use Rattle.stomp_frame.specs.Frames.{Content, Header}
use Rattle.stomp_frame.specs.declared.command.Command.{Command}
use Rattle.stomp_frame.specs.declared.command.Command.TheVariants.{Send, Subscribe, Unsubscribe, Ack, Nack, Begin}
use Rattle.stomp_frame.specs.declared.command.Command.TheVariants.{Commit, Abort}
use Rattle.stomp_frame.specs.declared.command.Command.TheVariants.{Disconnect}
use Rattle.stomp_session.specs.Fitting.{Fits}
use Rattle.stomp_session.specs.Headers.{is_own}
use Rattle.stomp_session.specs.Requests.{asked, asked_by, refusal_of, request_of, request_unless}
use Rattle.stomp_session.specs.declared.fault.SessionFault.{SessionFault}
use Rattle.stomp_session.specs.declared.request.Request.{Request}
use Rattle.stomp_session.proofs.Accepting.{accepted_fits}
use Rattle.stomp_session.proofs.Taking.{same_text}
use Rattle.broker_core.specs.Feeding.{answer_by, answer_of}
use Rattle.envelope.specs.Reading.{is_read}
use Rattle.envelope.specs.declared.message.Envelope.{Envelope}
use Rattle.envelope.proofs.Finding.{either}
use Rattle.envelope.proofs.Headers.{read_envelope-filter}
use Rattle.laws_mail.specs.Passing.{carries, GoodDecided, GoodFrame, GoodRequest}

-- a header that is read is the SEND's own
read_is_own : (h : Header) → is_read h ≡ true → is_own h ≡ true
read_is_own h e = elim (either (bytes_eq h.name (codes "kind"))) [
  | inl a ↦ rw (same_text h.name (codes "kind") a) refl
  | inr a ↦ elim (either (bytes_eq h.name (codes "from"))) [
    | inl b ↦ rw (same_text h.name (codes "from") b) refl
    | inr b ↦ elim (either (bytes_eq h.name (codes "to"))) [
      | inl c ↦ rw (same_text h.name (codes "to") c) refl
      | inr c ↦ elim (either (bytes_eq h.name (codes "number"))) [
        | inl d ↦ rw (same_text h.name (codes "number") d) refl
        | inr d ↦ absurd (let k : false ≡ true = rw (a, b, c, d) at e in cc)
      ]
    ]
  ]
]

asked_is : (o : Option SessionFault) (f : Content) (q : Request) → request_unless o f ≡ Ok q → asked f ≡ q
asked_is None f q e = cc
asked_is (Some fault) f q e = absurd (let k : Err fault ≡ Ok q = e in cc)

module _ (ok : Envelope → Type 0) where
  -- a SEND brings what it means, and no other request brings anything
  request_good : (c : Command) (f : Content) → f.command ≡ c → Fits (asked_by c f) → GoodFrame ok f
      → GoodRequest ok (asked_by c f)
  request_good Send f e fits g =
      (fits, λ x k. g.means (ap carries e) x (sym (read_envelope-filter is_own f.headers f.body read_is_own) ∙ k))
  request_good Subscribe f e fits g = fits
  request_good Unsubscribe f e fits g = fits
  request_good Ack f e fits g = fits
  request_good Nack f e fits g = fits
  request_good Begin f e fits g = fits
  request_good Commit f e fits g = fits
  request_good Abort f e fits g = fits
  request_good Disconnect f e fits g = fits
  request_good _ f e fits g = fits

  decided_by : (connected : Bool) (f : Content) (r : Result Request SessionFault) → request_of connected f ≡ r
      → GoodFrame ok f
      → GoodDecided ok (answer_by f r)
  decided_by connected f (Ok q) e g =
      let same : asked f ≡ q = asked_is (refusal_of connected f) f q e in
      let fits : Fits (asked f) = subst Fits (sym same) (accepted_fits connected f q g.fits e) in
      subst (GoodRequest ok) same (request_good f.command f refl fits g)
  decided_by connected f (Err fault) e g = g.fits

  pub decided_good : (connected : Bool) (f : Content) → GoodFrame ok f → GoodDecided ok (answer_of connected f)
  decided_good connected f g = decided_by connected f (request_of connected f) refl g
