-- What clients wrote is handled, and read by others.
use Rattle.std.proofs.Common.{◌≡◌, ℕ, Bool, true, false, List, [], ◌∷◌, ◌++◌, codes, Option, Some, None, Result}
use Rattle.std.proofs.Common.{Ok, Err}
use Rattle.std.proofs.Common.{refl, sym, ap, ◌∙◌, subst, append_assoc, inl, inr, arith}
use Rattle.std.specs.Prelude.{◌⊎◌}
use Rattle.std.specs.List.{AllByRecursion, Contains}
use Rattle.std.proofs.lemmas.List.Concat.{flat_map-append}
use Rattle.std.proofs.lemmas.List.Elements.{Contains-append_cases, Contains-append_left, Contains-append_right}
use Rattle.std.proofs.lemmas.List.Elements.{Contains-push}
use Rattle.std.proofs.lemmas.List.Elements.{Contains-push_cases}
use Rattle.base.specs.declared.limits.TheConstants.{MAX_BODY}
use Rattle.stomp_frame.specs.declared.command.Command.{Command}
use Rattle.stomp_frame.specs.declared.command.Command.TheVariants.{Send, Message, Connected, Error}
use Rattle.stomp_frame.specs.Frames.{Content, Header, value_of}
use Rattle.stomp_frame.specs.Streams.{SpellsAll, canonical_texts}
use Rattle.stomp_frame.proofs.Streaming.{canonical_texts_are_spelled, first_given}
use Rattle.stomp_wire.proofs.Journeys.{travels_keep}
use Rattle.stomp_session.specs.Headers.{own_headers, text_of}
use Rattle.stomp_session.specs.Replies.{connected_frame, leading_headers, message_frame}
use Rattle.stomp_session.specs.Requests.{asked, asked_by, refusal_of, request_of, request_unless}
use Rattle.stomp_session.specs.declared.fault.SessionFault.{SessionFault}
use Rattle.stomp_session.specs.declared.request.Request.{Request}
use Rattle.stomp_session.specs.declared.request.Request.TheVariants.{Send as Sending}
use Rattle.stomp_session.specs.declared.request.Send.{Send as SendParts}
use Rattle.broker_book.specs.Steps.{Handed}
use Rattle.broker_book.specs.declared.parts.Sent.{Sent}
use Rattle.broker_core.specs.Feeding.{answer_by, answer_of, delivery_of}
use Rattle.broker_core.specs.Serving.{Decided}
use Rattle.broker_core.specs.Streams.{SpellsEach}
use Rattle.laws_broker.specs.Carried.{AreHandled, ReadMessagesWereSent, ReceiptsWereAsked, WasSent, WrittenAreHandled}
use Rattle.laws_broker.specs.Carried.{decided_all}
use Rattle.laws_broker.specs.Lives.{BrokerCall, handled_in}
use Rattle.laws_broker.specs.Written.{IsAsked, IsBrought, IsLater, Told, ended, message, nothing, opened, receipt}
use Rattle.laws_broker.specs.Written.{refused}
use Rattle.laws_broker.specs.Written.{listed, receipt_asked, receipt_by, receipts_asked, receipts_in}
use Rattle.laws_broker.proofs.Conversing.{brokers_are_read}
use Rattle.laws_broker.proofs.Hearing.{handled_are_fed}

-- ---- what is handled

-- the frames of decided ones, as they are spelled
each_frame : (c : Bool) (ds : List Decided) (text : List ℕ) → SpellsEach c ds text
    → (fs : List Content) × (ds ≡ decided_all c fs) × SpellsAll MAX_BODY fs text
each_frame c [] text e = ([], refl, (0, e))
each_frame c (d ∷ ds) text h =
    let s = h.1.0 in
    let r = each_frame true ds h.0 h.1.1 in (
      s.frame ∷ r.0,
      ap (λ x. x ∷ ds) s.answers ∙ ap (λ l. answer_of c s.frame ∷ l) r.1,
      (s.front, h.0, s.spells, r.2, s.whole),
    )

-- frames that are spelled at the front of a text are the first of all that are spelled there
first_of : (fs all : List Content) (front more : List ℕ) → SpellsAll MAX_BODY fs front
    → SpellsAll MAX_BODY all (front ++ more)
    → (others : List Content) × (all ≡ fs ++ others)
first_of [] all front more s w = (all, refl)
first_of (f ∷ fs) all front more (first, rest, spells, tail, e) w =
    let g = first_given MAX_BODY all f first (rest ++ more) (front ++ more) w spells
    (ap (λ (l : List ℕ). l ++ more) e ∙ append_assoc first rest more) in
    let r = first_of fs g.0 rest more tail g.2 in
    (r.0, g.1 ∙ ap (λ (l : List Content). f ∷ l) r.1)

pub written_are_handled : WrittenAreHandled
written_are_handled full calls b n frames lives is =
    let a = handled_are_fed full n calls b lives in
    let fs = each_frame false (handled_in n calls) a.front a.spells in
    let kept = travels_keep is.gone _ (Some is.waiting) (Some is.carried) is.travels in
    let whole : canonical_texts frames ≡ a.front ++ (a.rest ++ (is.carried ++ is.waiting ++ is.out)) =
    sym is.wrote.whole ∙ rw (kept, a.whole) (simp append_assoc) in
    let spelled : SpellsAll MAX_BODY frames (a.front ++ (a.rest ++ (is.carried ++ is.waiting ++ is.out))) =
    subst (SpellsAll MAX_BODY frames) whole (canonical_texts_are_spelled MAX_BODY (omega arith) frames is.wrote.each) in
    let r = first_of fs.0 frames a.front _ fs.2 spelled in
    record { first = fs.0; others = r.0; whole = r.1; decided = fs.1 }

-- ---- receipts

-- frames are decided one behind the other
decided_first : (c : Bool) (first others : List Content)
    → (ds : List Decided) × (decided_all c (first ++ others) ≡ decided_all c first ++ ds)
decided_first c [] others = (decided_all c others, refl)
decided_first c (f ∷ first) others =
    let r = decided_first true first others in (r.0, ap (λ (l : List Decided). answer_of c f ∷ l) r.1)

pub receipts_first : (frames : List Content) (first others : List Content) → frames ≡ first ++ others
    → receipts_in frames ≡ receipts_in first ++ receipts_in others
receipts_first frames first others e =
    ap receipts_in e ∙ flat_map-append (λ (f : Content). receipt_by f.command f.headers) first others

asked_first : (handled more : List Decided)
    → receipts_asked (handled ++ more) ≡ receipts_asked handled ++ receipts_asked more
asked_first handled more = flat_map-append receipt_asked handled more

pub receipts_were_asked : ReceiptsWereAsked
receipts_were_asked full calls b n wrote waiting carried frames held lives fed comes =
    let read = brokers_are_read full calls b n waiting carried frames held lives comes in
    let h = written_are_handled full calls b n wrote lives fed in
    let more = decided_first false h.first h.others in
    let missing = listed read.speaks.confirms.missing in
    let told : receipts_asked (handled_in n calls) ≡ (receipts_in frames ++ receipts_in read.others) ++ missing =
    read.speaks.confirms.receipts
    ∙ ap (λ (l : List (List ℕ)). l ++ missing) (receipts_first read.speaks.frames frames read.others read.whole) in
    let asked : receipts_asked (decided_all false wrote) ≡ receipts_asked (handled_in n calls)
    ++ receipts_asked more.0 =
    ap (λ (l : List Content). receipts_asked (decided_all false l)) h.whole ∙ ap receipts_asked more.1
    ∙ asked_first (decided_all false h.first) more.0
    ∙ ap (λ (l : List Decided). receipts_asked l ++ receipts_asked more.0) (sym h.decided) in (
      receipts_in read.others ++ (missing ++ receipts_asked more.0),
      asked ∙ ap (λ (l : List (List ℕ)). l ++ receipts_asked more.0) told ∙ simp append_assoc,
    )

-- ---- the frame of a SEND

-- a decided frame of a list is that of one of its frames
pub record IsOf (frames : List Content) (d : Decided) : Type 0 where
  pub frame : Content
  pub among : Contains frames frame
  pub connected : Bool
  pub decided : answer_of connected frame ≡ d

pub head_or_tail : {X : Type 0} (x y : X) (xs : List X) → Contains (x ∷ xs) y → (x ≡ y) ⊎ Contains xs y
head_or_tail x y xs h = elim (Contains-append_cases (x ∷ []) xs y h) [
  | inl k ↦ elim (Contains-push_cases [] x y k) [
    | inl none ↦ absurd (omega (arith, none.1))
    | inr e ↦ inl e
  ]
  | inr k ↦ inr k
]

pub decided_from : (c : Bool) (fs : List Content) (d : Decided) → Contains (decided_all c fs) d → IsOf fs d
decided_from c [] d h = absurd (omega (arith, h.1))
decided_from c (f ∷ fs) d h = elim (head_or_tail (answer_of c f) d (decided_all true fs) h) [
  | inl e ↦ record {
    frame = f;
    among = Contains-append_left (f ∷ []) fs f (Contains-push [] f);
    connected = c;
    decided = e;
  }
  | inr k ↦
      let r = decided_from true fs d k in
      record {
        frame = r.frame;
        among = Contains-append_right (f ∷ []) fs r.frame r.among;
        connected = r.connected;
        decided = r.decided;
      }
]

-- what a SEND asks stands in its frame
record IsSendOf (c : Command) (f : Content) (s : SendParts) : Type 0 where
  command : c ≡ Send
  destination : s.destination ≡ text_of f (codes "destination")
  headers : s.headers ≡ own_headers f
  body : s.body ≡ f.body

sending : Request → List ℕ
sending (Sending s) = s.body
sending _ = []

by_command : (c : Command) (f : Content) (s : SendParts) → asked_by c f ≡ Sending s → IsSendOf c f s
by_command Send f s e = record {
  command = refl;
  destination = let k = same e in ap (λ (x : SendParts). x.destination) (sym k);
  headers = let k = same e in ap (λ (x : SendParts). x.headers) (sym k);
  body = let k = same e in ap (λ (x : SendParts). x.body) (sym k);
}
  where
    same : {a b : SendParts} → Sending a ≡ Sending b → a ≡ b
    same e = cc
by_command _ f s e = absurd cc

request_from : (f : Content) (o : Option SessionFault) (s : SendParts) → request_unless o f ≡ Ok (Sending s)
    → IsSendOf f.command f s
request_from f None s e = let k : asked f ≡ Sending s = cc in by_command f.command f s k
request_from f (Some fault) s e = absurd (let k : Err fault ≡ Ok (Sending s) = e in cc)

answer_from : (f : Content) (q : Result Request SessionFault) (s : SendParts) → answer_by f q ≡ Ok (Sending s)
    → q ≡ Ok (Sending s)
answer_from f (Ok request) s e = let k : request ≡ Sending s = cc in ap (λ (x : Request). Ok x) k
answer_from f (Err fault) s e = absurd cc

sent_from : (c : Bool) (f : Content) (s : SendParts) → answer_of c f ≡ Ok (Sending s) → IsSendOf f.command f s
sent_from c f s e = request_from f (refusal_of c f) s (answer_from f (request_of c f) s e)

-- ---- a MESSAGE

brings : (full : ℕ) (calls : List BrokerCall) (wrote : ℕ → List Content) (f : Content) (d : Handed)
    (is : IsBrought calls d.sent)
    → AreHandled (wrote is.session) (handled_in is.session calls) → f ≡ message_frame (delivery_of d) → WasSent wrote f
brings full calls wrote f d is h e =
    let among : Contains (decided_all false h.first) (Ok (Sending is.request)) =
    subst (λ (l : List Decided). Contains l (Ok (Sending is.request))) h.decided is.among in
    let of = decided_from false h.first (Ok (Sending is.request)) among in
    let s = sent_from of.connected of.frame is.request of.decided in
    record {
      session = is.session;
      sent = of.frame;
      among = rw h.whole (Contains-append_left h.first h.others of.frame of.among);
      command = s.command;
      destination = ap (λ (g : Content). value_of (codes "destination") g.headers) e
          ∙ ap (λ (l : List ℕ). Some l) (ap (λ (x : Sent). x.destination) is.same ∙ s.destination);
      leading = leading_headers (delivery_of d);
      headers = ap (λ (g : Content). g.headers) e
          ∙ ap (λ (l : List Header). leading_headers (delivery_of d) ++ l)
          (ap (λ (x : Sent). x.headers) is.same ∙ s.headers);
      body = ap (λ (g : Content). g.body) e ∙ ap (λ (x : Sent). x.body) is.same ∙ s.body;
    }

later_brings : (full : ℕ) (calls : List BrokerCall) (n : ℕ) (wrote : ℕ → List Content) (f : Content)
    → ((m : ℕ) → AreHandled (wrote m) (handled_in m calls)) → f.command ≡ Message
    → IsLater (IsBrought calls) (IsAsked calls) n f
    → WasSent wrote f
later_brings full calls n wrote f h c (message d is asks here goes ack e) =
    brings full calls wrote f d is (h is.session) e
later_brings full calls n wrote f h c (receipt value e) = absurd (let k = ap (λ (g : Content). g.command) e in cc)

-- ---- what is read

pub one_of : {X : Type 0} (P : X → Type 0) (xs : List X) (x : X) → AllByRecursion P xs → Contains xs x → P x
one_of P [] x all h = absurd (omega (arith, h.1))
one_of P (y ∷ xs) x all h = elim (head_or_tail y x xs h) [ inl e ↦ subst P e all.0 | inr k ↦ one_of P xs x all.1 k ]

no_other : (f g : Content) (c d : Command) (P : Type 0) → f.command ≡ d → g ≡ f → g.command ≡ c → (c ≡ d → ⊥) → P
no_other f g c d P e same k other = absurd (other (sym k ∙ ap (λ (x : Content). x.command) same ∙ e))

-- a frame of another command than CONNECTED and ERROR was written behind CONNECTED
pub told_later : (later : Content → Type 0) (connected closed : Bool) (frames : List Content) (f : Content)
    (d : Command)
    → (Connected ≡ d → ⊥) → (Error ≡ d → ⊥) → Told later connected closed frames → Contains frames f → f.command ≡ d
    → later f
told_later later connected closed frames f d first last (nothing c k e) h is =
    absurd (let none : Contains [] f = subst (λ l. Contains l f) e h in omega (arith, none.1))
told_later later connected closed frames f d first last (refused g k err e) h is =
    elim (head_or_tail g f [] (subst (λ l. Contains l f) e h)) [
      | inl same ↦ no_other f g Error d _ is same (ap (λ (x : Content). x.command) err.is) last
      | inr none ↦ absurd (omega (arith, none.1))
    ]
told_later later connected closed frames f d first last (opened fs c each e) h is =
    elim (head_or_tail connected_frame f fs (subst (λ l. Contains l f) e h)) [
      | inl same ↦ no_other f connected_frame Connected d _ is same refl first
      | inr there ↦ one_of later fs f each there
    ]
told_later later connected closed frames f d first last (ended fs g k each err e) h is =
    elim (head_or_tail connected_frame f (fs ++ g ∷ []) (subst (λ l. Contains l f) e h)) [
      | inl same ↦ no_other f connected_frame Connected d _ is same refl first
      | inr there ↦ elim (Contains-push_cases fs g f there) [
        | inl before ↦ one_of later fs f each before
        | inr same ↦ no_other f g Error d _ is same (ap (λ (x : Content). x.command) err.is) last
      ]
    ]

pub messages_were_sent : ReadMessagesWereSent
messages_were_sent full calls b n wrote waiting carried frames held lives fed comes f among is =
    let read = brokers_are_read full calls b n waiting carried frames held lives comes in
    let whole : Contains read.speaks.frames f = rw read.whole (Contains-append_left frames read.others f among) in
    let later = told_later (IsLater (IsBrought calls) (IsAsked calls) n) read.speaks.connected read.speaks.closed
    read.speaks.frames f
    Message (λ z. cc) (λ z. cc) read.speaks.told whole is in
    later_brings full calls n wrote f (λ m. written_are_handled full calls b m (wrote m) lives (fed m)) is later
