-- A client takes what a broker writes.
use Rattle.std.proofs.Common.{◌≡◌, ℕ, Bool, true, false, List, [], ◌∷◌, ◌++◌, Option, Some, None, Ok, Err, refl, sym}
use Rattle.std.proofs.Common.{ap, ◌∙◌}
use Rattle.std.proofs.Common.{subst}
use Rattle.std.proofs.Common.{inl, inr}
use Rattle.std.specs.Prelude.{◌⊎◌, not, is_some, Result, IsOk}
use Rattle.std.specs.List.{AllByRecursion, Contains}
use Rattle.stomp_frame.specs.Frames.{Content}
use Rattle.stomp_frame.specs.declared.command.Command.{Command}
use Rattle.stomp_frame.specs.declared.command.Command.TheVariants as command
use Rattle.stomp_session.specs.declared.request.Request.TheVariants.{Subscribe}
use Rattle.stomp_session.specs.Replies.{Delivered, connected_frame, message_frame, receipt_frame}
use Rattle.stomp_client.proofs.Writing.{awaited}
use Rattle.stomp_client.specs.Accepting.{Accepts, TellsFrame, is_closed, is_open, receipt_number, unaccepted}
use Rattle.stomp_client.specs.Clients.{Client}
use Rattle.stomp_client.specs.declared.event.ClientEvent.{ClientEvent}
use Rattle.stomp_client.specs.declared.event.ClientEvent.TheVariants as event
use Rattle.stomp_client.specs.declared.fault.ClientFault.{ClientFault}
use Rattle.stomp_client.specs.declared.fault.ClientFault.TheVariants as fault
use Rattle.stomp_client.specs.declared.session.Stage.{Stage}
use Rattle.stomp_client.specs.declared.session.Stage.TheVariants.{Connecting, Connected}
use Rattle.broker_book.specs.Books.{is_auto}
use Rattle.broker_book.specs.declared.parts.Mode.{Mode}
use Rattle.broker_book.specs.declared.parts.Mode.TheVariants.{Auto, Client as ByClient, Individual}
use Rattle.broker_book.specs.declared.parts.Sent.{Sent}
use Rattle.broker_book.specs.declared.parts.Subscription.{Subscription}
use Rattle.broker_core.specs.Feeding.{delivery_of}
use Rattle.laws_broker.specs.Conversations.{AcceptsAll, AsksForAcks, BrokersAreRead, ClientsTakeAll, TellsOpen}
use Rattle.laws_broker.specs.Lives.{BrokerCall, account, handled_in}
use Rattle.laws_broker.specs.Written.{IsAsked, IsBrought, IsError, IsLater, Told, ended, message, nothing, opened}
use Rattle.laws_broker.specs.Written.{receipt, refused}
use Rattle.laws_broker.proofs.Recalling.{brokers_speak}

-- ---- what is read

pub brokers_are_read : BrokersAreRead
brokers_are_read full calls b n waiting carried frames held lives comes =
    let s = brokers_speak full calls b n lives in
    let a = awaited s.frames (account n calls).taken s.left comes.received waiting carried comes.reading held s.wrote
    comes.travels
    comes.happened comes.fed in
    record {
      speaks = s;
      others = a.0;
      whole = a.1 ∙ ap (λ l. l ++ a.0) (sym comes.given);
      awaits = a.2;
    }

-- ---- one frame

-- a MESSAGE with an ack is whole
message_taken : {T : Type 0} (c : Client T) (d : Delivered) (ack : Option ℕ) → d.ack ≡ ack → is_some ack ≡ true
    → c.stage ≡ Connected
    → unaccepted c (message_frame d) ≡ None
message_taken c d None e some stage = absurd cc
message_taken c d (Some k) e some stage = rw (stage, e) refl

receipt_taken : {T : Type 0} (c : Client T) (value : List ℕ)
    → is_open c.receipts (receipt_number (receipt_frame value)) ≡ true
    → c.stage ≡ Connected → unaccepted c (receipt_frame value) ≡ None
receipt_taken c value is stage = rw (stage, is) refl

-- an accepted frame is an event, and one that isn't CONNECTED or ERROR leaves the stage
event_told : {T : Type 0} (f : Content) (old new : Client T) (r : Result (ClientEvent T) ClientFault)
    → unaccepted old f ≡ None
    → Accepts f old new r
    → (e : ClientEvent T) × (r ≡ Ok e) × TellsFrame f old new e
event_told f old new (Ok e) none a = (e, refl, a.1)
event_told f old new (Err fault.Closed) none a = absurd (let z : None ≡ Some fault.Closed = sym none ∙ a.0 in cc)
event_told f old new (Err fault.Unexpected) none a =
    absurd (let z : None ≡ Some fault.Unexpected = sym none ∙ a.0 in cc)
event_told f old new (Err _) none a = absurd a

module _ (T : Type 0) (R : Sent → Type 0) (Q : Subscription → Type 0) (n : ℕ)
    (acks : (s : Subscription) → Q s → s.session ≡ n → is_auto s.mode ≡ false) where
  later_taken : (c : Client T) (f : Content) → IsLater R Q n f → TellsOpen f c → c.stage ≡ Connected
      → unaccepted c f ≡ None
  later_taken c f (message d brought asked here goes ack e) tells stage =
      let some : is_some d.ack ≡ true = ack ∙ ap not (acks d.to asked here) in
      ap (unaccepted c) e ∙ message_taken c (delivery_of d) d.ack refl some stage
  later_taken c f (receipt value e) tells stage =
      let is : is_open c.receipts (receipt_number (receipt_frame value)) ≡ true =
      ap (λ (g : Content). is_open c.receipts (receipt_number g)) (sym e) ∙ tells (ap (λ (g : Content). g.command) e) in
      ap (unaccepted c) e ∙ receipt_taken c value is stage

  -- the command of what is written behind CONNECTED
  later_command : (f : Content) → IsLater R Q n f → (f.command ≡ command.Message) ⊎ (f.command ≡ command.Receipt)
  later_command f (message d brought asked here goes ack e) = inl (ap (λ (g : Content). g.command) e)
  later_command f (receipt value e) = inr (ap (λ (g : Content). g.command) e)

  neither : (c : Command) (P : Type 0) → (c ≡ command.Message) ⊎ (c ≡ command.Receipt) → (c ≡ command.Connected)
      ⊎ (c ≡ command.Error) → P
  neither c P (inl e) (inl k) = absurd cc
  neither c P (inl e) (inr k) = absurd cc
  neither c P (inr e) (inl k) = absurd cc
  neither c P (inr e) (inr k) = absurd cc

  later_stage : (f : Content) (old new : Client T) (e : ClientEvent T) → IsLater R Q n f → TellsFrame f old new e
      → new.stage ≡ old.stage
  later_stage f old new event.Connected is k = neither f.command _ (later_command f is) (inl k.0)
  later_stage f old new (event.Message m) is k = ap (λ (c : Client T). c.stage) k.2
  later_stage f old new (event.Receipt number tag) is k = ap (λ (c : Client T). c.stage) k.3
  later_stage f old new (event.Error text) is k = neither f.command _ (later_command f is) (inr k.0)

  -- ---- what comes in order

  -- what comes behind CONNECTED, or a beginning of it
  abbrev GoesOn : List Content → Type 0
  GoesOn [] = Unit {0}
  GoesOn (f ∷ fs) = (IsLater R Q n f × GoesOn fs) ⊎ (IsError f × (fs ≡ []))

  -- all that comes, or a beginning of it
  abbrev Starts : List Content → Type 0
  Starts [] = Unit {0}
  Starts (f ∷ fs) = ((f ≡ connected_frame) × GoesOn fs) ⊎ (IsError f × (fs ≡ []))

  all_go : (fs : List Content) → AllByRecursion (IsLater R Q n) fs → GoesOn fs
  all_go [] h = tt
  all_go (f ∷ fs) h = inl (h.0, all_go fs h.1)

  all_and_error : (fs : List Content) (f : Content) → AllByRecursion (IsLater R Q n) fs → IsError f
      → GoesOn (fs ++ f ∷ [])
  all_and_error [] f h is = inr (is, refl)
  all_and_error (g ∷ fs) f h is = inl (h.0, all_and_error fs f h.1 is)

  told_starts : (connected closed : Bool) (frames : List Content) → Told (IsLater R Q n) connected closed frames
      → Starts frames
  told_starts connected closed frames (nothing c k e) = rw e tt
  told_starts connected closed frames (refused f k is e) = rw e (inr (is, refl))
  told_starts connected closed frames (opened fs c each e) = rw e (inl (refl, all_go fs each))
  told_starts connected closed frames (ended fs f k each is e) = rw e (inl (refl, all_and_error fs f each is))

  none_before : (xs ys : List Content) → xs ++ ys ≡ [] → xs ≡ []
  none_before [] ys e = refl
  none_before (x ∷ xs) ys e = absurd cc

  goes_first : (xs ys : List Content) → GoesOn (xs ++ ys) → GoesOn xs
  goes_first [] ys h = tt
  goes_first (f ∷ xs) ys (inl h) = inl (h.0, goes_first xs ys h.1)
  goes_first (f ∷ xs) ys (inr h) = inr (h.0, none_before xs ys h.1)

  starts_first : (xs ys : List Content) → Starts (xs ++ ys) → Starts xs
  starts_first [] ys h = tt
  starts_first (f ∷ xs) ys (inl h) = inl (h.0, goes_first xs ys h.1)
  starts_first (f ∷ xs) ys (inr h) = inr (h.0, none_before xs ys h.1)

  -- ---- each is an event

  abbrev Answers : Type 0
  Answers = List (Result (ClientEvent T) ClientFault)

  ok_at : (r : Result (ClientEvent T) ClientFault) (e : ClientEvent T) → r ≡ Ok e → IsOk r
  ok_at r e k = rw k refl

  error_taken : (c : Client T) (f : Content) → IsError f → is_closed c.stage ≡ false → unaccepted c f ≡ None
  error_taken c f is stage = ap (unaccepted c) is.is ∙ rw stage refl

  no_more : (stage : Stage) (answers : Answers) → AcceptsAll stage [] answers → AllByRecursion (λ r. IsOk r) answers
  no_more stage answers e = rw e tt

  last_taken : (stage : Stage) (f : Content) (fs : List Content) (answers : Answers) → is_closed stage ≡ false
      → IsError f → fs ≡ []
      → AcceptsAll stage (f ∷ fs) answers → AllByRecursion (λ r. IsOk r) answers
  last_taken stage f fs answers unclosed is none h =
      let new = h.1.0 in
      let others = h.1.1.1.0 in
      let k = h.1.1.1.1 in
      let t = event_told f h.0 new h.1.1.0 (error_taken h.0 f is (ap is_closed k.1 ∙ unclosed)) k.3 in
      let end : others ≡ [] = subst (λ l. AcceptsAll new.stage l others) none k.4 in
      rw (k.0, end) (ok_at h.1.1.0 t.0 t.1, tt)

  on_taken : (fs : List Content) (answers : Answers) → GoesOn fs → AcceptsAll Connected fs answers
      → AllByRecursion (λ r. IsOk r) answers
  on_taken [] answers g h = no_more Connected answers h
  on_taken (f ∷ fs) answers (inl g) h =
      let new = h.1.0 in
      let others = h.1.1.1.0 in
      let k = h.1.1.1.1 in
      let t = event_told f h.0 new h.1.1.0 (later_taken h.0 f g.0 k.2 k.1) k.3 in
      let stage : new.stage ≡ Connected = later_stage f h.0 new t.0 g.0 t.2 ∙ k.1 in
      rw k.0 (ok_at h.1.1.0 t.0 t.1, on_taken fs others g.1 (subst (λ s. AcceptsAll s fs others) stage k.4))
  on_taken (f ∷ fs) answers (inr g) h = last_taken Connected f fs answers refl g.0 g.1 h

  connected_taken : (c : Client T) → c.stage ≡ Connecting → unaccepted c connected_frame ≡ None
  connected_taken c stage = rw stage refl

  connected_stage : (old new : Client T) (e : ClientEvent T) → TellsFrame connected_frame old new e
      → new.stage ≡ Connected
  connected_stage old new event.Connected k = ap (λ (c : Client T). c.stage) k.1
  connected_stage old new (event.Message m) k =
      absurd (let z : command.Connected ≡ command.Message = ap (λ (g : Content). g.command) (sym k.0) ∙ k.1.command
      in cc)
  connected_stage old new (event.Receipt number tag) k =
      absurd (let z : command.Connected ≡ command.Receipt = k.0 in cc)
  connected_stage old new (event.Error text) k = absurd (let z : command.Connected ≡ command.Error = k.0 in cc)

  starts_taken : (fs : List Content) (answers : Answers) → Starts fs → AcceptsAll Connecting fs answers
      → AllByRecursion (λ r. IsOk r) answers
  starts_taken [] answers g h = no_more Connecting answers h
  starts_taken (f ∷ fs) answers (inl g) h =
      let new = h.1.0 in
      let others = h.1.1.1.0 in
      let k = h.1.1.1.1 in
      let a : Accepts connected_frame h.0 new h.1.1.0 = subst (λ (x : Content). Accepts x h.0 new h.1.1.0) g.0 k.3 in
      let t = event_told connected_frame h.0 new h.1.1.0 (connected_taken h.0 k.1) a in
      let stage : new.stage ≡ Connected = connected_stage h.0 new t.0 t.2 in
      rw k.0 (ok_at h.1.1.0 t.0 t.1, on_taken fs others g.1 (subst (λ s. AcceptsAll s fs others) stage k.4))
  starts_taken (f ∷ fs) answers (inr g) h = last_taken Connecting f fs answers refl g.0 g.1 h

-- ---- the whole

not_auto : (calls : List BrokerCall) (n : ℕ) (s : Subscription) (mode : Mode) → AsksForAcks calls n → s.mode ≡ mode
    → IsAsked calls s
    → s.session ≡ n
    → is_auto mode ≡ false
not_auto calls n s Auto asks e is here =
    absurd (asks is.request (subst (λ i. Contains (handled_in i calls) (Ok (Subscribe is.request))) here is.among)
    (is.mode ∙ ap Some e))
not_auto calls n s ByClient asks e is here = refl
not_auto calls n s Individual asks e is here = refl

pub clients_take_all : (T : Type 0) → ClientsTakeAll T
clients_take_all T full calls b n waiting carried frames held answers lives comes asks accepts =
    let read = brokers_are_read full calls b n waiting carried frames held lives comes in
    let R : Sent → Type 0 = IsBrought calls in
    let Q : Subscription → Type 0 = IsAsked calls in
    let acks : (s : Subscription) → Q s → s.session ≡ n → is_auto s.mode ≡ false =
    λ s is here. not_auto calls n s s.mode asks refl is here in
    let starts =
    told_starts T R Q n acks read.speaks.connected read.speaks.closed read.speaks.frames read.speaks.told in
    starts_taken T R Q n acks frames answers (starts_first T R Q n acks frames read.others (subst
    (Starts T R Q n acks) read.whole starts)) accepts
