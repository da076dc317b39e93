-- A client that only its calls write for asks for no subscription of mode `auto`.
use Rattle.std.proofs.Common.{◌≡◌, ℕ, false, List, ◌∷◌, codes, Option, Some, None, Result, Ok, Err, refl, sym, ap, ◌∙◌}
use Rattle.std.proofs.Common.{subst, inl, inr}
use Rattle.std.specs.List.{AllByRecursion, Contains}
use Rattle.std.proofs.lemmas.List.Elements.{Contains-append_left}
use Rattle.stomp_frame.specs.declared.command.Command.{Command}
use Rattle.stomp_frame.specs.declared.command.Command.TheVariants.{Ack, Nack, Begin, Commit, Abort, Disconnect, Send}
use Rattle.stomp_frame.specs.declared.command.Command.TheVariants.{Subscribe, Connect}
use Rattle.stomp_frame.specs.Frames.{Content, value_of}
use Rattle.stomp_session.specs.Requests.{ack_mode, asked, asked_by, refusal_of, request_of, request_unless}
use Rattle.stomp_session.specs.declared.fault.SessionFault.{SessionFault}
use Rattle.stomp_session.specs.declared.request.Request.{Request}
use Rattle.stomp_session.specs.declared.request.Request.TheVariants.{Subscribe as Subscribing}
use Rattle.stomp_session.specs.declared.request.Subscribe.{Subscribe as SubscribeParts}
use Rattle.stomp_client.specs.Frames.{connect_frame, in_transaction, subscribe_frame}
use Rattle.stomp_client.specs.Served.{IsClients, subscribes, sends, sends_with_receipt, acks, nacks, begins, commits}
use Rattle.stomp_client.specs.Served.{aborts, disconnects}
use Rattle.broker_book.specs.declared.parts.Mode.TheVariants.{Auto, Individual}
use Rattle.broker_core.specs.Feeding.{answer_by}
use Rattle.broker_core.specs.Serving.{Decided}
use Rattle.broker_core.specs.Words.{mode_of}
use Rattle.laws_broker.specs.Carried.{ClientsAskForAcks, decided_all}
use Rattle.laws_broker.proofs.Carrying.{decided_from, head_or_tail, one_of, written_are_handled}

-- ---- the frame of a SUBSCRIBE

-- the mode that a SUBSCRIBE asks for stands in its frame
record IsSubscribeOf (c : Command) (f : Content) (s : SubscribeParts) : Type 0 where
  command : c ≡ Subscribe
  ack : s.ack ≡ value_of (codes "ack") f.headers

by_command : (c : Command) (f : Content) (s : SubscribeParts) → asked_by c f ≡ Subscribing s → IsSubscribeOf c f s
by_command Subscribe f s e = record { command = refl; ack = ap (λ (x : SubscribeParts). x.ack) (sym (same e)) }
  where
    same : {a b : SubscribeParts} → Subscribing a ≡ Subscribing b → a ≡ b
    same e = cc
by_command _ f s e = absurd cc

request_from : (f : Content) (o : Option SessionFault) (s : SubscribeParts) → request_unless o f ≡ Ok (Subscribing s)
    → IsSubscribeOf f.command f s
request_from f None s e = let k : asked f ≡ Subscribing s = cc in by_command f.command f s k
request_from f (Some fault) s e = absurd (let k : Err fault ≡ Ok (Subscribing s) = e in cc)

answer_from : (f : Content) (q : Result Request SessionFault) (s : SubscribeParts) → answer_by f q ≡ Ok (Subscribing s)
    → q ≡ Ok (Subscribing s)
answer_from f (Ok request) s e = let k : request ≡ Subscribing s = cc in ap (λ (x : Request). Ok x) k
answer_from f (Err fault) s e = absurd cc

-- ---- the frames of a client

in_command : (transaction : Option ℕ) (f : Content) → (in_transaction transaction f).command ≡ f.command
in_command None f = refl
in_command (Some number) f = refl

apart : (f : Content) (c : Command) (P : Type 0) → f.command ≡ c → f.command ≡ Subscribe → (c ≡ Subscribe → ⊥) → P
apart f c P e k other = absurd (other (sym e ∙ k))

command_of : (f g : Content) (c : Command) → f ≡ g → g.command ≡ c → f.command ≡ c
command_of f g c e k = ap (λ (x : Content). x.command) e ∙ k

-- its SUBSCRIBE alone has that command
subscribe_alone : (f : Content) → IsClients f → f.command ≡ Subscribe → (destination : List ℕ)
    × (f ≡ subscribe_frame destination)
subscribe_alone f (subscribes destination e) k = (destination, e)
subscribe_alone f (sends m t is given e) k =
    apart f Send _ (command_of f (in_transaction t m) Send e (in_command t m ∙ is.plain.command)) k (λ z. cc)
subscribe_alone f (sends_with_receipt m number is given e) k =
    apart f Send _ (command_of f _ Send e is.plain.command) k (λ z. cc)
subscribe_alone f (acks m t is given e) k = apart f Ack _ (command_of f _ Ack e (in_command t _)) k (λ z. cc)
subscribe_alone f (nacks m t is given e) k = apart f Nack _ (command_of f _ Nack e (in_command t _)) k (λ z. cc)
subscribe_alone f (begins number given e) k = apart f Begin _ (command_of f _ Begin e refl) k (λ z. cc)
subscribe_alone f (commits number given e) k = apart f Commit _ (command_of f _ Commit e refl) k (λ z. cc)
subscribe_alone f (aborts number given e) k = apart f Abort _ (command_of f _ Abort e refl) k (λ z. cc)
subscribe_alone f (disconnects e) k = apart f Disconnect _ (command_of f _ Disconnect e refl) k (λ z. cc)

individual : (destination : List ℕ) → mode_of (ack_mode (value_of (codes "ack") (subscribe_frame destination).headers))
    ≡ Some Individual
individual destination = refl

mode_asked : (f : Content) (frames : List Content) → AllByRecursion IsClients frames
    → Contains (connect_frame ∷ frames) f
    → f.command ≡ Subscribe → mode_of (ack_mode (value_of (codes "ack") f.headers)) ≡ Some Individual
mode_asked f frames all among is = elim (head_or_tail connect_frame f frames among) [
  | inl same ↦ apart f Connect _ (command_of f connect_frame Connect (sym same) refl) is (λ z. cc)
  | inr there ↦
      let s = subscribe_alone f (one_of IsClients frames f all there) is in
      ap (λ (g : Content). mode_of (ack_mode (value_of (codes "ack") g.headers))) s.1 ∙ individual s.0
]

pub clients_ask_for_acks : ClientsAskForAcks
clients_ask_for_acks full calls b n frames lives all fed request among mode =
    let h = written_are_handled full calls b n (connect_frame ∷ frames) lives fed in
    let here : Contains (decided_all false h.first) (Ok (Subscribing request)) =
    subst (λ (l : List Decided). Contains l (Ok (Subscribing request))) h.decided among in
    let of = decided_from false h.first (Ok (Subscribing request)) here in
    let s = request_from of.frame (refusal_of of.connected of.frame) request
    (answer_from of.frame (request_of of.connected of.frame) request of.decided) in
    let wrote : Contains (connect_frame ∷ frames) of.frame =
    subst (λ (l : List Content). Contains l of.frame) (sym h.whole) (Contains-append_left h.first h.others of.frame
    of.among) in
    let asks : mode_of (ack_mode request.ack) ≡ Some Individual =
    ap (λ a. mode_of (ack_mode a)) s.ack ∙ mode_asked of.frame frames all wrote s.command in
    absurd (let z : Some Individual ≡ Some Auto = sym asks ∙ mode in cc)
