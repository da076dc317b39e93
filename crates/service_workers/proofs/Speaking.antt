-- What is written for what came, and of the outbox: which frames these are, and what has to be so of them.
use Rattle.std.proofs.Common.{◌≡◌, ◌⊎◌, ℕ, zero, suc, ◌+◌, Bool, true, false, List, [], ◌∷◌, ◌++◌, refl, sym, ap, ◌∙◌}
use Rattle.std.proofs.Common.{append-nil, subst, inl, inr, Option, Some, None, Result, Ok, Err}
use Rattle.std.specs.Prelude.{◌&&◌, if◌then◌else◌, nat_lt, IfSome}
use Rattle.base.specs.declared.entity.Kind.{Kind}
use Rattle.base.specs.declared.pair.Pair.{Pair}
use Rattle.base.specs.Entity.{queue_of}
use Rattle.stomp_frame.specs.Frames.{Content, canonical}
use Rattle.stomp_frame.specs.Streams.{canonical_texts}
use Rattle.stomp_frame.specs.declared.fault.FrameFault.{FrameFault}
use Rattle.stomp_frame.specs.declared.command.Command.TheVariants.{Ack, Nack}
use Rattle.stomp_client.specs.Accepting.{Accepts, is_closed, is_connected, is_expected}
use Rattle.stomp_client.specs.Clients.{Client, ClientWithRoom, written, closing, connected, counting}
use Rattle.stomp_client.specs.Calls.{WritesOrRefuses, WritesFrame, DisconnectsWithReceipt, unready, or_used}
use Rattle.stomp_client.specs.Delivered.{IsDelivered, is_whole}
use Rattle.stomp_client.specs.Frames.{subscribe_frame, subscribe_frame_with, disconnect_frame, with_receipt}
use Rattle.stomp_client.specs.Written.{Adds}
use Rattle.stomp_client.specs.declared.event.ClientEvent.{ClientEvent}
use Rattle.stomp_client.specs.declared.event.ClientEvent.TheVariants as event
use Rattle.stomp_client.specs.declared.fault.ClientFault.{ClientFault}
use Rattle.stomp_client.specs.declared.fault.ClientFault.TheVariants as client
use Rattle.stomp_client.specs.declared.session.Stage.{Stage}
use Rattle.stomp_client.specs.declared.session.Stage.TheVariants as stage
use Rattle.channel.specs.Calls.{GivesNext, GivesNextOf, outgoing}
use Rattle.channel.specs.declared.channel.Channel.{Channel}
use Rattle.envelope.specs.Reading.{read_frame}
use Rattle.envelope.specs.Written.{send_of}
use Rattle.envelope.specs.declared.fault.EnvelopeFault.TheVariants as envelope_fault
use Rattle.envelope.specs.declared.message.Envelope.{Envelope}
use Rattle.envelope.specs.declared.message.Envelope.TheVariants as envelope
use Rattle.envelope.specs.declared.message.Letter.{Letter}
use Rattle.activities.specs.Service.{Service}
use Rattle.keep.specs.Tables.{set_mark}
use Rattle.endpoint.specs.Deeds.{Kept}
use Rattle.endpoint.specs.declared.fault.EndFault.{EndFault}
use Rattle.endpoint.specs.declared.fault.EndFault.TheVariants as end
use Rattle.reception.specs.Answers.{Answers, BringsMessage}
use Rattle.reception.specs.Prepared.{IsUnaskedFor, IsUnasked, PreparesFrame}
use Rattle.reception.specs.declared.fault.Untaken.{Untaken}
use Rattle.reception.specs.declared.prepared.Prepared.{Prepared}
use Rattle.reception.specs.declared.prepared.Prepared.TheVariants as prepared
use Rattle.reception.specs.Replies.{answer, settling, refusal, Writes as Replies}
use Rattle.reception.specs.declared.fault.ReceptionFault.{ReceptionFault}
use Rattle.reception.specs.declared.fault.ReceptionFault.TheVariants as fault
use Rattle.reception.specs.declared.taken.Taken.{Taken}
use Rattle.reception.specs.declared.taken.Taken.TheVariants as taken
use Rattle.relay.specs.Calls.{FillsLetters, idle_answer}
use Rattle.relay.specs.Filling.{SendState, due, SendsLetters, sends_of, with_sent}
use Rattle.relay.specs.declared.fault.RelayFault.{RelayFault}
use Rattle.relay.specs.declared.fault.RelayFault.TheVariants as relay_fault
use Rattle.told_lock.specs.Rule.{Every}
use Rattle.shared_endpoint.specs.Keys.{Any}
use Rattle.told_lock.proofs.Views.{every_map}
use Rattle.service_workers.specs.Tokens.{Progress, progress_of}
use Rattle.service_workers.specs.Truth.{AreSentIn, IsForeign, IsNotSent, RepliedBy, Finishes}
use Rattle.service_workers.specs.Written.{frames_of, IsSendOf, IsOfSession, subscribes, subscribes_with, disconnects}
use Rattle.service_workers.specs.Written.{IsFree, of_session, refuses, unread, IsDoneWith, Speaks, sends, is_done, settles}
use Rattle.service_workers.proofs.Written.{one_block, adds_none, adds_frames}

-- a client writes blocks of which each is so
abbrev pub Says : (List Content → Type 0) → (old new : Client ℕ) → Type 0
Says P old new = (blocks : List (List Content)) × Every P blocks × Adds (frames_of blocks) old.out new.out

pub says_nothing : (P : List Content → Type 0) (old new : Client ℕ) → new.out ≡ old.out → Says P old new
says_nothing P old new is = ([], tt, subst (Adds [] old.out) (sym is) (adds_none old.out))

pub says_block : (P : List Content → Type 0) (block : List Content) (old new : Client ℕ) → P block
    → Adds block old.out new.out
    → Says P old new
says_block P block old new is adds = (block ∷ [], (is, tt), subst (λ fs. Adds fs old.out new.out) (sym (one_block block)) adds)

pub says_also : (P Q : List Content → Type 0) → ((block : List Content) → P block → Q block) → (old new : Client ℕ)
    → Says P old new → Says Q old new
says_also P Q so old new h = (h.0, every_map P Q h.0 so h.1, h.2)

replied : (P : List Content → Type 0) (block : List Content) (old from new : Client ℕ) → P block → from.out ≡ old.out
    → Replies block from new
    → Says P old new
replied P block old from new is same h = says_block P block old new is
    (adds_frames block old.out new.out h.each (ap (λ (c : Client ℕ). c.out) h.all ∙ ap (λ l. l ++ canonical_texts block) same))

-- ---- what came

-- a frame that is accepted, or isn't, makes nothing be written
pub accepts_nothing : (f : Content) (old new : Client ℕ) (r : Result (ClientEvent ℕ) ClientFault) → Accepts f old new r
    → new.out ≡ old.out
accepts_nothing f old new (Ok event.Connected) h = ap (λ (c : Client ℕ). c.out) h.1.1
accepts_nothing f old new (Ok (event.Message message)) h = ap (λ (c : Client ℕ). c.out) h.1.2
accepts_nothing f old new (Ok (event.Receipt number tag)) h = ap (λ (c : Client ℕ). c.out) h.1.3
accepts_nothing f old new (Ok (event.Error text)) h = ap (λ (c : Client ℕ). c.out) h.1.2
accepts_nothing f old new (Err client.Closed) h = ap (λ (c : Client ℕ). c.out) h.1
accepts_nothing f old new (Err client.Unexpected) h = ap (λ (c : Client ℕ). c.out) h.1
accepts_nothing f old new (Err client.NotConnected) h = absurd h
accepts_nothing f old new (Err client.AlreadyConnected) h = absurd h
accepts_nothing f old new (Err client.Memory) h = absurd h
accepts_nothing f old new (Err client.NumbersUsed) h = absurd h

-- the next frame of a channel
given_same : (o : Option Content) (old new : Channel) (r : Result (Option Content) FrameFault) → GivesNextOf o old new r
    → outgoing new ≡ outgoing old
given_same (Some f) old new r h = ap outgoing h.1
given_same None old new r h = ap outgoing h.1

-- to take the next frame writes nothing
pub next_says_nothing : (old new : Channel) (r : Result (Option Content) FrameFault) → GivesNext old new r
    → outgoing new ≡ outgoing old
next_says_nothing old new r h = given_same old.waiting old new r h

-- to accept a frame writes nothing, so whatever has to hold of the written frames holds
pub accepts_says : (P : List Content → Type 0) (f : Content) (old new : Client ℕ) (r : Result (ClientEvent ℕ) ClientFault)
    → Accepts f old new r
    → Says P old new
accepts_says P f old new r h = says_nothing P old new (accepts_nothing f old new r h)

-- what became of a frame that asked nothing of the endpoint
pub unasked_says : (kind : Kind) (f : Content) (old new : Client ℕ) (t : Taken) → IsUnaskedFor t → Answers kind f old new (Ok t)
    → Says (IsOfSession kind) old new
unasked_says kind f old new taken.Connected none h =
    replied (IsOfSession kind) (subscribe_frame (queue_of kind) ∷ []) old (connected old) new subscribes refl h.2
unasked_says kind f old new (taken.Receipt number) none h =
    accepts_says (IsOfSession kind) f old new (Ok (event.Receipt number h.0)) h.1
unasked_says kind f old new (taken.Error text) none h = accepts_says (IsOfSession kind) f old new (Ok (event.Error text)) h
unasked_says kind f old new (taken.Handled position) none h = absurd none
unasked_says kind f old new (taken.Repeated number) none h = absurd none
unasked_says kind f old new taken.Held none h = absurd none
unasked_says kind f old new (taken.Settled mark) none h = absurd none

same_says : (P : List Content → Type 0) (old new : Client ℕ) → new ≡ old → Says P old new
same_says P old new is = says_nothing P old new (ap (λ (c : Client ℕ). c.out) is)

-- a fault that isn't the endpoint's: only a MESSAGE that carries no envelope is answered
pub fault_says : (P : List Content → Type 0) (kind : Kind) (f : Content) (old new : Client ℕ) (cause : ReceptionFault)
    → (BringsMessage f old → read_frame f ≡ None → P (answer Ack f)) → IsUnasked cause
    → Answers kind f old new (Err cause)
    → Says P old new
fault_says P kind f old new (fault.Frame cause) done none h = absurd h
fault_says P kind f old new (fault.Client client.Memory) done none h = same_says P old new h
fault_says P kind f old new (fault.Client client.NumbersUsed) done none h = same_says P old new h.3
fault_says P kind f old new (fault.Client client.NotConnected) done none h = accepts_says P f old new (Err client.NotConnected) h
fault_says P kind f old new (fault.Client client.AlreadyConnected) done none h =
    accepts_says P f old new (Err client.AlreadyConnected) h
fault_says P kind f old new (fault.Client client.Closed) done none h = accepts_says P f old new (Err client.Closed) h
fault_says P kind f old new (fault.Client client.Unexpected) done none h = accepts_says P f old new (Err client.Unexpected) h
fault_says P kind f old new (fault.Envelope envelope_fault.BadEnvelope) done none h =
    replied P (answer Ack f) old old new (done h.0 h.1) refl h.2
fault_says P kind f old new (fault.Envelope envelope_fault.Memory) done none h = same_says P old new h.1
fault_says P kind f old new (fault.End cause) done none h = absurd none

-- a frame that isn't a MESSAGE which the client accepts
pub prepares_says : (kind : Kind) (f : Content) (old new : ClientWithRoom ℕ) (r : Result Prepared Untaken)
    → (BringsMessage f old.client → ⊥) → PreparesFrame kind f old new r
    → Says (IsOfSession kind) old.client new.client
prepares_says kind f old new (Ok (prepared.Done t)) other h = unasked_says kind f old.client new.client t h.0 h.1
prepares_says kind f old new (Ok (prepared.Letter p)) other h = same_says (IsOfSession kind) old.client new.client h.1
prepares_says kind f old new (Ok (prepared.Settle p)) other h = same_says (IsOfSession kind) old.client new.client h.1
prepares_says kind f old new (Err untaken) other h =
    fault_says (IsOfSession kind) kind f old.client new.client untaken.fault (λ brings none. absurd (other brings)) h.0 h.1

-- a client accepts a MESSAGE once it's connected
at_stage : (s : Stage) (whole : Bool)
    → (if is_closed s then Some client.Closed else if is_connected s && whole then None else Some client.Unexpected) ≡ None
    → s ≡ stage.Connected
at_stage stage.Connected whole is = refl
at_stage stage.Fresh whole is = absurd (let k : Some client.Unexpected ≡ None = is in cc)
at_stage stage.Connecting whole is = absurd (let k : Some client.Unexpected ≡ None = is in cc)
at_stage stage.Closed whole is = absurd (let k : Some client.Closed ≡ None = is in cc)

pub brings_connected : (f : Content) (c : Client ℕ) → BringsMessage f c → c.stage ≡ stage.Connected
brings_connected f c h = at_stage c.stage (is_whole f)
    (subst (λ k. (if is_closed c.stage then Some client.Closed else if is_expected c f k then None else Some client.Unexpected) ≡ None)
    h.1.1.command h.0)

-- a frame of the session that is to be written, and is or isn't
refuses_says : {R : Type 0} (mine : Kind) (refusal : Option ClientFault) (f : Content) (done : R → Client ℕ → Type 0)
    (old new : Client ℕ) (r : Result R ClientFault) → IsOfSession mine (f ∷ [])
    → ((x : R) (c : Client ℕ) → done x c → c.out ≡ old.out ++ canonical f)
    → WritesOrRefuses refusal f done old new r
    → Says (IsOfSession mine) old new
refuses_says mine refusal f done old new (Ok x) is so h = says_block (IsOfSession mine) (f ∷ []) old new is
    (adds_frames (f ∷ []) old.out new.out (h.1, tt)
    (so x new h.2 ∙ ap (λ l. old.out ++ l) (sym (append-nil (canonical f)))))
refuses_says mine refusal f done old new (Err client.NotConnected) is so h = same_says (IsOfSession mine) old new h.1
refuses_says mine refusal f done old new (Err client.AlreadyConnected) is so h = same_says (IsOfSession mine) old new h.1
refuses_says mine refusal f done old new (Err client.Unexpected) is so h = same_says (IsOfSession mine) old new h.1
refuses_says mine refusal f done old new (Err client.Closed) is so h = same_says (IsOfSession mine) old new h.1
refuses_says mine refusal f done old new (Err client.Memory) is so h = same_says (IsOfSession mine) old new h.1
refuses_says mine refusal f done old new (Err client.NumbersUsed) is so h = same_says (IsOfSession mine) old new h.1

-- SUBSCRIBE is a frame of the session
pub subscribes_say : (mine : Kind) (prefetch : ℕ) (old new : Client ℕ) (r : Result (Unit {0}) ClientFault)
    → WritesFrame (subscribe_frame_with (queue_of mine) prefetch) old new r
    → Says (IsOfSession mine) old new
subscribes_say mine prefetch old new r h =
    let f = subscribe_frame_with (queue_of mine) prefetch in
    refuses_says mine (unready old.stage) f (λ _ c. c ≡ written f old) old new r (subscribes_with prefetch)
    (λ x c is. ap (λ (k : Client ℕ). k.out) {x = c} {y = written f old} is) h

-- DISCONNECT is a frame of the session
pub leaves_say : (mine : Kind) (old new : Client ℕ) (r : Result ℕ ClientFault) → DisconnectsWithReceipt old new r
    → Says (IsOfSession mine) old new
leaves_say mine old new r h =
    let last = old.receipts.last + 1 in
    refuses_says mine (or_used old.receipts.last (unready old.stage)) (with_receipt last disconnect_frame)
    (λ n c. (n ≡ last) × (c ≡ closing (written (with_receipt n disconnect_frame) old))) old new r (disconnects last)
    (λ n c is. ap (λ (k : Client ℕ). k.out) {x = c} {y = closing (written (with_receipt n disconnect_frame) old)} is.1
    ∙ ap (λ m. old.out ++ canonical (with_receipt m disconnect_frame)) is.0) h

-- ---- what is answered to it

module _ {S C : Type 0} (service : Service S C) (came : Content → Type 0) where
  -- a block may be written at any time, or by what has been kept where what is told of a MESSAGE is so of that
  abbrev pub ByReply : Content → Result Taken ReceptionFault → List Content → Type 0
  ByReply f r block = IsFree service.kind came block
      ⊎ ((x : Kept C) → RepliedBy f r (progress_of service x) → Speaks service came x block)

  foreign_done : (e : Envelope) (x : Progress) → IsForeign e x → IsDoneWith e x
  foreign_done (envelope.Letter l) x h = inr h
  foreign_done (envelope.Settle p n) x h = inr (inl h)

  not_sent_done : (e : Envelope) (x : Progress) → IsNotSent e x → IsDoneWith e x
  not_sent_done (envelope.Letter l) x h = absurd h
  not_sent_done (envelope.Settle p n) x h = inr (inr h)

  module _ (f : Content) (at : came f) where
    -- what is refused for good carries an envelope, or none
    refused_for_good : (cause : EndFault) (o : Option Envelope) → IsDelivered f → read_frame f ≡ o
        → ((e : Envelope) (x : Kept C) → read_frame f ≡ Some e → RepliedBy f (Err (fault.End cause)) (progress_of service x)
        → IsDoneWith e (progress_of service x))
        → ByReply f (Err (fault.End cause)) (answer Ack f)
    refused_for_good cause None whole is done = inl (unread f whole at is)
    refused_for_good cause (Some e) whole is done = inr (λ x h. is_done f e at is (done e x is h))

    end_says : (cause : EndFault) (old new : Client ℕ) → IsDelivered f → Replies (refusal f cause) old new
        → Says (ByReply f (Err (fault.End cause))) old new
    end_says end.NotMine old new whole h = replied (ByReply f (Err (fault.End end.NotMine))) (answer Ack f) old old new
        (refused_for_good end.NotMine (read_frame f) whole refl
        (λ e x is told. foreign_done e (progress_of service x) (told e is))) refl h
    end_says end.NotSent old new whole h = replied (ByReply f (Err (fault.End end.NotSent))) (answer Ack f) old old new
        (refused_for_good end.NotSent (read_frame f) whole refl
        (λ e x is told. not_sent_done e (progress_of service x) (told e is))) refl h
    end_says end.StoreFailed old new whole h =
        ([], tt, adds_frames [] old.out new.out h.each (ap (λ (c : Client ℕ). c.out) h.all))
    end_says (end.Business refused) old new whole h =
        replied (ByReply f (Err (fault.End (end.Business refused)))) (answer Nack f) old old new (inl (refuses f whole at)) refl h
    end_says end.TooEarly old new whole h =
        replied (ByReply f (Err (fault.End end.TooEarly))) (answer Nack f) old old new (inl (refuses f whole at)) refl h
    end_says end.Memory old new whole h =
        replied (ByReply f (Err (fault.End end.Memory))) (answer Nack f) old old new (inl (refuses f whole at)) refl h
    end_says end.Unusable old new whole h =
        replied (ByReply f (Err (fault.End end.Unusable))) (answer Nack f) old old new (inl (refuses f whole at)) refl h
    end_says end.NumberLimit old new whole h =
        replied (ByReply f (Err (fault.End end.NumberLimit))) (answer Nack f) old old new (inl (refuses f whole at)) refl h

    -- a fault of this side
    its_fault_says : (kind : Kind) (old new : Client ℕ) (cause : ReceptionFault) → IsUnasked cause
        → Answers kind f old new (Err cause)
        → Says (ByReply f (Err cause)) old new
    its_fault_says kind old new cause none h = fault_says (ByReply f (Err cause)) kind f old new cause
        (λ brings is. inl (unread f brings.1.1 at is)) none h

    module _ (kind : Kind) (mine : kind ≡ service.kind) where
      session_says : (t : Taken) (old new : Client ℕ) → IsUnaskedFor t → Answers kind f old new (Ok t)
          → Says (ByReply f (Ok t)) old new
      session_says t old new none h = says_also (IsOfSession kind) (ByReply f (Ok t))
          (λ block is. inl (of_session block (subst (λ k. IsOfSession k block) mine is))) old new
          (unasked_says kind f old new t none h)

      answers_say : (old new : Client ℕ) (r : Result Taken ReceptionFault) → Answers kind f old new r
          → Says (ByReply f r) old new
      answers_say old new (Ok taken.Connected) h = session_says taken.Connected old new tt h
      answers_say old new (Ok (taken.Receipt n)) h = session_says (taken.Receipt n) old new tt h
      answers_say old new (Ok (taken.Error t)) h = session_says (taken.Error t) old new tt h
      answers_say old new (Ok (taken.Handled position)) h =
          replied (ByReply f (Ok (taken.Handled position))) (settling f (old.transactions + 1) h.0.pair h.0.number) old
          (counting old) new
          (inr (λ x told. settles f (old.transactions + 1) h.0 h.0.number at h.1.1 (told h.0 h.1.1) (told h.0 h.1.1))) refl h.2
      answers_say old new (Ok (taken.Repeated n)) h =
          replied (ByReply f (Ok (taken.Repeated n))) (settling f (old.transactions + 1) h.0.pair n) old (counting old) new
          (inr (λ x told. settles f (old.transactions + 1) h.0 n at h.1.1 (told h.0 h.1.1).0 (told h.0 h.1.1).1)) refl h.2
      answers_say old new (Ok taken.Held) h = replied (ByReply f (Ok taken.Held)) (answer Ack f) old old new
          (inr (λ x told. is_done f (envelope.Letter h.0) at h.1.1 (inl (told h.0 h.1.1)))) refl h.2
      answers_say old new (Ok (taken.Settled mark)) h =
          replied (ByReply f (Ok (taken.Settled mark))) (answer Ack f) old old new
          (inr (λ x told. is_done f (envelope.Settle h.0 h.1) at h.2.1 (inl (told h.0 h.1 h.2.1).0))) refl h.3
      answers_say old new (Err (fault.Frame cause)) h = absurd h
      answers_say old new (Err (fault.Client cause)) h = its_fault_says kind old new (fault.Client cause) tt h
      answers_say old new (Err (fault.Envelope cause)) h = its_fault_says kind old new (fault.Envelope cause) tt h
      answers_say old new (Err (fault.End cause)) h = end_says cause old new h.0.1.1 h.1

      pub finishes_say : (old new : Client ℕ) (r : Result Taken ReceptionFault) → Finishes kind f old new r
          → Says (ByReply f r) old new
      finishes_say old new r (inl h) = answers_say old new r h
      finishes_say old new r (inr h) = same_says (ByReply f r) old new h.1

-- ---- what stands in the outbox

-- each frame by itself
abbrev blocks_of : List Content → List (List Content)
blocks_of [] = []
blocks_of (f ∷ fs) = (f ∷ []) ∷ blocks_of fs

blocks_are : (fs : List Content) → frames_of (blocks_of fs) ≡ fs
blocks_are [] = refl
blocks_are (f ∷ fs) = ap (λ gs. f ∷ gs) (blocks_are fs)

each_send : (all : List Letter) (c : SendState) (ls : List Letter)
    → ((block : List Content) → Any (IsSendOf block) ls → Any (IsSendOf block) all)
    → Every (λ block. Any (IsSendOf block) all) (blocks_of (sends_of c ls))
each_send all c [] within = tt
each_send all c (l ∷ ls) within = (
  within (with_receipt (c.client.receipts.last + 1) (send_of (envelope.Letter l)) ∷ [])
      (inl (c.client.receipts.last + 1, refl)),
  each_send all (with_sent c l) ls (λ block at. within block (inr at)),
)

one_due : (test : Bool) (limit : ℕ) (marks : Pair → ℕ) (l : Letter) (ls : List Letter) (block : List Content)
    → (Any (IsSendOf block) (due limit (set_mark l.pair l.number marks) ls) → Any (IsSendOf block) ls)
    → (Any (IsSendOf block) (due (suc limit) marks ls) → Any (IsSendOf block) ls)
    → Any (IsSendOf block) (if test then l ∷ due limit (set_mark l.pair l.number marks) ls else due (suc limit) marks ls)
    → Any (IsSendOf block) (l ∷ ls)
one_due true limit marks l ls block with without (inl is) = inl is
one_due true limit marks l ls block with without (inr more) = inr (with more)
one_due false limit marks l ls block with without more = inr (without more)

all_due : (limit : ℕ) (marks : Pair → ℕ) (ls : List Letter) (block : List Content)
    → Any (IsSendOf block) (due limit marks ls) → Any (IsSendOf block) ls
all_due zero marks ls block at = absurd at
all_due (suc limit) marks [] block at = absurd at
all_due (suc limit) marks (l ∷ ls) block at = one_due (nat_lt (marks l.pair) l.number) limit marks l ls block
    (all_due limit (set_mark l.pair l.number marks) ls block) (all_due (suc limit) marks ls block) at

sent_says : (all : List Letter) (ls : List Letter) (old new : SendState) → ((block : List Content) → Any (IsSendOf block) ls → Any (IsSendOf block) all)
    → SendsLetters ls old new
    → Says (λ block. Any (IsSendOf block) all) old.client new.client
sent_says all ls old new within h = (
  blocks_of (sends_of old ls),
  each_send all old ls within,
  subst (λ fs. Adds fs old.client.out new.client.out) (sym (blocks_are (sends_of old ls))) h.wrote,
)

filled_says : (limit : ℕ) (ls : List Letter) (old new : SendState) (r : Result ℕ RelayFault) → FillsLetters limit ls old new r
    → Says (λ block. Any (IsSendOf block) ls) old.client new.client
filled_says limit ls old new (Ok count) h = sent_says ls (due limit old.marks ls) old new (all_due limit old.marks ls) h.1
filled_says limit ls old new (Err cause) h = sent_says ls (due h.0 old.marks ls) old new (all_due h.0 old.marks ls) h.3

idle_says : (ls : List Letter) (answer r : Result ℕ RelayFault) (old new : SendState) → (r ≡ answer) × (new ≡ old)
    → Says (λ block. Any (IsSendOf block) ls) old.client new.client
idle_says ls answer r old new h =
    says_nothing (λ block. Any (IsSendOf block) ls) old.client new.client (ap (λ (s : SendState). s.client.out) h.1)

-- all that a filling writes are SENDs of the given letters
pub fill_says : (s : Stage) (limit : ℕ) (ls : List Letter) (old new : SendState) (r : Result ℕ RelayFault)
    → IfSome (idle_answer s) (λ answer. (r ≡ answer) × (new ≡ old))
    → (s ≡ stage.Connected → FillsLetters limit ls old new r)
    → Says (λ block. Any (IsSendOf block) ls) old.client new.client
fill_says stage.Fresh limit ls old new r idle fills = idle_says ls (Ok 0) r old new idle
fill_says stage.Connecting limit ls old new r idle fills = idle_says ls (Ok 0) r old new idle
fill_says stage.Connected limit ls old new r idle fills = filled_says limit ls old new r (fills refl)
fill_says stage.Closed limit ls old new r idle fills = idle_says ls (Err (relay_fault.Client client.Closed)) r old new idle

-- a letter that is true may be sent
pub sent_speaks : {S C : Type 0} (service : Service S C) (came : Content → Type 0) (ls : List Letter) (x : Kept C)
    (block : List Content) → Any (IsSendOf block) ls → AreSentIn service.reactions ls x
    → Speaks service came x block
sent_speaks service came [] x block at h = absurd at
sent_speaks service came (l ∷ ls) x block (inl at) h = subst (Speaks service came x) (sym at.1) (sends l at.0 h.0)
sent_speaks service came (l ∷ ls) x block (inr at) h = sent_speaks service came ls x block at h.1
