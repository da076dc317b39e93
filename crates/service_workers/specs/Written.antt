-- What a service may write on a connection, and what was written on one.
use Rattle.std.specs.Prelude.{◌≡◌, ◌⊎◌, ℕ, ◌≤◌, List, [], ◌∷◌, ◌++◌, take, Option, Some, None, Result, Ok, Err, ⊤}
use Rattle.std.specs.List.{flat_map}
use Rattle.base.specs.Entity.{queue_of}
use Rattle.base.specs.declared.entity.Kind.{Kind}
use Rattle.base.specs.declared.pair.Pair.{Pair}
use Rattle.stomp_wire.specs.declared.fault.LinkFault.{LinkFault}
use Rattle.stomp_frame.specs.Frames.{Content}
use Rattle.stomp_frame.specs.declared.command.Command.TheVariants.{Connect, Ack, Nack}
use Rattle.stomp_client.specs.Delivered.{IsDelivered}
use Rattle.stomp_client.specs.Frames.{disconnect_frame, subscribe_frame, subscribe_frame_with, with_receipt}
use Rattle.stomp_client.specs.Written.{Wrote}
use Rattle.envelope.specs.Reading.{read_frame}
use Rattle.envelope.specs.Written.{send_of}
use Rattle.envelope.specs.declared.message.Envelope.{Envelope}
use Rattle.envelope.specs.declared.message.Envelope.TheVariants.{Letter, Settle}
use Rattle.envelope.specs.declared.message.Letter.{Letter as TheLetter}
use Rattle.activities.specs.Numbered.{IsPrefixOf}
use Rattle.activities.specs.Service.{Service}
use Rattle.keep.specs.Seen.{Seen}
use Rattle.keep.specs.Tables.{Tables}
use Rattle.endpoint.specs.Deeds.{Kept, kept}
use Rattle.endpoint.specs.Matches.{AllMatch}
use Rattle.reception.specs.Replies.{answer, settling}
use Rattle.laws_stores.specs.Writing.{IsTrueIn}
use Rattle.told_lock.specs.Rule.{Every}
use Rattle.told_lock.specs.declared.view.ToldToken.{ToldToken}
use Rattle.shared_endpoint.specs.Promises.{IsOneHistory}
use Rattle.shared_endpoint.specs.Keys.{Any, Closes}
use Rattle.service_workers.specs.Conns.{link_of, client_of, start_of}
use Rattle.service_workers.specs.Reads.{CameFrom}
use Rattle.service_workers.specs.Tokens.{Progress, progress_of, HasArrived}
use Rattle.service_workers.specs.Truth.{IsForeign, IsNotSent}
use Rattle.service_workers.specs.declared.conn.Conn.{Conn}

-- ---- links

-- Puts and takes that lead from one link to another, one after another, whatever they answer; and the octets that these
-- puts took, in order.
pub data Path {L : Type 0} (put_gives : L → List ℕ → Result ℕ LinkFault → L → Type 0)
    (take_gives : L → ℕ → Result (List ℕ) LinkFault → L → Type 0) (first : L) : List ℕ → L → Type 0 where
  stays : Path put_gives take_gives first [] first
  puts : {gone octets : List ℕ} {n : ℕ} {link after : L} → Path put_gives take_gives first gone link
      → put_gives link octets (Ok n) after → Path put_gives take_gives first (gone ++ take n octets) after
  fails : {gone octets : List ℕ} {fault : LinkFault} {link after : L} → Path put_gives take_gives first gone link
      → put_gives link octets (Err fault) after → Path put_gives take_gives first gone after
  takes : {gone : List ℕ} {most : ℕ} {answer : Result (List ℕ) LinkFault} {link after : L}
      → Path put_gives take_gives first gone link
      → take_gives link most answer after → Path put_gives take_gives first gone after

-- ---- frames

-- the frames of what was written at once, several times
abbrev pub frames_of : List (List Content) → List Content
frames_of blocks = flat_map (λ block. block) blocks

-- the SEND of a letter
abbrev pub IsSendOf : List Content → TheLetter → Type 0
IsSendOf block l = (receipt : ℕ) × (block ≡ with_receipt receipt (send_of (Letter l)) ∷ [])

-- a frame of the session of a service of this kind: CONNECT, SUBSCRIBE to its queue, or DISCONNECT
pub data IsOfSession (mine : Kind) : List Content → Type 0 where
  connects : (f : Content) → f.command ≡ Connect → IsOfSession mine (f ∷ [])
  subscribes : IsOfSession mine (subscribe_frame (queue_of mine) ∷ [])
  subscribes_with : (prefetch : ℕ) → IsOfSession mine (subscribe_frame_with (queue_of mine) prefetch ∷ [])
  disconnects : (receipt : ℕ) → IsOfSession mine (with_receipt receipt disconnect_frame ∷ [])

-- What may be written at any time: a frame of the session; that a MESSAGE that came is to be redelivered; or that one that came
-- is done with, which carries nothing that anybody could take.
pub data IsFree (mine : Kind) (came : Content → Type 0) : List Content → Type 0 where
  of_session : (block : List Content) → IsOfSession mine block → IsFree mine came block
  refuses : (message : Content) → IsDelivered message → came message → IsFree mine came (answer Nack message)
  unread : (message : Content) → IsDelivered message → came message → read_frame message ≡ None
      → IsFree mine came (answer Ack message)

-- Why a MESSAGE may be done with that settles nothing: the letter is held until it's handled; the settle was noted; or the
-- service can take neither, since it's another's, or what it settles was never sent.
abbrev pub IsDoneWith : Envelope → Progress → Type 0
IsDoneWith (Letter l) x = HasArrived x l.pair l.number ⊎ IsForeign (Letter l) x
IsDoneWith (Settle p n) x = (n ≤ x.settled p) ⊎ IsForeign (Settle p n) x ⊎ IsNotSent (Settle p n) x

module _ {S C : Type 0} (service : Service S C) (came : Content → Type 0) where
  -- What may be written by what the service has kept: a letter that it sends under this number; that a MESSAGE that came is
  -- done with; or the same in one transaction with a settle of its pair, where the letter is handled, and the pair so far.
  pub data Speaks (x : Kept C) : List Content → Type 0 where
    sends : (l : TheLetter) (receipt : ℕ) → IsTrueIn service.reactions x.journal (Letter l)
        → Speaks x (with_receipt receipt (send_of (Letter l)) ∷ [])
    is_done : (message : Content) (e : Envelope) → came message → read_frame message ≡ Some e
        → IsDoneWith e (progress_of service x)
        → Speaks x (answer Ack message)
    settles : (message : Content) (transaction : ℕ) (l : TheLetter) (n : ℕ) → came message
        → read_frame message ≡ Some (Letter l)
        → IsTrueIn service.reactions x.journal (Settle l.pair l.number)
        → IsTrueIn service.reactions x.journal (Settle l.pair n)
        → Speaks x (settling message transaction l.pair n)

module _ {S C : Type 0} (service : Service S C) where
  -- A block by which these tables stand: it might be written at any time, or by a beginning of their journal, whose marks were
  -- no higher.
  abbrev pub StandsBy : Tables S C → (came : Content → Type 0) → List Content → Type 0
  StandsBy t came block = IsFree service.kind came block
      ⊎ ((x : Kept C) × IsPrefixOf x.journal t.journal × ((p : Pair) → x.settled p ≤ t.settled p) × Speaks service came x block)

module _ {E S C : Type 0} (seen : E → Seen (Tables S C)) (service : Service S C) where
  -- This was so of what one of these endpoints kept, which matched its journal; where that file is in doubt, nothing is
  -- said.
  abbrev pub WasTrue : (Kept C → Type 0) → List E → Type 0
  WasTrue P witnessed = Any (λ y. (seen y).doubt ≡ 0 → AllMatch service (seen y).may_leave × P (kept (seen y).tables)) witnessed

  -- it might be written at any time, or by what one of these endpoints kept, where these MESSAGEs came
  abbrev pub MightSpeak : List E → (came : Content → Type 0) → List Content → Type 0
  MightSpeak witnessed came block = IsFree service.kind came block ⊎ WasTrue (λ x. Speaks service came x block) witnessed

  -- In the end the tables stand by each block that might be written, by the endpoints that were shown to a token.
  abbrev pub WrittenStands : (came : Content → Type 0) → Type 0
  WrittenStands came = (tokens : List (ToldToken E)) (witnessed : List E) (e : E) → Closes seen service tokens witnessed e
      → (seen e).doubt ≡ 0 → (history : IsOneHistory seen service tokens witnessed e)
      → (block : List Content) → MightSpeak witnessed came block
      → StandsBy service history.tables came block

-- ---- connections

module _ {L : Type 0} (put_gives : L → List ℕ → Result ℕ LinkFault → L → Type 0)
    (take_gives : L → ℕ → Result (List ℕ) LinkFault → L → Type 0) where
  -- A connection goes on, on which the octets that went out and those that wait were the texts of whole frames: they are
  -- those of these blocks more. Some of them are put on its link.
  pub record WritesOnly (blocks : List (List Content)) (c d : Conn L) : Type 0 where
    pub starts : d.start.value ≡ c.start.value
    pub sends : (first : L) (frames : List Content) (gone : List ℕ) → Path put_gives take_gives first gone (link_of c)
        → Wrote frames gone (client_of c).out
        → (more : List ℕ) × Path put_gives take_gives first (gone ++ more) (link_of d)
        × Wrote (frames ++ frames_of blocks) (gone ++ more) (client_of d).out

  -- the same of some blocks, each of which is so
  abbrev pub Writes : (List Content → Type 0) → (c d : Conn L) → Type 0
  Writes P c d = (blocks : List (List Content)) × Every P blocks × WritesOnly blocks c d

  -- frames of the session of a service of this kind
  abbrev pub WritesOfSession : Kind → (c d : Conn L) → Type 0
  WritesOfSession mine = Writes (IsOfSession mine)

  -- some of these letters, each in a frame of its own
  abbrev pub WritesLetters : List TheLetter → (c d : Conn L) → Type 0
  WritesLetters letters = Writes (λ block. Any (IsSendOf block) letters)

  -- All that was put on a connection's link since it was opened is a beginning of these frames, one after the other, and
  -- the rest waits. Of each block of them this is so.
  pub record HasWritten (P : List Content → Type 0) (c : Conn L) : Type 0 where
    pub blocks : List (List Content)
    pub gone : List ℕ
    pub path : Path put_gives take_gives c.start.value gone (link_of c)
    pub wrote : Wrote (frames_of blocks) gone (client_of c).out
    pub allowed : Every P blocks

  -- what came on a connection that began with the same link as this one
  abbrev pub came_of : Conn L → Content → Type 0
  came_of c = CameFrom put_gives take_gives (Some (start_of c))

  -- The same where there is one: what its blocks answer came on a connection that began with its link.
  abbrev pub HasWrittenIf : ((came : Content → Type 0) → List Content → Type 0) → Option (Conn L) → Type 0
  HasWrittenIf P None = ⊤
  HasWrittenIf P (Some c) = HasWritten (P (came_of c)) c

  module _ {E S C : Type 0} (seen : E → Seen (Tables S C)) (service : Service S C) where
    -- Each block might be written at any time, or by what one of these endpoints kept; and what it answers came so.
    abbrev pub HasSpoken : List E → Conn L → Type 0
    HasSpoken witnessed c = HasWritten (MightSpeak seen service witnessed (came_of c)) c

    -- In the end the tables stand by all that a connection has written, whose blocks might be written by the endpoints that
    -- were shown to a token.
    abbrev pub ConnectionsStand : Type 0
    ConnectionsStand = (tokens : List (ToldToken E)) (witnessed : List E) (e : E) → Closes seen service tokens witnessed e
        → (seen e).doubt ≡ 0 → (history : IsOneHistory seen service tokens witnessed e)
        → (c : Conn L) → HasSpoken witnessed c → HasWritten (StandsBy service history.tables (came_of c)) c

    -- the same where there is one
    abbrev pub HasSpokenIf : List E → Option (Conn L) → Type 0
    HasSpokenIf witnessed = HasWrittenIf (MightSpeak seen service witnessed)
