-- How many answers a connection owes: what one call makes of it.
use Rattle.std.proofs.Common.{◌≡◌, ◌≢◌, ℕ, ◌+◌, Bool, true, false, List, [], ◌∷◌, ◌++◌, length, filter, arith}
use Rattle.std.proofs.Common.{refl, sym, ap, ◌∙◌, subst, append-nil, inl, inr, Option, Some, None, Result, Ok, Err}
use Rattle.std.proofs.lemmas.List.{length-append}
use Rattle.std.proofs.lemmas.List.Elements.{filter-append}
use Rattle.std.specs.Prelude.{if◌then◌else◌, option_to_list, unwrap_or, is_some}
use Rattle.base.specs.declared.entity.Kind.{Kind}
use Rattle.stomp_wire.specs.declared.fault.LinkFault.{LinkFault}
use Rattle.stomp_frame.specs.Frames.{Content, canonical}
use Rattle.stomp_frame.specs.Streams.{canonical_texts}
use Rattle.stomp_frame.specs.declared.command.Command.{Command}
use Rattle.stomp_frame.specs.declared.command.Command.TheVariants as command
use Rattle.stomp_client.specs.Clients.{Client, counting}
use Rattle.stomp_client.specs.Written.{Adds}
use Rattle.envelope.specs.declared.fault.EnvelopeFault.TheVariants as envelope_fault
use Rattle.envelope.specs.declared.message.Letter.{Letter}
use Rattle.endpoint.specs.declared.fault.EndFault.{EndFault}
use Rattle.endpoint.specs.declared.fault.EndFault.TheVariants as end
use Rattle.reception.specs.Answers.{Answers}
use Rattle.reception.specs.Replies.{answer, settling, refusal, Writes as Replies}
use Rattle.reception.specs.declared.fault.ReceptionFault.{ReceptionFault}
use Rattle.reception.specs.declared.fault.ReceptionFault.TheVariants as fault
use Rattle.reception.specs.declared.taken.Taken.{Taken}
use Rattle.reception.specs.declared.taken.Taken.TheVariants as taken
use Rattle.told_lock.specs.Rule.{Every}
use Rattle.shared_endpoint.specs.Keys.{Any}
use Rattle.service_workers.specs.Conns.{link_of, client_of, start_of, IsNewConnBy}
use Rattle.service_workers.specs.Owing.{delivers, is_answer, messages_in, answers_in, owed_by, is_over, Owes, OwesIf}
use Rattle.service_workers.specs.Reads.{ReadsOnly, TakesBack, AreOthers, IsUnread, Finds, waiting_of}
use Rattle.service_workers.specs.Truth.{Finishes, is_answered}
use Rattle.service_workers.specs.Written.{Path, stays, frames_of, IsSendOf, IsOfSession, connects, subscribes, subscribes_with}
use Rattle.service_workers.specs.Written.{disconnects, WritesOnly, WritesOfSession, WritesLetters}
use Rattle.service_workers.specs.declared.conn.Conn.{Conn}
use Rattle.service_workers.specs.declared.conn.Found.{Found}
use Rattle.service_workers.specs.declared.conn.Found.TheVariants as found
use Rattle.service_workers.proofs.Reading.{done_other, unread_given}
use Rattle.service_workers.proofs.Written.{adds_frames, writes_frames, one_block}

-- ---- counts

messages_more : (xs ys : List Content) → messages_in (xs ++ ys) ≡ messages_in xs + messages_in ys
messages_more xs ys = ap length (filter-append (λ f. delivers f.command) xs ys)
    ∙ length-append (filter (λ f. delivers f.command) xs) (filter (λ f. delivers f.command) ys)

answers_more : (xs ys : List Content) → answers_in (xs ++ ys) ≡ answers_in xs + answers_in ys
answers_more xs ys = ap length (filter-append (λ f. is_answer f.command) xs ys)
    ∙ length-append (filter (λ f. is_answer f.command) xs) (filter (λ f. is_answer f.command) ys)

-- one frame
delivers_none : (c : Command) → c ≢ command.Message → delivers c ≡ false
delivers_none command.Message other = absurd (other refl)
delivers_none command.Connect other = refl
delivers_none command.Stomp other = refl
delivers_none command.Send other = refl
delivers_none command.Subscribe other = refl
delivers_none command.Unsubscribe other = refl
delivers_none command.Ack other = refl
delivers_none command.Nack other = refl
delivers_none command.Begin other = refl
delivers_none command.Commit other = refl
delivers_none command.Abort other = refl
delivers_none command.Disconnect other = refl
delivers_none command.Connected other = refl
delivers_none command.Receipt other = refl
delivers_none command.Error other = refl

-- a frame counts by its command
abbrev as_one : Bool → ℕ
as_one true = 1
as_one false = 0

one_message : (b : Bool) (f : Content) → delivers f.command ≡ b → messages_in (f ∷ []) ≡ as_one b
one_message true f is = subst (λ t. length (if t then f ∷ [] else []) ≡ 1) (sym is) refl
one_message false f is = subst (λ t. length (if t then f ∷ [] else []) ≡ 0) (sym is) refl

one_answer : (b : Bool) (f : Content) → is_answer f.command ≡ b → answers_in (f ∷ []) ≡ as_one b
one_answer true f is = subst (λ t. length (if t then f ∷ [] else []) ≡ 1) (sym is) refl
one_answer false f is = subst (λ t. length (if t then f ∷ [] else []) ≡ 0) (sym is) refl

is_one : (f : Content) → f.command ≡ command.Message → messages_in (f ∷ []) ≡ 1
is_one f is = one_message true f (ap delivers is)

-- frames none of which is a MESSAGE
others_none : (frames : List Content) → AreOthers frames → messages_in frames ≡ 0
others_none [] none = refl
others_none (f ∷ frames) none =
    let both : messages_in (f ∷ frames) ≡ messages_in (f ∷ []) + messages_in frames = messages_more (f ∷ []) frames in
    let first : messages_in (f ∷ []) ≡ 0 = one_message false f (delivers_none f.command none.0) in
    let rest = others_none frames none.1 in
    omega (arith, both, first, rest)

-- blocks none of which answers
none_in : (P : List Content → Type 0) → ((block : List Content) → P block → answers_in block ≡ 0)
    → (blocks : List (List Content)) → Every P blocks → answers_in (frames_of blocks) ≡ 0
none_in P so [] each = refl
none_in P so (block ∷ blocks) each =
    let both : answers_in (frames_of (block ∷ blocks)) ≡ answers_in block + answers_in (frames_of blocks) =
    answers_more block (frames_of blocks) in
    let first = so block each.0 in
    let rest = none_in P so blocks each.1 in
    omega (arith, both, first, rest)

session_none : (mine : Kind) (block : List Content) → IsOfSession mine block → answers_in block ≡ 0
session_none mine block (connects f is) = one_answer false f (ap is_answer is)
session_none mine block subscribes = refl
session_none mine block (subscribes_with prefetch) = refl
session_none mine block (disconnects receipt) = refl

send_none : (letters : List Letter) (block : List Content) → Any (IsSendOf block) letters → answers_in block ≡ 0
send_none [] block at = absurd at
send_none (l ∷ letters) block (inl at) = ap answers_in at.1
send_none (l ∷ letters) block (inr at) = send_none letters block at

-- ---- what answers a MESSAGE

-- a client writes these frames, of which one is an answer
abbrev pub AnswersOnce : (old new : Client ℕ) → Type 0
AnswersOnce old new = (frames : List Content) × (answers_in frames ≡ 1) × Adds frames old.out new.out

written_once : (frames : List Content) (old from new : Client ℕ) → answers_in frames ≡ 1 → from.out ≡ old.out
    → Replies frames from new
    → AnswersOnce old new
written_once frames old from new one same h = (
  frames,
  one,
  adds_frames frames old.out new.out h.each
      (ap (λ (c : Client ℕ). c.out) h.all ∙ ap (λ l. l ++ canonical_texts frames) same),
)

-- an endpoint's fault, after which the MESSAGE was answered
end_once : (f : Content) (cause : EndFault) (old new : Client ℕ) → is_answered (fault.End cause) ≡ true
    → Replies (refusal f cause) old new
    → AnswersOnce old new
end_once f end.NotMine old new is h = written_once (answer command.Ack f) old old new refl refl h
end_once f end.NotSent old new is h = written_once (answer command.Ack f) old old new refl refl h
end_once f end.StoreFailed old new is h = absurd (let k : false ≡ true = is in cc)
end_once f end.Unusable old new is h = absurd (let k : false ≡ true = is in cc)
end_once f (end.Business refused) old new is h = written_once (answer command.Nack f) old old new refl refl h
end_once f end.TooEarly old new is h = written_once (answer command.Nack f) old old new refl refl h
end_once f end.Memory old new is h = written_once (answer command.Nack f) old old new refl refl h
end_once f end.NumberLimit old new is h = written_once (answer command.Nack f) old old new refl refl h

-- whether a MESSAGE was answered, by what is told of it
abbrev pub was_answered : Result Taken ReceptionFault → Bool
was_answered (Ok t) = true
was_answered (Err f) = is_answered f

module _ (kind : Kind) (f : Content) (message : f.command ≡ command.Message) (old new : Client ℕ) where
  answered_once : (r : Result Taken ReceptionFault) → was_answered r ≡ true → Answers kind f old new r → AnswersOnce old new
  answered_once (Ok taken.Connected) is h = absurd (done_other kind f old new taken.Connected tt h message)
  answered_once (Ok (taken.Receipt n)) is h = absurd (done_other kind f old new (taken.Receipt n) tt h message)
  answered_once (Ok (taken.Error t)) is h = absurd (done_other kind f old new (taken.Error t) tt h message)
  answered_once (Ok (taken.Handled position)) is h =
      written_once (settling f (old.transactions + 1) h.0.pair h.0.number) old (counting old) new refl refl h.2
  answered_once (Ok (taken.Repeated n)) is h =
      written_once (settling f (old.transactions + 1) h.0.pair n) old (counting old) new refl refl h.2
  answered_once (Ok taken.Held) is h = written_once (answer command.Ack f) old old new refl refl h.2
  answered_once (Ok (taken.Settled mark)) is h = written_once (answer command.Ack f) old old new refl refl h.3
  answered_once (Err (fault.Frame cause)) is h = absurd h
  answered_once (Err (fault.Client cause)) is h = absurd (let k : false ≡ true = is in cc)
  answered_once (Err (fault.Envelope envelope_fault.BadEnvelope)) is h = written_once (answer command.Ack f) old old new refl refl h.2
  answered_once (Err (fault.Envelope envelope_fault.Memory)) is h = absurd (let k : false ≡ true = is in cc)
  answered_once (Err (fault.End cause)) is h = end_once f cause old new is h.1

  pub finished_once : (r : Result Taken ReceptionFault) → was_answered r ≡ true → Finishes kind f old new r → AnswersOnce old new
  finished_once r is (inl h) = answered_once r is h
  finished_once r is (inr h) = absurd (let k : false ≡ true = sym (ap was_answered h.0) ∙ is in cc)

-- ---- a place

pub is_none : {A : Type 0} (o : Option A) → is_some o ≡ false → o ≡ None
is_none None h = refl
is_none (Some a) h = absurd (let k : true ≡ false = h in cc)

-- ---- a connection

even_after : (r m w g v a b o p : ℕ) → r ≡ a + o + w → w + m ≡ g + v → o + g ≡ b + p → r + m ≡ a + b + p + v
even_after r m w g v a b o p h k l = omega (arith, h, k, l)

module _ {L : Type 0} (put_gives : L → List ℕ → Result ℕ LinkFault → L → Type 0)
    (take_gives : L → ℕ → Result (List ℕ) LinkFault → L → Type 0) where
  -- These frames are given and these blocks written: so many MESSAGEs more are owed, and so many answers less.
  owes_on : (owed after : ℕ) (given : List Content) (blocks : List (List Content)) (c d : Conn L)
      → owed + messages_in given ≡ answers_in (frames_of blocks) + after
      → ReadsOnly put_gives take_gives given c d → WritesOnly put_gives take_gives blocks c d
      → Owes put_gives take_gives owed c
      → Owes put_gives take_gives after d
  owes_on owed after given blocks c d balance reads writes h =
      let m = writes.sends (start_of c) h.written h.gone h.path h.wrote in
      let waits : messages_in (waiting_of c) + messages_in reads.more ≡ messages_in given + messages_in (waiting_of d) =
      sym (messages_more (waiting_of c) reads.more) ∙ ap messages_in reads.gives ∙ messages_more given (waiting_of d) in
      record {
        read = h.read ++ reads.more;
        reading = reads.reads h.read h.reading;
        written = h.written ++ frames_of blocks;
        gone = h.gone ++ m.0;
        path = subst (λ (l : L). Path put_gives take_gives l (h.gone ++ m.0) (link_of d)) (sym writes.starts) m.1;
        wrote = m.2;
        even = messages_more h.read reads.more
            ∙ even_after (messages_in h.read) (messages_in reads.more) (messages_in (waiting_of c)) (messages_in given)
            (messages_in (waiting_of d)) (answers_in h.written) (answers_in (frames_of blocks)) owed after h.even waits balance
            ∙ ap (λ n. n + after + messages_in (waiting_of d)) (sym (answers_more h.written (frames_of blocks)));
      }

  -- nothing is given, and nothing that answers is written
  owes_same : (owed : ℕ) (blocks : List (List Content)) (given : List Content) (c d : Conn L) → messages_in given ≡ 0
      → answers_in (frames_of blocks) ≡ 0
      → ReadsOnly put_gives take_gives given c d → WritesOnly put_gives take_gives blocks c d
      → Owes put_gives take_gives owed c
      → Owes put_gives take_gives owed d
  owes_same owed blocks given c d none quiet = owes_on owed owed given blocks c d (omega (arith, none, quiet))

  pub owes_quiet : (owed : ℕ) (c d : Conn L) → ReadsOnly put_gives take_gives [] c d → WritesOnly put_gives take_gives [] c d
      → Owes put_gives take_gives owed c
      → Owes put_gives take_gives owed d
  owes_quiet owed c d = owes_same owed [] [] c d refl refl

  pub owes_letters : (owed : ℕ) (letters : List Letter) (c d : Conn L) → ReadsOnly put_gives take_gives [] c d
      → WritesLetters put_gives take_gives letters c d
      → Owes put_gives take_gives owed c
      → Owes put_gives take_gives owed d
  owes_letters owed letters c d reads writes = owes_same owed writes.0 [] c d refl
      (none_in (λ block. Any (IsSendOf block) letters) (send_none letters) writes.0 writes.1) reads writes.2

  pub owes_session : (owed : ℕ) (mine : Kind) (c d : Conn L) → ReadsOnly put_gives take_gives [] c d
      → WritesOfSession put_gives take_gives mine c d
      → Owes put_gives take_gives owed c
      → Owes put_gives take_gives owed d
  owes_session owed mine c d reads writes = owes_same owed writes.0 [] c d refl
      (none_in (IsOfSession mine) (session_none mine) writes.0 writes.1) reads writes.2

  plus_none : (owed : ℕ) (d : Conn L) → Owes put_gives take_gives owed d → Owes put_gives take_gives (owed + 0) d
  plus_none owed d h = subst (λ n. Owes put_gives take_gives n d) (omega arith) h

  -- `next` finds something
  others_found : (owed : ℕ) (mine : Kind) (given : List Content) (c d : Conn L) → AreOthers given
      → ReadsOnly put_gives take_gives given c d → WritesOfSession put_gives take_gives mine c d
      → Owes put_gives take_gives owed c
      → Owes put_gives take_gives owed d
  others_found owed mine given c d none reads writes = owes_same owed writes.0 given c d (others_none given none)
      (none_in (IsOfSession mine) (session_none mine) writes.0 writes.1) reads writes.2

  pub owes_found : (owed : ℕ) (mine : Kind) (r : Found) (c d : Conn L) → is_over r ≡ false
      → Finds put_gives take_gives r c d → WritesOfSession put_gives take_gives mine c d
      → Owes put_gives take_gives owed c
      → Owes put_gives take_gives (owed + owed_by r) d
  owes_found owed mine found.Nothing c d fine finds writes h = plus_none owed d (others_found owed mine finds.0 c d finds.1 finds.2 writes h)
  owes_found owed mine found.Answered c d fine finds writes h = plus_none owed d (others_found owed mine finds.0 c d finds.1 finds.2 writes h)
  owes_found owed mine found.Connected c d fine finds writes h = plus_none owed d (others_found owed mine finds.0 c d finds.1 finds.2 writes h)
  owes_found owed mine (found.Message f) c d fine finds writes h =
      let quiet = none_in (IsOfSession mine) (session_none mine) writes.0 writes.1 in
      let one = is_one f finds.0 in
      owes_on owed (owed + 1) (f ∷ []) writes.0 c d (omega (arith, one, quiet)) finds.1 writes.2 h
  owes_found owed mine (found.Over cut) c d fine finds writes h = absurd (let k : true ≡ false = fine in cc)

  -- a MESSAGE is answered
  pub owes_answered : (owed less : ℕ) (kind : Kind) (f : Content) (c d : Conn L) (r : Result Taken ReceptionFault)
      → owed ≡ less + 1 → f.command ≡ command.Message → was_answered r ≡ true
      → start_of d ≡ start_of c → link_of d ≡ link_of c
      → ReadsOnly put_gives take_gives [] c d → Finishes kind f (client_of c) (client_of d) r
      → Owes put_gives take_gives owed c
      → Owes put_gives take_gives less d
  owes_answered owed less kind f c d r is message answered starts link reads h =
      let once = finished_once kind f message (client_of c) (client_of d) r answered h in
      let count : answers_in (frames_of (once.0 ∷ [])) ≡ 1 = ap answers_in (one_block once.0) ∙ once.1 in
      owes_on owed less [] (once.0 ∷ []) c d (omega (arith, is, count)) reads
      (writes_frames put_gives take_gives (once.0 ∷ []) c d starts link
      (subst (λ fs. Adds fs (client_of c).out (client_of d).out) (sym (one_block once.0)) once.2))

  -- a MESSAGE is taken back
  kept_even : (r a o p w v : ℕ) → r ≡ a + o + w → w ≡ 0 → v ≡ 1 → o ≡ p + 1 → r ≡ a + p + v
  kept_even r a o p w v h none one is = omega (arith, h, none, one, is)

  pub owes_kept : (owed less : ℕ) (f : Content) (c d : Conn L) → owed ≡ less + 1 → f.command ≡ command.Message
      → c.channel.waiting ≡ None → TakesBack put_gives take_gives f c d → WritesOnly put_gives take_gives [] c d
      → Owes put_gives take_gives owed c
      → Owes put_gives take_gives less d
  owes_kept owed less f c d is message none back writes h =
      let m = writes.sends (start_of c) h.written h.gone h.path h.wrote in
      record {
        read = h.read;
        reading = back.reads h.read h.reading;
        written = h.written ++ [];
        gone = h.gone ++ m.0;
        path = subst (λ (l : L). Path put_gives take_gives l (h.gone ++ m.0) (link_of d)) (sym writes.starts) m.1;
        wrote = m.2;
        even = kept_even (messages_in h.read) (answers_in h.written) owed less (messages_in (waiting_of c))
            (messages_in (waiting_of d)) h.even (ap (λ o. messages_in (option_to_list o)) none)
            (ap (λ o. messages_in (option_to_list o)) (back.waits ∙ ap (λ o. Some (unwrap_or o f)) none) ∙ is_one f message) is
            ∙ ap (λ n. n + less + messages_in (waiting_of d)) (ap answers_in (sym (append-nil h.written)));
      }

  -- ---- the connection of a place

  -- a new one
  pub new_owes : (connect : Content) (prefetch : Option ℕ) (link : L) (c : Conn L) → connect.command ≡ command.Connect
      → IsNewConnBy connect prefetch link c → IsUnread c
      → Owes put_gives take_gives 0 c
  new_owes connect prefetch link c is new unread = record {
    read = waiting_of c;
    reading = unread_given put_gives take_gives c unread;
    written = connect ∷ [];
    gone = [];
    path = subst (Path put_gives take_gives (start_of c) []) (new.starts ∙ sym new.link_is) stays;
    wrote = record {
      each = (new.client.1, tt);
      whole = ap (λ (k : Client ℕ). k.out) new.client.2 ∙ sym (append-nil (canonical connect));
    };
    even = let none : answers_in (connect ∷ []) ≡ 0 = one_answer false connect (ap is_answer is) in omega (arith, none);
  }

  -- it continues
  pub line_owes : (sound : Type 0) (owed after : ℕ) (now : Option (Conn L)) (c d : Conn L) → now ≡ Some c
      → (sound → OwesIf put_gives take_gives owed now)
      → (Owes put_gives take_gives owed c → Owes put_gives take_gives after d) → sound
      → OwesIf put_gives take_gives after (Some d)
  line_owes sound owed after now c d is h so s = so (subst (OwesIf put_gives take_gives owed) is (h s))

  -- there is none any more
  pub none_owes : (owed : ℕ) (o : Option (Conn L)) → o ≡ None → OwesIf put_gives take_gives owed o
  none_owes owed o none = subst (OwesIf put_gives take_gives owed) (sym none) tt
