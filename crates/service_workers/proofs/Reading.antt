-- What is read off a connection's link, and what stays so of it.
use Rattle.std.proofs.Common.{◌≡◌, ◌≢◌, ℕ, Bool, true, false, List, [], ◌∷◌, ◌++◌}
use Rattle.std.proofs.Common.{drop, refl, sym, ap, ◌∙◌, subst, inl, inr, append-nil, append_assoc}
use Rattle.std.proofs.Common.{Option, Some, None, Result, Ok, Err, is_err, is_some}
use Rattle.std.specs.Prelude.{option_to_list, unwrap_or, if◌then◌else◌}
use Rattle.base.specs.declared.entity.Kind.{Kind}
use Rattle.base.specs.declared.limits.TheConstants.{MAX_BODY}
use Rattle.stomp_wire.specs.declared.fault.LinkFault.{LinkFault}
use Rattle.stomp_wire.specs.declared.pump.Gone.{Gone}
use Rattle.stomp_wire.specs.Pump.{Puts, no_put, one_more, IsEnd, IsPumped}
use Rattle.stomp_frame.specs.Frames.{Content}
use Rattle.stomp_frame.specs.Decoding.{Held, FeedsDecoder, Nexts}
use Rattle.stomp_frame.specs.Streams.{Follows, SpellsAll}
use Rattle.stomp_frame.specs.declared.fault.FrameFault.{FrameFault}
use Rattle.stomp_frame.specs.declared.fault.FrameFault.TheVariants.{Memory, Failed}
use Rattle.stomp_frame.specs.declared.command.Command.TheVariants as command
use Rattle.stomp_frame.proofs.Streaming.{all_and_gap, all_and_one}
use Rattle.stomp_client.specs.Clients.{Client}
use Rattle.reception.specs.Answers.{Answers}
use Rattle.reception.specs.Faults.{leaves_waiting, waiting_after}
use Rattle.reception.specs.Prepared.{IsUnaskedFor}
use Rattle.reception.specs.declared.fault.ReceptionFault.{ReceptionFault}
use Rattle.reception.specs.declared.taken.Taken.{Taken}
use Rattle.reception.specs.declared.taken.Taken.TheVariants as taken
use Rattle.channel.specs.Calls.{GivesNext, GivesNextOf}
use Rattle.channel.specs.declared.channel.Channel.{Channel}
use Rattle.told_lock.specs.Rule.{Every}
use Rattle.shared_endpoint.specs.Keys.{Any}
use Rattle.told_lock.proofs.Views.{every_map, every_both}
use Rattle.shared_endpoint.proofs.Closing.{any_left, any_right}
use Rattle.service_workers.specs.Conns.{link_of, start_of}
use Rattle.service_workers.specs.Reads.{Took, begins, put, gave, failed, waiting_of, with_next, AreOthers, IsUnread}
use Rattle.service_workers.specs.Reads.{HasRead, IsReading, HasGiven, ReadsOnly, ReadsSome, ReadsLast, ReadsTurn}
use Rattle.service_workers.specs.Reads.{Finds, FindsNone, TakesBack, CameOn, Came, CameFrom, CameOver, IsReadIf, IfFound}
use Rattle.service_workers.specs.Turns.{TakesIn}
use Rattle.service_workers.specs.declared.conn.Conn.{Conn}
use Rattle.service_workers.specs.declared.conn.Found.{Found}
use Rattle.service_workers.specs.declared.conn.Found.TheVariants as found
use Rattle.service_workers.specs.declared.cut.Cut.{Cut}
use Rattle.service_workers.specs.declared.turns.ReadFault.{ReadFault}
use Rattle.service_workers.specs.declared.turns.ReadFault.TheVariants as read_fault

-- ---- frames that a decoder gives

-- what is held is a rest of what was taken, unless the decoder has failed
abbrev Holds : List ℕ → Held → Type 0
Holds rest held = held.failed ≡ false → rest ≡ held.octets

-- after a piece of octets
fed_follows : (frames : List Content) (rest taken piece : List ℕ) → Follows MAX_BODY frames rest taken
    → Follows MAX_BODY frames (rest ++ piece) (taken ++ piece)
fed_follows frames rest taken piece (front, all, is) =
    (front, all, ap (λ l. l ++ piece) is ∙ append_assoc front rest piece)

fed_holds : (old new : Held) (rest piece : List ℕ) → FeedsDecoder old new piece (Ok tt) → Holds rest old
    → Holds (rest ++ piece) new
fed_holds old new rest piece fed h = λ _. ap (λ l. l ++ piece) (h fed.0) ∙ sym fed.2

-- after a frame
given_follows : (frames : List Content) (f : Content) (old new : Held) (rest taken : List ℕ)
    → Nexts MAX_BODY old new (Ok (Some f)) → Holds rest old
    → Follows MAX_BODY frames rest taken → Follows MAX_BODY (frames ++ f ∷ []) new.octets taken
given_follows frames f old new rest taken (was, sound, next, spells, parts) h (front, all, is) = (
  front ++ next,
  all_and_one MAX_BODY frames f front next all spells,
  is ∙ ap (λ l. front ++ l) (h was ∙ parts) ∙ sym (append_assoc front next new.octets),
)

-- where there is none yet
waited_follows : (frames : List Content) (old new : Held) (rest taken : List ℕ)
    → Nexts MAX_BODY old new (Ok None) → Holds rest old
    → Follows MAX_BODY frames rest taken → Follows MAX_BODY frames new.octets taken
waited_follows frames old new rest taken (was, sound, none, fine, few, gap, is_gap, parts) h (front, all, is) = (
  front ++ gap,
  all_and_gap MAX_BODY frames front gap all is_gap,
  is ∙ ap (λ l. front ++ l) (h was ∙ parts) ∙ sym (append_assoc front gap new.octets),
)

-- after a fault
fault_holds : (old new : Held) (rest : List ℕ) (fault : FrameFault) → Nexts MAX_BODY old new (Err fault) → Holds rest old
    → Holds rest new
fault_holds old new rest Memory n h = subst (Holds rest) (sym n.1) h
fault_holds old new rest Failed n h = subst (Holds rest) (sym n.1) h
fault_holds old new rest fault n h = λ fine. absurd (let k : true ≡ false = sym n.1 ∙ fine in cc)

-- what a channel answers where a frame waits is that frame
abbrev answered : Content → Result (Option Content) FrameFault → Content
answered f (Ok (Some g)) = g
answered f _ = f

abbrev pub is_frame : Result (Option Content) FrameFault → Bool
is_frame (Ok (Some f)) = true
is_frame _ = false

no_answer : (g : Content) (r : Result (Option Content) FrameFault) → is_frame r ≡ false → r ≡ Ok (Some g) → ⊥
no_answer g r other is = absurd (let k : false ≡ true = sym other ∙ ap is_frame is in cc)

-- ---- frames that are none for the service

-- what is dealt with before the endpoint is asked is no MESSAGE
pub done_other : (kind : Kind) (f : Content) (old new : Client ℕ) (t : Taken) → IsUnaskedFor t → Answers kind f old new (Ok t)
    → f.command ≢ command.Message
done_other kind f old new taken.Connected none h = λ message. absurd (let k = sym h.0 ∙ message in cc)
done_other kind f old new (taken.Receipt number) none h = λ message. absurd (let k = sym h.1.1.0 ∙ message in cc)
done_other kind f old new (taken.Error text) none h = λ message. absurd (let k = sym h.1.0 ∙ message in cc)
done_other kind f old new (taken.Handled position) none h = absurd none
done_other kind f old new (taken.Repeated number) none h = absurd none
done_other kind f old new taken.Held none h = absurd none
done_other kind f old new (taken.Settled mark) none h = absurd none

-- what waits after a fault is that frame
still_it : (b : Bool) (f g : Content) → (if b then Some f else None) ≡ Some g → g ≡ f
still_it true f g is = sym (ap (λ o. unwrap_or o f) is)
still_it false f g is = absurd (let k : false ≡ true = ap is_some is in cc)

module _ {L : Type 0} (put_gives : L → List ℕ → Result ℕ LinkFault → L → Type 0)
    (take_gives : L → ℕ → Result (List ℕ) LinkFault → L → Type 0) where
  -- ---- links

  after_puts : (start first : L) (taken octets : List ℕ) (link : L) (count : ℕ) → Took put_gives take_gives start taken first
      → Puts put_gives octets first 0 link count
      → Took put_gives take_gives start taken link
  after_puts start first taken octets _ _ path no_put = path
  after_puts start first taken octets _ _ path (one_more {before} {after} {count} {n} so_far gives some) =
      put (after_puts start first taken octets before count path so_far) gives

  after_end : (start last after : L) (taken rest : List ℕ) (fault : Option LinkFault)
      → Took put_gives take_gives start taken last → IsEnd put_gives rest last after fault
      → Took put_gives take_gives start taken after
  after_end start last after taken rest None path (inl h) = subst (Took put_gives take_gives start taken) (sym h.1) path
  after_end start last after taken rest None path (inr h) = put path h.1
  after_end start last after taken rest (Some fault) path h = put path h.1

  after_pump : (start first after : L) (taken octets : List ℕ) (result : Gone)
      → IsPumped put_gives octets first 0 after result → Took put_gives take_gives start taken first
      → Took put_gives take_gives start taken after
  after_pump start first after taken octets result pumped path =
      after_end start pumped.last after taken (drop result.count octets) result.fault
      (after_puts start first taken octets pumped.last result.count path pumped.puts) pumped.ends

  -- ---- one call

  -- a link, earlier and later: no more octets were taken off it
  abbrev NoneTaken : (first old new : L) → Type 0
  NoneTaken first old new = (taken : List ℕ) → Took put_gives take_gives first taken old
      → Took put_gives take_gives first taken new

  still_read : (frames : List Content) (c d : Conn L) → start_of d ≡ start_of c → NoneTaken (start_of c) (link_of c) (link_of d)
      → HasRead put_gives take_gives frames c
      → HasRead put_gives take_gives frames d
  still_read frames c d starts on h = record {
    taken = h.taken;
    path = subst (λ (l : L). Took put_gives take_gives l h.taken (link_of d)) (sym starts) (on h.taken h.path);
    rest = h.rest;
    spelled = h.spelled;
  }

  pub still_reading : (frames : List Content) (c d : Conn L) → start_of d ≡ start_of c
      → NoneTaken (start_of c) (link_of c) (link_of d) → d.channel.decoder ≡ c.channel.decoder
      → IsReading put_gives take_gives frames c
      → IsReading put_gives take_gives frames d
  unfolding still_read
  still_reading frames c d starts on same h = record {
    read = still_read frames c d starts on h.read;
    held = subst (Holds h.read.rest) (sym same) h.held;
  }

  same_link : (first old new : L) → new ≡ old → NoneTaken first old new
  same_link first old new is = λ taken path. subst (Took put_gives take_gives first taken) (sym is) path

  -- nothing is read, and what waits still waits
  reads_none : (c d : Conn L) → start_of d ≡ start_of c → NoneTaken (start_of c) (link_of c) (link_of d)
      → d.channel.decoder ≡ c.channel.decoder
      → d.channel.waiting ≡ c.channel.waiting
      → ReadsOnly put_gives take_gives [] c d
  reads_none c d starts on same waits = record {
    starts = starts;
    more = [];
    reads = λ frames h. subst (λ fs. IsReading put_gives take_gives fs d) (sym (append-nil frames))
        (still_reading frames c d starts on same h);
    gives = append-nil (waiting_of c) ∙ ap option_to_list (sym waits);
  }

  pub reads_nothing : (c d : Conn L) → start_of d ≡ start_of c → link_of d ≡ link_of c
      → d.channel.decoder ≡ c.channel.decoder
      → d.channel.waiting ≡ c.channel.waiting
      → ReadsOnly put_gives take_gives [] c d
  reads_nothing c d starts link same waits =
      reads_none c d starts (same_link (start_of c) (link_of c) (link_of d) link) same waits

  -- what waits to be written is put on the link
  pub reads_no_puts : (c d : Conn L) (octets : List ℕ) (result : Gone) → start_of d ≡ start_of c
      → IsPumped put_gives octets (link_of c) 0 (link_of d) result
      → d.channel.decoder ≡ c.channel.decoder
      → d.channel.waiting ≡ c.channel.waiting
      → ReadsOnly put_gives take_gives [] c d
  reads_no_puts c d octets result starts pumped same waits = reads_none c d starts
      (λ taken path. after_pump (start_of c) (link_of c) (link_of d) taken octets result pumped path) same waits

  -- a take gave nothing but a fault
  pub reads_fault : (c d : Conn L) (most : ℕ) (fault : LinkFault) → start_of d ≡ start_of c
      → take_gives (link_of c) most (Err fault) (link_of d)
      → d.channel ≡ c.channel
      → ReadsOnly put_gives take_gives [] c d
  reads_fault c d most fault starts took same = reads_none c d starts (λ taken path. failed path took)
      (ap (λ (ch : Channel). ch.decoder) same) (ap (λ (ch : Channel). ch.waiting) same)

  -- a take gave octets, and these are held
  one_piece : (frames : List Content) (c d : Conn L) (most : ℕ) (piece : List ℕ) → start_of d ≡ start_of c
      → take_gives (link_of c) most (Ok piece) (link_of d)
      → HasRead put_gives take_gives frames c
      → HasRead put_gives take_gives frames d
  one_piece frames c d most piece starts took h = record {
    taken = h.taken ++ piece;
    path = subst (λ (l : L). Took put_gives take_gives l (h.taken ++ piece) (link_of d)) (sym starts) (gave h.path took);
    rest = h.rest ++ piece;
    spelled = fed_follows frames h.rest h.taken piece h.spelled;
  }

  pub reads_piece : (c d : Conn L) (most : ℕ) (piece : List ℕ) → start_of d ≡ start_of c
      → take_gives (link_of c) most (Ok piece) (link_of d)
      → FeedsDecoder c.channel.decoder d.channel.decoder piece (Ok tt)
      → d.channel.waiting ≡ c.channel.waiting
      → ReadsOnly put_gives take_gives [] c d
  unfolding one_piece
  reads_piece c d most piece starts took fed waits = record {
    starts = starts;
    more = [];
    reads = λ frames h. subst (λ fs. IsReading put_gives take_gives fs d) (sym (append-nil frames)) (record {
      read = one_piece frames c d most piece starts took h.read;
      held = fed_holds c.channel.decoder d.channel.decoder h.read.rest piece fed h.held;
    });
    gives = append-nil (waiting_of c) ∙ ap option_to_list (sym waits);
  }

  -- or they are lost
  pub loses_piece : (c d : Conn L) (most : ℕ) (piece : List ℕ) → start_of d ≡ start_of c
      → take_gives (link_of c) most (Ok piece) (link_of d)
      → ReadsLast put_gives take_gives c d
  loses_piece c d most piece starts took = record {
    starts = starts;
    reads = λ frames h. (
      [],
      subst (λ fs. HasRead put_gives take_gives fs d) (sym (append-nil frames))
          (one_piece frames c d most piece starts took h.read),
    );
  }

  -- ---- the next frame

  -- a frame is read, and waits
  reads_one : (c d : Conn L) (f : Content) → start_of d ≡ start_of c → link_of d ≡ link_of c
      → c.channel.waiting ≡ None
      → Nexts MAX_BODY c.channel.decoder d.channel.decoder (Ok (Some f))
      → ReadsOnly put_gives take_gives [] c (with_next f d)
  reads_one c d f starts link none next = record {
    starts = starts;
    more = f ∷ [];
    reads = λ frames h. record {
      read = record {
        taken = h.read.taken;
        path = subst (λ (x : L × L). Took put_gives take_gives x.0 h.read.taken x.1) (λ i. (sym starts i, sym link i)) h.read.path;
        rest = d.channel.decoder.octets;
        spelled = given_follows frames f c.channel.decoder d.channel.decoder h.read.rest h.read.taken next h.held h.read.spelled;
      };
      held = λ _. refl;
    };
    gives = ap (λ o. option_to_list o ++ f ∷ []) none;
  }

  -- there is none yet
  reads_gap : (c d : Conn L) → start_of d ≡ start_of c → link_of d ≡ link_of c
      → d.channel.waiting ≡ c.channel.waiting
      → Nexts MAX_BODY c.channel.decoder d.channel.decoder (Ok None)
      → ReadsOnly put_gives take_gives [] c d
  reads_gap c d starts link waits next = record {
    starts = starts;
    more = [];
    reads = λ frames h. subst (λ fs. IsReading put_gives take_gives fs d) (sym (append-nil frames)) (record {
      read = record {
        taken = h.read.taken;
        path = subst (λ (x : L × L). Took put_gives take_gives x.0 h.read.taken x.1) (λ i. (sym starts i, sym link i)) h.read.path;
        rest = d.channel.decoder.octets;
        spelled = waited_follows frames c.channel.decoder d.channel.decoder h.read.rest h.read.taken next h.held h.read.spelled;
      };
      held = λ _. refl;
    });
    gives = append-nil (waiting_of c) ∙ ap option_to_list (sym waits);
  }

  -- the text is at fault, or an allocation failed
  reads_bad : (c d : Conn L) (fault : FrameFault) → start_of d ≡ start_of c → link_of d ≡ link_of c
      → d.channel.waiting ≡ c.channel.waiting
      → Nexts MAX_BODY c.channel.decoder d.channel.decoder (Err fault)
      → ReadsOnly put_gives take_gives [] c d
  unfolding still_read
  reads_bad c d fault starts link waits next = record {
    starts = starts;
    more = [];
    reads = λ frames h. subst (λ fs. IsReading put_gives take_gives fs d) (sym (append-nil frames)) (record {
      read = still_read frames c d starts (same_link (start_of c) (link_of c) (link_of d) link) h.read;
      held = fault_holds c.channel.decoder d.channel.decoder h.read.rest fault next h.held;
    });
    gives = append-nil (waiting_of c) ∙ ap option_to_list (sym waits);
  }

  -- The channel was asked for the next frame: where it gave one, that is as if it waited.
  abbrev NextRead : (c d : Conn L) → Result (Option Content) FrameFault → Type 0
  NextRead c d (Ok (Some f)) = ReadsOnly put_gives take_gives [] c (with_next f d)
  NextRead c d (Ok None) = ReadsOnly put_gives take_gives [] c d
  NextRead c d (Err fault) = ReadsOnly put_gives take_gives [] c d

  next_of : (c d : Conn L) (o : Option Content) (r : Result (Option Content) FrameFault) → c.channel.waiting ≡ o
      → start_of d ≡ start_of c → link_of d ≡ link_of c
      → GivesNextOf o c.channel d.channel r
      → NextRead c d r
  next_of c d (Some g) (Ok (Some f)) is starts link h = reads_nothing c (with_next f d) starts link
      (ap (λ (ch : Channel). ch.decoder) h.1)
      (ap Some (ap (answered f) h.0) ∙ sym is)
  next_of c d (Some g) (Ok None) is starts link h = absurd (no_answer g (Ok None) refl h.0)
  next_of c d (Some g) (Err fault) is starts link h = absurd (no_answer g (Err fault) refl h.0)
  next_of c d None (Ok (Some f)) is starts link h = reads_one c d f starts link is h.0
  next_of c d None (Ok None) is starts link h = reads_gap c d starts link (ap (λ (ch : Channel). ch.waiting) h.1) h.0
  next_of c d None (Err fault) is starts link h =
      reads_bad c d fault starts link (ap (λ (ch : Channel). ch.waiting) h.1) h.0

  pub next_read : (c d : Conn L) (r : Result (Option Content) FrameFault) → start_of d ≡ start_of c → link_of d ≡ link_of c
      → GivesNext c.channel d.channel r
      → NextRead c d r
  next_read c d r starts link h = next_of c d c.channel.waiting r refl starts link h

  pub next_gives : (c d : Conn L) (f : Content) (r : Result (Option Content) FrameFault) → r ≡ Ok (Some f)
      → start_of d ≡ start_of c → link_of d ≡ link_of c
      → GivesNext c.channel d.channel r
      → ReadsOnly put_gives take_gives [] c (with_next f d)
  next_gives c d f r is starts link h = subst (NextRead c d) is (next_read c d r starts link h)

  no_next : (c d : Conn L) (r : Result (Option Content) FrameFault) → is_frame r ≡ false → NextRead c d r
      → ReadsOnly put_gives take_gives [] c d
  no_next c d (Ok (Some f)) none h = absurd (let k : true ≡ false = none in cc)
  no_next c d (Ok None) none h = h
  no_next c d (Err fault) none h = h

  pub next_waits : (c d : Conn L) (r : Result (Option Content) FrameFault) → is_frame r ≡ false
      → start_of d ≡ start_of c → link_of d ≡ link_of c
      → GivesNext c.channel d.channel r
      → ReadsOnly put_gives take_gives [] c d
  next_waits c d r none starts link h = no_next c d r none (next_read c d r starts link h)

  -- ---- a turn of reading

  pub turn_ok : (c d : Conn L) (most n : ℕ) → start_of d ≡ start_of c
      → TakesIn take_gives most (link_of c) (link_of d) c.channel d.channel (Ok n)
      → ReadsOnly put_gives take_gives [] c d
  turn_ok c d most n starts h = reads_piece c d most h.0 starts h.1 h.2.0 (ap (λ (ch : Channel). ch.waiting) h.2.1)

  pub turn_fault : (c d : Conn L) (most : ℕ) (fault : LinkFault) (r : ReadFault) → r ≡ read_fault.Link fault
      → start_of d ≡ start_of c
      → TakesIn take_gives most (link_of c) (link_of d) c.channel d.channel (Err r)
      → ReadsOnly put_gives take_gives [] c d
  turn_fault c d most fault r is starts h =
      let took = subst (λ e. TakesIn take_gives most (link_of c) (link_of d) c.channel d.channel (Err e)) is h in
      reads_fault c d most fault starts took.0 took.1

  pub turn_lost : (c d : Conn L) (most : ℕ) (fault : FrameFault) (r : ReadFault) → r ≡ read_fault.Frame fault
      → start_of d ≡ start_of c
      → TakesIn take_gives most (link_of c) (link_of d) c.channel d.channel (Err r)
      → ReadsLast put_gives take_gives c d
  turn_lost c d most fault r is starts h =
      let took = subst (λ e. TakesIn take_gives most (link_of c) (link_of d) c.channel d.channel (Err e)) is h in
      loses_piece c d most took.0.0 starts took.0.1

  -- ---- one call after another

  pub reads_both : (xs ys : List Content) (b c d : Conn L) → ReadsOnly put_gives take_gives xs b c
      → ReadsOnly put_gives take_gives ys c d
      → ReadsOnly put_gives take_gives (xs ++ ys) b d
  reads_both xs ys b c d h k = record {
    starts = k.starts ∙ h.starts;
    more = h.more ++ k.more;
    reads = λ frames r. subst (λ fs. IsReading put_gives take_gives fs d) (append_assoc frames h.more k.more)
        (k.reads (frames ++ h.more) (h.reads frames r));
    gives = sym (append_assoc (waiting_of b) h.more k.more) ∙ ap (λ l. l ++ k.more) h.gives
        ∙ append_assoc xs (waiting_of c) k.more
        ∙ ap (λ l. xs ++ l) k.gives
        ∙ sym (append_assoc xs ys (waiting_of d));
  }

  pub some_both : (b c d : Conn L) → ReadsSome put_gives take_gives b c → ReadsSome put_gives take_gives c d
      → ReadsSome put_gives take_gives b d
  some_both b c d h k = (h.0 ++ k.0, reads_both h.0 k.0 b c d h.1 k.1)

  -- a connection that continues may be at its end
  pub some_last : (c d : Conn L) → ReadsSome put_gives take_gives c d → ReadsLast put_gives take_gives c d
  some_last c d h = record { starts = h.1.starts; reads = λ frames r. (h.1.more, (h.1.reads frames r).read) }

  pub last_after : (b c d : Conn L) → ReadsSome put_gives take_gives b c → ReadsLast put_gives take_gives c d
      → ReadsLast put_gives take_gives b d
  last_after b c d h k = record {
    starts = k.starts ∙ h.1.starts;
    reads = λ frames r.
        let last = k.reads (frames ++ h.1.more) (h.1.reads frames r) in
        (h.1.more ++ last.0, subst (λ fs. HasRead put_gives take_gives fs d) (append_assoc frames h.1.more last.0) last.1);
  }

  -- a turn that answers no error isn't the last
  pub turn_goes_on : (r : Result ℕ Cut) (c d : Conn L) → is_err r ≡ false → ReadsTurn put_gives take_gives r c d
      → ReadsSome put_gives take_gives c d
  turn_goes_on (Ok n) c d fine h = ([], h)
  turn_goes_on (Err cut) c d fine h = absurd (let k : true ≡ false = fine in cc)

  pub turn_last : (r : Result ℕ Cut) (c d : Conn L) → ReadsTurn put_gives take_gives r c d
      → ReadsLast put_gives take_gives c d
  turn_last (Ok n) c d h = some_last c d ([], h)
  turn_last (Err cut) c d h = h

  -- ---- what is found

  -- frames are dealt with, none of which is a MESSAGE
  abbrev DealsOnly : (c d : Conn L) → Type 0
  DealsOnly c d = (given : List Content) × AreOthers given × ReadsOnly put_gives take_gives given c d

  -- a frame that waits is given
  pub gives_it : (f : Content) (c : Conn L) → c.channel.waiting ≡ None
      → ReadsOnly put_gives take_gives (f ∷ []) (with_next f c) c
  gives_it f c none = record {
    starts = refl;
    more = [];
    reads = λ frames h. subst (λ fs. IsReading put_gives take_gives fs c) (sym (append-nil frames))
        (still_reading frames (with_next f c) c refl (λ taken path. path) refl h);
    gives = ap (λ o. f ∷ option_to_list o) (sym none);
  }

  -- and dealt with
  pub deals_with_it : (f : Content) (c d : Conn L) → c.channel.waiting ≡ None → f.command ≢ command.Message
      → ReadsOnly put_gives take_gives [] c d
      → DealsOnly (with_next f c) d
  deals_with_it f c d none other h = (
    f ∷ [],
    (other, tt),
    reads_both (f ∷ []) [] (with_next f c) c d (gives_it f c none) h,
  )

  -- or is the last
  pub ends_with_it : (f : Content) (c d : Conn L) → c.channel.waiting ≡ None → ReadsOnly put_gives take_gives [] c d
      → ReadsSome put_gives take_gives (with_next f c) d
  ends_with_it f c d none h = (f ∷ [], reads_both (f ∷ []) [] (with_next f c) c d (gives_it f c none) h)

  pub none_found : (r : Found) (f : Content) (c d : Conn L) → c.channel.waiting ≡ None → f.command ≢ command.Message
      → FindsNone put_gives take_gives r c d
      → Finds put_gives take_gives r (with_next f c) d
  none_found found.Nothing f c d none other h = deals_with_it f c d none other h
  none_found found.Answered f c d none other h = deals_with_it f c d none other h
  none_found found.Connected f c d none other h = deals_with_it f c d none other h
  none_found (found.Message m) f c d none other h = absurd h
  none_found (found.Over cut) f c d none other h = ends_with_it f c d none h

  -- nothing was read and given
  pub finds_none : (r : Found) (c d : Conn L) → FindsNone put_gives take_gives r c d → Finds put_gives take_gives r c d
  finds_none found.Nothing c d h = ([], tt, h)
  finds_none found.Answered c d h = ([], tt, h)
  finds_none found.Connected c d h = ([], tt, h)
  finds_none (found.Message m) c d h = absurd h
  finds_none (found.Over cut) c d h = ([], h)

  -- before it nothing was given
  deals_after : (b c d : Conn L) → ReadsOnly put_gives take_gives [] b c → DealsOnly c d → DealsOnly b d
  deals_after b c d h k = (k.0, k.1, reads_both [] k.0 b c d h k.2)

  pub finds_after : (r : Found) (b c d : Conn L) → ReadsOnly put_gives take_gives [] b c
      → Finds put_gives take_gives r c d
      → Finds put_gives take_gives r b d
  finds_after found.Nothing b c d h k = deals_after b c d h k
  finds_after found.Answered b c d h k = deals_after b c d h k
  finds_after found.Connected b c d h k = deals_after b c d h k
  finds_after (found.Message m) b c d h k = (k.0, reads_both [] (m ∷ []) b c d h k.1)
  finds_after (found.Over cut) b c d h k = some_both b c d ([], h) k

  pub none_after : (r : Found) (b c d : Conn L) → ReadsOnly put_gives take_gives [] b c
      → FindsNone put_gives take_gives r c d
      → FindsNone put_gives take_gives r b d
  none_after found.Nothing b c d h k = reads_both [] [] b c d h k
  none_after found.Answered b c d h k = reads_both [] [] b c d h k
  none_after found.Connected b c d h k = reads_both [] [] b c d h k
  none_after (found.Message m) b c d h k = absurd k
  none_after (found.Over cut) b c d h k = reads_both [] [] b c d h k

  -- the frame was put back
  pub puts_it_back : (f g : Content) (cause : ReceptionFault) (o : Option Content) (c d : Conn L)
      → o ≡ waiting_after cause f → o ≡ Some g
      → start_of d ≡ start_of c → link_of d ≡ link_of c
      → d.channel.decoder ≡ c.channel.decoder
      → d.channel.waiting ≡ Some g
      → DealsOnly (with_next f c) d
  puts_it_back f g cause o c d left was starts link same waits = (
    [],
    tt,
    reads_nothing (with_next f c) d starts link same
        (waits ∙ ap Some (still_it (leaves_waiting cause) f g (sym left ∙ was))),
  )

  thrown_away : (c d : Conn L) (r : Result (Option Content) FrameFault) → d.channel.waiting ≡ None → NextRead c d r
      → ReadsSome put_gives take_gives c d
  thrown_away c d (Ok (Some f)) none h = (f ∷ [], reads_both [] (f ∷ []) c (with_next f d) d h (gives_it f d none))
  thrown_away c d (Ok None) none h = ([], h)
  thrown_away c d (Err fault) none h = ([], h)

  -- the channel's next frame is thrown away, if it gives one
  pub next_some : (c d : Conn L) (r : Result (Option Content) FrameFault) → start_of d ≡ start_of c → link_of d ≡ link_of c
      → GivesNext c.channel d.channel r → d.channel.waiting ≡ None
      → ReadsSome put_gives take_gives c d
  next_some c d r starts link h none = thrown_away c d r none (next_read c d r starts link h)

  -- ---- frames that were given

  -- a new connection has given none
  pub unread_given : (c : Conn L) → IsUnread c → HasGiven put_gives take_gives [] c
  unread_given c new = record {
    read = record {
      taken = [];
      path = subst (Took put_gives take_gives (start_of c) []) new.starts begins;
      rest = [];
      spelled = ([], subst (λ o. SpellsAll MAX_BODY (option_to_list o) []) (sym new.waiting) (0, refl), refl);
    };
    held = λ _. sym (ap (λ (h : Held). h.octets) new.decoder);
  }

  -- a connection continues, and gives these frames after those before
  pub given_more : (before given : List Content) (c d : Conn L) → ReadsOnly put_gives take_gives given c d
      → HasGiven put_gives take_gives before c
      → HasGiven put_gives take_gives (before ++ given) d
  given_more before given c d h k = subst (λ fs. IsReading put_gives take_gives fs d)
      (append_assoc before (waiting_of c) h.more ∙ ap (λ l. before ++ l) h.gives
      ∙ sym (append_assoc before given (waiting_of d)))
      (h.reads (before ++ waiting_of c) k)

  -- a frame is taken back
  pub taken_back : (f : Content) (c d : Conn L) → start_of d ≡ start_of c → link_of d ≡ link_of c
      → d.channel.decoder ≡ c.channel.decoder
      → d.channel.waiting ≡ Some (unwrap_or c.channel.waiting f)
      → TakesBack put_gives take_gives f c d
  taken_back f c d starts link same waits = record {
    starts = starts;
    reads = λ frames h. still_reading frames c d starts (same_link (start_of c) (link_of c) (link_of d) link) same h;
    waits = waits;
  }

  -- where the frame was given last, and none waits, it is as if it hadn't been given yet
  pub given_back : (f : Content) (before : List Content) (c d : Conn L) → c.channel.waiting ≡ None
      → TakesBack put_gives take_gives f c d → HasGiven put_gives take_gives (before ++ f ∷ []) c
      → HasGiven put_gives take_gives before d
  given_back f before c d none h k = subst (λ fs. IsReading put_gives take_gives fs d)
      (ap (λ o. (before ++ f ∷ []) ++ option_to_list o) none ∙ append-nil (before ++ f ∷ [])
      ∙ ap (λ o. before ++ option_to_list o) (sym (h.waits ∙ ap (λ o. Some (unwrap_or o f)) none)))
      (h.reads ((before ++ f ∷ []) ++ waiting_of c) k)

  -- each of these came
  each_came : (c : Conn L) (frames these : List Content) → HasRead put_gives take_gives frames c
      → ((f : Content) → Any (λ g. g ≡ f) these → Any (λ g. g ≡ f) frames)
      → Every (CameOn put_gives take_gives c) these
  each_came c frames [] read within = tt
  each_came c frames (f ∷ these) read within =
      ((frames, read, within f (inl refl)), each_came c frames these read (λ g at. within g (inr at)))

  pub given_came : (given : List Content) (c : Conn L) → HasGiven put_gives take_gives given c
      → Every (CameOn put_gives take_gives c) given
  given_came given c h = each_came c (given ++ waiting_of c) given h.read (λ f at. any_left (λ g. g ≡ f) given (waiting_of c) at)

  -- wherever the connection ends
  pub last_came : (given : List Content) (c d : Conn L) → HasGiven put_gives take_gives given c
      → ReadsLast put_gives take_gives c d
      → Every (CameOn put_gives take_gives d) given
  last_came given c d h k =
      let last = k.reads (given ++ waiting_of c) h in
      each_came d ((given ++ waiting_of c) ++ last.0) given last.1 (λ f at. any_left (λ g. g ≡ f) (given ++ waiting_of c) last.0
      (any_left (λ g. g ≡ f) given (waiting_of c) at))

  -- ---- a place of a connection

  module _ (given : L → Type 0) where
    -- what was read off a connection is held, and a frame that waits on it came on one of which that is so
    abbrev pub IsReadBy : Conn L → Type 0
    IsReadBy c = ((frames : List Content) × IsReading put_gives take_gives frames c)
        × Every (Came put_gives take_gives given) (waiting_of c)

    every_after : (xs ys : List Content) → Every (Came put_gives take_gives given) (xs ++ ys)
        → Every (Came put_gives take_gives given) xs × Every (Came put_gives take_gives given) ys
    every_after [] ys h = (tt, h)
    every_after (x ∷ xs) ys h = let k = every_after xs ys h.1 in ((h.0, k.0), k.1)

    -- what is given came, and what waits then
    reads_come : (xs : List Content) (c d : Conn L) → given (start_of c) → ReadsOnly put_gives take_gives xs c d
        → IsReadBy c
        → Every (Came put_gives take_gives given) xs × IsReadBy d
    reads_come xs c d is h k =
        let reading = h.reads k.0.0 k.0.1 in
        let more = each_came d (k.0.0 ++ h.more) h.more reading.read (λ f at. any_right (λ g. g ≡ f) k.0.0 h.more at) in
        let all = every_both (Came put_gives take_gives given) (waiting_of c) h.more k.1
        (every_map (CameOn put_gives take_gives d) (Came put_gives take_gives given) h.more
        (λ f on. (d, subst given (sym h.starts) is, on)) more) in
        let parts = every_after xs (waiting_of d) (subst (Every (Came put_gives take_gives given)) h.gives all) in
        (parts.0, ((k.0.0 ++ h.more, reading), parts.1))

    pub some_come : (c d : Conn L) → given (start_of c) → ReadsSome put_gives take_gives c d
        → IsReadBy c
        → IsReadBy d
    some_come c d is h k = (reads_come h.0 c d is h.1 k).1

    pub finds_come : (r : Found) (c d : Conn L) → given (start_of c) → Finds put_gives take_gives r c d
        → IsReadBy c
        → IfFound (Came put_gives take_gives given) r × IsReadBy d
    finds_come found.Nothing c d is h k = (tt, some_come c d is (h.0, h.2) k)
    finds_come found.Answered c d is h k = (tt, some_come c d is (h.0, h.2) k)
    finds_come found.Connected c d is h k = (tt, some_come c d is (h.0, h.2) k)
    finds_come (found.Message m) c d is h k = let come = reads_come (m ∷ []) c d is h.1 k in (come.0.0, come.1)
    finds_come (found.Over cut) c d is h k = (tt, some_come c d is h k)

    -- a frame that came is taken back
    or_it : (f : Content) (o : Option Content) → Every (Came put_gives take_gives given) (option_to_list o)
        → Came put_gives take_gives given f
        → Came put_gives take_gives given (unwrap_or o f)
    or_it f None waits came = came
    or_it f (Some g) waits came = waits.0

    pub back_comes : (f : Content) (c d : Conn L) → Came put_gives take_gives given f → TakesBack put_gives take_gives f c d
        → IsReadBy c
        → IsReadBy d
    back_comes f c d came h k = (
      (k.0.0, h.reads k.0.0 k.0.1),
      subst (λ o. Every (Came put_gives take_gives given) (option_to_list o)) (sym h.waits)
          (or_it f c.channel.waiting k.1 came, tt),
    )

  -- ---- by the link that the connection began with

  reads_from : (c : Conn L) → IsReadIf put_gives take_gives (Some c) → IsReadBy (λ l. Some (start_of c) ≡ Some l) c
  reads_from c h = h

  reads_again : (c d : Conn L) → start_of d ≡ start_of c → IsReadBy (λ l. Some (start_of c) ≡ Some l) d
      → IsReadIf put_gives take_gives (Some d)
  reads_again c d starts h = (
    h.0,
    subst (λ (l : L). Every (CameFrom put_gives take_gives (Some l)) (waiting_of d)) (sym starts) h.1,
  )

  pub goes_on_read : (c d : Conn L) → ReadsSome put_gives take_gives c d → IsReadIf put_gives take_gives (Some c)
      → IsReadIf put_gives take_gives (Some d)
  goes_on_read c d h k =
      reads_again c d h.1.starts (some_come (λ l. Some (start_of c) ≡ Some l) c d refl h (reads_from c k))

  finds_starts : (r : Found) (c d : Conn L) → Finds put_gives take_gives r c d → start_of d ≡ start_of c
  finds_starts found.Nothing c d h = h.2.starts
  finds_starts found.Answered c d h = h.2.starts
  finds_starts found.Connected c d h = h.2.starts
  finds_starts (found.Message m) c d h = h.1.starts
  finds_starts (found.Over cut) c d h = h.1.starts

  -- what came on a connection that began with this link came on one of which that is so, where it's so of the link
  came_given : (given : L → Type 0) (link : L) (f : Content) → given link → CameFrom put_gives take_gives (Some link) f
      → Came put_gives take_gives given f
  came_given given link f is (c, same, on) = (c, subst given (ap (λ o. unwrap_or o link) same) is, on)

  found_over : (given : L → Type 0) (link : L) (r : Found) → given link → IfFound (CameFrom put_gives take_gives (Some link)) r
      → IfFound (CameOver put_gives take_gives given (Some link)) r
  found_over given link found.Nothing is h = tt
  found_over given link found.Answered is h = tt
  found_over given link found.Connected is h = tt
  found_over given link (found.Message m) is h = (h, came_given given link m is h)
  found_over given link (found.Over cut) is h = tt

  pub finds_over : (given : L → Type 0) (r : Found) (c d : Conn L) → given (start_of c) → Finds put_gives take_gives r c d
      → IsReadIf put_gives take_gives (Some c)
      → IfFound (CameOver put_gives take_gives given (Some (start_of c))) r × IsReadIf put_gives take_gives (Some d)
  finds_over given r c d is h k =
      let come = finds_come (λ l. Some (start_of c) ≡ Some l) r c d refl h (reads_from c k) in (
        found_over given (start_of c) r is come.0,
        reads_again c d (finds_starts r c d h) come.1,
      )

  pub goes_on_kept : (f : Content) (c d : Conn L) → CameFrom put_gives take_gives (Some (start_of c)) f
      → TakesBack put_gives take_gives f c d → IsReadIf put_gives take_gives (Some c)
      → IsReadIf put_gives take_gives (Some d)
  goes_on_kept f c d came h k =
      reads_again c d h.starts (back_comes (λ l. Some (start_of c) ≡ Some l) f c d came h (reads_from c k))

  -- a new connection
  pub unread_is_read : (c : Conn L) → IsUnread c → IsReadIf put_gives take_gives (Some c)
  unread_is_read c new = (
    (waiting_of c, unread_given c new),
    subst (λ o. Every (CameFrom put_gives take_gives (Some (start_of c))) (option_to_list o)) (sym new.waiting) tt,
  )
