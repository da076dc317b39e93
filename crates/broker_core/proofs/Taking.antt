-- What the decoder answers, as what a session takes.
use Rattle.std.proofs.Common.{◌≡◌, Bool, true, false, refl, sym, ap, ◌∙◌}
use Rattle.std.specs.Prelude.{Option, Some, None, Result, Ok, Err}
use Rattle.base.specs.declared.limits.TheConstants.{MAX_BODY}
use Rattle.stomp_frame.specs.Decoding.{Held, Nexts}
use Rattle.stomp_frame.specs.Frames.{Content}
use Rattle.stomp_frame.specs.declared.fault.FrameFault.{FrameFault}
use Rattle.stomp_frame.specs.declared.fault.FrameFault.TheVariants.{Memory, Failed}
use Rattle.broker_core.specs.Feeding.{DecidesNext, HasNone, MeetsFault, answer_of, read, now, before}
use Rattle.broker_core.specs.Parts.Taking.{NextAnswer, is_memory}
use Rattle.broker_core.specs.Serving.{Decided}
use Rattle.broker_core.specs.declared.incoming.Incoming.{Incoming}

pub reads : (connected : Bool) (old new : Incoming) (f : Content) (decided : Decided) → old.waiting ≡ None
    → new.waiting ≡ None
    → Nexts MAX_BODY old.decoder new.decoder (Ok (Some f)) → decided ≡ answer_of connected f
    → DecidesNext connected old decided new
reads connected old new f decided w v n e = read f n.2 w n.0 n.3 n.4 n.1 v e

same : (old new : Incoming) → old.waiting ≡ None → new.waiting ≡ None → new.decoder ≡ old.decoder → new ≡ old
same old new w v e =
    let at_decoder = λ (d : Held). record old { decoder = d; waiting = new.waiting } in
    let at_waiting = λ (x : Option Decided). record old { waiting = x } in
    ap at_decoder e ∙ ap at_waiting (v ∙ sym w)

pub meets : (old new : Incoming) (fault : FrameFault) → is_memory fault ≡ false → old.waiting ≡ None
    → new.waiting ≡ None
    → Nexts MAX_BODY old.decoder new.decoder (Err fault) → MeetsFault old new
meets old new Memory e w v n = cc
meets old new Failed e w v n = before w n.0 (same old new w v n.1)
meets old new fault e w v n = now fault w n.0 n.2 v n.1

finds_none : (old new : Incoming) → old.waiting ≡ None → new.waiting ≡ None
    → Nexts MAX_BODY old.decoder new.decoder (Ok None) → HasNone old new
finds_none old new w v n = record {
  none_waits = w;
  sound = n.0;
  no_frame = n.2;
  no_fault = n.3;
  gap = n.5;
  is_gap = n.6;
  octets = n.7;
  still_sound = n.1;
  still_none = v;
}

-- the decoder's next frame is the session's, where none waits
pub decodes : (connected : Bool) (old new : Incoming) (r : Result (Option Content) FrameFault) → old.waiting ≡ None
    → new.waiting ≡ None
    → Nexts MAX_BODY old.decoder new.decoder r → NextAnswer connected old new r
decodes connected old new (Ok (Some f)) w v n = reads connected old new f (answer_of connected f) w v n refl
decodes connected old new (Ok None) w v n = finds_none old new w v n
decodes connected old new (Err Memory) w v n = same old new w v n.1
decodes connected old new (Err fault) w v n = meets old new fault refl w v n

-- ---- what a fault that was answered says

-- out of memory changes nothing
pub no_memory : (connected : Bool) (old new : Incoming) (fault : FrameFault) → is_memory fault ≡ true
    → NextAnswer connected old new (Err fault) → new ≡ old
no_memory connected old new Memory e n = n
no_memory connected old new fault e n = cc

-- any other fault of the decoder is one of the octets
pub met : (connected : Bool) (old new : Incoming) (fault : FrameFault) → is_memory fault ≡ false
    → NextAnswer connected old new (Err fault) → MeetsFault old new
met connected old new Memory e n = cc
met connected old new fault e n = n
