-- What is decided of a frame that was read, and what waits.
use Rattle.std.proofs.Common.{◌≡◌, Bool, true, false, cond, ◌&&◌, Option, Some, None, Result, Ok, Err, refl, sym, ap}
use Rattle.std.proofs.Common.{◌∙◌, subst}
use Rattle.std.specs.Prelude.{not}
use Rattle.base.specs.declared.limits.TheConstants.{MAX_BODY}
use Rattle.stomp_frame.proofs.FrameFound.{spelled_is_frame}
use Rattle.stomp_frame.specs.Frames.{Content, IsFrame}
use Rattle.stomp_frame.specs.declared.command.Command.{Command}
use Rattle.stomp_frame.specs.declared.command.Command.TheVariants.{Connected, Message, Receipt, Error}
use Rattle.stomp_session.proofs.Accepting.{accepted_fits}
use Rattle.stomp_session.specs.Fitting.{Fits}
use Rattle.stomp_session.specs.Requests.{asked, asked_by, is_server, opens, refusal_of, request_of, request_unless}
use Rattle.stomp_session.specs.declared.fault.SessionFault.{SessionFault}
use Rattle.stomp_session.specs.declared.fault.SessionFault.TheVariants.{NotConnected, AlreadyConnected, WrongCommand}
use Rattle.stomp_session.specs.declared.request.Request.{Request}
use Rattle.broker_core.specs.Feeding.{DecidesNext, waited, read, MeetsFault, now, before, answer_by}
use Rattle.broker_core.specs.Serving.{Decided, is_connect}
use Rattle.broker_core.specs.declared.incoming.Incoming.{Incoming}

-- what a decided frame asks can be told, and only the first connects; a refused one is a frame
abbrev pub DecidedFits : Bool → Decided → Type 0
DecidedFits connected (Ok request) = Fits request × (is_connect request ≡ not connected)
DecidedFits connected (Err r) = IsFrame MAX_BODY r.frame

-- the same of what waits, if anything does
abbrev pub WaitingFits : Bool → Option Decided → Type 0
WaitingFits connected None = Unit {0}
WaitingFits connected (Some decided) = DecidedFits connected decided

-- ---- only the first connects

behind : {A : Type 0} (test : Bool) (fault : A) (rest : Option A) → cond test (Some fault) rest ≡ None → (test ≡ false)
    × (rest ≡ None)
behind true fault rest e = absurd (let k : Some fault ≡ None = e in cc)
behind false fault rest e = (refl, e)

one_opens : (connected does : Bool) → (not connected && not does) ≡ false → (connected && does) ≡ false
    → does ≡ not connected
one_opens true true p q = absurd cc
one_opens true false p q = refl
one_opens false true p q = refl
one_opens false false p q = absurd cc

opened_by : (connected : Bool) (f : Content) → refusal_of connected f ≡ None
    → (is_server f.command ≡ false) × (opens f.command ≡ not connected)
opened_by connected f e =
    let client = behind (is_server f.command) WrongCommand _ e in
    let known = behind (not connected && not (opens f.command)) NotConnected _ client.1 in
    let first = behind (connected && opens f.command) AlreadyConnected _ known.1 in
    (client.0, one_opens connected (opens f.command) known.0 first.0)

connects_by : (c : Command) (f : Content) → is_server c ≡ false → is_connect (asked_by c f) ≡ opens c
connects_by Connected f e = absurd cc
connects_by Message f e = absurd cc
connects_by Receipt f e = absurd cc
connects_by Error f e = absurd cc
connects_by _ f e = refl

asked_fits : (connected : Bool) (f : Content) (request : Request) (o : Option SessionFault) → refusal_of connected f ≡ o
    → request_unless o f ≡ Ok request → is_connect request ≡ not connected
asked_fits connected f request None e k =
    let is = opened_by connected f e in
    let same : asked f ≡ request = cc in
    ap is_connect (sym same) ∙ connects_by f.command f is.0 ∙ is.1
asked_fits connected f request (Some fault) e k = absurd (let z : Err fault ≡ Ok request = k in cc)

decided_by : (connected : Bool) (f : Content) (q : Result Request SessionFault) → request_of connected f ≡ q
    → IsFrame MAX_BODY f
    → DecidedFits connected (answer_by f q)
decided_by connected f (Ok request) e is =
    (accepted_fits connected f request is e, asked_fits connected f request (refusal_of connected f) refl e)
decided_by connected f (Err fault) e is = is

-- ---- what is taken

-- what was taken fits, and nothing waits behind it
pub takes_fit : (connected : Bool) (old left : Incoming) (d : Decided) → DecidesNext connected old d left
    → WaitingFits connected old.waiting
    → DecidedFits connected d × (left.waiting ≡ None)
takes_fit connected old left d (waited e k) h = (subst (WaitingFits connected) e h, ap (λ (i : Incoming). i.waiting) k)
takes_fit connected old left d (read f front none sound spells octets still w answers) h =
    (rw answers (decided_by connected f (request_of connected f) refl (spelled_is_frame MAX_BODY f front spells)), w)

pub none_fits : (connected : Bool) (w : Option Decided) → w ≡ None → WaitingFits connected w
none_fits connected w e = subst (WaitingFits connected) (sym e) tt

pub meets_none : (old left : Incoming) → MeetsFault old left → left.waiting ≡ None
meets_none old left (now fault none sound bad w failed) = w
meets_none old left (before none failed k) = ap (λ (i : Incoming). i.waiting) k ∙ none
