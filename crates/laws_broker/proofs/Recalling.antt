-- Each frame that calls handled is among all that they handled.
use Rattle.std.proofs.Common.{◌≡◌, ℕ, List, [], ◌∷◌, ◌++◌, Result, Ok, refl, sym, ap, ◌∙◌}
use Rattle.std.proofs.Common.{subst}
use Rattle.std.proofs.Common.{append-nil, append_assoc}
use Rattle.std.specs.List.{AllByRecursion, Contains, flat_map}
use Rattle.std.proofs.lemmas.Bool.{eq-eqb}
use Rattle.std.proofs.lemmas.List.Concat.{flat_map-append}
use Rattle.std.proofs.lemmas.List.Elements.{Contains-append_left, Contains-append_right, Contains-push}
use Rattle.stomp_session.specs.declared.request.Request.TheVariants.{Send, Subscribe}
use Rattle.broker_core.specs.Calls.{empty}
use Rattle.broker_core.specs.Serving.{Decided, Server, session_of}
use Rattle.broker_core.specs.Streams.{Fed}
use Rattle.broker_core.specs.declared.fault.BrokerFault.{BrokerFault}
use Rattle.laws_broker.specs.Lives.{BrokerCall, FedTo, DoesCall, Lives, fed_by, fed_in, handled_in}
use Rattle.laws_broker.specs.Written.{BrokersSpeak, IsAsked, IsBrought, IsLater, Speaks}
use Rattle.laws_broker.proofs.Accounting.{account_is}
use Rattle.laws_broker.proofs.Hearing.{Answered, answered, handled_by, handled_more, taken, thrown}
use Rattle.laws_broker.proofs.Calling.{KnowsCall, calls_stand, empty_stands, no_account}
use Rattle.laws_broker.proofs.Living.{Knows}

-- ---- each frame is among those that were handled

knows : (all : List BrokerCall) (m : ℕ) (d : Decided) → Contains (handled_in m all) d
    → Knows (IsBrought all) (IsAsked all) m d
knows all m (Ok (Send s)) h = record { session = m; request = s; among = h; same = refl }
knows all m (Ok (Subscribe s)) h = λ mode e. record { request = s; among = h; id = refl; destination = refl; mode = e }
knows all m _ h = tt

all_of : {X : Type 0} (P : X → Type 0) (xs : List X) → ((x : X) → Contains xs x → P x) → AllByRecursion P xs
all_of P [] k = tt
all_of P (x ∷ xs) k = (
  k x (Contains-append_left (x ∷ []) xs x (Contains-push [] x)),
  all_of P xs (λ y h. k y (Contains-append_right (x ∷ []) xs y h)),
)

handled_both : (m : ℕ) (front behind : List BrokerCall)
    → handled_in m (front ++ behind) ≡ handled_in m front ++ handled_in m behind
handled_both m front behind =
    ap (flat_map (λ (f : Fed). f.frames)) (flat_map-append (fed_by m) front behind)
    ∙ flat_map-append (λ (f : Fed). f.frames) (fed_in m front) (fed_in m behind)

among : (m : ℕ) (front calls : List BrokerCall) (c : BrokerCall) (d : Decided) → Contains (handled_by m c) d
    → Contains (handled_in m (front ++ c ∷ calls)) d
among m front calls c d h =
    subst (λ l. Contains l d)
    (sym (handled_both m front (c ∷ calls) ∙ ap (λ l. handled_in m front ++ l) (handled_more m c calls)))
    (Contains-append_right (handled_in m front) (handled_by m c ++ handled_in m calls) d
    (Contains-append_left (handled_by m c) (handled_in m calls) d h))

fed_known : (full m : ℕ) (all front calls : List BrokerCall) (old : Server) (f : Fed) (new : Server)
    (answer : Result ℕ BrokerFault)
    → all ≡ front ++ FedTo m f answer ∷ calls → Answered full m old f new answer
    → AllByRecursion (Knows (IsBrought all) (IsAsked all) m) f.frames
fed_known full m all front calls old f new answer e (taken was t) =
    all_of (Knows (IsBrought all) (IsAsked all) m) f.frames
    (λ d h. knows all m d (rw e (among m front calls (FedTo m f answer) d
    (rw (eq-eqb m m refl, was, append-nil f.frames) h))))
fed_known full m all front calls old f new answer e (thrown was same none) =
    subst (AllByRecursion (Knows (IsBrought all) (IsAsked all) m)) (sym none) tt

call_known : (full n : ℕ) (all front calls : List BrokerCall) (c : BrokerCall) (old new : Server)
    → DoesCall full old c new
    → all ≡ front ++ c ∷ calls → KnowsCall (IsBrought all) (IsAsked all) n c
call_known full n all front calls (FedTo m f answer) old new h e =
    fed_known full m all front calls old f new answer e (answered full m old f new answer h)
call_known full n all front calls _ old new h e = tt

known : (full n : ℕ) (all front calls : List BrokerCall) (old new : Server) → Lives full old calls new
    → all ≡ front ++ calls
    → AllByRecursion (KnowsCall (IsBrought all) (IsAsked all) n) calls
known full n all front [] old new h e = tt
known full n all front (c ∷ calls) old new h e = (
  call_known full n all front calls c old h.0 h.1 e,
  known full n all (front ++ c ∷ []) calls h.0 new h.2 (e ∙ sym (append_assoc front (c ∷ []) calls)),
)

pub brokers_speak : BrokersSpeak
brokers_speak full calls b n h =
    subst (λ a. Speaks (IsLater (IsBrought calls) (IsAsked calls) n) a (session_of n b)) (account_is full n calls b h)
    (calls_stand (IsBrought calls) (IsAsked calls) n full calls no_account empty b h
    (known full n calls [] calls empty b h refl)
    (empty_stands (IsBrought calls) (IsAsked calls) n)).speaks
