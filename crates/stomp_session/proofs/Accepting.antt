-- What a session accepts, and what it refuses.
use Rattle.std.proofs.Common.{◌≡◌, ◌≢◌, ℕ, Bool, true, false, cond, ◌||◌, ◌&&◌, List, [], ◌∷◌, length, codes, Option}
use Rattle.std.proofs.Common.{Some, None, Ok, Err}
use Rattle.std.proofs.Common.{refl, sym, ap, arith}
use Rattle.std.specs.Prelude.{◌==◌, not, nat_lt, unwrap_or}
use Rattle.std.specs.List.{AllByRecursion, list_any}
use Rattle.std.specs.Str.{bytes_eq}
use Rattle.std.proofs.lemmas.Bool.{ltb-false}
use Rattle.base.specs.declared.limits.TheConstants.{MAX_BODY, MAX_ECHOED, MAX_OWN_HEADERS}
use Rattle.stomp_frame.specs.declared.command.Command.{Command}
use Rattle.stomp_frame.specs.declared.command.Command.TheVariants.{Connect, Stomp, Send, Subscribe, Unsubscribe, Ack}
use Rattle.stomp_frame.specs.declared.command.Command.TheVariants.{Nack, Begin, Commit}
use Rattle.stomp_frame.specs.declared.command.Command.TheVariants.{Abort, Disconnect, Connected, Message, Receipt}
use Rattle.stomp_frame.specs.declared.command.Command.TheVariants.{Error}
use Rattle.stomp_frame.specs.Frames.{Header, Content, header, has, value_of, IsFrame, IsOwn}
use Rattle.stomp_frame.proofs.Escapes.{owned_alike}
use Rattle.stomp_frame.proofs.Scans.{or_left, or_right}
use Rattle.stomp_session.specs.declared.fault.SessionFault.{SessionFault}
use Rattle.stomp_session.specs.declared.fault.SessionFault.TheVariants.{NotConnected, AlreadyConnected, Version}
use Rattle.stomp_session.specs.declared.fault.SessionFault.TheVariants.{MissingHeader}
use Rattle.stomp_session.specs.declared.fault.SessionFault.TheVariants.{WrongCommand, Memory, TooLarge}
use Rattle.stomp_session.specs.declared.request.Request.{Request}
use Rattle.stomp_session.specs.Headers.{echoed, has_long, is_long, text_of, own_headers, is_own, offers_version}
use Rattle.stomp_session.specs.Requests.{opens, is_server, is_send, lacks, is_large, refusal_of, receipt_in, asked_by}
use Rattle.stomp_session.specs.Requests.{asked}
use Rattle.stomp_session.specs.Requests.{request_unless, request_of, receipt_of}
use Rattle.stomp_session.specs.Replies.{IsEchoed, IsEchoedIfAny, IsCarried, unless_long, receipt_told}
use Rattle.stomp_session.specs.Fitting.{Fits}
use Rattle.stomp_session.proofs.Owning.{owned, utf8, all_filter}
use Rattle.stomp_session.proofs.Taking.{same_text}

-- ---- refusals

-- no fault was found here, and none behind
record IsPassed {A : Type 0} (test : Bool) (rest : Option A) : Type 0 where
  here : test ≡ false
  behind : rest ≡ None

passed : {A : Type 0} (test : Bool) (fault : A) (rest : Option A) → cond test (Some fault) rest ≡ None
    → IsPassed test rest
passed true fault rest e = absurd (let k : Some fault ≡ None = e in cc)
passed false fault rest e = record { here = refl; behind = e }

-- what is known of a frame that isn't refused
pub record IsAccepted (f : Content) : Type 0 where
  pub client : is_server f.command ≡ false
  pub complete : lacks f ≡ false
  pub small : is_large f ≡ false

pub accepted : (connected : Bool) (f : Content) → refusal_of connected f ≡ None → IsAccepted f
accepted connected f none =
    let client = passed (is_server f.command) WrongCommand _ none in
    let known = passed (not connected && not (opens f.command)) NotConnected _ client.behind in
    let first = passed (connected && opens f.command) AlreadyConnected _ known.behind in
    let complete = passed (lacks f) MissingHeader _ first.behind in
    let small = passed (is_large f) TooLarge _ complete.behind in
    record { client = client.here; complete = complete.here; small = small.here }

-- a test that finds a fault, which isn't want of memory
finds : (test : Bool) (fault : SessionFault) (rest : Option SessionFault) → fault ≢ Memory → rest ≢ Some Memory
    → cond test (Some fault) rest ≢ Some Memory
finds true fault rest other behind = λ e. other (let same : fault ≡ Memory = cc in same)
finds false fault rest other behind = behind

never_memory : (connected : Bool) (f : Content) → refusal_of connected f ≢ Some Memory
never_memory connected f =
    finds (is_server f.command) WrongCommand _ (λ e. cc) (
    finds (not connected && not (opens f.command)) NotConnected _ (λ e. cc) (
    finds (connected && opens f.command) AlreadyConnected _ (λ e. cc) (
    finds (lacks f) MissingHeader _ (λ e. cc) (
    finds (is_large f) TooLarge _ (λ e. cc) (
    finds (opens f.command && not (offers_version (text_of f (codes "accept-version")))) Version None (λ e. cc)
    (λ e. cc))))))

refused_by : (refusal : Option SessionFault) (f : Content) → refusal ≢ Some Memory
    → request_unless refusal f ≢ Err Memory
refused_by None f other = λ e. cc
refused_by (Some fault) f other = λ e. other (let same : fault ≡ Memory = cc in ap Some same)

-- no frame is refused for want of memory
pub no_memory_is_wanted : (connected : Bool) (f : Content) → request_of connected f ≢ Err Memory
no_memory_is_wanted connected f = refused_by (refusal_of connected f) f (never_memory connected f)

-- ---- the values of a frame

-- a value stands in a header of its name
owned_here : (c : Command) (name : List ℕ) (h : Header) (hs : List Header) (value : List ℕ) (b : Bool)
    → bytes_eq h.name name ≡ b
    → IsOwn c h → (value_of name hs ≡ Some value → IsOwn c (header name value))
    → cond b (Some h.value) (value_of name hs) ≡ Some value → IsOwn c (header name value)
owned_here c name h hs value true is own behind e =
    let same : h.value ≡ value = cc in
    rw (sym (same_text h.name name is), sym same) own
owned_here c name h hs value false is own behind e = behind e

owned_value : (c : Command) (name : List ℕ) (hs : List Header) (value : List ℕ) → AllByRecursion (IsOwn c) hs
    → value_of name hs ≡ Some value → IsOwn c (header name value)
owned_value c name [] value all e = absurd (let k : None ≡ Some value = e in cc)
owned_value c name (h ∷ hs) value all e =
    owned_here c name h hs value (bytes_eq h.name name) refl all.0 (owned_value c name hs value all.1) e

-- a value that isn't too long is one that can be told
told_value : (c : Command) (name value : List ℕ) → IsOwn c (header name value)
    → nat_lt MAX_ECHOED (length value) ≡ false → IsEchoed value
told_value c name value own short = record {
  plain = or_right (length name == 0 || has 0 name) (has 0 value)
      (or_left (length name == 0 || has 0 name || has 0 value) _ own.header.good);
  utf8 = own.header.value;
  short = ltb-false _ _ short;
}

told_if_any : (c : Command) (name : List ℕ) (hs : List Header) (found : Option (List ℕ)) → AllByRecursion (IsOwn c) hs
    → value_of name hs ≡ found → is_long found ≡ false → IsEchoedIfAny found
told_if_any c name hs None all e short = tt
told_if_any c name hs (Some value) all e short = told_value c name value (owned_value c name hs value all e) short

none_told : IsEchoed []
none_told = record { plain = refl; utf8 = utf8 [] refl; short = omega arith }

told_text : (found : Option (List ℕ)) → IsEchoedIfAny found → IsEchoed (unwrap_or found [])
told_text None told = none_told
told_text (Some value) told = told

-- ---- requests

any_told : (f : Content) (name : List ℕ) → IsFrame MAX_BODY f → has_long f name ≡ false
    → IsEchoedIfAny (value_of name f.headers)
any_told f name is short = told_if_any f.command name f.headers (value_of name f.headers) is.headers refl short

text_told : (f : Content) (name : List ℕ) → IsFrame MAX_BODY f → has_long f name ≡ false → IsEchoed (text_of f name)
text_told f name is short = told_text (value_of name f.headers) (any_told f name is short)

destination_carried : (hs : List Header) (found : Option (List ℕ)) → AllByRecursion (IsOwn Send) hs
    → value_of (codes "destination") hs ≡ found
    → IsOwn Message (header (codes "destination") (unwrap_or found []))
destination_carried hs None all e =
    owned Message (codes "destination") [] (record {
      good = refl;
      ascii = refl;
      own = refl;
      utf8 = utf8 [] refl;
      short = omega arith;
    })
destination_carried hs (Some value) all e =
    owned_alike Send Message (header (codes "destination") value) refl (owned_value Send (codes "destination") hs value
    all e)

all_carried : (hs : List Header) → AllByRecursion (IsOwn Send) hs → AllByRecursion (IsOwn Message) hs
all_carried [] all = tt
all_carried (h ∷ hs) all = (owned_alike Send Message h refl all.0, all_carried hs all.1)

-- what a SEND brings, a MESSAGE can carry
carried : (f : Content) → IsFrame MAX_BODY f → f.command ≡ Send
    → nat_lt MAX_OWN_HEADERS (length (own_headers f)) ≡ false
    → IsCarried (text_of f (codes "destination")) (own_headers f) f.body
carried f is send few =
    let all : AllByRecursion (IsOwn Send) f.headers = rw send at is.headers in
    record {
      destination = destination_carried f.headers (value_of (codes "destination") f.headers) all refl;
      headers = all_filter (IsOwn Message) is_own f.headers (all_carried f.headers all);
      count = ltb-false _ _ few;
      body = rw send at is.body;
    }

-- the values that are told again, one, two or three of them
record AreShort (a b c : Bool) : Type 0 where
  first : a ≡ false
  second : b ≡ false
  third : c ≡ false

three_short : (a b c more : Bool) → ((a || (b || (c || false))) || more) ≡ false → AreShort a b c
three_short a b c more none =
    let all = or_left (a || (b || (c || false))) more none in
    let others = or_right a (b || (c || false)) all in
    record {
      first = or_left a (b || (c || false)) all;
      second = or_left b (c || false) others;
      third = or_left c false (or_right b (c || false) others);
    }

two_short : (a b more : Bool) → ((a || (b || false)) || more) ≡ false → AreShort a b false
two_short a b more none =
    let both = or_left (a || (b || false)) more none in
    record {
      first = or_left a (b || false) both;
      second = or_left b false (or_right a (b || false) both);
      third = refl;
    }

one_short : (a more : Bool) → ((a || false) || more) ≡ false → a ≡ false
one_short a more none = or_left a false (or_left (a || false) more none)

-- the values of a frame that isn't too large
fits_by : (c : Command) (f : Content) → IsFrame MAX_BODY f → f.command ≡ c
    → (list_any (has_long f) (echoed c) || (is_send c && nat_lt MAX_OWN_HEADERS (length (own_headers f)))) ≡ false
    → Fits (asked_by c f)
fits_by Send f is e small =
    let short = two_short (has_long f (codes "receipt")) (has_long f (codes "transaction")) _ small in (
      carried f is e (or_right (list_any (has_long f) (echoed Send)) _ small),
      any_told f (codes "transaction") is short.second,
      any_told f (codes "receipt") is short.first,
    )
fits_by Subscribe f is e small =
    let short = two_short (has_long f (codes "receipt")) (has_long f (codes "id")) _ small in
    (text_told f (codes "id") is short.second, any_told f (codes "receipt") is short.first)
fits_by Unsubscribe f is e small =
    let short = two_short (has_long f (codes "receipt")) (has_long f (codes "id")) _ small in
    (text_told f (codes "id") is short.second, any_told f (codes "receipt") is short.first)
fits_by Ack f is e small =
    let short = three_short (has_long f (codes "receipt")) (has_long f (codes "id")) (has_long f (codes "transaction"))
    _ small in (
      text_told f (codes "id") is short.second,
      any_told f (codes "transaction") is short.third,
      any_told f (codes "receipt") is short.first,
    )
fits_by Nack f is e small =
    let short = three_short (has_long f (codes "receipt")) (has_long f (codes "id")) (has_long f (codes "transaction"))
    _ small in (
      text_told f (codes "id") is short.second,
      any_told f (codes "transaction") is short.third,
      any_told f (codes "receipt") is short.first,
    )
fits_by Begin f is e small =
    let short = two_short (has_long f (codes "receipt")) (has_long f (codes "transaction")) _ small in
    (text_told f (codes "transaction") is short.second, any_told f (codes "receipt") is short.first)
fits_by Commit f is e small =
    let short = two_short (has_long f (codes "receipt")) (has_long f (codes "transaction")) _ small in
    (text_told f (codes "transaction") is short.second, any_told f (codes "receipt") is short.first)
fits_by Abort f is e small =
    let short = two_short (has_long f (codes "receipt")) (has_long f (codes "transaction")) _ small in
    (text_told f (codes "transaction") is short.second, any_told f (codes "receipt") is short.first)
fits_by Disconnect f is e small = any_told f (codes "receipt") is (one_short (has_long f (codes "receipt")) _ small)
fits_by _ f is e small = tt

-- a frame that is accepted, and what it asks
record IsAsked (connected : Bool) (f : Content) (request : Request) : Type 0 where
  accepted : IsAccepted f
  asked : asked f ≡ request

asked_unless : (refusal : Option SessionFault) (f : Content) (request : Request) → request_unless refusal f ≡ Ok request
    → (refusal ≡ None) × (asked f ≡ request)
asked_unless None f request e = (refl, cc)
asked_unless (Some fault) f request e = absurd (let k : Err fault ≡ Ok request = e in cc)

is_asked : (connected : Bool) (f : Content) (request : Request) → request_of connected f ≡ Ok request
    → IsAsked connected f request
is_asked connected f request e =
    let parts = asked_unless (refusal_of connected f) f request e in
    record { accepted = accepted connected f parts.0; asked = parts.1 }

-- what an accepted request holds fits what a server writes of it
pub accepted_fits : (connected : Bool) (f : Content) (request : Request) → IsFrame MAX_BODY f
    → request_of connected f ≡ Ok request
    → Fits request
accepted_fits connected f request is e =
    let from = is_asked connected f request e in
    rw (sym from.asked) (fits_by f.command f is refl from.accepted.small)

-- ---- receipts

short_told : (c : Command) (hs : List Header) (found : Option (List ℕ)) → AllByRecursion (IsOwn c) hs
    → value_of (codes "receipt") hs ≡ found → IsEchoedIfAny (unless_long found)
short_told c hs None all e = tt
short_told c hs (Some value) all e = by_length (is_long (Some value)) refl
  where
    by_length : (b : Bool) → is_long (Some value) ≡ b → IsEchoedIfAny (cond b None (Some value))
    by_length true is = tt
    by_length false is = told_value c (codes "receipt") value (owned_value c (codes "receipt") hs value all e) is

-- the receipt that an ERROR names fits into it
pub told_receipts_fit : (f : Content) → IsFrame MAX_BODY f → IsEchoedIfAny (receipt_told f)
told_receipts_fit f is = by_command (opens f.command)
  where
    by_command : (b : Bool) → IsEchoedIfAny (cond b None (unless_long (receipt_in f)))
    by_command true = tt
    by_command false = short_told f.command f.headers (receipt_in f) is.headers refl

kept : (found : Option (List ℕ)) → is_long found ≡ false → found ≡ unless_long found
kept found short = rw short refl

receipt_by : (c : Command) (f : Content) → is_server c ≡ false
    → (list_any (has_long f) (echoed c) || (is_send c && nat_lt MAX_OWN_HEADERS (length (own_headers f)))) ≡ false
    → receipt_of (asked_by c f) ≡ cond (opens c) None (unless_long (receipt_in f))
receipt_by Connect f client small = refl
receipt_by Stomp f client small = refl
receipt_by Send f client small =
    kept (receipt_in f) (two_short (has_long f (codes "receipt")) (has_long f (codes "transaction")) _ small).first
receipt_by Subscribe f client small =
    kept (receipt_in f) (two_short (has_long f (codes "receipt")) (has_long f (codes "id")) _ small).first
receipt_by Unsubscribe f client small =
    kept (receipt_in f) (two_short (has_long f (codes "receipt")) (has_long f (codes "id")) _ small).first
receipt_by Ack f client small =
    kept (receipt_in f) (three_short (has_long f (codes "receipt")) (has_long f (codes "id"))
    (has_long f (codes "transaction")) _ small).first
receipt_by Nack f client small =
    kept (receipt_in f) (three_short (has_long f (codes "receipt")) (has_long f (codes "id"))
    (has_long f (codes "transaction")) _ small).first
receipt_by Begin f client small =
    kept (receipt_in f) (two_short (has_long f (codes "receipt")) (has_long f (codes "transaction")) _ small).first
receipt_by Commit f client small =
    kept (receipt_in f) (two_short (has_long f (codes "receipt")) (has_long f (codes "transaction")) _ small).first
receipt_by Abort f client small =
    kept (receipt_in f) (two_short (has_long f (codes "receipt")) (has_long f (codes "transaction")) _ small).first
receipt_by Disconnect f client small = kept (receipt_in f) (one_short (has_long f (codes "receipt")) _ small)
receipt_by Connected f client small = absurd (let k : true ≡ false = client in cc)
receipt_by Message f client small = absurd (let k : true ≡ false = client in cc)
receipt_by Receipt f client small = absurd (let k : true ≡ false = client in cc)
receipt_by Error f client small = absurd (let k : true ≡ false = client in cc)

-- the receipt of an accepted request is the one that an ERROR would name
pub accepted_receipt : (connected : Bool) (f : Content) (request : Request) → request_of connected f ≡ Ok request
    → receipt_of request ≡ receipt_told f
accepted_receipt connected f request e =
    let from = is_asked connected f request e in
    rw (sym from.asked) (receipt_by f.command f from.accepted.client from.accepted.small)
