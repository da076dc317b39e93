-- An ACK of which nothing but its id is asked has the step of its request.
use Rattle.std.proofs.Common.{◌≡◌, ℕ, Bool, true, false, ◌||◌, List, refl, sym, ap, ◌∙◌}
use Rattle.std.specs.Prelude.{Option, Some, Result, Ok}
use Rattle.std.proofs.lemmas.List.{append-nil}
use Rattle.stomp_frame.specs.Frames.{Content}
use Rattle.stomp_session.specs.Requests.{acking, request_of}
use Rattle.stomp_session.specs.declared.fault.SessionFault.{SessionFault}
use Rattle.stomp_session.specs.declared.request.Request.{Request}
use Rattle.text.specs.Numerals.{number_of}
use Rattle.broker_book.specs.Books.{Book}
use Rattle.broker_book.specs.Steps.{ack_of}
use Rattle.broker_book.specs.declared.fault.QueueFault.{QueueFault}
use Rattle.broker_core.specs.Feeding.{answer_by, answer_of}
use Rattle.broker_core.specs.Performing.{answer_now, in_book}
use Rattle.broker_core.specs.Serving.{finished, part, reached, served}
use Rattle.broker_core.specs.declared.session.Session.{Session}

no_more : (b : Bool) → (b || false) ≡ b
no_more true = refl
no_more false = refl

-- a connected session to which nothing is written stays as it is
unanswered : (book new : Book) (s : Session) (id : List ℕ) → s.server ≡ true
    → finished (acking id) (part book s) (in_book (reached (part book s)) (Ok new)) ≡ part new s
unanswered book new s id connected =
    let with_out = λ (out : List ℕ). part new (record s { server = true; fresh = s.fresh || false; out = out }) in
    let with_fresh = λ (fresh : Bool). part new (record s { server = true; fresh = fresh }) in
    let with_server = λ (server : Bool). part new (record s { server = server }) in
    ap with_out (append-nil s.out) ∙ ap with_fresh (no_more s.fresh) ∙ ap with_server (sym connected)

-- an ACK that was done at once is served as its request would have been
pub acked : (full : ℕ) (book new : Book) (s : Session) (f : Content) (id : List ℕ) (number : ℕ) → s.server ≡ true
    → request_of s.server f ≡ Ok (acking id) → number_of id ≡ Some number → ack_of book s.number number ≡ Ok new
    → part new s ≡ served full (answer_of s.server f) (part book s)
acked full book new s f id number connected asks numbered step =
    let before = part book s in
    sym (ap (λ (r : Result Request SessionFault). served full (answer_by f r) before) asks
    ∙ ap (λ (n : Option ℕ). finished (acking id) before (answer_now ack_of (reached before) s.number n)) numbered
    ∙ ap (λ (r : Result Book QueueFault). finished (acking id) before (in_book (reached before) r)) step
    ∙ unanswered book new s id connected)
