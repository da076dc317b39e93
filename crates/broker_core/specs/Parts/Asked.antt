-- A request as a session keeps it.
use Rattle.std.specs.Prelude.{Bool, true, false, not}
use Rattle.stomp_session.specs.declared.request.Request.{Request}
use Rattle.stomp_session.specs.declared.request.Request.TheVariants.{Send}
use Rattle.broker_core.specs.declared.asked.Form.{Form}
use Rattle.broker_core.specs.declared.asked.Form.TheVariants.{Whole, Shared}
use Rattle.broker_core.specs.declared.asked.SharedSend.{SharedSend}

-- a SEND whose destination, headers and body are shared
abbrev pub send_in : SharedSend → Request
send_in s = Send (record {
  destination = s.sent.destination;
  headers = s.sent.headers;
  body = s.sent.body;
  transaction = s.transaction;
  receipt = s.receipt;
})

-- the request itself, whatever its form
abbrev pub request_in : Form → Request
request_in (Whole request) = request
request_in (Shared s) = send_in s

-- whether a request is a SEND
abbrev pub is_send : Request → Bool
is_send (Send s) = true
is_send _ = false

-- what is carried out wants no memory for itself: a SEND is shared
abbrev pub is_ready : Form → Bool
is_ready (Whole request) = not (is_send request)
is_ready (Shared s) = true
