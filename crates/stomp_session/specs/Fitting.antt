-- What holds of each request that a session accepts.
use Rattle.stomp_session.specs.declared.request.Request.{Request}
use Rattle.stomp_session.specs.declared.request.Request.TheVariants.{Connect, Send, Subscribe, Unsubscribe, Ack, Nack}
use Rattle.stomp_session.specs.declared.request.Request.TheVariants.{Begin, Commit, Abort}
use Rattle.stomp_session.specs.declared.request.Request.TheVariants.{Disconnect}
use Rattle.stomp_session.specs.Replies.{IsEchoed, IsEchoedIfAny, IsCarried}

-- what a server tells again of a request can be told, and a MESSAGE can carry what a SEND brings
abbrev pub Fits : Request → Type 0
Fits (Connect c) = Unit {0}
Fits (Send s) = IsCarried s.destination s.headers s.body × IsEchoedIfAny s.transaction × IsEchoedIfAny s.receipt
Fits (Subscribe s) = IsEchoed s.id × IsEchoedIfAny s.receipt
Fits (Unsubscribe u) = IsEchoed u.id × IsEchoedIfAny u.receipt
Fits (Ack a) = IsEchoed a.id × IsEchoedIfAny a.transaction × IsEchoedIfAny a.receipt
Fits (Nack a) = IsEchoed a.id × IsEchoedIfAny a.transaction × IsEchoedIfAny a.receipt
Fits (Begin d) = IsEchoed d.transaction × IsEchoedIfAny d.receipt
Fits (Commit d) = IsEchoed d.transaction × IsEchoedIfAny d.receipt
Fits (Abort d) = IsEchoed d.transaction × IsEchoedIfAny d.receipt
Fits (Disconnect d) = IsEchoedIfAny d.receipt
