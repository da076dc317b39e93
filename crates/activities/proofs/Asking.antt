-- A service for examples, as small as one can be: an entity asks others, once, and remembers what it asked for.
use Rattle.std.specs.Prelude.{codes, List, [], ◌∷◌, Option, Some, None, Result, Ok, Err, is_none}
use Rattle.base.specs.Entity.{Entity, order_of, stock_of, account_of}
use Rattle.base.specs.declared.entity.Kind.TheVariants.{Order}
use Rattle.envelope.specs.declared.message.Message.TheVariants.{Request}
use Rattle.activities.specs.declared.handler.Refusal.{Refusal}
use Rattle.activities.specs.declared.handler.Refusal.TheVariants.{AlreadyPlaced}
use Rattle.activities.specs.declared.outs.Out.{Out}
use Rattle.activities.specs.Reaction.{Reactions}
use Rattle.activities.specs.Service.{Service}

-- what is asked for is the command, and the state behind it
abbrev pub Asked : Type 0
Asked = List Out

abbrev pub on_asking : Option Asked → Asked → Result (Option Asked × List Out) Refusal
on_asking None asks = Ok (Some asks, asks)
on_asking (Some asked) asks = Err AlreadyPlaced

-- no message changes anything
abbrev pub asking_reactions : Reactions (Option Asked) Asked
asking_reactions = record { opening = None; on_command = on_asking; on_message = λ s sender message. (s, []) }

abbrev pub asking : Service (Option Asked) Asked
asking = record { kind = Order; reactions = asking_reactions; is_none = is_none }

abbrev pub o1 : Entity
o1 = order_of (codes "o1")

abbrev pub bolts : Entity
bolts = stock_of (codes "bolts")

abbrev pub acme : Entity
acme = account_of (codes "acme")

-- 3 bolts, and 500 from acme
abbrev pub both : Asked
both = record { receiver = bolts; message = Request 3 } ∷ record { receiver = acme; message = Request 500 } ∷ []
