-- Whatever an outcome allows takes in only what arrived, or was held.
use Rattle.std.proofs.Common.{◌≡◌, ℕ, List, Some}
use Rattle.std.specs.Prelude.{slice_get}
use Rattle.base.specs.declared.pair.Pair.{Pair}
use Rattle.envelope.specs.declared.message.Message.{Message}
use Rattle.envelope.specs.declared.message.Envelope.{Envelope}
use Rattle.envelope.specs.declared.message.Envelope.TheVariants as envelope
use Rattle.activities.specs.Service.{Service}
use Rattle.endpoint.specs.Deeds.{Kept, Deed}
use Rattle.laws_network.specs.declared.event.Event.{Event}
use Rattle.laws_network.specs.declared.event.Event.TheVariants.{Commit, Send, Tell, Take, Drain, Reopen}
use Rattle.laws_network.specs.declared.event.Outcome.{Outcome}
use Rattle.laws_network.specs.declared.event.Outcome.TheVariants.{Committed, Sent, Told, Taken, Settled, Drained}
use Rattle.laws_network.specs.declared.event.Outcome.TheVariants.{Reopened, Missing}
use Rattle.laws_network.specs.SideSteps.{MayDo}
use Rattle.laws_stores.proofs.Founded.{nothing_is, commit_is, ingest_is, settle_is, drain_is}
use Rattle.laws_stores.specs.Deeds.{DeedIs}
use Rattle.laws_stores.specs.Good.{IsHeldIn}

module _ {S C : Type 0} (s : Service S C) (P : Envelope → Type 0) where
  -- what is held has the property
  abbrev HeldIs : Kept C → Type 0
  HeldIs x = (p : Pair) (n : ℕ) (m : Message) → x.held p n ≡ Some m
      → P (envelope.Letter (record { pair = p; number = n; message = m }))

  all_held : (x : Kept C) → HeldIs x → (e : Envelope) → IsHeldIn x.held e → P e
  all_held x held (envelope.Letter l) h = held l.pair l.number l.message h
  all_held x held (envelope.Settle p n) h = absurd h

  -- so where all that arrives and all that is held has a property, what a deed takes in has it
  pub may_do_is : (arriving : List Envelope) → ((i : ℕ) (e : Envelope) → slice_get arriving i ≡ Some e → P e)
      → (event : Event C) (outcome : Outcome) (x : Kept C) (d : Deed C) → HeldIs x → MayDo s arriving event outcome x d
      → DeedIs P d
  may_do_is arriving all (Commit seat e c) (Committed r) x d held may = commit_is s P e seat c r x d may
  may_do_is arriving all (Commit seat e c) Missing x d held may = nothing_is s P d may.1
  may_do_is arriving all (Send limit) (Sent r) x d held may = nothing_is s P d may
  may_do_is arriving all (Tell p) (Told r) x d held may = nothing_is s P d may
  may_do_is arriving all (Take i) (Taken r) x d held may =
      ingest_is s P may.0 (all i (envelope.Letter may.0) may.1) r x d may.2
  may_do_is arriving all (Take i) (Settled r) x d held may =
      settle_is s P may.0 may.1 (all i (envelope.Settle may.0 may.1) may.2) r x d may.3
  may_do_is arriving all (Take i) Missing x d held may = nothing_is s P d may.1
  may_do_is arriving all (Drain p) (Drained r) x d held may = drain_is s P p r x d (all_held x held) may
  may_do_is arriving all Reopen (Reopened r) x d held may = nothing_is s P d may
  may_do_is arriving all _ _ x d held may = absurd may
