-- What holds of three services at the end of any steps, in each combination of what a stop may leave of their stores.
use Rattle.std.specs.Prelude.{◌≡◌, ℕ, suc, ◌<◌, List, Some, None, IsSome, Contains}
use Rattle.base.specs.declared.pair.Pair.{Pair}
use Rattle.envelope.specs.declared.message.Message.{Message}
use Rattle.envelope.specs.declared.message.Envelope.{Envelope}
use Rattle.envelope.specs.declared.message.Letter.{Letter}
use Rattle.activities.specs.Numbered.{nth, numbered}
use Rattle.keep.specs.Seen.{Seen}
use Rattle.laws_journals.specs.Journals.{sent_in, letters_in, handled_in}
use Rattle.laws_stores.specs.Good.{journals_of, settled_in, letters_held_by, IsGenuine, IsGood}
use Rattle.laws_stores.specs.Sight.{AllTables, MayLeave, OrderTables, StockTables, AccountTables}
use Rattle.laws_stores.specs.Sight.{AreClean, AreMatching}
use Rattle.laws_services.specs.Services.{Traffic, Services, sight_of}
use Rattle.laws_services.specs.Steps.{IsPathOfSteps}

-- a letter was handled by its receiver, or is held there
abbrev pub IsThere : AllTables → Letter → Type 0
IsThere t l = handled_in (journals_of t) l.pair < l.number
    → IsSome (letters_held_by t l.pair.to.kind l.pair l.number)

-- each letter of the pair that its sender sent, and doesn't mark as settled, was taken
abbrev pub AllTaken : Traffic → AllTables → Pair → Type 0
AllTaken traffic t p = (n : ℕ) (m : Message) → nth (sent_in (journals_of t) p) n ≡ Some m → settled_in t p < n
    → Contains traffic.taken (record { pair = p; number = n; message = m })

-- the next letter of the pair isn't held
abbrev pub HoldsNoNext : AllTables → Pair → Type 0
HoldsNoNext t p = letters_held_by t p.to.kind p (suc (handled_in (journals_of t) p)) ≡ None

-- all that was sent on the pair was handled, once each and in its order
abbrev pub AllHandled : AllTables → Pair → Type 0
AllHandled t p = letters_in (journals_of t) p ≡ numbered 0 (sent_in (journals_of t) p)

module _ {KO KS KA : Type 0} (orders : KO → Seen OrderTables) (stocks : KS → Seen StockTables)
    (accounts : KA → Seen AccountTables) where
  -- the services are good, all that was written is genuine, and what was taken is there, whatever a stop leaves
  pub record AreGoodServices (w : Services KO KS KA) : Type 0 where
    pub services : IsGood (sight_of orders stocks accounts w)
    pub written : (e : Envelope) → Contains w.traffic.written e → IsGenuine (sight_of orders stocks accounts w) e
    pub taken : (l : Letter) → Contains w.traffic.taken l → (t : AllTables)
        → MayLeave (sight_of orders stocks accounts w) t
        → IsThere t l

  -- Steps lead from good services, whose tables match their journals, to some of which no file is in doubt.
  pub record IsRun (first last : Services KO KS KA) : Type 0 where
    pub path : List (Services KO KS KA)
    pub steps : IsPathOfSteps orders stocks accounts first path last
    pub matching : AreMatching (sight_of orders stocks accounts first)
    pub good : AreGoodServices first
    pub clean : AreClean (sight_of orders stocks accounts last)
