-- Each step keeps a configuration good, and takes nothing away.
use Rattle.std.proofs.Common.{◌≤◌, List, [], ◌∷◌, refl, arith}
use Rattle.std.specs.Prelude.{Contains}
use Rattle.std.proofs.lemmas.List.Elements.{All-contains, All-from_recursion}
use Rattle.base.specs.declared.entity.Kind.{Kind}
use Rattle.base.specs.declared.entity.Kind.TheVariants.{Order, Stock, Account}
use Rattle.base.specs.declared.pair.Pair.{Pair}
use Rattle.envelope.specs.declared.message.Envelope.{Envelope}
use Rattle.activities.specs.Numbered.{numbered, IsPrefixOf}
use Rattle.trade.specs.Orders.{order_reactions}
use Rattle.trade.specs.Stocks.{stock_reactions}
use Rattle.trade.specs.Accounts.{account_reactions}
use Rattle.activities.proofs.Legal.{legal-none}
use Rattle.laws_journals.specs.Journals.{Journals, sent_in, letters_by}
use Rattle.laws_journals.specs.Envelopes.{IsAuthentic}
use Rattle.laws_journals.specs.Growth.{Grows}
use Rattle.laws_journals.specs.Steps.{Configuration, start, ConfigurationStep, Writes, Marks, Sends}
use Rattle.laws_journals.specs.Steps.{IsConfigurationPath, Reaches}
use Rattle.laws_journals.specs.Steps.{AreAuthentic, IsGoodConfiguration}
use Rattle.laws_journals.proofs.Growth.{adds-known, lawful-later, grows, grows-from, grows-same, grows_trans}
use Rattle.laws_journals.proofs.Growth.{authentic-later, settled-later}
use Rattle.laws_journals.proofs.Growth.{raised-handled, raised-up}

all_authentic-later : (js later : Journals) → Grows js later → (es : List Envelope) → AreAuthentic js es
    → AreAuthentic later es
all_authentic-later js later g [] h = tt
all_authentic-later js later g (e ∷ es) h = (authentic-later js later g e h.0, all_authentic-later js later g es h.1)

sent_authentic : (js : Journals) (es : List Envelope) → AreAuthentic js es → (e : Envelope) → Contains es e
    → IsAuthentic js e
sent_authentic js es h e there = All-contains (IsAuthentic js) es e (All-from_recursion (IsAuthentic js) es h) there

-- ---- one step

pub step_good : (old new : Configuration) → ConfigurationStep old new → IsGoodConfiguration old
    → IsGoodConfiguration new
step_good old new (Writes from settled sent) h =
    let adds = adds-known (Contains old.sent) (IsAuthentic old.journals) old.journals new.journals
    (sent_authentic old.journals old.sent h.authentic) from in
    let g = grows old.journals new.journals adds in
    record {
      lawful = lawful-later old.journals new.journals adds h.lawful;
      settled = rw settled (settled-later old.journals new.journals g old.settled h.settled);
      authentic = rw sent (all_authentic-later old.journals new.journals g old.sent h.authentic);
    }
step_good old new (Marks pair count among raises journals sent) h =
    let authentic = sent_authentic old.journals old.sent h.authentic _ among in
    record {
      lawful = rw journals h.lawful;
      settled = rw journals (raised-handled old.journals pair count old.settled new.settled authentic raises h.settled);
      authentic = rw (journals, sent) h.authentic;
    }
step_good old new (Sends envelope authentic e) h =
    rw e (record { lawful = h.lawful; settled = h.settled; authentic = (authentic, h.authentic) })

step_grows : (old new : Configuration) → ConfigurationStep old new → Grows old.journals new.journals
step_grows old new (Writes from settled sent) = grows-from (Contains old.sent) old.journals new.journals from
step_grows old new (Marks pair count among raises journals sent) = rw journals (grows-same old.journals)
step_grows old new (Sends envelope authentic e) = rw e (grows-same old.journals)

step_marks : (old new : Configuration) (pair : Pair) → ConfigurationStep old new → old.settled pair ≤ new.settled pair
step_marks old new pair (Writes from settled sent) = rw settled (omega arith)
step_marks old new pair (Marks of count among raises journals sent) =
    raised-up of pair count old.settled new.settled raises
step_marks old new pair (Sends envelope authentic e) = rw e (omega arith)

-- ---- many

path_good : (path : List Configuration) (old new : Configuration) → IsConfigurationPath old path new
    → IsGoodConfiguration old
    → IsGoodConfiguration new
path_good [] old new h good = rw h good
path_good (next ∷ path) old new h good = path_good path next new h.1 (step_good old next h.0 good)

pub reached_good : (old new : Configuration) → Reaches old new → IsGoodConfiguration old → IsGoodConfiguration new
reached_good old new h good = path_good h.0 old new h.1 good

path_grows : (path : List Configuration) (old new : Configuration) → IsConfigurationPath old path new
    → Grows old.journals new.journals
path_grows [] old new h = rw h (grows-same old.journals)
path_grows (next ∷ path) old new h =
    grows_trans old.journals next.journals new.journals (step_grows old next h.0) (path_grows path next new h.1)

pub reached_grows : (old new : Configuration) → Reaches old new → Grows old.journals new.journals
reached_grows old new h = path_grows h.0 old new h.1

path_marks : (path : List Configuration) (old new : Configuration) (pair : Pair) → IsConfigurationPath old path new
    → old.settled pair ≤ new.settled pair
path_marks [] old new pair h = rw h (omega arith)
path_marks (next ∷ path) old new pair h =
    let first = step_marks old next pair h.0 in
    let rest = path_marks path next new pair h.1 in
    omega arith

pub reached_marks : (old new : Configuration) (pair : Pair) → Reaches old new → old.settled pair ≤ new.settled pair
reached_marks old new pair h = path_marks h.0 old new pair h.1

-- ---- the beginning

pub start_good : IsGoodConfiguration start
start_good = record {
  lawful = record {
    legal = record {
      orders = legal-none order_reactions Order;
      stocks = legal-none stock_reactions Stock;
      accounts = legal-none account_reactions Account;
    };
    prefixes = λ pair. prefixes pair.to.kind pair;
  };
  settled = λ pair. omega arith;
  authentic = tt;
}
  where
    prefixes : (k : Kind) (pair : Pair)
        → IsPrefixOf (letters_by start.journals k pair) (numbered 0 (sent_in start.journals pair))
    prefixes Order pair = (_, refl)
    prefixes Stock pair = (_, refl)
    prefixes Account pair = (_, refl)
