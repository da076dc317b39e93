-- What frames write is true, where the tables stand by their block.
use Rattle.std.proofs.Common.{◌≡◌, inl, inr, ℕ, List, [], ◌∷◌, ◌++◌, Option, Some, None, sym, ap, ◌∙◌, subst, arith}
use Rattle.std.specs.Prelude.{Contains, option_to_list, Result}
use Rattle.std.proofs.lemmas.List.Elements.{Contains-push_cases, Contains-append_cases}
use Rattle.stomp_wire.specs.declared.fault.LinkFault.{LinkFault}
use Rattle.stomp_frame.specs.Frames.{Content}
use Rattle.stomp_frame.specs.declared.command.Command.{Command}
use Rattle.stomp_frame.specs.declared.command.Command.TheVariants.{Connect}
use Rattle.base.specs.declared.entity.Kind.{Kind}
use Rattle.envelope.specs.Reading.{read_envelope}
use Rattle.envelope.specs.declared.message.Envelope.{Envelope}
use Rattle.envelope.specs.declared.message.Envelope.TheVariants.{Letter, Settle}
use Rattle.activities.specs.Numbered.{IsPrefixOf}
use Rattle.activities.specs.Reaction.{Reactions}
use Rattle.activities.specs.Service.{Service}
use Rattle.activities.specs.Journal.{sent_of}
use Rattle.activities.specs.declared.input.JournalRow.{JournalRow}
use Rattle.activities.proofs.Journals.{sent_of-grows, handled_of-grows}
use Rattle.activities.proofs.Prefixes.{nth-prefix}
use Rattle.activities.proofs.Sameness.{either}
use Rattle.keep.specs.Tables.{Tables}
use Rattle.endpoint.specs.Deeds.{Kept, Deed}
use Rattle.laws_stores.specs.Writing.{IsTrueIn}
use Rattle.laws_stores.proofs.Doing.{did_sent, did_handled}
use Rattle.shared_endpoint.specs.History.{DidAll}
use Rattle.told_lock.specs.Rule.{Every}
use Rattle.told_lock.proofs.Views.{every_both, every_map}
use Rattle.service_workers.specs.Written.{HasWrittenIf, IsFree, IsOfSession, Speaks, StandsBy, came_of, frames_of}
use Rattle.service_workers.specs.Written.{connects, subscribes, subscribes_with, disconnects, of_session, refuses, unread}
use Rattle.service_workers.specs.Written.{sends, is_done, settles}
use Rattle.service_workers.specs.declared.conn.Conn.{Conn}
use Rattle.laws_services.proofs.Living.{none_is_there}
use Rattle.laws_lives.specs.Posts.{if_send, sent_in, envelopes_sent, frames_on, frames_on_all}
use Rattle.laws_lives.proofs.Sending.{only_that}

-- ---- what is true stays true

still_true : {S C : Type 0} (reactions : Reactions S C) (rows more : List (JournalRow C)) (e : Envelope)
    → IsTrueIn reactions rows e → IsTrueIn reactions (rows ++ more) e
still_true reactions rows more (Letter l) h =
    nth-prefix l.number l.message (sent_of reactions rows l.pair) (sent_of reactions (rows ++ more) l.pair)
    (sent_of-grows reactions rows more l.pair) h
still_true reactions rows more (Settle p n) h = let grows = handled_of-grows rows more p in omega (arith, h, grows)

true_later : {S C : Type 0} (reactions : Reactions S C) (rows later : List (JournalRow C)) (e : Envelope)
    → IsPrefixOf rows later → IsTrueIn reactions rows e → IsTrueIn reactions later e
true_later reactions rows later e begins h =
    subst (λ xs. IsTrueIn reactions xs e) begins.1 (still_true reactions rows begins.0 e h)

-- also after deeds, one after another
pub true_after : {S C : Type 0} (service : Service S C) (x y : Kept C) (deeds : List (Deed C)) → DidAll service x deeds y
    → (e : Envelope) → IsTrueIn service.reactions x.journal e → IsTrueIn service.reactions y.journal e
true_after service x y [] did e h = subst (λ (k : Kept _). IsTrueIn service.reactions k.journal e) (sym did) h
true_after service x y (deed ∷ deeds) did e h = true_after service did.0 y deeds did.2 e (by_one e h)
  where
    by_one : (d : Envelope) → IsTrueIn service.reactions x.journal d → IsTrueIn service.reactions did.0.journal d
    by_one (Letter l) was = nth-prefix l.number l.message (sent_of service.reactions x.journal l.pair)
        (sent_of service.reactions did.0.journal l.pair) (did_sent service x did.0 deed did.1 l.pair) was
    by_one (Settle p n) was = let more = did_handled service x did.0 deed did.1 p in omega (arith, was, more)

-- ---- frames

-- of each envelope that a frame writes this is so
abbrev pub Says : (Envelope → Type 0) → Content → Type 0
Says P f = (e : Envelope) → sent_in f ≡ Some e → P e

pub in_option : (found : Option Envelope) (e : Envelope) → Contains (option_to_list found) e → found ≡ Some e
in_option None e h = absurd (none_is_there e h)
in_option (Some d) e h = either (Contains-push_cases [] d e h) (λ no. absurd (none_is_there e no)) (λ same. ap Some same)

pub all_sent : (P : Envelope → Type 0) (frames : List Content) → Every (Says P) frames → (e : Envelope)
    → Contains (envelopes_sent frames) e → P e
all_sent P [] says e h = absurd (none_is_there e h)
all_sent P (f ∷ frames) says e h = either (Contains-append_cases (option_to_list (sent_in f)) (envelopes_sent frames) e h)
    (λ here. says.0 e (in_option (sent_in f) e here))
    (all_sent P frames says.1 e)

-- ---- blocks

none_is_sent : (P : Envelope → Type 0) (c : Command) (found : Option Envelope) → if_send c found ≡ None → (e : Envelope)
    → if_send c found ≡ Some e → P e
none_is_sent P c found none e some = absurd (let no : None ≡ Some e = sym none ∙ some in cc)

connect_none : (f : Content) → f.command ≡ Connect → sent_in f ≡ None
connect_none f is = ap (λ x. if_send x (read_envelope f.headers f.body)) is

session_says : (mine : Kind) (P : Envelope → Type 0) (block : List Content) → IsOfSession mine block → Every (Says P) block
session_says mine P _ (connects f is) =
    (none_is_sent P f.command (read_envelope f.headers f.body) (connect_none f is), tt)
session_says mine P _ subscribes = (λ e sent. absurd cc, tt)
session_says mine P _ (subscribes_with prefetch) = (λ e sent. absurd cc, tt)
session_says mine P _ (disconnects receipt) = (λ e sent. absurd cc, tt)

free_says : (mine : Kind) (came : Content → Type 0) (P : Envelope → Type 0) (block : List Content) → IsFree mine came block
    → Every (Says P) block
free_says mine came P _ (of_session block is) = session_says mine P block is
free_says mine came P _ (refuses message whole at) = (λ e sent. absurd cc, tt)
free_says mine came P _ (unread message whole at none) = (λ e sent. absurd cc, tt)

module _ {S C : Type 0} (service : Service S C) where
  spoken_says : (came : Content → Type 0) (x : Kept C) (block : List Content) → Speaks service came x block
      → Every (Says (IsTrueIn service.reactions x.journal)) block
  spoken_says came x _ (sends l receipt so) = (
    λ e sent. subst (IsTrueIn service.reactions x.journal) (sym (only_that (Letter l) e _ sent)) so,
    tt,
  )
  spoken_says came x _ (is_done message e at carried done) = (λ d sent. absurd cc, tt)
  spoken_says came x _ (settles message transaction l n at carried handled upto) = (
    λ e sent. absurd cc,
    (
      λ e sent. absurd cc,
      (
        λ e sent. subst (IsTrueIn service.reactions x.journal) (sym (only_that (Settle l.pair n) e _ sent)) upto,
        (λ e sent. absurd cc, tt),
      ),
    ),
  )

  -- what a block writes by which the tables stand is true by their journal
  pub stood_says : (t : Tables S C) (came : Content → Type 0) (block : List Content) → StandsBy service t came block
      → Every (Says (IsTrueIn service.reactions t.journal)) block
  stood_says t came block (inl free) = free_says service.kind came (IsTrueIn service.reactions t.journal) block free
  stood_says t came block (inr by) = every_map (Says (IsTrueIn service.reactions by.0.journal))
      (Says (IsTrueIn service.reactions t.journal)) block
      (λ f says e sent. true_later service.reactions by.0.journal t.journal e by.1 (says e sent))
      (spoken_says came by.0 block by.3)

  blocks_say : (t : Tables S C) (came : Content → Type 0) (blocks : List (List Content)) → Every (StandsBy service t came) blocks
      → Every (Says (IsTrueIn service.reactions t.journal)) (frames_of blocks)
  blocks_say t came [] all = tt
  blocks_say t came (block ∷ blocks) all = every_both (Says (IsTrueIn service.reactions t.journal)) block (frames_of blocks)
      (stood_says t came block all.0) (blocks_say t came blocks all.1)

  -- ---- connections

  module _ {L : Type 0} (put_gives : L → List ℕ → Result ℕ LinkFault → L → Type 0)
      (take_gives : L → ℕ → Result (List ℕ) LinkFault → L → Type 0) (t : Tables S C) where
    one_says : (c : Option (Conn L)) (written : HasWrittenIf put_gives take_gives (StandsBy service t) c)
        → Every (Says (IsTrueIn service.reactions t.journal)) (frames_on put_gives take_gives (StandsBy service t) c written)
    one_says None written = tt
    one_says (Some c) written = blocks_say t (came_of put_gives take_gives c) written.blocks written.allowed

    all_say : (conns : List (Option (Conn L)))
        (written : Every (HasWrittenIf put_gives take_gives (StandsBy service t)) conns)
        → Every (Says (IsTrueIn service.reactions t.journal))
        (frames_on_all put_gives take_gives (StandsBy service t) conns written)
    all_say [] written = tt
    all_say (c ∷ conns) written = every_both (Says (IsTrueIn service.reactions t.journal))
        (frames_on put_gives take_gives (StandsBy service t) c written.0)
        (frames_on_all put_gives take_gives (StandsBy service t) conns written.1)
        (one_says c written.0) (all_say conns written.1)

    -- what connections have written by which the tables stand is true by their journal
    pub written_true : (conns : List (Option (Conn L)))
        (written : Every (HasWrittenIf put_gives take_gives (StandsBy service t)) conns) → (e : Envelope)
        → Contains (envelopes_sent (frames_on_all put_gives take_gives (StandsBy service t) conns written)) e
        → IsTrueIn service.reactions t.journal e
    written_true conns written = all_sent (IsTrueIn service.reactions t.journal)
        (frames_on_all put_gives take_gives (StandsBy service t) conns written) (all_say conns written)
