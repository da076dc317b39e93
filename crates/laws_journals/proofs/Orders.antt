-- What an order has told its partners, by its status and what it heard of them.
use Rattle.std.proofs.Common.{◌≡◌, ℕ, List, [], ◌∷◌, ◌++◌, Bool, true, false, ◌⊎◌, refl, arith, sym, Option, Some, None}
use Rattle.std.proofs.Common.{inl, inr, subst}
use Rattle.std.specs.Prelude.{if◌then◌else◌, ◌&&◌, not, filter, ⊤}
use Rattle.std.proofs.lemmas.List.{append-nil}
use Rattle.envelope.specs.declared.message.Message.{Message}
use Rattle.envelope.specs.declared.message.Message.TheVariants.{Request, Tentative, Refused, Confirm, Cancel}
use Rattle.activities.specs.declared.phase.Phase.{Phase}
use Rattle.trade.specs.declared.status.Status.{Status}
use Rattle.trade.specs.declared.status.Status.TheVariants.{Open, Confirmed, Cancelled}
use Rattle.base.specs.Entity.{Entity}
use Rattle.base.specs.Order.{same_entity}
use Rattle.trade.specs.declared.commands.OrderCommand.{OrderCommand}
use Rattle.trade.specs.declared.commands.OrderCommand.TheVariants.{Place, CancelOrder}
use Rattle.activities.specs.declared.input.Input.{Input}
use Rattle.activities.specs.declared.input.Input.TheVariants.{FromSeat, FromEntity}
use Rattle.trade.specs.declared.items.Item.{Item}
use Rattle.activities.specs.declared.outs.Out.{Out}
use Rattle.trade.specs.Items.{are_lines, are_numbers}
use Rattle.activities.specs.Reaction.{after, course, state, messages_to, letters_from}
use Rattle.base.specs.Number.{is_number}
use Rattle.trade.specs.Orders.{Partner, OrderState, is_open, is_tentative, awaits, with_phase, all_tentative, all_in}
use Rattle.trade.specs.Orders.{to_all}
use Rattle.trade.specs.Orders.{to_others, requests, placed, partners_of, tentative_from, refused_by, on_order_message}
use Rattle.trade.specs.Orders.{order_reactions}
use Rattle.trade.specs.Lines.{Line}
use Rattle.laws_journals.specs.Agreement.{IsAmong, IsPartner, IsConfirmed, IsAskedFor, IsAsAsked, IsRefusing}
use Rattle.laws_journals.specs.Agreement.{HasRefused}
use Rattle.activities.proofs.Sameness.{TellsSame, same_entity-tells, same_entity-same, either}
use Rattle.activities.proofs.Reactions.{holds_along, messages_to-append, letters_from-append}
use Rattle.laws_journals.proofs.Partners.{Heard, Told, heard-left, heard-right}

-- each of them
abbrev pub Each : (Out → Type 0) → List Out → Type 0
Each P [] = ⊤
Each P (out ∷ outs) = P out × Each P outs

each-append : (P : Out → Type 0) (xs ys : List Out) → Each P xs → Each P ys → Each P (xs ++ ys)
each-append P [] ys h k = k
each-append P (x ∷ xs) ys h k = (h.0, each-append P xs ys h.1 k)

each-map : (P Q : Out → Type 0) → ((out : Out) → P out → Q out) → (xs : List Out) → Each P xs → Each Q xs
each-map P Q f [] h = tt
each-map P Q f (x ∷ xs) h = (f x h.0, each-map P Q f xs h.1)

-- it goes to this partner, and asks, where it asks, for what that is to give
abbrev pub IsFor : Out → Partner → Type 0
IsFor out p = (out.receiver ≡ p.entity) × ((n : ℕ) → out.message ≡ Request n → n ≡ p.n)

-- it is for one of these
abbrev pub IsForOne : Out → List Partner → Type 0
IsForOne out [] = ⊥
IsForOne out (p ∷ ps) = IsFor out p ⊎ IsForOne out ps

abbrev pub ToPartners : List Partner → List Out → Type 0
ToPartners ps outs = Each (λ out. IsForOne out ps) outs

for-asked : (out : Out) (n : ℕ) → out.message ≡ Request n → (ps : List Partner) → IsForOne out ps
    → IsAskedFor out.receiver n ps
for-asked out n is [] h = h
for-asked out n is (p ∷ ps) (inl h) = inl (h.0, h.1 n is)
for-asked out n is (p ∷ ps) (inr h) = inr (for-asked out n is ps h)

abbrev pub Never : Message → List Out → Type 0
Never m outs = Each (λ out. out.message ≡ m → ⊥) outs

-- each partner whose phase is tentative was heard
abbrev pub TentativeHeard : {C : Type 0} → List (Input C) → List Partner → Type 0
TentativeHeard inputs [] = ⊤
TentativeHeard inputs (p ∷ ps) =
    (is_tentative p.phase ≡ true → Heard Tentative (letters_from p.entity inputs)) × TentativeHeard inputs ps

-- each partner was
abbrev pub AllHeard : {C : Type 0} → List (Input C) → List Partner → Type 0
AllHeard inputs [] = ⊤
AllHeard inputs (p ∷ ps) = Heard Tentative (letters_from p.entity inputs) × AllHeard inputs ps

-- each partner that refused was never told to cancel
abbrev pub RefusedLeft : List Partner → List Out → Type 0
RefusedLeft [] outs = ⊤
RefusedLeft (p ∷ ps) outs =
    (p.phase ≡ Phase.Refused → Told Cancel (messages_to p.entity outs) → ⊥) × RefusedLeft ps outs

abbrev pub ByStatus : {C : Type 0} → Status → List Partner → List (Input C) → List Out → Type 0
ByStatus Open ps inputs outs = Never Confirm outs × Never Cancel outs × TentativeHeard inputs ps
ByStatus Confirmed ps inputs outs = Never Cancel outs × AllHeard inputs ps
ByStatus Cancelled ps inputs outs = Never Confirm outs × RefusedLeft ps outs

abbrev pub ByOrder : {C : Type 0} → Option OrderState → List (Input C) → List Out → Type 0
ByOrder None inputs outs = outs ≡ []
ByOrder (Some o) inputs outs = ToPartners o.partners outs × ByStatus o.status o.partners inputs outs

-- more inputs

heard-more : {C : Type 0} (m : Message) (e : Entity) (inputs more : List (Input C)) → Heard m (letters_from e inputs)
    → Heard m (letters_from e (inputs ++ more))
heard-more m e inputs more h = rw letters_from-append (heard-left m (letters_from e inputs) (letters_from e more) h)

tentative_heard-more : {C : Type 0} (inputs more : List (Input C)) (ps : List Partner) → TentativeHeard inputs ps
    → TentativeHeard (inputs ++ more) ps
tentative_heard-more inputs more [] h = tt
tentative_heard-more inputs more (p ∷ ps) h =
    ((λ t. heard-more Tentative p.entity inputs more (h.0 t)), tentative_heard-more inputs more ps h.1)

all_heard-more : {C : Type 0} (inputs more : List (Input C)) (ps : List Partner) → AllHeard inputs ps
    → AllHeard (inputs ++ more) ps
all_heard-more inputs more [] h = tt
all_heard-more inputs more (p ∷ ps) h =
    (heard-more Tentative p.entity inputs more h.0, all_heard-more inputs more ps h.1)

by_status-more : {C : Type 0} (s : Status) (ps : List Partner) (inputs more : List (Input C)) (outs : List Out)
    → ByStatus s ps inputs outs
    → ByStatus s ps (inputs ++ more) outs
by_status-more Open ps inputs more outs h = (h.0, h.1, tentative_heard-more inputs more ps h.2)
by_status-more Confirmed ps inputs more outs h = (h.0, all_heard-more inputs more ps h.1)
by_status-more Cancelled ps inputs more outs h = h

by_order-more : {C : Type 0} (o : Option OrderState) (inputs more : List (Input C)) (outs : List Out)
    → ByOrder o inputs outs
    → ByOrder o (inputs ++ more) outs
by_order-more None inputs more outs h = h
by_order-more (Some o) inputs more outs h = (h.0, by_status-more o.status o.partners inputs more outs h.1)

-- changes of phases

for-with_phase : (s : Entity) (phase : Phase) (ps : List Partner) (out : Out) → IsForOne out ps
    → IsForOne out (with_phase s phase ps)
for-with_phase s phase [] out h = h
for-with_phase s phase (p ∷ ps) out h = by_case (same_entity s p.entity) h (for-with_phase s phase ps out)
  where
    by_case : (t : Bool) → IsForOne out (p ∷ ps) → (IsForOne out ps → IsForOne out (with_phase s phase ps))
        → IsForOne out (if t then record p { phase = phase } ∷ ps else p ∷ with_phase s phase ps)
    by_case true h f = h
    by_case false (inl x) f = inl x
    by_case false (inr x) f = inr (f x)

for-all_in : (phase : Phase) (ps : List Partner) (out : Out) → IsForOne out ps → IsForOne out (all_in phase ps)
for-all_in phase [] out h = h
for-all_in phase (p ∷ ps) out (inl x) = inl x
for-all_in phase (p ∷ ps) out (inr x) = inr (for-all_in phase ps out x)

tentative_marked : {C : Type 0} (inputs : List (Input C)) (s : Entity) (ps : List Partner)
    → Heard Tentative (letters_from s inputs)
    → TentativeHeard inputs ps → TentativeHeard inputs (with_phase s Phase.Tentative ps)
tentative_marked inputs s [] here h = tt
tentative_marked inputs s (p ∷ ps) here h =
    by_case (tentative_marked inputs s ps here h.1) (same_entity-tells s p.entity)
  where
    by_case : TentativeHeard inputs (with_phase s Phase.Tentative ps) → TellsSame s p.entity (same_entity s p.entity)
        → TentativeHeard inputs (with_phase s Phase.Tentative (p ∷ ps))
    by_case rest (inl e) = rw e.0 ((λ _. rw (← e.1) here), h.1)
    by_case rest (inr e) = rw e.0 (h.0, rest)

all_tentative-heard : {C : Type 0} (inputs : List (Input C)) (ps : List Partner) → all_tentative ps ≡ true
    → TentativeHeard inputs ps
    → AllHeard inputs ps
all_tentative-heard inputs [] t h = tt
all_tentative-heard inputs (p ∷ ps) t h =
    let both : (is_tentative p.phase ≡ true) × (all_tentative ps ≡ true) = grind arith in
    (h.0 both.0, all_tentative-heard inputs ps both.1 h.1)

all_heard-unmarked : {C : Type 0} (inputs : List (Input C)) (s : Entity) (phase : Phase) (ps : List Partner)
    → AllHeard inputs (with_phase s phase ps) → AllHeard inputs ps
all_heard-unmarked inputs s phase [] h = tt
all_heard-unmarked inputs s phase (p ∷ ps) h = by_case (same_entity s p.entity) h (all_heard-unmarked inputs s phase ps)
  where
    by_case : (t : Bool) → AllHeard inputs (if t then record p { phase = phase } ∷ ps else p ∷ with_phase s phase ps)
        → (AllHeard inputs (with_phase s phase ps) → AllHeard inputs ps) → AllHeard inputs (p ∷ ps)
    by_case true h f = h
    by_case false h f = (h.0, f h.1)

all_heard-all_in : {C : Type 0} (inputs : List (Input C)) (phase : Phase) (ps : List Partner) → AllHeard inputs ps
    → AllHeard inputs (all_in phase ps)
all_heard-all_in inputs phase [] h = tt
all_heard-all_in inputs phase (p ∷ ps) h = (h.0, all_heard-all_in inputs phase ps h.1)

-- what is sent

partners-more : (p : Partner) (ps : List Partner) (outs : List Out) → ToPartners ps outs → ToPartners (p ∷ ps) outs
partners-more p ps outs h = each-map _ _ (λ out x. inr x) outs h

-- a message that asks for nothing
abbrev AsksNothing : Message → Type 0
AsksNothing m = (n : ℕ) → m ≡ Request n → ⊥

to_all-partners : (m : Message) (ps : List Partner) → AsksNothing m → ToPartners ps (to_all m ps)
to_all-partners m [] none = tt
to_all-partners m (p ∷ ps) none =
    (inl (refl, λ n e. absurd (none n e)), partners-more p ps (to_all m ps) (to_all-partners m ps none))

-- the partners but one
abbrev others : Entity → List Partner → List Partner
others s ps = filter (λ (p : Partner). not (same_entity s p.entity)) ps

to_others-partners : (s : Entity) (m : Message) (ps : List Partner) → AsksNothing m
    → ToPartners ps (to_others s m ps)
to_others-partners s m [] none = tt
to_others-partners s m (p ∷ ps) none =
    by_case (same_entity s p.entity) (partners-more p ps (to_others s m ps) (to_others-partners s m ps none))
  where
    by_case : (t : Bool) → ToPartners (p ∷ ps) (to_others s m ps)
        → ToPartners (p ∷ ps) (to_all m (if not t then p ∷ others s ps else others s ps))
    by_case true h = h
    by_case false h = (inl (refl, λ n e. absurd (none n e)), h)

to_all-never : (m k : Message) (ps : List Partner) → (m ≡ k → ⊥) → Never k (to_all m ps)
to_all-never m k [] ne = tt
to_all-never m k (p ∷ ps) ne = (ne, to_all-never m k ps ne)

to_others-never : (s : Entity) (m k : Message) (ps : List Partner) → (m ≡ k → ⊥) → Never k (to_others s m ps)
to_others-never s m k [] ne = tt
to_others-never s m k (p ∷ ps) ne = by_case (same_entity s p.entity) (to_others-never s m k ps ne)
  where
    by_case : (t : Bool) → Never k (to_others s m ps)
        → Never k (to_all m (if not t then p ∷ others s ps else others s ps))
    by_case true h = h
    by_case false h = (ne, h)

requests-partners : (ps : List Partner) → ToPartners ps (requests ps)
requests-partners [] = tt
requests-partners (p ∷ ps) = (inl (refl, λ n e. cc), partners-more p ps (requests ps) (requests-partners ps))

requests-never : (k : Message) (ps : List Partner) → ((n : ℕ) → Request n ≡ k → ⊥) → Never k (requests ps)
requests-never k [] ne = tt
requests-never k (p ∷ ps) ne = (ne p.n, requests-never k ps ne)

-- what one receiver was sent

told-each : (P : Out → Type 0) (r : Entity) (m : Message) (outs : List Out) → Each P outs → Told m (messages_to r outs)
    → (out : Out) × P out × (r ≡ out.receiver) × (out.message ≡ m)
told-each P r m [] h t = absurd t
told-each P r m (x ∷ xs) h t = by_case (same_entity-tells r x.receiver) (told-each P r m xs h.1)
  where
    by_case : TellsSame r x.receiver (same_entity r x.receiver)
        → (Told m (messages_to r xs) → (out : Out) × P out × (r ≡ out.receiver) × (out.message ≡ m))
        → (out : Out) × P out × (r ≡ out.receiver) × (out.message ≡ m)
    by_case (inl e) f =
        let k : (x.message ≡ m) ⊎ Told m (messages_to r xs) = rw e.0 at t in either k (λ is. (x, h.0, e.1, is)) f
    by_case (inr e) f = let k : Told m (messages_to r xs) = rw e.0 at t in f k

pub told-never : (r : Entity) (m : Message) (outs : List Out) → Never m outs → Told m (messages_to r outs) → ⊥
told-never r m outs h t = let w = told-each (λ out. out.message ≡ m → ⊥) r m outs h t in w.1 w.3

others_apart : (s : Entity) (m : Message) (ps : List Partner) → messages_to s (to_others s m ps) ≡ []
others_apart s m [] = refl
others_apart s m (p ∷ ps) = by_case (same_entity s p.entity) refl (others_apart s m ps)
  where
    by_case : (t : Bool) → same_entity s p.entity ≡ t → messages_to s (to_others s m ps) ≡ []
        → messages_to s (to_others s m (p ∷ ps)) ≡ []
    by_case true e h = rw e h
    by_case false e h = rw (e, e) h

refused-none : (ps : List Partner) (outs : List Out) → RefusedLeft (all_in Phase.Cancelled ps) outs
refused-none [] outs = tt
refused-none (p ∷ ps) outs = ((λ e. absurd (cc)), refused-none ps outs)

refused-one : (s : Entity) (ps : List Partner) (outs : List Out) → (Told Cancel (messages_to s outs) → ⊥)
    → RefusedLeft (with_phase s Phase.Refused (all_in Phase.Cancelled ps)) outs
refused-one s [] outs h = tt
refused-one s (p ∷ ps) outs h = by_case (same_entity-tells s p.entity) (refused-one s ps outs h)
  where
    by_case : TellsSame s p.entity (same_entity s p.entity)
        → RefusedLeft (with_phase s Phase.Refused (all_in Phase.Cancelled ps)) outs
        → RefusedLeft (with_phase s Phase.Refused (all_in Phase.Cancelled (p ∷ ps))) outs
    by_case (inl e) rest = rw e.0 ((λ _. rw (← e.1) h), refused-none ps outs)
    by_case (inr e) rest = rw e.0 ((λ x. absurd (cc)), rest)

-- the reactions

abbrev AllRequested : List Partner → Type 0
AllRequested [] = ⊤
AllRequested (p ∷ ps) = (p.phase ≡ Phase.Requested) × AllRequested ps

-- after an answer, from what was sent before
abbrev Keeps : List (Input OrderCommand) → List Out → Option OrderState × List Out → Type 0
Keeps inputs outs done = ByOrder done.0 inputs (outs ++ done.1)

unchanged : (inputs : List (Input OrderCommand)) (outs : List Out) (o : Option OrderState) → ByOrder o inputs outs
    → Keeps inputs outs (o, [])
unchanged inputs outs o h = rw append-nil h

none_requested : (inputs : List (Input OrderCommand)) (ps : List Partner) → AllRequested ps → TentativeHeard inputs ps
none_requested inputs [] h = tt
none_requested inputs (p ∷ ps) h =
    ((λ t. let e : p.phase ≡ Phase.Requested = h.0 in absurd (grind arith)), none_requested inputs ps h.1)

placed_keeps : (inputs : List (Input OrderCommand)) (outs : List Out) (ps : List Partner) → AllRequested ps → outs ≡ []
    → Keeps inputs outs (placed ps)
placed_keeps inputs outs ps r e = rw e (
  requests-partners ps,
  (requests-never Confirm ps (λ n x. cc), requests-never Cancel ps (λ n x. cc), none_requested inputs ps r),
)

is_open-is : (s : Status) → is_open s ≡ true → s ≡ Open
is_open-is Open h = refl
is_open-is Confirmed h = absurd (cc)
is_open-is Cancelled h = absurd (cc)

-- what is known of an open order
opened : (o : OrderState) (inputs : List (Input OrderCommand)) (outs : List Out) → is_open o.status ≡ true
    → ByOrder (Some o) inputs outs
    → ToPartners o.partners outs × ByStatus Open o.partners inputs outs
opened o inputs outs e h = (h.0, subst (λ s. ByStatus s o.partners inputs outs) (is_open-is o.status e) h.1)

cancelled_keeps : (inputs : List (Input OrderCommand)) (outs : List Out) (o : OrderState) → is_open o.status ≡ true
    → ByOrder (Some o) inputs outs
    → Keeps inputs outs (
      Some (record { status = Cancelled; partners = all_in Phase.Cancelled o.partners }),
      to_all Cancel o.partners,
    )
cancelled_keeps inputs outs o e h =
    let k = opened o inputs outs e h in (
      each-append _ outs _ (each-map _ _ (for-all_in Phase.Cancelled o.partners) outs k.0)
          (each-map _ _ (for-all_in Phase.Cancelled o.partners) (to_all Cancel o.partners)
          (to_all-partners Cancel o.partners (λ n e. cc))),
      (
        each-append _ outs _ k.1.0 (to_all-never Cancel Confirm o.partners (λ x. cc)),
        refused-none o.partners (outs ++ to_all Cancel o.partners),
      ),
    )

tentative_keeps : (inputs : List (Input OrderCommand)) (outs : List Out) (o : OrderState) (s : Entity)
    → is_open o.status ≡ true
    → Heard Tentative (letters_from s inputs) → ByOrder (Some o) inputs outs
    → Keeps inputs outs (tentative_from o s)
tentative_keeps inputs outs o s e here h = by_case (all_tentative (with_phase s Phase.Tentative o.partners)) refl
  where
    k : ToPartners o.partners outs × ByStatus Open o.partners inputs outs
    k = opened o inputs outs e h

    marked : TentativeHeard inputs (with_phase s Phase.Tentative o.partners)
    marked = tentative_marked inputs s o.partners here k.1.2

    by_case : (t : Bool) → all_tentative (with_phase s Phase.Tentative o.partners) ≡ t
        → Keeps inputs outs (tentative_from o s)
    by_case true t = rw t (
      each-append _ outs _ (each-map _ _ (for-all_in Phase.Confirmed o.partners) outs k.0)
          (each-map _ _ (for-all_in Phase.Confirmed o.partners) (to_all Confirm o.partners)
          (to_all-partners Confirm o.partners (λ n e. cc))),
      (
        each-append _ outs _ k.1.1 (to_all-never Confirm Cancel o.partners (λ x. cc)),
        all_heard-all_in inputs Phase.Confirmed o.partners
            (all_heard-unmarked inputs s Phase.Tentative o.partners
            (all_tentative-heard inputs (with_phase s Phase.Tentative o.partners) t marked)),
      ),
    )
    by_case false t = rw (t, append-nil) (
      each-map _ _ (for-with_phase s Phase.Tentative o.partners) outs k.0,
      subst (λ z. ByStatus z (with_phase s Phase.Tentative o.partners) inputs outs) (sym (is_open-is o.status e))
          (k.1.0, k.1.1, marked),
    )

refused_keeps : (inputs : List (Input OrderCommand)) (outs : List Out) (o : OrderState) (s : Entity)
    → is_open o.status ≡ true
    → ByOrder (Some o) inputs outs → Keeps inputs outs (refused_by o s)
refused_keeps inputs outs o s e h =
    let k = opened o inputs outs e h in
    let f = λ (out : Out) (x : IsForOne out o.partners). for-with_phase s Phase.Refused
    (all_in Phase.Cancelled o.partners) out (for-all_in Phase.Cancelled o.partners out x) in (
      each-append _ outs _ (each-map _ _ f outs k.0)
          (each-map _ _ f (to_others s Cancel o.partners) (to_others-partners s Cancel o.partners (λ n e. cc))),
      (
        each-append _ outs _ k.1.0 (to_others-never s Cancel Confirm o.partners (λ x. cc)),
        refused-one s o.partners (outs ++ to_others s Cancel o.partners)
            (λ t. told-never s Cancel outs k.1.1 (rw (messages_to-append, others_apart s Cancel o.partners, append-nil)
            at t)),
      ),
    )

message_keeps : (inputs : List (Input OrderCommand)) (outs : List Out) (o : Option OrderState) (s : Entity) (n : ℕ)
    (m : Message)
    → ByOrder o inputs outs
    → Keeps (inputs ++ FromEntity s n m ∷ []) outs (on_order_message o s m)
message_keeps inputs outs None s n m h = rw append-nil h
message_keeps inputs outs (Some o) s n m h = by_message m refl
  where
    more : ByOrder (Some o) (inputs ++ FromEntity s n m ∷ []) outs
    more = by_order-more (Some o) inputs (FromEntity s n m ∷ []) outs h

    same : Keeps (inputs ++ FromEntity s n m ∷ []) outs (Some o, [])
    same = unchanged (inputs ++ FromEntity s n m ∷ []) outs (Some o) more

    one : List (Input OrderCommand)
    one = FromEntity s n m ∷ []

    tentative : m ≡ Tentative → (t : Bool) → (is_open o.status && awaits s o.partners) ≡ t
        → Keeps (inputs ++ FromEntity s n m ∷ []) outs (if t then tentative_from o s else (Some o, []))
    tentative is true e =
        let unended : is_open o.status ≡ true = grind arith in
        let heard : Heard Tentative (letters_from s one) = rw (same_entity-same s) (inl is) in
        tentative_keeps (inputs ++ one) outs o s unended
        (rw letters_from-append (heard-right Tentative (letters_from s inputs) (letters_from s one) heard)) more
    tentative is false e = same

    refused : (t : Bool) → (is_open o.status && awaits s o.partners) ≡ t
        → Keeps (inputs ++ FromEntity s n m ∷ []) outs (if t then refused_by o s else (Some o, []))
    refused true e =
        let unended : is_open o.status ≡ true = grind arith in
        refused_keeps (inputs ++ one) outs o s unended more
    refused false e = same

    by_message : (k : Message) → m ≡ k → Keeps (inputs ++ FromEntity s n m ∷ []) outs (on_order_message (Some o) s k)
    by_message Tentative is = tentative is _ refl
    by_message Refused is = refused _ refl
    by_message (Request x) is = same
    by_message Confirm is = same
    by_message Cancel is = same

-- the partners of a new order are asked
all_requested : (is : List Item) (account : List ℕ) (amount : ℕ) → AllRequested (partners_of is account amount)
all_requested [] account amount = (refl, tt)
all_requested (i ∷ is) account amount = (refl, all_requested is account amount)

-- a command's answer, which may be a refusal
command_keeps : (inputs : List (Input OrderCommand)) (at : Option OrderState × List Out) (seat : ℕ) (c : OrderCommand)
    → ByOrder at.0 inputs at.1
    → ByOrder (after order_reactions at (FromSeat seat c)).0 (inputs ++ FromSeat seat c ∷ [])
    (after order_reactions at (FromSeat seat c)).1
command_keeps inputs (o, outs) seat c h = by_state o c (by_order-more o inputs (FromSeat seat c ∷ []) outs h)
  where
    now : List (Input OrderCommand)
    now = inputs ++ FromSeat seat c ∷ []

    by_state : (o : Option OrderState) (k : OrderCommand) → ByOrder o now outs
        → ByOrder (after order_reactions (o, outs) (FromSeat seat k)).0 now
        (after order_reactions (o, outs) (FromSeat seat k)).1
    by_state None (Place is account amount) h = by_case (are_lines is) (are_numbers is && is_number amount) refl refl
      where
        by_case : (t u : Bool) → are_lines is ≡ t → (are_numbers is && is_number amount) ≡ u
            → ByOrder (after order_reactions (None, outs) (FromSeat seat (Place is account amount))).0 now
            (after order_reactions (None, outs) (FromSeat seat (Place is account amount))).1
        by_case false u e f = rw e h
        by_case true false e f = rw (e, f) h
        by_case true true e f =
            rw (e, f) (placed_keeps now outs (partners_of is account amount) (all_requested is account amount) h)
    by_state None CancelOrder h = h
    by_state (Some o) (Place is account amount) h = h
    by_state (Some o) CancelOrder h = by_case (is_open o.status) refl
      where
        by_case : (t : Bool) → is_open o.status ≡ t
            → ByOrder (after order_reactions (Some o, outs) (FromSeat seat CancelOrder)).0 now
            (after order_reactions (Some o, outs) (FromSeat seat CancelOrder)).1
        by_case true e = rw e (cancelled_keeps now outs o e h)
        by_case false e = rw e h

order_step : (inputs : List (Input OrderCommand)) (i : Input OrderCommand) (at : Option OrderState × List Out)
    → ByOrder at.0 inputs at.1
    → ByOrder (after order_reactions at i).0 (inputs ++ i ∷ []) (after order_reactions at i).1
order_step inputs (FromSeat seat c) at h = command_keeps inputs at seat c h
order_step inputs (FromEntity s n m) at h = message_keeps inputs at.1 at.0 s n m h

pub order_tells : (inputs : List (Input OrderCommand))
    → ByOrder (state order_reactions inputs) inputs (course order_reactions inputs).1
order_tells inputs = holds_along order_reactions (λ xs at. ByOrder at.0 xs at.1) refl order_step inputs

-- who is told to give something is a partner that is asked for so much
pub told-asked : {C : Type 0} (o : Option OrderState) (inputs : List (Input C)) (outs : List Out) (r : Entity)
    (l : Line)
    → ByOrder o inputs outs → Told (Request l.n) (messages_to r outs) → IsAsAsked o r (Some l)
told-asked None inputs outs r l h t = absurd (rw h at t)
told-asked (Some o) inputs outs r l h t =
    let w = told-each (λ out. IsForOne out o.partners) r (Request l.n) outs h.0 t in
    rw w.2 (for-asked w.0 l.n w.3 o.partners w.1)

-- each partner of a confirmed order was heard, and none is told to cancel
pub record Agreed {C : Type 0} (o : Option OrderState) (inputs : List (Input C)) (outs : List Out) : Type 0 where
  pub heard : (r : Entity) → IsPartner o r → Heard Tentative (letters_from r inputs)
  pub never : (r : Entity) → Told Cancel (messages_to r outs) → ⊥

all_heard-among : {C : Type 0} (inputs : List (Input C)) (r : Entity) (ps : List Partner) → AllHeard inputs ps
    → IsAmong r ps
    → Heard Tentative (letters_from r inputs)
all_heard-among inputs r [] h a = absurd a
all_heard-among inputs r (p ∷ ps) h (inl e) = rw e h.0
all_heard-among inputs r (p ∷ ps) h (inr a) = all_heard-among inputs r ps h.1 a

-- a partner is told to confirm by a confirmed order alone
confirmed_by : {C : Type 0} (s : Status) (ps : List Partner) (inputs : List (Input C)) (outs : List Out) (r : Entity)
    → ByStatus s ps inputs outs
    → Told Confirm (messages_to r outs) → s ≡ Confirmed
confirmed_by Open ps inputs outs r h t = absurd (told-never r Confirm outs h.0 t)
confirmed_by Confirmed ps inputs outs r h t = refl
confirmed_by Cancelled ps inputs outs r h t = absurd (told-never r Confirm outs h.0 t)

pub confirming : {C : Type 0} (o : Option OrderState) (inputs : List (Input C)) (outs : List Out) (r : Entity)
    → ByOrder o inputs outs
    → Told Confirm (messages_to r outs) → IsConfirmed o
confirming None inputs outs r h t = absurd (rw h at t)
confirming (Some o) inputs outs r h t = confirmed_by o.status o.partners inputs outs r h.1 t

pub agreed : {C : Type 0} (o : Option OrderState) (inputs : List (Input C)) (outs : List Out) → ByOrder o inputs outs
    → IsConfirmed o → Agreed o inputs outs
agreed None inputs outs h is = absurd is
agreed (Some o) inputs outs h is =
    let a : ByStatus Confirmed o.partners inputs outs =
    subst (λ s. ByStatus s o.partners inputs outs) is h.1 in
    record { heard = λ q p. all_heard-among inputs q o.partners a.1 p; never = λ q t. told-never q Cancel outs a.0 t }

-- a partner that refused is never told to cancel

refused_among : (ps : List Partner) (outs : List Out) (r : Entity) → RefusedLeft ps outs → IsRefusing r ps
    → Told Cancel (messages_to r outs)
    → ⊥
refused_among [] outs r h a t = a
refused_among (p ∷ ps) outs r h (inl e) t = h.0 e.1 (rw e.0 at t)
refused_among (p ∷ ps) outs r h (inr a) t = refused_among ps outs r h.1 a t

left_by : {C : Type 0} (s : Status) (ps : List Partner) (inputs : List (Input C)) (outs : List Out) (r : Entity)
    → ByStatus s ps inputs outs
    → IsRefusing r ps → Told Cancel (messages_to r outs) → ⊥
left_by Open ps inputs outs r h a t = told-never r Cancel outs h.1 t
left_by Confirmed ps inputs outs r h a t = told-never r Cancel outs h.0 t
left_by Cancelled ps inputs outs r h a t = refused_among ps outs r h.1 a t

pub left_alone : {C : Type 0} (o : Option OrderState) (inputs : List (Input C)) (outs : List Out) (r : Entity)
    → ByOrder o inputs outs
    → HasRefused o r → Told Cancel (messages_to r outs) → ⊥
left_alone None inputs outs r h a t = a
left_alone (Some o) inputs outs r h a t = left_by o.status o.partners inputs outs r h.1 a t
