-- What connections have written lasts.
use Rattle.std.proofs.Common.{◌≡◌, ℕ, ◌≤◌, List, [], ◌∷◌, ◌++◌, sym, ap, ◌∙◌, subst, inl, inr, append-nil, Option, Some, None}
use Rattle.std.proofs.Math.Arith.{le-zero}
use Rattle.stomp_wire.specs.declared.fault.LinkFault.{LinkFault}
use Rattle.std.specs.Prelude.{Result}
use Rattle.stomp_frame.specs.Frames.{Content, canonical}
use Rattle.stomp_frame.specs.declared.command.Command.TheVariants.{Connect}
use Rattle.stomp_client.specs.Clients.{Client}
use Rattle.activities.specs.Service.{Service}
use Rattle.keep.specs.Seen.{Seen}
use Rattle.keep.specs.Tables.{Tables}
use Rattle.endpoint.specs.Deeds.{kept}
use Rattle.endpoint.specs.Matches.{AllMatch}
use Rattle.told_lock.specs.Rule.{Every}
use Rattle.told_lock.proofs.Views.{every_map}
use Rattle.shared_endpoint.specs.History.{EverSince, EndsAs, Grows}
use Rattle.shared_endpoint.specs.Keys.{Any}
use Rattle.shared_endpoint.specs.Promises.{AreBorneOut}
use Rattle.service_workers.specs.Conns.{IsNewConnBy, start_of}
use Rattle.service_workers.specs.Written.{Path, stays, connects, of_session, WasTrue, Speaks, MightSpeak, StandsBy, WrittenStands}
use Rattle.service_workers.specs.Written.{came_of, HasSpoken, HasWritten, HasWrittenIf, ConnectionsStand}
use Rattle.service_workers.specs.declared.conn.Conn.{Conn}

module _ {L : Type 0} (put_gives : L → List ℕ → Result ℕ LinkFault → L → Type 0)
    (take_gives : L → ℕ → Result (List ℕ) LinkFault → L → Type 0) where
  module _ {E S C : Type 0} (seen : E → Seen (Tables S C)) (service : Service S C) where
    pub new_has_spoken : (shown : List E) (connect : Content) (prefetch : Option ℕ) (link : L) (c : Conn L)
        → connect.command ≡ Connect → IsNewConnBy connect prefetch link c
        → HasSpoken put_gives take_gives seen service shown c
    new_has_spoken shown connect prefetch link c is new = record {
      blocks = (connect ∷ []) ∷ [];
      gone = [];
      path = subst (Path put_gives take_gives (start_of c) []) (new.starts ∙ sym new.link_is) stays;
      wrote = record {
        each = (new.client.1, tt);
        whole = ap (λ (k : Client ℕ). k.out) new.client.2 ∙ sym (append-nil (canonical connect));
      };
      allowed = (inl (of_session (connect ∷ []) (connects connect is)), tt);
    }

module _ {E S C : Type 0} (seen : E → Seen (Tables S C)) (service : Service S C) where
  pub no_doubt : (good e : E) → EndsAs seen service good e → (seen e).doubt ≡ 0 → (seen good).doubt ≡ 0
  no_doubt good e (inl same) z = ap (λ (x : E). (seen x).doubt) (sym same) ∙ z
  no_doubt good e (inr broke) z = le-zero (subst (λ n. (seen good).doubt ≤ n) z broke.doubt)

  stands_among : (came : Content → Type 0) (good : E) (t : Tables S C) (block : List Content) (ys : List E)
      → (seen good).doubt ≡ 0 → Every (λ y. EverSince seen service y good) ys → AreBorneOut seen service ys t
      → WasTrue seen service (λ x. Speaks service came x block) ys
      → StandsBy service t came block
  stands_among came good t block [] z since borne was = absurd was
  stands_among came good t block (y ∷ ys) z since borne (inl h) =
      let told = h (le-zero (subst (λ n. (seen y).doubt ≤ n) z since.0.doubt)) in
      let grown = borne.0 told.0 in
      inr (kept (seen y).tables, grown.0, grown.1, told.1)
  stands_among came good t block (y ∷ ys) z since borne (inr h) = stands_among came good t block ys z since.1 borne.1 h

  pub written_stands : (came : Content → Type 0) → WrittenStands seen service came
  written_stands came tokens witnessed e closes z history block (inl free) = inl free
  written_stands came tokens witnessed e closes z history block (inr was) =
      stands_among came closes.good history.tables block witnessed (no_doubt closes.good e closes.ends z) closes.borne_out
      history.borne_out was

-- ---- whole connections

pub every_left : {X : Type 0} (P : X → Type 0) (xs ys : List X) → Every P (xs ++ ys) → Every P xs
every_left P [] ys h = tt
every_left P (x ∷ xs) ys h = (h.0, every_left P xs ys h.1)

pub every_right : {X : Type 0} (P : X → Type 0) (xs ys : List X) → Every P (xs ++ ys) → Every P ys
every_right P [] ys h = h
every_right P (x ∷ xs) ys h = every_right P xs ys h.1

pub one_of_these : {X : Type 0} (P Q : X → Type 0) (xs : List X) → Any P xs → Every Q xs → (x : X) × P x × Q x
one_of_these P Q [] a e = absurd a
one_of_these P Q (x ∷ xs) (inl h) e = (x, h, e.0)
one_of_these P Q (x ∷ xs) (inr h) e = one_of_these P Q xs h e.1

module _ {L : Type 0} (put_gives : L → List ℕ → Result ℕ LinkFault → L → Type 0)
    (take_gives : L → ℕ → Result (List ℕ) LinkFault → L → Type 0) where
  written_as : (P Q : List Content → Type 0) → ((block : List Content) → P block → Q block) → (c : Conn L)
      → HasWritten put_gives take_gives P c → HasWritten put_gives take_gives Q c
  written_as P Q so c h = record {
    blocks = h.blocks;
    gone = h.gone;
    path = h.path;
    wrote = h.wrote;
    allowed = every_map P Q h.blocks so h.allowed;
  }

  pub written_as_if : (P Q : (came : Content → Type 0) → List Content → Type 0)
      → ((came : Content → Type 0) (block : List Content) → P came block → Q came block) → (o : Option (Conn L))
      → HasWrittenIf put_gives take_gives P o → HasWrittenIf put_gives take_gives Q o
  written_as_if P Q so None h = tt
  written_as_if P Q so (Some c) h =
      let came = came_of put_gives take_gives c in
      written_as (P came) (Q came) (so came) c h

  module _ {E S C : Type 0} (seen : E → Seen (Tables S C)) (service : Service S C) where
    pub connections_stand : ConnectionsStand put_gives take_gives seen service
    connections_stand tokens witnessed e closes z history c =
        let came = came_of put_gives take_gives c in
        written_as (MightSpeak seen service witnessed came) (StandsBy service history.tables came)
        (written_stands seen service came tokens witnessed e closes z history) c

    pub stands_in : (good : E) (known : List E) → (seen good).doubt ≡ 0
        → Every (λ y. EverSince seen service y good) known → (came : Content → Type 0) (block : List Content)
        → MightSpeak seen service known came block → StandsBy service (seen good).tables came block
    stands_in good known z since came block (inl free) = inl free
    stands_in good known z since came block (inr was) = stands_among seen service came good (seen good).tables block known z since
        (every_map (λ y. EverSince seen service y good)
        (λ y. AllMatch service (seen y).may_leave → Grows (seen y).tables (seen good).tables) known
        (λ y s matches. (s.clean z matches).1) since)
        was
