-- A group: several deeds of the Hand, one after another.
use Rattle.std.proofs.Common.{◌≡◌, true, false, true≢false, List, [], ◌∷◌}
use Rattle.std.proofs.Common.{Option, Some, None, Result, Ok, Err, inr, refl, sym, ap, ◌∙◌, subst, arith}
use Rattle.std.specs.Global.{Vec}
use Rattle.envelope.specs.declared.message.Envelope.{Envelope}
use Rattle.envelope.specs.declared.message.Envelope.TheVariants as envelope
use Rattle.activities.specs.Service.{Service}
use Rattle.keep.specs.Law.{Never}
use Rattle.keep.specs.Seen.{Seen, IsSound}
use Rattle.keep.specs.Tables.{Tables}
use Rattle.endpoint.specs.declared.fault.EndFault.{EndFault}
use Rattle.endpoint.specs.declared.fault.EndFault.TheVariants.{NotMine, Business, TooEarly, StoreFailed, Memory}
use Rattle.endpoint.specs.declared.fault.EndFault.TheVariants.{Unusable, NumberLimit, NotSent}
use Rattle.endpoint.specs.Arrivals.{row_of_letter}
use Rattle.endpoint.specs.Calls.{StillMatches}
use Rattle.endpoint.specs.Deeds.{Kept, kept, Deed, Did}
use Rattle.endpoint.specs.Matches.{TablesMatchJournal, AllMatch}
use Rattle.group_commit.specs.Group.{Groups, GroupedMay, TakesEach}
use Rattle.group_commit.specs.declared.grouped.Grouped.{Grouped}
use Rattle.group_commit.specs.declared.grouped.Grouped.TheVariants as grouped
use Rattle.told_lock.specs.Rule.{Every}
use Rattle.shared_endpoint.specs.Token.{hand_number, rows_of}
use Rattle.shared_endpoint.specs.History.{IsDeedOf, DidAll, CameAll, Steps, fault_in, tells}
use Rattle.shared_endpoint.specs.Lore.{zero_below}
use Rattle.shared_endpoint.specs.Promises.{list_grouped, GroupsAt, GroupsAreOneThreads}
use Rattle.shared_endpoint.proofs.Deeds.{came_of_none}
use Rattle.shared_endpoint.proofs.Stepping.{use_of}
use Rattle.shared_endpoint.proofs.Telling.{own_row, one_threads}

module _ {S C : Type 0} (service : Service S C) where
  grouped_says : (e : Envelope) (g : Grouped) (x : Kept C) (deed : Deed C) → GroupedMay service e g x deed
      → IsDeedOf hand_number deed
  grouped_says (envelope.Letter l) (grouped.Handled position) x deed may =
      subst (IsDeedOf hand_number) (sym may.0) refl
  grouped_says (envelope.Letter l) (grouped.Settled mark) x deed may = absurd may
  grouped_says (envelope.Settle p n) (grouped.Handled position) x deed may = absurd may
  grouped_says (envelope.Settle p n) (grouped.Settled mark) x deed may = subst (IsDeedOf hand_number) (sym may.0) refl

  -- the deeds of a group are the Hand's
  record Chain (t u : Tables S C) : Type 0 where
    deeds : List (Deed C)
    hands : Every (IsDeedOf hand_number) deeds
    did : DidAll service (kept t) deeds (kept u)

  chain : (es : List Envelope) (gs : List Grouped) (t u : Tables S C) → TakesEach service es gs t u → Chain t u
  chain es [] t u h = record { deeds = []; hands = tt; did = ap (λ (k : Tables S C). kept k) h }
  chain [] (g ∷ gs) t u h = absurd h
  chain (e ∷ es) (g ∷ gs) t u h =
      let one = h.1 in
      let rest = chain es gs h.0 u h.2 in
      record {
        deeds = one.deed ∷ rest.deeds;
        hands = (grouped_says e g (kept t) one.deed one.may, rest.hands);
        did = (kept h.0, one.did, rest.did);
      }

  -- each letter's row is the Hand's, at the position that is told
  one_listed : (e : Envelope) (g : Grouped) (es : List Envelope) (gs : List Grouped) (t u : Tables S C) (deed : Deed C)
      → GroupedMay service e g (kept t) deed → Did service (kept t) deed (kept u)
      → list_grouped (rows_of hand_number 1 u.journal) es gs
      ≡ list_grouped (rows_of hand_number 1 t.journal) (e ∷ es) (g ∷ gs)
  one_listed (envelope.Letter l) (grouped.Handled position) es gs t u deed may did =
      let d = subst (λ k. Did service (kept t) k (kept u)) may.0 did in
      ap (λ xs. list_grouped xs es gs)
      (own_row hand_number t.journal u.journal (row_of_letter l) position refl d.0.appended (omega (arith, may.1)))
  one_listed (envelope.Letter l) (grouped.Settled mark) es gs t u deed may did = absurd may
  one_listed (envelope.Settle p n) (grouped.Handled position) es gs t u deed may did = absurd may
  one_listed (envelope.Settle p n) (grouped.Settled mark) es gs t u deed may did =
      let d = subst (λ k. Did service (kept t) k (kept u)) may.0 did in
      ap (λ (k : Kept C). list_grouped (rows_of hand_number 1 k.journal) es gs) d.2

  all_listed : (es : List Envelope) (gs : List Grouped) (t u : Tables S C) → TakesEach service es gs t u
      → rows_of hand_number 1 u.journal ≡ list_grouped (rows_of hand_number 1 t.journal) es gs
  all_listed [] [] t u h = ap (λ (k : Tables S C). rows_of hand_number 1 k.journal) h
  all_listed (e ∷ es) [] t u h = ap (λ (k : Tables S C). rows_of hand_number 1 k.journal) h ∙ none_listed e es
    where
      none_listed : (e : Envelope) (es : List Envelope)
          → rows_of hand_number 1 t.journal ≡ list_grouped (rows_of hand_number 1 t.journal) (e ∷ es) []
      none_listed (envelope.Letter l) es = refl
      none_listed (envelope.Settle p n) es = refl
  all_listed [] (g ∷ gs) t u h = absurd h
  all_listed (e ∷ es) (g ∷ gs) t u h = all_listed es gs h.0 u h.2
      ∙ one_listed e g es gs t h.0 h.1.deed h.1.may h.1.did

module _ {E S C : Type 0} (seen : E → Seen (Tables S C)) (service : Service S C) (sound : (e : E) → IsSound (seen e))
  where
    -- a content behind a group comes of one before it, by deeds of the Hand
    abbrev Came : E → E → Option EndFault → Tables S C → Type 0
    Came d e fault t = CameAll service
        (λ deeds. Every (IsDeedOf hand_number) deeds × (tells fault ≡ false → (seen e).usable ≡ true → deeds ≡ []))
        (seen d).may_leave t

    came_by : (d e : E) (fault : Option EndFault) (t : Tables S C) (es : List Envelope) (gs : List Grouped)
        → (tells fault ≡ false → (seen e).usable ≡ false) → (seen d).may_leave (seen d).tables
        → TakesEach service es gs (seen d).tables t → Came d e fault t
    came_by d e fault t es gs down was h =
        let c = chain service es gs (seen d).tables t h in
        record {
          before = (seen d).tables;
          deeds = c.deeds;
          was = was;
          one_call = inr c.hands;
          may = (c.hands, λ unsaid up. absurd (true≢false (sym up ∙ down unsaid)));
          did = c.did;
        }

    group_came : (d e : E) (es : List Envelope) (result : Result (Vec Grouped) EndFault)
        → Groups seen d e service es result → (seen d).doubt ≡ 0 → (seen e).doubt ≡ 0
        → AllMatch service (seen d).may_leave → (t : Tables S C) → (seen e).may_leave t → Came d e (fault_in result) t
    group_came d e es (Ok told) h z0 z all t left =
        let is : t ≡ (seen e).tables = (sound e).only_now z h.call.1 t left in
        came_by d e None t es told.items (λ unsaid. absurd (true≢false unsaid)) ((sound d).stays z0 h.call.0)
        (subst (TakesEach service es told.items (seen d).tables) (sym is) (h.clean z all))
    group_came d e es (Err StoreFailed) h z0 z all t left =
        let led = h.clean z all t left in
        came_by d e (Some StoreFailed) t es led.0 (λ _. h.call.1) ((sound d).stays z0 h.call.0) led.1
    group_came d e es (Err Memory) h z0 z all t left =
        let is : t ≡ (seen e).tables = (sound e).only_now z h.call.1 t left in
        came_of_none service _ _ t (tt, λ _ _. refl)
        (subst (seen d).may_leave (sym (is ∙ h.clean z all)) ((sound d).stays z0 h.call.0))
    group_came d e es (Err Unusable) h z0 z all t left =
        came_of_none service _ _ t (tt, λ _ _. refl) (subst (λ (k : E). (seen k).may_leave t) h.call.1 left)
    group_came d e es (Err NotMine) h z0 z all t left = absurd h.call.1
    group_came d e es (Err (Business r)) h z0 z all t left = absurd h.call.1
    group_came d e es (Err TooEarly) h z0 z all t left = absurd h.call.1
    group_came d e es (Err NumberLimit) h z0 z all t left = absurd h.call.1
    group_came d e es (Err NotSent) h z0 z all t left = absurd h.call.1

    pub group_steps : (d e : E) (es : List Envelope) (result : Result (Vec Grouped) EndFault)
        → Groups seen d e service es result → StillMatches seen d e service
        → Steps seen service hand_number d e (fault_in result)
    group_steps d e es result h matches = record {
      doubt = h.doubt;
      used = use_of seen service d e Never result h.call;
      deeds = λ z all t left. group_came d e es result h (zero_below (seen d).doubt (seen e).doubt h.doubt z) z all t
          left;
      matches = matches;
    }

    group_at : (es : List Envelope) (result : Result (Vec Grouped) EndFault) (d e : E)
        → Groups seen d e service es result → tells (fault_in result) ≡ true → (seen d).doubt ≡ 0 → (seen e).doubt ≡ 0
        → AllMatch service (seen d).may_leave → TablesMatchJournal service (seen d).tables
        → GroupsAt service es result (seen d).tables (seen e).tables
    group_at es (Ok told) d e h said z0 z all m =
        (h.clean z all, all_listed service es told.items (seen d).tables (seen e).tables (h.clean z all))
    group_at es (Err StoreFailed) d e h said z0 z all m = absurd (true≢false (sym said))
    group_at es (Err Memory) d e h said z0 z all m = absurd (true≢false (sym said))
    group_at es (Err Unusable) d e h said z0 z all m = absurd (true≢false (sym said))
    group_at es (Err NotMine) d e h said z0 z all m = h.call.1
    group_at es (Err (Business r)) d e h said z0 z all m = h.call.1
    group_at es (Err TooEarly) d e h said z0 z all m = h.call.1
    group_at es (Err NumberLimit) d e h said z0 z all m = h.call.1
    group_at es (Err NotSent) d e h said z0 z all m = h.call.1

    pub groups : GroupsAreOneThreads seen service
    groups es result = one_threads seen service sound hand_number _ result (GroupsAt service es result)
        (group_at es result)
