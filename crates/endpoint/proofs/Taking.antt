-- The tables after a row was taken in.
use Rattle.std.proofs.Common.{ℕ, ◌+◌, ◌≤◌, ◌<◌, ◌≡◌, List, [], ◌∷◌, ◌++◌, length, Bool, true, false, Option, Result, Ok}
use Rattle.std.proofs.Common.{refl}
use Rattle.std.proofs.Common.{sym, ap, ◌∙◌, subst, arith, length-append}
use Rattle.std.specs.Prelude.{if◌then◌else◌, IsOk, IsSome}
use Rattle.std.proofs.lemmas.List.{append-nil}
use Rattle.base.specs.declared.limits.TheConstants.{MAX_NUMBER}
use Rattle.base.specs.Entity.{Entity}
use Rattle.base.specs.Order.{same_entity}
use Rattle.base.specs.declared.pair.Pair.{Pair}
use Rattle.activities.specs.Service.{Service}
use Rattle.activities.specs.declared.handler.Refusal.{Refusal}
use Rattle.activities.specs.declared.input.JournalRow.{JournalRow}
use Rattle.activities.specs.declared.outs.Out.{Out}
use Rattle.activities.specs.Reaction.{messages_to}
use Rattle.activities.specs.Journal.{IsLegal, sent_of, handled_of}
use Rattle.activities.specs.Rows.{row_for, row_of}
use Rattle.activities.specs.Follow.{MayFollow}
use Rattle.activities.proofs.Sameness.{either, same_entity-comm, same_entity-tells}
use Rattle.envelope.specs.declared.message.Message.{Message}
use Rattle.activities.proofs.Journals.{row_of-more, sent_of-more}
use Rattle.activities.proofs.Legal.{legal-more}
use Rattle.keep.specs.declared.change.Change.{Change}
use Rattle.keep.specs.declared.change.Change.TheVariants.{State, Journal}
use Rattle.keep.specs.Tables.{Tables, Messages, changed, changed_by}
use Rattle.endpoint.specs.Matches.{TablesMatchWithin, MayBeHeld}
use Rattle.outbox.specs.Rows.{above}
use Rattle.endpoint.specs.Answers.{reaction, sent_counts}
use Rattle.outbox.specs.Numbering.{pair_between, NumbersFit}
use Rattle.endpoint.specs.Calls.{Appends}
use Rattle.endpoint.specs.Parts.Handling.{Prepares}
use Rattle.outbox.specs.Numbering.{numbering}
use Rattle.outbox.proofs.Sending.{IsOutbox, outbox-same, own, numbering-outbox, numbering-keeps}

changed-append : {S C : Type 0} (xs ys : List (Change S C)) (t : Tables S C)
    → changed (xs ++ ys) t ≡ changed ys (changed xs t)
changed-append [] ys t = refl
changed-append (x ∷ xs) ys t = changed-append xs ys (changed_by x t)

is_ok_at : {S : Type 0} (x : Result (S × List Out) Refusal) (r : S × List Out) → x ≡ Ok r → IsOk x
is_ok_at {S} x r e = let P : Result (S × List Out) Refusal → Type 0 = λ y. IsOk y in subst P (sym e) refl

same_done : {S : Type 0} (x : Result (S × List Out) Refusal) (r q : S × List Out) → x ≡ Ok r → x ≡ Ok q → q ≡ r
same_done x r q e f = cc

none_sent : {A : Type 0} (xs : List A) (b : Bool) → xs ≡ xs ++ (if b then [] else [])
none_sent xs true = sym (append-nil xs)
none_sent xs false = sym (append-nil xs)

-- the numbers of a pair stay within the limit
within_more : (e : Entity) (outs : List Out) (sent : Pair → ℕ) (q : Pair) (xs : List Message) → sent q ≡ length xs
    → sent q ≤ MAX_NUMBER
    → NumbersFit sent e outs → length (xs ++ own e outs q) ≤ MAX_NUMBER
within_more e outs sent q xs is small fits = either (same_entity-tells q.from e)
    (λ t. rw t.0 (mine t.1 (messages_to q.to outs) refl))
    (λ t. rw t.0 (let l = length-append xs [] in omega (arith, l, is, small)))
  where
    mine : q.from ≡ e → (ms : List Message) → ms ≡ messages_to q.to outs → length (xs ++ ms) ≤ MAX_NUMBER
    mine from [] same = let l = length-append xs [] in omega (arith, l, is, small)
    mine from (m ∷ ms) same =
        let long : length (m ∷ ms) ≡ length (messages_to q.to outs) = ap length same in
        let fit = fits q.to (omega (arith, long)) in
        let here : sent (pair_between e q.to) ≡ sent q = ap (λ n. sent (pair_between n q.to)) (sym from) in
        let l = length-append xs (m ∷ ms) in
        omega (arith, l, long, fit, here, is)

-- ---- one row more

module _ {S C : Type 0} (ahead : ℕ) (service : Service S C) (old : Tables S C) (position : ℕ) (row : JournalRow C)
    (first : List
    (Change S C))
    (done : S × List Out) where
  -- the tables after all changes of a row that is taken in
  abbrev pub taken : Tables S C
  taken = changed ((first ++ numbering old.sent row.entity done.1) ++ State row.entity (row_for service.is_none done.0)
      ∷ Journal position row ∷ []) old

  -- tables that match this journal
  record Matches (j : List (JournalRow C)) (t : Tables S C) : Type 0 where
    legal : IsLegal service.reactions service.kind j
    entities : (e : Entity) → t.entity e ≡ row_of service j e
    outbox : IsOutbox t (sent_of service.reactions j)
    numbers : (p : Pair) → t.sent p ≤ MAX_NUMBER
    handled : (p : Pair) → t.handled p ≡ handled_of j p
    held : (p : Pair) (n : ℕ) → IsSome (t.held p n) → MayBeHeld ahead service.kind (handled_of j p) p n

  matches_own : (t : Tables S C) → Matches t.journal t → TablesMatchWithin ahead service t
  matches_own t h = record {
    legal = h.legal;
    entities = h.entities;
    sent = h.outbox.count;
    numbers = h.numbers;
    settled = h.outbox.settled;
    unsettled = h.outbox.rows;
    handled = h.handled;
    held = h.held;
  }

  ready_outbox : (h : TablesMatchWithin ahead service old) → Prepares ahead service.kind old row first
      → IsOutbox (changed first old) (sent_of service.reactions old.journal)
  ready_outbox h prep = record {
    count = λ p. ap (λ (c : Pair → ℕ). c p) prep.sent ∙ h.sent p;
    settled = λ p. let P : (Pair → ℕ) → Type 0 = λ c. c p ≤ length (sent_of service.reactions old.journal p) in
        subst P (sym prep.settled) (h.settled p);
    rows = λ p n. ap (λ (c : Messages). c p n) prep.unsettled ∙ h.unsettled p n
        ∙ ap (λ (c : Pair → ℕ). above (c p) (sent_of service.reactions old.journal p) n) (sym prep.settled);
  }

  module _ (h : TablesMatchWithin ahead service old) (of_kind : row.entity.kind ≡ service.kind)
      (prep : Prepares ahead service.kind old row
      first)
      (room : length old.journal < MAX_NUMBER) (accepted : reaction service.reactions old.journal row ≡ Ok done)
      (fits : NumbersFit old.sent row.entity done.1) where
    may : MayFollow service.reactions service.kind old.journal row
    may = record {
      of_kind = of_kind;
      seated = prep.seated;
      accepted = is_ok_at (reaction service.reactions old.journal row) done accepted;
      next = prep.next;
    }

    fits_all : (other : S × List Out) → reaction service.reactions old.journal row ≡ Ok other
        → NumbersFit (sent_counts service.reactions old.journal) row.entity other.1
    fits_all other e =
        let F : S × List Out → Type 0 = λ d. NumbersFit (sent_counts service.reactions old.journal) row.entity d.1 in
        let own_fits : NumbersFit (sent_counts service.reactions old.journal) row.entity done.1 = λ r some.
        let P : ℕ → Type 0 = λ k. k + length (messages_to r done.1) ≤ MAX_NUMBER in
        subst P (h.sent (pair_between row.entity r)) (fits r some) in
        subst F (sym (same_done (reaction service.reactions old.journal row) done other accepted e)) own_fits

    pub taken-appends : Appends ahead service old row (changed first old).held taken
    taken-appends =
        let e = row.entity in
        let j = old.journal in
        let f = sent_of service.reactions j in
        let ready : Tables S C = changed first old in
        let letters : List (Change S C) = numbering old.sent e done.1 in
        let rest : List (Change S C) = State e (row_for service.is_none done.0) ∷ Journal position row ∷ [] in
        let u : Tables S C = changed letters ready in
        let v : Tables S C = changed rest u in
        let split : taken ≡ v =
        changed-append (first ++ letters) rest old ∙ ap (changed rest) (changed-append first letters old) in
        let journal : u.journal ≡ j =
        numbering-keeps (λ (t : Tables S C). t.journal) (λ _ _. refl) old.sent e done.1 ready
        ∙ prep.journal in
        let entity : u.entity ≡ old.entity =
        numbering-keeps (λ (t : Tables S C). t.entity) (λ _ _. refl) old.sent e done.1 ready
        ∙ prep.entity in
        let settled : u.settled ≡ old.settled =
        numbering-keeps (λ (t : Tables S C). t.settled) (λ _ _. refl) old.sent e done.1 ready
        ∙ prep.settled in
        let handled : u.handled ≡ ready.handled =
        numbering-keeps (λ (t : Tables S C). t.handled) (λ _ _. refl) old.sent e done.1 ready in
        let held : u.held ≡ ready.held =
        numbering-keeps (λ (t : Tables S C). t.held) (λ _ _. refl) old.sent e done.1 ready in
        let before : IsOutbox ready (λ q. f q ++ own e [] q) =
        outbox-same ready f (λ q. f q ++ own e [] q) (λ q. none_sent (f q) (same_entity q.from e)) (ready_outbox h prep)
        in
        let numbered : IsOutbox u (λ q. f q ++ own e done.1 q) =
        numbering-outbox old.sent e f h.sent done.1 ready before in
        let after : List (JournalRow C) = j ++ row ∷ [] in
        let outbox : IsOutbox u (sent_of service.reactions after) =
        outbox-same u (λ q. f q ++ own e done.1 q) (sent_of service.reactions after)
        (λ q. sym (sent_of-more service.reactions j row done accepted q)) numbered in
        let longer : v.journal ≡ after = ap (λ l. l ++ row ∷ []) journal in
        let set : Bool → Option S → Option S = λ b x. if b then row_for service.is_none done.0 else x in
        let matches : Matches after v = record {
          legal = legal-more service.reactions service.kind j row h.legal may;
          entities = λ x. ap (λ (c : Entity → Option S). set (same_entity e x) (c x)) entity
              ∙ ap (set (same_entity e x)) (h.entities x)
              ∙ ap (λ b. set b (row_of service j x)) (same_entity-comm e x)
              ∙ sym (row_of-more service j row done accepted x);
          outbox = record { count = outbox.count; settled = outbox.settled; rows = outbox.rows };
          numbers = λ p.
              let grown = within_more e done.1 old.sent p (f p) (h.sent p) (h.numbers p) fits in
              let c = numbered.count p in
              omega (arith, grown, c);
          handled = λ p. ap (λ (c : Pair → ℕ). c p) handled ∙ prep.handled p;
          held = λ p n some. let W : Messages → Type 0 = λ c. IsSome (c p n) in prep.held p n (subst W held some);
        } in
        let M : List (JournalRow C) → Type 0 = λ l. Matches l v in
        let at_v : Appends ahead service old row ready.held v = record {
          takes = record { follows = may; room = room; fits = fits_all; appended = longer };
          settled = settled;
          held = held;
          matches = matches_own v (subst M (sym longer) matches);
        } in
        let P : Tables S C → Type 0 = λ t. Appends ahead service old row ready.held t in
        subst P (sym split) at_v
