-- A letter that was taken has arrived for good: it is held until it is handled.
use Rattle.std.proofs.Common.{◌≡◌, ℕ, suc, ◌≤◌, ◌<◌, List, [], ◌∷◌, ◌++◌, Bool, true, false, refl, ap, arith, sym, ◌∙◌}
use Rattle.std.proofs.Common.{Option, Some, None, Ok, IsSome, length, length-append, subst}
use Rattle.std.specs.Prelude.{◌&&◌, ◌==◌, slice_get, nat_lt}
use Rattle.std.proofs.lemmas.Bool.Decides.{nat_tests}
use Rattle.std.proofs.lemmas.List.{append-nil}
use Rattle.base.specs.Entity.{Entity}
use Rattle.base.specs.Order.{same_pair}
use Rattle.base.specs.declared.pair.Pair.{Pair}
use Rattle.base.proofs.Entities.{same_pair-Decides}
use Rattle.envelope.specs.declared.message.Message.{Message}
use Rattle.envelope.specs.declared.message.Letter.{Letter}
use Rattle.activities.specs.declared.input.Input.{Input}
use Rattle.activities.specs.declared.input.Input.TheVariants.{FromSeat, FromEntity}
use Rattle.activities.specs.declared.input.JournalRow.{JournalRow}
use Rattle.activities.specs.Follow.{HasNextNumber}
use Rattle.activities.specs.Journal.{sent_of, letters_of, handled_of}
use Rattle.activities.specs.Numbered.{nth, numbered}
use Rattle.activities.specs.Reaction.{Reactions}
use Rattle.activities.specs.Service.{Service}
use Rattle.activities.proofs.Prefixes.{length-numbered, get-numbered_is}
use Rattle.keep.specs.Tables.{Messages, set_message}
use Rattle.outbox.specs.Numbering.{pair_between}
use Rattle.outbox.specs.Rows.{unsettled_of}
use Rattle.endpoint.specs.declared.answer.Ingested.{Ingested}
use Rattle.endpoint.specs.declared.answer.Ingested.TheVariants.{Handled, Repeated, Held}
use Rattle.endpoint.specs.Arrivals.{IngestMay}
use Rattle.endpoint.specs.Deeds.{Kept, Deed, Nothing, TakesIn, Holds, Settles, Did, held_after, or_else}
use Rattle.laws_network.specs.Fair.{Follows, HandledAll}
use Rattle.laws_stores.proofs.Doing.{both_same, did_handled}
use Rattle.laws_stores.proofs.Writing.{handled-now}

-- the letter of a pair and number has arrived: until it is handled one is held
abbrev pub HasArrived : {C : Type 0} → Kept C → Pair → ℕ → Type 0
HasArrived x p n = handled_of x.journal p < n → IsSome (x.held p n)

same_pair-same : (p : Pair) → same_pair p p ≡ true
same_pair-same p = (same_pair-Decides p p).1 refl

-- ---- one more held

or_else-some : (a : Option Message) (m : Message) → IsSome (or_else a (Some m))
or_else-some (Some x) m = refl
or_else-some None m = refl

put_some : (q : Pair) (k : ℕ) (o : Option Message) (held : Messages) (p : Pair) (n : ℕ) (b : Bool)
    → (same_pair q p && k == n) ≡ b
    → IsSome o → IsSome (held p n) → IsSome (set_message q k o held p n)
put_some q k o held p n true e new old = rw e new
put_some q k o held p n false e new old = rw e old

put_here : (p : Pair) (n : ℕ) (o : Option Message) (held : Messages) → IsSome o → IsSome (set_message p n o held p n)
put_here p n o held new =
    let number : (n == n) ≡ true = grind (arith, nat_tests) in
    rw (same_pair-same p, number) new

-- ---- a deed leaves what has arrived

left_held : (q : Pair) (k : ℕ) (held : Messages) (p : Pair) (n : ℕ) (b : Bool) → (same_pair q p && k == n) ≡ b
    → (q ≡ p → k ≡ n → ⊥) → IsSome (held p n) → IsSome (set_message q k None held p n)
left_held q k held p n true e apart h = let s = both_same q p k n (same_pair q p) refl e in absurd (apart s.0 s.1)
left_held q k held p n false e apart h = rw e h

row_arrived : {C : Type 0} (rows : List (JournalRow C)) (e : Entity) (input : Input C) (held : Messages) (p : Pair)
    (n : ℕ)
    → HasNextNumber rows e input → handled_of rows p ≤ handled_of (rows ++ record { entity = e; input = input } ∷ []) p
    → (handled_of rows p < n → IsSome (held p n)) → handled_of (rows ++ record { entity = e; input = input } ∷ []) p < n
    → IsSome (held_after e input held p n)
row_arrived rows e (FromSeat seat c) held p n next more h lt = h (omega (arith, more, lt))
row_arrived rows e (FromEntity s k m) held p n next more h lt =
    left_held (pair_between s e) k held p n _ refl
    (λ same number.
    let now = handled-now rows s e k m next in
    let here = subst (λ q. handled_of (rows ++ record { entity = e; input = FromEntity s k m } ∷ []) q ≡ k) same now in
    absurd (omega (arith, here, number, lt)))
    (h (omega (arith, more, lt)))

pub did_arrived : {S C : Type 0} (s : Service S C) (x y : Kept C) (d : Deed C) → Did s x d y → (p : Pair) (n : ℕ)
    → HasArrived x p n
    → HasArrived y p n
did_arrived s x y Nothing did p n h = subst (λ k. HasArrived k p n) (sym did) h
did_arrived s x y (TakesIn row) did p n h = λ lt.
    let more = did_handled s x y (TakesIn row) did p in
    subst (λ held. IsSome (held p n)) (sym did.2)
    (row_arrived x.journal row.entity row.input x.held p n did.0.follows.next
    (subst (λ rows. handled_of x.journal p ≤ handled_of rows p) did.0.appended more) h
    (subst (λ rows. handled_of rows p < n) did.0.appended lt))
did_arrived s x y (Holds l) did p n h = subst (λ (k : Kept _). HasArrived k p n) (sym did.2)
    (λ lt. put_some l.pair l.number _ x.held p n _ refl (or_else-some (x.held l.pair l.number) l.message) (h lt))
did_arrived s x y (Settles q k) did p n h = subst (λ (j : Kept _). HasArrived j p n) (sym did.2) h

-- ---- a letter that is taken arrives

pub ingest_arrived : {S C : Type 0} (s : Service S C) (l : Letter) (answer : Ingested) (x y : Kept C) (d : Deed C)
    → IngestMay s l (Ok answer) x d → Did s x d y → HasArrived y l.pair l.number
ingest_arrived s l (Handled pos) x y d may did = λ lt.
    let h = subst (λ e. Did s x e y) may.0 did in
    let now = handled-now x.journal l.pair.from l.pair.to l.number l.message h.0.follows.next in
    let here = subst (λ rows. handled_of rows l.pair < l.number) h.0.appended lt in
    absurd (omega (arith, now, here))
ingest_arrived s l (Repeated handled) x y d may did = λ lt.
    let h = subst (λ e. Did s x e y) may.0 did in
    let old = may.1 in
    let here = subst (λ (k : Kept _). handled_of k.journal l.pair < l.number) h lt in
    absurd (omega (arith, old, here))
ingest_arrived s l Held x y d may did =
    let h = subst (λ e. Did s x e y) may did in
    subst (λ (k : Kept _). HasArrived k l.pair l.number) (sym h.2)
    (λ lt. put_here l.pair l.number _ x.held (or_else-some (x.held l.pair l.number) l.message))

-- ---- and where all have arrived and none waits, all were handled

at_end : {A : Type 0} (xs rest : List A) (y : A) → slice_get (xs ++ y ∷ rest) (length xs) ≡ Some y
at_end [] rest y = refl
at_end (x ∷ xs) rest y = at_end xs rest y

-- of letters that are a beginning of what was sent: where each later one is held, and the next one isn't, there are none
-- later
pub no_more : (there rest : List (ℕ × Message)) (sent : List Message) (held : ℕ → Option Message)
    → there ++ rest ≡ numbered 0 sent
    → ((n : ℕ) (m : Message) → nth sent n ≡ Some m → length there < n → IsSome (held n))
    → held (suc (length there)) ≡ None → there ≡ numbered 0 sent
no_more there [] sent held is all none = sym (append-nil there) ∙ is
no_more there ((a, m) ∷ rest) sent held is all none =
    let at : slice_get (numbered 0 sent) (length there) ≡ Some (a, m) =
    subst (λ l. slice_get l (length there) ≡ Some (a, m)) is (at_end there rest (a, m)) in
    let next = get-numbered_is 0 (length there) sent a m at in
    let lt : length there < suc (length there) = omega arith in
    let some : IsSome (held (suc (length there))) = all (suc (length there)) m next.1 lt in
    let no : false ≡ true = subst (λ (o : Option Message). IsSome o) none some in
    cc

module _ {S C D : Type 0} (reactions : Reactions S C) (x : Kept C) (z : Kept D) (p : Pair) where
  abbrev Sent : List Message
  Sent = sent_of reactions x.journal p

  abbrev There : List (ℕ × Message)
  There = letters_of z.journal p

  -- what is settled was handled
  above_settled : Follows reactions x z
      → ((n : ℕ) (m : Message) → unsettled_of reactions x.journal x.settled p n ≡ Some m → HasArrived z p n)
      → (n : ℕ) (m : Message) → nth Sent n ≡ Some m → (b : Bool) → nat_lt (x.settled p) n ≡ b → HasArrived z p n
  above_settled f all n m sent true above = all n m (rw above sent)
  above_settled f all n m sent false above = λ lt.
      let settled = f.settled p in
      let low : n ≤ x.settled p = grind (arith, nat_tests, above) in
      absurd (omega (arith, settled, low, lt))

  pub all_arrived : Follows reactions x z
      → ((n : ℕ) (m : Message) → unsettled_of reactions x.journal x.settled p n ≡ Some m → HasArrived z p n)
      → z.held p (suc (handled_of z.journal p)) ≡ None → HandledAll reactions x.journal z.journal p
  all_arrived f all none = let prefix = f.handled p in
      no_more There prefix.0 Sent (z.held p) prefix.1
      (λ n m sent. above_settled f all n m sent (nat_lt (x.settled p) n) refl) none

  full : (rest : List (ℕ × Message)) → There ++ rest ≡ numbered 0 Sent → handled_of z.journal p ≡ length Sent
      → HandledAll reactions x.journal z.journal p
  full [] is count = sym (append-nil There) ∙ is
  full (l ∷ rest) is count =
      let long = ap length is in
      let a = length-append There (l ∷ rest) in
      let b = length-numbered 0 Sent in
      absurd (omega (arith, long, a, b, count))

  -- where as many were handled as were sent, all were
  pub full_is_all : Follows reactions x z → handled_of z.journal p ≡ length Sent
      → HandledAll reactions x.journal z.journal p
  full_is_all f count = let prefix = f.handled p in full prefix.0 prefix.1 count
