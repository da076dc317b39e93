-- What letters and settles that arrive make of tables that match their journal.
use Rattle.std.proofs.Common.{ℕ, suc, ◌+◌, ◌≤◌, ◌<◌, ◌≡◌, ◌⊎◌, inl, inr, Bool, true, false, List, [], ◌∷◌, ◌++◌, Option}
use Rattle.std.proofs.Common.{Some, None, length}
use Rattle.std.proofs.Common.{Result, Ok, Err, refl, sym, ap, subst, ◌∙◌, arith, length-append}
use Rattle.std.specs.Prelude.{IsSome, max, nat_le, nat_lt, ◌&&◌, ◌==◌, if◌then◌else◌}
use Rattle.std.proofs.lemmas.Bool.Decides.{nat_tests}
use Rattle.base.specs.Order.{same_pair}
use Rattle.base.specs.declared.limits.TheConstants.{MAX_NUMBER}
use Rattle.base.specs.declared.pair.Pair.{Pair}
use Rattle.base.proofs.Entities.{same_pair-Decides}
use Rattle.envelope.specs.declared.message.Message.{Message}
use Rattle.envelope.specs.declared.message.Letter.{Letter}
use Rattle.activities.specs.Service.{Service}
use Rattle.activities.specs.Journal.{sent_of, handled_of}
use Rattle.activities.specs.declared.input.JournalRow.{JournalRow}
use Rattle.activities.proofs.Sameness.{either}
use Rattle.activities.proofs.Journals.{handled_of-letter}
use Rattle.keep.specs.declared.change.Change.{Change}
use Rattle.keep.specs.declared.change.Change.TheVariants.{Handled, NotHeld, Held, Settled}
use Rattle.keep.specs.Tables.{Tables, Messages, changed, set_mark, set_message, without_upto}
use Rattle.endpoint.specs.Arrivals.{row_of_letter}
use Rattle.endpoint.specs.Deeds.{or_else, with_held}
use Rattle.endpoint.specs.Matches.{TablesMatchWithin, MayBeHeld}
use Rattle.outbox.specs.Rows.{above}
use Rattle.endpoint.specs.Parts.Handling.{Prepares}
use Rattle.endpoint.specs.Parts.Receiving.{IsNext, IsEarly}

-- they are one pair, whichever comes first, or two
abbrev OneOrTwo : Pair → Pair → Type 0
OneOrTwo p q =
    ((p ≡ q) × (same_pair p q ≡ true) × (same_pair q p ≡ true)) ⊎ ((same_pair p q ≡ false) × (same_pair q p ≡ false))

one_or_two : (p q : Pair) → OneOrTwo p q
one_or_two p q = by_case (same_pair p q) refl (same_pair q p) refl
  where
    by_case : (a : Bool) → same_pair p q ≡ a → (b : Bool) → same_pair q p ≡ b → OneOrTwo p q
    by_case true e true f = inl ((same_pair-Decides p q).0 e, e, f)
    by_case false e false f = inr (e, f)
    by_case true e false f =
        let z : same_pair q p ≡ true = (same_pair-Decides q p).1 (sym ((same_pair-Decides p q).0 e)) in cc
    by_case false e true f =
        let z : same_pair p q ≡ true = (same_pair-Decides p q).1 (sym ((same_pair-Decides q p).0 f)) in cc

-- ---- a letter that is next

abbrev pub letter_changes : {S C : Type 0} → Letter → List (Change S C)
letter_changes l = Handled l.pair l.number ∷ NotHeld l.pair l.number ∷ []

module _ {S C : Type 0} (ahead : ℕ) (service : Service S C) (old : Tables S C) (l : Letter)
    (h : TablesMatchWithin ahead service old)
    (next : IsNext l old) where
  abbrev after : List (JournalRow C)
  after = old.journal ++ row_of_letter l ∷ []

  is_next : l.number ≡ suc (handled_of old.journal l.pair)
  is_next = let k = h.handled l.pair in omega (arith, next, k)

  mark : (p : Pair) → set_mark l.pair l.number old.handled p ≡ handled_of after p
  mark p =
      let more = handled_of-letter old.journal l.pair l.number l.message p in
      either (one_or_two l.pair p)
      (λ t. let here : handled_of old.journal p ≡ handled_of old.journal l.pair = ap (handled_of old.journal) (sym t.0)
      in
      rw t.1 (sym (rw t.2 at more ∙ omega (arith, is_next, here))))
      (λ t. rw t.0 (h.handled p ∙ sym (rw t.1 at more ∙ omega arith)))

  still : (p : Pair) (n : ℕ) → IsSome (set_message l.pair l.number None old.held p n)
      → MayBeHeld ahead service.kind (handled_of after p) p
      n
  still p n some =
      let more = handled_of-letter old.journal l.pair l.number l.message p in
      either (one_or_two l.pair p) (λ t. own t (l.number == n) refl) (λ t.
      let m : handled_of after p ≡ handled_of old.journal p = rw t.1 at more ∙ omega arith in
      subst (λ k. MayBeHeld ahead service.kind k p n) (sym m) (h.held p n (rw t.0 at some)))
    where
      own : (l.pair ≡ p) × (same_pair l.pair p ≡ true) × (same_pair p l.pair ≡ true) → (b : Bool) → (l.number == n) ≡ b
          → MayBeHeld ahead service.kind (handled_of after p) p n
      own t true e = let none : Option Message =
          None in let gone : IsSome none = rw (t.1, e) at some in absurd (grind (arith, gone))
      own t false e =
          let more = handled_of-letter old.journal l.pair l.number l.message p in
          let m : handled_of after p ≡ handled_of old.journal p + 1 = rw t.2 at more in
          let here : handled_of old.journal p ≡ handled_of old.journal l.pair = ap (handled_of old.journal) (sym t.0) in
          let was = h.held p n (rw (t.1, e) at some) in
          let other : l.number ≡ n → ⊥ = λ same. grind (arith, nat_tests, e, same) in
          let a = was.early in let c = was.near in
          record {
            mine = was.mine;
            early = grind (arith, m, here, is_next, a, other);
            near = omega (arith, m, c);
            within = was.within;
          }

  pub letter_prepares : (first : List (Change S C)) → first ≡ letter_changes l
      → Prepares ahead service.kind old (row_of_letter l) first
  letter_prepares first is =
      subst (λ (cs : List (Change S C)). Prepares ahead service.kind old (row_of_letter l) cs) (sym is) (record {
        seated = tt;
        next = is_next;
        journal = refl;
        entity = refl;
        unsettled = refl;
        sent = refl;
        settled = refl;
        handled = mark;
        held = λ p n some. still p n some;
      })

-- ---- a letter that came too early

-- a letter that is held stays
pub held_same : (l : Letter) (held : Messages) (m : Message) → held l.pair l.number ≡ Some m → held ≡ with_held l held
held_same l held m is = λ i q k. each q k (l.number == k) refl i
  where
    each : (q : Pair) (k : ℕ) (b : Bool) → (l.number == k) ≡ b → held q k ≡ with_held l held q k
    each q k true e = either (one_or_two l.pair q)
        (λ t. let n : l.number ≡ k = grind (arith, nat_tests, e) in
        let there : held l.pair l.number ≡ held q k = ap (λ p. held p l.number) t.0 ∙ ap (held q) n in
        rw (t.1, e) (rw is (sym there ∙ is)))
        (λ t. rw t.0 refl)
    each q k false e = either (one_or_two l.pair q) (λ t. rw (t.1, e) refl) (λ t. rw t.0 refl)

pub held_new : (l : Letter) (held : Messages) → held l.pair l.number ≡ None
    → set_message l.pair l.number (Some l.message) held ≡ with_held l held
held_new l held none = ap (λ o. set_message l.pair l.number (or_else o (Some l.message)) held) (sym none)

-- of a pair no letter is held behind the last number
pub none_held : {S C : Type 0} (ahead : ℕ) (service : Service S C) (t : Tables S C) → TablesMatchWithin ahead service t
    → (p : Pair) (n : ℕ)
    → MAX_NUMBER < n → t.held p n ≡ None
none_held ahead service t h p n big = by_case (t.held p n) (λ some. (h.held p n some).within)
  where
    by_case : (o : Option Message) → (IsSome o → n ≤ MAX_NUMBER) → o ≡ None
    by_case None small = refl
    by_case (Some m) small = let s = small refl in absurd (omega (arith, s, big))

module _ {S C : Type 0} (ahead : ℕ) (service : Service S C) (old : Tables S C) (h : TablesMatchWithin ahead service old)
  where
    pub may_be_held : (l : Letter) → l.pair.to.kind ≡ service.kind → l.number ≤ MAX_NUMBER → IsEarly ahead l old
        → MayBeHeld ahead service.kind (handled_of old.journal l.pair) l.pair l.number
    may_be_held l mine small early = let k = h.handled l.pair in let a = early.0 in let b = early.1 in record {
      mine = mine;
      early = omega (arith, a, k);
      near = omega (arith, b, k);
      within = small;
    }

    pub held_matches : (l : Letter) → MayBeHeld ahead service.kind (handled_of old.journal l.pair) l.pair l.number
        → TablesMatchWithin ahead service (changed (Held l ∷ []) old)
    held_matches l may = record {
      legal = h.legal;
      entities = h.entities;
      sent = h.sent;
      numbers = h.numbers;
      settled = h.settled;
      unsettled = h.unsettled;
      handled = h.handled;
      held = λ p n some. each p n (l.number == n) refl some;
    }
      where
        each : (p : Pair) (n : ℕ) (b : Bool) → (l.number == n) ≡ b
            → IsSome (set_message l.pair l.number (Some l.message) old.held p n)
            → MayBeHeld ahead service.kind (handled_of old.journal p) p n
        each p n true e some = either (one_or_two l.pair p)
            (λ t. let is : l.number ≡ n = grind (arith, nat_tests, e) in
            subst (λ k. MayBeHeld ahead service.kind (handled_of old.journal p) p k) is
            (subst (λ q. MayBeHeld ahead service.kind (handled_of old.journal q) q l.number) t.0 may))
            (λ t. h.held p n (rw t.0 at some))
        each p n false e some =
            either (one_or_two l.pair p) (λ t. h.held p n (rw (t.1, e) at some)) (λ t. h.held p n (rw t.0 at some))

    -- ---- a settled mark that rises

    pub settled_matches : (p : Pair) (n : ℕ) → old.settled p < n → n ≤ length (sent_of service.reactions old.journal p)
        → TablesMatchWithin ahead service (changed (Settled p n ∷ []) old)
    settled_matches p n more sent = record {
      legal = h.legal;
      entities = h.entities;
      sent = h.sent;
      numbers = h.numbers;
      settled = λ q. either (one_or_two p q)
          (λ t. rw t.1 (subst (λ r. n ≤ length (sent_of service.reactions old.journal r)) t.0 sent))
          (λ t. rw t.0 (h.settled q));
      unsettled = λ q k. either (one_or_two p q)
          (λ t. let less : old.settled q < n = subst (λ r. old.settled r < n) t.0 more in
          rw t.1 (up q k less (nat_le k n) refl (nat_lt n k) refl (nat_lt (old.settled q) k) refl))
          (λ t. rw t.0 (h.unsettled q k));
      handled = h.handled;
      held = h.held;
    }
      where
        up : (q : Pair) (k : ℕ) → old.settled q < n → (a : Bool) → nat_le k n ≡ a → (b : Bool) → nat_lt n k ≡ b
            → (c : Bool)
            → nat_lt (old.settled q) k ≡ c
            → (if nat_le k n then None else old.unsettled q k) ≡ above n (sent_of service.reactions old.journal q) k
        up q k less true e false f c g = rw (e, f) refl
        up q k less false e true f true g = rw (e, f) (h.unsettled q k ∙ rw g refl)
        up q k less true e true f c g = absurd (grind (arith, nat_tests, e, f))
        up q k less false e false f c g = absurd (grind (arith, nat_tests, e, f))
        up q k less false e true f false g = absurd (grind (arith, nat_tests, e, f, g, less))

-- a mark that doesn't rise is the old one
pub mark_same : (marks : Pair → ℕ) (p : Pair) (n : ℕ) → n ≤ marks p → marks ≡ set_mark p (max (marks p) n) marks
mark_same marks p n small = λ i q. each q i
  where
    each : (q : Pair) → marks q ≡ set_mark p (max (marks p) n) marks q
    each q = either (one_or_two p q)
        (λ t. let here : marks p ≡ marks q = ap marks t.0 in rw t.1 (omega (arith, here, small)))
        (λ t. rw t.0 refl)

pub mark_raised : (marks : Pair → ℕ) (p : Pair) (n : ℕ) → marks p < n
    → set_mark p n marks ≡ set_mark p (max (marks p) n) marks
mark_raised marks p n less = let e : n ≡ max (marks p) n = omega (arith, less) in ap (λ k. set_mark p k marks) e
