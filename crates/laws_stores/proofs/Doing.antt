-- What one deed leaves as it was, and what it changes, whichever service does it.
use Rattle.std.proofs.Common.{◌≡◌, ℕ, suc, ◌≤◌, List, [], ◌∷◌, ◌++◌, Bool, true, false, ◌⊎◌, refl, ap, arith, sym, ◌∙◌}
use Rattle.std.proofs.Common.{inl, inr}
use Rattle.std.proofs.Common.{Option, Some, None, length, subst}
use Rattle.std.specs.Prelude.{max, ◌&&◌, ◌==◌}
use Rattle.std.proofs.lemmas.Bool.Decides.{nat_tests}
use Rattle.base.specs.Entity.{Entity}
use Rattle.base.specs.Order.{same_pair}
use Rattle.base.specs.declared.pair.Pair.{Pair}
use Rattle.base.proofs.Entities.{same_pair-Decides}
use Rattle.envelope.specs.declared.message.Message.{Message}
use Rattle.envelope.specs.declared.message.Envelope.{Envelope}
use Rattle.envelope.specs.declared.message.Envelope.TheVariants.{Letter, Settle}
use Rattle.activities.specs.declared.input.Input.{Input}
use Rattle.activities.specs.declared.input.Input.TheVariants.{FromSeat, FromEntity}
use Rattle.activities.specs.declared.input.JournalRow.{JournalRow}
use Rattle.activities.specs.Follow.{HasNextNumber}
use Rattle.activities.specs.Journal.{sent_of, letters_of, handled_of}
use Rattle.activities.specs.Numbered.{IsPrefixOf}
use Rattle.activities.specs.Service.{Service}
use Rattle.activities.proofs.Journals.{sent_of-grows, handled_of-grows, letters_of-command, letters_of-cases}
use Rattle.activities.proofs.Prefixes.{prefix-same}
use Rattle.activities.proofs.Sameness.{either}
use Rattle.laws_journals.specs.Growth.{IsFrom}
use Rattle.keep.specs.Tables.{Messages, set_message, set_mark}
use Rattle.outbox.specs.Numbering.{pair_between}
use Rattle.endpoint.specs.Deeds.{Kept, Deed, Nothing, TakesIn, Holds, Settles, Did, held_after, or_else, with_held}
use Rattle.laws_stores.specs.Deeds.{DeedIs}

-- ---- what was sent

pub did_sent : {S C : Type 0} (s : Service S C) (x y : Kept C) (d : Deed C) → Did s x d y → (p : Pair)
    → IsPrefixOf (sent_of s.reactions x.journal p) (sent_of s.reactions y.journal p)
did_sent s x y Nothing did p = prefix-same _ _ (ap (λ (k : Kept _). sent_of s.reactions k.journal p) (sym did))
did_sent s x y (TakesIn row) did p = rw did.0.appended (sent_of-grows s.reactions x.journal (row ∷ []) p)
did_sent s x y (Holds l) did p = prefix-same _ _ (ap (λ (k : Kept _). sent_of s.reactions k.journal p) (sym did.2))
did_sent s x y (Settles q n) did p = prefix-same _ _ (ap (λ (k : Kept _). sent_of s.reactions k.journal p) (sym did.2))

-- ---- what was handled

pub did_handled : {S C : Type 0} (s : Service S C) (x y : Kept C) (d : Deed C) → Did s x d y → (p : Pair)
    → handled_of x.journal p ≤ handled_of y.journal p
did_handled s x y Nothing did p = let e = ap (λ (k : Kept _). handled_of k.journal p) did in omega (arith, e)
did_handled s x y (TakesIn row) did p = rw did.0.appended (handled_of-grows x.journal (row ∷ []) p)
did_handled s x y (Holds l) did p = let e = ap (λ (k : Kept _). handled_of k.journal p) did.2 in omega (arith, e)
did_handled s x y (Settles q n) did p = let e = ap (λ (k : Kept _). handled_of k.journal p) did.2 in omega (arith, e)

-- a pair handled nothing more, or its next letter, which has this property
abbrev pub HandlesNext : (Envelope → Type 0) → Pair → (before later : List (ℕ × Message)) → Type 0
HandlesNext P p before later = (later ≡ before) ⊎ ((m : Message) × (later ≡ before ++ (suc (length before), m) ∷ [])
    × P (Letter (record { pair = p; number = suc (length before); message = m })))

row_letters : {C : Type 0} (P : Envelope → Type 0) (rows : List (JournalRow C)) (e : Entity) (input : Input C)
    → HasNextNumber rows e input
    → IsFrom P e input
    → (p : Pair) → HandlesNext P p (letters_of rows p) (letters_of (rows ++ record { entity = e; input = input } ∷ [])
    p)
row_letters P rows e (FromSeat seat c) next from p = inl (letters_of-command rows e seat c p)
row_letters {C} P rows e (FromEntity s n m) next from p =
    either (letters_of-cases rows (pair_between s e) n m p) inl (λ h. let o = own h.0 h.1 h.2 in inr (m, o.0, o.1))
  where
    own : p.from ≡ s → p.to ≡ e
        → letters_of (rows ++ record { entity = e; input = FromEntity s n m } ∷ []) p ≡ letters_of rows p ++ (n, m) ∷ []
        → (letters_of (rows ++ record { entity = e; input = FromEntity s n m } ∷ []) p
        ≡ letters_of rows p ++ (suc (handled_of rows p), m) ∷ [])
        × P (Letter (record { pair = p; number = suc (handled_of rows p); message = m }))
    own f t letters =
        let same : pair_between s e ≡ p = λ i. record { from = sym f i; to = sym t i } in
        let number : n ≡ suc (handled_of rows p) = subst (λ q. n ≡ suc (handled_of rows q)) same next in
        let here : P (Letter (record { pair = p; number = n; message = m })) =
        subst (λ q. P (Letter (record { pair = q; number = n; message = m }))) same from in (
          rw (← number) letters,
          subst (λ (k : ℕ). P (Letter (record { pair = p; number = k; message = m }))) number
              here,
        )

pub did_letters : {S C : Type 0} (s : Service S C) (P : Envelope → Type 0) (x y : Kept C) (d : Deed C) → Did s x d y
    → DeedIs P d
    → (p : Pair) → HandlesNext P p (letters_of x.journal p) (letters_of y.journal p)
did_letters s P x y Nothing did a p = inl (ap (λ (k : Kept _). letters_of k.journal p) did)
did_letters s P x y (TakesIn row) did a p =
    rw did.0.appended (row_letters P x.journal row.entity row.input did.0.follows.next a p)
did_letters s P x y (Holds l) did a p = inl (ap (λ (k : Kept _). letters_of k.journal p) did.2)
did_letters s P x y (Settles q n) did a p = inl (ap (λ (k : Kept _). letters_of k.journal p) did.2)

-- ---- marks

mark_is : (q : Pair) (v : ℕ) (marks : Pair → ℕ) (p : Pair) (b : Bool) → same_pair q p ≡ b
    → (set_mark q v marks p ≡ marks p) ⊎ ((q ≡ p) × (set_mark q v marks p ≡ v))
mark_is q v marks p true e = inr ((same_pair-Decides q p).0 e, rw e refl)
mark_is q v marks p false e = inl (rw e refl)

-- a mark stays, or is raised to a number that has this property
pub did_settled : {S C : Type 0} (s : Service S C) (P : Envelope → Type 0) (x y : Kept C) (d : Deed C) → Did s x d y
    → DeedIs P d
    → (p : Pair) → (y.settled p ≡ x.settled p) ⊎ ((n : ℕ) × (y.settled p ≡ max (x.settled p) n) × P (Settle p n))
did_settled s P x y Nothing did a p = inl (ap (λ (k : Kept _). k.settled p) did)
did_settled s P x y (TakesIn row) did a p = inl (ap (λ marks. marks p) did.1)
did_settled s P x y (Holds l) did a p = inl (ap (λ (k : Kept _). k.settled p) did.2)
did_settled s P x y (Settles q n) did a p =
    let is : y.settled p ≡ set_mark q (max (x.settled q) n) x.settled p = ap (λ (k : Kept _). k.settled p) did.2 in
    either (mark_is q (max (x.settled q) n) x.settled p (same_pair q p) refl)
    (λ h. inl (is ∙ h))
    (λ h. inr (n, is ∙ h.1 ∙ ap (λ r. max (x.settled r) n) h.0, subst (λ r. P (Settle r n)) h.0 a))

-- ---- held letters

-- the tests for one pair and one number, both passed
pub both_same : (q p : Pair) (k n : ℕ) (b : Bool) → same_pair q p ≡ b → (same_pair q p && k == n) ≡ true → (q ≡ p)
    × (k ≡ n)
both_same q p k n true s e = ((same_pair-Decides q p).0 s, grind (arith, nat_tests, e, s))
both_same q p k n false s e = let z : false ≡ true = rw s at e in cc

message_is : (q : Pair) (k : ℕ) (o : Option Message) (held : Messages) (p : Pair) (n : ℕ) (m : Message) (b : Bool)
    → (same_pair q p && k == n) ≡ b → set_message q k o held p n ≡ Some m
    → (held p n ≡ Some m) ⊎ ((q ≡ p) × (k ≡ n) × (o ≡ Some m))
message_is q k o held p n m false e h = inl (rw e at h)
message_is q k o held p n m true e h =
    let there = both_same q p k n (same_pair q p) refl e in inr (there.0, there.1, rw e at h)

or_else-is : (a : Option Message) (m k : Message) → or_else a (Some m) ≡ Some k → (a ≡ Some k) ⊎ (m ≡ k)
or_else-is (Some x) m k h = inl h
or_else-is None m k h = inr (grind arith)

held_input : {C : Type 0} (e : Entity) (input : Input C) (held : Messages) (p : Pair) (n : ℕ) (m : Message)
    → held_after e input held p n ≡ Some m → held p n ≡ Some m
held_input e (FromSeat seat c) held p n m h = h
held_input e (FromEntity s k g) held p n m h = either (message_is (pair_between s e) k None held p n m _ refl h)
    (λ same. same)
    (λ none. let z : None ≡ Some m = none.2 in cc)

-- what is held was held before, or has this property
pub did_held : {S C : Type 0} (s : Service S C) (P : Envelope → Type 0) (x y : Kept C) (d : Deed C) → Did s x d y
    → DeedIs P d
    → (p : Pair) (n : ℕ) (m : Message) → y.held p n ≡ Some m
    → (x.held p n ≡ Some m) ⊎ P (Letter (record { pair = p; number = n; message = m }))
did_held s P x y Nothing did a p n m h = inl (sym (ap (λ (k : Kept _). k.held p n) did) ∙ h)
did_held s P x y (TakesIn row) did a p n m h =
    inl (held_input row.entity row.input x.held p n m (sym (ap (λ held. held p n) did.2) ∙ h))
did_held s P x y (Settles q k) did a p n m h = inl (sym (ap (λ (z : Kept _). z.held p n) did.2) ∙ h)
did_held s P x y (Holds l) did a p n m h =
    let is : with_held l x.held p n ≡ Some m = sym (ap (λ (k : Kept _). k.held p n) did.2) ∙ h in
    either (message_is l.pair l.number (or_else (x.held l.pair l.number) (Some l.message)) x.held p n m _ refl is)
    inl
    (λ q. either (or_else-is (x.held l.pair l.number) l.message m q.2)
    (λ old. inl (subst (λ k. x.held p k ≡ Some m) q.1 (subst (λ r. x.held r l.number ≡ Some m) q.0 old)))
    (λ new. inr (subst (λ k. P (Letter (record { pair = p; number = k; message = m }))) q.1
    (subst (λ r. P (Letter (record { pair = r; number = l.number; message = m }))) q.0
    (subst (λ g. P (Letter (record { pair = l.pair; number = l.number; message = g }))) new a)))))
