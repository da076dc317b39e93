-- A filling, letter by letter.
use Rattle.std.proofs.Common.{◌≡◌, ℕ, zero, suc, ◌+◌, ◌-◌, ◌<◌, ◌≤◌, true, false, List, [], ◌∷◌, ◌++◌, length, drop}
use Rattle.std.proofs.Common.{refl, sym, ap}
use Rattle.std.proofs.Common.{subst, ◌∙◌, arith, append_assoc, append-nil, length-append, Ok, Err}
use Rattle.std.proofs.Common.{add-one, zero-add, get_or}
use Rattle.std.specs.Prelude.{nat_lt}
use Rattle.std.proofs.lemmas.Bool.{lt-ltb, le-ltb}
use Rattle.std.proofs.lemmas.List.{drop_all}
use Rattle.std.proofs.Math.Seq.{drop-cons}
use Rattle.base.specs.declared.pair.Pair.{Pair}
use Rattle.envelope.specs.declared.message.Letter.{Letter}
use Rattle.keep.specs.Tables.{set_mark}
use Rattle.stomp_client.specs.declared.session.Stage.TheVariants.{Connected}
use Rattle.relay.specs.declared.fault.RelayFault.{RelayFault}
use Rattle.relay.specs.Filling.{SendState, due, SendsLetters, StopsSending}
use Rattle.relay.specs.Calls.{FillsLetters}
use Rattle.relay.specs.Parts.Pages.{IsFilling}
use Rattle.relay.proofs.Sending.{sends_none, sends_append}

pub due_no : (k : ℕ) (m : Pair → ℕ) (l : Letter) (ls : List Letter) → nat_lt (m l.pair) l.number ≡ false
    → due k m (l ∷ ls) ≡ due k m ls
due_no zero m l ls e = refl
due_no (suc k) m l ls e = rw e refl

pub due_yes : (k : ℕ) (m : Pair → ℕ) (l : Letter) (ls : List Letter) → nat_lt (m l.pair) l.number ≡ true
    → due (suc k) m (l ∷ ls) ≡ l ∷ due k (set_mark l.pair l.number m) ls
due_yes k m l ls e = rw e refl

none_due : (k : ℕ) (m : Pair → ℕ) → due k m [] ≡ []
none_due zero m = refl
none_due (suc k) m = refl

module _ (limit : ℕ) (letters : List Letter) (old : SendState) where
  pub start : old.client.stage ≡ Connected → IsFilling limit letters old old 0 letters
  start stage = record {
    done = [];
    whole = λ k. ap (λ n. due n old.marks letters) (zero-add k);
    number = refl;
    within = omega arith;
    sends = sends_none old;
    stage = stage;
  }

  module _ (now : SendState) (count : ℕ) where
    finished : (rest : List Letter) (f : IsFilling limit letters old now count rest) (k : ℕ) → count + k ≡ limit
        → due k now.marks rest ≡ []
        → FillsLetters limit letters old now (Ok count)
    finished rest f k at none =
        let all : due limit old.marks letters ≡ f.done = ap (λ n. due n old.marks letters) (sym at) ∙ f.whole k
        ∙ ap (λ (x : List Letter). f.done ++ x) none ∙ append-nil f.done in
        (f.number ∙ ap length (sym all), subst (λ (x : List Letter). SendsLetters x old now) (sym all) f.sends)

    pub at_limit : (rest : List Letter) → IsFilling limit letters old now count rest → count ≡ limit
        → FillsLetters limit letters old now (Ok count)
    at_limit rest f e = finished rest f 0 (omega (arith, e)) refl

    pub at_end : (rest : List Letter) → IsFilling limit letters old now count rest → rest ≡ []
        → FillsLetters limit letters old now (Ok count)
    at_end rest f e = let within = f.within in
        finished rest f (limit - count) (omega (arith, within))
        (ap (λ x. due (limit - count) now.marks x) e ∙ none_due (limit - count) now.marks)

    module _ (l : Letter) (ls rest : List Letter) (cut : rest ≡ l ∷ ls) (f : IsFilling limit letters old now count rest)
      where
        pub skip : nat_lt (now.marks l.pair) l.number ≡ false → IsFilling limit letters old now count ls
        skip e = record {
          done = f.done;
          whole = λ k. f.whole k ∙ ap (λ (x : List Letter). f.done ++ due k now.marks x) cut
              ∙ ap (λ (x : List Letter). f.done ++ x) (due_no k now.marks l ls e);
          number = f.number;
          within = f.within;
          sends = f.sends;
          stage = f.stage;
        }

        next_due : nat_lt (now.marks l.pair) l.number ≡ true → (k : ℕ)
            → due (count + suc k) old.marks letters ≡ f.done ++ l ∷ due k (set_mark l.pair l.number now.marks) ls
        next_due e k = f.whole (suc k) ∙ ap (λ (x : List Letter). f.done ++ due (suc k) now.marks x) cut
            ∙ ap (λ (x : List Letter). f.done ++ x) (due_yes k now.marks l ls e)

        pub send : count < limit → nat_lt (now.marks l.pair) l.number ≡ true → (next : SendState)
            → SendsLetters (l ∷ []) now next
            → IsFilling limit letters old next (count + 1) ls
        send small e next sends =
            let marks : next.marks ≡ set_mark l.pair l.number now.marks = ap (λ (x : SendState). x.marks) sends.all in
            record {
              done = f.done ++ l ∷ [];
              whole = λ k. ap (λ n. due n old.marks letters) (omega arith) ∙ next_due e k
                  ∙ ap (λ (x : Pair → ℕ). f.done ++ l ∷ due k x ls) (sym marks)
                  ∙ sym (append_assoc f.done (l ∷ []) (due k next.marks ls));
              number = omega (arith, f.number, length-append f.done (l ∷ []));
              within = omega (arith, small);
              sends = sends_append f.done (l ∷ []) old now next f.sends sends;
              stage = ap (λ (x : SendState). x.client.stage) sends.all ∙ f.stage;
            }

        pub stopped : (fault : RelayFault) → count < limit → nat_lt (now.marks l.pair) l.number ≡ true
            → (next : SendState) → next ≡ now
            → StopsSending now.client.receipts.last fault → FillsLetters limit letters old next (Err fault)
        stopped fault small e next same stops =
            let done : due count old.marks letters ≡ f.done =
            ap (λ n. due n old.marks letters) (omega arith) ∙ f.whole 0 ∙ append-nil f.done in
            let more : due (count + 1) old.marks letters ≡ f.done ++ l ∷ [] =
            ap (λ n. due n old.marks letters) (omega arith) ∙ next_due e 0 in
            let number = f.number in (
              count,
              small,
              omega (arith, number, ap length more, length-append f.done (l ∷ [])),
              subst (λ (x : SendState). SendsLetters (due count old.marks letters) old x) (sym same)
                  (subst (λ (x : List Letter). SendsLetters x old now) (sym done) f.sends),
              subst (λ (x : SendState). StopsSending x.client.receipts.last fault) (sym same) stops,
            )

-- the test answers true where the first number is lower
pub is_so : (a b x y : ℕ) → a ≡ x → b ≡ y → a < b → nat_lt x y ≡ true
is_so a b x y e f h = ap (λ z. nat_lt z y) (sym e) ∙ ap (λ z. nat_lt a z) (sym f) ∙ lt-ltb a b h

-- the test answers false where the first number isn't lower
pub is_not : (a b x y : ℕ) → a ≡ x → b ≡ y → b ≤ a → nat_lt x y ≡ false
is_not a b x y e f h = ap (λ z. nat_lt z y) (sym e) ∙ ap (λ z. nat_lt a z) (sym f) ∙ le-ltb a b h

-- the letters from a place on are the one there and those after it
pub letter_at : (letters : List Letter) (i : ℕ) (l : Letter) → i < length letters → l ≡ get_or letters i l
    → drop i letters ≡ l ∷ drop (i + 1) letters
letter_at letters i l lt at = rw add-one (drop-cons letters i l lt ∙ ap (λ r. r ∷ drop (suc i) letters) (sym at))

-- after the last letter there is none
pub none_left : (letters : List Letter) (i : ℕ) → length letters ≤ i → drop i letters ≡ []
none_left letters i h = drop_all i letters h
