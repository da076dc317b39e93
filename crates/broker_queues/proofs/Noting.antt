-- The messages of a subscriber's deliveries are noted, one after another.
use Rattle.std.proofs.Common.{◌≡◌, ◌<◌, ℕ, Bool, true, false, ◌||◌, List, [], ◌∷◌, ◌++◌, zero, suc, length, get_or}
use Rattle.std.proofs.Common.{take, append_assoc}
use Rattle.std.proofs.Common.{Option, Some, refl, sym, ap, ◌∙◌, arith, inl, inr}
use Rattle.std.specs.Prelude.{◌==◌, ◌⊎◌, ◌+◌}
use Rattle.std.proofs.lemmas.Bool.{cases_Bool, eqb-true, eq-eqb}
use Rattle.std.proofs.lemmas.List.{append-nil, get_or_default}
use Rattle.std.proofs.lemmas.List.Folds.{list_any-append}
use Rattle.broker_book.specs.declared.parts.Subscription.{Subscription}
use Rattle.broker_book.specs.Books.{Fate, out_to}
use Rattle.broker_index.specs.Index.{Kept, Subscriber}
use Rattle.broker_index.specs.declared.places.Entry.{Entry}
use Rattle.broker_queues.specs.declared.transactions.Logged.{Logged}
use Rattle.broker_queues.specs.Parts.Begun.{Noted, NotesIf, NotesIt}
use Rattle.broker_queues.specs.Parts.Fates.{counts_in, fate_of_kept, passes}
use Rattle.broker_queues.specs.Parts.Facts.{kept_at, subscriber_at, notes}
use Rattle.broker_queues.specs.Parts.Undoing.{is_out_fate, mentions, AreTrue}
use Rattle.broker_queues.specs.Parts.Whole.{Holding}
use Rattle.broker_queues.proofs.Begun.{held_append}
use Rattle.broker_queues.proofs.Subscribing.{IsOut, is_out}
use Rattle.broker_queues.proofs.Turning.{counts_out, take_next}

-- nothing is noted yet
pub noted_none : (h : Holding) (s : Subscriber) (answered : Option ℕ) (log : List Logged)
    → Noted h s answered [] log log
noted_none h s answered log = record {
  later = [];
  more = sym (append-nil log);
  holds = tt;
  held = tt;
  all = λ n k there on never. (let no : false ≡ true = never in cc);
}

-- what was noted of some deliveries was noted of none
pub noted_less : (h : Holding) (s : Subscriber) (answered : Option ℕ) (es : List Entry) (log now : List Logged)
    → Noted h s answered es log now → Noted h s answered [] log now
noted_less h s answered es log now n = record {
  later = n.later;
  more = n.more;
  holds = n.holds;
  held = n.held;
  all = λ m k there on never. (let no : false ≡ true = never in cc);
}

true_append : (kept : List Kept) (log later : List Logged) → AreTrue kept log → AreTrue kept later
    → AreTrue kept (log ++ later)
true_append kept [] later are more = more
true_append kept (e ∷ log) later are more = (are.0, are.1, true_append kept log later are.2 more)

-- a delivery in a list is noted
pub notes_at : (es : List Entry) (i : ℕ) (d : Entry) → i < length es → notes (get_or es i d).number es ≡ true
notes_at [] i d short = absurd (omega arith)
notes_at (e ∷ es) zero d short = rw (eq-eqb e.number e.number refl) refl
notes_at (e ∷ es) (suc i) d short = elim (cases_Bool (e.number == (get_or es i d).number)) [
  | inl on ↦ rw on refl
  | inr off ↦ rw off (notes_at es i d (omega arith))
]

-- what is out to a subscription is out
out_is_out : (x : ℕ) (i : List ℕ) (f : Option Fate) → passes (out_to x i) f ≡ true → passes is_out_fate f ≡ true
out_is_out x i f on = let o : IsOut x i f = is_out x i f on in rw o.out refl

module _ (h : Holding) (age : ℕ) (s : Subscriber) (answered : Option ℕ) (es : List Entry) (e : Entry)
    (log mid new : List Logged)
    (sits : subscriber_at age h.subscribers ≡ Some s) (n : Noted h s answered es log mid) where
  test : Fate → Bool
  test = counts_in s.subscription answered

  in_some : (m : ℕ) → (e.number == m) ≡ false → notes m (es ++ e ∷ []) ≡ true → notes m es ≡ true
  in_some m off noted =
      let both : (notes m es || ((e.number == m) || false)) ≡ true =
      sym (list_any-append (λ e. e.number == m) es (e ∷ [])) ∙ noted in
      let plain : (notes m es || (false || false)) ≡ true = rw off at both in
      or_none (notes m es) plain
    where
      or_none : (b : Bool) → (b || (false || false)) ≡ true → b ≡ true
      or_none true on = refl
      or_none false on = on

  -- the next one's message is noted
  more_noted : passes (counts_in s.subscription answered) (fate_of_kept (kept_at e.number h.kept)) ≡ true
      → notes e.number s.entries ≡ true
      → NotesIt h.kept e age mid new → Noted h s answered (es ++ e ∷ []) log new
  more_noted on among it =
      let out : IsOut s.subscription.session s.subscription.id (fate_of_kept (kept_at e.number h.kept)) =
      is_out s.subscription.session s.subscription.id (fate_of_kept (kept_at e.number h.kept))
      (counts_out s.subscription answered (fate_of_kept (kept_at e.number h.kept)) on) in
      record {
        later = n.later ++ it.it ∷ [];
        more = it.more ∙ ap (λ l. l ++ it.it ∷ []) n.more ∙ append_assoc log n.later (it.it ∷ []);
        holds = true_append h.kept n.later (it.it ∷ []) n.holds (
          ap (λ m. fate_of_kept (kept_at m h.kept)) it.number ∙ sym it.fate,
          ap (λ f. passes is_out_fate f) it.fate ∙ rw out.out refl,
          tt,
        );
        held = held_append h.subscribers n.later (it.it ∷ []) n.held (
          record {
            holder = s;
            there = ap (λ b. subscriber_at b h.subscribers) it.age ∙ sits;
            ack = out.ack;
            fate = it.fate ∙ out.out;
            noted = ap (λ m. notes m s.entries) it.number ∙ among;
          },
          tt,
        );
        all = λ m k there passed noted. mentioned m k there passed noted (cases_Bool (e.number == m));
      }
    where
      mentioned : (m : ℕ) (k : Kept) → kept_at m h.kept ≡ Some k
          → passes (counts_in s.subscription answered) k.fate ≡ true
          → notes m (es ++ e ∷ []) ≡ true → ((e.number == m) ≡ true) ⊎ ((e.number == m) ≡ false)
          → mentions m (n.later ++ it.it ∷ []) ≡ true
      mentioned m k there passed noted which = list_any-append (λ l. l.number == m) n.later (it.it ∷ []) ∙ elim which [
        | inl same ↦ rw (it.number, same) (or_true (mentions m n.later))
        | inr other ↦ rw (n.all m k there passed (in_some m other noted)) refl
      ]
        where
          or_true : (b : Bool) → (b || (true || false)) ≡ true
          or_true true = refl
          or_true false = refl

  -- no answer counts for it
  none_noted : passes (counts_in s.subscription answered) (fate_of_kept (kept_at e.number h.kept)) ≡ false → new ≡ mid
      → Noted h s answered (es ++ e ∷ []) log new
  none_noted off same = record {
    later = n.later;
    more = same ∙ n.more;
    holds = n.holds;
    held = n.held;
    all = λ m k there passed noted. n.all m k there passed (elim (cases_Bool (e.number == m)) [
      | inl is ↦
          let number : e.number ≡ m = eqb-true e.number m is in
          let never : false ≡ true =
          sym off ∙ ap (λ l. passes (counts_in s.subscription answered) (fate_of_kept (kept_at l h.kept))) number
          ∙ ap (λ o. passes (counts_in s.subscription answered) (fate_of_kept o)) there ∙ passed in cc
      | inr other ↦ in_some m other noted
    ]);
  }

  pub noted_next : notes e.number s.entries ≡ true
      → NotesIf h.kept e age mid new (passes (counts_in s.subscription answered)
      (fate_of_kept (kept_at e.number h.kept)))
      → Noted h s answered (es ++ e ∷ []) log new
  noted_next among notes_it =
      by_test (passes (counts_in s.subscription answered) (fate_of_kept (kept_at e.number h.kept))) refl notes_it
    where
      by_test : (b : Bool) → passes (counts_in s.subscription answered) (fate_of_kept (kept_at e.number h.kept)) ≡ b
          → NotesIf h.kept e age mid new b → Noted h s answered (es ++ e ∷ []) log new
      by_test true is it = more_noted is among it
      by_test false is same = none_noted is same

-- the same, by what each step of the code says
pub noted_entry : (h : Holding) (age : ℕ) (s u : Subscriber) (answered : Option ℕ) (es : List Entry)
    (sub : Subscription) (index : ℕ)
    (d : Entry) (log mid new : List Logged) → subscriber_at age h.subscribers ≡ Some s
    → Some u ≡ subscriber_at age h.subscribers
    → es ≡ u.entries → sub ≡ u.subscription → index < length es → Noted h s answered (take index s.entries) log mid
    → NotesIf h.kept (get_or es index d) age mid new
    (passes (counts_in sub answered) (fate_of_kept (kept_at (get_or es index d).number h.kept)))
    → Noted h s answered (take (index + 1) s.entries) log new
noted_entry h age s u answered es sub index d log mid new sits there list own short n notes_it =
    let both : Some u ≡ Some s = there ∙ sits in
    let it : u ≡ s = cc in
    let same : es ≡ s.entries = list ∙ ap (λ (v : Subscriber). v.entries) it in
    let same_sub : sub ≡ s.subscription = own ∙ ap (λ (v : Subscriber). v.subscription) it in
    let short2 : index < length s.entries = rw same at short in
    let e : Entry = get_or s.entries index d in
    let notes2 : NotesIf h.kept (get_or s.entries index d) age mid new
    (passes (counts_in s.subscription answered) (fate_of_kept (kept_at (get_or s.entries index d).number h.kept))) =
    rw (same, same_sub) at notes_it in
    rw (take_next s.entries index (get_or s.entries index d) short2 (get_or_default s.entries index
    (get_or s.entries index d) d short2))
    (noted_next h age s answered (take index s.entries) (get_or s.entries index d) log mid new sits n
    (notes_at s.entries index d short2) notes2)
