-- What a cursor tells stays true.
use Rattle.std.proofs.Common.{◌≡◌, ◌⊎◌, inl, inr, ℕ, zero, suc, ◌+◌, ◌<◌, ◌≤◌, Bool, true, false, List, [], ◌∷◌, length}
use Rattle.std.proofs.Common.{take, drop}
use Rattle.std.proofs.Common.{length-drop, ◌++◌}
use Rattle.std.proofs.Common.{Option, Some, None, Ordering, Less, Equal, Greater, refl, sym, ap, subst, ◌∙◌, arith}
use Rattle.std.proofs.Common.{length-append}
use Rattle.std.proofs.Common.{add-one, get_or}
use Rattle.std.specs.Prelude.{IsSome, max, nat_lt, if◌then◌else◌}
use Rattle.std.proofs.lemmas.Bool.{cases_Bool, cases_lt, lt-ltb, le-ltb}
use Rattle.std.proofs.lemmas.Bool.Decides.{Decides-ltb}
use Rattle.std.proofs.Math.Logic.{∥∥₁_elim}
use Rattle.std.proofs.Props.{props}
use Rattle.base.specs.Order.{same_pair}
use Rattle.base.specs.declared.pair.Pair.{Pair}
use Rattle.base.proofs.Entities.{same_pair-Decides}
use Rattle.envelope.specs.declared.message.Letter.{Letter}
use Rattle.envelope.specs.declared.message.Message.{Message}
use Rattle.activities.specs.Service.{Service}
use Rattle.activities.specs.Numbered.{nth}
use Rattle.activities.specs.Reaction.{Reactions, sent}
use Rattle.activities.specs.Journal.{part, sent_of}
use Rattle.activities.specs.declared.input.Input.{Input}
use Rattle.activities.specs.declared.input.JournalRow.{JournalRow}
use Rattle.activities.proofs.Journals.{part-append}
use Rattle.std.proofs.lemmas.List.{take-append-le, append-nil}
use Rattle.relay.specs.Parts.News.{SentBut, Skips}
use Rattle.keep.specs.declared.change.LetterPlace.{LetterPlace}
use Rattle.keep.specs.Listing.{place_of, IsAfter, IsNext, AreFirst}
use Rattle.keep.specs.Pages.{place_behind}
use Rattle.keep.specs.Places.{place_cmp, IsBefore}
use Rattle.keep.specs.Seen.{Seen, IsSound}
use Rattle.keep.specs.Tables.{Tables, Messages, set_mark}
use Rattle.keep.proofs.Places.{place_cmp-Equal, place_cmp-Greater}
use Rattle.outbox.specs.Rows.{above, unsettled_of}
use Rattle.endpoint.specs.Calls.{Stays, Finds}
use Rattle.endpoint.specs.Deeds.{Kept, kept, Deed, Nothing, TakesIn, Holds, Settles, Did}
use Rattle.endpoint.specs.Matches.{AllMatch}
use Rattle.relay.specs.Filling.{marks_of, unsent, due}
use Rattle.relay.specs.Knowing.{IsUpto, AllSent, KnowsRows, Knows, KnowsAll}
use Rattle.relay.specs.Parts.Pages.{AreSent, Jumps, StaysOrJumps}
use Rattle.relay.specs.declared.relay.Relay.{Relay}
use Rattle.relay.proofs.Letters.{due_no, due_yes}
use Rattle.relay.proofs.Places.{numbers_rise, gap, gap_over, pair_between_places}
use Rattle.relay.proofs.Sending.{marked}

-- ---- places

stands_at : (x a : LetterPlace) (o : Ordering) → place_cmp x a ≡ o → (IsBefore x a ⊎ (x ≡ a)) ⊎ IsBefore a x
stands_at x a Less e = inl (inl e)
stands_at x a Equal e = inl (inr (place_cmp-Equal x a e))
stands_at x a Greater e = inr (place_cmp-Greater x a e)

-- a place is up to another, or it comes after that
pub is_after : (after : Option LetterPlace) (x : LetterPlace) → IsUpto after x ⊎ IsAfter after x
is_after None x = inr tt
is_after (Some a) x = stands_at x a (place_cmp x a) refl

none_some : (o : Option Message) → o ≡ None → IsSome o → ⊥
none_some o e s = let z : false ≡ true = subst IsSome e s in cc

never_some : (o : Option Message) → (IsSome o → ⊥) → o ≡ None
never_some None h = refl
never_some (Some m) h = absurd (h refl)

module _ (messages : Messages) (m : Pair → ℕ) where
  not_unsent : (x : LetterPlace) → (IsSome (messages x.pair x.number) → x.number ≤ m x.pair)
      → unsent m messages x.pair x.number ≡ None
  not_unsent x low = elim (cases_Bool (nat_lt (m x.pair) x.number)) [
    | inl more ↦
        let late : m x.pair < x.number = (Decides-ltb (m x.pair) x.number).0 more in
        let none : messages x.pair x.number ≡ None =
        never_some (messages x.pair x.number) (λ some. let h = low some in absurd (omega (arith, h, late))) in
        ap (λ b. if b then messages x.pair x.number else None) more ∙ none
    | inr less ↦ ap (λ b. if b then messages x.pair x.number else None) less
  ]

  -- what is due behind the cursor is all that is due
  pub from_cursor : (after : Option LetterPlace) (n : ℕ) (ls : List Letter) → AllSent m messages after
      → AreFirst (unsent m messages) after n ls
      → AreFirst (unsent m messages) None n ls
  from_cursor None n ls sent are = are
  from_cursor (Some a) n ls sent are = gap (unsent m messages) None a n ls (λ x h. tt)
      (λ x h. elim (is_after (Some a) x) [ inl up ↦ inr (not_unsent x (λ some. sent x up some)) | inr late ↦ inl late ])
      are

  -- behind the next row that was sent
  row_sent : (after : Option LetterPlace) (l : Letter) → AllSent m messages after → IsNext messages after l
      → l.number ≤ m l.pair
      → AllSent m messages (Some (place_of l))
  row_sent after l sent next low = λ x up some. elim up [
    | inl before ↦ elim (is_after after x) [
      | inl old ↦ sent x old some
      | inr late ↦ absurd (none_some (messages x.pair x.number) (next.first x late before) some)
    ]
    | inr same ↦ subst (λ (y : LetterPlace). y.number ≤ m y.pair) (sym same) low
  ]

  -- and behind all rows of a page that were
  pub rows_sent : (n : ℕ) (after : Option LetterPlace) (page : ℕ) (rows : List Letter) → AreFirst messages after page rows
      → AreSent m (take n rows)
      → AllSent m messages after → AllSent m messages (place_behind after (take n rows))
  rows_sent zero after page rows are low sent = sent
  rows_sent (suc n) after page [] are low sent = sent
  rows_sent (suc n) after zero (l ∷ ls) are low sent = absurd are
  rows_sent (suc n) after (suc page) (l ∷ ls) are low sent =
      rows_sent n (Some (place_of l)) page ls are.1 low.1 (row_sent after l sent are.0 low.0)

  pub page_sent : (after : Option LetterPlace) (page : ℕ) (rows : List Letter) → AreFirst messages after page rows
      → AreSent m rows
      → AllSent m messages after → AllSent m messages (place_behind after rows)
  page_sent after page [] are low sent = sent
  page_sent after zero (l ∷ ls) are low sent = absurd are
  page_sent after (suc page) (l ∷ ls) are low sent =
      page_sent (Some (place_of l)) page ls are.1 low.1 (row_sent after l sent are.0 low.0)

  jumped : (here next : LetterPlace) → Jumps m (Some here) (Some next) → AllSent m messages (Some here)
      → AllSent m messages (Some next)
  jumped here next (pair, least, which) sent = λ x up some. elim (is_after (Some here) x) [
    | inl old ↦ sent x old some
    | inr late ↦ elim up [
      | inl before ↦
          let at : here.pair ≡ x.pair = pair_between_places here x next (sym pair) late before in
          let rise : here.number < x.number = numbers_rise here x at late in
          let below : x.number < next.number = numbers_rise x next (sym at ∙ sym pair) before in
          let marks : m here.pair ≡ m x.pair = ap m at in
          elim which [
            | inl same ↦ absurd (omega (arith, rise, below, same))
            | inr mark ↦ omega
                (arith, below, mark, marks)
          ]
      | inr is ↦
          let at : here.pair ≡ x.pair = sym pair ∙ sym (ap (λ (y : LetterPlace). y.pair) is) in
          let rise : here.number < x.number = numbers_rise here x at late in
          let there : x.number ≡ next.number = ap (λ (y : LetterPlace). y.number) is in
          let marks : m here.pair ≡ m x.pair = ap m at in
          elim which [
            | inl same ↦ absurd (omega (arith, rise, there, same))
            | inr mark ↦ omega
                (arith, there, mark, marks)
          ]
    ]
  ]

  jump : (here next : Option LetterPlace) → Jumps m here next → AllSent m messages here → AllSent m messages next
  jump None next j sent = absurd j
  jump (Some here) None j sent = absurd j
  jump (Some here) (Some next) j sent = jumped here next j sent

  -- and behind all of the last one's pair
  pub moved_sent : (here next : Option LetterPlace) → StaysOrJumps m here next → AllSent m messages here
      → AllSent m messages next
  moved_sent here next (inl same) sent = subst (λ (x : Option LetterPlace). AllSent m messages x) (sym same) sent
  moved_sent here next (inr j) sent = jump here next j sent

  -- what is due behind a place to which the cursor skips is what is due
  pub skip_first : (after next : Option LetterPlace) (n : ℕ) (ls : List Letter) → Skips m messages after next
      → AreFirst (unsent m messages) next n ls → AreFirst (unsent m messages) after n ls
  skip_first after next n ls skips are = gap_over (unsent m messages) after next n ls skips.0
      (λ x h. elim (is_after next x) [
        | inl up ↦ inr (not_unsent x (λ some. skips.1 x h up some))
        | inr late ↦ inl
            late
      ]) are

  pub skip_sent : (after next : Option LetterPlace) → Skips m messages after next → AllSent m messages after
      → AllSent m messages next
  skip_sent after next skips sent = λ x up some. elim (is_after after x) [
    | inl old ↦ sent x old some
    | inr late ↦ skips.1 x late up some
  ]

-- marks that rise tell no less
pub risen : (messages : Messages) (after : Option LetterPlace) (m n : Pair → ℕ) → ((p : Pair) → m p ≤ n p)
    → AllSent m messages after
    → AllSent n messages after
risen messages after m n rise sent =
    λ x up some. let low = sent x up some in let more = rise x.pair in omega (arith, low, more)

-- ---- marks after a filling

if_rises : (b : Bool) (k n : ℕ) → (b ≡ true → n ≤ k) → n ≤ (if b then k else n)
if_rises true k n h = h refl
if_rises false k n h = omega arith

set_rises : (m : Pair → ℕ) (l : Letter) → nat_lt (m l.pair) l.number ≡ true → (p : Pair)
    → m p ≤ set_mark l.pair l.number m p
set_rises m l e p =
    let under : m l.pair < l.number = (Decides-ltb (m l.pair) l.number).0 e in
    if_rises (same_pair l.pair p) l.number (m p)
    (λ same. let at : m l.pair ≡ m p = ap m ((same_pair-Decides l.pair p).0 same) in omega (arith, under, at))

pub marks_rise : (j : ℕ) (m : Pair → ℕ) (ls : List Letter) (p : Pair) → m p ≤ marked m (due j m ls) p
marks_rise zero m ls p = omega arith
marks_rise (suc j) m [] p = omega arith
marks_rise (suc j) m (l ∷ ls) p = elim (cases_Bool (nat_lt (m l.pair) l.number)) [
  | inl above ↦
      let first = set_rises m l above p in
      let rest = marks_rise j (set_mark l.pair l.number m) ls p in
      let cut : marked m (due (suc j) m (l ∷ ls)) p ≡ marked (set_mark l.pair l.number m)
      (due j (set_mark l.pair l.number m) ls) p =
      ap (λ (x : List Letter). marked m x p) (due_yes j m l ls above) in
      omega (arith, first, rest, cut)
  | inr below ↦
      let rest = marks_rise (suc j) m ls p in
      let cut : marked m (due (suc j) m (l ∷ ls)) p ≡ marked m (due (suc j) m ls) p =
      ap (λ (x : List Letter). marked m x p) (due_no (suc j) m l ls below) in
      omega (arith, rest, cut)
]

own_mark : (m : Pair → ℕ) (l : Letter) → set_mark l.pair l.number m l.pair ≡ l.number
own_mark m l = ap (λ b. if b then l.number else m l.pair) ((same_pair-Decides l.pair l.pair).1 refl)

not_above : (m : Pair → ℕ) (l : Letter) → nat_lt (m l.pair) l.number ≡ false → l.number ≤ m l.pair
not_above m l below = elim (cases_lt (m l.pair) l.number) [
  | inl less ↦ let z : true ≡ false = sym (lt-ltb (m l.pair) l.number less) ∙ below in cc
  | inr more ↦ more
]

-- where fewer were due than might be sent, each letter was
pub all_were_sent : (j : ℕ) (m : Pair → ℕ) (ls : List Letter) → length (due j m ls) < j
    → AreSent (marked m (due j m ls)) ls
all_were_sent zero m ls small = absurd (omega (arith, small))
all_were_sent (suc j) m [] small = tt
all_were_sent (suc j) m (l ∷ ls) small = elim (cases_Bool (nat_lt (m l.pair) l.number)) [
  | inl above ↦
      let cut = due_yes j m l ls above in
      let m' : Pair → ℕ = set_mark l.pair l.number m in
      let short : length (due j m' ls) < j = omega (arith, small, ap length cut) in
      let own = own_mark m l in
      let rise = marks_rise j m' ls l.pair in
      subst (λ (x : List Letter). AreSent (marked m x) (l ∷ ls)) (sym cut)
      (omega (arith, own, rise), all_were_sent j m' ls short)
  | inr below ↦
      let cut = due_no (suc j) m l ls below in
      let low : l.number ≤ m l.pair = not_above m l below in
      let rise = marks_rise (suc j) m ls l.pair in
      let short : length (due (suc j) m ls) < suc j = omega (arith, small, ap length cut) in
      subst (λ (x : List Letter). AreSent (marked m x) (l ∷ ls)) (sym cut)
      (omega (arith, low, rise), all_were_sent (suc j) m ls short)
]

-- ---- the letters before the first one that is due

one_sent : (m : Pair → ℕ) (letters : List Letter) (i : ℕ) (l : Letter) → i < length letters → l ≡ get_or letters i l
    → l.number ≤ m l.pair
    → AreSent m (take i letters) → AreSent m (take (suc i) letters)
one_sent m [] i l lt at low sent = absurd (omega (arith, lt))
one_sent m (x ∷ xs) zero l lt at low sent = (subst (λ (y : Letter). y.number ≤ m y.pair) at low, tt)
one_sent m (x ∷ xs) (suc i) l lt at low sent = (sent.0, one_sent m xs i l (omega (arith, lt)) at low sent.1)

-- one more letter at or below its mark is one more that was sent
pub counted_sent : (m : Pair → ℕ) (letters : List Letter) (n i : ℕ) (l : Letter) → i < length letters
    → l ≡ get_or letters i l
    → l.number ≤ m l.pair → n ≡ i
    → AreSent m (take n letters) → (n + 1 ≡ i + 1) × AreSent m (take (n + 1) letters)
counted_sent m letters n i l lt at low e sent = (
  ap (λ k. k + 1) e,
  subst (λ (k : ℕ). AreSent m (take (k + 1) letters)) (sym e)
      (rw add-one (one_sent m letters i l lt at low (subst (λ (k : ℕ). AreSent m (take k letters)) e sent))),
)

-- an order of numbers holds of equal ones
pub is_low : (a b x y : ℕ) → a ≡ x → b ≡ y → b ≤ a → y ≤ x
is_low a b x y e f h = omega (arith, e, f, h)

-- ---- relays

-- a relay without a cursor claims nothing, so it is right of any outbox
pub knows_start : (r : Relay) → r.rows ≡ 0 → r.behind ≡ None → (rows : ℕ) (messages : Messages)
    → KnowsRows r rows messages
knows_start r none start rows messages = (
  omega (arith, none),
  λ x up some. absurd (subst (λ (after : Option LetterPlace). IsUpto after x) start up),
)

-- the same cursor, and marks that rose
pub knows_risen : (r s : Relay) → s.rows ≡ r.rows → s.behind ≡ r.behind → ((p : Pair) → marks_of r p ≤ marks_of s p)
    → (rows : ℕ)
    (messages : Messages) → KnowsRows r rows messages → KnowsRows s rows messages
knows_risen r s same behind rise rows messages k =
    let least = k.0 in (
      omega (arith, least, same),
      risen messages s.behind (marks_of r) (marks_of s) rise
          (subst (λ (after : Option LetterPlace). AllSent (marks_of r) messages after) (sym behind) k.1),
    )

-- a settle only takes rows away
less_above : (mark more : ℕ) (messages : List Message) (n : ℕ) → mark ≤ more → IsSome (above more messages n)
    → IsSome (above mark messages n)
less_above mark more messages n h some = elim (cases_lt more n) [
  | inl less ↦
      let far : nat_lt mark n ≡ true = lt-ltb mark n (omega (arith, h, less)) in
      let near : nat_lt more n ≡ true = lt-ltb more n less in
      subst IsSome (ap (λ b. if b then nth messages n else None) (near ∙ sym far)) some
  | inr low ↦ absurd (none_some (above more messages n) (ap (λ b. if b then nth messages n else None)
      (le-ltb more n low)) some)
]

raised : (marks : Pair → ℕ) (p : Pair) (n : ℕ) (q : Pair) → marks q ≤ set_mark p (max (marks p) n) marks q
raised marks p n q = if_rises (same_pair p q) (max (marks p) n) (marks q)
    (λ same. let at : marks p ≡ marks q = ap marks ((same_pair-Decides p q).0 same) in omega (arith, at))

module _ {S C : Type 0} (service : Service S C) (r : Relay) where
  -- what any deed leaves is known
  pub deed_known : (x y : Kept C) (deed : Deed C) → Knows service r x → Did service x deed y → Knows service r y
  deed_known x y Nothing k did = subst (λ (z : Kept C). Knows service r z) (sym did) k
  deed_known x y (TakesIn row) k did =
      let least = k.0 in
      let long : length y.journal ≡ length x.journal + 1 =
      ap length did.0.appended ∙ length-append x.journal (row ∷ []) in
      let front : take r.rows y.journal ≡ take r.rows x.journal = ap (take r.rows) did.0.appended
      ∙ take-append-le r.rows x.journal (row ∷ []) least in (
        omega (arith, least, long),
        λ q up some.
            k.1 q up (subst (λ (marks : Pair
            → ℕ). IsSome (unsettled_of service.reactions (take r.rows x.journal) marks q.pair q.number))
            did.1
            (subst (λ (j : List (JournalRow C)). IsSome (unsettled_of service.reactions j y.settled q.pair q.number))
            front some)),
      )
  deed_known x y (Holds l) k did = subst (λ (z : Kept C). Knows service r z) (sym did.2) k
  deed_known x y (Settles p n) k did = subst (λ (z : Kept C). Knows service r z) (sym did.2) (
    k.0,
    λ q up some.
        k.1 q up (less_above (x.settled q.pair) (set_mark p (max (x.settled p) n) x.settled q.pair) _ q.number
        (raised x.settled p n q.pair) some),
  )

  pub knows-prop : (k : Kept C) → IsProp (Knows service r k)
  knows-prop k = hlevel props

  -- what a reopening finds is known
  pub found_known : {E : Type 0} (seen : E → Seen (Tables S C)) (old new : E) → (seen new).doubt ≡ 0
      → Finds seen old new
      → AllMatch service (seen new).may_leave
      → KnowsAll service r (seen old).may_leave → KnowsAll service r (seen new).may_leave
  found_known seen old new clean finds good known =
      (good, λ t l. ∥∥₁_elim (finds clean t l) (knows-prop (kept t)) (λ was. known.1 t was))

all_taken : {A : Type 0} (xs : List A) → take (length xs) xs ≡ xs
all_taken [] = refl
all_taken (x ∷ xs) = ap (λ ys. x ∷ ys) (all_taken xs)

all_within : {A : Type 0} (n : ℕ) (xs : List A) → length xs ≤ n → take n xs ≡ xs
all_within zero [] h = refl
all_within zero (x ∷ xs) h = absurd (omega (arith, h))
all_within (suc n) [] h = refl
all_within (suc n) (x ∷ xs) h = ap (λ ys. x ∷ ys) (all_within n xs (omega (arith, h)))

parted : {A : Type 0} (n : ℕ) (xs : List A) → take n xs ++ drop n xs ≡ xs
parted zero xs = refl
parted (suc n) [] = refl
parted (suc n) (x ∷ xs) = ap (λ ys. x ∷ ys) (parted n xs)

-- the rows behind so many, where they aren't more than were read
pub behind_rows : {A : Type 0} (xs ys : List A) (r i limit : ℕ) → i ≡ r → length xs ≤ r + limit
    → ys ≡ take limit (drop i xs)
    → xs ≡ take r xs ++ ys
behind_rows {A} xs ys r i limit at small read =
    let long = length-drop r xs in
    sym (parted r xs) ∙ ap (λ (zs : List A). take r xs ++ zs)
    (sym (read ∙ ap (λ k. take limit (drop k xs)) at ∙ all_within limit (drop r xs) (omega (arith, long, small))))

-- no rows are there behind all
pub no_more_rows : {A : Type 0} (xs : List A) (r : ℕ) → r ≡ length xs → xs ≡ take r xs ++ []
no_more_rows xs r all = sym (append-nil (take r xs) ∙ ap (λ n. take n xs) all ∙ all_taken xs)

-- rows of others send nothing of a pair
sent_of_none : {S C : Type 0} (t : Reactions S C) (rows news : List (JournalRow C)) (p : Pair) → part p.from news ≡ []
    → sent_of t (rows ++ news) p ≡ sent_of t rows p
sent_of_none {S} {C} t rows news p none = ap (λ (inputs : List (Input C)). sent t inputs p.to)
    (part-append p.from rows news ∙ ap (λ (inputs : List (Input C)). part p.from rows ++ inputs) none
    ∙ append-nil (part p.from rows))

module _ {E S C : Type 0} (seen : E → Seen (Tables S C)) (sound : (k : E) → IsSound (seen k)) (service : Service S C)
  where
    abbrev journal_of : E → ℕ
    journal_of k = length (seen k).tables.journal

    -- of what stands up to the cursor all was sent but what rows sent that the journal hasn't had then
    pub known_but : (k : E) (r : Relay) (news : List (JournalRow C)) → (seen k).usable ≡ true → (seen k).doubt ≡ 0
        → KnowsAll service r (seen k).may_leave
        → (seen k).tables.journal ≡ take r.rows (seen k).tables.journal ++ news
        → SentBut news (marks_of r) (seen k).tables.unsettled r.behind
    known_but k r news up clean known cut =
        let t : Tables S C = (seen k).tables in
        let here = (sound k).stays clean up in
        let matches = known.0 t here in
        λ x upto none some.
        let front : sent_of service.reactions t.journal x.pair ≡ sent_of service.reactions (take r.rows t.journal)
        x.pair
        =
        ap (λ (j : List (JournalRow C)). sent_of service.reactions j x.pair) cut
        ∙ sent_of_none service.reactions (take r.rows t.journal) news x.pair none in
        (known.1 t here).1 x upto (subst (λ (ms : List Message). IsSome (above (t.settled x.pair) ms x.number)) front
        (subst IsSome (matches.unsettled x.pair x.number) some))

    -- the same cursor, with marks that rose, of what is left
    pub known_still : (old new : E) (r s : Relay) → (seen new).doubt ≡ 0 → Stays seen old new
        → KnowsAll service r (seen old).may_leave
        → s.rows ≡ r.rows → s.behind ≡ r.behind → ((p : Pair) → marks_of r p ≤ marks_of s p)
        → KnowsAll service s (seen new).may_leave
    known_still old new r s clean stays known rows behind rise = (
      λ t l. known.0 t (stays clean t l),
      λ t l.
          let k = known.1 t (stays clean t l) in
          knows_risen r s rows behind rise (length t.journal) (unsettled_of service.reactions (take s.rows t.journal)
          t.settled)
          (subst (λ n. KnowsRows r (length t.journal) (unsettled_of service.reactions (take n t.journal) t.settled))
          (sym rows) k),
    )

    -- and the cursor is right again of each content
    pub known_again : (old new : E) (r s : Relay) → (seen old).usable ≡ true → (seen old).doubt ≡ 0
        → (seen new).doubt ≡ 0
        → Stays seen old new → KnowsAll service r (seen old).may_leave → s.rows ≡ journal_of old
        → AllSent (marks_of s) (seen old).tables.unsettled s.behind → KnowsAll service s (seen new).may_leave
    known_again old new r s up clean0 clean stays known long sent = (
      λ t l. known.0 t (stays clean t l),
      λ t l.
          subst (λ (z : Tables S C). Knows service s (kept z)) (sym ((sound old).only_now clean0 up t
          (stays clean t l))) (
            omega (arith, long),
            λ x upto some. sent x upto (subst IsSome (sym ((known.0 (seen old).tables
                ((sound old).stays clean0 up)).unsettled x.pair
                x.number)) (subst (λ (j : List (JournalRow C)).
                IsSome (unsettled_of service.reactions j (seen old).tables.settled x.pair x.number))
                (ap (λ n. take n (seen old).tables.journal) long ∙ all_taken (seen old).tables.journal) some)),
          ),
    )
