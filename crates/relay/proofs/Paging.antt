-- A filling, page by page.
use Rattle.std.proofs.Common.{◌≡◌, ◌≢◌, ◌⊎◌, inl, inr, ℕ, ◌+◌, ◌-◌, ◌<◌, ◌≤◌, List, [], ◌∷◌, ◌++◌, length, Option, Some}
use Rattle.std.proofs.Common.{None}
use Rattle.std.proofs.Common.{Ok, Err, Ordering, Less, Equal, Greater, refl, sym, ap, subst, ◌∙◌, arith, append_assoc}
use Rattle.std.proofs.Common.{append-nil}
use Rattle.std.proofs.Common.{length-append, add-one, take, true≢false, Bool, true, false, Result}
use Rattle.std.specs.Prelude.{⊤}
use Rattle.base.specs.declared.pair.Pair.{Pair}
use Rattle.envelope.specs.declared.message.Letter.{Letter}
use Rattle.keep.specs.declared.change.LetterPlace.{LetterPlace}
use Rattle.keep.specs.Law.{Reads}
use Rattle.keep.specs.Listing.{place_of, AreFirst}
use Rattle.keep.specs.Pages.{place_behind}
use Rattle.keep.specs.Seen.{Seen, Cause, End, no_memory, failed, unusable, refused}
use Rattle.keep.specs.Tables.{Tables, Messages}
use Rattle.keep.proofs.Arms.{then_served, then_failed}
use Rattle.keep.proofs.PageLaws.{short_page_is_last}
use Rattle.keep.proofs.Places.{place_cmp-Equal, place_cmp-Greater}
use Rattle.keep.specs.Places.{place_cmp, place_cmp-total, IsBefore}
use Rattle.std.proofs.lemmas.Bool.{cases_eq}
use Rattle.stomp_client.specs.declared.session.Stage.TheVariants.{Connected}
use Rattle.endpoint.specs.Calls.{Stays}
use Rattle.endpoint.specs.declared.fault.EndFault.{EndFault}
use Rattle.relay.specs.declared.fault.RelayFault.{RelayFault}
use Rattle.relay.specs.declared.fault.RelayFault.TheVariants.{Client, Envelope, Endpoint}
use Rattle.relay.specs.Filling.{SendState, marks_of, send_state, due, unsent, SendsLetters, StopsSending}
use Rattle.relay.specs.Calls.{FillsLetters, Fills, StopsBehind, store_end}
use Rattle.endpoint.specs.Faults.{end_cause, end_of}
use Rattle.relay.specs.Knowing.{AllSent}
use Rattle.activities.specs.declared.input.JournalRow.{JournalRow}
use Rattle.relay.specs.Parts.News.{SentBut, Skips}
use Rattle.relay.specs.Parts.Pages.{FillsPage, HasFilled, HasRead, Jumps, StaysOrJumps, AreSent}
use Rattle.relay.proofs.Sending.{marked, marks_after, stage_after, sends_none, sends_append}
use Rattle.relay.proofs.Places.{numbers_rise, gap, before_in_pair, pair_between_places}
use Rattle.relay.proofs.Due.{first_due, all_due, none_behind, due_within, one_more, not_due}
use Rattle.relay.proofs.Knowing.{from_cursor, skip_first, skip_sent, all_were_sent, marks_rise, risen, rows_sent}
use Rattle.relay.proofs.Knowing.{page_sent, moved_sent}
use Rattle.relay.specs.declared.relay.Relay.{Relay}
use Rattle.relay.specs.Marks.{mark_in}
use Rattle.std.specs.BTreeMap.{BTreeMap}
use Rattle.stomp_client.specs.Clients.{Client as Client-state, ClientWithRoom}

-- ---- one page

-- what stops behind some letters, wherever these begin
stops_behind : (clean : Type 0) (messages : Messages) (after : Option LetterPlace) (letters : List Letter) (last : ℕ)
    (fault : RelayFault)
    → StopsSending last fault → (clean → (l : Letter)
    × AreFirst messages after (length letters + 1) (letters ++ l ∷ []))
    → StopsBehind clean messages after letters last fault
stops_behind clean messages after letters last (Client cause) stops next = (stops, next)
stops_behind clean messages after letters last (Envelope cause) stops next = (stops, next)
stops_behind clean messages after letters last (Endpoint cause) stops next = tt

module _ (clean : Type 0) (messages : Messages) (after next : Option LetterPlace) (page limit : ℕ) (rows : List Letter)
    (old new : SendState)
    (are : clean → AreFirst messages after page rows) where
  abbrev now_due : List Letter
  now_due = due limit old.marks rows

  first : clean → AreFirst (unsent old.marks messages) after (length now_due) now_due
  first c = first_due messages page after rows (are c) limit old.marks

  marks_are : SendsLetters now_due old new → new.marks ≡ marked old.marks now_due
  marks_are s = ap (λ (x : SendState). x.marks) s.all ∙ marks_after old now_due

  -- the limit was reached
  pub page_full : (count : ℕ) → FillsLetters limit rows old new (Ok count) → count ≡ limit
      → FillsPage clean messages after next limit old new (Ok (count, false))
  page_full count f full = record {
    letters = now_due;
    sends = f.1;
    within = due_within limit old.marks rows;
    ends = (
      f.0,
      λ c. subst (λ (n : ℕ). AreFirst (unsent old.marks messages) after n now_due) (sym f.0 ∙ full)
          (first c),
    );
  }

  behind_all : (count : ℕ) (f : FillsLetters limit rows old new (Ok count)) → count < limit → clean
      → (k : ℕ) (more : List Letter)
      → AreFirst (unsent new.marks messages) (place_behind after rows) k more
      → AreFirst (unsent old.marks messages) after (length now_due + k) (now_due ++ more)
  behind_all count f small c k more behind =
      let number = f.0 in
      all_due messages page after rows (are c) limit old.marks (omega (arith, small, number)) k more
      (subst (λ (m : Pair → ℕ). AreFirst (unsent m messages) (place_behind after rows) k more) (marks_are f.1) behind)

  not_full : (count : ℕ) → FillsLetters limit rows old new (Ok count) → count ≢ limit → count < limit
  not_full count f other =
      let number = f.0 in
      let within = due_within limit old.marks rows in
      omega (arith, number, within, other)

  -- the page was the last
  pub page_short : (count : ℕ) → FillsLetters limit rows old new (Ok count) → count ≢ limit → length rows < page
      → FillsPage clean messages after next limit old new (Ok (count, false))
  page_short count f other short = record {
    letters = now_due;
    sends = f.1;
    within = due_within limit old.marks rows;
    ends = (
      f.0,
      λ c.
          let number = f.0 in
          let small = not_full count f other in
          let all = behind_all count f small c (limit - count) []
          (none_behind messages new.marks (place_behind after rows) (limit - count)
          (short_page_is_last messages after page rows (are c) short)) in
          let e : length now_due + (limit - count) ≡ limit = omega (arith, number, small) in
          subst (λ (n : ℕ). AreFirst (unsent old.marks messages) after n now_due) e
          (subst (λ (x : List Letter). AreFirst (unsent old.marks messages) after (length now_due + (limit - count)) x)
          (append-nil now_due) all),
    );
  }

  -- a letter couldn't be sent
  pub page_stopped : (fault : RelayFault) → FillsLetters limit rows old new (Err fault)
      → FillsPage clean messages after next limit old new (Err fault)
  page_stopped fault f =
      let count : ℕ = f.0 in
      let small : count < limit = f.1 in
      let number : length (due (count + 1) old.marks rows) ≡ count + 1 = f.2 in
      let some = one_more count old.marks rows (rw add-one at number) in
      let cut : due (count + 1) old.marks rows ≡ due count old.marks rows ++ some.0 ∷ [] = rw add-one some.1 in
      let long : length (due count old.marks rows) ≡ count =
      omega (arith, number, ap length cut, length-append (due count old.marks rows) (some.0 ∷ [])) in
      record {
        letters = due count old.marks rows;
        sends = f.3;
        within = omega (arith, long, small);
        ends = (
          λ c. first_due messages page after rows (are c) count old.marks,
          stops_behind clean (unsent old.marks messages) after (due count old.marks rows) new.client.receipts.last fault
              f.4 (λ c. (
                some.0,
                subst (λ (n : ℕ). AreFirst (unsent old.marks messages) after n
                    (due count old.marks rows ++ some.0 ∷ []))
                    (number ∙ ap (λ n. n + 1) (sym long))
                    (subst (λ (x : List Letter). AreFirst (unsent old.marks messages) after
                    (length (due (count + 1) old.marks rows)) x) cut
                    (first_due messages page after rows (are c) (count + 1) old.marks)),
              )),
        );
      }

-- the outbox couldn't be read
pub page_unread : (clean : Type 0) (messages : Messages) (after next : Option LetterPlace) (limit : ℕ) (old : SendState)
    (fault : EndFault)
    → FillsPage clean messages after next limit old old (Err (Endpoint fault))
page_unread clean messages after next limit old fault =
    record { letters = []; sends = sends_none old; within = omega arith; ends = (λ c. tt, tt) }

pub page_unread_of : (clean : Type 0) (messages : Messages) (after next : Option LetterPlace) (limit : ℕ) (old : SendState)
    (cause : EndFault)
    (result : Result (ℕ × Bool) RelayFault) (fault : RelayFault) → result ≡ Err fault → fault ≡ Endpoint cause
    → FillsPage clean messages after next limit old old result
page_unread_of clean messages after next limit old cause result fault e f =
    subst (λ (r : Result (ℕ × Bool) RelayFault). FillsPage clean messages after next limit old old r)
    (sym (e ∙ ap (λ (x : RelayFault). Err x) f)) (page_unread clean messages after next limit old cause)

abbrev place : Pair → ℕ → LetterPlace
place p n = record { pair = p; number = n }

place_is : (x y : LetterPlace) → x.pair ≡ y.pair → x.number ≡ y.number → x ≡ y
place_is x y pair number = ap (λ p. place p x.number) pair ∙ ap (λ n. place y.pair n) number

-- between a place and that of its pair's mark nothing is due
not_due_upto : (messages : Messages) (m : Pair → ℕ) (here next : LetterPlace) → next.pair ≡ here.pair
    → next.number ≡ m here.pair
    → (x : LetterPlace) → IsBefore here x → (o : Ordering) → place_cmp x next ≡ o
    → IsBefore next x ⊎ (unsent m messages x.pair x.number ≡ None)
not_due_upto messages m here next pair mark x h Greater o = inl (place_cmp-Greater x next o)
not_due_upto messages m here next pair mark x h Equal o =
    let same = place_cmp-Equal x next o in
    let number : x.number ≡ m x.pair =
    ap (λ (y : LetterPlace). y.number) same ∙ mark ∙ ap m (sym (ap (λ (y : LetterPlace). y.pair) same ∙ pair)) in
    inr (not_due messages m x (omega (arith, number)))
not_due_upto messages m here next pair mark x h Less o =
    let at : here.pair ≡ x.pair = pair_between_places here x next (sym pair) h o in
    let number : x.number < next.number = numbers_rise x next (sym at ∙ sym pair) o in
    let marks : m here.pair ≡ m x.pair = ap m at in
    inr (not_due messages m x (omega (arith, number, mark, marks)))

-- what is due behind a place to which the relay jumps is what is due behind the page
pub jump_over : (messages : Messages) (m : Pair → ℕ) (here next : LetterPlace) → Jumps m (Some here) (Some next)
    → (k : ℕ) (more : List Letter)
    → AreFirst (unsent m messages) (Some next) k more → AreFirst (unsent m messages) (Some here) k more
jump_over messages m here next (pair, least, inl same) k more are =
    subst (λ (x : LetterPlace). AreFirst (unsent m messages) (Some x) k more) (place_is next here pair same) are
jump_over messages m here next (pair, least, inr mark) k more are = elim (cases_eq here.number next.number) [
  | inl same ↦ subst (λ (x : LetterPlace). AreFirst (unsent m messages) (Some x) k more) (place_is next here pair (sym same))
      are
  | inr other ↦
      let before : IsBefore here next = before_in_pair here next (sym pair) (omega (arith, least, other)) in
      gap (unsent m messages) (Some here) next k more (λ x h. place_cmp-total.trans here next x before h)
      (λ x h. not_due_upto messages m here next pair mark x h (place_cmp x next) refl) are
]

jump_behind : (messages : Messages) (m : Pair → ℕ) (here next : Option LetterPlace) → Jumps m here next
    → (k : ℕ) (more : List Letter)
    → AreFirst (unsent m messages) next k more → AreFirst (unsent m messages) here k more
jump_behind messages m None next jumps k more are = absurd jumps
jump_behind messages m (Some here) None jumps k more are = absurd jumps
jump_behind messages m (Some here) (Some next) jumps k more are = jump_over messages m here next jumps k more are

-- or from that page's own place
move_behind : (messages : Messages) (m : Pair → ℕ) (here next : Option LetterPlace) → StaysOrJumps m here next
    → (k : ℕ) (more : List Letter)
    → AreFirst (unsent m messages) next k more → AreFirst (unsent m messages) here k more
move_behind messages m here next (inl same) k more are =
    subst (λ (x : Option LetterPlace). AreFirst (unsent m messages) x k more) same are
move_behind messages m here next (inr jumps) k more are = jump_behind messages m here next jumps k more are

module _ (clean : Type 0) (messages : Messages) (after next : Option LetterPlace) (page limit : ℕ) (rows : List Letter)
    (old new : SendState)
    (are : clean → AreFirst messages after page rows) (count : ℕ) (f : FillsLetters limit rows old new (Ok count))
    (other : count ≢ limit) where
  small : count < limit
  small = not_full clean messages after next page limit rows old new are count f other

  -- the page is followed by others, which are read behind a place to which the relay moves
  pub page_more : StaysOrJumps new.marks (place_behind after rows) next
      → FillsPage clean messages after next limit old new (Ok (count, true))
  page_more moves = record {
    letters = due limit old.marks rows;
    sends = f.1;
    within = due_within limit old.marks rows;
    ends = (
      f.0,
      λ c k more behind.
          behind_all clean messages after next page limit rows old new are count f small c k more
          (move_behind messages new.marks (place_behind after rows) next moves k more behind),
    );
  }

  -- and each of its rows was sent
  pub page_was_sent : AreSent new.marks rows
  page_was_sent =
      let number = f.0 in
      subst (λ (m : Pair → ℕ). AreSent m rows) (sym (marks_are clean messages after next page limit rows old new are
      f.1))
      (all_were_sent limit old.marks rows (omega (arith, number, small)))

-- whatever was sent, marks only rise
pub filling_rises : (limit : ℕ) (rows : List Letter) (old new : SendState) (result : Result ℕ RelayFault)
    → FillsLetters limit rows old new result
    → (p : Pair) → old.marks p ≤ new.marks p
filling_rises limit rows old new (Ok count) f p = subst (λ (m : Pair → ℕ). old.marks p ≤ m p)
    (sym (ap (λ (x : SendState). x.marks) f.1.all ∙ marks_after old (due limit old.marks rows)))
    (marks_rise limit old.marks rows p)
filling_rises limit rows old new (Err fault) f p = subst (λ (m : Pair → ℕ). old.marks p ≤ m p)
    (sym (ap (λ (x : SendState). x.marks) f.3.all ∙ marks_after old (due f.0 old.marks rows)))
    (marks_rise f.0 old.marks rows p)

abbrev seen_as : (Pair → ℕ) → Client-state ℕ → SendState
seen_as marks client = record { marks = marks; client = client }

-- the same relay for all that is seen of it
pub same_connection : (r s : Relay) (c : ClientWithRoom ℕ) → s.marks ≡ r.marks → send_state s c ≡ send_state r c
same_connection r s c e = ap (λ (m : BTreeMap Pair ℕ). seen_as (λ p. mark_in m p) c.client) e

pub page_moved : {clean : Type 0} {messages : Messages} {after next : Option LetterPlace} {limit : ℕ}
    {old mid new : SendState}
    {result : Result (ℕ × Bool) RelayFault} → new ≡ mid → FillsPage clean messages after next limit old mid result
    → FillsPage clean messages after next limit old new result
page_moved {clean} {messages} {after} {next} {limit} {old} {mid} {new} {result} e f =
    subst (λ (x : SendState). FillsPage clean messages after next limit old x result) (sym e) f

module _ (messages : Messages) (page limit : ℕ) (rows : List Letter) (r s t : Relay) (c d : ClientWithRoom ℕ)
    (same : s.behind ≡ r.behind)
    (are : AreFirst messages r.behind page rows) (sent : AllSent (marks_of r) messages r.behind) where
  still_first : AreFirst messages s.behind page rows
  still_first = subst (λ (x : Option LetterPlace). AreFirst messages x page rows) (sym same) are

  still_sent : (result : Result ℕ RelayFault) → FillsLetters limit rows (send_state r c) (send_state s d) result
      → AllSent (marks_of s) messages s.behind
  still_sent result f = subst (λ (x : Option LetterPlace). AllSent (marks_of s) messages x) (sym same)
      (risen messages r.behind (marks_of r) (marks_of s) (filling_rises limit rows (send_state r c) (send_state s d)
      result f) sent)

  -- the cursor goes behind what was sent of a page
  pub goes_part : (result : Result ℕ RelayFault) → FillsLetters limit rows (send_state r c) (send_state s d) result
      → ((ms : Messages) (n : ℕ) → AreFirst ms s.behind n rows → AllSent (marks_of s) ms s.behind
      → AllSent (marks_of t) ms t.behind)
      → AllSent (marks_of t) messages t.behind
  goes_part result f goes = goes messages page still_first (still_sent result f)

  -- or behind the whole page
  pub goes_whole : (count : ℕ) → FillsLetters limit rows (send_state r c) (send_state s d) (Ok count) → count ≢ limit
      → StaysOrJumps (marks_of s) (place_behind s.behind rows) t.behind → t.marks ≡ s.marks
      → AllSent (marks_of t) messages t.behind
  goes_whole count f other moves marks =
      subst (λ (m : BTreeMap Pair ℕ). AllSent (λ p. mark_in m p) messages t.behind) (sym marks)
      (moved_sent messages (marks_of s) (place_behind s.behind rows) t.behind moves
      (page_sent messages (marks_of s) s.behind page rows still_first
      (page_was_sent (AreFirst messages r.behind page rows) messages r.behind r.behind page limit rows (send_state r c)
      (send_state s d)
      (λ x. x) count f other)
      (still_sent (Ok count) f)))

pub sent_on : (m n : Pair → ℕ) (b d : Option LetterPlace) (here there : Messages) → there ≡ here
    → (AllSent m there b → AllSent n there d) → AllSent m here b → AllSent n here d
sent_on m n b d here there e f s =
    subst (λ (x : Messages). AllSent n x d) e (f (subst (λ (x : Messages). AllSent m x b) (sym e) s))

-- the cursor goes behind some rows that stand first, and were sent
pub goes_behind : (messages : Messages) (r t : Relay) (n page : ℕ) (rows : List Letter)
    → AreSent (marks_of r) (take n rows)
    → StaysOrJumps (marks_of r) (place_behind r.behind (take n rows)) t.behind
    → t.marks ≡ r.marks
    → AreFirst messages r.behind page rows → AllSent (marks_of r) messages r.behind
    → AllSent (marks_of t) messages t.behind
goes_behind messages r t n page rows low moves marks are sent =
    subst (λ (m : BTreeMap Pair ℕ). AllSent (λ p. mark_in m p) messages t.behind) (sym marks)
    (moved_sent messages (marks_of r) (place_behind r.behind (take n rows)) t.behind moves
    (rows_sent messages (marks_of r) n r.behind page rows are low sent))

behind_last : (after : Option LetterPlace) (front : List Letter) (last : Letter)
    → place_behind after (front ++ last ∷ []) ≡ Some (place_of last)
behind_last after [] last = refl
behind_last after (l ∷ ls) last = behind_last (Some (place_of l)) ls last

-- the place behind the last row of a page, or the one to which its pair's mark goes
pub jumps_behind : (m : Pair → ℕ) (after : Option LetterPlace) (rows front : List Letter) (last : Letter) (n mark : ℕ)
    → rows ≡ front ++ last ∷ []
    → last.number ≤ n → (n ≡ last.number) ⊎ (n ≡ mark) → mark ≡ m last.pair
    → StaysOrJumps m (place_behind after rows) (Some (place last.pair n))
jumps_behind m after rows front last n mark cut least which is = inr (
    subst (λ (x : Option LetterPlace). Jumps m x (Some (place last.pair n))) (sym
    (ap (λ (x : List Letter). place_behind after x) cut
    ∙ behind_last after front last))
    (refl, least, elim which [ inl same ↦ inl same | inr far ↦ inr (far ∙ is) ]))

-- ---- pages one after another

all_of : (a b k t : ℕ) → t ≡ a + b → a + (b + k) ≡ t + k
all_of a b k t e = omega (arith, e)

rest_of : (a count limit : ℕ) → count ≡ a → count ≤ limit → a + (limit - count) ≡ limit
rest_of a count limit e h = omega (arith, e, h)

module _ (messages : Messages) (limit : ℕ) (old : SendState) where
  pub none_filled : (clean : Type 0) (after : Option LetterPlace) → (clean → AllSent old.marks messages after)
      → old.client.stage ≡ Connected
      → HasFilled clean messages limit old old 0 after
  none_filled clean after sent stage = record {
    letters = [];
    sends = sends_none old;
    number = refl;
    within = omega arith;
    stage = stage;
    goes_on = λ c k more behind.
        subst (λ (n : ℕ). AreFirst (unsent old.marks messages) None n more) (omega arith)
        (from_cursor messages old.marks after k more (sent c) behind);
  }

  module _ (clean clean' clean'' : Type 0) (messages' : Messages) (mid new : SendState) (count : ℕ)
      (after next : Option LetterPlace)
      (f : HasFilled clean messages limit old mid count after) (earlier : clean' → clean) (there : clean' → clean'')
      (same : clean' → messages' ≡ messages) where
    -- what is due behind the pages so far, as the next page found it
    behind : clean' → (n : ℕ) (ls : List Letter) → AreFirst (unsent mid.marks messages') after n ls
        → AreFirst (unsent old.marks messages) None (length f.letters + n) (f.letters ++ ls)
    behind c n ls are =
        f.goes_on (earlier c) n ls (subst (λ (ms : Messages). AreFirst (unsent mid.marks ms) after n ls) (same c) are)

    -- what was sent of a page is within the limit
    pub page_within : (sent : ℕ) (more : Bool)
        → FillsPage clean'' messages' after next (limit - count) mid new (Ok (sent, more))
        → sent ≤ limit - count
    page_within sent false p =
        let number = p.ends.0 in
        let within = p.within in
        omega (arith, number, within)
    page_within sent true p =
        let number = p.ends.0 in
        let within = p.within in
        omega (arith, number, within)

    page_behind : (sent : ℕ) → FillsPage clean'' messages' after next (limit - count) mid new (Ok (sent, true))
        → HasFilled clean' messages limit old new (count + sent) next
    page_behind sent p =
        let number = f.number in
        let within = f.within in
        let number' = p.ends.0 in
        let within' = p.within in
        let long = length-append f.letters p.letters in
        record {
          letters = f.letters ++ p.letters;
          sends = sends_append f.letters p.letters old mid new f.sends p.sends;
          number = omega (arith, number, number', long);
          within = omega (arith, within, within', number');
          stage = ap (λ (x : SendState). x.client.stage) p.sends.all ∙ stage_after mid p.letters ∙ f.stage;
          goes_on = λ c k more are.
              subst (λ (x : List Letter). AreFirst (unsent old.marks messages) None
              (length (f.letters ++ p.letters) + k) x)
              (sym (append_assoc f.letters p.letters more))
              (subst (λ (n : ℕ). AreFirst (unsent old.marks messages) None n (f.letters ++ (p.letters ++ more)))
              (all_of (length f.letters) (length p.letters) k (length (f.letters ++ p.letters)) long)
              (behind c (length p.letters + k) (p.letters ++ more)
              (p.ends.1 (there c) k more (subst (λ (ms : Messages). AreFirst (unsent new.marks ms) next k more)
              (sym (same c)) are))));
        }

    page_at_end : (sent : ℕ) → FillsPage clean'' messages' after next (limit - count) mid new (Ok (sent, false))
        → Fills clean' messages limit old new (Ok (count + sent))
    page_at_end sent p =
        let number = f.number in
        let within = f.within in
        let number' = p.ends.0 in
        let within' = p.within in
        let long = length-append f.letters p.letters in
        record {
          letters = f.letters ++ p.letters;
          sends = sends_append f.letters p.letters old mid new f.sends p.sends;
          within = omega (arith, within, within', number, long);
          gives = (
            omega (arith, number, number', long),
            λ c.
                subst (λ (n : ℕ). AreFirst (unsent old.marks messages) None n (f.letters ++ p.letters))
                (rest_of (length f.letters) count limit number within)
                (behind c (limit - count) p.letters (p.ends.1 (there c))),
          );
        }

    pub one_page_more : (sent : ℕ) (more : Bool) → more ≡ true
        → FillsPage clean'' messages' after next (limit - count) mid new (Ok (sent, more))
        → HasFilled clean' messages limit old new (count + sent) next
    one_page_more sent more e p = page_behind sent
        (subst (λ (x : Bool). FillsPage clean'' messages' after next (limit - count) mid new (Ok (sent, x))) e p)

    pub last_page : (sent : ℕ) (more : Bool) → more ≡ false
        → FillsPage clean'' messages' after next (limit - count) mid new (Ok (sent, more))
        → Fills clean' messages limit old new (Ok (count + sent))
    last_page sent more e p = page_at_end sent
        (subst (λ (x : Bool). FillsPage clean'' messages' after next (limit - count) mid new (Ok (sent, x))) e p)

    joined : clean' → (letters : List Letter)
        → (l : Letter) × AreFirst (unsent mid.marks messages') after (length letters + 1) (letters ++ l ∷ [])
        → (l : Letter) × AreFirst (unsent old.marks messages) None (length (f.letters ++ letters) + 1)
        ((f.letters ++ letters) ++ l ∷ [])
    joined c letters s =
        let long = length-append f.letters letters in (
          s.0,
          subst (λ (x : List Letter). AreFirst (unsent old.marks messages) None (length (f.letters ++ letters) + 1) x)
              (sym (append_assoc f.letters letters (s.0 ∷ [])))
              (subst (λ (n : ℕ). AreFirst (unsent old.marks messages) None n (f.letters ++ (letters ++ s.0 ∷ [])))
              (all_of (length f.letters) (length letters) 1 (length (f.letters ++ letters)) long)
              (behind c (length letters + 1) (letters ++ s.0 ∷ []) s.1)),
        )

    stopped_there : (fault : RelayFault) (letters : List Letter) (last : ℕ)
        → StopsBehind clean'' (unsent mid.marks messages') after letters last fault
        → StopsBehind clean' (unsent old.marks messages) None (f.letters ++ letters) last fault
    stopped_there (Endpoint cause) letters last s = tt
    stopped_there (Client cause) letters last s = (s.0, λ c. joined c letters (s.1 (there c)))
    stopped_there (Envelope cause) letters last s = (s.0, λ c. joined c letters (s.1 (there c)))

    pub stopped_page : (fault : RelayFault) → FillsPage clean'' messages' after next (limit - count) mid new (Err fault)
        → Fills clean' messages limit old new (Err fault)
    stopped_page fault p =
        let number = f.number in
        let within = f.within in
        let within' = p.within in
        let long = length-append f.letters p.letters in
        record {
          letters = f.letters ++ p.letters;
          sends = sends_append f.letters p.letters old mid new f.sends p.sends;
          within = omega (arith, within, within', number, long);
          gives = (
            λ c. subst (λ (n : ℕ). AreFirst (unsent old.marks messages) None n (f.letters ++ p.letters)) (sym long)
                (behind c (length p.letters) p.letters (p.ends.0 (there c))),
            stopped_there fault p.letters new.client.receipts.last p.ends.1,
          );
        }

-- the cursor skips what was sent, and what is due behind it comes next
pub passed_filled : (clean : Type 0) (messages : Messages) (limit : ℕ) (old : SendState) (r t : Relay)
    (c : ClientWithRoom ℕ) (count : ℕ)
    → HasFilled clean messages limit old (send_state r c) count r.behind → t.marks ≡ r.marks
    → (clean → Skips (marks_of r) messages r.behind t.behind)
    → HasFilled clean messages limit old (send_state t c) count t.behind
passed_filled clean messages limit old r t c count f marks skips =
    subst (λ (x : SendState). HasFilled clean messages limit old x count t.behind) (sym (same_connection r t c marks))
    (record {
      letters = f.letters;
      sends = f.sends;
      number = f.number;
      within = f.within;
      stage = f.stage;
      goes_on = λ is k more are. f.goes_on is k more (skip_first messages (marks_of r) r.behind t.behind k more
          (skips is) are);
    })

pub passed_sent : (messages : Messages) (r t : Relay) → t.marks ≡ r.marks
    → Skips (marks_of r) messages r.behind t.behind
    → AllSent (marks_of r) messages r.behind → AllSent (marks_of t) messages t.behind
passed_sent messages r t marks skips sent =
    subst (λ (m : BTreeMap Pair ℕ). AllSent (λ p. mark_in m p) messages t.behind) (sym marks)
    (skip_sent messages (marks_of r) r.behind t.behind skips sent)

-- marks that rise tell no less
pub risen_but : {C : Type 0} (news : List (JournalRow C)) (messages : Messages) (reach : Option LetterPlace) (m n : Pair → ℕ)
    → ((p : Pair) → m p ≤ n p)
    → SentBut news m messages reach → SentBut news n messages reach
risen_but news messages reach m n rise sent = λ x up none some.
    let low = sent x up none some in let more = rise x.pair in omega (arith, low, more)

pub rise_on : (r s t u : Relay) → ((p : Pair) → marks_of r p ≤ marks_of s p) → t.marks ≡ s.marks
    → ((p : Pair) → marks_of t p ≤ marks_of u p)
    → (p : Pair) → marks_of r p ≤ marks_of u p
rise_on r s t u first same last p =
    let a = first p in
    let b = last p in
    let e = ap (λ (m : BTreeMap Pair ℕ). mark_in m p) same in
    omega (arith, a, b, e)

pub rises_with : {m : Pair → ℕ} (r s : Relay) → s.marks ≡ r.marks → ((p : Pair) → m p ≤ marks_of r p) → (p : Pair)
    → m p ≤ marks_of s p
rises_with {m} r s same rise p =
    let a = rise p in
    let e = ap (λ (x : BTreeMap Pair ℕ). mark_in x p) same in
    omega (arith, a, e)

-- ---- what is told where less is in doubt

stops_where : (clean clean' : Type 0) → (clean' → clean)
    → (messages : Messages) (after : Option LetterPlace) (letters : List Letter) (last : ℕ)
    (fault : RelayFault) → StopsBehind clean messages after letters last fault
    → StopsBehind clean' messages after letters last fault
stops_where clean clean' less messages after letters last (Endpoint cause) s = tt
stops_where clean clean' less messages after letters last (Client cause) s = (s.0, λ c. s.1 (less c))
stops_where clean clean' less messages after letters last (Envelope cause) s = (s.0, λ c. s.1 (less c))

pub fills_where : (clean clean' : Type 0) → (clean' → clean) → (messages : Messages) (limit : ℕ) (old new : SendState)
    (result : Result ℕ RelayFault)
    → Fills clean messages limit old new result → Fills clean' messages limit old new result
fills_where clean clean' less messages limit old new (Ok count) f = record {
  letters = f.letters;
  sends = f.sends;
  within = f.within;
  gives = (f.gives.0, λ c. f.gives.1 (less c));
}
fills_where clean clean' less messages limit old new (Err fault) f = record {
  letters = f.letters;
  sends = f.sends;
  within = f.within;
  gives = (
    λ c. f.gives.0 (less c),
    stops_where clean clean' less (unsent old.marks messages) None f.letters new.client.receipts.last fault f.gives.1,
  );
}

pub fills_from : {clean : Type 0} {messages : Messages} {limit : ℕ} {start old new : SendState}
    {result : Result ℕ RelayFault}
    → start ≡ old
    → Fills clean messages limit start new result → Fills clean messages limit old new result
fills_from {clean} {messages} {limit} {start} {old} {new} {result} e f =
    subst (λ (x : SendState). Fills clean messages limit x new result) e f

-- the endpoint wasn't usable, and nothing was sent
pub none_sent : (clean : Type 0) (messages : Messages) (limit : ℕ) (old : SendState) (fault : EndFault)
    → Fills clean messages limit old old (Err (Endpoint fault))
none_sent clean messages limit old fault =
    record { letters = []; sends = sends_none old; within = omega arith; gives = (λ c. tt, tt) }

-- ---- the store

-- a read of any value
abbrev Any : {T R : Type 0} → T → R → Type 0
Any _ _ = ⊤

pub earlier : (a b : ℕ) → a ≤ b → b ≡ 0 → a ≡ 0
earlier a b h e = omega (arith, h, e)

twice : (a b c : ℕ) → a ≤ b → b ≤ c → a ≤ c
twice a b c h k = omega (arith, h, k)

module _ {E S C : Type 0} (seen : E → Seen (Tables S C)) (old new : E) where
  -- a read that was done, whatever it gave
  pub some_read : (R Q : Type 0) (gives : Tables S C → R → Type 0) (r : R) (q : Q)
      → Reads seen old new {F = EndFault} gives (Ok r)
      → Reads seen old new {R = Q} {F = EndFault} Any (Ok q)
  some_read R Q gives r q h = record { call = h.call; doubt = h.doubt; clean = λ c. (tt, (h.clean c).1) }

  -- a read that wasn't done, whatever it was to give
  same_cause : (R Q : Type 0) (cause : Cause EndFault) → Reads seen old new {R = R} Any (Err cause)
      → Reads seen old new {R = Q} Any (Err cause)
  same_cause R Q cause h = record { call = h.call; doubt = h.doubt; clean = h.clean }

  pub same_end : (R Q : Type 0) (fault : RelayFault) → Reads seen old new {R = R} Any (store_end (Err fault))
      → Reads seen old new {R = Q} Any (store_end (Err fault))
  same_end R Q (Client cause) h = same_cause R Q no_memory h
  same_end R Q (Envelope cause) h = same_cause R Q no_memory h
  same_end R Q (Endpoint cause) h = same_cause R Q (end_cause cause) h

  -- a read, and then a letter that couldn't be sent
  pub read_and_stopped : (R Q : Type 0) (gives : Tables S C → R → Type 0) (r : R) (last : ℕ) (fault : RelayFault)
      → StopsSending last fault
      → Reads seen old new {F = EndFault} gives (Ok r) → Reads seen old new {R = Q} Any (store_end (Err fault))
  read_and_stopped R Q gives r last (Client cause) stops h =
      record { call = h.call; doubt = h.doubt; clean = λ c. (h.clean c).1 }
  read_and_stopped R Q gives r last (Envelope cause) stops h =
      record { call = h.call; doubt = h.doubt; clean = λ c. (h.clean c).1 }
  read_and_stopped R Q gives r last (Endpoint cause) stops h = absurd stops

  told : (R Q : Type 0) (gives : Tables S C → R → Type 0) (cause : Cause EndFault)
      → Reads seen old new gives (Err cause)
      → Reads seen old new {R = Q} Any (Err cause)
  told R Q gives cause h = record { call = h.call; doubt = h.doubt; clean = h.clean }

  -- the outbox couldn't be read
  pub not_read : (R Q : Type 0) (gives : Tables S C → R → Type 0) (fault : EndFault)
      → Reads seen old new gives (end_of {R = R} (Err fault))
      → Reads seen old new {R = Q} Any (store_end (Err (Endpoint fault)))
  not_read R Q gives fault h = told R Q gives (end_cause fault) h

module _ {E S C : Type 0} (seen : E → Seen (Tables S C)) (old mid new : E) where
  -- reads one after another are as one
  pub read_again : (R : Type 0) (end : End R EndFault) → HasRead seen old mid → Reads seen mid new Any end
      → Reads seen old new Any end
  read_again R end (inl same) h = subst (λ (k : E). Reads seen k new Any end) same h
  read_again R (Ok r) (inr had) h = record {
    call = then_served seen old mid new had.0.call h.call;
    doubt = twice _ _ _ had.0.doubt h.doubt;
    clean = λ c. (tt, (h.clean c).1 ∙ (had.0.clean (earlier _ _ h.doubt c)).1);
  }
  read_again R (Err no_memory) (inr had) h = record {
    call = then_served seen old mid new had.0.call h.call;
    doubt = twice _ _ _ had.0.doubt h.doubt;
    clean = λ c. h.clean c ∙ (had.0.clean (earlier _ _ h.doubt c)).1;
  }
  read_again R (Err failed) (inr had) h = record {
    call = then_failed seen old mid new had.0.call h.call;
    doubt = twice _ _ _ had.0.doubt h.doubt;
    clean = λ c t l. h.clean c t l ∙ (had.0.clean (earlier _ _ h.doubt c)).1;
  }
  read_again R (Err unusable) (inr had) h = absurd (true≢false (sym had.0.call.1 ∙ h.call.0))
  read_again R (Err (refused fault)) (inr had) h = absurd h.call.1

  pub stays_again : HasRead seen old mid → (seen mid).doubt ≤ (seen new).doubt → Stays seen mid new → Stays seen old new
  stays_again (inl same) d s = subst (λ (k : E). Stays seen k new) same s
  stays_again (inr had) d s = λ clean t l. had.1 (earlier _ _ d clean) t (s clean t l)

  pub same_tables : HasRead seen old mid → (seen mid).doubt ≤ (seen new).doubt → (seen new).doubt ≡ 0
      → (seen mid).tables.unsettled ≡ (seen old).tables.unsettled
  same_tables (inl same) d clean = ap (λ (k : E). (seen k).tables.unsettled) same
  same_tables (inr had) d clean = ap (λ (t : Tables S C). t.unsettled) (had.0.clean (earlier _ _ d clean)).1
