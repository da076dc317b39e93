-- Where a filling begins, and where its cursor is then.
use Rattle.std.proofs.Common.{◌≡◌, ◌⊎◌, inl, inr, ℕ, ◌+◌, ◌≤◌, true, List, [], ◌∷◌, ◌++◌, length, take, Option, None}
use Rattle.std.proofs.Common.{Ok, Err, Result}
use Rattle.std.proofs.Common.{sym, ap, subst, ◌∙◌, arith}
use Rattle.std.specs.Prelude.{IsSome}
use Rattle.std.specs.BTreeMap.{BTreeMap}
use Rattle.base.specs.declared.pair.Pair.{Pair}
use Rattle.envelope.specs.declared.message.Letter.{Letter}
use Rattle.activities.specs.Service.{Service}
use Rattle.activities.specs.Journal.{part}
use Rattle.activities.specs.declared.input.JournalRow.{JournalRow}
use Rattle.keep.specs.declared.change.LetterPlace.{LetterPlace}
use Rattle.keep.specs.Listing.{AreFirst}
use Rattle.keep.specs.Seen.{Seen, IsSound}
use Rattle.keep.specs.Tables.{Tables, Messages}
use Rattle.outbox.specs.Rows.{unsettled_of}
use Rattle.endpoint.specs.Calls.{Stays}
use Rattle.endpoint.specs.Deeds.{kept}
use Rattle.relay.specs.Filling.{SendState, marks_of, unsent}
use Rattle.relay.specs.Calls.{Fills, StopsBehind}
use Rattle.relay.specs.Knowing.{IsUpto, AllSent, KnowsAll}
use Rattle.relay.specs.Marks.{mark_in}
use Rattle.relay.specs.Parts.News.{SentBut}
use Rattle.relay.specs.declared.fault.RelayFault.{RelayFault}
use Rattle.relay.specs.declared.fault.RelayFault.TheVariants.{Client, Envelope, Endpoint}
use Rattle.relay.specs.declared.relay.Relay.{Relay}
use Rattle.relay.proofs.Knowing.{known_again, known_still}

-- nothing stands up to no place
pub none_upto : (marks : Pair → ℕ) (messages : Messages) (behind : Option LetterPlace) → behind ≡ None
    → AllSent marks messages behind
none_upto marks messages behind none = λ x up some. absurd (subst (λ (b : Option LetterPlace). IsUpto b x) none up)

-- what was sent but for the news stays so for equal news, marks, rows and place
pub same_but : {C : Type 0} (news news' : List (JournalRow C)) (r b : Relay) (ms ms' : Messages)
    (reach reach' : Option LetterPlace)
    → news' ≡ news → b.marks ≡ r.marks → ms' ≡ ms → reach' ≡ reach → SentBut news (marks_of r) ms reach
    → SentBut news' (marks_of b) ms' reach'
same_but {C} news news' r b ms ms' reach reach' rows marks same upto sent = λ x up none some.
    subst (λ (m : BTreeMap Pair ℕ). x.number ≤ mark_in m x.pair) (sym marks)
    (sent x (subst (λ (p : Option LetterPlace). IsUpto p x) upto up) (subst (λ (n : List (JournalRow C)). part x.pair.from n
    ≡ []) rows none)
    (subst (λ (m : Messages). IsSome (m x.pair x.number)) same some))

-- All was sent but what the news sent: so it is known, or there is no place up to which it would have to be.
pub known_or_none : {C known : Type 0} (news : List (JournalRow C)) (marks : Pair → ℕ) (messages : Messages)
    (behind was : Option LetterPlace)
    → (behind ≡ None) ⊎ (behind ≡ was) → (known → SentBut news marks messages behind) → known ⊎ (was ≡ None)
    → SentBut news marks messages behind
known_or_none news marks messages behind was kept sent (inl k) = sent k
known_or_none news marks messages behind was (inl gone) sent (inr none) =
    λ x up rows some. none_upto marks messages behind gone x up some
known_or_none news marks messages behind was (inr same) sent (inr none) =
    λ x up rows some. none_upto marks messages behind (same ∙ none) x up some

same_sent : (r s : Relay) (ms ms' : Messages) (behind : Option LetterPlace) → s.marks ≡ r.marks → ms ≡ ms'
    → AllSent (marks_of r) ms behind
    → AllSent (marks_of s) ms' behind
same_sent r s ms ms' behind marks same sent = λ x up some.
    subst (λ (m : BTreeMap Pair ℕ). x.number ≤ mark_in m x.pair) (sym marks)
    (sent x up (subst (λ (m : Messages). IsSome (m x.pair x.number)) (sym same) some))

-- ---- what was sent, of messages that are the same where nothing is in doubt

module _ (clean clean' : Type 0) (less : clean' → clean) (ms ms' : Messages) (same : clean' → ms' ≡ ms)
    (old new : SendState) where
  first_there : (n : ℕ) (ls : List Letter) → (clean → AreFirst (unsent old.marks ms') None n ls) → clean'
      → AreFirst (unsent old.marks ms) None n ls
  first_there n ls are c = subst (λ (m : Messages). AreFirst (unsent old.marks m) None n ls) (same c) (are (less c))

  next_there : (ls : List Letter) → (clean → (l : Letter)
      × AreFirst (unsent old.marks ms') None (length ls + 1) (ls ++ l ∷ [])) → clean'
      → (l : Letter) × AreFirst (unsent old.marks ms) None (length ls + 1) (ls ++ l ∷ [])
  next_there ls next c =
      let n = next (less c) in
      (n.0, subst (λ (m : Messages). AreFirst (unsent old.marks m) None (length ls + 1) (ls ++ n.0 ∷ [])) (same c) n.1)

  stops_there : (ls : List Letter) (last : ℕ) (fault : RelayFault)
      → StopsBehind clean (unsent old.marks ms') None ls last fault
      → StopsBehind clean' (unsent old.marks ms) None ls last fault
  stops_there ls last (Endpoint cause) s = tt
  stops_there ls last (Client cause) s = (s.0, next_there ls s.1)
  stops_there ls last (Envelope cause) s = (s.0, next_there ls s.1)

  pub fills_there : (limit : ℕ) (result : Result ℕ RelayFault) → Fills clean ms' limit old new result
      → Fills clean' ms limit old new result
  fills_there limit (Ok count) f = record {
    letters = f.letters;
    sends = f.sends;
    within = f.within;
    gives = (f.gives.0, first_there limit f.letters f.gives.1);
  }
  fills_there limit (Err fault) f = record {
    letters = f.letters;
    sends = f.sends;
    within = f.within;
    gives = (
      first_there (length f.letters) f.letters f.gives.0,
      stops_there f.letters new.client.receipts.last fault f.gives.1,
    );
  }

-- a filling between equal states is a filling between these
pub fills_to : {clean : Type 0} {ms : Messages} {limit : ℕ} {start old end new : SendState}
    {result : Result ℕ RelayFault} → start ≡ old
    → new ≡ end
    → Fills clean ms limit start end result → Fills clean ms limit old new result
fills_to {clean} {ms} {limit} {start} {old} {end} {new} {result} e g f =
    subst (λ (x : SendState). Fills clean ms limit old x result) (sym g)
    (subst (λ (x : SendState). Fills clean ms limit x end result) e f)

-- ---- the cursor behind a filling

-- a cursor that is gone or where it was is so by an equal name
pub was_behind : {a b r : Option LetterPlace} → a ≡ b → (b ≡ None) ⊎ (b ≡ r) → (a ≡ None) ⊎ (a ≡ r)
was_behind same (inl none) = inl (same ∙ none)
was_behind same (inr is) = inr (same ∙ is)

module _ {E S C : Type 0} (seen : E → Seen (Tables S C)) (sound : (k : E) → IsSound (seen k)) (service : Service S C)
    (old new : E)
    (r s : Relay) (clean : (seen new).doubt ≡ 0) (stays : Stays seen old new)
    (known : KnowsAll service r (seen old).may_leave) where
  -- a cursor that was taken away is right
  known_gone : s.rows ≡ r.rows → s.behind ≡ None → KnowsAll service s (seen new).may_leave
  known_gone rows gone = (
    λ t l. known.0 t (stays clean t l),
    λ t l.
        let least = (known.1 t (stays clean t l)).0 in (
          omega (arith, least, rows),
          none_upto (marks_of s) (unsettled_of service.reactions (take s.rows (kept t).journal) (kept t).settled)
              s.behind gone,
        ),
  )

  known_back : (reach : Option LetterPlace) → s.rows ≡ r.rows → s.behind ≡ reach → (reach ≡ None) ⊎ (reach ≡ r.behind)
      → ((p : Pair) → marks_of r p ≤ marks_of s p)
      → KnowsAll service s (seen new).may_leave
  known_back reach rows behind (inl none) rise = known_gone rows (behind ∙ none)
  known_back reach rows behind (inr same) rise =
      known_still seen sound service old new r s clean stays known rows (behind ∙ same) rise

  -- the cursor went on, or it stays where it was
  pub known_last : (f : Relay) (rows since : ℕ) (reach : Option LetterPlace) (ms : Messages) → (seen old).usable ≡ true
      → (seen old).doubt ≡ 0
      → rows ≡ length (seen old).tables.journal → f.rows ≡ rows → s.marks ≡ f.marks → ms ≡ (seen old).tables.unsettled
      → AllSent (marks_of f) ms f.behind → since ≡ r.rows → (reach ≡ None) ⊎ (reach ≡ r.behind)
      → ((p : Pair) → marks_of r p ≤ marks_of f p)
      → ((s.behind ≡ f.behind) × (s.rows ≡ f.rows)) ⊎ ((s.behind ≡ reach) × (s.rows ≡ since))
      → KnowsAll service s (seen new).may_leave
  known_last f rows since reach ms up clean0 long at marks same sent was from rise (inl on) =
      known_again seen sound service old new r s up clean0 clean stays known (on.1 ∙ at ∙ long)
      (subst (λ (b : Option LetterPlace). AllSent (marks_of s) (seen old).tables.unsettled b) (sym on.0)
      (same_sent f s ms (seen old).tables.unsettled f.behind marks same sent))
  known_last f rows since reach ms up clean0 long at marks same sent was from rise (inr back) =
      known_back reach (back.1 ∙ was) back.0 from
      (λ p. let a = rise p in let e = ap (λ (m : BTreeMap Pair ℕ). mark_in m p) marks in omega (arith, a, e))
