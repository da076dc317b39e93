-- The receipts of a client, as its frames ask for them and as they are told.
use Rattle.std.proofs.Common.{◌≡◌, ℕ, ◌+◌, ◌<◌, ◌≤◌, ◌^◌, Bool, true, false, cond, List, [], ◌∷◌, ◌++◌, length, codes}
use Rattle.std.proofs.Common.{decimal, Option}
use Rattle.std.proofs.Common.{Some}
use Rattle.std.proofs.Common.{None, refl, sym, ap, ◌∙◌, arith}
use Rattle.std.specs.Prelude.{is_some, nat_lt, Result}
use Rattle.std.specs.BTreeMap.{is_at}
use Rattle.std.specs.Cmp.{nat_cmp_is}
use Rattle.std.specs.Map.{lookup, remove_entry}
use Rattle.std.specs.Ordering.{nat_cmp, is_eq}
use Rattle.std.specs.Str.{bytes_eq}
use Rattle.std.specs.declared.cmp.Ordering.TheVariants.{Equal}
use Rattle.std.proofs.lemmas.Bool.Decides.{nat_tests}
use Rattle.std.proofs.lemmas.List.{append-nil}
use Rattle.std.proofs.lemmas.List.Concat.{flat_map-append}
use Rattle.stomp_frame.specs.Frames.{Content, Header, header, value_of}
use Rattle.stomp_session.proofs.Accepting.{accepted_receipt}
use Rattle.stomp_session.specs.Replies.{receipt_told, unless_long}
use Rattle.stomp_session.specs.Requests.{asked, opens}
use Rattle.stomp_session.specs.declared.fault.SessionFault.{SessionFault}
use Rattle.stomp_session.specs.declared.request.Request.{Request}
use Rattle.stomp_client.proofs.Headers.{short_number}
use Rattle.stomp_client.proofs.Serving.{each_is_taken}
use Rattle.stomp_client.specs.Frames.{connect_frame, with_receipt}
use Rattle.stomp_client.specs.Served.{IsClients, IsTakeable}
use Rattle.broker_core.specs.Feeding.{answer_by, answer_of}
use Rattle.broker_core.specs.Serving.{Decided}
use Rattle.laws_broker.specs.Carried.{decided_all}
use Rattle.laws_broker.specs.Written.{listed, receipt_asked, receipts_asked}

-- ---- numbers in decimal, one behind the other

-- these are the numbers above one, up to the last
abbrev pub AreNumerals : ℕ → ℕ → List (List ℕ) → Type 0
AreNumerals above last [] = above ≡ last
AreNumerals above last (x ∷ xs) = (x ≡ decimal (above + 1)) × AreNumerals (above + 1) last xs

at_most : (above last : ℕ) (xs : List (List ℕ)) → AreNumerals above last xs → above ≤ last
at_most above last [] h = omega (arith, h)
at_most above last (x ∷ xs) h = omega (arith, at_most (above + 1) last xs h.1)

-- what is told behind the first of them is the next
pub next_numeral : (above last told : ℕ) (xs : List (List ℕ)) (v : List ℕ) (ys : List (List ℕ))
    → AreNumerals above last (xs ++ v ∷ ys)
    → AreNumerals above told xs → (v ≡ decimal (told + 1)) × (told + 1 ≤ last)
next_numeral above last told [] v ys h k =
    let low = at_most (above + 1) last ys h.1 in (h.0 ∙ ap (λ (i : ℕ). decimal (i + 1)) k, omega (arith, low, k))
next_numeral above last told (x ∷ xs) v ys h k = next_numeral (above + 1) last told xs v ys h.1 k.1

pub one_numeral : (above last : ℕ) (xs : List (List ℕ)) (v : List ℕ) → v ≡ decimal (last + 1)
    → AreNumerals above last xs
    → AreNumerals above (last + 1) (xs ++ v ∷ [])
one_numeral above last [] v e h = (e ∙ ap (λ (i : ℕ). decimal (i + 1)) (sym h), ap (λ (i : ℕ). i + 1) h)
one_numeral above last (x ∷ xs) v e h = (h.0, one_numeral (above + 1) last xs v e h.1)

-- ---- open tags

is_same : (n k : ℕ) → k ≡ n → is_at (nat_cmp n) k ≡ true
is_same n k e = ap is_eq (sym (nat_cmp_is n k Equal (sym e)))

module _ {T : Type 0} where
  -- the open tags are those of the numbers above one, up to the last
  abbrev pub AreTags : ℕ → ℕ → List (ℕ × T) → Type 0
  AreTags above last [] = above ≡ last
  AreTags above last (e ∷ es) = (e.0 ≡ above + 1) × AreTags (above + 1) last es

  pub one_tag : (above last : ℕ) (es : List (ℕ × T)) (tag : T) → AreTags above last es
      → AreTags above (last + 1) (es ++ (last + 1, tag) ∷ [])
  one_tag above last [] tag h = (ap (λ (i : ℕ). i + 1) (sym h), ap (λ (i : ℕ). i + 1) h)
  one_tag above last (e ∷ es) tag h = (h.0, one_tag (above + 1) last es tag h.1)

  -- the first of them is open
  pub first_open : (above last : ℕ) (es : List (ℕ × T)) → AreTags above last es → above + 1 ≤ last
      → is_some (lookup (is_at (nat_cmp (above + 1))) es) ≡ true
  first_open above last [] h low = absurd (omega (arith, h, low))
  first_open above last (e ∷ es) h low = rw (is_same (above + 1) e.0 h.0) refl

  -- and the others are left, once it is closed
  pub first_closed : (above last : ℕ) (es : List (ℕ × T)) → AreTags above last es → above + 1 ≤ last
      → AreTags (above + 1) last (remove_entry (is_at (nat_cmp (above + 1))) es)
  first_closed above last [] h low = absurd (omega (arith, h, low))
  first_closed above last (e ∷ es) h low = rw (is_same (above + 1) e.0 h.0) h.1

-- ---- what a frame asks for

decided_true : (fs gs : List Content) → decided_all true (fs ++ gs) ≡ decided_all true fs ++ decided_all true gs
decided_true [] gs = refl
decided_true (f ∷ fs) gs = ap (λ (l : List Decided). answer_of true f ∷ l) (decided_true fs gs)

asked_of : (f : Content) → IsClients f → receipt_asked (answer_of true f) ≡ listed (receipt_told f)
asked_of f is =
    ap (λ (q : Result Request SessionFault). receipt_asked (answer_by f q)) (each_is_taken f is)
    ∙ ap listed (accepted_receipt true f (asked f) (each_is_taken f is))

-- one frame more behind CONNECT
pub asked_last : (frames : List Content) (f : Content) → IsClients f
    → receipts_asked (decided_all false (connect_frame ∷ (frames ++ f ∷ [])))
    ≡ receipts_asked (decided_all false (connect_frame ∷ frames)) ++ listed (receipt_told f)
asked_last frames f is =
    ap (λ (l : List Decided). receipts_asked (answer_of false connect_frame ∷ l)) (decided_true frames (f ∷ []))
    ∙ flat_map-append receipt_asked (answer_of false connect_frame ∷ decided_all true frames) (answer_of true f ∷ [])
    ∙ ap (λ (l : List (List ℕ)). receipts_asked (decided_all false (connect_frame ∷ frames)) ++ l)
    (append-nil (receipt_asked (answer_of true f)) ∙ asked_of f is)

none_by : (b : Bool) (o : Option (List ℕ)) → o ≡ None → cond b None (unless_long o) ≡ None
none_by true o e = refl
none_by false o e = ap unless_long e

-- a frame without that header asks for none
pub none_told : (f : Content) → value_of (codes "receipt") f.headers ≡ None → receipt_told f ≡ None
none_told f e = none_by (opens f.command) (value_of (codes "receipt") f.headers) e

behind : (name : List ℕ) (hs more : List Header) → value_of name hs ≡ None
    → value_of name (hs ++ more) ≡ value_of name more
behind name [] more e = refl
behind name (h ∷ hs) more e = by_test (bytes_eq h.name name) (behind name hs more) e
  where
    by_test : (b : Bool) → (value_of name hs ≡ None → value_of name (hs ++ more) ≡ value_of name more)
        → cond b (Some h.value) (value_of name hs) ≡ None
        → cond b (Some h.value) (value_of name (hs ++ more)) ≡ value_of name more
    by_test true others it = absurd cc
    by_test false others it = others it

not_above : (n m : ℕ) → m ≤ n → nat_lt n m ≡ false
not_above n m h = grind (arith, nat_tests)

kept : (v : List ℕ) → nat_lt 128 (length v) ≡ false → unless_long (Some v) ≡ Some v
kept v e = rw e refl

-- a SEND with a receipt asks for its number
pub number_told : (m : Content) (n : ℕ) → IsTakeable m → n < 2 ^ 64 → receipt_told (with_receipt n m) ≡ Some (decimal n)
number_told m n is small =
    let has : value_of (codes "receipt") (m.headers ++ header (codes "receipt") (decimal n) ∷ []) ≡ Some (decimal n) =
    behind (codes "receipt") m.headers (header (codes "receipt") (decimal n) ∷ []) is.plain.receipt in
    rw is.plain.command (ap unless_long has
    ∙ kept (decimal n) (not_above 128 (length (decimal n)) (short_number n small).short))
