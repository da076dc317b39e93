-- Any steps leave two services good.
use Rattle.std.proofs.Common.{Bool, ◌≡◌, ◌≢◌, ℕ, inl, inr, List, [], ◌∷◌, Some, None}
use Rattle.std.proofs.Common.{refl, sym, ◌∙◌, subst, arith}
use Rattle.base.specs.declared.limits.TheConstants.{HELD_WINDOW}
use Rattle.base.specs.declared.pair.Pair.{Pair}
use Rattle.envelope.specs.declared.message.Envelope.{Envelope}
use Rattle.envelope.specs.declared.message.Envelope.TheVariants as envelope
use Rattle.activities.specs.Numbered.{numbered, IsPrefixOf}
use Rattle.activities.specs.Service.{Service}
use Rattle.activities.proofs.Sameness.{either}
use Rattle.keep.specs.Seen.{Seen}
use Rattle.keep.specs.Tables.{Tables, empty}
use Rattle.endpoint.specs.Matches.{AllMatch, TablesMatchJournal}
use Rattle.endpoint.proofs.Opening.{empty-matches}
use Rattle.laws_network.proofs.Arriving.{no_more}
use Rattle.laws_services.specs.Services.{Traffic}
use Rattle.laws_delivery.specs.Good.{IsGoodFromTo, AreGood, AreMatching, AreClean, IsRunAmong}
use Rattle.laws_delivery.specs.Good.{AllLegal, AllDelivered, TakenAreHandled}
use Rattle.laws_delivery.specs.Shown.{Shown, shown, pair_of, IsFromTo, Delivers, IsTrueOf, SaysNothing}
use Rattle.laws_delivery.specs.Two.{Two, Side, Left, Right, kind_of, shown_by, IsBetween, Elsewhere}
use Rattle.laws_delivery.specs.Two.{StepAmong, AtLeft, AtRight, AtOthers, IsPathAmong, DidNothing}
use Rattle.laws_delivery.proofs.Stepping.{Acting, Acts, Rests, kind_at, shown_at, call_good}

-- the left one acts, or the right one
abbrev left_acting : Side → Acting
left_acting Left = Acts
left_acting Right = Rests

abbrev right_acting : Side → Acting
right_acting Left = Rests
right_acting Right = Acts

module _ {S C T D : Type 0} (one : Service S C) (other : Service T D) (pairs : Pair → Bool) where
  -- a pair from one of the two to one of them is between them
  is_between : (from to : Side) (p : Pair) → IsFromTo pairs (kind_of one other from) (kind_of one other to) p
      → IsBetween one other pairs p
  is_between Left Left p of = (of.2, inl of.0, inl of.1)
  is_between Left Right p of = (of.2, inl of.0, inr of.1)
  is_between Right Left p of = (of.2, inr of.0, inl of.1)
  is_between Right Right p of = (of.2, inr of.0, inr of.1)

  abbrev GoodBy : Traffic → Tables S C → Tables T D → Side → Side → Type 0
  GoodBy traffic x y from to = IsGoodFromTo pairs traffic (kind_of one other from) (kind_of one other to)
      (shown_by one other x y from) (shown_by one other x y to)

  says_nothing : (f t : Shown) (e : Envelope) → SaysNothing e → IsTrueOf f t e
  says_nothing f t (envelope.Letter l) none = absurd none
  says_nothing f t (envelope.Settle p n) none = omega (arith, none)

  elsewhere_good : {K L : Type 0} (a b : Two K L) → Elsewhere one other pairs a b → (x : Tables S C) (y : Tables T D)
      (from to : Side)
      → GoodBy a.traffic x y from to → GoodBy b.traffic x y from to
  elsewhere_good a b step x y from to h = record {
    delivers = h.delivers;
    written = λ e of there. either (step.writes e (is_between from to (pair_of e) of) there)
        (h.written e of)
        (says_nothing (shown_by one other x y from) (shown_by one other x y to) e);
    taken = λ l of there. either (step.takes l (is_between from to l.pair of) there)
        (h.taken l of)
        (λ none. λ later. absurd (omega (arith, none, later)));
  }

-- ---- what empty tables show

module _ {S C T D : Type 0} (one : Service S C) (other : Service T D) (pairs : Pair → Bool) where
  abbrev Nothing : Side → Shown
  Nothing side = shown_by one other empty empty side

  none_handled : (side : Side) (p : Pair) → (Nothing side).letters p ≡ []
  none_handled Left p = refl
  none_handled Right p = refl

  none_held : (side : Side) (p : Pair) (n : ℕ) → (Nothing side).held p n ≡ None
  none_held Left p n = refl
  none_held Right p n = refl

  none_settled : (side : Side) (p : Pair) → (Nothing side).settled p ≡ 0
  none_settled Left p = refl
  none_settled Right p = refl

  nothing_delivers : (from to : Side)
      → Delivers pairs (kind_of one other from) (kind_of one other to) (Nothing from) (Nothing to)
  nothing_delivers from to = record {
    handled = λ p of. subst (λ letters. IsPrefixOf letters (numbered 0 ((Nothing from).sent p)))
        (sym (none_handled to p))
        (numbered 0 ((Nothing from).sent p), refl);
    held = λ p of n m h. let none = none_held to p n in let no : None ≡ Some m = sym none ∙ h in cc;
    settled = λ p of. let none = none_settled from p in omega (arith, none);
  }

module _ {K L S C T D : Type 0} (seen : K → Seen (Tables S C)) (other_seen : L → Seen (Tables T D)) (one : Service S C)
    (other : Service T D) (pairs : Pair → Bool) where
  abbrev Good : Two K L → Type 0
  Good w = AreGood seen other_seen one other pairs w

  abbrev Matching : Two K L → Type 0
  Matching w = AreMatching seen other_seen one other w

  abbrev Clean : Two K L → Type 0
  Clean w = AreClean seen other_seen one other w

  -- ---- the beginning

  module _ (w : Two K L) (new : DidNothing seen other_seen one other pairs w) where
    pub new_matching : Matching w
    new_matching = (
      λ t may. subst (TablesMatchJournal one) (sym (new.left t may)) (empty-matches HELD_WINDOW one),
      λ t may. subst (TablesMatchJournal other) (sym (new.right t may)) (empty-matches HELD_WINDOW other),
    )

    empty_good : (from to : Side) → GoodBy one other pairs w.traffic empty empty from to
    empty_good from to = record {
      delivers = nothing_delivers one other pairs from to;
      written = λ e of there. absurd (new.writes e (is_between one other pairs from to (pair_of e) of) there);
      taken = λ l of there. absurd (new.takes l (is_between one other pairs from to l.pair of) there);
    }

    pub new_good : Good w
    new_good x at_left y at_right from to =
        subst (λ (t : Tables S C). GoodBy one other pairs w.traffic t y from to) (sym (new.left x at_left))
        (subst (λ (t : Tables T D). GoodBy one other pairs w.traffic empty t from to) (sym (new.right y at_right))
        (empty_good from to))

  -- ---- one step

  module _ (a b : Two K L) (apart : one.kind ≢ other.kind) where
    step_clean : StepAmong seen other_seen one other pairs a b → Clean b → Clean a
    step_clean (AtLeft s r) clean = let d = s.does.doubt in let now = clean.0 in
        (omega (arith, d, now), subst (λ k. (other_seen k).doubt ≡ 0) r clean.1)
    step_clean (AtRight s l) clean = let d = s.does.doubt in let now = clean.1 in
        (subst (λ k. (seen k).doubt ≡ 0) l clean.0, omega (arith, d, now))
    step_clean (AtOthers e) clean =
        (subst (λ k. (seen k).doubt ≡ 0) e.left clean.0, subst (λ k. (other_seen k).doubt ≡ 0) e.right clean.1)

    same_left : b.left ≡ a.left → AllMatch one (seen a.left).may_leave → AllMatch one (seen b.left).may_leave
    same_left same h = subst (λ k. AllMatch one (seen k).may_leave) (sym same) h

    same_right : b.right ≡ a.right → AllMatch other (other_seen a.right).may_leave
        → AllMatch other (other_seen b.right).may_leave
    same_right same h = subst (λ k. AllMatch other (other_seen k).may_leave) (sym same) h

    step_matching : StepAmong seen other_seen one other pairs a b → Clean b → Matching a → Matching b
    step_matching (AtLeft s r) clean match = (s.does.matches clean.0 match.0, same_right r match.1)
    step_matching (AtRight s l) clean match = (same_left l match.0, s.does.matches clean.1 match.1)
    step_matching (AtOthers e) clean match = (same_left e.left match.0, same_right e.right match.1)

    -- the left one acts, and the right one rests
    at_left : (traffic : Traffic) (x : Tables S C) (y : Tables T D) (from to : Side)
        → GoodBy one other pairs traffic x y from to
        → IsGoodFromTo pairs traffic (kind_at one (shown other y) other.kind (left_acting from))
        (kind_at one (shown other y) other.kind (left_acting to))
        (shown_at one (shown other y) other.kind x (left_acting from))
        (shown_at one (shown other y) other.kind x (left_acting to))
    at_left traffic x y Left Left h = h
    at_left traffic x y Left Right h = h
    at_left traffic x y Right Left h = h
    at_left traffic x y Right Right h = h

    at_left-back : (traffic : Traffic) (x : Tables S C) (y : Tables T D) (from to : Side)
        → IsGoodFromTo pairs traffic (kind_at one (shown other y) other.kind (left_acting from))
        (kind_at one (shown other y) other.kind (left_acting to))
        (shown_at one (shown other y) other.kind x (left_acting from))
        (shown_at one (shown other y) other.kind x (left_acting to))
        → GoodBy one other pairs traffic x y from to
    at_left-back traffic x y Left Left h = h
    at_left-back traffic x y Left Right h = h
    at_left-back traffic x y Right Left h = h
    at_left-back traffic x y Right Right h = h

    at_right : (traffic : Traffic) (x : Tables S C) (y : Tables T D) (from to : Side)
        → GoodBy one other pairs traffic x y from to
        → IsGoodFromTo pairs traffic (kind_at other (shown one x) one.kind (right_acting from))
        (kind_at other (shown one x) one.kind (right_acting to))
        (shown_at other (shown one x) one.kind y (right_acting from))
        (shown_at other (shown one x) one.kind y (right_acting to))
    at_right traffic x y Left Left h = h
    at_right traffic x y Left Right h = h
    at_right traffic x y Right Left h = h
    at_right traffic x y Right Right h = h

    at_right-back : (traffic : Traffic) (x : Tables S C) (y : Tables T D) (from to : Side)
        → IsGoodFromTo pairs traffic (kind_at other (shown one x) one.kind (right_acting from))
        (kind_at other (shown one x) one.kind (right_acting to))
        (shown_at other (shown one x) one.kind y (right_acting from))
        (shown_at other (shown one x) one.kind y (right_acting to))
        → GoodBy one other pairs traffic x y from to
    at_right-back traffic x y Left Left h = h
    at_right-back traffic x y Left Right h = h
    at_right-back traffic x y Right Left h = h
    at_right-back traffic x y Right Right h = h

    step_good : StepAmong seen other_seen one other pairs a b → Clean b → Matching a → Good a → Good b
    step_good (AtLeft s r) clean match good x may_left y may_right from to =
        at_left-back b.traffic x y from to
        (call_good seen one a.left b.left a.traffic b.traffic s clean.0 match.0 (shown other y) other.kind pairs apart
        (left_acting from) (left_acting to)
        (λ old was. at_left a.traffic old y from to
        (good old was y (subst (λ k. (other_seen k).may_leave y) r may_right) from to))
        x may_left)
    step_good (AtRight s l) clean match good x may_left y may_right from to =
        at_right-back b.traffic x y from to
        (call_good other_seen other a.right b.right a.traffic b.traffic s clean.1 match.1 (shown one x) one.kind pairs
        (λ same. apart (sym same)) (right_acting from) (right_acting to)
        (λ old was. at_right a.traffic x old from to
        (good x (subst (λ k. (seen k).may_leave x) l may_left) old was from to))
        y may_right)
    step_good (AtOthers e) clean match good x may_left y may_right from to =
        elsewhere_good one other pairs a b e x y from to
        (good x (subst (λ k. (seen k).may_leave x) e.left may_left) y
        (subst (λ k. (other_seen k).may_leave y) e.right may_right) from to)

  -- ---- many steps

  path_clean : (path : List (Two K L)) (a b : Two K L) → one.kind ≢ other.kind
      → IsPathAmong seen other_seen one other pairs a path b → Clean b
      → Clean a
  path_clean [] a b apart same clean = subst Clean same clean
  path_clean (next ∷ path) a b apart h clean = step_clean a next apart h.0 (path_clean path next b apart h.1 clean)

  path_matching : (path : List (Two K L)) (a b : Two K L) → one.kind ≢ other.kind
      → IsPathAmong seen other_seen one other pairs a path b → Clean b → Matching a
      → Matching b
  path_matching [] a b apart same clean match = subst Matching (sym same) match
  path_matching (next ∷ path) a b apart h clean match = path_matching path next b apart h.1 clean
      (step_matching a next apart h.0 (path_clean path next b apart h.1 clean) match)

  path_good : (path : List (Two K L)) (a b : Two K L) → one.kind ≢ other.kind
      → IsPathAmong seen other_seen one other pairs a path b → Clean b → Matching a → Good a
      → Good b
  path_good [] a b apart same clean match good = subst Good (sym same) good
  path_good (next ∷ path) a b apart h clean match good =
      let now = path_clean path next b apart h.1 clean in
      path_good path next b apart h.1 clean (step_matching a next apart h.0 now match)
      (step_good a next apart h.0 now match good)

  module _ (a b : Two K L) (run : IsRunAmong seen other_seen one other pairs a b) where
    pub run_clean : Clean a
    run_clean = path_clean run.path a b run.apart run.steps run.clean

    pub run_matching : Matching b
    run_matching = path_matching run.path a b run.apart run.steps run.clean run.matching

    pub run_good : Good b
    run_good = path_good run.path a b run.apart run.steps run.clean run.matching run.good

    pub run_legal : AllLegal seen other_seen one other b
    run_legal x may_left y may_right =
        ((run_matching.0 x may_left).legal, (run_matching.1 y may_right).legal)

    pub run_delivered : AllDelivered seen other_seen one other pairs b
    run_delivered x may_left y may_right from to = (run_good x may_left y may_right from to).delivers

    -- where all was taken and none waits, all was handled
    pub run_handled : TakenAreHandled seen other_seen one other pairs b
    run_handled x may_left y may_right from to p of all none =
        let h = run_good x may_left y may_right from to in
        let prefix = h.delivers.handled p of in
        let settled = h.delivers.settled p of in
        no_more ((shown_by one other x y to).letters p) prefix.0 ((shown_by one other x y from).sent p)
        ((shown_by one other x y to).held p) prefix.1
        (λ n m sent later. h.taken (record { pair = p; number = n; message = m }) of
        (all n m sent (omega (arith, settled, later))) later)
        none
