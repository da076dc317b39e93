-- Lines before a line and behind it: where a line is found, and what a change on one side of it is of all of them.
use Rattle.std.proofs.Common.{◌≡◌, ℕ, List, [], ◌∷◌, ◌++◌, Bool, true, false, refl, ap, ◌∙◌, Some, None}
use Rattle.std.specs.Prelude.{map, if◌then◌else◌}
use Rattle.std.specs.Cmp.Lexicographic.{slice_cmp}
use Rattle.std.specs.List.{AllByRecursion}
use Rattle.std.specs.List.Sorted.{IsStrictlySortedBy}
use Rattle.std.specs.Ordering.{nat_cmp, is_lt, is_eq}
use Rattle.std.specs.declared.cmp.Ordering.TheVariants.{Less, Equal, Greater}
use Rattle.base.specs.declared.entity.Kind.TheVariants.{Order}
use Rattle.base.specs.Entity.{Entity}
use Rattle.base.specs.Order.{same_entity, same_entity-ties, entity_cmp, entity_cmp-total}
use Rattle.trade.specs.declared.line_phase.LinePhase.{LinePhase}
use Rattle.trade.specs.Lines.{Line, line_of, is_before, with_line, with_line_phase}
use Rattle.trade.specs.Sound.{AreLinesSound}
use Rattle.trade.proofs.LineLists.{lines_sound-none}
use Rattle.activities.proofs.Sameness.{either, same_entity-same, same_entity-tells, same_entity-comm}

-- ---- orders are in order as their keys are

abbrev key : Line → List ℕ
key l = l.order.key

abbrev AreOrders : List Line → Type 0
AreOrders ls = AllByRecursion (λ l. l.order.kind ≡ Order) ls

-- all texts of orders begin alike
orders_by_keys : (x y : List ℕ) → entity_cmp (record { kind = Order; key = x }) (record { kind = Order; key = y })
    ≡ slice_cmp nat_cmp x y
orders_by_keys x y = refl

pub by_keys : (a b : Entity) → a.kind ≡ Order → b.kind ≡ Order → entity_cmp a b ≡ slice_cmp nat_cmp a.key b.key
by_keys a b p q =
    let first = ap (λ k. entity_cmp (record { kind = k; key = a.key }) b) p in
    let second = ap (λ k. entity_cmp (record { kind = Order; key = a.key }) (record { kind = k; key = b.key })) q in
    first ∙ second ∙ orders_by_keys a.key b.key

-- ---- all lines on one side of an order

abbrev AllBelow : Entity → List Line → Type 0
AllBelow o ls = AllByRecursion (λ (k : Line). entity_cmp k.order o ≡ Less) ls

abbrev AllAbove : Entity → List Line → Type 0
AllAbove o ls = AllByRecursion (λ (k : Line). entity_cmp o k.order ≡ Less) ls

above_more : (o e : Entity) (ls : List Line) → entity_cmp o e ≡ Less → AllAbove e ls → AllAbove o ls
above_more o e [] h all = tt
above_more o e (l ∷ ls) h all = (entity_cmp-total.trans o e l.order h all.0, above_more o e ls h all.1)

below_more : (o e : Entity) (ls : List Line) → entity_cmp e o ≡ Less → AllBelow e ls → AllBelow o ls
below_more o e [] h all = tt
below_more o e (l ∷ ls) h all = (entity_cmp-total.trans l.order e o all.0 h, below_more o e ls h all.1)

not_same : (o e : Entity) → entity_cmp o e ≡ Less → same_entity o e ≡ false
not_same o e h = same_entity-ties o e ∙ ap is_eq h

none_above : (o : Entity) (ls : List Line) → AllAbove o ls → line_of o ls ≡ None
none_above o [] all = refl
none_above o (l ∷ ls) all = rw (not_same o l.order all.0) (none_above o ls all.1)

none_below : (o : Entity) (ls : List Line) → AllBelow o ls → line_of o ls ≡ None
none_below o [] all = refl
none_below o (l ∷ ls) all =
    rw (same_entity-comm o l.order ∙ not_same l.order o all.0) (none_below o ls all.1)

-- ---- the parts of sound lines

pub record Parts (xs : List Line) (y : Line) (ys : List Line) : Type 0 where
  pub before : AreLinesSound xs
  pub below : AllBelow y.order xs
  pub here : y.order.kind ≡ Order
  pub above : AllAbove y.order ys
  pub behind : AreLinesSound ys

above_all : (y : Line) (ys : List Line) → y.order.kind ≡ Order → AreOrders ys
    → AllByRecursion (λ k. slice_cmp nat_cmp (key y) k ≡ Less) (map key ys)
    → AllAbove y.order ys
above_all y [] kind all h = tt
above_all y (k ∷ ys) kind all h = (by_keys y.order k.order kind all.0 ∙ h.0, above_all y ys kind all.1 h.1)

tail : (x : Line) (ls : List Line) → AreLinesSound (x ∷ ls) → AreLinesSound ls
unfolding IsStrictlySortedBy
tail x ls h = record { of_orders = h.of_orders.1; one_each = h.one_each.1; in_order = h.in_order.1 }

all_above : (x : Line) (ls : List Line) → AreLinesSound (x ∷ ls) → AllAbove x.order ls
unfolding IsStrictlySortedBy
all_above x ls h = above_all x ls h.of_orders.0 h.of_orders.1 h.in_order.0

-- what holds of all comes to those before a line, and to the line
front : (P : Line → Type 0) (xs : List Line) (y : Line) (ys : List Line) → AllByRecursion P (xs ++ y ∷ ys)
    → AllByRecursion P xs × P y
front P [] y ys all = (tt, all.0)
front P (x ∷ xs) y ys all = let rest = front P xs y ys all.1 in ((all.0, rest.0), rest.1)

keys_front : (a : List ℕ) (xs : List Line) (y : Line) (ys : List Line)
    → AllByRecursion (λ k. slice_cmp nat_cmp a k ≡ Less) (map key (xs ++ y ∷ ys))
    → AllByRecursion (λ k. slice_cmp nat_cmp a k ≡ Less) (map key xs)
keys_front a [] y ys all = tt
keys_front a (x ∷ xs) y ys all = (all.0, keys_front a xs y ys all.1)

one_front : (o : Entity) (xs : List Line) (y : Line) (ys : List Line) → line_of o (xs ++ y ∷ ys) ≡ None
    → line_of o xs ≡ None
one_front o [] y ys h = refl
one_front o (x ∷ xs) y ys h = by_case (same_entity o x.order) refl (one_front o xs y ys)
  where
    by_case : (t : Bool) → same_entity o x.order ≡ t → (line_of o (xs ++ y ∷ ys) ≡ None → line_of o xs ≡ None)
        → line_of o (x ∷ xs) ≡ None
    by_case true e more = let some : line_of o (x ∷ xs ++ y ∷ ys) ≡ Some x = rw e refl in absurd (cc)
    by_case false e more = rw e (more (rw e at h))

more_before : (x : Line) (xs : List Line) (y : Line) (ys : List Line) → AreLinesSound (x ∷ xs ++ y ∷ ys)
    → AreLinesSound xs → AreLinesSound (x ∷ xs)
unfolding IsStrictlySortedBy
more_before x xs y ys h rest = record {
  of_orders = (h.of_orders.0, rest.of_orders);
  one_each = (one_front x.order xs y ys h.one_each.0, rest.one_each);
  in_order = (keys_front (key x) xs y ys h.in_order.0, rest.in_order);
}

pub parts : (xs : List Line) (y : Line) (ys : List Line) → AreLinesSound (xs ++ y ∷ ys) → Parts xs y ys
parts [] y ys h = record {
  before = lines_sound-none;
  below = tt;
  here = h.of_orders.0;
  above = all_above y ys h;
  behind = tail y ys h;
}
parts (x ∷ xs) y ys h =
    let rest = parts xs y ys (tail x (xs ++ y ∷ ys) h) in
    let above = front (λ (k : Line). entity_cmp x.order k.order ≡ Less) xs y ys (all_above x (xs ++ y ∷ ys) h) in
    record {
      before = more_before x xs y ys h rest.before;
      below = (above.1, rest.below);
      here = rest.here;
      above = rest.above;
      behind = rest.behind;
    }

-- ---- a line among lines of which it may be in but one part

line_of-front : (o : Entity) (xs zs : List Line) → line_of o zs ≡ None → line_of o (xs ++ zs) ≡ line_of o xs
line_of-front o [] zs h = h
line_of-front o (x ∷ xs) zs h = by_case (same_entity o x.order) (line_of-front o xs zs h)
  where
    by_case : (t : Bool) → line_of o (xs ++ zs) ≡ line_of o xs
        → (if t then Some x else line_of o (xs ++ zs)) ≡ (if t then Some x else line_of o xs)
    by_case true rest = refl
    by_case false rest = rest

line_of-back : (o : Entity) (xs zs : List Line) → AllBelow o xs → line_of o (xs ++ zs) ≡ line_of o zs
line_of-back o [] zs h = refl
line_of-back o (x ∷ xs) zs h =
    rw (same_entity-comm o x.order ∙ not_same x.order o h.0) (line_of-back o xs zs h.1)

phase_front : (o : Entity) (p : LinePhase) (xs zs : List Line) → line_of o zs ≡ None
    → with_line_phase o p (xs ++ zs) ≡ with_line_phase o p xs ++ zs
phase_front o p [] zs h = phase_none o p zs h
  where
    phase_none : (o : Entity) (p : LinePhase) (ls : List Line) → line_of o ls ≡ None → with_line_phase o p ls ≡ ls
    phase_none o p [] h = refl
    phase_none o p (l ∷ ls) h = by_case (same_entity o l.order) refl (phase_none o p ls)
      where
        by_case : (t : Bool) → same_entity o l.order ≡ t → (line_of o ls ≡ None → with_line_phase o p ls ≡ ls)
            → with_line_phase o p (l ∷ ls) ≡ l ∷ ls
        by_case true e rest = let some : line_of o (l ∷ ls) ≡ Some l = rw e refl in absurd (cc)
        by_case false e rest = rw e (ap (λ ks. l ∷ ks) (rest (rw e at h)))
phase_front o p (x ∷ xs) zs h = by_case (same_entity o x.order) (phase_front o p xs zs h)
  where
    by_case : (t : Bool) → with_line_phase o p (xs ++ zs) ≡ with_line_phase o p xs ++ zs
        → (if t then record x { phase = p } ∷ xs ++ zs else x ∷ with_line_phase o p (xs ++ zs))
        ≡ (if t then record x { phase = p } ∷ xs else x ∷ with_line_phase o p xs) ++ zs
    by_case true rest = refl
    by_case false rest = ap (λ ks. x ∷ ks) rest

phase_back : (o : Entity) (p : LinePhase) (xs zs : List Line) → AllBelow o xs
    → with_line_phase o p (xs ++ zs) ≡ xs ++ with_line_phase o p zs
phase_back o p [] zs h = refl
phase_back o p (x ∷ xs) zs h =
    rw (same_entity-comm o x.order ∙ not_same x.order o h.0) (ap (λ ks. x ∷ ks) (phase_back o p xs zs h.1))

-- ---- at a line of sound lines: the order comes before it, is its order, or comes behind it

none_from : (o : Entity) (y : Line) (ys : List Line) → entity_cmp o y.order ≡ Less → AllAbove y.order ys
    → line_of o (y ∷ ys) ≡ None
none_from o y ys less above = none_above o (y ∷ ys) (less, above_more o y.order ys less above)

turned : (o e : Entity) → entity_cmp o e ≡ Greater → entity_cmp e o ≡ Less
turned o e h = entity_cmp-total.antisymm e o ∙ rw h refl

tied : (a b : Entity) → entity_cmp a b ≡ Equal → a ≡ b
tied a b e = either (same_entity-tells a b) (λ h. h.1) (λ h. let t : same_entity a b ≡ true = same_entity-ties a b
    ∙ rw e refl in cc)

pub line_before : (o : Entity) (xs : List Line) (y : Line) (ys : List Line) → entity_cmp o y.order ≡ Less
    → AllAbove y.order ys
    → line_of o (xs ++ y ∷ ys) ≡ line_of o xs
line_before o xs y ys less above = line_of-front o xs (y ∷ ys) (none_from o y ys less above)

pub line_here : (o : Entity) (xs : List Line) (y : Line) (ys : List Line) → entity_cmp o y.order ≡ Equal
    → AllBelow y.order xs
    → line_of o (xs ++ y ∷ ys) ≡ Some y
line_here o xs y ys same below =
    let is : o ≡ y.order = tied o y.order same in
    let there : line_of o (y ∷ ys) ≡ Some y = rw is (rw (same_entity-same y.order) refl) in
    line_of-back o xs (y ∷ ys) (rw is below) ∙ there

pub line_behind : (o : Entity) (xs : List Line) (y : Line) (ys : List Line) → entity_cmp o y.order ≡ Greater
    → AllBelow y.order xs
    → line_of o (xs ++ y ∷ ys) ≡ line_of o ys
line_behind o xs y ys more below =
    let less = turned o y.order more in
    let there : line_of o (y ∷ ys) ≡ line_of o ys = rw (same_entity-comm o y.order ∙ not_same y.order o less) refl in
    line_of-back o xs (y ∷ ys) (below_more o y.order xs less below) ∙ there

pub phase_before : (o : Entity) (p : LinePhase) (xs : List Line) (y : Line) (ys : List Line)
    → entity_cmp o y.order ≡ Less → AllAbove y.order ys
    → with_line_phase o p (xs ++ y ∷ ys) ≡ with_line_phase o p xs ++ y ∷ ys
phase_before o p xs y ys less above = phase_front o p xs (y ∷ ys) (none_from o y ys less above)

pub phase_here : (o : Entity) (p : LinePhase) (xs : List Line) (y : Line) (ys : List Line)
    → entity_cmp o y.order ≡ Equal → AllBelow y.order xs
    → with_line_phase o p (xs ++ y ∷ ys) ≡ xs ++ record y { phase = p } ∷ ys
phase_here o p xs y ys same below =
    let is : o ≡ y.order = tied o y.order same in
    let there : with_line_phase o p (y ∷ ys) ≡ record y { phase = p } ∷ ys = rw is (rw (same_entity-same y.order) refl)
    in
    phase_back o p xs (y ∷ ys) (rw is below) ∙ ap (λ ks. xs ++ ks) there

pub phase_behind : (o : Entity) (p : LinePhase) (xs : List Line) (y : Line) (ys : List Line)
    → entity_cmp o y.order ≡ Greater → AllBelow y.order xs
    → with_line_phase o p (xs ++ y ∷ ys) ≡ xs ++ y ∷ with_line_phase o p ys
phase_behind o p xs y ys more below =
    let less = turned o y.order more in
    let there : with_line_phase o p (y ∷ ys) ≡ y ∷ with_line_phase o p ys =
    rw (same_entity-comm o y.order ∙ not_same y.order o less) refl
    in
    phase_back o p xs (y ∷ ys) (below_more o y.order xs less below) ∙ ap (λ ks. xs ++ ks) there

-- ---- one more line

comes_before : (a b : Entity) → a.kind ≡ Order → b.kind ≡ Order → is_before a b ≡ is_lt (entity_cmp a b)
unfolding is_before
comes_before a b p q = rw (by_keys a b p q) refl

pub with_before : (l : Line) (xs : List Line) (y : Line) (ys : List Line) → l.order.kind ≡ Order
    → y.order.kind ≡ Order → entity_cmp l.order y.order ≡ Less
    → with_line l (xs ++ y ∷ ys) ≡ with_line l xs ++ y ∷ ys
with_before l [] y ys kind here less = rw (comes_before l.order y.order kind here ∙ ap is_lt less) refl
with_before l (x ∷ xs) y ys kind here less =
    by_case (is_before l.order x.order) (with_before l xs y ys kind here less)
  where
    by_case : (t : Bool) → with_line l (xs ++ y ∷ ys) ≡ with_line l xs ++ y ∷ ys
        → (if t then l ∷ x ∷ xs ++ y ∷ ys else x ∷ with_line l (xs ++ y ∷ ys))
        ≡ (if t then l ∷ x ∷ xs else x ∷ with_line l xs) ++ y ∷ ys
    by_case true rest = refl
    by_case false rest = ap (λ ks. x ∷ ks) rest

not_before : (l k : Line) → l.order.kind ≡ Order → k.order.kind ≡ Order → entity_cmp k.order l.order ≡ Less
    → is_before l.order k.order ≡ false
not_before l k kind there less =
    let back : entity_cmp l.order k.order ≡ Greater = entity_cmp-total.antisymm l.order k.order ∙ rw less refl in
    comes_before l.order k.order kind there ∙ ap is_lt back

with_back : (l : Line) (xs zs : List Line) → l.order.kind ≡ Order → AreOrders xs → AllBelow l.order xs
    → with_line l (xs ++ zs) ≡ xs ++ with_line l zs
with_back l [] zs kind all below = refl
with_back l (x ∷ xs) zs kind all below =
    rw (not_before l x kind all.0 below.0) (ap (λ ks. x ∷ ks) (with_back l xs zs kind all.1 below.1))

pub with_here : (l : Line) (xs : List Line) (y : Line) (ys : List Line) → l.order.kind ≡ Order
    → entity_cmp l.order y.order ≡ Equal → Parts xs y ys
    → with_line l (xs ++ y ∷ ys) ≡ xs ++ y ∷ with_line l ys
with_here l xs y ys kind same parts =
    let there : with_line l (y ∷ ys) ≡ y ∷ with_line l ys =
    rw (comes_before l.order y.order kind parts.here ∙ ap is_lt same) refl
    in
    with_back l xs (y ∷ ys) kind parts.before.of_orders (rw (tied l.order y.order same) parts.below)
    ∙ ap (λ ks. xs ++ ks) there

pub with_behind : (l : Line) (xs : List Line) (y : Line) (ys : List Line) → l.order.kind ≡ Order
    → entity_cmp l.order y.order ≡ Greater → Parts xs y ys
    → with_line l (xs ++ y ∷ ys) ≡ xs ++ y ∷ with_line l ys
with_behind l xs y ys kind more parts =
    let there : with_line l (y ∷ ys) ≡ y ∷ with_line l ys =
    rw (comes_before l.order y.order kind parts.here ∙ ap is_lt more) refl
    in
    with_back l xs (y ∷ ys) kind parts.before.of_orders
    (below_more l.order y.order xs (turned l.order y.order more) parts.below)
    ∙ ap (λ ks. xs ++ ks) there

-- ---- what a search, one more line and another phase want

pub ruleset finding = (parts, line_before, line_here, line_behind)

pub ruleset adding = (parts, with_before, with_here, with_behind)

pub ruleset changing = (parts, phase_before, phase_here, phase_behind)
