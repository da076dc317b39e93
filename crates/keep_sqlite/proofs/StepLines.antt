-- Lines that rows tell, without those of one order, and with another one in their place.
use Rattle.std.proofs.Common.{◌≡◌, inl, inr, List, [], ◌∷◌, Bool, true, false, filter, map, refl, sym, ap, ◌∙◌}
use Rattle.std.proofs.Common.{subst, Option, Some, None}
use Rattle.std.specs.Prelude.{not, if◌then◌else◌, ℕ}
use Rattle.std.specs.Option.{option_and_then}
use Rattle.std.specs.Cmp.Lexicographic.{slice_cmp}
use Rattle.std.specs.List.{AllByRecursion}
use Rattle.std.specs.List.Sorted.{IsStrictlySortedBy}
use Rattle.std.specs.Ordering.{nat_cmp, is_lt}
use Rattle.std.specs.declared.cmp.Ordering.{Ordering}
use Rattle.std.specs.declared.cmp.Ordering.TheVariants.{Less, Equal, Greater}
use Rattle.std.proofs.lemmas.Cmp.{nat_list_cmp_total}
use Rattle.std.proofs.lemmas.Option.{same_Some}
use Rattle.base.specs.declared.entity.Kind.TheVariants.{Order}
use Rattle.base.specs.Entity.{Entity}
use Rattle.base.specs.Order.{same_entity}
use Rattle.base.proofs.Entities.{same_entity-Decides}
use Rattle.sqlite_keyed.proofs.ListLemmas.{all-filter}
use Rattle.sqlite_rules.specs.Lists.{Has}
use Rattle.trade.specs.Following.{without}
use Rattle.trade.specs.Lines.{Line, line_of, is_before, with_line}
use Rattle.trade.specs.Sound.{AreLinesSound}
use Rattle.trade.proofs.LineLists.{lines_sound-with}
use Rattle.sql_bodies.specs.LineRows.{lines_with}
use Rattle.sql_bodies.specs.Steps.{steps}

abbrev key : Line → List ℕ
key l = l.order.key

-- ---- lines without that of an order

pub none_without : (o : Entity) (ls : List Line) → line_of o (without o ls) ≡ None
none_without o [] = refl
none_without o (k ∷ ks) = by_case (same_entity o k.order) refl (none_without o ks)
  where
    by_case : (t : Bool) → same_entity o k.order ≡ t → line_of o (without o ks) ≡ None
        → line_of o (without o (k ∷ ks)) ≡ None
    by_case true e rest = rw e rest
    by_case false e rest = rw e (rw e rest)

others_without : (o e : Entity) (ls : List Line) → same_entity o e ≡ false → line_of e (without o ls) ≡ line_of e ls
others_without o e [] apart = refl
others_without o e (k ∷ ks) apart =
    by_case (same_entity o k.order) (same_entity e k.order) refl refl (others_without o e ks apart)
  where
    by_case : (t u : Bool) → same_entity o k.order ≡ t → same_entity e k.order ≡ u
        → line_of e (without o ks) ≡ line_of e ks → line_of e (without o (k ∷ ks)) ≡ line_of e (k ∷ ks)
    by_case true true a b rest =
        let same : o ≡ e = (same_entity-Decides o k.order).0 a ∙ sym ((same_entity-Decides e k.order).0 b) in
        let tied : same_entity o e ≡ true = (same_entity-Decides o e).1 same in
        absurd (cc)
    by_case true false a b rest = rw (a, b) rest
    by_case false true a b rest = rw (a, b) refl
    by_case false false a b rest = rw (a, b) rest

-- what is put is left out again
same_left_out : (o : Entity) (l : Line) (ls : List Line) → same_entity o l.order ≡ true
    → without o (with_line l ls) ≡ without o ls
same_left_out o l [] same = rw same refl
same_left_out o l (k ∷ ks) same = by_case (is_before l.order k.order) (same_left_out o l ks same)
  where
    by_case : (t : Bool) → without o (with_line l ks) ≡ without o ks
        → without o (if t then l ∷ k ∷ ks else k ∷ with_line l ks) ≡ without o (k ∷ ks)
    by_case true rest = rw same refl
    by_case false rest = left_out (same_entity o k.order)
      where
        left_out : (u : Bool) → (if not u then k ∷ without o (with_line l ks) else without o (with_line l ks))
            ≡ (if not u then k ∷ without o ks else without o ks)
        left_out true = rest
        left_out false = ap (λ xs. k ∷ xs) rest

-- before all lines
put_first : (l : Line) (ls : List Line) → AllByRecursion (λ k. is_before l.order k.order ≡ true) ls
    → with_line l ls ≡ l ∷ ls
put_first l [] all = refl
put_first l (k ∷ ks) all = rw all.0 refl

is_less : (a b : Entity) → is_before a b ≡ true → slice_cmp nat_cmp a.key b.key ≡ Less
unfolding is_before
is_less a b is = by_case (slice_cmp nat_cmp a.key b.key) is
  where
    by_case : (o : Ordering) → is_lt o ≡ true → o ≡ Less
    by_case Less h = refl
    by_case Equal h = absurd (cc)
    by_case Greater h = absurd (cc)

before_all : (l k : Line) (ks : List Line) → is_before l.order k.order ≡ true
    → AllByRecursion (λ x. slice_cmp nat_cmp (key k) x ≡ Less) (map key ks)
    → AllByRecursion (λ (x : Line). is_before l.order x.order ≡ true) ks
unfolding is_before
before_all l k [] first all = tt
before_all l k (x ∷ xs) first all =
    let less = nat_list_cmp_total.trans (key l) (key k) (key x) (is_less l.order k.order first) all.0 in
    (rw less refl, before_all l k xs first all.1)

other_stays : (o : Entity) (l : Line) (ls : List Line) → same_entity o l.order ≡ false
    → IsStrictlySortedBy (slice_cmp nat_cmp) (map key ls) → without o (with_line l ls) ≡ with_line l (without o ls)
unfolding IsStrictlySortedBy
other_stays o l [] apart sorted = rw apart refl
other_stays o l (k ∷ ks) apart sorted =
    by_case (is_before l.order k.order) refl (other_stays o l ks apart sorted.1)
  where
    by_case : (t : Bool) → is_before l.order k.order ≡ t → without o (with_line l ks) ≡ with_line l (without o ks)
        → without o (if t then l ∷ k ∷ ks else k ∷ with_line l ks) ≡ with_line l (without o (k ∷ ks))
    by_case true e rest =
        rw apart (sym (put_first l (without o (k ∷ ks))
        (all-filter (λ (x : Line). is_before l.order x.order ≡ true) (λ x. not (same_entity o x.order)) (k ∷ ks)
        (e, before_all l k ks e sorted.0))))
    by_case false e rest = left_out (same_entity o k.order)
      where
        left_out : (u : Bool) → (if not u then k ∷ without o (with_line l ks) else without o (with_line l ks))
            ≡ with_line l (if not u then k ∷ without o ks else without o ks)
        left_out true = rest
        left_out false = rw e (ap (λ xs. k ∷ xs) rest)

-- ---- rows

module _ {R : Type 0} (line : R → Option Line) (of_order : (r : R) (l : Line) → line r ≡ Some l → l.order.kind ≡ Order)
  where
    abbrev step : R → List Line → Option (List Line)
    step r ls = lines_with (line r) ls

    -- what rows tell is sound
    pub rows_sound : (rows : List R) (some all : List Line) → AreLinesSound some → steps step rows some ≡ Some all
        → AreLinesSound all
    rows_sound [] some all sound is = subst AreLinesSound (same_Some _ _ is) sound
    rows_sound (r ∷ rows) some all sound is = by_line (line r) refl is (λ more h told. rows_sound rows more all h told)
      where
        by_line : (x : Option Line) → line r ≡ x → option_and_then (steps step rows) (lines_with x some) ≡ Some all
            → ((more : List Line) → AreLinesSound more → steps step rows more ≡ Some all → AreLinesSound all)
            → AreLinesSound all
        by_line None e told rest = absurd (cc)
        by_line (Some l) e told rest = by_place (line_of l.order some) refl told
          where
            by_place : (y : Option Line) → line_of l.order some ≡ y
                → option_and_then (steps step rows) (lines_with (Some l) some) ≡ Some all → AreLinesSound all
            by_place (Some k) f said = let none = rw f at said in absurd (cc)
            by_place None f said = rest (with_line l some) (lines_sound-with l some (of_order r l e) f sound) (rw f at said)

    -- without those of an order, which `c` tells, rows tell all lines but that of the order
    pub rows_without : (o : Entity) (c : R → Bool) (rows : List R)
        → ((r : R) (l : Line) → Has rows r → line r ≡ Some l → same_entity o l.order ≡ c r)
        → (some all : List Line) → AreLinesSound some → steps step rows some ≡ Some all
        → steps step (filter (λ r. not (c r)) rows) (without o some) ≡ Some (without o all)
    rows_without o c [] tells some all sound is = ap (λ (ls : List Line). Some (without o ls)) (same_Some _ _ is)
    rows_without o c (r ∷ rows) tells some all sound is = by_line (line r) refl is
        (λ more h told. rows_without o c rows (λ q l has. tells q l (inr has)) more all h told)
      where
        by_line : (x : Option Line) → line r ≡ x → option_and_then (steps step rows) (lines_with x some) ≡ Some all
            → ((more : List Line) → AreLinesSound more → steps step rows more ≡ Some all
            → steps step (filter (λ q. not (c q)) rows) (without o more) ≡ Some (without o all))
            → steps step (filter (λ q. not (c q)) (r ∷ rows)) (without o some) ≡ Some (without o all)
        by_line None e told rest = absurd (cc)
        by_line (Some l) e told rest = by_place (line_of l.order some) refl told
          where
            by_test : (t : Bool) → c r ≡ t → line_of l.order some ≡ None
                → steps step (filter (λ q. not (c q)) rows) (without o (with_line l some)) ≡ Some (without o all)
                → steps step (filter (λ q. not (c q)) (r ∷ rows)) (without o some) ≡ Some (without o all)
            by_test true g f after =
                let same : same_entity o l.order ≡ true = tells r l (inl refl) e ∙ g in
                rw g (rw (same_left_out o l some same) at after)
            by_test false g f after =
                let apart : same_entity o l.order ≡ false = tells r l (inl refl) e ∙ g in
                let none : line_of l.order (without o some) ≡ None = others_without o l.order some apart ∙ f in
                rw (g, e, none) (rw (other_stays o l some apart sound.in_order) at after)

            by_place : (y : Option Line) → line_of l.order some ≡ y
                → option_and_then (steps step rows) (lines_with (Some l) some) ≡ Some all
                → steps step (filter (λ q. not (c q)) (r ∷ rows)) (without o some) ≡ Some (without o all)
            by_place (Some k) f said = let none = rw f at said in absurd (cc)
            by_place None f said = by_test (c r) refl f
                (rest (with_line l some) (lines_sound-with l some (of_order r l e) f sound) (rw f at said))
