-- Each step keeps the rule of the lock.
use Rattle.std.proofs.Common.{◌≡◌, ◌≢◌, ◌⊎◌, ℕ, zero, suc, ◌<◌, ◌==◌, List, [], ◌∷◌, ◌++◌, length, map, set}
use Rattle.std.proofs.Common.{Some, None, Option, true≢false, refl, sym, ap, ◌∙◌, subst, inl, inr}
use Rattle.std.proofs.Common.{⊎_elim, arith}
use Rattle.std.specs.Prelude.{if◌then◌else◌}
use Rattle.std.proofs.lemmas.Bool.Decides.{nat_tests}
use mathlib.Core.Option.{some, some-ne-none, some-injective}
use lib.ListN.{get_elem?}
use Rattle.crossbeam_channel.specs.Fifo.{Pushes, Pops, Forks, Merges, Learns}
use Rattle.atomic_table.proofs.Lists.{at_set}
use Rattle.told_lock.specs.declared.view.ToldToken.{ToldToken}
use Rattle.told_lock.specs.declared.view.Known.{Known}
use Rattle.told_lock.specs.declared.view.Stage.TheVariants.{New, Waiting, Open}
use Rattle.told_lock.specs.Rule.{Every, opener, waiting, entered, gone, holding, without, new_told, saw, counted}
use Rattle.told_lock.specs.Rule.{Began, Entered, Saw, Stayed, told_by, token_of, next_of, both_of, Holds, IsChief}
use Rattle.told_lock.specs.Rule.{IsTold, IsKnown, Each, IsFree, MayHold, Opened, Kept, Took, MaySee, MayStay}
use Rattle.told_lock.specs.Rule.{Sums, seen_by, witness_of, shown_of}
use Rattle.told_lock.proofs.Views.{every_map, every_over, every_both, at_end, each_set, each_more, each_other}

module _ {T : Type 0} where
  new_apart : (x : T) → opener ≡ waiting x → ⊥
  new_apart x is = let same : New ≡ Waiting = ap (λ (k : Known T). k.stage) is in absurd (cc same)

  not_new : (v : Known T) → v.stage ≡ Open → v ≡ opener → ⊥
  not_new v two is = let same : Open ≡ New = sym two ∙ ap (λ (k : Known T). k.stage) is in absurd (cc same)

  not_waiting : (v : Known T) (x : T) → v.stage ≡ Open → v ≡ waiting x → ⊥
  not_waiting v x two is = let same : Open ≡ Waiting = sym two ∙ ap (λ (k : Known T). k.stage) is in absurd (cc same)

pick_here : (s n a b : ℕ) → s ≡ n → (if s == n then a else b) ≡ a
pick_here s n a b e = grind (arith, nat_tests)

pick_else : (s n a b : ℕ) → s ≢ n → (if s == n then a else b) ≡ b
pick_else s n a b e = grind (arith, nat_tests)

module _ {T : Type 0} (Since : ℕ → T → T → Type 0) (Later Ends : T → T → Type 0)
    (since_same : (n : ℕ) (a : T) → Since n a a)
    (since_join : (n : ℕ) (a b c : T) → Since n a b → Since n b c → Since n a c)
    (later_same : (a : T) → Later a a) (later_join : (a b c : T) → Later a b → Later b c → Later a c)
    (ends_same : (a : T) → Ends a a) (Ever : T → T → Type 0)
    (ever_of : (n : ℕ) (a b : T) → Since n a b → Ever a b)
    (ever_join : (a b c : T) → Ever a b → Ever b c → Ever a c) where
  -- a number below the top is not the top
  below : (a top : ℕ) → a < top → a ≢ top
  below a top lt same = absurd (omega arith)

  -- what was shown is so of what came of it
  on_shown : (a b : T) (ys : List T) → Ever a b → Every (λ y. Ever y a) ys → Every (λ y. Ever y b) ys
  on_shown a b ys e all = every_map (λ y. Ever y a) (λ y. Ever y b) ys (λ y h. ever_join y a b h e) all

  abbrev K : List T → List (Known T) → Type 0
  K = Kept Since Later Ends Ever

  abbrev Is : T → T → ToldToken T → Type 0
  Is = IsTold Since Later Ends

  abbrev Knows : T → T → (ℕ → ℕ) → ℕ → ℕ → ℕ → Known T → Type 0
  Knows = IsKnown Since Later Ends Ever

  -- a key of an open lock
  opened : (items : List T) (views : List (Known T)) (i : ℕ) (v : Known T) → v.stage ≡ Open
      → get_elem? views i ≡ some v → K items views → Opened Since Later Ends Ever items views
  opened items views i v two at (inl h) = absurd (not_first views i v two (h.1) at)
    where
      not_first : (views : List (Known T)) (i : ℕ) (v : Known T) → v.stage ≡ Open → views ≡ opener ∷ []
          → get_elem? views i ≡ some v → ⊥
      not_first [] i v two is at = some-ne-none v (sym at)
      not_first (x ∷ xs) zero v two is at =
          let a : x ≡ v = some-injective _ _ at in
          let b : x ≡ opener = cc is in
          not_new v two (sym a ∙ b)
      not_first (x ∷ []) (suc i) v two is at = some-ne-none v (sym at)
      not_first (x ∷ y ∷ ys) (suc i) v two is at = absurd (cc is)
  opened items views i v two at (inr (inl h)) = absurd (waits views i v h.0 two (h.2) at)
    where
      waits : (views : List (Known T)) (i : ℕ) (v : Known T) (e : T) → v.stage ≡ Open → views ≡ waiting e ∷ []
          → get_elem? views i ≡ some v → ⊥
      waits [] i v e two is at = some-ne-none v (sym at)
      waits (x ∷ xs) zero v e two is at =
          let a : x ≡ v = some-injective _ _ at in
          let b : x ≡ waiting e = cc is in
          not_waiting v e two (sym a ∙ b)
      waits (x ∷ []) (suc i) v e two is at = some-ne-none v (sym at)
      waits (x ∷ y ∷ ys) (suc i) v e two is at = absurd (cc is)
  opened items views i v two at (inr (inr h)) = h

  pub takes : (i : ℕ) (v : Known T) → v.stage ≡ Open → Pops K i v (Took Since Later Ends Ever v)
  takes i v two x items views rule at =
      let h = opened (x ∷ items) views i v two at rule in
      let me = h.known i v at in
      let w : Known T = holding x h.good v in
      let place : (x ≡ h.value) × (items ≡ []) × Each Since Later Ends (IsFree Since Later Ends) views =
      ⊎_elim (λ p. (cc (p.0), cc (p.0), p.1)) (λ p. absurd (cc (p.0))) h.place in
      let is : h.value ≡ x = sym place.0 in
      let told = subst (λ y. Every
      (λ t. Is y h.good t × (h.owner t.number ≡ i) × (t.number < h.top)) v.own) is me.told in
      let end : Ends h.good x = subst (Ends h.good) is h.ends in (
        w,
        inr (inr (record {
          value = x;
          good = h.good;
          owner = h.owner;
          chief = h.chief;
          top = h.top;
          ends = end;
          place = inr (
            place.1,
            (
              i,
              each_set (MayHold Since Later Ends i x h.good) views i w (inr (refl, refl, refl))
                  (λ j u apart e. inl (place.2 j u e)),
            ),
          );
          known = each_set (Knows x h.good h.owner h.chief h.top) views i w
              (record { opened = refl; told = told; chief_is = me.chief_is; shown = me.shown })
              (λ j u apart e. subst (λ y. Knows y h.good h.owner h.chief h.top j u) is (h.known j u e));
        })),
        record {
          good = h.good;
          is = refl;
          ends = end;
          told = every_map _ _ v.own (λ t p. p.0) told;
          shown = me.shown;
        },
      )

  -- where this key holds d, no other holds anything, and d is the value of the rule
  record Mine (items : List T) (views : List (Known T)) (i : ℕ) (v : Known T) (d : T) : Type 0 where
    good : T
    owner : ℕ → ℕ
    chief : ℕ
    top : ℕ
    empty : items ≡ []
    was : v.good ≡ Some good
    ends : Ends good d
    others : (j : ℕ) (u : Known T) → j ≢ i → get_elem? views j ≡ some u → u.has ≡ None
    known : Each Since Later Ends (Knows d good owner chief top) views

  mine : (items : List T) (views : List (Known T)) (i : ℕ) (v : Known T) (d : T) → v.stage ≡ Open → v.has ≡ Some d
      → get_elem? views i ≡ some v → K items views → Mine items views i v d
  mine items views i v d two has at rule =
      let h = opened items views i v two at rule in
      let here : (items ≡ []) × (h.value ≡ d) × (v.good ≡ Some h.good)
      × ((j : ℕ) (u : Known T) → j ≢ i → get_elem? views j ≡ some u → u.has ≡ None) =
      ⊎_elim
      (λ p. let none = p.1 i v at in absurd (cc (none, has)))
      (λ p. held p.0 p.1.0 h.value h.good p.1.1 (p.1.1 i v at))
      h.place in
      record {
        good = h.good;
        owner = h.owner;
        chief = h.chief;
        top = h.top;
        empty = here.0;
        was = here.2;
        ends = subst (Ends h.good) here.1 h.ends;
        others = here.3;
        known = subst (λ (y : T). Each Since Later Ends (Knows y h.good h.owner h.chief h.top) views) here.1 h.known;
      }
    where
      held : items ≡ [] → (holder : ℕ) (e g : T) → Each Since Later Ends (MayHold Since Later Ends holder e g) views
          → (v.has ≡ None) ⊎ ((i ≡ holder) × (v.has ≡ Some e) × (v.good ≡ Some g))
          → (items ≡ []) × (e ≡ d) × (v.good ≡ Some g)
          × ((j : ℕ) (u : Known T) → j ≢ i → get_elem? views j ≡ some u → u.has ≡ None)
      held empty holder e g all (inl none) = absurd (cc (none, has))
      held empty holder e g all (inr p) = (
        empty,
        cc (p.1, has),
        p.2,
        λ j u apart there. ⊎_elim (λ none. none) (λ q. absurd (apart (q.0 ∙ sym p.0)))
            (all j u there),
      )

  -- the same, for one whose good part is known
  mine_at : (items : List T) (views : List (Known T)) (i : ℕ) (v : Known T) (d g : T) (h : Mine items views i v d)
      → v.good ≡ Some g → h.good ≡ g
  mine_at items views i v d g h was = cc (was, h.was)

  pub sees : (n i : ℕ) (v : Known T) (x : T) → MaySee Since Later Ends v x → Pushes K n i v x (Saw v x)
  sees n i v x may items views room rule at =
      let h = mine items views i v may.value may.stage may.has at rule in
      let same : h.good ≡ may.good = mine_at items views i v may.value may.good h may.was in
      let me = h.known i v at in
      let on : Ever h.good x = ever_of h.top h.good x (subst (λ y. Since h.top y x) (sym same)
      (may.others h.top (every_map _ _ v.own (λ y q. below y.number h.top q.2) me.told))) in
      let w : Known T = without (map (saw x) v.own) v in (
        w,
        inr (inr (record {
          value = x;
          good = x;
          owner = h.owner;
          chief = h.chief;
          top = h.top;
          ends = ends_same x;
          place = inl (ap (λ l. l ++ x ∷ []) h.empty, each_set (IsFree Since Later Ends) views i w refl h.others);
          known = each_set (Knows x x h.owner h.chief h.top) views i w
              (record {
                opened = refl;
                told = every_over (λ t. Is may.value h.good t × (h.owner t.number ≡ i) × (t.number < h.top))
                    (λ t. Is x x t × (h.owner t.number ≡ i) × (t.number < h.top)) (saw x) v.own
                    (λ t p. (
                      record {
                        since = since_same t.number x;
                        last = later_same x;
                        found = later_join t.found may.value x p.0.found may.later;
                      },
                      p.1,
                      p.2,
                    )) me.told;
                chief_is = me.chief_is;
                shown = on_shown h.good x v.shown on me.shown;
              })
              (λ j u apart there.
              let k = h.known j u there in
              record {
                opened = k.opened;
                told = every_map _ _ u.own
                    (λ t p. (
                      record {
                        since = since_join t.number t.seen h.good x p.0.since
                            (subst (λ y. Since t.number y x) (sym same)
                            (may.others t.number (every_map _ _ v.own
                            (λ y q is. apart (sym p.1 ∙ ap h.owner (sym is) ∙ q.1)) me.told)));
                        last = later_join t.last may.value x p.0.last may.later;
                        found = later_join t.found may.value x p.0.found may.later;
                      },
                      p.1,
                      p.2,
                    )) k.told;
                chief_is = k.chief_is;
                shown = on_shown h.good x u.shown on k.shown;
              });
        })),
        refl,
      )

  pub stays : (n i : ℕ) (v : Known T) (x : T) → MayStay Since Later Ends v x → Pushes K n i v x (Stayed v x)
  stays n i v x may items views room rule at =
      let h = mine items views i v may.value may.stage may.has at rule in
      let same : h.good ≡ may.good = mine_at items views i v may.value may.good h may.was in
      let me = h.known i v at in
      let on : (t : ToldToken T) → Since t.number t.seen h.good
      → Since t.number t.seen may.now = λ t s. since_join t.number t.seen h.good may.now s
      (subst (λ y. Since t.number y may.now) (sym same) (may.all t.number)) in
      let ever : Ever h.good may.now = ever_of 0 h.good may.now (subst (λ y. Since 0 y may.now) (sym same) (may.all 0)) in
      let w : Known T = without (map (counted x) v.own) v in (
        w,
        inr (inr (record {
          value = x;
          good = may.now;
          owner = h.owner;
          chief = h.chief;
          top = h.top;
          ends = may.ends;
          place = inl (ap (λ l. l ++ x ∷ []) h.empty, each_set (IsFree Since Later Ends) views i w refl h.others);
          known = each_set (Knows x may.now h.owner h.chief h.top) views i w
              (record {
                opened = refl;
                told = every_over (λ t. Is may.value h.good t × (h.owner t.number ≡ i) × (t.number < h.top))
                    (λ t. Is x may.now t × (h.owner t.number ≡ i) × (t.number < h.top)) (counted x) v.own
                    (λ t p. (
                      record {
                        since = on t p.0.since;
                        last = later_same x;
                        found = later_join t.found may.value x p.0.found may.later;
                      },
                      p.1,
                      p.2,
                    )) me.told;
                chief_is = me.chief_is;
                shown = on_shown h.good may.now v.shown ever me.shown;
              })
              (λ j u apart there.
              let k = h.known j u there in
              record {
                opened = k.opened;
                told = every_map _ _ u.own
                    (λ t p. (
                      record {
                        since = on t p.0.since;
                        last = later_join t.last may.value x p.0.last may.later;
                        found = later_join t.found may.value x p.0.found may.later;
                      },
                      p.1,
                      p.2,
                    )) k.told;
                chief_is = k.chief_is;
                shown = on_shown h.good may.now u.shown ever k.shown;
              });
        })),
        refl,
      )

  pub begins : (n i : ℕ) (x : T) → Pushes K n i opener x (Began opener x)
  begins n i x items views room (inl h) at =
      let all = only views opener h.1 i at in
      (waiting x, inr (inl (x, ap (λ l. l ++ x ∷ []) h.0, all)), refl)
    where
      only : (views : List (Known T)) (v : Known T) → views ≡ v ∷ [] → (i : ℕ) → get_elem? views i ≡ some v
          → set views i (waiting x) ≡ waiting x ∷ []
      only [] v is i at = absurd (cc is)
      only (y ∷ []) v is zero at = refl
      only (y ∷ []) v is (suc i) at = absurd (some-ne-none v (sym at))
      only (y ∷ z ∷ ys) v is i at = absurd (cc is)
  begins n i x items views room (inr (inl h)) at = absurd (apart views i h.0 h.2 at)
    where
      apart : (views : List (Known T)) (i : ℕ) (e : T) → views ≡ waiting e ∷ [] → get_elem? views i ≡ some opener → ⊥
      apart [] i e is at = some-ne-none opener (sym at)
      apart (y ∷ []) zero e is at =
          let a : y ≡ opener = some-injective _ _ at in
          let b : y ≡ waiting e = cc is in
          new_apart e (sym a ∙ b)
      apart (y ∷ []) (suc i) e is at = some-ne-none opener (sym at)
      apart (y ∷ z ∷ ys) i e is at = absurd (cc is)
  begins n i x items views room (inr (inr h)) at = let two = (h.known i opener at).opened in absurd (no two)
    where
      no : New ≡ Open → ⊥
      no e = absurd (cc e)

  pub enters : (i : ℕ) (d : T) → Pops K i (waiting d) (Entered (waiting d))
  enters i d x items views (inl h) at = absurd (cc (h.0))
  enters i d x items views (inr (inl h)) at =
      let e : T = h.0 in
      let here : x ≡ e = cc (h.1) in
      let rest : items ≡ [] = cc (h.1) in
      let w : Known T = entered x in
      let one = only views i w (waiting d) (waiting e) h.2 at in
      let packed : Some d ≡ Some e = ap (λ (k : Known T). k.has) one.1 in
      let same : d ≡ e = cc packed in
      let dx : d ≡ x = same ∙ sym here in (
        w,
        inr (inr (record {
          value = x;
          good = x;
          owner = λ _. 0;
          chief = 0;
          top = 0;
          ends = ends_same x;
          place = inr (
            rest,
            (
              0,
              all (MayHold Since Later Ends 0 x x) (set views i w) w one.2
                  (inr (refl, refl, refl)),
            ),
          );
          known = all (Knows x x (λ _. 0) 0 0) (set views i w) w one.2
              (record { opened = refl; told = tt; chief_is = λ _. (refl, refl); shown = tt });
        })),
        (ap Some dx, refl),
      )
    where
      only : (views : List (Known T)) (i : ℕ) (w v u : Known T) → views ≡ u ∷ [] → get_elem? views i ≡ some v
          → (i ≡ 0) × (v ≡ u) × (set views i w ≡ w ∷ [])
      only [] i w v u is at = absurd (cc is)
      only (y ∷ []) zero w v u is at = let a : y ≡ v = some-injective _ _ at in (refl, cc (is, a), refl)
      only (y ∷ []) (suc i) w v u is at = absurd (some-ne-none v (sym at))
      only (y ∷ z ∷ ys) i w v u is at = absurd (cc is)

      all : (F : ℕ → Known T → Type 0) (views : List (Known T)) (w : Known T) → views ≡ w ∷ [] → F 0 w
          → (j : ℕ) (u : Known T) → get_elem? views j ≡ some u → F j u
      all F [] w is f j u at = absurd (cc is)
      all F (y ∷ []) w is f zero u at = let a : y ≡ u = some-injective _ _ at in subst (F 0) (cc (is, a)) f
      all F (y ∷ []) w is f (suc j) u at = absurd (some-ne-none u (sym at))
      all F (y ∷ z ∷ ys) w is f j u at = absurd (cc is)
  enters i d x items views (inr (inr h)) at = let two = (h.known i (waiting d) at).opened in absurd (no two)
    where
      no : Waiting ≡ Open → ⊥
      no e = absurd (cc e)

  pub sums : (i : ℕ) (v : Known T) → v.stage ≡ Open → Learns K i v (λ _. Sums Since Later Ends Ever v)
  sums i v two items views rule at e has =
      let h = mine items views i v e two has at rule in
      let me = h.known i v at in
      (h.good, h.ends, every_map _ _ v.own (λ t p. p.0) me.told, me.shown)

  pub forks : (i : ℕ) (v : Known T) → IsChief v → Forks K i v (next_of v) (token_of v)
  forks i v c items views rule at =
      let d = c.value in
      let h = mine items views i v d c.stage c.has at rule in
      let same : h.good ≡ d = mine_at items views i v d d h c.good in
      let me = h.known i v at in
      let mine' = me.chief_is c.chief in
      let left : Known T = next_of v in
      let right : Known T = token_of v in
      let vs : List (Known T) = set views i left in
      let owner : ℕ → ℕ = λ s. if s == v.next then length vs else h.owner s in
      let keeps : (j : ℕ) (t : ToldToken T) → Is d h.good t × (h.owner t.number ≡ j) × (t.number < h.top) → Is d h.good t
      × (owner t.number ≡ j) × (t.number < suc h.top) =
      λ j t p. (
        p.0,
        pick_else t.number v.next (length vs) (h.owner t.number)
            (less t.number h.top v.next mine'.1 p.2) ∙ p.1,
        up t.number h.top p.2,
      ) in
      let fresh : Is d h.good
      (new_told v.next d) = record {
        since = subst (λ y. Since v.next d y) (sym same)
            (since_same v.next d);
        last = later_same d;
        found = later_same d;
      } in
      inr (inr (record {
        value = d;
        good = h.good;
        owner = owner;
        chief = h.chief;
        top = suc h.top;
        ends = h.ends;
        place = inr (
          h.empty,
          (
            i,
            λ j u there.
                ⊎_elim
                (λ old. each_set (MayHold Since Later Ends i d h.good) views i left (inr (refl, c.has, h.was))
                (λ k x apart e. inl (h.others k x apart e)) j u old)
                (λ new. inl (ap (λ (k : Known T). k.has) (sym new.1)))
                (at_end vs right u j there),
          ),
        );
        known = λ j u there.
            ⊎_elim
            (λ old. each_set (Knows d h.good owner h.chief (suc h.top)) views i left
            (record {
              opened = c.stage;
              told = every_map _ _ v.own (keeps i) me.told;
              chief_is = λ _.
                  (mine'.0, ap suc mine'.1);
              shown = me.shown;
            })
            (λ k x apart e.
            let o = h.known k x e in
            record {
              opened = o.opened;
              told = every_map _ _ x.own (keeps k) o.told;
              chief_is = λ y. absurd
                  (apart ((o.chief_is y).0 ∙ sym mine'.0));
              shown = o.shown;
            })
            j u old)
            (λ new. subst (λ (y : ℕ × Known T). Knows d h.good owner h.chief (suc h.top) y.0 y.1)
            (λ k. (sym new.0 k, new.1 k))
            (record {
              opened = refl;
              told = subst (λ (o : Option T). Every
                  (λ t. Is d h.good t × (owner t.number ≡ length vs) × (t.number < suc h.top)) (told_by v.next o))
                  (sym c.has)
                  ((fresh, pick_here v.next v.next (length vs) (h.owner v.next) refl, last v.next h.top mine'.1), tt);
              chief_is = λ y. absurd (true≢false (sym y));
              shown = tt;
            }))
            (at_end vs right u j there);
      }))
    where
      less : (s top next : ℕ) → next ≡ top → s < top → s ≢ next
      less s top next e lt same = absurd (omega arith)

      up : (s top : ℕ) → s < top → s < suc top
      up s top lt = omega arith

      last : (next top : ℕ) → next ≡ top → next < suc top
      last next top e = omega arith

  pub merges : (i : ℕ) (v : Known T) (other : ℕ) (w : Known T) → Holds v → Merges K i v other w (both_of v w) gone
  merges i v other w holds items views rule at apart there =
      let d = holds.value in
      let h = mine items views i v d holds.stage holds.has at rule in
      let me = h.known i v at in
      let both : Known T = both_of v w in
      let was : get_elem? views other ≡ some w = ⊎_elim (λ (x : (other ≡ i) × (both ≡ w)). absurd (apart x.0))
      (λ (x : (other ≢ i) × (get_elem? views other ≡ some w)). x.1) (at_set views i other both w there) in
      let theirs = h.known other w was in
      let owner : ℕ → ℕ = λ s. if h.owner s == other then i else h.owner s in
      let keeps : (j : ℕ) → j ≢ other → (t : ToldToken T) → Is d h.good t × (h.owner t.number ≡ j) × (t.number < h.top)
      → Is d h.good t × (owner t.number ≡ j) × (t.number < h.top) =
      λ j off t p. (p.0, pick_else (h.owner t.number) other i (h.owner t.number) (λ e. off (sym p.1 ∙ e)) ∙ p.1, p.2) in
      inr (inr (record {
        value = d;
        good = h.good;
        owner = owner;
        chief = h.chief;
        top = h.top;
        ends = h.ends;
        place = inr (
          h.empty,
          (
            i,
            each_set (MayHold Since Later Ends i d h.good) (set views i both) other gone (inl refl)
                (λ j u off e. each_set (MayHold Since Later Ends i d h.good) views i both
                (inr (refl, holds.has, h.was)) (λ k x away e'. inl (h.others k x away e')) j u e),
          ),
        );
        known = each_set (Knows d h.good owner h.chief h.top) (set views i both) other gone
            (record { opened = refl; told = tt; chief_is = λ y. absurd (true≢false (sym y)); shown = tt })
            (λ j u off e.
            each_set (λ k x. k ≢ other → Knows d h.good owner h.chief h.top k x) views i both
            (λ off'. record {
              opened = holds.stage;
              told = every_both _ v.own w.own (every_map _ _ v.own (keeps i off') me.told)
                  (every_map _ _ w.own (λ t p.
                  (p.0, pick_here (h.owner t.number) other i (h.owner t.number) p.1, p.2)) theirs.told);
              chief_is = me.chief_is;
              shown = every_both _ v.shown w.shown me.shown theirs.shown;
            })
            (λ k x away e' off'. let o = h.known k x e' in record {
              opened = o.opened;
              told = every_map _ _ x.own
                  (keeps k off') o.told;
              chief_is = o.chief_is;
              shown = o.shown;
            })
            j u e off);
      }))

  -- ---- what was shown

  every_seen : (x good : T) (own : List (ToldToken T)) → Every (Is x good) own → Every (λ y. Ever y good) (seen_by own)
  every_seen x good [] all = tt
  every_seen x good (t ∷ ts) all = (ever_of t.number t.seen good all.0.since, every_seen x good ts all.1)

  pub shows : (i : ℕ) (v : Known T) → v.stage ≡ Open → Forks K i v v (witness_of v)
  shows i v two items views rule at =
      let h = opened items views i v two at rule in
      let me = h.known i v at in
      let right : Known T = witness_of v in
      inr (inr (record {
        value = h.value;
        good = h.good;
        owner = h.owner;
        chief = h.chief;
        top = h.top;
        ends = h.ends;
        place = ⊎_elim
            (λ p. inl (p.0, each_more (IsFree Since Later Ends) views i v right at p.1 refl))
            (λ p. inr (
              p.0,
              (
                p.1.0,
                each_more (MayHold Since Later Ends p.1.0 h.value h.good) views i v right at p.1.1 (inl refl),
              ),
            ))
            h.place;
        known = each_more (Knows h.value h.good h.owner h.chief h.top) views i v right at h.known
            (record {
              opened = refl;
              told = tt;
              chief_is = λ y. absurd (true≢false (sym y));
              shown = every_both _ (seen_by v.own) v.shown
                  (every_seen h.value h.good v.own (every_map _ _ v.own (λ t p. p.0) me.told)) me.shown;
            });
      }))

  pub is_shown : (i : ℕ) (v : Known T) (other : ℕ) (w : Known T) → v.stage ≡ Open
      → Merges K i v other w (shown_of v w) gone
  is_shown i v other w two items views rule at apart there =
      let h = opened items views i v two at rule in
      let me = h.known i v at in
      let both : Known T = shown_of v w in
      let was : get_elem? views other ≡ some w = ⊎_elim (λ (x : (other ≡ i) × (both ≡ w)). absurd (apart x.0))
      (λ (x : (other ≢ i) × (get_elem? views other ≡ some w)). x.1) (at_set views i other both w there) in
      let theirs = h.known other w was in
      inr (inr (record {
        value = h.value;
        good = h.good;
        owner = h.owner;
        chief = h.chief;
        top = h.top;
        ends = h.ends;
        place = ⊎_elim
            (λ p. inl (p.0, each_other (IsFree Since Later Ends) views i other both gone (p.1 i v at) refl p.1))
            (λ p. inr (
              p.0,
              (
                p.1.0,
                each_other (MayHold Since Later Ends p.1.0 h.value h.good) views i other both gone (p.1.1 i v at)
                    (inl refl) p.1.1,
              ),
            ))
            h.place;
        known = each_other (Knows h.value h.good h.owner h.chief h.top) views i other both gone
            (record {
              opened = me.opened;
              told = me.told;
              chief_is = me.chief_is;
              shown = every_both _ v.shown w.shown me.shown theirs.shown;
            })
            (record { opened = refl; told = tt; chief_is = λ y. absurd (true≢false (sym y)); shown = tt })
            h.known;
      }))
