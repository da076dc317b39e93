-- One step after another: both sides stay fair, and what was taken has arrived at the end.
use Rattle.std.proofs.Common.{◌≡◌, ℕ, zero, suc, List, [], ◌∷◌, ◌++◌, Some, Ok, refl, ap, sym, subst}
use Rattle.std.specs.Prelude.{slice_get}
use Rattle.std.proofs.Math.Logic.{∥∥₁_elim, ∥∥₁_map}
use Rattle.std.proofs.Props.{props}
use Rattle.base.specs.declared.pair.Pair.{Pair}
use Rattle.envelope.specs.declared.message.Envelope.{Envelope}
use Rattle.envelope.specs.declared.message.Envelope.TheVariants as envelope
use Rattle.envelope.specs.declared.message.Letter.{Letter}
use Rattle.activities.specs.Numbered.{IsPrefixOf}
use Rattle.activities.specs.Service.{Service}
use Rattle.activities.proofs.Prefixes.{prefix-same, prefix_trans, get-prefix}
use Rattle.keep.specs.Tables.{Tables}
use Rattle.endpoint.specs.Deeds.{kept}
use Rattle.endpoint.specs.declared.answer.Ingested.{Ingested}
use Rattle.laws_network.specs.declared.event.Delivery.{Delivery}
use Rattle.laws_network.specs.declared.event.Delivery.TheVariants.{Left, Right}
use Rattle.laws_network.specs.declared.event.Event.TheVariants.{Take}
use Rattle.laws_network.specs.declared.event.Outcome.{Outcome}
use Rattle.laws_network.specs.declared.event.Outcome.TheVariants.{Taken}
use Rattle.laws_network.specs.Envelopes.{AreAuthentic}
use Rattle.laws_network.specs.Fair.{Follows, IsFair}
use Rattle.laws_network.specs.Sides.{Sides, Contents, AreClean, AreMatching}
use Rattle.laws_network.specs.Runs.{Step, IsPath, Led, Runs, StaysFair}
use Rattle.laws_network.specs.Runs.{TakenAreHandledIn, TakenAreHandled}
use Rattle.laws_network.proofs.Arriving.{HasArrived, did_arrived, ingest_arrived, all_arrived}
use Rattle.laws_network.proofs.Facts.{fair-prop, taken-prop}
use Rattle.laws_network.proofs.Keeping.{side_right, side_left, side_authentic, sends_grow}

module _ {S C T D : Type 0} (one : Service S C) (other : Service T D) where
  -- ---- fair

  step_fair : (delivery : Delivery C D) (outcome : Outcome) (a b : Sides S C T D) → Step one other delivery outcome a b
      → IsFair one other a → IsFair one other b
  step_fair (Left event) outcome a b step fair =
      let side = step.0 in
      let x = kept a.left in let y = kept b.left in let z = kept a.right in
      let arriving = a.network.from_right in let sent = a.network.from_left in let later = b.network.from_left in
      let right = side_right one other.reactions event outcome arriving sent later x y z fair.from_right fair.left side
      fair.right in
      let left = side_left one other.reactions event outcome arriving sent later x y z fair.from_right fair.left side in
      record {
        right = subst (λ t. Follows one.reactions y (kept t)) (sym step.1) right;
        left = subst (λ t. Follows other.reactions (kept t) y) (sym step.1) left;
        from_left =
            side_authentic one other.reactions event outcome arriving sent later x y z fair.from_right fair.left side
            fair.from_left;
        from_right = subst (λ t. AreAuthentic other.reactions t.journal b.network.from_right) (sym step.1)
            (subst (AreAuthentic other.reactions a.right.journal) (sym step.2) fair.from_right);
      }
  step_fair (Right event) outcome a b step fair =
      let side = step.0 in
      let x = kept a.right in let y = kept b.right in let z = kept a.left in
      let arriving = a.network.from_left in let sent = a.network.from_right in let later = b.network.from_right in
      let right =
      side_left other one.reactions event outcome arriving sent later x y z fair.from_left fair.right side in
      let left = side_right other one.reactions event outcome arriving sent later x y z fair.from_left fair.right side
      fair.left in
      record {
        right = subst (λ t. Follows one.reactions (kept t) y) (sym step.1) right;
        left = subst (λ t. Follows other.reactions y (kept t)) (sym step.1) left;
        from_left = subst (λ t. AreAuthentic one.reactions t.journal b.network.from_left) (sym step.1)
            (subst (AreAuthentic one.reactions a.left.journal) (sym step.2) fair.from_left);
        from_right =
            side_authentic other one.reactions event outcome arriving sent later x y z fair.from_left fair.right side
            fair.from_right;
      }

  path_fair : (deliveries : List (Delivery C D)) (outcomes : List Outcome) (a b : Sides S C T D)
      → IsPath one other deliveries outcomes a b → IsFair one other a → IsFair one other b
  path_fair [] [] a b path fair = subst (IsFair one other) (sym path) fair
  path_fair [] (o ∷ os) a b path fair = absurd path
  path_fair (d ∷ ds) [] a b path fair = absurd path
  path_fair (d ∷ ds) (o ∷ os) a b path fair = path_fair ds os path.0 b path.2 (step_fair d o a path.0 path.1 fair)

  -- ---- what was sent stays

  step_sent : (delivery : Delivery C D) (outcome : Outcome) (a b : Sides S C T D) → Step one other delivery outcome a b
      → IsPrefixOf a.network.from_left b.network.from_left × IsPrefixOf a.network.from_right b.network.from_right
  step_sent (Left event) outcome a b step =
      (sends_grow one (kept b.left) event outcome _ _ step.0.sends, prefix-same _ _ (sym step.2))
  step_sent (Right event) outcome a b step =
      (prefix-same _ _ (sym step.2), sends_grow other (kept b.right) event outcome _ _ step.0.sends)

  path_sent : (deliveries : List (Delivery C D)) (outcomes : List Outcome) (a b : Sides S C T D)
      → IsPath one other deliveries outcomes a b
      → IsPrefixOf a.network.from_left b.network.from_left × IsPrefixOf a.network.from_right b.network.from_right
  path_sent [] [] a b path = (
    prefix-same _ _ (ap (λ (z : Sides S C T D). z.network.from_left) (sym path)),
    prefix-same _ _ (ap (λ (z : Sides S C T D). z.network.from_right) (sym path)),
  )
  path_sent [] (o ∷ os) a b path = absurd path
  path_sent (d ∷ ds) [] a b path = absurd path
  path_sent (d ∷ ds) (o ∷ os) a b path =
      let first = step_sent d o a path.0 path.1 in
      let rest = path_sent ds os path.0 b path.2 in
      (prefix_trans _ _ _ first.0 rest.0, prefix_trans _ _ _ first.1 rest.1)

  -- ---- what has arrived stays

  step_right : (delivery : Delivery C D) (outcome : Outcome) (a b : Sides S C T D) → Step one other delivery outcome a b
      → (p : Pair) (n : ℕ) → HasArrived (kept a.right) p n → HasArrived (kept b.right) p n
  step_right (Left event) outcome a b step p n h = subst (λ t. HasArrived (kept t) p n) (sym step.1) h
  step_right (Right event) outcome a b step p n h =
      did_arrived other (kept a.right) (kept b.right) step.0.deed step.0.did p n h

  step_left : (delivery : Delivery C D) (outcome : Outcome) (a b : Sides S C T D) → Step one other delivery outcome a b
      → (p : Pair) (n : ℕ) → HasArrived (kept a.left) p n → HasArrived (kept b.left) p n
  step_left (Left event) outcome a b step p n h =
      did_arrived one (kept a.left) (kept b.left) step.0.deed step.0.did p n h
  step_left (Right event) outcome a b step p n h = subst (λ t. HasArrived (kept t) p n) (sym step.1) h

  path_right : (deliveries : List (Delivery C D)) (outcomes : List Outcome) (a b : Sides S C T D)
      → IsPath one other deliveries outcomes a b → (p : Pair) (n : ℕ) → HasArrived (kept a.right) p n
      → HasArrived (kept b.right) p n
  path_right [] [] a b path p n h = subst (λ (z : Sides S C T D). HasArrived (kept z.right) p n) (sym path) h
  path_right [] (o ∷ os) a b path p n h = absurd path
  path_right (d ∷ ds) [] a b path p n h = absurd path
  path_right (d ∷ ds) (o ∷ os) a b path p n h =
      path_right ds os path.0 b path.2 p n (step_right d o a path.0 path.1 p n h)

  path_left : (deliveries : List (Delivery C D)) (outcomes : List Outcome) (a b : Sides S C T D)
      → IsPath one other deliveries outcomes a b → (p : Pair) (n : ℕ) → HasArrived (kept a.left) p n
      → HasArrived (kept b.left) p n
  path_left [] [] a b path p n h = subst (λ (z : Sides S C T D). HasArrived (kept z.left) p n) (sym path) h
  path_left [] (o ∷ os) a b path p n h = absurd path
  path_left (d ∷ ds) [] a b path p n h = absurd path
  path_left (d ∷ ds) (o ∷ os) a b path p n h = path_left ds os path.0 b path.2 p n (step_left d o a path.0 path.1 p n h)

  -- ---- what was taken has arrived

  -- the letter that was taken is the one at this index at the end
  same_letter : (early late : List Envelope) (i : ℕ) (l k : Letter) → IsPrefixOf early late
      → slice_get early i ≡ Some (envelope.Letter l)
      → slice_get late i ≡ Some (envelope.Letter k) → l ≡ k
  same_letter early late i l k prefix before now =
      let kept : slice_get late i ≡ Some (envelope.Letter l) =
      subst (λ es. slice_get es i ≡ Some (envelope.Letter l)) prefix.1 (get-prefix i (envelope.Letter l) early prefix.0
      before) in
      cc

  first_is : {A : Type 0} (x y : A) → Some x ≡ Some y → x ≡ y
  first_is x y h = cc

  taken_right : (deliveries : List (Delivery C D)) (outcomes : List Outcome) (a b : Sides S C T D)
      → IsPath one other deliveries outcomes a b → (k i : ℕ) (answer : Ingested) (l : Letter)
      → slice_get deliveries k ≡ Some (Right (Take i)) → slice_get outcomes k ≡ Some (Taken (Ok answer))
      → slice_get b.network.from_left i ≡ Some (envelope.Letter l) → HasArrived (kept b.right) l.pair l.number
  taken_right [] os a b path k i answer l was told at = absurd (cc)
  taken_right (d ∷ ds) [] a b path k i answer l was told at = absurd path
  taken_right (d ∷ ds) (o ∷ os) a b path zero i answer l was told at =
      let step : Step one other (Right (Take i)) (Taken (Ok answer)) a path.0 =
      subst (λ e. Step one other e (Taken (Ok answer)) a path.0) (first_is d (Right (Take i)) was)
      (subst (λ e. Step one other d e a path.0) (first_is o (Taken (Ok answer)) told) path.1) in
      let may = step.0.may in
      let arrived = ingest_arrived other may.0 answer (kept a.right) (kept path.0.right) step.0.deed may.2 step.0.did in
      let grows = prefix_trans _ _ _ (step_sent (Right (Take i)) (Taken (Ok answer)) a path.0 step).0
      (path_sent ds os path.0 b path.2).0 in
      let same = same_letter a.network.from_left b.network.from_left i may.0 l grows may.1 at in
      subst (λ (v : Letter). HasArrived (kept b.right) v.pair v.number) same
      (path_right ds os path.0 b path.2 may.0.pair may.0.number arrived)
  taken_right (d ∷ ds) (o ∷ os) a b path (suc k) i answer l was told at =
      taken_right ds os path.0 b path.2 k i answer l was told at

  taken_left : (deliveries : List (Delivery C D)) (outcomes : List Outcome) (a b : Sides S C T D)
      → IsPath one other deliveries outcomes a b → (k i : ℕ) (answer : Ingested) (l : Letter)
      → slice_get deliveries k ≡ Some (Left (Take i)) → slice_get outcomes k ≡ Some (Taken (Ok answer))
      → slice_get b.network.from_right i ≡ Some (envelope.Letter l) → HasArrived (kept b.left) l.pair l.number
  taken_left [] os a b path k i answer l was told at = absurd (cc)
  taken_left (d ∷ ds) [] a b path k i answer l was told at = absurd path
  taken_left (d ∷ ds) (o ∷ os) a b path zero i answer l was told at =
      let step : Step one other (Left (Take i)) (Taken (Ok answer)) a path.0 =
      subst (λ e. Step one other e (Taken (Ok answer)) a path.0) (first_is d (Left (Take i)) was)
      (subst (λ e. Step one other d e a path.0) (first_is o (Taken (Ok answer)) told) path.1) in
      let may = step.0.may in
      let arrived = ingest_arrived one may.0 answer (kept a.left) (kept path.0.left) step.0.deed may.2 step.0.did in
      let grows = prefix_trans _ _ _ (step_sent (Left (Take i)) (Taken (Ok answer)) a path.0 step).1
      (path_sent ds os path.0 b path.2).1 in
      let same = same_letter a.network.from_right b.network.from_right i may.0 l grows may.1 at in
      subst (λ (v : Letter). HasArrived (kept b.left) v.pair v.number) same
      (path_left ds os path.0 b path.2 may.0.pair may.0.number arrived)
  taken_left (d ∷ ds) (o ∷ os) a b path (suc k) i answer l was told at =
      taken_left ds os path.0 b path.2 k i answer l was told at

  path_taken : (deliveries : List (Delivery C D)) (outcomes : List Outcome) (a b : Sides S C T D)
      → IsPath one other deliveries outcomes a b → IsFair one other a
      → TakenAreHandledIn one other deliveries outcomes b
  path_taken ds os a b path fair p =
      let now = path_fair ds os a b path fair in (
        λ all none. all_arrived one.reactions (kept b.left) (kept b.right) p now.right
            (λ n m at. let t = all (record { pair = p; number = n; message = m }) refl at in
            taken_right ds os a b path t.0 t.1 t.2 (record { pair = p; number = n; message = m }) t.3 t.4 t.5) none,
        λ all none. all_arrived other.reactions (kept b.right) (kept b.left) p now.left
            (λ n m at. let t = all (record { pair = p; number = n; message = m }) refl at in
            taken_left ds os a b path t.0 t.1 t.2 (record { pair = p; number = n; message = m }) t.3 t.4 t.5) none,
      )

  -- ---- of contents

  pub runs_fair : (deliveries : List (Delivery C D)) (outcomes : List Outcome) (old new : Contents S C T D)
      → Runs one other deliveries outcomes old new → StaysFair one other old new
  runs_fair ds os old new runs clean good fair x y a b = ∥∥₁_elim (runs clean good x y a b)
      (fair-prop one other (record { left = x; right = y; network = new.network }))
      (λ led. path_fair ds os (record { left = led.left; right = led.right; network = old.network })
      (record { left = x; right = y; network = new.network }) led.path (fair led.left led.right led.left_was
      led.right_was))

  pub runs_taken : (deliveries : List (Delivery C D)) (outcomes : List Outcome) (old new : Contents S C T D)
      → Runs one other deliveries outcomes old new → TakenAreHandled one other deliveries outcomes old new
  runs_taken ds os old new runs clean good fair x y a b = ∥∥₁_elim (runs clean good x y a b)
      (taken-prop one other ds os (record { left = x; right = y; network = new.network }))
      (λ led. path_taken ds os (record { left = led.left; right = led.right; network = old.network })
      (record { left = x; right = y; network = new.network }) led.path (fair led.left led.right led.left_was
      led.right_was))

  -- ---- one more delivery

  path_more : (ds : List (Delivery C D)) (os : List Outcome) (d : Delivery C D) (o : Outcome) (a b c : Sides S C T D)
      → IsPath one other ds os a b → Step one other d o b c → IsPath one other (ds ++ d ∷ []) (os ++ o ∷ []) a c
  path_more [] [] d o a b c path step = (c, subst (λ z. Step one other d o z c) path step, refl)
  path_more [] (k ∷ os) d o a b c path step = absurd path
  path_more (e ∷ ds) [] d o a b c path step = absurd path
  path_more (e ∷ ds) (k ∷ os) d o a b c path step = (path.0, path.1, path_more ds os d o path.0 b c path.2 step)

  -- no delivery leads to no other sides
  pub runs_none : (c : Contents S C T D) → Runs one other [] [] c c
  runs_none c clean good x y a b = ∣ record { left = x; right = y; left_was = a; right_was = b; path = refl } ∣₁

  -- what was led to, and one step more
  led_more : (ds : List (Delivery C D)) (os : List Outcome) (d : Delivery C D) (o : Outcome)
      (old mid : Contents S C T D)
      (z : Sides S C T D)
      → Led one other (d ∷ []) (o ∷ []) mid z
      → ((x : Tables S C) (y : Tables T D) → mid.left.may_leave x → mid.right.may_leave y
      → ∥ Led one other ds os old (record { left = x; right = y; network = mid.network }) ∥₁)
      → ∥ Led one other (ds ++ d ∷ []) (os ++ o ∷ []) old z ∥₁
  led_more ds os d o old mid z last before =
      ∥∥₁_map (before last.left last.right last.left_was last.right_was) (λ led. record {
        left = led.left;
        right = led.right;
        left_was = led.left_was;
        right_was = led.right_was;
        path = path_more ds os d o (record { left = led.left; right = led.right; network = old.network })
            (record { left = last.left; right = last.right; network = mid.network }) z led.path
            (subst (λ c. Step one other d o (record { left = last.left; right = last.right; network = mid.network }) c)
            (sym last.path.2)
            last.path.1);
      })

  pub runs_more : (ds : List (Delivery C D)) (os : List Outcome) (d : Delivery C D) (o : Outcome)
      (old mid new : Contents S C T D)
      → (AreClean new → AreClean mid) → (AreClean mid → AreMatching one other old → AreMatching one other mid)
      → Runs one other ds os old mid → Runs one other (d ∷ []) (o ∷ []) mid new
      → Runs one other (ds ++ d ∷ []) (os ++ o ∷ []) old new
  runs_more ds os d o old mid new clean matching before last c good x y a b =
      let was = clean c in
      ∥∥₁_elim (last c (matching was good) x y a b) (hlevel props)
      (λ led. led_more ds os d o old mid (record { left = x; right = y; network = new.network }) led (before was good))
