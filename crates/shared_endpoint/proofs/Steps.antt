-- One call of a token, between taking the lock and giving it back.
use Rattle.std.proofs.Common.{◌≡◌, ◌≢◌, ◌⊎◌, ℕ, suc, ◌≤◌, Bool, true, false, true≢false, List, [], ◌∷◌, map, Option, Some}
use Rattle.std.proofs.Common.{None}
use Rattle.std.proofs.Common.{inl, inr, ⊎_elim, refl, sym, ap, ◌∙◌, subst, arith}
use Rattle.std.specs.Prelude.{if◌then◌else◌}
use Rattle.activities.specs.Service.{Service}
use Rattle.keep.specs.Law.{IsServed, HasFailed}
use Rattle.keep.specs.Seen.{Seen, IsSound}
use Rattle.keep.specs.Tables.{Tables}
use Rattle.endpoint.specs.declared.fault.EndFault.{EndFault}
use Rattle.endpoint.specs.declared.fault.EndFault.TheVariants.{NotMine, Business, TooEarly, StoreFailed, Memory}
use Rattle.endpoint.specs.declared.fault.EndFault.TheVariants.{Unusable, NumberLimit, NotSent}
use Rattle.endpoint.specs.Deeds.{kept, Deed}
use Rattle.endpoint.specs.Matches.{AllMatch}
use Rattle.told_lock.specs.declared.view.ToldToken.{ToldToken}
use Rattle.told_lock.specs.declared.view.Known.{Known}
use Rattle.told_lock.specs.Rule.{Every, IsTold, Took, MaySee, MayStay, without}
use Rattle.told_lock.proofs.Views.{every_map}
use Rattle.shared_endpoint.specs.History.{IsDeedOf, DidAll, IsLater, Since, EverSince, Broke, EndsAs, IsUsed, Steps}
use Rattle.shared_endpoint.specs.History.{Turns, BearsOut, Gives, given, tells}
use Rattle.shared_endpoint.specs.Lore.{zero_below, later_same, since_same, ever_of, ever_join}
use Rattle.shared_endpoint.proofs.Deeds.{deeds_of_other, no_deeds}

same_below : (a b : ℕ) → b ≡ a → a ≤ b
same_below a b e = omega arith

another : (n : ℕ) → suc n ≢ n
another n same = absurd (omega arith)

module _ {E S C : Type 0} (seen : E → Seen (Tables S C)) where
  -- how the endpoint was used, by whether the answer tells of the journal
  abbrev pub IsUsedOr : (d e : E) → Bool → Type 0
  IsUsedOr d e told = IsServed seen d e
      ⊎ ((told ≡ false) × (HasFailed seen d e ⊎ (((seen d).usable ≡ false) × (e ≡ d))))

  pub used_or : (d e : E) (fault : Option EndFault) → IsUsed seen d e fault → IsUsedOr d e (tells fault)
  used_or d e None h = inl h
  used_or d e (Some StoreFailed) h = inr (refl, inl h)
  used_or d e (Some Memory) h = inl h
  used_or d e (Some Unusable) h = inr (refl, inr h)
  used_or d e (Some NotMine) h = inl h
  used_or d e (Some (Business r)) h = inl h
  used_or d e (Some TooEarly) h = inl h
  used_or d e (Some NumberLimit) h = inl h
  used_or d e (Some NotSent) h = inl h

  pub used_served : (d e : E) (fault : Option EndFault) → tells fault ≡ true → IsUsed seen d e fault → IsServed seen d e
  used_served d e fault told h = ⊎_elim (λ k. k) (λ r. absurd (true≢false (sym told ∙ r.0))) (used_or d e fault h)

module _ {E S C : Type 0} (seen : E → Seen (Tables S C)) (service : Service S C) (sound : (e : E) → IsSound (seen e))
  where
    -- a step is to a later endpoint
    pub later_of : (n : ℕ) (d e : E) (fault : Option EndFault) → Steps seen service n d e fault → IsLater seen d e
    later_of n d e fault s = ⊎_elim
        (λ h. record {
          doubt = s.doubt;
          failures = same_below (seen d).failures (seen e).failures h.2;
          dead = λ f. absurd (true≢false (sym h.0 ∙ f));
          fell = λ t f. absurd (true≢false (sym h.1 ∙ f));
        })
        (λ r. ⊎_elim
        (λ h. record {
          doubt = s.doubt;
          failures = h.2.0;
          dead = λ f. absurd (true≢false (sym h.0 ∙ f));
          fell = λ t f. h.2;
        })
        (λ h. subst (IsLater seen d) (sym h.1) (later_same seen d))
        r.1)
        (used_or seen d e fault s.used)

    -- a call that was served: of what may be left after it, which are the tables, each came of the tables before
    module _ (n : ℕ) (d e : E) (fault : Option EndFault) (s : Steps seen service n d e fault)
        (served : IsServed seen d e)
      where
        pub leads : (clean : (seen e).doubt ≡ 0) → AllMatch service (seen d).may_leave
            → (deeds : List (Deed C))
            × (Every (IsDeedOf n) deeds × (tells fault ≡ false → (seen e).usable ≡ true → deeds ≡ []))
            × DidAll service (kept (seen d).tables) deeds (kept (seen e).tables)
        leads clean m =
            let came = s.deeds clean m (seen e).tables ((sound e).stays clean served.1) in
            let same = (sound d).only_now (zero_below (seen d).doubt (seen e).doubt s.doubt clean) served.0 came.before
            came.was in (
              came.deeds,
              came.may,
              subst (λ t. DidAll service (kept t) came.deeds (kept (seen e).tables)) same came.did,
            )

        pub others_stand : (m : ℕ) → m ≢ n → Since seen service m d e
        others_stand m apart = record {
          usable = λ _. served.1;
          doubt = s.doubt;
          clean = λ z a.
              let l = leads z a in (
                s.matches z a,
                deeds_of_other service n m (kept (seen d).tables) (kept (seen e).tables) l.0 l.1.0 apart l.2,
              );
        }

        pub all_stand : tells fault ≡ false → (m : ℕ) → Since seen service m d e
        all_stand unsaid m = record {
          usable = λ _. served.1;
          doubt = s.doubt;
          clean = λ z a.
              let l = leads z a in (
                s.matches z a,
                no_deeds service m (kept (seen d).tables) (kept (seen e).tables) l.0
                    (l.1.1 unsaid served.1) l.2,
              );
        }

    -- a step that leaves a usable endpoint was served, and what any witness knew of it before still holds
    pub was_served : (n : ℕ) (d e : E) (fault : Option EndFault) → Steps seen service n d e fault
        → (seen e).usable ≡ true → IsServed seen d e
    was_served n d e fault s up = ⊎_elim (λ served. served)
        (λ r. ⊎_elim (λ f. absurd (true≢false (sym up ∙ f.1)))
        (λ f. absurd (true≢false (sym up ∙ (ap (λ (k : E). (seen k).usable) f.1 ∙ f.0))))
        r.1)
        (used_or seen d e fault s.used)

    pub grows_of : (n : ℕ) (d e : E) (fault : Option EndFault) → Steps seen service n d e fault
        → (seen e).usable ≡ true → EverSince seen service d e
    grows_of n d e fault s up = ever_of seen service (suc n) d e
        (others_stand n d e fault s (was_served n d e fault s up) (suc n) (another n))

    -- what the holder of a usable endpoint holds is good
    good_is : (good d : E) → EndsAs seen service good d → (seen d).usable ≡ true → d ≡ good
    good_is good d (inl same) up = same
    good_is good d (inr broke) up = absurd (true≢false (sym up ∙ broke.now))

    -- it may be given back
    pub gives : (n : ℕ) (v w : Known E) (d e : E) (t : ToldToken E) (fault : Option EndFault)
        → Took (Since seen service) (IsLater seen) (EndsAs seen service) (EverSince seen service) v d w
        → v.own ≡ t ∷ [] → t.number ≡ n → Steps seen service n d e fault → Gives seen service w e (tells fault)
    gives n v w d e t fault took own number s = (see, stay)
      where
        w_own : w.own ≡ t ∷ []
        w_own = ap (λ (k : Known E). k.own) took.is ∙ own

        later : IsLater seen d e
        later = later_of n d e fault s

        see : tells fault ≡ true → MaySee (Since seen service) (IsLater seen) (EndsAs seen service) w e
        see told =
            let used = used_served seen d e fault told s.used in
            let same : d ≡ took.good = good_is took.good d took.ends used.0 in
            record {
              value = d;
              good = took.good;
              stage = ap (λ (k : Known E). k.stage) took.is;
              has = ap (λ (k : Known E). k.has) took.is;
              was = ap (λ (k : Known E). k.good) took.is;
              later = later;
              others = λ m apart. subst (λ y. Since seen service m y e) same
                  (others_stand n d e fault s used m (λ is.
                  (subst (λ (ts : List (ToldToken E)). Every (λ x. x.number ≢ m) ts) w_own apart).0 (number ∙ sym is)));
            }

        stays_at : (now : E) → EndsAs seen service now e → ((m : ℕ) → Since seen service m took.good now)
            → MayStay (Since seen service) (IsLater seen) (EndsAs seen service) w e
        stays_at now ends all = record {
          value = d;
          good = took.good;
          now = now;
          stage = ap (λ (k : Known E). k.stage) took.is;
          has = ap (λ (k : Known E). k.has) took.is;
          was = ap (λ (k : Known E). k.good) took.is;
          later = later;
          ends = ends;
          all = all;
        }

        broke : HasFailed seen d e → Broke seen service d e
        broke f = record {
          was = f.0;
          now = f.1;
          doubt = s.doubt;
          clean = λ z a. (
            s.matches z a,
            λ l left.
                let came = s.deeds z a l left in
                record {
                  before = came.before;
                  deeds = came.deeds;
                  was = came.was;
                  one_call = came.one_call;
                  may = tt;
                  did = came.did;
                },
          );
        }

        stay : tells fault ≡ false → MayStay (Since seen service) (IsLater seen) (EndsAs seen service) w e
        stay unsaid = ⊎_elim
            (λ used. stays_at e (inl refl) (λ m.
            subst (λ y. Since seen service m y e) (good_is took.good d took.ends used.0)
            (all_stand n d e fault s used unsaid m)))
            (λ r. ⊎_elim
            (λ f. stays_at took.good
            (subst (λ y. EndsAs seen service y e) (good_is took.good d took.ends f.0) (inr (broke f)))
            (λ m. since_same seen service m took.good))
            (λ f. stays_at took.good (subst (EndsAs seen service took.good) (sym f.1) took.ends)
            (λ m. since_same seen service m took.good))
            r.1)
            (used_or seen d e fault s.used)

    -- and what the token knows then is this turn
    pub turns : (n : ℕ) (v w u : Known E) (d e : E) (t : ToldToken E) (fault : Option EndFault) (Call : E → E → Type 0)
        → Took (Since seen service) (IsLater seen) (EndsAs seen service) (EverSince seen service) v d w
        → v.own ≡ t ∷ [] → t.number ≡ n → Steps seen service n d e fault → Call d e
        → u ≡ without (map (given (tells fault) e) w.own) w → Turns seen service n v.own u.own Call fault
    turns n v w u d e t fault Call took own number s call is =
        let w_own : w.own ≡ t ∷ [] = ap (λ (k : Known E). k.own) took.is ∙ own in
        let u_own : u.own ≡ given (tells fault) e t ∷ [] =
        ap (λ (k : Known E). k.own) is ∙ ap (map (given (tells fault) e)) w_own in
        let mine = (subst
        (λ (ts : List (ToldToken E)).
        Every (IsTold (Since seen service) (IsLater seen)
        (EndsAs seen service) d took.good) ts) own took.told).0
        in
        let last : (given (tells fault) e t).last ≡ e = last_is (tells fault) in
        subst (λ (y : List (ToldToken E) × List (ToldToken E)). Turns seen service n y.0 y.1 Call fault)
        (λ i. (sym own i, sym u_own i))
        (record {
          taken = d;
          passes = record {
            later = mine.last;
            found = mine.found;
            since = λ up. subst (λ k. Since seen service k t.seen d) number
                (subst (Since seen service t.number t.seen) (sym (good_is took.good d took.ends up)) mine.since);
            used = subst (λ y. IsUsed seen d y fault) (sym last) s.used;
            next = subst (IsLater seen d) (sym last) (later_of n d e fault s);
            grows = subst (λ y. (seen y).usable ≡ true → EverSince seen service d y) (sym last) (grows_of n d e fault s);
            matches = subst (λ y. (seen y).doubt ≡ 0 → AllMatch service (seen d).may_leave
                → AllMatch service (seen y).may_leave)
                (sym last) s.matches;
            seen_is = seen_of (tells fault);
            found_is = found_of (tells fault);
            number = number_is (tells fault) ∙ number;
          };
          call = subst (Call d) (sym last) call;
        })
      where
        number_is : (b : Bool) → (given b e t).number ≡ t.number
        number_is true = refl
        number_is false = refl

        found_of : (b : Bool) → (given b e t).found ≡ t.found
        found_of true = refl
        found_of false = refl

        last_is : (b : Bool) → (given b e t).last ≡ e
        last_is true = refl
        last_is false = refl

        seen_of : (b : Bool) → (given b e t).seen ≡ (if b then (given b e t).last else t.seen)
        seen_of true = refl
        seen_of false = refl

    -- and what was shown to its key is so of what the turn gave back
    pub bears : (n : ℕ) (v w u : Known E) (d e : E) (t : ToldToken E) (fault : Option EndFault)
        → Took (Since seen service) (IsLater seen) (EndsAs seen service) (EverSince seen service) v d w
        → v.own ≡ t ∷ [] → Steps seen service n d e fault → u ≡ without (map (given (tells fault) e) w.own) w
        → Every (BearsOut seen service v.shown) u.own
    bears n v w u d e t fault took own s is =
        let w_own : w.own ≡ t ∷ [] = ap (λ (k : Known E). k.own) took.is ∙ own in
        let u_own : u.own ≡ given (tells fault) e t ∷ [] =
        ap (λ (k : Known E). k.own) is ∙ ap (map (given (tells fault) e)) w_own in
        subst (λ (ts : List (ToldToken E)). Every (BearsOut seen service v.shown) ts) (sym u_own) (
          subst (λ y. (seen y).usable ≡ true → Every (λ x. EverSince seen service x y) v.shown)
              (sym (last_is (tells fault))) so,
          tt,
        )
      where
        last_is : (b : Bool) → (given b e t).last ≡ e
        last_is true = refl
        last_is false = refl

        so : (seen e).usable ≡ true → Every (λ x. EverSince seen service x e) v.shown
        so up =
            let good : d ≡ took.good = good_is took.good d took.ends (was_served n d e fault s up).0 in
            every_map (λ x. EverSince seen service x took.good) (λ x. EverSince seen service x e) v.shown
            (λ x h. ever_join seen service x took.good e h
            (subst (λ y. EverSince seen service y e) good (grows_of n d e fault s up)))
            took.shown
