-- Each step keeps the rule of the intake.
use Rattle.std.proofs.Common.{◌≡◌, ◌≢◌, ◌⊎◌, ℕ, zero, suc, ◌==◌, List, [], ◌∷◌, ◌++◌, length, set, true, true≢false}
use Rattle.std.proofs.Common.{refl, sym, ap, ◌∙◌, subst, inl, inr, ⊎_elim, arith, append_assoc}
use Rattle.std.specs.Prelude.{if◌then◌else◌}
use Rattle.std.proofs.lemmas.Bool.Decides.{nat_tests}
use mathlib.Core.Option.{some, some-ne-none, some-injective}
use lib.ListN.{get_elem?}
use Rattle.crossbeam_channel.specs.Fifo.{Pushes, Pops, Forks, Merges, Learns}
use Rattle.atomic_table.proofs.Lists.{at_set}
use Rattle.intake.specs.declared.slip.Slip.{Slip}
use Rattle.intake.specs.declared.rule.Put.{Put}
use Rattle.intake.specs.declared.rule.Known.{Known}
use Rattle.intake.specs.Ends.{AreFirst}
use Rattle.intake.specs.Rule.{Every, of_reader, opener, gone, first_of, others_of, rest_of, reader_of, both_of, has_put}
use Rattle.intake.specs.Rule.{HasPut, HasTaken, Has, Fits, IsKept, Compared}
use Rattle.intake.proofs.Slips.{of_reader-own, of_reader-other, first}

every_map : {X : Type 0} (P Q : X → Type 0) (xs : List X) → ((x : X) → P x → Q x) → Every P xs → Every Q xs
every_map P Q [] f p = tt
every_map P Q (x ∷ xs) f p = (f x p.0, every_map P Q xs f p.1)

every_both : {X : Type 0} (P : X → Type 0) (xs ys : List X) → Every P xs → Every P ys → Every P (xs ++ ys)
every_both P [] ys p q = q
every_both P (x ∷ xs) ys p q = (p.0, every_both P xs ys p.1 q)

pick_here : (s n a b : ℕ) → s ≡ n → (if s == n then a else b) ≡ a
pick_here s n a b e = grind (arith, nat_tests)

pick_else : (s n a b : ℕ) → s ≢ n → (if s == n then a else b) ≡ b
pick_else s n a b e = grind (arith, nat_tests)

-- 1 isn't 0
pub one_apart : (n m : ℕ) → n ≡ 1 → m ≡ 0 → n ≢ m
one_apart n m a b e = absurd (omega arith)

at_end : {A : Type 0} (l : List A) (a b : A) (j : ℕ) → get_elem? (l ++ a ∷ []) j ≡ some b
    → (get_elem? l j ≡ some b) ⊎ ((j ≡ length l) × (a ≡ b))
at_end [] a b zero e = inr (refl, some-injective a b e)
at_end [] a b (suc j) e = absurd (some-ne-none b (sym e))
at_end (x ∷ xs) a b zero e = inl e
at_end (x ∷ xs) a b (suc j) e = ⊎_elim (λ p. inl p) (λ p. inr (ap suc p.0, p.1)) (at_end xs a b j e)

module _ {M : Type 0} where
  -- one view is changed
  each_set : (F : ℕ → Known M → Type 0) (views : List (Known M)) (i : ℕ) (w : Known M) → F i w
      → ((j : ℕ) (u : Known M) → j ≢ i → get_elem? views j ≡ some u → F j u)
      → (j : ℕ) (u : Known M) → get_elem? (set views i w) j ≡ some u → F j u
  each_set F views i w mine others j u e =
      ⊎_elim
      (λ (x : (j ≡ i) × (w ≡ u)). subst (λ (y : ℕ × Known M). F y.0 y.1) (λ k. (sym x.0 k, x.1 k)) mine)
      (λ (x : (j ≢ i) × (get_elem? views j ≡ some u)). others j u x.0 x.1)
      (at_set views i j w u e)

  pub opens : IsKept {M = M} [] (opener ∷ [])
  opens = record {
    got = [];
    sent = λ n. [];
    seat = λ n. 0;
    worker = 0;
    flows = λ n. refl;
    known = one;
  }
    where
      one : (pass : ℕ) (v : Known M) → get_elem? (opener ∷ []) pass ≡ some v
          → Fits {M = M} [] (λ n. []) (λ n. 0) 0 pass v
      one zero v e = subst (λ (u : Known M). Fits {M = M} [] (λ n. []) (λ n. 0) 0 0 u) (some-injective _ _ e)
          (record { own = ((refl, refl), ((refl, refl), tt)); takes = λ _. (refl, refl) })
      one (suc pass) v e = absurd (some-ne-none v (sym e))

  pub puts : (n pass : ℕ) (v : Known M) (s : Slip M) → v.own ≡ first_of v.own ∷ []
      → (first_of v.own).reader ≡ s.reader → Pushes (IsKept {M = M}) n pass v s (HasPut v s)
  puts n pass v s own same items views room h at =
      let t : Put M = first_of v.own in
      let w : Known M = record { own = has_put t s.arrival ∷ []; takes = v.takes; got = v.got } in
      let me = h.known pass v at in
      let mine : Has h.sent h.seat pass t =
      (subst (λ (ts : List (Put M)). Every (Has h.sent h.seat pass) ts) own me.own).0 in
      let sent : ℕ → List M = λ k. of_reader k (h.got ++ (items ++ s ∷ [])) in
      let seam : h.got ++ (items ++ s ∷ []) ≡ (h.got ++ items) ++ s ∷ [] =
      sym (append_assoc h.got items (s ∷ [])) in
      let stays : (k : ℕ) → s.reader ≢ k → h.sent k ≡ sent k = λ k e.
      sym (ap (λ (xs : List (Slip M)). of_reader k xs) seam
      ∙ (of_reader-other k (h.got ++ items) s e ∙ h.flows k)) in
      let grows : t.put ++ s.arrival ∷ [] ≡ sent t.reader =
      ap (λ (xs : List M). xs ++ s.arrival ∷ []) (mine.1 ∙ sym (h.flows t.reader))
      ∙ sym (ap (λ (xs : List (Slip M)). of_reader t.reader xs) seam
      ∙ of_reader-own t.reader (h.got ++ items) s (sym same)) in
      let away : (j : ℕ) → j ≢ pass → (x : Put M) → Has h.sent h.seat j x → s.reader ≢ x.reader = λ j apart x p is.
      apart (sym p.0 ∙ (ap h.seat (sym (same ∙ is)) ∙ mine.0)) in (
        w,
        record {
          got = h.got;
          sent = sent;
          seat = h.seat;
          worker = h.worker;
          flows = λ k. refl;
          known = each_set (Fits h.got sent h.seat h.worker) views pass w
              (record { own = ((mine.0, grows), tt); takes = me.takes })
              (λ j u apart e.
              let its = h.known j u e in
              record {
                own = every_map (Has h.sent h.seat j) (Has sent h.seat j) u.own
                    (λ x p. (p.0, p.1 ∙ stays x.reader (away j apart x p))) its.own;
                takes = its.takes;
              });
        },
        refl,
      )

  pub takes : (pass : ℕ) (v : Known M) → v.takes ≡ true → Pops (IsKept {M = M}) pass v (HasTaken v)
  takes pass v may x items views h at =
      let w : Known M = record { own = v.own; takes = v.takes; got = v.got ++ x ∷ [] } in
      let me = h.known pass v at in
      let is = me.takes may in
      let got : List (Slip M) = h.got ++ x ∷ [] in (
        w,
        record {
          got = got;
          sent = h.sent;
          seat = h.seat;
          worker = h.worker;
          flows = λ k.
              ap (λ (xs : List (Slip M)). of_reader k xs) (append_assoc h.got (x ∷ []) items) ∙ h.flows k;
          known = each_set (Fits got h.sent h.seat h.worker) views pass w
              (record {
                own = me.own;
                takes = λ _. (is.0, ap (λ (xs : List (Slip M)). xs ++ x ∷ []) is.1);
              })
              (λ j u apart e.
              let its = h.known j u e in
              record { own = its.own; takes = λ m. absurd (apart (sym (its.takes m).0 ∙ is.0)) });
        },
        refl,
      )

  -- readers but the n-th keep their passes
  others_keep : (was seat : ℕ → ℕ) (sent : ℕ → List M) (pass n : ℕ) → ((k : ℕ) → k ≢ n → seat k ≡ was k)
      → (ts : List (Put M)) → Every (λ t. t.reader ≢ n) ts → Every (Has sent was pass) ts
      → Every (Has sent seat pass) ts
  others_keep was seat sent pass n same [] apart p = tt
  others_keep was seat sent pass n same (x ∷ xs) apart p = (
    (same x.reader apart.0 ∙ p.0.0, p.0.1),
    others_keep was seat sent pass n same xs apart.1 p.1,
  )

  -- the pass gives its first reader to a new one
  pub forks : (pass : ℕ) (v : Known M) (t : Put M) (ts : List (Put M)) → v.own ≡ t ∷ ts
      → Every (λ u. u.reader ≢ t.reader) ts → Forks (IsKept {M = M}) pass v (rest_of v) (reader_of v)
  forks pass v t ts own apart items views h at =
      let left : Known M = rest_of v in
      let right : Known M = reader_of v in
      let vs : List (Known M) = set views pass left in
      let me = h.known pass v at in
      let all : Every (Has h.sent h.seat pass) (t ∷ ts) =
      subst (λ (xs : List (Put M)). Every (Has h.sent h.seat pass) xs) own me.own in
      let seat : ℕ → ℕ = λ k. if k == t.reader then length vs else h.seat k in
      let stays : (k : ℕ) → k ≢ t.reader → seat k ≡ h.seat k = λ k e. pick_else k t.reader (length vs) (h.seat k) e in
      let its_own : Has h.sent seat (length vs) t =
      (pick_here t.reader t.reader (length vs) (h.seat t.reader) refl, all.0.1) in
      let new : Fits h.got h.sent seat h.worker (length vs) right =
      record {
        own = (subst (λ (x : Put M). Has h.sent seat (length vs) x) (sym (ap first_of own)) its_own, tt);
        takes = λ m. absurd (true≢false (sym m));
      } in
      let kept : Every (Has h.sent seat pass) ts =
      others_keep h.seat seat h.sent pass t.reader stays ts apart all.1 in
      let away : (j : ℕ) → j ≢ pass → (x : Put M) → Has h.sent h.seat j x → x.reader ≢ t.reader = λ j off x p is.
      off (sym p.0 ∙ (ap h.seat is ∙ all.0.0)) in
      let old : (j : ℕ) (u : Known M) → get_elem? vs j ≡ some u → Fits h.got h.sent seat h.worker j u =
      each_set (Fits h.got h.sent seat h.worker) views pass left
      (record {
        own = subst (λ (xs : List (Put M)). Every (Has h.sent seat pass) xs) (sym (ap others_of own)) kept;
        takes = me.takes;
      })
      (λ j u off e.
      let its = h.known j u e in
      record {
        own = every_map (Has h.sent h.seat j) (Has h.sent seat j) u.own
            (λ x p. (stays x.reader (away j off x p) ∙ p.0, p.1)) its.own;
        takes = its.takes;
      }) in
      record {
        got = h.got;
        sent = h.sent;
        seat = seat;
        worker = h.worker;
        flows = h.flows;
        known = λ j u there.
            ⊎_elim
            (λ was. old j u was)
            (λ (is : (j ≡ length vs) × (right ≡ u)).
            subst (λ (y : ℕ × Known M). Fits h.got h.sent seat h.worker y.0 y.1) (λ k. (sym is.0 k, is.1 k)) new)
            (at_end vs right u j there);
      }

  -- the pass takes another's readers in
  pub merges : (pass : ℕ) (v : Known M) (other : ℕ) (w : Known M)
      → Merges (IsKept {M = M}) pass v other w (both_of v w) gone
  merges pass v other w items views h at apart there =
      let both : Known M = both_of v w in
      let was : get_elem? views other ≡ some w =
      ⊎_elim
      (λ (x : (other ≡ pass) × (both ≡ w)). absurd (apart x.0))
      (λ (x : (other ≢ pass) × (get_elem? views other ≡ some w)). x.1)
      (at_set views pass other both w there) in
      let me = h.known pass v at in
      let theirs = h.known other w was in
      let seat : ℕ → ℕ = λ k. if h.seat k == other then pass else h.seat k in
      let keeps : (j : ℕ) → j ≢ other → (t : Put M) → Has h.sent h.seat j t → Has h.sent seat j t = λ j off t p.
      (pick_else (h.seat t.reader) other pass (h.seat t.reader) (λ e. off (sym p.0 ∙ e)) ∙ p.0, p.1) in
      let joins : (t : Put M) → Has h.sent h.seat other t → Has h.sent seat pass t = λ t p.
      (pick_here (h.seat t.reader) other pass (h.seat t.reader) p.0, p.1) in
      record {
        got = h.got;
        sent = h.sent;
        seat = seat;
        worker = h.worker;
        flows = h.flows;
        known = each_set (Fits h.got h.sent seat h.worker) (set views pass both) other gone
            (record { own = tt; takes = λ m. absurd (true≢false (sym m)) })
            (λ j u off e.
            each_set (λ k x. k ≢ other → Fits h.got h.sent seat h.worker k x) views pass both
            (λ off'. record {
              own = every_both (Has h.sent seat pass) v.own w.own
                  (every_map _ _ v.own (keeps pass off') me.own) (every_map _ _ w.own joins theirs.own);
              takes = me.takes;
            })
            (λ k x away e' off'.
            let its = h.known k x e' in
            record { own = every_map _ _ x.own (keeps k off') its.own; takes = its.takes })
            j u e off);
      }

  pub compares : (pass : ℕ) (v : Known M) → Learns (IsKept {M = M}) pass v (Compared v)
  compares pass v items views h at may =
      let me = h.known pass v at in
      let is = me.takes may in
      every_map (Has h.sent h.seat pass) (λ t. of_reader t.reader (v.got ++ items) ≡ t.put) v.own
      (λ t p.
      ap (λ (xs : List (Slip M)). of_reader t.reader (xs ++ items)) is.1 ∙ (h.flows t.reader ∙ sym p.1))
      me.own

  -- What the worker's pass v learns once it has taken in those of the readers n and m, a and b, and has compared: u is
  -- it with the first of them, w with both, and it has counted j and k of theirs.
  pub ends : (n m j k : ℕ) (v a b u w : Known M) → v.own ≡ [] → v.takes ≡ true
      → (a.own ≡ first_of a.own ∷ []) × ((first_of a.own).reader ≡ n)
      → (b.own ≡ first_of b.own ∷ []) × ((first_of b.own).reader ≡ m)
      → j ≡ length (of_reader n v.got) → k ≡ length (of_reader m v.got)
      → u ≡ both_of v a → w ≡ both_of u b → (items : List (Slip M)) → Compared w items
      → AreFirst j (of_reader n v.got) (first_of a.own).put × AreFirst k (of_reader m v.got) (first_of b.own).put
  ends n m j k v a b u w none may of_a of_b is_j is_k joined both items compared =
      let t : Put M = first_of a.own in
      let s : Put M = first_of b.own in
      let of_u : u.own ≡ t ∷ [] =
      ap (λ (x : Known M). x.own) joined ∙ (ap (λ (xs : List (Put M)). xs ++ a.own) none ∙ of_a.0) in
      let of_w : w.own ≡ t ∷ s ∷ [] =
      ap (λ (x : Known M). x.own) both
      ∙ (ap (λ (xs : List (Put M)). xs ++ b.own) of_u ∙ ap (λ (xs : List (Put M)). t ∷ xs) of_b.0) in
      let takes_w : w.takes ≡ true =
      ap (λ (x : Known M). x.takes) both ∙ (ap (λ (x : Known M). x.takes) joined ∙ may) in
      let got : w.got ≡ v.got = ap (λ (x : Known M). x.got) both ∙ ap (λ (x : Known M). x.got) joined in
      let all : Every (λ (x : Put M). of_reader x.reader (w.got ++ items) ≡ x.put) (t ∷ s ∷ []) =
      subst (λ (ts : List (Put M)). Every (λ (x : Put M). of_reader x.reader (w.got ++ items) ≡ x.put) ts)
      of_w (compared takes_w) in
      let at : (i l : ℕ) → l ≡ i → of_reader i (v.got ++ items) ≡ of_reader l (w.got ++ items) = λ i l is.
      ap (λ (p : ℕ × List (Slip M)). of_reader p.0 (p.1 ++ items)) (λ x. (sym is x, sym got x)) in (
        first n j v.got items t.put is_j (at n t.reader of_a.1 ∙ all.0),
        first m k v.got items s.put is_k (at m s.reader of_b.1 ∙ all.1.0),
      )
