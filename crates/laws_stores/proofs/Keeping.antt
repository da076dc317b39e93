-- Deeds that take in what is genuine keep three services good.
use Rattle.std.proofs.Common.{◌≡◌, ℕ, ◌≤◌, ◌⊎◌, arith, sym, subst}
use Rattle.std.specs.Prelude.{max}
use Rattle.std.proofs.Math.Logic.{∥∥₁_elim}
use Rattle.base.specs.declared.pair.Pair.{Pair}
use Rattle.envelope.specs.declared.message.Envelope.{Envelope}
use Rattle.envelope.specs.declared.message.Envelope.TheVariants.{Settle}
use Rattle.activities.proofs.Sameness.{either}
use Rattle.laws_journals.specs.Journals.{Journals, AreLawful, handled_in}
use Rattle.laws_journals.specs.Envelopes.{IsAuthentic, SettledAreHandled}
use Rattle.laws_journals.specs.Growth.{AddsRow, Grows}
use Rattle.laws_journals.proofs.Growth.{lawful-later, grows, grows-same, authentic-later, settled-later}
use Rattle.laws_journals.proofs.Agreement.{sound}
use Rattle.laws_journals.proofs.Propositions.{lawful-prop, authentic-prop, settled-prop}
use Rattle.laws_stores.specs.Deeds.{DeedOfOne, ComesOf}
use Rattle.laws_stores.specs.Good.{journals_of, settled_in, HoldsAuthentic, IsGenuine, IsGood, AllAgree}
use Rattle.laws_stores.specs.Sight.{AllTables, Sight, MayLeave}
use Rattle.laws_stores.proofs.OneDeed.{one_journals, one_marks, one_held}

pub genuine-prop : (s : Sight) (e : Envelope) → IsProp (IsGenuine s e)
genuine-prop s e = hlevel (λ (t : AllTables). authentic-prop (journals_of t) e)

-- ---- journals that stay, or have one row more

lawful_after : (js later : Journals) → (later ≡ js) ⊎ AddsRow js later → AreLawful js → AreLawful later
lawful_after js later h lawful =
    either h (λ same. subst AreLawful (sym same) lawful) (λ adds. lawful-later js later adds lawful)

grows_after : (js later : Journals) → (later ≡ js) ⊎ AddsRow js later → Grows js later
grows_after js later h = either h (λ same. subst (Grows js) (sym same) (grows-same js)) (λ adds. grows js later adds)

-- a mark that is raised to what was handled at most stays behind it
mark_after : (js : Journals) (p : Pair) (old new : ℕ) → old ≤ handled_in js p
    → (new ≡ old) ⊎ ((n : ℕ) × (new ≡ max old n) × IsAuthentic js (Settle p n)) → new ≤ handled_in js p
mark_after js p old new behind h = either h
    (λ same. omega (arith, same, behind))
    (λ up. let to = up.1 in let most = up.2 in omega (arith, to, most, behind))

-- ---- one deed

module _ (known : Envelope → Type 0) (x y : AllTables) (one : DeedOfOne known x y)
    (all : (e : Envelope) → known e → IsAuthentic (journals_of x) e) (held : HoldsAuthentic x) where
  adds : (journals_of y ≡ journals_of x) ⊎ AddsRow (journals_of x) (journals_of y)
  adds = one_journals known (IsAuthentic (journals_of x)) x y all held one

  pub one_lawful : AreLawful (journals_of x) → AreLawful (journals_of y)
  one_lawful = lawful_after (journals_of x) (journals_of y) adds

  more : Grows (journals_of x) (journals_of y)
  more = grows_after (journals_of x) (journals_of y) adds

  pub one_authentic : (e : Envelope) → IsAuthentic (journals_of x) e → IsAuthentic (journals_of y) e
  one_authentic = authentic-later (journals_of x) (journals_of y) more

  pub one_settled : SettledAreHandled (journals_of x) (settled_in x) → SettledAreHandled (journals_of y) (settled_in y)
  one_settled h p = mark_after (journals_of y) p (settled_in x p) (settled_in y p)
      (settled-later (journals_of x) (journals_of y) more (settled_in x) h p)
      (one_marks known (IsAuthentic (journals_of y)) x y (λ e k. one_authentic e (all e k))
      (λ kind e i. one_authentic e (held kind e i))
      one p.from.kind p)

  pub one_holds : HoldsAuthentic y
  one_holds = one_held known (IsAuthentic (journals_of y)) x y (λ e k. one_authentic e (all e k))
      (λ kind e i. one_authentic e (held kind e i)) one

-- ---- what comes of good tables is good

module _ (old new : Sight) (good : IsGood old) (comes : ComesOf (DeedOfOne (IsGenuine old)) old new) where
  known_at : (x : AllTables) → MayLeave old x → (e : Envelope) → IsGenuine old e → IsAuthentic (journals_of x) e
  known_at x was e genuine = genuine x was

  held_at : (x : AllTables) → MayLeave old x → HoldsAuthentic x
  held_at x was kind e h = good.held x was kind e h x was

  -- what is genuine stays so
  pub genuine_later : (e : Envelope) → IsGenuine old e → IsGenuine new e
  genuine_later e genuine y may = ∥∥₁_elim (comes y may) (authentic-prop (journals_of y) e) (λ led.
      one_authentic (IsGenuine old) led.0 y led.2 (known_at led.0 led.1) (held_at led.0 led.1) e (genuine led.0 led.1))

  pub good_later : IsGood new
  good_later = record {
    lawful = λ y may. ∥∥₁_elim (comes y may) (lawful-prop (journals_of y)) (λ led.
        one_lawful (IsGenuine old) led.0 y led.2 (known_at led.0 led.1) (held_at led.0 led.1)
        (good.lawful led.0 led.1));
    settled = λ y may. ∥∥₁_elim (comes y may) (settled-prop (journals_of y) (settled_in y)) (λ led.
        one_settled (IsGenuine old) led.0 y led.2 (known_at led.0 led.1) (held_at led.0 led.1)
        (good.settled led.0 led.1));
    held = λ y may kind e h. ∥∥₁_elim (comes y may) (genuine-prop new e) (λ led.
        one_held (IsGenuine old) (IsGenuine new) led.0 y genuine_later (λ k x i. genuine_later x
        (good.held led.0 led.1 k x i)) led.2
        kind e h);
  }

-- ---- and so partners agree

pub good_agrees : (s : Sight) → IsGood s → AllAgree s
good_agrees s good t may = sound (journals_of t) (good.lawful t may).prefixes
