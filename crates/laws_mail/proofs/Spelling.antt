-- Texts that spell good frames.
use Rattle.std.proofs.Common.{◌≡◌, ℕ, List, [], ◌∷◌, ◌++◌, refl, sym, subst, append_assoc, arith}
use Rattle.std.specs.List.{AllByRecursion}
use Rattle.std.proofs.lemmas.List.{append-nil}
use Rattle.base.specs.declared.limits.TheConstants.{MAX_BODY}
use Rattle.stomp_frame.specs.Frames.{Content, canonical}
use Rattle.stomp_frame.specs.Spelling.{IsGap, SpellsAfterGap}
use Rattle.stomp_frame.specs.Streams.{SpellsAll, canonical_texts}
use Rattle.stomp_frame.proofs.Canonical.{canon_spells}
use Rattle.stomp_frame.proofs.Streaming.{all_and_one, all_behind_gap, first_given}
use Rattle.stomp_session.proofs.Owning.{all_append}
use Rattle.envelope.specs.declared.message.Envelope.{Envelope}
use Rattle.laws_mail.specs.Passing.{GoodFrame, Spelled}

module _ (ok : Envelope → Type 0) where
  pub nothing_spelled : Spelled ok []
  nothing_spelled = record { frames = []; each = tt; spelled = (0, refl) }

  -- ---- frames more

  pub spelled_more : (text : List ℕ) (f : Content) → Spelled ok text → GoodFrame ok f → Spelled ok (text ++ canonical f)
  spelled_more text f h g = record {
    frames = h.frames ++ f ∷ [];
    each = all_append (GoodFrame ok) h.frames (f ∷ []) h.each (g, tt);
    spelled =
        all_and_one MAX_BODY h.frames f text (canonical f) h.spelled (0, canon_spells MAX_BODY (omega arith) f g.fits);
  }

  pub spelled_all : (text : List ℕ) (fs : List Content) → Spelled ok text → AllByRecursion (GoodFrame ok) fs
      → Spelled ok (text ++ canonical_texts fs)
  spelled_all text [] h g = subst (Spelled ok) (sym (append-nil text)) h
  spelled_all text (f ∷ fs) h g = subst (Spelled ok) (append_assoc text (canonical f) (canonical_texts fs))
      (spelled_all (text ++ canonical f) fs (spelled_more text f h g.0) g.1)

  -- behind two texts
  pub behind_both : (a b more : List ℕ) → Spelled ok ((a ++ b) ++ more) → Spelled ok (a ++ (b ++ more))
  behind_both a b more h = subst (Spelled ok) (append_assoc a b more) h

  -- ---- the first of the frames

  pub first_good : (f : Content) (front rest text : List ℕ) → Spelled ok text → SpellsAfterGap MAX_BODY f front
      → text ≡ front ++ rest
      → GoodFrame ok f × Spelled ok rest
  first_good f front rest text h s e =
      let g = first_given MAX_BODY h.frames f front rest text h.spelled s e in
      let all : AllByRecursion (GoodFrame ok) (f ∷ g.0) = subst (AllByRecursion (GoodFrame ok)) g.1 h.each in
      (all.0, record { frames = g.0; each = all.1; spelled = g.2 })

  pub behind_gap : (gap rest text : List ℕ) → Spelled ok text → IsGap gap → text ≡ gap ++ rest → Spelled ok rest
  behind_gap gap rest text h is e = record {
    frames = h.frames;
    each = h.each;
    spelled = all_behind_gap MAX_BODY h.frames gap rest is (subst (SpellsAll MAX_BODY h.frames) e h.spelled);
  }
