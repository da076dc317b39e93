-- Texts of frames.
use Rattle.std.proofs.Common.{◌≡◌, ℕ, List, [], ◌∷◌, ◌++◌, refl, ap, subst, ◌∙◌, sym, append_assoc}
use Rattle.std.proofs.lemmas.List.{append-nil}
use Rattle.base.specs.declared.limits.TheConstants.{MAX_BODY}
use Rattle.stomp_frame.specs.Frames.{Content, IsFrame, canonical}
use Rattle.stomp_frame.specs.Streams.{AreFrames, canonical_texts}
use Rattle.stomp_client.specs.Clients.{Client, appended}
use Rattle.stomp_client.specs.Written.{AreWhole}
use Rattle.reception.specs.Replies.{IsTextOf, Writes}

-- nothing is the text of no frame
pub no_text : IsTextOf [] []
no_text = record { each = tt; whole = refl }

each_behind : (frames : List Content) (f : Content) → AreFrames MAX_BODY frames → IsFrame MAX_BODY f
    → AreFrames MAX_BODY (frames ++ f ∷ [])
each_behind [] f each one = (one, tt)
each_behind (g ∷ gs) f each one = (each.0, each_behind gs f each.1 one)

texts_behind : (frames : List Content) (f : Content)
    → canonical_texts (frames ++ f ∷ []) ≡ canonical_texts frames ++ canonical f
texts_behind [] f = append-nil (canonical f)
texts_behind (g ∷ gs) f = ap (λ text. canonical g ++ text) (texts_behind gs f)
    ∙ sym (append_assoc (canonical g) (canonical_texts gs) (canonical f))

-- one frame more
pub text_behind : (frames : List Content) (f : Content) (octets : List ℕ) → IsTextOf frames octets → IsFrame MAX_BODY f
    → IsTextOf (frames ++ f ∷ []) (octets ++ canonical f)
text_behind frames f octets t one = record {
  each = each_behind frames f t.each one;
  whole = ap (λ text. text ++ canonical f) t.whole ∙ sym (texts_behind frames f);
}

-- text of frames is whole
pub text_is_whole : (frames : List Content) (octets : List ℕ) → IsTextOf frames octets → AreWhole octets
text_is_whole frames octets t = record { frames = frames; each = t.each; whole = t.whole }

-- what was appended was written
pub writes_text : (frames : List Content) (octets : List ℕ) (old new : Client ℕ) → IsTextOf frames octets
    → new ≡ appended octets old
    → Writes frames old new
writes_text frames octets old new t e = record { each = t.each; all = e ∙ ap (λ text. appended text old) t.whole }

-- the same where it was read from
pub whole_at : (frames : List Content) (octets at : List ℕ) → at ≡ octets → IsTextOf frames octets → AreWhole at
whole_at frames octets at e t = text_is_whole frames at (rw e t)

-- the same after calls that left the client as it was
pub writes_at : (frames : List Content) (octets at : List ℕ) (old between new : Client ℕ) → at ≡ octets
    → IsTextOf frames octets
    → between ≡ old → ((fs : List Content) → IsTextOf fs at → Writes fs between new) → Writes frames old new
writes_at frames octets at old between new e t same wrote =
    let P : Client ℕ → Type 0 = λ c. Writes frames c new in
    subst P same (wrote frames (rw e t))
