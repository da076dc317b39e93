-- A piece that is read, and octets that are written.
use Rattle.std.proofs.Common.{◌≡◌, ℕ, ◌+◌, Bool, true, false, List, [], ◌∷◌, ◌++◌, ◌-◌, ◌≤◌, length, take, drop, Option, Ok}
use Rattle.std.proofs.Common.{refl}
use Rattle.std.proofs.Common.{sym, ap, ◌∙◌, arith, subst}
use Rattle.std.specs.List.{find}
use Rattle.std.specs.Io.KnownBytes.{Consumes}
use Rattle.std.proofs.Math.Seq.{take-length}
use Rattle.std.proofs.lemmas.List.{drop-drop, take-append-drop, length-drop, length-take-le, drop_all}
use Rattle.broker_core.specs.Calls.{out_in, without_first}
use Rattle.broker_core.specs.Feeding.{Feeds}
use Rattle.broker_core.specs.Serving.{Server, changing, is_session, session_of, with_session}
use Rattle.broker_core.specs.declared.session.Session.{Session}
use Rattle.broker_server.specs.Parts.{PieceAnswer, SomeAnswer, WritesSome}
use Rattle.broker_server.specs.Turns.{ReadsIn, some}
use Rattle.broker_server.specs.Turns.{WritesOut, WriteAnswer, WritesRest, RestAnswer}
use Rattle.broker_server.specs.declared.turn.Piece.{Piece}
use Rattle.broker_server.specs.declared.turn.Piece.TheVariants.{Octets}
use Rattle.broker_server.specs.declared.turn.Written.{Written}
use Rattle.broker_server.specs.declared.turn.Written.TheVariants.{All, Blocked, Again}

-- ---- reading

-- octets that were read and then fed are a turn of reading
pub read_whole : (full n : ℕ) (old new : Server) (before after : Option (List ℕ)) (buffer : List ℕ)
    (count frames : ℕ) (p : Piece)
    → p ≡ Octets count → PieceAnswer before after buffer (Ok p) → Feeds full old n (take count buffer) new frames
    → ReadsIn full n old new before after (record { octets = count; frames = frames })
read_whole full n old new before after buffer count frames (Octets k) e h f =
    let alike : k ≡ count = cc in
    let within = subst (λ m. m ≤ length buffer) alike h.0 in
    some (take count buffer) (sym (length-take-le count buffer within)) f
    (subst (λ m. Consumes before after (take m buffer)) alike h.1)
read_whole full n old new before after buffer count frames _ e h f = absurd (cc)

-- ---- writing

out_step : (n k : ℕ) (s : Session) (ss : List Session) (b : Bool) → is_session n s ≡ b
    → out_in (find (is_session n) (with_session n (without_first k) ss)) ≡ drop k (out_in (find (is_session n) ss))
    → out_in (find (is_session n) (with_session n (without_first k) (s ∷ ss)))
    ≡ drop k (out_in (find (is_session n) (s ∷ ss)))
out_step n k s ss true e ih = rw (e, e) refl
out_step n k s ss false e ih = rw (e, e) ih

drop_none : (k : ℕ) (none : List ℕ) → none ≡ [] → drop k none ≡ none
drop_none k none e = drop_all k none (omega (arith, ap length e)) ∙ sym e

-- what is left for a session from whose octets some were taken away
pub out_without : (n k : ℕ) (ss : List Session)
    → out_in (find (is_session n) (with_session n (without_first k) ss)) ≡ drop k (out_in (find (is_session n) ss))
out_without n k [] = sym (drop_none k [] refl)
out_without n k (s ∷ ss) = out_step n k s ss (is_session n s) refl (out_without n k ss)

some_out : (n : ℕ) (b : Server) (count : ℕ) (before after : Option (List ℕ))
    → WritesSome (out_in (session_of n b)) before after count
    → WritesOut n b (changing n (without_first count) b) before after
some_out n b count before after h =
    let out = out_in (session_of n b) in
    record {
      octets = take count out;
      first = sym (take-append-drop count out) ∙ ap (λ l. take count out ++ l) (sym (out_without n count b.sessions));
      changed = ap (λ k. changing n (without_first k) b) (sym (length-take-le count out h.within));
      appended = h.appended;
    }

all_out : (n : ℕ) (b : Server) (count : ℕ) (before after : Option (List ℕ)) (w : Written)
    → SomeAnswer before after (out_in (session_of n b)) (Ok (count, w))
    → WriteAnswer n b (changing n (without_first count) b) before after (Ok w)
all_out n b count before after All h = (
  some_out n b count before after h.0,
  out_without n count b.sessions ∙ drop_all count (out_in (session_of n b)) (omega (arith, h.1)),
)
all_out n b count before after Blocked h = some_out n b count before after h
all_out n b count before after Again h = some_out n b count before after h

-- what was written is taken away
pub written_out : (n : ℕ) (old new : Server) (out : List ℕ) (count : ℕ) (before after : Option (List ℕ)) (w : Written)
    → out ≡ out_in (session_of n old) → new ≡ changing n (without_first count) old
    → SomeAnswer before after out (Ok (count, w))
    → WriteAnswer n old new before after (Ok w)
written_out n old new out count before after w e k h =
    subst (λ (b : Server). WriteAnswer n old b before after (Ok w)) (sym k)
    (all_out n old count before after w (subst (λ (l : List ℕ). SomeAnswer before after l (Ok (count, w))) e h))

some_rest : (octets : List ℕ) (from count : ℕ) (before after : Option (List ℕ))
    → WritesSome (drop from octets) before after count
    → WritesRest (drop from octets) (drop (from + count) octets) before after
some_rest octets from count before after h = record {
  octets = take count (drop from octets);
  first = sym (take-append-drop count (drop from octets))
      ∙ ap (λ l. take count (drop from octets) ++ l) (drop-drop count from octets);
  appended = h.appended;
}

all_rest : (octets : List ℕ) (from count : ℕ) (before after : Option (List ℕ)) (w : Written)
    → SomeAnswer before after (drop from octets) (Ok (count, w))
    → RestAnswer (drop from octets) (drop (from + count) octets) before after (Ok w)
all_rest octets from count before after All h = (
  some_rest octets from count before after h.0,
  sym (drop-drop count from octets) ∙ drop_all count (drop from octets) (omega (arith, h.1)),
)
all_rest octets from count before after Blocked h = some_rest octets from count before after h
all_rest octets from count before after Again h = some_rest octets from count before after h

-- the rest that was written is taken away
pub written_rest : (old octets left : List ℕ) (from count : ℕ) (before after : Option (List ℕ)) (w : Written)
    → drop from octets ≡ old → left ≡ drop from octets → SomeAnswer before after left (Ok (count, w))
    → RestAnswer old (drop (from + count) octets) before after (Ok w)
written_rest old octets left from count before after w e k h =
    subst (λ (l : List ℕ). RestAnswer l (drop (from + count) octets) before after (Ok w)) e
    (all_rest octets from count before after w (subst (λ (l : List ℕ). SomeAnswer before after l (Ok (count, w))) k h))

-- what stands behind a place, as a slice has it
pub behind : (left octets : List ℕ) (from : ℕ) → left ≡ octets
    → take (length left - from) (drop from left) ≡ drop from octets
behind left octets from e =
    ap (λ n. take n (drop from left)) (sym (length-drop from left)) ∙ take-length (drop from left) ∙ ap (drop from) e
