-- An ACK of which nothing but its id is asked is accepted, and asks for that.
use Rattle.std.proofs.Common.{◌≡◌, inl, inr, ℕ, Bool, true, false, not, ◌&&◌, List, [], ◌∷◌, codes, Some, None, refl, ap}
use Rattle.std.proofs.Common.{◌∙◌}
use Rattle.std.specs.Prelude.{Ok}
use Rattle.std.specs.Str.{bytes_eq}
use Rattle.stomp_frame.specs.declared.command.Command.{Command}
use Rattle.stomp_frame.specs.declared.command.Command.TheVariants.{Ack}
use Rattle.stomp_frame.specs.Frames.{Header, Content, header, frame}
use Rattle.stomp_frame.proofs.Scans.{chosen, and_left, and_right}
use Rattle.stomp_session.specs.Headers.{is_long}
use Rattle.stomp_session.specs.Requests.{acking, request_of, sole_ack, sole_id}
use Rattle.stomp_session.proofs.Taking.{same_text}

off : (b : Bool) → not b ≡ true → b ≡ false
off true e = absurd cc
off false e = refl

value_is : (x y : List ℕ) → Some x ≡ Some y → x ≡ y
value_is x y e = cc

named : (id body : List ℕ) → is_long (Some id) ≡ false
    → request_of true (frame Ack (header (codes "id") id ∷ []) body) ≡ Ok (acking id)
named id body short = rw short refl

one : (h : Header) (body id : List ℕ) → sole_id (h ∷ []) ≡ Some id
    → request_of true (frame Ack (h ∷ []) body) ≡ Ok (acking id)
one h body id e =
    let is_id = bytes_eq h.name (codes "id") in
    let short = not (is_long (Some h.value)) in
    elim (chosen (is_id && short) (Some h.value) None (Some id) e) [
      | inl p ↦
          ap (λ (name : List ℕ). request_of true (frame Ack (header name h.value ∷ []) body))
          (same_text h.name (codes "id") (and_left is_id short p.0))
          ∙ named h.value body (off (is_long (Some h.value)) (and_right is_id short p.0))
          ∙ ap (λ (x : List ℕ). Ok (acking x)) (value_is h.value id p.1)
      | inr p ↦ absurd (let none : None ≡ Some id = p.1 in cc)
    ]

parts : (connected : Bool) (c : Command) (hs : List Header) (body id : List ℕ)
    → sole_ack connected (frame c hs body) ≡ Some id
    → (request_of connected (frame c hs body) ≡ Ok (acking id)) × (connected ≡ true)
parts false c hs body id e = absurd cc
parts true Ack [] body id e = absurd cc
parts true Ack (h ∷ []) body id e = (one h body id e, refl)
parts true Ack (h ∷ i ∷ hs) body id e = absurd cc
parts true _ hs body id e = absurd cc

-- an ACK with an `id` alone asks just for that
pub sole_asks : (connected : Bool) (f : Content) (id : List ℕ) → sole_ack connected f ≡ Some id
    → (request_of connected f ≡ Ok (acking id)) × (connected ≡ true)
sole_asks connected f id e = parts connected f.command f.headers f.body id e
