-- What a place of a connection knows of the frames that came on it.
use Rattle.std.proofs.Common.{◌≡◌, ℕ, List, ap, subst, sym, ◌∙◌, Option, None, Some, Result}
use Rattle.stomp_wire.specs.declared.fault.LinkFault.{LinkFault}
use Rattle.stomp_frame.specs.Frames.{Content}
use Rattle.keep.specs.Seen.{Seen}
use Rattle.keep.specs.Tables.{Tables}
use Rattle.activities.specs.Service.{Service}
use Rattle.service_workers.specs.Conns.{began_with, start_of, IsGiven, or_was}
use Rattle.service_workers.specs.Reads.{CameFrom, CameOver, Finds, IfFound, IsReadIf, ReadsSome, TakesBack}
use Rattle.service_workers.specs.declared.conn.Conn.{Conn}
use Rattle.service_workers.specs.declared.conn.Found.{Found}
use Rattle.service_workers.proofs.Written.{IsKnown}
use Rattle.service_workers.proofs.Reading.{finds_over, goes_on_kept, goes_on_read}

-- ---- the link that a place's connection began with

module _ {L : Type 0} (link : Option L) (now was : Option (Conn L)) (c : Conn L) where
  pub its_link : now ≡ Some c → link ≡ began_with (or_was now was) → link ≡ Some (start_of c)
  its_link is began = began ∙ ap (λ o. began_with (or_was o was)) is

  -- the connection continues
  pub link_stays : (d : Conn L) → now ≡ Some c → start_of d ≡ start_of c → link ≡ began_with (or_was now was)
      → link ≡ Some (start_of d)
  link_stays d is same began = its_link is began ∙ ap (λ (l : L). Some l) (sym same)

  -- or it is cut, and noted as it was then
  pub link_noted : (now' was' : Option (Conn L)) → now' ≡ None → was' ≡ Some c → link ≡ Some (start_of c)
      → link ≡ began_with (or_was now' was')
  link_noted now' was' none noted began =
      began ∙ ap began_with (sym noted) ∙ ap (λ o. began_with (or_was o was')) (sym none)

module _ {L : Type 0} (put_gives : L → List ℕ → Result ℕ LinkFault → L → Type 0)
    (take_gives : L → ℕ → Result (List ℕ) LinkFault → L → Type 0) where
  -- what came on the connection of this number came on this one
  pub its_frame : (begun : ℕ → Option L) (n m : ℕ) (now was : Option (Conn L)) (c : Conn L) (f : Content) → n ≡ m → now ≡ Some c
      → begun m ≡ began_with (or_was now was) → CameFrom put_gives take_gives (begun n) f
      → CameFrom put_gives take_gives (Some (start_of c)) f
  its_frame begun n m now was c f same is began came = subst (λ k. CameFrom put_gives take_gives k f)
      (ap begun same ∙ its_link (begun m) now was c is began) came

  module _ (sound : Type 0) (now : Option (Conn L)) (c d : Conn L) where
    -- the connection continues
    pub line_reads : now ≡ Some c → (sound → IsReadIf put_gives take_gives now) → ReadsSome put_gives take_gives c d → sound
        → IsReadIf put_gives take_gives (Some d)
    line_reads is read h s = goes_on_read put_gives take_gives c d h (subst (IsReadIf put_gives take_gives) is (read s))

    -- and a frame is found
    pub line_finds : (given : L → Type 0) (link : Option L) (was : Option (Conn L)) (r : Found) → now ≡ Some c
        → IsGiven given (or_was now was) → link ≡ began_with (or_was now was) → (sound → IsReadIf put_gives take_gives now)
        → Finds put_gives take_gives r c d → sound
        → IfFound (CameOver put_gives take_gives given link) r × IsReadIf put_gives take_gives (Some d)
    line_finds given link was r is known began read h s =
        let found = finds_over put_gives take_gives given r c d (subst (λ o. IsGiven given (or_was o was)) is known) h
        (subst (IsReadIf put_gives take_gives) is (read s)) in (
          subst (λ k. IfFound (CameOver put_gives take_gives given k) r) (sym (its_link link now was c is began)) found.0,
          found.1,
        )

    -- or taken back
    pub line_keeps : (link : Option L) (was : Option (Conn L)) (f : Content) → now ≡ Some c
        → link ≡ began_with (or_was now was) → (sound → IsReadIf put_gives take_gives now)
        → (sound → CameFrom put_gives take_gives link f) → TakesBack put_gives take_gives f c d → sound
        → IsReadIf put_gives take_gives (Some d)
    line_keeps link was f is began read came h s = goes_on_kept put_gives take_gives f c d
        (subst (λ k. CameFrom put_gives take_gives k f) (its_link link now was c is began) (came s)) h
        (subst (IsReadIf put_gives take_gives) is (read s))

  pub none_is_read : (o : Option (Conn L)) → o ≡ None → IsReadIf put_gives take_gives o
  none_is_read o none = subst (IsReadIf put_gives take_gives) (sym none) tt

  -- the connection is cut, whatever was read off it
  module _ {E S C : Type 0} (seen : E → Seen (Tables S C)) (service : Service S C) where
    pub dropped : (given : L → Type 0) (sound : Type 0) (xs : List E) (now was : Option (Conn L)) (d : Conn L)
        → now ≡ None → was ≡ Some d → IsKnown put_gives take_gives seen service given sound xs (Some d)
        → IsKnown put_gives take_gives seen service given sound xs (or_was now was)
    dropped given sound xs now was d none noted known =
        subst (λ o. IsKnown put_gives take_gives seen service given sound xs (or_was o was)) (sym none)
        (subst (IsKnown put_gives take_gives seen service given sound xs) (sym noted) known)
