-- What a line's connection writes: it's known of it afterwards as before.
use Rattle.std.proofs.Common.{◌≡◌, ℕ, List, [], ◌++◌, sym, subst, inl, inr, Option, Some, Result}
use Rattle.base.specs.declared.entity.Kind.{Kind}
use Rattle.stomp_wire.specs.declared.fault.LinkFault.{LinkFault}
use Rattle.stomp_frame.specs.Frames.{Content}
use Rattle.envelope.specs.declared.message.Letter.{Letter}
use Rattle.activities.specs.Service.{Service}
use Rattle.keep.specs.Seen.{Seen}
use Rattle.keep.specs.Tables.{Tables}
use Rattle.reception.specs.declared.fault.ReceptionFault.{ReceptionFault}
use Rattle.reception.specs.declared.taken.Taken.{Taken}
use Rattle.told_lock.specs.Rule.{seen_by}
use Rattle.told_lock.specs.declared.view.ToldToken.{ToldToken}
use Rattle.shared_endpoint.specs.Keys.{Any}
use Rattle.service_workers.specs.Conns.{link_of, client_of, start_of, or_was}
use Rattle.service_workers.specs.Tokens.{Progress, progress_of}
use Rattle.service_workers.specs.Truth.{Knows, AnsweredTo, AreSentIn, CarriedBy, RepliedBy, Finishes}
use Rattle.service_workers.specs.Written.{IsOfSession, IsSendOf, MightSpeak, WritesOnly, WritesLetters, came_of}
use Rattle.service_workers.specs.declared.conn.Conn.{Conn}
use Rattle.service_workers.specs.declared.worker.Answer.{Answer}
use Rattle.service_workers.proofs.Speaking.{ByReply, finishes_say, sent_speaks}
use Rattle.service_workers.proofs.Written.{IsKnown, as_others, conn_says, known_shown, line_goes, line_says, line_spoke, none_of, now_shown}

module _ {L : Type 0} (put_gives : L → List ℕ → Result ℕ LinkFault → L → Type 0)
    (take_gives : L → ℕ → Result (List ℕ) LinkFault → L → Type 0) where
  module _ {E S C : Type 0} (seen : E → Seen (Tables S C)) (service : Service S C) where
    -- nothing is written
    pub line_stays : (given : L → Type 0) (sound : Type 0) (xs : List E) (now was : Option (Conn L)) (c d : Conn L)
        → now ≡ Some c → IsKnown put_gives take_gives seen service given sound xs (or_was now was)
        → WritesOnly put_gives take_gives [] c d
        → IsKnown put_gives take_gives seen service given sound xs (Some d)
    line_stays given sound xs now was c d is known h =
        line_goes put_gives take_gives seen service given sound xs now was c d is known
        (none_of put_gives take_gives (IsOfSession service.kind) c d h)

    module _ (given : L → Type 0) (sound : Type 0) (xs ys zs : List E) (own : List (ToldToken E)) (others : List E)
        (now was : Option (Conn L)) (c d : Conn L) where
      by_reply : (came : Content → Type 0) (f : Content) (a : Answer) (r : Result Taken ReceptionFault) (block : List Content)
          → Knows seen service sound (AnsweredTo service f a) own
          → ((x : Progress) → CarriedBy f a x → RepliedBy f r x) → sound → ByReply service came f r block
          → MightSpeak seen service (seen_by own ++ others) came block
      by_reply came f a r block knows replied s (inl free) = inl free
      by_reply came f a r block knows replied s (inr so) = known_shown put_gives take_gives seen service came sound
          (AnsweredTo service f a) block own others (λ x h. so x (replied (progress_of service x) h)) knows s

      -- What is answered to a MESSAGE, by what the token knows that is shown. That it came is known while the service is sound.
      pub line_replies : (kind : Kind) (f : Content) (a : Answer) (r : Result Taken ReceptionFault) → kind ≡ service.kind
          → (sound → came_of put_gives take_gives c f) → now ≡ Some c
          → IsKnown put_gives take_gives seen service given sound xs (or_was now was)
          → ys ≡ seen_by own ++ others → zs ≡ xs ++ ys
          → Knows seen service sound (AnsweredTo service f a) own
          → Finishes kind f (client_of c) (client_of d) r
          → ((x : Progress) → CarriedBy f a x → RepliedBy f r x)
          → (link_of d ≡ link_of c) × (start_of d ≡ start_of c)
          → IsKnown put_gives take_gives seen service given sound zs (Some d)
      line_replies kind f a r mine at is known shown all knows finishes replied same =
          let came = came_of put_gives take_gives c in
          subst (λ es. IsKnown put_gives take_gives seen service given sound es (Some d)) (sym all)
          (line_spoke put_gives take_gives seen service given sound xs ys now was c d is known same.1
          (λ s. as_others put_gives take_gives (ByReply service came f r) (MightSpeak seen service (xs ++ ys) came)
          (λ block so. subst (λ es. MightSpeak seen service (xs ++ es) came block) (sym shown)
          (now_shown put_gives take_gives seen service came xs (seen_by own ++ others) block
          (by_reply came f a r block knows replied s so))) c d
          (conn_says put_gives take_gives (ByReply service came f r) c d same.1 same.0
          (finishes_say service came f (at s) kind mine (client_of c) (client_of d) r finishes))))

      -- letters of the outbox, by what the token knows that is shown
      pub line_sends : (letters : List Letter) → now ≡ Some c
          → IsKnown put_gives take_gives seen service given sound xs (or_was now was)
          → ys ≡ seen_by own ++ others → zs ≡ xs ++ ys
          → Knows seen service sound (AreSentIn service.reactions letters) own
          → WritesLetters put_gives take_gives letters c d
          → IsKnown put_gives take_gives seen service given sound zs (Some d)
      line_sends letters is known shown all knows h =
          subst (λ es. IsKnown put_gives take_gives seen service given sound es (Some d)) (sym all)
          (line_says put_gives take_gives seen service (λ block. Any (IsSendOf block) letters) given sound xs ys now was c d
          is known
          (λ s block so.
          let came = came_of put_gives take_gives c in
          subst (λ es. MightSpeak seen service (xs ++ es) came block) (sym shown)
          (now_shown put_gives take_gives seen service came xs (seen_by own ++ others) block
          (known_shown put_gives take_gives seen service came sound (AreSentIn service.reactions letters) block own others
          (λ x k. sent_speaks service came letters x block so k) knows s)))
          h)
