-- What a client writes by what is told of a MESSAGE is borne out by what the service has kept.
use Rattle.std.proofs.Common.{◌≡◌, ℕ, ◌≤◌, Bool, true, false, sym, subst, inl, inr, Some, Result, Ok, Err}
use Rattle.std.specs.Prelude.{◌⊎◌, if◌then◌else◌}
use Rattle.base.specs.Number.{is_number}
use Rattle.base.specs.declared.entity.Kind.{Kind}
use Rattle.base.specs.declared.pair.Pair.{Pair}
use Rattle.stomp_frame.specs.Frames.{Content}
use Rattle.stomp_client.specs.Clients.{Client}
use Rattle.envelope.specs.Reading.{read_frame}
use Rattle.envelope.specs.declared.message.Letter.{Letter}
use Rattle.envelope.specs.declared.message.Envelope.{Envelope}
use Rattle.envelope.specs.declared.message.Envelope.TheVariants as envelope
use Rattle.endpoint.specs.declared.answer.Ingested.{Ingested}
use Rattle.endpoint.specs.declared.answer.Ingested.TheVariants as ingested
use Rattle.endpoint.specs.declared.fault.EndFault.{EndFault}
use Rattle.reception.specs.Answers.{Answers}
use Rattle.reception.specs.Faults.{IsWant}
use Rattle.reception.specs.Prepared.{ToldOfLetter, ToldOfSettle, IsUnaskedFor, IsUnasked, IsUntold}
use Rattle.reception.specs.declared.fault.ReceptionFault.{ReceptionFault}
use Rattle.reception.specs.declared.fault.ReceptionFault.TheVariants as fault
use Rattle.reception.specs.declared.taken.Taken.{Taken}
use Rattle.reception.specs.declared.taken.Taken.TheVariants as taken
use Rattle.service_workers.specs.Tokens.{Progress}
use Rattle.service_workers.specs.Truth.{CarriedBy, RepliedBy, Finishes, IsItsAnswer, OfLetter, OfSettle, RefusedAs}
use Rattle.service_workers.specs.declared.worker.Answer.{Answer}
use Rattle.service_workers.specs.declared.worker.Answer.TheVariants as answer

again_within : (b : Bool) (number handled top : ℕ) → number ≤ top → handled ≤ top
    → (if b then handled else number) ≤ top
again_within true number handled top a b = b
again_within false number handled top a b = a

same_letter : (f : Content) (l k : Letter) → read_frame f ≡ Some (envelope.Letter l)
    → read_frame f ≡ Some (envelope.Letter k) → l ≡ k
same_letter f l k a b = cc (a, b)

refused_at : (cause : EndFault) (e : Envelope) (x : Progress) → OfLetter e (Err cause) x → RefusedAs cause e x
refused_at cause (envelope.Letter l) x h = h
refused_at cause (envelope.Settle p n) x h = absurd h

noted_at : (cause : EndFault) (e : Envelope) (x : Progress) → OfSettle e (Err cause) x → RefusedAs cause e x
noted_at cause (envelope.Letter l) x h = absurd h
noted_at cause (envelope.Settle p n) x h = h

want_replied : (f : Content) (cause : ReceptionFault) (x : Progress) → IsWant cause → RepliedBy f (Err cause) x
want_replied f (fault.Frame e) x is = tt
want_replied f (fault.Client e) x is = tt
want_replied f (fault.Envelope e) x is = tt
want_replied f (fault.End e) x is = absurd is

-- the reply to a letter by the endpoint's answer is one that its MESSAGE allows
pub letter_replied : (f : Content) (l : Letter) (r : Result Ingested EndFault) (told : Result Taken ReceptionFault)
    → read_frame f ≡ Some (envelope.Letter l) → ToldOfLetter l r told → (x : Progress)
    → CarriedBy f (answer.Letter r) x → RepliedBy f told x
letter_replied f l (Ok (ingested.Handled pos)) told reads is x h =
    subst (λ t. RepliedBy f t x) (sym is) (λ k at. h (envelope.Letter k) at)
letter_replied f l (Ok (ingested.Repeated n)) (Ok t) reads is x h =
    subst (λ a. RepliedBy f (Ok a) x) (sym is) (λ k at.
    let both = h (envelope.Letter k) at in
    let same = same_letter f l k reads at in (
      both.0,
      again_within (is_number n) l.number n (x.handled k.pair)
          (subst (λ (a : Letter). a.number ≤ x.handled k.pair) (sym same) both.0) both.1,
    ))
letter_replied f l (Ok (ingested.Repeated n)) (Err cause) reads is x h = want_replied f cause x is
letter_replied f l (Ok ingested.Held) told reads is x h =
    subst (λ t. RepliedBy f t x) (sym is) (λ k at. h (envelope.Letter k) at)
letter_replied f l (Err cause) told reads is x h = subst (λ t. RepliedBy f t x) (sym is) (λ e at. refused_at cause e x (h e at))

-- the reply to a settle by the endpoint's answer is one that its MESSAGE allows
pub settle_replied : (f : Content) (r : Result ℕ EndFault) (told : Result Taken ReceptionFault)
    → ToldOfSettle r told → (x : Progress) → CarriedBy f (answer.Settle r) x → RepliedBy f told x
settle_replied f (Ok mark) told is x h =
    subst (λ t. RepliedBy f t x) (sym is) (λ p n at. h (envelope.Settle p n) at)
settle_replied f (Err cause) told is x h = subst (λ t. RepliedBy f t x) (sym is) (λ e at. noted_at cause e x (h e at))

-- a fault that isn't the endpoint's tells nothing
pub fault_replied : (f : Content) (cause : ReceptionFault) → IsUnasked cause → (x : Progress) → RepliedBy f (Err cause) x
fault_replied f (fault.Frame e) h x = tt
fault_replied f (fault.Client e) h x = tt
fault_replied f (fault.Envelope e) h x = tt
fault_replied f (fault.End e) h x = absurd h

pub unasked_replied : (f : Content) (t : Taken) → IsUnaskedFor t → (x : Progress) → RepliedBy f (Ok t) x
unasked_replied f taken.Connected h x = tt
unasked_replied f (taken.Receipt n) h x = tt
unasked_replied f (taken.Error n) h x = tt
unasked_replied f (taken.Handled n) h x = absurd h
unasked_replied f (taken.Repeated n) h x = absurd h
unasked_replied f taken.Held h x = absurd h
unasked_replied f (taken.Settled n) h x = absurd h

-- what carries an answer carries an equal one
pub carried_at : (f : Content) (a b : Answer) (x : Progress) → a ≡ b → CarriedBy f a x → CarriedBy f b x
carried_at f a b x is h = subst (λ c. CarriedBy f c x) is h

-- an answer to an equal frame by an equal client is an answer to this one
pub answers_at : (kind : Kind) (f g : Content) (old c new : Client ℕ) (r : Result Taken ReceptionFault) → g ≡ f → c ≡ old
    → Answers kind g c new r → Finishes kind f old new r
answers_at kind f g old c new r a b h =
    inl (subst (λ (x : Content × Client ℕ). Answers kind x.0 x.1 new r) (λ i. (a i, b i)) h)

-- an answer to the letter that a MESSAGE carries is an answer to the MESSAGE
pub its_letter : (f : Content) (a : Answer) (l : Letter) (r : Result Ingested EndFault) (told : Result Taken ReceptionFault)
    → a ≡ answer.Letter r → read_frame f ≡ Some (envelope.Letter l) → ToldOfLetter l r told → IsItsAnswer f a told
its_letter f a l r told is reads h = subst (λ x. IsItsAnswer f x told) (sym is) (l, reads, h)

-- an answer to the settle that a MESSAGE carries is an answer to the MESSAGE
pub its_settle : (f : Content) (a : Answer) (p : Pair) (n : ℕ) (r : Result ℕ EndFault) (told : Result Taken ReceptionFault)
    → a ≡ answer.Settle r → read_frame f ≡ Some (envelope.Settle p n) → ToldOfSettle r told → IsItsAnswer f a told
its_settle f a p n r told is reads h = subst (λ x. IsItsAnswer f x told) (sym is) (p, n, reads, h)

untold_replied : (f : Content) (told : Result Taken ReceptionFault) → IsUntold told → (x : Progress) → RepliedBy f told x
untold_replied f (Ok t) h x = absurd h
untold_replied f (Err cause) h x = fault_replied f cause h x

-- a letter whose envelope was read before is told by its answer, or isn't
module _ (f : Content) (a : Answer) (l : Letter) (r : Result Ingested EndFault) (told : Result Taken ReceptionFault)
    (is : a ≡ answer.Letter r) (reads : read_frame f ≡ Some (envelope.Letter l)) where
  pub told_replied : IsUntold told ⊎ ToldOfLetter l r told → (x : Progress) → CarriedBy f a x → RepliedBy f told x
  told_replied (inl untold) x h = untold_replied f told untold x
  told_replied (inr so) x h = letter_replied f l r told reads so x (carried_at f a (answer.Letter r) x is h)

-- and so is a settle
pub noted_replied : (f : Content) (a : Answer) (r : Result ℕ EndFault) (told : Result Taken ReceptionFault)
    → a ≡ answer.Settle r → IsUntold told ⊎ ToldOfSettle r told → (x : Progress) → CarriedBy f a x → RepliedBy f told x
noted_replied f a r told is (inl untold) x h = untold_replied f told untold x
noted_replied f a r told is (inr so) x h = settle_replied f r told so x (carried_at f a (answer.Settle r) x is h)
