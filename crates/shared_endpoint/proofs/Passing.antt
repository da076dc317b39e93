-- Tokens, as calls have them.
use Rattle.std.proofs.Common.{◌≡◌, ℕ, Bool, true, false, [], ◌∷◌, map}
use Rattle.std.proofs.Common.{Option}
use Rattle.std.proofs.Common.{inl, refl, sym, ap, ◌∙◌, subst}
use Rattle.activities.specs.Service.{Service}
use Rattle.keep.specs.Seen.{Seen, IsSound}
use Rattle.keep.specs.Tables.{Tables}
use Rattle.crossbeam_channel.specs.Claims.{Pass}
use Rattle.endpoint.specs.declared.fault.EndFault.{EndFault}
use Rattle.told_lock.specs.declared.lock.Lock.{Lock}
use Rattle.told_lock.specs.declared.view.Known.{Known}
use Rattle.told_lock.specs.Keys.{knows, IsKeyOf}
use Rattle.told_lock.specs.Rule.{Every, Took, MayStay, IsChief, without, token_of, new_told}
use Rattle.shared_endpoint.specs.History.{IsLater, Since, EverSince, EndsAs, Steps, Turns, BearsOut, Gives, given, tells}
use Rattle.shared_endpoint.specs.Keys.{told, shown, maker, IsToken, IsNew}
use Rattle.shared_endpoint.specs.Lore.{later_same, since_same}
use Rattle.shared_endpoint.proofs.Steps.{gives, turns, bears}

module _ {E S C : Type 0} (seen : E → Seen (Tables S C)) (service : Service S C) (sound : (e : E) → IsSound (seen e))
  where
    -- what a call owes and tells of a token of this lock, by what the code knows of the answer: c, what the box had that
    -- was taken, was asked
    pub token_gives : {L : Type 0} (lock : Lock E L) (n : ℕ) (p : Pass E (Known E)) (w : Known E) (d c e : E)
        (b : Bool)
        (fault : Option EndFault)
        → IsToken lock n p → Took (Since seen service) (IsLater seen) (EndsAs seen service) (EverSince seen service) (knows p) d w → c ≡ d
        → b ≡ tells fault → Steps seen service n c e fault → Gives seen service w e b
    token_gives lock n p w d c e b fault t took same is s = subst (Gives seen service w e) (sym is)
        (gives seen service sound n (knows p) w d e t.one fault took t.own t.number
        (subst (λ x. Steps seen service n x e fault) same s))

    pub token_turns : {L : Type 0} (lock : Lock E L) (n : ℕ) (p p' : Pass E (Known E)) (w : Known E) (d c e : E)
        (b : Bool)
        (fault : Option EndFault) (Call : E → E → Type 0)
        → IsToken lock n p → Took (Since seen service) (IsLater seen) (EndsAs seen service) (EverSince seen service) (knows p) d w → c ≡ d
        → b ≡ tells fault → Steps seen service n c e fault → Call c e
        → knows p' ≡ without (map (given b e) w.own) w → Turns seen service n (told p) (told p') Call fault
    token_turns lock n p p' w d c e b fault Call t took same is s call gave =
        turns seen service sound n (knows p) w (knows p') d e t.one fault Call took t.own t.number
        (subst (λ x. Steps seen service n x e fault) same s) (subst (λ x. Call x e) same call)
        (gave ∙ ap (λ it. without (map (given it e) w.own) w) is)

    pub token_bears : {L : Type 0} (lock : Lock E L) (n : ℕ) (p p' : Pass E (Known E)) (w : Known E) (d c e : E)
        (b : Bool)
        (fault : Option EndFault)
        → IsToken lock n p
        → Took (Since seen service) (IsLater seen) (EndsAs seen service) (EverSince seen service) (knows p) d w → c ≡ d
        → b ≡ tells fault → Steps seen service n c e fault → knows p' ≡ without (map (given b e) w.own) w
        → Every (BearsOut seen service (shown p)) (told p')
    token_bears lock n p p' w d c e b fault t took same is s gave =
        bears seen service sound n (knows p) w (knows p') d e t.one fault took t.own
        (subst (λ x. Steps seen service n x e fault) same s) (gave ∙ ap (λ it. without (map (given it e) w.own) w) is)

    pub token_stays : {L : Type 0} (lock : Lock E L) (n : ℕ) (p p' : Pass E (Known E)) (w : Known E) (d e : E)
        (b : Bool)
        → IsToken lock n p → Took (Since seen service) (IsLater seen) (EndsAs seen service) (EverSince seen service) (knows p) d w
        → IsKeyOf lock p' → knows p' ≡ without (map (given b e) w.own) w → IsToken lock n p'
    token_stays lock n p p' w d e b t took at gave = record {
      at = at;
      stage = ap (λ (k : Known E). k.stage) gave;
      one = given b e t.one;
      own = ap (λ (k : Known E). k.own) gave
          ∙ ap (map (given b e)) (ap (λ (k : Known E). k.own) took.is ∙ t.own);
      number = same b ∙ t.number;
    }
      where
        same : (c : Bool) → (given c e t.one).number ≡ t.one.number
        same true = refl
        same false = refl

    -- an endpoint that was just put there may be given back
    pub maker_gives : (n : ℕ) (e : E) (v : Known E) → v ≡ maker n e
        → MayStay (Since seen service) (IsLater seen) (EndsAs seen service) v e
    maker_gives n e v is = record {
      value = e;
      good = e;
      now = e;
      stage = ap (λ (k : Known E). k.stage) is;
      has = ap (λ (k : Known E). k.has) is;
      was = ap (λ (k : Known E). k.good) is;
      later = later_same seen e;
      ends = inl refl;
      all = λ m. since_same seen service m e;
    }

module _ {E : Type 0} where
  pub chief_of : (n : ℕ) (e : E) (v : Known E) → v ≡ maker n e → IsChief v
  chief_of n e v is = record {
    stage = ap (λ (k : Known E). k.stage) is;
    chief = ap (λ (k : Known E). k.chief) is;
    value = e;
    has = ap (λ (k : Known E). k.has) is;
    good = ap (λ (k : Known E). k.good) is;
  }

  pub token_new : {L : Type 0} (lock : Lock E L) (n : ℕ) (e : E) (v : Known E) (p : Pass E (Known E))
      → v ≡ maker n e → IsKeyOf lock p → knows p ≡ token_of v → IsToken lock n p × IsNew n e p
  token_new lock n e v p is at gave =
      let whole : knows p ≡ token_of (maker n e) = gave ∙ ap token_of is in
      let own : told p ≡ new_told n e ∷ [] = ap (λ (k : Known E). k.own) whole in (
        record {
          at = at;
          stage = ap (λ (k : Known E). k.stage) whole;
          one = new_told n e;
          own = own;
          number = refl;
        },
        own,
      )
