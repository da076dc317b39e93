-- A life that was closed is a life.
use Rattle.std.proofs.Common.{◌≡◌, ℕ, List, [], ◌∷◌, Option, Some, true, false, inl, inr, sym, ap, ◌∙◌, subst}
use Rattle.std.specs.Prelude.{Contains, option_to_list, Result}
use Rattle.std.proofs.lemmas.List.Elements.{Contains-append_cases}
use Rattle.stomp_wire.specs.declared.fault.LinkFault.{LinkFault}
use Rattle.stomp_frame.specs.Frames.{Content}
use Rattle.envelope.specs.Reading.{read_frame}
use Rattle.envelope.specs.declared.message.Envelope.{Envelope}
use Rattle.activities.specs.Service.{Service}
use Rattle.activities.proofs.Sameness.{either}
use Rattle.keep.specs.Seen.{Seen, IsSound}
use Rattle.keep.specs.Tables.{Tables}
use Rattle.endpoint.specs.Deeds.{kept}
use Rattle.laws_stores.specs.Writing.{IsTrueIn}
use Rattle.told_lock.specs.Rule.{Every}
use Rattle.shared_endpoint.specs.History.{EndsAs}
use Rattle.service_workers.specs.Lives.{LifeStands}
use Rattle.service_workers.specs.Taking.{CarriedAmong, envelopes_in}
use Rattle.service_workers.specs.declared.conn.Conn.{Conn}
use Rattle.service_workers.proofs.Lasting.{no_doubt}
use Rattle.service_workers.proofs.Taking.{among_contained, takes_more}
use Rattle.laws_services.specs.Lives.{Lives}
use Rattle.laws_services.proofs.Living.{none_is_there}
use Rattle.laws_lives.specs.Posts.{StandsByPost, post_of}
use Rattle.laws_lives.proofs.Writing.{in_option, true_after, written_true}

-- what is among the envelopes of MESSAGEs one of them carries
pub came_with : (P : Content → Type 0) (messages : List Content) → Every P messages → (e : Envelope)
    → Contains (envelopes_in messages) e → (m : Content) × P m × (read_frame m ≡ Some e)
came_with P [] all e h = absurd (none_is_there e h)
came_with P (a ∷ messages) all e h =
    either (Contains-append_cases (option_to_list (read_frame a)) (envelopes_in messages) e h)
    (λ here. (a, all.0, in_option (read_frame a) e here))
    (came_with P messages all.1 e)

-- ---- lives

module _ {L : Type 0} (put_gives : L → List ℕ → Result ℕ LinkFault → L → Type 0)
    (take_gives : L → ℕ → Result (List ℕ) LinkFault → L → Type 0) {E S C : Type 0} (seen : E → Seen (Tables S C))
    (service : Service S C) (sound : (e : E) → IsSound (seen e)) (given : L → Type 0) (found : Option E) (left : E)
    (conns : List (Option (Conn L)))
    (life : LifeStands put_gives take_gives seen service given found left conns) where
  good_clean : (seen life.good).doubt ≡ 0
  good_clean = no_doubt seen service life.good left life.ends life.clean

  -- where the endpoint was usable to the end, the life leads to its tables
  by_good : (seen life.good).usable ≡ true
      → Lives service (post_of life) (seen life.first).tables (seen life.good).tables
  by_good usable =
      let took = takes_more (CarriedAmong life.messages) (Contains (envelopes_in life.messages)) (kept (seen life.first).tables)
      (kept (seen life.good).tables) (among_contained life.messages) life.took in
      record {
        matches = life.matches (seen life.good).tables ((sound life.good).stays good_clean usable);
        rows = took.rows;
        goes_on = took.goes_on;
        took = took.took;
        holds = took.holds;
        marks = took.marks;
        wrote = written_true service put_gives take_gives (seen life.good).tables conns life.stand;
      }

  -- the endpoint that was found was usable, and so it was to the end
  good_usable : (seen life.good).usable ≡ true
  good_usable = life.since.usable life.usable

  pub good_lives : Lives service (post_of life) (seen life.first).tables (seen life.good).tables
  good_lives = by_good good_usable

  -- what is left and usable is the good one, and a stop leaves its tables
  pub left_lives : (seen left).usable ≡ true → (t : Tables S C) → (seen left).may_leave t
      → Lives service (post_of life) (seen life.first).tables t
  left_lives usable t may = by_ending life.ends
    where
      Goal : Tables S C → Type 0
      Goal u = Lives service (post_of life) (seen life.first).tables u

      by_ending : EndsAs seen service life.good left → Goal t
      by_ending (inl same) =
          let here : t ≡ (seen life.good).tables
          = (sound left).only_now life.clean usable t may ∙ ap (λ (e : E). (seen e).tables) same in
          subst Goal (sym here) (by_good (ap (λ (e : E). (seen e).usable) (sym same) ∙ usable))
      by_ending (inr broke) = absurd (let now = broke.now in let both : false ≡ true = sym now ∙ usable in cc)

  -- A stop may leave the good tables, or these with what the failed call did. What was true by them still is.
  pub any_stands : (t : Tables S C) → (seen left).may_leave t → StandsByPost service (post_of life) t
  any_stands t may = by_ending life.ends
    where
      written : Envelope → Type 0
      written = Contains (post_of life).written

      by_tables : (u : Tables S C) → (seen life.good).may_leave u → (e : Envelope) → written e
          → IsTrueIn service.reactions u.journal e
      by_tables u was e h = subst (λ (v : Tables S C). IsTrueIn service.reactions v.journal e)
          (sym ((sound life.good).only_now good_clean good_usable u was))
          (written_true service put_gives take_gives (seen life.good).tables conns life.stand e h)

      by_ending : EndsAs seen service life.good left → StandsByPost service (post_of life) t
      by_ending (inl same) =
          let here = subst (λ (e : E). (seen e).may_leave t) same may in
          record { matches = life.matches t here; wrote = by_tables t here }
      by_ending (inr broke) =
          let after = broke.clean life.clean life.matches in
          let came = after.1 t may in
          record {
            matches = after.0 t may;
            wrote = λ e h. true_after service (kept came.before) (kept t) came.deeds came.did e
                (by_tables came.before came.was e h);
          }
