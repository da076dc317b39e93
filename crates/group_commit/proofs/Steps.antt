-- The steps of a letter that is next and of a mark that rises, on top of changes that don't concern their entities.
use Rattle.std.proofs.Common.{◌≡◌, ℕ, ◌+◌, ◌≤◌, ◌<◌, true, false, None, List, [], ◌∷◌, ◌++◌, length, Ok}
use Rattle.std.proofs.Common.{refl, sym, ap, ◌∙◌, subst, arith}
use Rattle.std.specs.Prelude.{⊤}
use Rattle.std.specs.List.{list_any}
use Rattle.base.specs.Number.{IsNumber}
use Rattle.base.specs.declared.limits.TheConstants.{HELD_WINDOW, MAX_NUMBER}
use Rattle.base.specs.declared.pair.Pair.{Pair}
use Rattle.envelope.specs.declared.message.Letter.{Letter}
use Rattle.envelope.specs.declared.message.Envelope.TheVariants as envelope
use Rattle.activities.specs.Reaction.{react}
use Rattle.activities.specs.Rows.{row_for, state_for}
use Rattle.activities.specs.Service.{Service}
use Rattle.activities.specs.declared.input.JournalRow.{JournalRow}
use Rattle.activities.specs.declared.outs.Out.{Out}
use Rattle.keep.specs.declared.change.Change.{Change}
use Rattle.keep.specs.declared.change.Change.TheVariants.{Journal, State, Settled}
use Rattle.keep.specs.Tables.{Tables, changed, ArePlaced, set_message}
use Rattle.outbox.specs.Numbering.{numbering, NumbersFit}
use Rattle.endpoint.specs.Arrivals.{row_of_letter}
use Rattle.endpoint.specs.Calls.{IsCommit}
use Rattle.endpoint.specs.Deeds.{TakesIn, Settles}
use Rattle.endpoint.specs.Matches.{TablesMatchJournal}
use Rattle.endpoint.proofs.Arriving.{letter_changes, letter_prepares}
use Rattle.endpoint.proofs.Exits.{on_write_ok}
use Rattle.endpoint.proofs.Finishing.{mark_does, mark_placed}
use Rattle.endpoint.proofs.Placed.{placed-last}
use Rattle.endpoint.proofs.Steps.{numbering-sets-none}
use Rattle.group_commit.specs.Group.{TakesOne}
use Rattle.group_commit.specs.Parts.Planning.{touches, IsNext}
use Rattle.group_commit.specs.declared.grouped.Grouped.TheVariants as grouped
use Rattle.group_commit.proofs.Apart.{ReadsSame, spares, numbering-same, fits-same}

module _ {S C : Type 0} (service : Service S C) where
  -- ---- a letter on top of tables `u` that match their journal

  module _ (law : (s : S) → service.is_none s ≡ true → s ≡ service.reactions.opening) (u : Tables S C) (l : Letter)
      (h : TablesMatchJournal service u)
      (mine : l.pair.to.kind ≡ service.kind) (next : IsNext l u) where
    abbrev row : JournalRow C
    row = row_of_letter l

    module _ (s0 : S) (found : s0 ≡ state_for service.reactions.opening (u.entity l.pair.to)) (done : S × List Out)
        (reacted : react service.reactions s0 row.input ≡ Ok done)
        (position : ℕ) (is : IsNumber position) (placed : position ≡ length u.journal + 1)
        (fits : NumbersFit u.sent l.pair.to done.1) where
      abbrev letters : List (Change S C)
      letters = numbering u.sent l.pair.to done.1

      abbrev rest : List (Change S C)
      rest = State l.pair.to (row_for service.is_none done.0) ∷ Journal position row ∷ []

      abbrev all : List (Change S C)
      all = (letter_changes l ++ letters) ++ rest

      all_placed : ArePlaced all u
      all_placed = placed-last (letter_changes l ++ letters) u l.pair.to (row_for service.is_none done.0) position row
          (numbering-sets-none (letter_changes l) (letter_changes l ++ letters) u.sent l.pair.to done.1 refl tt) placed

      room : length u.journal < MAX_NUMBER
      room = let a = is.small in omega (arith, a, placed)

      written : IsCommit HELD_WINDOW service u row (set_message l.pair l.number None u.held) (changed all u) (λ _. ⊤)
          (Ok (record { pos = position }))
      written = on_write_ok HELD_WINDOW service law u u row h mine room refl s0 found
          (set_message l.pair l.number None u.held) done reacted position placed (letter_changes l)
          (letter_prepares HELD_WINDOW service u l h next (letter_changes l) refl) refl done.1 refl
          (letter_changes l ++ letters) refl u refl fits (changed all u) (λ _. ⊤) position refl refl

      pub letter_takes : TakesOne service (envelope.Letter l) (grouped.Handled position) u (changed all u)
          × ArePlaced all u
      letter_takes = (
        record {
          deed = TakesIn row;
          may = (refl, placed ∙ omega arith);
          did = (written.1.takes, written.1.settled, written.1.held);
          matches = written.1.matches;
        },
        all_placed,
      )

  -- ---- the same where the store has other changes before it

  module _ (law : (s : S) → service.is_none s ≡ true → s ≡ service.reactions.opening) (t : Tables S C)
      (before : List (Change S C)) (l : Letter)
      (mine : l.pair.to.kind ≡ service.kind) (apart : list_any (touches l.pair.to) before ≡ false) where
    abbrev u : Tables S C
    u = changed before t

    same : ReadsSame l.pair.to t u
    same = spares l.pair.to before t apart

    next_there : IsNext l t → IsNext l u
    next_there next = next ∙ ap (λ n. n + 1) (sym (same.handled l.pair.from))

    -- the step of a letter: `changes` are those that its receiver's reaction makes
    pub letter_step : (rows : ℕ) (s0 : S) (done : S × List Out) (position : ℕ) (outs : List Out)
        (numbered changes : List (Change S C))
        → react service.reactions s0 (row_of_letter {C = C} l).input ≡ Ok done
        → IsNumber position → position ≡ rows + 1 → outs ≡ done.1
        → numbered ≡ letter_changes l ++ numbering t.sent l.pair.to outs → NumbersFit t.sent l.pair.to outs
        → changes ≡ numbered ++ State l.pair.to (row_for service.is_none done.0) ∷ Journal position (row_of_letter l) ∷ []
        → IsNext l t → s0 ≡ state_for service.reactions.opening (t.entity l.pair.to)
        → TablesMatchJournal service u → rows ≡ length u.journal
        → TakesOne service (envelope.Letter l) (grouped.Handled position) u (changed changes u) × ArePlaced changes u
    letter_step rows s0 done position outs numbered changes reacted is after outs_are numbered_is fits changes_are next
        found h behind =
        let rest : List (Change S C) =
        State l.pair.to (row_for service.is_none done.0) ∷ Journal position (row_of_letter l) ∷ [] in
        let there : numbered ≡ letter_changes l ++ numbering u.sent l.pair.to done.1 =
        numbered_is ∙ ap (λ (os : List Out). letter_changes l ++ numbering t.sent l.pair.to os) outs_are
        ∙ ap (λ (cs : List (Change S C)). letter_changes l ++ cs)
        (numbering-same t.sent u.sent l.pair.to same.sent done.1) in
        let whole : changes ≡ (letter_changes l ++ numbering u.sent l.pair.to done.1) ++ rest =
        changes_are ∙ ap (λ (cs : List (Change S C)). cs ++ rest) there in
        let P : List (Change S C) → Type 0 = λ cs.
        TakesOne service (envelope.Letter l) (grouped.Handled position) u (changed cs u) × ArePlaced cs u in
        subst P (sym whole) (letter_takes law u l h mine (next_there next) s0
        (found ∙ ap (state_for service.reactions.opening) (sym same.entity)) done reacted position is
        (after ∙ ap (λ n. n + 1) behind)
        (fits-same t.sent u.sent l.pair.to same.sent done.1
        (subst (λ (os : List Out). NumbersFit t.sent l.pair.to os) outs_are fits)))

  module _ (t : Tables S C) (before : List (Change S C)) (p : Pair) (n : ℕ) (mine : p.from.kind ≡ service.kind)
      (apart : list_any (touches p.from) before ≡ false) where
    -- the step of a settle by which the mark rises
    pub mark_step : (changes : List (Change S C)) → changes ≡ Settled p n ∷ [] → t.settled p < n → n ≤ t.sent p
        → TablesMatchJournal service (changed before t)
        → TakesOne service (envelope.Settle p n) (grouped.Settled n) (changed before t) (changed changes (changed before t))
        × ArePlaced changes (changed before t)
    mark_step changes is more there h =
        let same = spares p.from before t apart in
        let settled = same.settled p.to in
        let sent = same.sent p.to in
        let it = mark_does HELD_WINDOW service p n mine changes is (changed before t) h
        (omega (arith, more, settled), omega (arith, there, sent)) in (
          record { deed = Settles p n; may = it.0; did = it.2; matches = it.3 },
          mark_placed HELD_WINDOW service p n changes is (changed before t),
        )
