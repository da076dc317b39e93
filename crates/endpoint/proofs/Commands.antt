-- A command needs no change of handled marks and held letters.
use Rattle.std.proofs.Common.{ℕ, ◌<◌, ◌≡◌, List, [], ◌∷◌, ◌++◌, refl, sym, subst, ◌∙◌}
use Rattle.base.specs.Entity.{Entity}
use Rattle.base.specs.declared.limits.TheConstants.{SEATS}
use Rattle.base.specs.declared.pair.Pair.{Pair}
use Rattle.activities.specs.Service.{Service}
use Rattle.activities.specs.Journal.{handled_of}
use Rattle.activities.specs.declared.input.JournalRow.{JournalRow}
use Rattle.activities.proofs.Journals.{command_row, handled_of-command}
use Rattle.keep.specs.declared.change.Change.{Change}
use Rattle.keep.specs.Tables.{Tables}
use Rattle.endpoint.specs.Matches.{TablesMatchWithin, MayBeHeld}
use Rattle.endpoint.specs.Parts.Handling.{Prepares}

-- a seat's command is fit to be the next row: no mark and no held letter goes with it
pub command-prepares : {S C : Type 0} (ahead : ℕ) (service : Service S C) (old : Tables S C) (e : Entity) (seat : ℕ)
    (command : C)
    (first : List (Change S C))
    → TablesMatchWithin ahead service old → seat < SEATS → first ≡ []
    → Prepares ahead service.kind old (command_row e seat command) first
command-prepares {S} {C} ahead service old e seat command first h seated none =
    let row : JournalRow C = command_row e seat command in
    let same : (p : Pair) → handled_of (old.journal ++ row ∷ []) p ≡ handled_of old.journal p =
    λ p. handled_of-command old.journal e seat command p in
    let P : List (Change S C) → Type 0 = λ cs. Prepares ahead service.kind old row cs in
    subst P (sym none) (record {
      seated = seated;
      next = tt;
      journal = refl;
      entity = refl;
      unsettled = refl;
      sent = refl;
      settled = refl;
      handled = λ p. h.handled p ∙ sym (same p);
      held = λ p n some. let Q : ℕ → Type 0 =
          λ k. MayBeHeld ahead service.kind k p n in subst Q (sym (same p)) (h.held p n some);
    })
