-- The reactions of a title.
use Rattle.std.specs.Prelude.{ℕ, ◌+◌, ◌-◌, ◌≤◌, Bool, false, ◌&&◌, ◌||◌, not, nat_le, nat_lt, length, filter}
use Rattle.std.specs.Prelude.{List, [], ◌∷◌, ◌++◌, Result, Ok, Err, if◌then◌else◌}
use Rattle.base.specs.Entity.{Entity}
use Rattle.base.specs.Order.{same_entity}
use Rattle.base.specs.declared.limits.TheConstants.{MAX_NUMBER}
use Rattle.envelope.specs.declared.message.Message.{Message}
use Rattle.envelope.specs.declared.message.Message.TheVariants.{Request, Tentative, Refused, Confirm, Cancel}
use Rattle.activities.specs.declared.handler.Refusal.{Refusal}
use Rattle.activities.specs.declared.handler.Refusal.TheVariants.{Own}
use Rattle.activities.specs.declared.outs.Out.{Out}
use Rattle.activities.specs.OwnRefusals.{own}
use Rattle.activities.specs.Reaction.{Reactions, reply}
use Rattle.library.specs.declared.title.TheConstants.{ASKERS, NOT_ON_SHELF, TOO_MANY}
use Rattle.library.specs.declared.title.Asker.{Asker}
use Rattle.library.specs.declared.title.TitleCommand.{TitleCommand}
use Rattle.library.specs.declared.title.TitleCommand.TheVariants.{Add, Remove}

-- how many copies are here, how many of them are set aside, and for whom
pub record TitleState : Type 0 where
  pub here : ℕ
  pub aside : ℕ
  pub askers : List Asker

-- whether copies are set aside for this entity
abbrev pub has_aside : List Asker → Entity → Bool
has_aside [] who = false
has_aside (a ∷ rest) who = same_entity a.who who || has_aside rest who

-- how many copies are set aside for this entity
abbrev pub aside_for : List Asker → Entity → ℕ
aside_for [] who = 0
aside_for (a ∷ rest) who = if same_entity a.who who then a.copies else aside_for rest who

-- the askers but for this entity
abbrev pub without : List Asker → Entity → List Asker
without askers who = filter (λ (a : Asker). not (same_entity a.who who)) askers

-- whether so many copies stand on the shelf
abbrev pub has_on_shelf : TitleState → ℕ → Bool
has_on_shelf t n = nat_le (t.aside + n) t.here

-- whether so many copies can be set aside for this entity: they stand on the shelf, fewer than eight askers have some,
-- and it has none
abbrev pub can_set_aside : TitleState → Entity → ℕ → Bool
can_set_aside t who n = has_on_shelf t n && nat_lt (length t.askers) ASKERS && not (has_aside t.askers who)

-- the title with so many copies set aside for this entity
abbrev pub set_aside : TitleState → Entity → ℕ → TitleState
set_aside t who n = record t { aside = t.aside + n; askers = t.askers ++ record { who = who; copies = n } ∷ [] }

-- the title with nothing set aside for this entity
abbrev pub put_back : TitleState → Entity → TitleState
put_back t who = record t { aside = t.aside - aside_for t.askers who; askers = without t.askers who }

-- copies come, up to 2^40 in all, and go, if they stand on the shelf
abbrev pub on_title_command : TitleState → TitleCommand → Result (TitleState × List Out) Refusal
on_title_command t (Add n) =
    if nat_le (t.here + n) MAX_NUMBER then Ok (record t { here = t.here + n }, []) else Err (Own (own TOO_MANY))
on_title_command t (Remove n) =
    if has_on_shelf t n then Ok (record t { here = t.here - n }, []) else Err (Own (own NOT_ON_SHELF))

-- who asks for copies has them set aside, if they can be, and else is refused; its confirm takes them away, its cancel
-- puts them back; anything else changes nothing
abbrev pub on_title_message : TitleState → Entity → Message → TitleState × List Out
on_title_message t who (Request n) =
    if can_set_aside t who n then (set_aside t who n, reply who Tentative) else (t, reply who Refused)
on_title_message t who Confirm = (record (put_back t who) { here = t.here - aside_for t.askers who }, [])
on_title_message t who Cancel = (put_back t who, [])
on_title_message t who message = (t, [])

-- titles: no copy at first
abbrev pub title_reactions : Reactions TitleState TitleCommand
title_reactions = record {
  opening = record { here = 0; aside = 0; askers = [] };
  on_command = on_title_command;
  on_message = on_title_message;
}

-- what is set aside is here
abbrev pub IsCovered : TitleState → Type 0
IsCovered t = t.aside ≤ t.here
