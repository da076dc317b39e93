-- The outbox read page by page.
use Rattle.std.specs.Prelude.{◌≡◌, ℕ, ◌+◌, ◌<◌, List, [], ◌∷◌, ◌++◌, length, Option, Some}
use Rattle.envelope.specs.declared.message.Message.{Message}
use Rattle.envelope.specs.declared.message.Letter.{Letter}
use Rattle.keep.specs.declared.change.LetterPlace.{LetterPlace}
use Rattle.keep.specs.Listing.{place_of, IsAfter, IsNoneAfter, AreFirst}
use Rattle.keep.specs.Sorted.{Has}
use Rattle.keep.specs.Tables.{Messages}

-- the place at which the page behind these letters begins: that of their last; where there is none, the one before them
abbrev pub place_behind : Option LetterPlace → List Letter → Option LetterPlace
place_behind after [] = after
place_behind after (l ∷ ls) = place_behind (Some (place_of l)) ls

-- a full page and the page behind it are one page
abbrev pub PagesJoin : Type 0
PagesJoin = (messages : Messages) (after : Option LetterPlace) (first second : ℕ) (xs ys : List Letter)
    → AreFirst messages after first xs
    → length xs ≡ first
    → AreFirst messages (place_behind after xs) second ys → AreFirst messages after (first + second) (xs ++ ys)

-- behind a page that is shorter than its limit there is no letter
abbrev pub ShortPageIsLast : Type 0
ShortPageIsLast =
    (messages : Messages) (after : Option LetterPlace) (limit : ℕ) (xs : List Letter) → AreFirst messages after limit xs
    → length xs < limit
    → IsNoneAfter messages (place_behind after xs)

-- each letter of a page stands, after its place
abbrev pub ListedLettersStand : Type 0
ListedLettersStand =
    (messages : Messages) (after : Option LetterPlace) (limit : ℕ) (xs : List Letter) → AreFirst messages after limit xs
    → (l : Letter) → Has xs l → (messages l.pair l.number ≡ Some l.message) × IsAfter after (place_of l)

-- a page that is shorter than its limit has each letter that stands after its place
abbrev pub StandingLettersAreListed : Type 0
StandingLettersAreListed =
    (messages : Messages) (after : Option LetterPlace) (limit : ℕ) (xs : List Letter) → AreFirst messages after limit xs
    → length xs < limit
    → (x : LetterPlace) (m : Message) → IsAfter after x → messages x.pair x.number ≡ Some m
    → Has xs (record { pair = x.pair; number = x.number; message = m })
