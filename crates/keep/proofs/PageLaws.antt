-- What pages of the outbox have in common.
use Rattle.std.proofs.Common.{◌≡◌, ◌⊎◌, inl, inr, ℕ, zero, suc, ◌+◌, [], ◌∷◌, ◌++◌, Option, Some, Ordering, Less}
use Rattle.std.proofs.Common.{Equal, Greater, refl, sym, ap, subst, ◌∙◌, arith, zero-add}
use Rattle.envelope.specs.declared.message.Message.{Message}
use Rattle.envelope.specs.declared.message.Letter.{Letter}
use Rattle.keep.specs.declared.change.LetterPlace.{LetterPlace}
use Rattle.keep.specs.Tables.{Messages}
use Rattle.keep.specs.Places.{place_cmp, IsBefore}
use Rattle.keep.specs.Listing.{place_of, IsAfter, IsNext, AreFirst}
use Rattle.keep.specs.Pages.{PagesJoin, ShortPageIsLast, ListedLettersStand, StandingLettersAreListed}
use Rattle.keep.proofs.Places.{place_cmp-Equal, place_cmp-Greater}
use Rattle.keep.proofs.Listings.{later_than, never_none, letter}

suc-add : (n b : ℕ) → suc n + b ≡ suc (n + b)
suc-add n b = omega arith

-- a full page and the page after it are one page
pub pages_join : PagesJoin
pages_join messages after zero second [] ys first full behind =
    subst (λ (n : ℕ). AreFirst messages after n ys) (sym (zero-add second)) behind
pages_join messages after zero second (l ∷ ls) ys first full behind = absurd first
pages_join messages after (suc n) second [] ys first full behind = absurd (omega (arith, full))
pages_join messages after (suc n) second (l ∷ ls) ys first full behind =
    subst (λ (k : ℕ). AreFirst messages after k (l ∷ (ls ++ ys))) (sym (suc-add n second))
    (first.0, pages_join messages (Some (place_of l)) n second ls ys first.1 (omega (arith, full)) behind)

-- after a page that is shorter than its limit there is no letter
pub short_page_is_last : ShortPageIsLast
short_page_is_last messages after zero xs are short = absurd (omega (arith, short))
short_page_is_last messages after (suc n) [] are short = are
short_page_is_last messages after (suc n) (l ∷ ls) are short =
    short_page_is_last messages (Some (place_of l)) n ls are.1 (omega (arith, short))

-- each letter of a page is in the outbox, after the page's place
pub listed_letters_stand : ListedLettersStand
listed_letters_stand messages after zero [] are l h = absurd h
listed_letters_stand messages after zero (k ∷ ks) are l h = absurd are
listed_letters_stand messages after (suc n) [] are l h = absurd h
listed_letters_stand messages after (suc n) (k ∷ ks) are l (inl same) =
    let P : Letter → Type 0 = λ x. (messages x.pair x.number ≡ Some x.message) × IsAfter after (place_of x) in
    subst P (sym same) (are.0.stands, are.0.later)
listed_letters_stand messages after (suc n) (k ∷ ks) are l (inr more) =
    let r = listed_letters_stand messages (Some (place_of k)) n ks are.1 l more in
    (r.0, later_than after (place_of k) (place_of l) are.0.later r.1)

-- the first letter of a page, or one behind it
first_or_behind : (messages : Messages) (after : Option LetterPlace) (k : Letter) (x : LetterPlace) (m : Message)
    → IsNext messages after k
    → IsAfter after x → messages x.pair x.number ≡ Some m
    → (o : Ordering) → place_cmp x (place_of k) ≡ o → (letter x.pair x.number m ≡ k) ⊎ IsBefore (place_of k) x
first_or_behind messages after k x m next late stands Less e = absurd (never_none _ m stands (next.first x late e))
first_or_behind messages after k x m next late stands Equal e =
    let same : x ≡ place_of k = place_cmp-Equal x (place_of k) e in
    let said : Some m ≡ Some k.message = sym stands ∙ ap (λ (y : LetterPlace). messages y.pair y.number) same ∙ next.stands in
    let message : m ≡ k.message = cc in
    inl (ap (λ (y : LetterPlace). letter y.pair y.number m) same ∙ ap (λ (n : Message). letter k.pair k.number n) message)
first_or_behind messages after k x m next late stands Greater e = inr (place_cmp-Greater x (place_of k) e)

-- a page that is shorter than its limit has each letter after its place
pub standing_letters_are_listed : StandingLettersAreListed
standing_letters_are_listed messages after zero xs are short x m late stands = absurd (omega (arith, short))
standing_letters_are_listed messages after (suc n) [] are short x m late stands =
    absurd (never_none _ m stands (are x late))
standing_letters_are_listed messages after (suc n) (k ∷ ks) are short x m late stands =
    elim (first_or_behind messages after k x m are.0 late stands (place_cmp x (place_of k)) refl) [
      | inl same ↦ inl same
      | inr behind ↦ inr (standing_letters_are_listed messages (Some (place_of k)) n ks are.1 (omega (arith, short)) x m
          behind stands)
    ]
