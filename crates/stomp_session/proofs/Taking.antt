-- What is taken out of a list of headers, and what is left in it.
use Rattle.std.proofs.Common.{◌≡◌, ℕ, zero, suc, ◌+◌, ◌<◌, ◌≤◌, Bool, true, false, cond, List, [], ◌∷◌, length, get_or}
use Rattle.std.proofs.Common.{Option, Some, None}
use Rattle.std.proofs.Common.{refl, ap, ◌∙◌, arith}
use Rattle.std.specs.Prelude.{◌||◌, filter, not, nat_lt, is_some, is_none}
use Rattle.std.specs.List.{position, position_or_len, remove}
use Rattle.std.specs.Str.{bytes_eq}
use Rattle.std.proofs.lemmas.Bool.{ltb-false}
use Rattle.std.proofs.lemmas.Slice.Eq.{bytes_eq-Decides}
use Rattle.std.proofs.lemmas.List.Quantifiers.{position-Some}
use Rattle.stomp_frame.specs.declared.command.Command.{Command}
use Rattle.stomp_frame.specs.declared.command.Command.TheVariants.{Send}
use Rattle.stomp_frame.specs.Frames.{Header, frame, header, value_of}
use Rattle.stomp_session.specs.Headers.{is_own}
use Rattle.stomp_session.specs.Requests.{asked, is_send}
use Rattle.stomp_session.specs.Parts.Taking.{is_named, without_first}

-- two texts that compare as equal are one
pub same_text : (a b : List ℕ) → bytes_eq a b ≡ true → a ≡ b
same_text a b = (bytes_eq-Decides a b).0

-- ---- what is taken

-- a header of a name at a place, and none before it
record IsFirst (name : List ℕ) (hs : List Header) (at : ℕ) (d : Header) : Type 0 where
  within : at < length hs
  named : is_named name (get_or hs at d) ≡ true
  before : (k : ℕ) → k < at → is_named name (get_or hs k d) ≡ false

behind : (name : List ℕ) (h : Header) (hs : List Header) (at : ℕ) (d : Header) → IsFirst name (h ∷ hs) (suc at) d
    → IsFirst name hs at d
behind name h hs at d first = record {
  within = omega (arith, first.within);
  named = first.named;
  before = λ k lt. first.before (suc k) (omega (arith, lt));
}

value_at : (name : List ℕ) (hs : List Header) (at : ℕ) (d : Header) → IsFirst name hs at d
    → value_of name hs ≡ Some (get_or hs at d).value
value_at name [] at d first = absurd (omega (arith, first.within))
value_at name (h ∷ hs) zero d first = rw first.named refl
value_at name (h ∷ hs) (suc at) d first =
    rw (first.before 0 (omega arith)) (value_at name hs at d (behind name h hs at d first))

rest_at : (name : List ℕ) (hs : List Header) (at : ℕ) (d : Header) → IsFirst name hs at d
    → without_first name hs ≡ remove hs at
rest_at name [] at d first = absurd (omega (arith, first.within))
rest_at name (h ∷ hs) zero d first = rw first.named refl
rest_at name (h ∷ hs) (suc at) d first =
    rw (first.before 0 (omega arith)) (ap (λ (rest : List Header). h ∷ rest)
    (rest_at name hs at d (behind name h hs at d first)))

first_at : (name : List ℕ) (hs : List Header) (at : ℕ) (d : Header) → position (is_named name) hs ≡ Some at
    → IsFirst name hs at d
first_at name hs at d found =
    let parts = position-Some (is_named name) hs at d found in
    record { within = parts.0; named = parts.1; before = parts.2 }

-- the first header of a name has its first value, and the others are left
pub taken_value : (name : List ℕ) (hs : List Header) (at : ℕ) (d : Header) → position (is_named name) hs ≡ Some at
    → value_of name hs ≡ Some (get_or hs at d).value
taken_value name hs at d found = value_at name hs at d (first_at name hs at d found)

-- the first header of a name is taken out at its place
pub taken_rest : (name : List ℕ) (hs : List Header) (at : ℕ) (d : Header) → position (is_named name) hs ≡ Some at
    → without_first name hs ≡ remove hs at
taken_rest name hs at d found = rest_at name hs at d (first_at name hs at d found)

-- ---- a name that no header has

record IsMissing (name : List ℕ) (hs : List Header) : Type 0 where
  value : value_of name hs ≡ None
  rest : without_first name hs ≡ hs

missing_behind : (name : List ℕ) (h : Header) (hs : List Header) → is_named name h ≡ false → IsMissing name hs
    → IsMissing name (h ∷ hs)
missing_behind name h hs other missing = record { value = rw other missing.value; rest = rw (other, missing.rest) refl }

missing_in : (name : List ℕ) (hs : List Header) → length hs ≤ position_or_len (is_named name) hs → IsMissing name hs
missing_in name [] far = record { value = refl; rest = refl }
missing_in name (h ∷ hs) far = elim (is_named name h) as
    (λ b. is_named name h ≡ b → length (h ∷ hs) ≤ cond (not b) (1 + position_or_len (is_named name) hs) 0
    → IsMissing name (h ∷ hs)) [
      | true ↦ λ is le. absurd (omega (arith, le))
      | false ↦ λ is le. missing_behind name h hs is (missing_in name hs (omega (arith, le)))
    ] refl far

none_before : (b : Bool) (at : ℕ) → cond b (Some at) None ≡ None → b ≡ false
none_before true at e = absurd (let k : Some at ≡ None = e in cc)
none_before false at e = refl

missing : (name : List ℕ) (hs : List Header) → position (is_named name) hs ≡ None → IsMissing name hs
missing name hs none =
    missing_in name hs (ltb-false _ _ (none_before (nat_lt (position_or_len (is_named name) hs) (length hs)) _ none))

-- no value of that name is there, and nothing is taken
pub missing_value : (name : List ℕ) (hs : List Header) → position (is_named name) hs ≡ None → value_of name hs ≡ None
missing_value name hs none = (missing name hs none).value

-- where no header has a name, none is taken out
pub missing_rest : (name : List ℕ) (hs : List Header) → position (is_named name) hs ≡ None → without_first name hs ≡ hs
missing_rest name hs none = (missing name hs none).rest

-- ---- what is left

still_first : (name other : List ℕ) (h : Header) (hs : List Header) (b : Bool) → is_named name h ≡ b
    → bytes_eq name other ≡ false
    → value_of other (without_first name hs) ≡ value_of other hs
    → value_of other (cond b hs (h ∷ without_first name hs)) ≡ value_of other (h ∷ hs)
still_first name other h hs true is apart rest = rw (same_text h.name name is, apart) refl
still_first name other h hs false is apart rest =
    ap (λ (value : Option (List ℕ)). cond (bytes_eq h.name other) (Some h.value) value) rest

-- the first value of another name
pub behind_one : (name other : List ℕ) (hs : List Header) → bytes_eq name other ≡ false
    → value_of other (without_first name hs) ≡ value_of other hs
behind_one name other [] apart = refl
behind_one name other (h ∷ hs) apart =
    still_first name other h hs (is_named name h) refl apart (behind_one name other hs apart)

-- two headers taken out leave the value of a third name
pub behind_two : (a b other : List ℕ) (hs : List Header) → bytes_eq a other ≡ false → bytes_eq b other ≡ false
    → value_of other (without_first b (without_first a hs)) ≡ value_of other hs
behind_two a b other hs first second = behind_one b other (without_first a hs) second ∙ behind_one a other hs first

-- three headers taken out leave the value of a fourth name
pub behind_three : (a b c other : List ℕ) (hs : List Header) → bytes_eq a other ≡ false → bytes_eq b other ≡ false
    → bytes_eq c other ≡ false
    → value_of other (without_first c (without_first b (without_first a hs))) ≡ value_of other hs
behind_three a b c other hs first second third = behind_one c other (without_first b (without_first a hs)) third
    ∙ behind_two a b other hs first second

still_own : (name : List ℕ) (h : Header) (hs : List Header) (b : Bool) → is_named name h ≡ b
    → is_own (header name []) ≡ false
    → filter is_own (without_first name hs) ≡ filter is_own hs
    → filter is_own (cond b hs (h ∷ without_first name hs)) ≡ filter is_own (h ∷ hs)
still_own name h hs true is used rest =
    let other : is_own h ≡ false = rw (same_text h.name name is) used in rw other refl
still_own name h hs false is used rest = ap (λ (own : List Header). cond (is_own h) (h ∷ own) own) rest

-- the headers that MESSAGEs take over, where the name isn't one of theirs
pub own_behind : (name : List ℕ) (hs : List Header) → is_own (header name []) ≡ false
    → filter is_own (without_first name hs) ≡ filter is_own hs
own_behind name [] used = refl
own_behind name (h ∷ hs) used = still_own name h hs (is_named name h) refl used (own_behind name hs used)

-- ---- two headers that are required

-- where neither is missing, the second is there
pub second_is_there : (a b : Option (List ℕ)) → (is_none a || (is_none b || false)) ≡ false → is_some b ≡ true
second_is_there (Some a) (Some b) none = refl
second_is_there (Some a) None none = absurd (let k : true ≡ false = none in cc)
second_is_there None b none = absurd (let k : true ≡ false = none in cc)

-- ---- a body

-- what another frame than a SEND asks isn't told by its body
pub asked_alike : (c : Command) (hs : List Header) (body other : List ℕ) → is_send c ≡ false
    → asked (frame c hs body) ≡ asked (frame c hs other)
asked_alike Send hs body other e = absurd cc
asked_alike _ hs body other e = refl
