-- Octets that a writer takes piece by piece.
use Rattle.std.proofs.Common.{◌≡◌, ℕ, ◌+◌, ◌<◌, List, [], ◌∷◌, ◌++◌, length, get_or, take, drop, Option, Some, None}
use Rattle.std.proofs.Common.{sym, ap, subst, ◌∙◌}
use Rattle.std.proofs.Common.{append_assoc, take-append-drop}
use Rattle.std.specs.List.{flat_map}
use Rattle.std.specs.Prelude.{Result, Ok, Err, OnOk, OnErr}
use Rattle.std.proofs.lemmas.List.{take_more, append-nil}
use Rattle.std.proofs.lemmas.List.Concat.{flat_map-append}
use Rattle.std.proofs.lemmas.Result.{on_err_weaker}
use Rattle.std.specs.Io.KnownBytes.{Appends, Keeps}
use Rattle.streams.specs.Written.{AppendsPart}

-- two pieces are one
pub appends_then : (a b c : Option (List ℕ)) (x y : List ℕ) → Appends a b x → Appends b c y → Appends a c (x ++ y)
appends_then None b c x y first second = tt
appends_then (Some xs) None c x y first second = absurd first
appends_then (Some xs) (Some ys) None x y first second = absurd second
appends_then (Some xs) (Some ys) (Some zs) x y first second = second ∙ ap (λ t. t ++ y) first ∙ append_assoc xs x y

-- nothing is taken
pub appends_nothing : (a : Option (List ℕ)) → Appends a a []
appends_nothing None = tt
appends_nothing (Some xs) = sym (append-nil xs)

-- what is kept stays taken
pub appends_keeps : (a b c : Option (List ℕ)) (x : List ℕ) → Appends a b x → Keeps b c → Appends a c x
appends_keeps None b c x first kept = tt
appends_keeps (Some xs) None c x first kept = absurd first
appends_keeps (Some xs) (Some ys) None x first kept = absurd kept
appends_keeps (Some xs) (Some ys) (Some zs) x first kept = kept ∙ first

-- three pieces
pub appends_three : (a b c d : Option (List ℕ)) (x y z : List ℕ) → Appends a b x → Appends b c y → Appends c d z
    → Appends a d (x ++ y ++ z)
appends_three a b c d x y z first second third =
    appends_then a c d (x ++ y) z (appends_then a b c x y first second) third

-- what holds anyway holds of an Ok
pub on_ok_always : {T E P : Type 0} (r : Result T E) → P → OnOk r P
on_ok_always (Ok x) p = p
on_ok_always (Err e) p = tt

-- a beginning of the octets is one of more octets
pub part_first : (a b : Option (List ℕ)) (x y : List ℕ) → AppendsPart a b x → AppendsPart a b (x ++ y)
part_first a b x y p = record {
  part = p.part;
  rest = p.rest ++ y;
  whole = ap (λ t. t ++ y) p.whole ∙ append_assoc p.part p.rest y;
  appended = p.appended;
}

-- octets, and then a beginning of others
pub part_then : (a b c : Option (List ℕ)) (x y : List ℕ) → Appends a b x → AppendsPart b c y → AppendsPart a c (x ++ y)
part_then a b c x y first p = record {
  part = x ++ p.part;
  rest = p.rest;
  whole = ap (λ t. x ++ t) p.whole ∙ sym (append_assoc x p.part p.rest);
  appended = appends_then a b c x p.part first p.appended;
}

-- all of the octets
pub part_whole : (a b : Option (List ℕ)) (x : List ℕ) → Appends a b x → AppendsPart a b x
part_whole a b x p = record { part = x; rest = []; whole = sym (append-nil x); appended = p }

-- a part, and then nothing more
pub part_keeps : (a b c : Option (List ℕ)) (x : List ℕ) → AppendsPart a b x → Keeps b c → AppendsPart a c x
part_keeps a b c x p kept =
    record { part = p.part; rest = p.rest; whole = p.whole; appended = appends_keeps a b c p.part p.appended kept }

-- what holds anyway holds of an Err
pub on_err_always : {T E P : Type 0} (r : Result T E) → P → OnErr r P
on_err_always (Ok x) p = tt
on_err_always (Err e) p = p

-- ---- three writes

pub first_of_three : (a b : Option (List ℕ)) (x y z : List ℕ) → AppendsPart a b x → AppendsPart a b (x ++ y ++ z)
first_of_three a b x y z p = part_first a b (x ++ y) z (part_first a b x y p)

pub second_of_three : (a b c : Option (List ℕ)) (x y z : List ℕ) → Appends a b x → AppendsPart b c y
    → AppendsPart a c (x ++ y ++ z)
second_of_three a b c x y z first p = part_first a c (x ++ y) z (part_then a b c x y first p)

pub third_of_three : {T E : Type 0} (a b c d : Option (List ℕ)) (x y z : List ℕ) (r : Result T E) → Appends a b x
    → Appends b c y
    → OnErr r (AppendsPart c d z) → OnErr r (AppendsPart a d (x ++ y ++ z))
third_of_three a b c d x y z r first second third =
    on_err_weaker r (λ p. part_then a c d (x ++ y) z (appends_then a b c x y first second) p) third

-- ---- one write after another

-- one item more
flat_more : {X : Type 0} (f : X → List ℕ) (xs : List X) (i : ℕ) (d x : X) → i < length xs → x ≡ get_or xs i d
    → flat_map f (take (i + 1) xs) ≡ flat_map f (take i xs) ++ f x
flat_more f xs i d x lt at = rw (take_more xs i d lt)
    (flat_map-append f (take i xs) (get_or xs i d ∷ [])
    ∙ ap (λ (t : List ℕ). flat_map f (take i xs) ++ t) (append-nil (f (get_or xs i d)))
    ∙ ap (λ y. flat_map f (take i xs) ++ f y) (sym at))

pub appends_more : {X : Type 0} (f : X → List ℕ) (xs : List X) (i : ℕ) (d x : X) (a b c : Option (List ℕ))
    → i < length xs
    → x ≡ get_or xs i d → Appends a b (flat_map f (take i xs)) → Appends b c (f x)
    → Appends a c (flat_map f (take (i + 1) xs))
appends_more f xs i d x a b c lt at so_far next =
    subst (Appends a c) (sym (flat_more f xs i d x lt at)) (appends_then a b c (flat_map f (take i xs)) (f x) so_far
    next)

-- a beginning that ends within an item is one of all
pub part_of_all : {X : Type 0} (f : X → List ℕ) (xs : List X) (i : ℕ) (d x : X) (a b c : Option (List ℕ))
    → i < length xs
    → x ≡ get_or xs i d → Appends a b (flat_map f (take i xs)) → AppendsPart b c (f x) → AppendsPart a c (flat_map f xs)
part_of_all f xs i d x a b c lt at so_far p =
    let behind = flat_map f (drop (i + 1) xs) in
    let upto : flat_map f (take i xs) ++ f x ++ behind ≡ flat_map f xs =
    ap (λ t. t ++ behind) (sym (flat_more f xs i d x lt at))
    ∙ sym (flat_map-append f (take (i + 1) xs) (drop (i + 1) xs))
    ∙ ap (flat_map f) (take-append-drop (i + 1) xs) in
    subst (AppendsPart a c) upto (second_of_three a b c (flat_map f (take i xs)) (f x) behind so_far p)
