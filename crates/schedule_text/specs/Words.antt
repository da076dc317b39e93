-- The words of a line: what is read, and what is printed.
use Rattle.std.specs.Prelude.{ℕ, ◌==◌, List, [], ◌∷◌, codes, Option, Some, None, if◌then◌else◌}
use Rattle.std.specs.List.{slice_split, flat_map}
use Rattle.std.specs.Option.{option_map}

-- the value in f, where there is one
infixl 10 ◌>>=◌
abbrev pub ◌>>=◌ : {A B : Type 0} → Option A → (A → Option B) → Option B
(Some x) >>= f = f x
None >>= f = None

-- the octet that a letter behind a backslash means: n means LF, r CR, s a space, a backslash itself
abbrev pub meant_by : ℕ → Option ℕ
meant_by letter =
    if letter == 92 then Some 92 else
    if letter == 110 then Some 10 else
    if letter == 114 then Some 13 else
    if letter == 115 then Some 32 else None

-- an octet and what follows it, where both mean something
abbrev pub octet_then : Option ℕ → Option (List ℕ) → Option (List ℕ)
octet_then None rest = None
octet_then (Some o) None = None
octet_then (Some o) (Some rest) = Some (o ∷ rest)

-- What a text with escapes means. An empty text means itself; a backslash and a letter mean what the letter means, and
-- what follows; any other octet means itself, and what follows. A backslash at the end or before another letter means
-- nothing.
abbrev pub unescaped : List ℕ → Option (List ℕ)
unescaped [] = Some []
unescaped (o ∷ []) = if o == 92 then None else Some (o ∷ [])
unescaped (o ∷ next ∷ text) =
    if o == 92 then octet_then (meant_by next) (unescaped text) else octet_then (Some o) (unescaped (next ∷ text))

-- the word that stands between two spaces: what the text there means; an empty text is no word
abbrev pub word_of : List ℕ → Option (List ℕ)
word_of [] = None
word_of (o ∷ os) = unescaped (o ∷ os)

-- the words of the parts of a line
abbrev pub words_in : List (List ℕ) → Option (List (List ℕ))
words_in [] = Some []
words_in (part ∷ parts) = word_of part >>= λ word. option_map (λ words. word ∷ words) (words_in parts)

-- the words of a line, which single spaces separate
abbrev pub words_of : List ℕ → Option (List (List ℕ))
words_of line = words_in (slice_split (λ o. o == 32) line)

-- how an octet of a word is printed
abbrev pub spelled : ℕ → List ℕ
spelled o =
    if o == 92 then codes "\\\\" else
    if o == 10 then codes "\\n" else
    if o == 13 then codes "\\r" else
    if o == 32 then codes "\\s" else o ∷ []

-- a word with its escapes
abbrev pub escaped : List ℕ → List ℕ
escaped word = flat_map spelled word
