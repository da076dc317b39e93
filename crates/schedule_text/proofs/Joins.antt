-- Words that are read piece by piece.
use Rattle.std.proofs.Common.{◌≡◌, ℕ, List, [], ◌∷◌, ◌++◌, false, refl, sym, ap, ◌∙◌, Option, Some, None, eqb}
use Rattle.std.proofs.Common.{append_assoc, length}
use Rattle.std.specs.Option.{option_map}
use Rattle.schedule_text.specs.declared.fault.LineFault.{LineFault}
use Rattle.schedule_text.specs.declared.fault.LineFault.TheVariants.{Bad, Memory}
use Rattle.schedule_text.specs.Reading.{MayFail}
use Rattle.schedule_text.specs.Cuts.{Lacks}
use Rattle.schedule_text.specs.Words.{◌>>=◌, meant_by, unescaped, word_of, words_in, words_of}
use Rattle.schedule_text.proofs.Cuts.{split_at, split_none, unescaped_front, unescaped_plain, unescaped_escape}
use Rattle.schedule_text.proofs.Cuts.{unescaped_bad}

joined : {A : Type 0} (xs ys : List A) (o : Option (List A))
    → option_map (λ w. xs ++ w) (option_map (λ w. ys ++ w) o) ≡ option_map (λ w. (xs ++ ys) ++ w) o
joined xs ys None = refl
joined xs ys (Some w) = ap Some (sym (append_assoc xs ys w))

-- a part that isn't empty is read octet by octet
pub word_is : (part : List ℕ) → eqb (length part) 0 ≡ false → word_of part ≡ unescaped part
word_is [] some = absurd cc
word_is (o ∷ os) some = refl

-- nothing is read yet
pub nothing_read : {A : Type 0} (done : List A) (whole : Option (List A)) → done ≡ []
    → option_map (λ w. done ++ w) whole ≡ whole
nothing_read done None empty = refl
nothing_read done (Some w) empty = ap (λ d. Some (d ++ w)) empty

-- one escape more
pub word_goes_on : (done before more rest after : List ℕ) (letter o : ℕ) (whole : Option (List ℕ)) → Lacks 92 before
    → rest ≡ before ++ 92 ∷ after → after ≡ letter ∷ more → meant_by letter ≡ Some o
    → option_map (λ w. done ++ w) (unescaped rest) ≡ whole
    → option_map (λ w. ((done ++ before) ++ o ∷ []) ++ w) (unescaped more) ≡ whole
word_goes_on done before more rest after letter o whole lacks cut first known told =
    let here : unescaped rest ≡ option_map (λ w. before ++ w) (option_map (λ w. o ∷ w) (unescaped more)) =
    ap unescaped (cut ∙ ap (λ t. before ++ 92 ∷ t) first) ∙ unescaped_front before (92 ∷ letter ∷ more) lacks
    ∙ ap (option_map (λ w. before ++ w)) (unescaped_escape letter o more known) in
    sym (joined (done ++ before) (o ∷ []) (unescaped more))
    ∙ sym (joined done before (option_map (λ w. o ∷ w) (unescaped more)))
    ∙ ap (option_map (λ w. done ++ w)) (sym here) ∙ told

-- no escape is left
pub word_ends : (done rest : List ℕ) (whole : Option (List ℕ)) → Lacks 92 rest
    → option_map (λ w. done ++ w) (unescaped rest) ≡ whole
    → whole ≡ Some (done ++ rest)
word_ends done rest whole lacks told = sym told ∙ ap (option_map (λ w. done ++ w)) (unescaped_plain rest lacks)

-- a backslash begins no escape
pub word_is_bad : (done before rest after : List ℕ) (whole : Option (List ℕ)) → Lacks 92 before
    → rest ≡ before ++ 92 ∷ after
    → ((letter : ℕ) (more : List ℕ) → after ≡ letter ∷ more → meant_by letter ≡ None)
    → option_map (λ w. done ++ w) (unescaped rest) ≡ whole → whole ≡ None
word_is_bad done before rest after whole lacks cut bad told =
    sym told ∙ ap (option_map (λ w. done ++ w))
    (ap unescaped cut ∙ unescaped_front before (92 ∷ after) lacks
    ∙ ap (option_map (λ w. before ++ w)) (unescaped_bad after bad))

-- the words of a line that a space cuts
words_at : (part after : List ℕ) → Lacks 32 part
    → words_of (part ++ 32 ∷ after) ≡ (word_of part >>= λ word. option_map (λ words. word ∷ words) (words_of after))
words_at part after lacks = ap words_in (split_at 32 part after lacks)

words_none : (part : List ℕ) → Lacks 32 part → words_of part ≡ (word_of part >>= λ word. Some (word ∷ []))
words_none part lacks = ap words_in (split_none 32 part lacks)

-- one word more
pub words_go_on : (done : List (List ℕ)) (part rest after word : List ℕ) (whole : Option (List (List ℕ)))
    → Lacks 32 part
    → rest ≡ part ++ 32 ∷ after → word_of part ≡ Some word
    → option_map (λ words. done ++ words) (words_of rest) ≡ whole
    → option_map (λ words. (done ++ word ∷ []) ++ words) (words_of after) ≡ whole
words_go_on done part rest after word whole lacks cut read told =
    let here : words_of rest ≡ option_map (λ words. word ∷ words) (words_of after) =
    ap words_of cut ∙ words_at part after lacks
    ∙ ap (λ found. found >>= λ word. option_map (λ words. word ∷ words) (words_of after)) read in
    sym (joined done (word ∷ []) (words_of after)) ∙ ap (option_map (λ words. done ++ words)) (sym here) ∙ told

pub words_are_bad : (done : List (List ℕ)) (part rest after : List ℕ) (whole : Option (List (List ℕ))) → Lacks 32 part
    → rest ≡ part ++ 32 ∷ after → word_of part ≡ None
    → option_map (λ words. done ++ words) (words_of rest) ≡ whole → whole ≡ None
words_are_bad done part rest after whole lacks cut bad told =
    sym told ∙ ap (option_map (λ words. done ++ words))
    (ap words_of cut ∙ words_at part after lacks
    ∙ ap (λ found. found >>= λ word. option_map (λ words. word ∷ words) (words_of after)) bad)

-- the last word
pub words_end : (done : List (List ℕ)) (rest word : List ℕ) (whole : Option (List (List ℕ))) → Lacks 32 rest
    → word_of rest ≡ Some word
    → option_map (λ words. done ++ words) (words_of rest) ≡ whole → whole ≡ Some (done ++ word ∷ [])
words_end done rest word whole lacks read told =
    sym told ∙ ap (option_map (λ words. done ++ words)) (words_none rest lacks
    ∙ ap (λ found. found >>= λ word. Some (word ∷ [])) read)

pub words_end_badly : (done : List (List ℕ)) (rest : List ℕ) (whole : Option (List (List ℕ))) → Lacks 32 rest
    → word_of rest ≡ None
    → option_map (λ words. done ++ words) (words_of rest) ≡ whole → whole ≡ None
words_end_badly done rest whole lacks bad told =
    sym told ∙ ap (option_map (λ words. done ++ words)) (words_none rest lacks
    ∙ ap (λ found. found >>= λ word. Some (word ∷ [])) bad)

-- what is bad of a part is bad of the whole
pub bad_passes : {Y W : Type 0} (fault : LineFault) (part : Option Y) (whole : Option W) → MayFail fault part
    → (part ≡ None → whole ≡ None)
    → MayFail fault whole
bad_passes Bad part whole read passes = passes read
bad_passes Memory part whole read passes = tt
