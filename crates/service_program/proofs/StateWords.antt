-- The words of a state, octet by octet.
use Rattle.std.proofs.Common.{◌≡◌, ℕ, ◌+◌, ◌<◌, List, [], ◌∷◌, ◌++◌, length, get_or, take, ap, ◌∙◌}
use Rattle.std.specs.List.{flat_map}
use Rattle.std.proofs.lemmas.List.{take_more, append-nil}
use Rattle.std.proofs.lemmas.List.Concat.{flat_map-append}
use Rattle.service_program.specs.Rows.{on_one_line}

-- one octet more
pub words_more : (words : List ℕ) (i : ℕ) → i < length words
    → flat_map on_one_line (take (i + 1) words) ≡ flat_map on_one_line (take i words) ++ on_one_line (get_or words i 0)
words_more words i lt = rw (take_more words i 0 lt)
    (flat_map-append on_one_line (take i words) (get_or words i 0 ∷ [])
    ∙ ap (λ (x : List ℕ). flat_map on_one_line (take i words) ++ x) (append-nil (on_one_line (get_or words i 0))))
