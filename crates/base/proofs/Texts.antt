-- The texts of entities.
use Rattle.std.proofs.Common.{◌≡◌, ℕ, ◌<◌, ◌≤◌, List, ◌++◌, length, get_or, arith}
use Rattle.std.specs.Str.{IsUtf8}
use Rattle.std.proofs.lemmas.List.{length-append}
use Rattle.std.proofs.lemmas.Str.{lead_after_ascii}
use Rattle.base.specs.declared.entity.Kind.{Kind}
use Rattle.base.specs.declared.entity.Kind.TheVariants.{Order, Stock, Account}
use Rattle.base.specs.Entity.{prefix_of}

-- what follows the prefix of a text doesn't begin inside a character
lead_after_prefix : (kind : Kind) (key : List ℕ) → IsUtf8 (prefix_of kind ++ key)
    → length (prefix_of kind) < length (prefix_of kind ++ key)
    → 128 ≤ get_or (prefix_of kind ++ key) (length (prefix_of kind)) 0
    → 192 ≤ get_or (prefix_of kind ++ key) (length (prefix_of kind)) 0
lead_after_prefix Order key is = lead_after_ascii (prefix_of Order ++ key) 5 is (omega arith)
lead_after_prefix Stock key is = lead_after_ascii (prefix_of Stock ++ key) 5 is (omega arith)
lead_after_prefix Account key is = lead_after_ascii (prefix_of Account ++ key) 7 is (omega arith)

-- so a text may be cut there
pub cut_after_prefix : (kind : Kind) (text prefix : List ℕ) → prefix ≡ prefix_of kind → (key : List ℕ)
    → text ≡ prefix_of kind ++ key
    → IsUtf8 text → 0 < length prefix → (length prefix ≤ length text)
    × (length prefix < length text → 128 ≤ get_or text (length prefix) 0 → 192 ≤ get_or text (length prefix) 0)
cut_after_prefix kind text prefix start key whole is some =
    rw (start, whole) (omega (arith, length-append (prefix_of kind) key), lead_after_prefix kind key (rw whole at is))
