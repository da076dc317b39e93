-- A compact text is read as the value that it was written for.
use Rattle.std.proofs.Common.{◌≡◌, ◌≤◌, List, [], Option, Some, sym, ap, ◌∙◌, append-nil}
use Rattle.std.specs.Prelude.{option_and_then}
use Rattle.json.specs.Token.{Token}
use Rattle.json.specs.Lex.{tokens}
use Rattle.json.specs.Json as json
use Rattle.json.specs.Tree.{json_tokens, depth, HasNumbers}
use Rattle.json.proofs.Printed.Tokens.{tokens-print}
use Rattle.json.proofs.Printed.Trees.{value-json_tokens, ArePrintable-json_tokens}
use Rattle.serde_json.specs.Data.{Data}
use Rattle.serde_json.specs.Read.{read, of_json, max_depth}
use Rattle.serde_json.specs.Written.{outline, compact_text}
use Rattle.serde_json.proofs.Texts.{print-outline}

-- the value that tokens are
abbrev value_of_tokens : List Token → Option Data
value_of_tokens ts = option_and_then of_json (option_and_then (λ p. json.if_last p.0 p.1) (json.value max_depth ts))

pub read-compact_text : (d : Data) → HasNumbers (outline d) → depth (outline d) ≤ max_depth
    → of_json (outline d) ≡ Some d → read (compact_text d) ≡ Some d
read-compact_text d numbers shallow same =
    ap value_of_tokens (ap tokens (sym (print-outline d))
    ∙ tokens-print (json_tokens (outline d)) (ArePrintable-json_tokens (outline d) numbers)
    ∙ sym (append-nil (json_tokens (outline d))))
    ∙ ap (option_and_then of_json) (ap (option_and_then (λ p. json.if_last p.0 p.1))
    (value-json_tokens (outline d) max_depth [] shallow))
    ∙ same
