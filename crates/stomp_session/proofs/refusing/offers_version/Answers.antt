use Rattle.std.proofs.Common.{ℕ, List, rules, lit<, codes}
use Rattle.std.specs.Str.{bytes_eq}
use Rattle.std.proofs.lemmas.Iterator.Search.{any_from_yields_List}
use Rattle.std.proofs.lemmas.Iterator.Splits.{YieldsList-from_str_split}
use Rattle.stomp_session.proofs.refusing.offers_version.Goals as goal

pub returns : goal.returns
returns c = any_from_yields_List (λ (item : List ℕ). bytes_eq item (codes "1.2")) _ _ _ c.any.ensures.ran
    (YieldsList-from_str_split 44 c.args.versions.now (lit< tt) c.split.ensures.text c.split.ensures.has_more
    c.split.ensures.pattern)
    (λ x b q called. search rules)
