use Rattle.std.proofs.Common.{rules}
use Rattle.std.proofs.lemmas.Str.{is_utf8-from_IsUtf8}
use Rattle.base.proofs.key.is_key.Goals as goal

-- a `&str` is UTF-8
pub returns-then-text-le-MAX_KEY : goal.returns-then-text-le-MAX_KEY
returns-then-text-le-MAX_KEY c = rw (is_utf8-from_IsUtf8 c.args.text.now c.utf8.text) (search rules)
