-- Examples: what reading a key alone answers.
use Rattle.std.proofs.Common.{◌∷◌, [], refl}
use Rattle.std.specs.Prelude.{codes, Ok, Err}
use Rattle.std.specs.Str.{is_utf8, chars}
use Rattle.base.specs.declared.fault.EntityFault.TheVariants.{BadKey, BadKind, Memory}
use Rattle.base.specs.Entity.{IsKeyReading}

-- the key `a/b` is read as it is, and as no other, unless memory runs out
a_key_is_read : (IsKeyReading (codes "a/b") (Ok (codes "a/b"))) × (IsKeyReading (codes "a/b") (Err Memory))
    × (IsKeyReading (codes "a/b") (Ok (codes "a")) → ⊥)
unfolding is_utf8 chars lib.Utf8.encode
a_key_is_read = ((refl, refl), tt, λ h. let same = h.0 in cc)

-- it is no bad key, and no key has a kind to be refused for
a_key_is_not_refused : (IsKeyReading (codes "a/b") (Err BadKey) → ⊥) × (IsKeyReading (codes "a/b") (Err BadKind) → ⊥)
unfolding is_utf8 chars lib.Utf8.encode
a_key_is_not_refused = (λ h. cc, λ h. h)

-- the empty text is a bad key, and so is one with NUL
bad_keys_are_refused : (IsKeyReading [] (Err BadKey)) × (IsKeyReading (97 ∷ 0 ∷ []) (Err BadKey))
    × (IsKeyReading [] (Ok []) → ⊥)
unfolding is_utf8 chars lib.Utf8.encode
bad_keys_are_refused = (refl, refl, λ h. let is = h.1 in cc)
