-- When entities and pairs are the same, and their order.
use Rattle.std.specs.Prelude.{◌≡◌, Bool, ◌&&◌, refl}
use Rattle.std.specs.declared.cmp.Ordering.{Ordering}
use Rattle.std.specs.Ordering.{nat_cmp, then_cmp, on, is_eq, as_partial_cmp}
use Rattle.std.specs.Cmp.{IsEquivalence, IsPartialOrder, IsTotalOrder, on_equiv, and_equiv, then_total, on_total}
use Rattle.std.specs.Cmp.{both_tied}
use Rattle.std.specs.Cmp.{partial_order_from_agreeing_total}
use Rattle.std.specs.Cmp.Lexicographic.{slice_cmp, on_texts, on_texts_equal, texts_ties}
use Rattle.std.specs.Str.{bytes_eq}
use Rattle.base.specs.Entity.{Entity, text_of}
use Rattle.base.specs.declared.pair.Pair.{Pair}

-- whether two entities are one: their texts are equal
unfoldable pub same_entity : Entity → Entity → Bool
same_entity a b = bytes_eq (text_of a) (text_of b)

-- entities by the octets of their texts
abbrev pub entity_cmp : Entity → Entity → Ordering
entity_cmp = on text_of (slice_cmp nat_cmp)

-- whether two pairs are one: the same sender and the same receiver
unfoldable pub same_pair : Pair → Pair → Bool
same_pair p q = same_entity p.from q.from && same_entity p.to q.to

-- pairs by their senders, and then by their receivers
abbrev pub pair_cmp : Pair → Pair → Ordering
pair_cmp = then_cmp (on (λ p. p.from) entity_cmp) (on (λ p. p.to) entity_cmp)

-- ---- what comparisons owe

pub same_entity-equivalence : IsEquivalence same_entity
unfolding same_entity
same_entity-equivalence = on_texts_equal text_of

pub entity_cmp-total : IsTotalOrder entity_cmp
entity_cmp-total = on_texts text_of

pub same_entity-ties : (a b : Entity) → same_entity a b ≡ is_eq (entity_cmp a b)
unfolding same_entity
same_entity-ties a b = texts_ties (text_of a) (text_of b)

pub entity_cmp-partial : IsPartialOrder same_entity (as_partial_cmp entity_cmp)
entity_cmp-partial = partial_order_from_agreeing_total entity_cmp entity_cmp-total (λ a b. refl) same_entity-ties

pub same_pair-equivalence : IsEquivalence same_pair
unfolding same_pair
same_pair-equivalence = and_equiv (on_equiv (λ (p : Pair). p.from) same_entity-equivalence)
    (on_equiv (λ (p : Pair). p.to) same_entity-equivalence)

pub pair_cmp-total : IsTotalOrder pair_cmp
pair_cmp-total =
    then_total (on_total (λ (p : Pair). p.from) entity_cmp-total) (on_total (λ (p : Pair). p.to) entity_cmp-total)

pub same_pair-ties : (p q : Pair) → same_pair p q ≡ is_eq (pair_cmp p q)
unfolding same_pair
same_pair-ties p q = both_tied _ _ (entity_cmp p.from q.from) (entity_cmp p.to q.to) (same_entity-ties p.from q.from)
    (same_entity-ties p.to q.to)

pub pair_cmp-partial : IsPartialOrder same_pair (as_partial_cmp pair_cmp)
pair_cmp-partial = partial_order_from_agreeing_total pair_cmp pair_cmp-total (λ p q. refl) same_pair-ties
