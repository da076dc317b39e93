-- A text names one entity, and the tests for sameness decide equality.
use Rattle.std.proofs.Common.{ℕ, List, ◌++◌, get_or, arith, ◌≡◌, refl, true, Result, Ok, Err, ap, sym, ◌∙◌}
use Rattle.std.specs.Prelude.{IfOk, IsOkUnless}
use Rattle.std.proofs.lemmas.Bool.{true≢false}
use Rattle.std.specs.Bool.{Decides}
use Rattle.std.proofs.lemmas.Bool.Decides.{Decides-and, Decides-like}
use Rattle.std.proofs.lemmas.Slice.Eq.{bytes_eq-Decides}
use Rattle.base.specs.declared.entity.Kind.{Kind}
use Rattle.base.specs.declared.entity.Kind.TheVariants.{Order, Stock, Account}
use Rattle.base.specs.declared.pair.Pair.{Pair}
use Rattle.base.specs.Entity.{Entity, prefix_of, text_of, is_key, IsEntity, IsReading}
use Rattle.base.specs.declared.fault.EntityFault.{EntityFault}
use Rattle.base.specs.declared.fault.EntityFault.TheVariants.{BadKey, BadKind, Memory}
use Rattle.base.specs.Order.{same_entity, same_pair}

abbrev entity : Kind → List ℕ → Entity
entity kind key = record { kind = kind; key = key }

-- its first octet
abbrev first : List ℕ → ℕ
first text = get_or text 0 0

-- the kind and the key that a text has
parts : (j k : Kind) (x y : List ℕ) → prefix_of j ++ x ≡ prefix_of k ++ y → (j ≡ k) × (x ≡ y)
parts Order Order x y e = (refl, cc)
parts Order Stock x y e = absurd (omega (arith, ap first e))
parts Order Account x y e = absurd (omega (arith, ap first e))
parts Stock Order x y e = absurd (omega (arith, ap first e))
parts Stock Stock x y e = (refl, cc)
parts Stock Account x y e = absurd (omega (arith, ap first e))
parts Account Order x y e = absurd (omega (arith, ap first e))
parts Account Stock x y e = absurd (omega (arith, ap first e))
parts Account Account x y e = (refl, cc)

-- two entities with one text are one
pub text_of-injective : (a b : Entity) → text_of a ≡ text_of b → a ≡ b
text_of-injective a b e =
    let p = parts a.kind b.kind a.key b.key e in
    ap (λ (k : Kind). entity k a.key) p.0 ∙ ap (λ (x : List ℕ). entity b.kind x) p.1

pub same_entity-Decides : (a b : Entity) → Decides (same_entity a b) (a ≡ b)
unfolding same_entity
same_entity-Decides a b =
    Decides-like (same_entity a b) (text_of-injective a b) (ap text_of) (bytes_eq-Decides (text_of a) (text_of b))

abbrev pair : Entity → Entity → Pair
pair a b = record { from = a; to = b }

pub same_pair-Decides : (p q : Pair) → Decides (same_pair p q) (p ≡ q)
unfolding same_pair
same_pair-Decides p q = Decides-like (same_pair p q)
    (λ h. ap (λ (x : Entity). pair x p.to) h.0 ∙ ap (λ (x : Entity). pair q.from x) h.1)
    (λ e. (ap (λ n. n.from) e, ap (λ n. n.to) e))
    (Decides-and (same_entity p.from q.from) (same_entity p.to q.to) (same_entity-Decides p.from q.from)
    (same_entity-Decides p.to q.to))

-- reading an entity's text gives it back, unless memory is refused
pub read_back : (e : Entity) (answer : Result Entity EntityFault) → IsEntity e → IsReading (text_of e) answer
    → IsOkUnless answer Memory
    × IfOk answer (λ found. found ≡ e)
read_back e (Ok found) is reads = (tt, text_of-injective found e reads.0)
read_back e (Err BadKey) is reads =
    let same : reads.0 ≡ e = text_of-injective reads.0 e reads.1 in
    let key : is_key reads.0.key ≡ true = ap (λ (x : Entity). is_key x.key) same ∙ is in
    absurd (true≢false (sym key ∙ reads.2))
read_back e (Err BadKind) is reads = absurd (reads e refl)
read_back e (Err Memory) is reads = (refl, tt)
