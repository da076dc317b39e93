-- How many letters, by the kind of their receiver.
use Rattle.std.specs.Prelude.{ℕ, Bool, true, false}
use Rattle.base.specs.declared.entity.Kind.{Kind}
use Rattle.base.specs.declared.entity.Kind.TheVariants.{Order, Stock, Account}
use Rattle.envelope.specs.declared.message.Letter.{Letter}
use Rattle.service_workers.specs.declared.counts.Counts.{Counts}

-- whether the two are one kind
abbrev pub is_kind : Kind → Kind → Bool
is_kind Order Order = true
is_kind Stock Stock = true
is_kind Account Account = true
is_kind _ _ = false

-- whether a letter is to a receiver of a kind
abbrev pub is_to : Kind → Letter → Bool
is_to kind l = is_kind l.pair.to.kind kind

-- how many there are to receivers of a kind
abbrev pub count_of : Kind → Counts → ℕ
count_of Order c = c.order
count_of Stock c = c.stock
count_of Account c = c.account

-- so many are to receivers of this kind, and as many as before to others
abbrev pub with_count : Kind → ℕ → Counts → Counts
with_count Order n c = record c { order = n }
with_count Stock n c = record c { stock = n }
with_count Account n c = record c { account = n }
