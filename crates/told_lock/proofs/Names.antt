-- Keys of a lock, by its name.
use Rattle.std.proofs.Common.{◌≡◌, ap, ◌∙◌, sym}
use Rattle.crossbeam_channel.specs.Claims.{Pass}
use Rattle.told_lock.specs.declared.lock.Lock.{Lock}
use Rattle.told_lock.specs.declared.view.Known.{Known}
use Rattle.told_lock.specs.Keys.{IsKeyOf, LockName, name_of, IsKeyAt}

module _ {T L : Type 0} (lock : Lock T L) (name : LockName T) (is : name_of lock ≡ name) where
  -- a key of the lock has its name
  pub key_at : (key : Pass T (Known T)) → IsKeyOf lock key → IsKeyAt name key
  key_at key k = (k.0 ∙ ap (λ n. n.0) is, k.1 ∙ ap (λ n. n.1) is, k.2)

  -- a key of that name is one of the lock, as any other is
  pub key_of : (other key : Pass T (Known T)) → IsKeyOf lock other → IsKeyAt name key → IsKeyOf lock key
  key_of other key o k = (k.0 ∙ sym (ap (λ n. n.0) is), k.1 ∙ sym (ap (λ n. n.1) is), k.2, o.3)
