-- Examples: worlds that are good, and why others aren't.
use Rattle.std.proofs.Common.{◌≡◌, ◌≤◌, ℕ, [], ◌∷◌, length, Some, None, refl, sym, ap, subst, arith}
use Rattle.std.specs.List.{AllByRecursion}
use Rattle.base.specs.Order.{same_entity, same_pair}
use Rattle.base.specs.declared.entity.Kind.TheVariants.{Stock}
use Rattle.envelope.specs.Reading.{read_envelope}
use Rattle.envelope.specs.declared.message.Envelope.TheVariants.{Letter as OfLetter}
use Rattle.envelope.specs.declared.message.Letter.{Letter}
use Rattle.envelope.specs.declared.message.Message.TheVariants.{Request}
use Rattle.keep.specs.Tables.{empty, set_message}
use Rattle.endpoint.specs.Arrivals.{row_of_letter}
use Rattle.endpoint.specs.Deeds.{TakesIn}
use Rattle.endpoint.proofs.Examples.{o1, bolts, from_order}
use Rattle.laws_stores.specs.Deeds.{DeedOfOne, OfPurchasing, ComesOf}
use Rattle.laws_stores.specs.Good.{IsGenuine}
use Rattle.laws_stores.specs.Sight.{OrderTables, StockTables, AllTables, MayLeave, all_empty}
use Rattle.laws_stores.proofs.Keeping.{good_later}
use Rattle.schedule_mail.specs.Mails.{Mail}
use Rattle.schedule_service.specs.declared.site_channel.SiteChannel.{SiteChannel}
use Rattle.schedule_runner.specs.Good.{AllRight, IsGoodWorld, MailIs, StaysGood, Agrees}
use Rattle.schedule_runner.specs.Sight.{sight}
use Rattle.schedule_runner.proofs.PathExamples.{seen, TheWorld, world, tables, only, matches}
use Rattle.schedule_runner.proofs.Righting.{new_good, opened_good, good_agree}
use Rattle.laws_stores.proofs.Placed.{placing, before, after, before_matches, taken_in}

-- the first letter of the order to the stock, as it was sent and as it wasn't
abbrev asks : ℕ → Letter
asks n = record { pair = from_order bolts; number = 1; message = Request n }

-- a warehouse that holds such a letter
abbrev holding : Letter → StockTables
holding l = record empty { held = set_message l.pair l.number (Some l.message) (λ _ _. None) }

-- a warehouse that took that letter in
abbrev asked : StockTables
asked = record empty { journal = row_of_letter (asks 3) ∷ [] }

-- the tables of all three, with none of billing
abbrev with_stocks : OrderTables → StockTables → AllTables
with_stocks purchasing warehouse = record all_empty { purchasing = purchasing; warehouse = warehouse }

module _ (any : TheWorld) where
  -- before and after the order was placed
  abbrev new : TheWorld
  new = world any before empty

  abbrev done : TheWorld
  done = world any after empty

  -- ---- a good world

  -- services that did nothing are good, and so they are with an order placed that nobody has heard of
  pub worlds_are_good : IsGoodWorld seen seen seen new × IsGoodWorld seen seen seen done
  worlds_are_good = (
    nothing_done,
    opened_good seen seen seen done refl refl refl refl refl refl refl
        (good_later (sight seen seen seen new) (sight seen seen seen done) nothing_done.services placed),
  )
    where
      nothing_done : IsGoodWorld seen seen seen new
      nothing_done = new_good seen seen seen new refl refl refl refl refl refl refl (only any before)

      placed : ComesOf (DeedOfOne (IsGenuine (sight seen seen seen new))) (sight seen seen seen new)
          (sight seen seen seen done)
      placed y may = ∣ (
        tables any before,
        record { purchasing = refl; warehouse = refl; billing = refl },
        subst (DeedOfOne (IsGenuine (sight seen seen seen new)) (tables any before)) (sym (only any after y may))
            (OfPurchasing (record { deed = TakesIn placing; founded = tt; did = (taken_in.takes, refl, refl) }) refl
            refl),
      ) ∣₁

  -- ---- worlds that aren't

  -- a stop leaves the tables that there are
  leaves : (x : OrderTables) (y : StockTables) → MayLeave (sight seen seen seen (world any x y)) (with_stocks x y)
  leaves x y = record { purchasing = refl; warehouse = refl; billing = refl }

  -- a mark ahead of the handling; a letter held that nobody sent; and where the order was placed one with another
  -- content
  services_are_not_good : (IsGoodWorld seen seen seen (world any (record after { settled = λ _. 1 }) empty) → ⊥)
      × (IsGoodWorld seen seen seen (world any before (holding (asks 3))) → ⊥)
      × (IsGoodWorld seen seen seen (world any after (holding (asks 4))) → ⊥)
  unfolding same_entity same_pair
  services_are_not_good = (
    λ h. let ahead = h.services.settled (with_stocks (record after { settled = λ _. 1 }) empty)
        (leaves (record after { settled = λ _. 1 }) empty) (from_order bolts) in omega (arith, ahead),
    λ h. let sent = h.services.held (with_stocks before (holding (asks 3))) (leaves before (holding (asks 3))) Stock
        (OfLetter (asks 3)) refl (with_stocks before (holding (asks 3))) (leaves before (holding (asks 3)))
        in absurd (cc),
    λ h. let sent = h.services.held (with_stocks after (holding (asks 4))) (leaves after (holding (asks 4))) Stock
        (OfLetter (asks 4)) refl (with_stocks after (holding (asks 4))) (leaves after (holding (asks 4)))
        in absurd (cc),
  )

  -- a broker that accepted a letter with another content than the order's journal sends
  module _ (mail : Mail) (forged : _) (more : _) (accepted : mail.earlier ≡ forged ∷ more)
      (reads : read_envelope forged.sent.headers forged.sent.body ≡ Some (OfLetter (asks 4))) where
    mail_is_not_good : (MailIs (IsGenuine (sight seen seen seen done)) (record done { mail = mail }) → ⊥)
        × (IsGoodWorld seen seen seen (record done { mail = mail }) → ⊥)
    unfolding same_entity
    mail_is_not_good = (forged_mail, λ h. forged_mail h.mail)
      where
        is_forged : IsGenuine (sight seen seen seen done) (OfLetter (asks 4)) → ⊥
        is_forged h = let sent =
            h (tables any after) (record { purchasing = refl; warehouse = refl; billing = refl }) in absurd (cc)

        forged_mail : MailIs (IsGenuine (sight seen seen seen done)) (record done { mail = mail }) → ⊥
        forged_mail h =
            let all = subst (AllByRecursion _) accepted h.mail.earlier in is_forged (all.0.brought _ reads)

  -- a relay whose cursor stands behind more rows than the journal has
  module _ (l : SiteChannel) where
    abbrev channel : ℕ → SiteChannel
    channel count = record l { relay = record l.relay { behind = None; rows = count } }

    abbrev with_channel : ℕ → TheWorld
    with_channel count = record done { purchasing = record done.purchasing { zero = Some (channel count) } }

    relays_are_right_or_not : AllRight seen seen seen (with_channel 1) × (AllRight seen seen seen (with_channel 2) → ⊥)
        × (IsGoodWorld seen seen seen (with_channel 2) → ⊥)
    relays_are_right_or_not = (
      (((λ t left. (one t left, λ x upto some. absurd upto)), tt), (tt, tt), (tt, tt)),
      ahead,
      λ h. ahead h.right,
    )
      where
        one : (t : OrderTables) → t ≡ after → 1 ≤ length t.journal
        one t left =
            let rows : length t.journal ≡ 1 = ap (λ (x : OrderTables). length x.journal) left in omega (arith, rows)

        ahead : AllRight seen seen seen (with_channel 2) → ⊥
        ahead h = let rows = (h.0.0 after refl).0 in omega (arith, rows)

  -- ---- what stays

  -- the order is placed, and the world stays good and agrees; no event leaves a letter held that nobody sent, nor a
  -- line of an order at a stock where the order wasn't placed
  worlds_stay_good : StaysGood seen seen seen new done × Agrees seen seen seen new done
      × (StaysGood seen seen seen new (world any before (holding (asks 3))) → ⊥)
      × (Agrees seen seen seen new (world any before asked) → ⊥)
  unfolding same_entity
  worlds_stay_good = (
    stays,
    good_agree seen seen seen new done stays,
    λ h. services_are_not_good.1 (h (refl, refl, refl) (matches any before before_matches) worlds_are_good.0),
    no_line,
  )
    where
      stays : StaysGood seen seen seen new done
      stays clean match good = worlds_are_good.1

      no_line : Agrees seen seen seen new (world any before asked) → ⊥
      no_line h =
          let all = h (refl, refl, refl) (matches any before before_matches) worlds_are_good.0 in
          let here = all (with_stocks before asked) (leaves before asked) in
          let none = (here.agree o1 refl).nowhere_else bolts (λ partner. partner) in absurd (cc)
