-- Examples: the two connections of a service, how they are cut, and what their relays know.
use Rattle.std.proofs.Common.{◌≡◌, ℕ, [], ◌∷◌, length, Option, Some, None, Ok, Err, refl, sym, ap, arith}
use Rattle.base.specs.declared.pair.Pair.{Pair}
use Rattle.stomp_client.specs.Clients.{Client}
use Rattle.endpoint.specs.declared.fault.EndFault.TheVariants.{StoreFailed, Memory}
use Rattle.keep.specs.Failing.{Failing}
use Rattle.schedule_mail.specs.Mails.{Mail, new_mail}
use Rattle.relay.specs.Filling.{SendState, marks_of}
use Rattle.relay.specs.declared.relay.Relay.{Relay}
use Rattle.schedule_text.specs.declared.event.ConnectionNumber.TheVariants.{Zero, One}
use Rattle.schedule_service.specs.Channels.{sending, IsAllDue, at_zero, at_one, at_number, ChannelHas, MailAfterCut}
use Rattle.schedule_service.specs.Channels.{channel_of, with_channel}
use Rattle.schedule_service.specs.Channels.{ChannelsHave, TakesChannel}
use Rattle.schedule_service.specs.Channels.{Same}
use Rattle.schedule_service.specs.Channels.{CutsBoth, AfterFault, After, Meets, MeetsAlone}
use Rattle.schedule_service.specs.declared.fate.ChannelFate.TheVariants.{Stays, IsCut, BothAreCut}
use Rattle.schedule_service.specs.declared.site_channel.SiteChannel.{SiteChannel}
use Rattle.schedule_service.specs.declared.site.Site.{Site}

-- ---- by number

-- what changes is what has that number, and the other stays
numbers_are_told_apart : (at_zero {A = ℕ} Zero 7 1 ≡ 7) × (at_zero {A = ℕ} One 7 1 ≡ 1) × (at_one {A = ℕ} Zero 7 2 ≡ 2)
    × (at_one {A = ℕ} One 7 2 ≡ 7)
    × (at_number {A = ℕ} Zero 1 2 ≡ 1) × (at_number {A = ℕ} One 1 2 ≡ 2)
    × (at_zero {A = ℕ} One 7 1 ≡ 7 → ⊥) × (at_one {A = ℕ} Zero 7 2 ≡ 7 → ⊥) × (at_number {A = ℕ} One 1 2 ≡ 1 → ⊥)
numbers_are_told_apart =
    (refl, refl, refl, refl, refl, refl, λ h. omega (arith, h), λ h. omega (arith, h), λ h. omega (arith, h))

-- ---- channels

-- a connection on which nothing was sent, and a mail that accepted a SEND
module _ (l : SiteChannel) (nothing : (p : Pair) → marks_of l.relay p ≡ 0) (later : Mail)
    (more : later.earlier ≡ [] → ⊥) where
  -- its relay with a cursor of so many rows, and its client with octets to be sent
  abbrev with_rows : ℕ → SiteChannel
  with_rows rows = record l { relay = record l.relay { behind = None; rows = rows } }

  abbrev with_octet : SiteChannel
  with_octet = record l {
    connection = record l.connection {
      channel = record l.connection.channel {
        client = record l.connection.channel.client {
          client = record l.connection.channel.client.client { out = 65 ∷ l.connection.channel.client.client.out };
        };
      };
    };
  }

  -- what was sent on a channel is what its relay marked and its client wrote
  channels_are_sent_on : ((sending l).marks ≡ marks_of l.relay)
      × ((sending l).client ≡ l.connection.channel.client.client)
      × (sending (with_rows 3) ≡ sending l) × (sending with_octet ≡ sending l → ⊥)
  channels_are_sent_on = (
    refl,
    refl,
    refl,
    λ h. let longer : length (65 ∷ l.connection.channel.client.client.out)
        ≡ length l.connection.channel.client.client.out =
        ap (λ (c : Client ℕ). length c.out) (ap (λ (c : SendState). c.client) h) in omega (arith, longer),
  )

  -- all is due where the cursor tells of no row; a cursor that tells of one isn't right of an outbox without rows
  nothing_counts_as_sent : IsAllDue (with_rows 0).relay × (IsAllDue (with_rows 1).relay → ⊥)
  nothing_counts_as_sent = (
    record { marks = nothing; knows = λ rows messages. (omega arith, λ x upto some. absurd upto) },
    λ h. let rows = (h.knows 0 (λ _ _. None)).0 in omega (arith, rows),
  )

  -- a relay that tells of so many rows; a connection that isn't open has whatever is asked
  abbrev TellsRows : ℕ → Relay → Type 0
  TellsRows rows r = r.rows ≡ rows

  open_channels_have_it : ChannelHas (TellsRows 3) (Some (with_rows 3)) × ChannelHas (TellsRows 3) None
      × (ChannelHas (TellsRows 3) (Some (with_rows 4)) → ⊥)
  open_channels_have_it = (refl, tt, λ h. omega (arith, h))

  -- the mail stays where there was no connection; where one was cut that had no session nothing is dealt, and what was
  -- accepted stays
  cuts_leave_the_mail : MailAfterCut None new_mail new_mail × MailAfterCut (Some l) new_mail new_mail
      × (MailAfterCut None new_mail later → ⊥) × (MailAfterCut (Some l) new_mail later → ⊥)
  cuts_leave_the_mail = (
    refl,
    (Ok tt, record { deals = (record { handed = []; deals = refl; taken = refl }, refl); earlier = refl }),
    λ h. more (ap (λ (o : Mail). o.earlier) h),
    λ h. more h.1.earlier,
  )

  -- ---- a service

  module _ (store : Failing ℕ) where
    -- with these connections
    abbrev site : Option SiteChannel → Option SiteChannel → Site ℕ ℕ ℕ ℕ
    site zero one = record { endpoint = store; zero = zero; one = one }

    -- how many connections are open
    abbrev is_open : Option SiteChannel → ℕ
    is_open None = 0
    is_open (Some l) = 1

    abbrev opened : Site ℕ ℕ ℕ ℕ → ℕ
    opened s = is_open s.zero

    abbrev opened_one : Site ℕ ℕ ℕ ℕ → ℕ
    opened_one s = is_open s.one

    -- each number has its channel, and the other one stays where it is put
    channels_have_numbers : (channel_of Zero (site (Some l) None) ≡ Some l)
        × (channel_of One (site (Some l) None) ≡ None)
        × (with_channel One (Some l) (site None None) ≡ site None (Some l))
        × (with_channel Zero None (site (Some l) (Some l)) ≡ site None (Some l))
        × (channel_of One (site (Some l) None) ≡ Some l → ⊥)
        × (with_channel One (Some l) (site None None) ≡ site (Some l) None → ⊥)
    channels_have_numbers = (
      refl,
      refl,
      refl,
      refl,
      λ h. absurd (cc),
      λ h. let open_zero : 0 ≡ 1 = ap opened h in omega (arith, open_zero),
    )

    -- both relays have it, or not
    both_channels_have_it : ChannelsHave (TellsRows 3) (site (Some (with_rows 3)) None)
        × ChannelsHave (TellsRows 3) (site (Some (with_rows 3)) (Some (with_rows 3)))
        × (ChannelsHave (TellsRows 3) (site (Some (with_rows 4)) None) → ⊥)
        × (ChannelsHave (TellsRows 3) (site (Some (with_rows 3)) (Some (with_rows 4))) → ⊥)
    both_channels_have_it = (
      (refl, tt),
      (refl, refl),
      λ h. let rows = h.0 in omega (arith, rows),
      λ h. let rows = h.1 in omega (
        arith,
        rows,
      ),
    )

    -- a connection is taken out, and isn't there then; where there is none nothing changes
    channels_are_taken : TakesChannel Zero (site (Some l) None) (site None None) (Some l)
        × TakesChannel One (site (Some l) None) (site (Some l) None) None
        × (TakesChannel One (site (Some l) None) (site (Some l) None) (Some l) → ⊥)
        × (TakesChannel Zero (site (Some l) None) (site (Some l) None) (Some l) → ⊥)
        × (TakesChannel One (site (Some l) None) (site None None) None → ⊥)
    channels_are_taken = (
      (refl, refl),
      (refl, refl),
      λ h. let there = h.0 in absurd (cc),
      λ h. let still : 1 ≡ 0 = ap opened h.1 in omega (arith, still),
      λ h. let gone : 0 ≡ 1 = ap opened h.1 in omega (arith, gone),
    )

    -- a service that is as it was, with the same mail
    same_is_same : Same (site (Some l) None) later (site (Some l) None) later
        × (Same (site (Some l) None) later (site None None) later → ⊥)
        × (Same (site (Some l) None) later (site (Some l) None) new_mail → ⊥)
    same_is_same = (
      (refl, refl),
      λ h. let gone : 0 ≡ 1 = ap opened h.0 in omega (arith, gone),
      λ h. more (ap (λ (o : Mail). o.earlier) (sym h.1)),
    )

    -- where none is open no mail changes; one that stays open wasn't cut
    cuts_of_none : CutsBoth (site None None) later (site None None) later
    cuts_of_none = record { between = later; zero = refl; one = refl; site = refl }

    cuts_of_one : CutsBoth (site (Some l) None) new_mail (site None None) new_mail
    cuts_of_one = record { between = new_mail; zero = cuts_leave_the_mail.1; one = refl; site = refl }

    no_cut : CutsBoth (site None (Some l)) new_mail (site None (Some l)) new_mail → ⊥
    no_cut h = let still : 1 ≡ 0 = ap opened_one h.site in omega (arith, still)

    -- only a store that failed cuts; behind an Ok and any other fault all stays
    faults_cut_or_not : AfterFault StoreFailed (site (Some l) None) new_mail (site None None) new_mail
        × AfterFault Memory (site (Some l) None) new_mail (site (Some l) None) new_mail
        × (AfterFault Memory (site (Some l) None) new_mail (site None None) new_mail → ⊥)
        × (AfterFault StoreFailed (site None (Some l)) new_mail (site None (Some l)) new_mail → ⊥)
    faults_cut_or_not = (
      cuts_of_one,
      (refl, refl),
      λ h. let gone : 0 ≡ 1 = ap opened h.0 in omega (arith, gone),
      no_cut,
    )

    answers_cut_or_not : After {R = ℕ} (Ok 7) (site (Some l) None) later (site (Some l) None) later
        × After {R = ℕ} (Err StoreFailed) (site (Some l) None) new_mail (site None None) new_mail
        × (After {R = ℕ} (Ok 7) (site (Some l) None) new_mail (site None None) new_mail → ⊥)
        × (After {R = ℕ} (Err StoreFailed) (site None (Some l)) new_mail (site None (Some l)) new_mail → ⊥)
    answers_cut_or_not =
        ((refl, refl), cuts_of_one, λ h. let gone : 0 ≡ 1 = ap opened h.0 in omega (arith, gone), no_cut)

    -- one that stays open is put in its place, one that is cut isn't there, and where both are cut neither is
    channels_meet_their_fate : Meets Stays Zero l (site None None) later (site (Some l) None) later
        × Meets IsCut Zero l (site (Some l) (Some l)) new_mail (site None (Some l)) new_mail
        × Meets BothAreCut Zero l (site None None) new_mail (site None None) new_mail
        × (Meets Stays Zero l (site None None) later (site None None) later → ⊥)
        × (Meets IsCut Zero l (site (Some l) (Some l)) new_mail (site None None) new_mail → ⊥)
        × (Meets BothAreCut One l (site None None) new_mail (site None (Some l)) new_mail → ⊥)
    channels_meet_their_fate = (
      (refl, refl),
      (cuts_leave_the_mail.1, refl),
      cuts_of_one,
      λ h. let gone : 0 ≡ 1 = ap opened h.0 in omega (arith, gone),
      λ h. let gone : 0 ≡ 1 = ap opened_one h.1 in omega (arith, gone),
      no_cut,
    )

    -- where the connection isn't open, only the fate of both changes the other one
    no_channel_meets_a_fate : MeetsAlone Stays (site None (Some l)) later (site None (Some l)) later
        × MeetsAlone IsCut (site None (Some l)) later (site None (Some l)) later
        × MeetsAlone BothAreCut (site (Some l) None) new_mail (site None None) new_mail
        × (MeetsAlone Stays (site None (Some l)) new_mail (site None None) new_mail → ⊥)
        × (MeetsAlone IsCut (site None (Some l)) new_mail (site None None) new_mail → ⊥)
        × (MeetsAlone BothAreCut (site None (Some l)) new_mail (site None (Some l)) new_mail → ⊥)
    no_channel_meets_a_fate = (
      (refl, refl),
      (refl, refl),
      cuts_of_one,
      λ h. let gone : 0 ≡ 1 = ap opened_one h.0 in omega (arith, gone),
      λ h. let gone : 0 ≡ 1 = ap opened_one h.0 in omega (arith, gone),
      no_cut,
    )
