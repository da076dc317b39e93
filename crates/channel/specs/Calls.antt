-- What each call of a channel does and answers.
use Rattle.std.specs.Prelude.{◌≡◌, ℕ, ◌≤◌, List, Option, Some, None, Result, Ok}
use Rattle.base.specs.declared.limits.TheConstants.{MAX_BODY}
use Rattle.stomp_frame.specs.Calls.{nothing_held}
use Rattle.stomp_frame.specs.Decoding.{FeedsDecoder, Nexts}
use Rattle.stomp_frame.specs.Frames.{Content}
use Rattle.stomp_frame.specs.declared.fault.FrameFault.{FrameFault}
use Rattle.stomp_client.specs.Clients.{new_client, without_first}
use Rattle.channel.specs.declared.channel.Channel.{Channel}

-- nothing was written, and nothing came
pub record IsNewChannel (c : Channel) : Type 0 where
  pub client : c.client.client ≡ new_client
  pub decoder : c.decoder ≡ nothing_held
  pub waiting : c.waiting ≡ None

-- the octets that wait to be sent
abbrev pub outgoing : Channel → List ℕ
outgoing c = c.client.client.out

-- so many octets were sent, and nothing else changed
pub record ChannelSends (count : ℕ) (old new : Channel) : Type 0 where
  pub client : new.client.client ≡ without_first count old.client.client
  pub room : old.client.room ≤ new.client.room
  pub decoder : new.decoder ≡ old.decoder
  pub waiting : new.waiting ≡ old.waiting

-- What `feed` answers: what the decoder answers to the octets that came.
abbrev pub ChannelFeeds : Channel → Channel → List ℕ → Result (Unit {0}) FrameFault → Type 0
ChannelFeeds old new piece r =
    FeedsDecoder old.decoder new.decoder piece r × (new ≡ record old { decoder = new.decoder })

-- the frame that waits is given; where none does, the decoder's answer is
abbrev pub GivesNextOf : Option Content → Channel → Channel → Result (Option Content) FrameFault → Type 0
GivesNextOf (Some f) old new r = (r ≡ Ok (Some f)) × (new ≡ record old { waiting = None })
GivesNextOf None old new r = Nexts MAX_BODY old.decoder new.decoder r × (new ≡ record old { decoder = new.decoder })

-- What `next` answers: the frame that waits, else what the decoder answers.
abbrev pub GivesNext : Channel → Channel → Result (Option Content) FrameFault → Type 0
GivesNext old new r = GivesNextOf old.waiting old new r
