-- What was written is read.
use Rattle.std.proofs.Common.{◌≡◌, ℕ, List, [], ◌++◌, Some, sym, ap, subst, ◌∙◌, append_assoc, arith}
use Rattle.std.proofs.lemmas.List.{append-nil}
use Rattle.base.specs.declared.limits.TheConstants.{MAX_BODY}
use Rattle.stomp_frame.specs.Frames.{Content}
use Rattle.stomp_frame.specs.Spelling.{NoFrame}
use Rattle.stomp_frame.specs.Decoding.{Held}
use Rattle.stomp_frame.specs.Streams.{canonical_texts, SpellsAll}
use Rattle.stomp_frame.specs.Awaiting.{Awaits}
use Rattle.stomp_frame.specs.Calls.{DecoderCall, LeadsFromNew, fed, given}
use Rattle.stomp_frame.proofs.Streaming.{canonical_texts_are_spelled, none_is_left}
use Rattle.stomp_frame.proofs.Cutting.{sent_is_given}
use Rattle.stomp_wire.specs.Travel.{Travels}
use Rattle.stomp_wire.proofs.Journeys.{travels_keep}
use Rattle.stomp_client.specs.Written.{Wrote}

-- what was fed and what is to come are what was written
whole_text : (frames : List Content) (gone out received waiting carried : List ℕ) (calls : List DecoderCall)
    → Wrote frames gone out
    → Travels gone received (Some waiting) (Some carried) → fed calls ≡ received
    → canonical_texts frames ≡ fed calls ++ (carried ++ waiting ++ out)
whole_text frames gone out received waiting carried calls wrote travels e =
    let kept : gone ≡ received ++ carried ++ waiting =
    travels_keep gone received (Some waiting) (Some carried) travels in
    sym wrote.whole ∙ rw (kept, e) (simp append_assoc)

-- the frames that a decoder gave are the first of those written, and it awaits the others
pub awaited : (frames : List Content) (gone out received waiting carried : List ℕ) (calls : List DecoderCall)
    (held : Held)
    → Wrote frames gone out
    → Travels gone received (Some waiting) (Some carried) → LeadsFromNew MAX_BODY calls held → fed calls ≡ received
    → (others : List Content) × (frames ≡ given calls ++ others)
    × Awaits MAX_BODY others held (carried ++ waiting ++ out)
awaited frames gone out received waiting carried calls held wrote travels happened e =
    let spelled : SpellsAll MAX_BODY frames (fed calls ++ (carried ++ waiting ++ out)) =
    subst (SpellsAll MAX_BODY frames) (whole_text frames gone out received waiting carried calls wrote travels e)
    (canonical_texts_are_spelled MAX_BODY (omega arith) frames wrote.each) in
    sent_is_given MAX_BODY calls held frames (carried ++ waiting ++ out) happened spelled

-- where nothing is on its way, the decoder gave all frames that were written
pub all_given : (frames : List Content) (gone received : List ℕ) (calls : List DecoderCall) (held : Held)
    → Wrote frames gone []
    → Travels gone received (Some []) (Some [])
    → LeadsFromNew MAX_BODY calls held → fed calls ≡ received → NoFrame MAX_BODY held.octets → given calls ≡ frames
all_given frames gone received calls held wrote travels happened e none =
    let found = awaited frames gone [] received [] [] calls held wrote travels happened e in
    let no_other : found.0 ≡ [] = none_is_left MAX_BODY found.0 held found.2 none in
    sym (found.1 ∙ ap (λ (fs : List Content). given calls ++ fs) no_other ∙ append-nil (given calls))
