use Rattle.std.proofs.Common.{◌∙◌, refl}
use Rattle.schedule_runner.proofs.looking.frame_lines.Goals as goal

pub returns-in-Ok-clause-read : goal.returns-in-Ok-clause-read
returns-in-Ok-clause-read g c =
    let h = c.in_ok-letters.ensures.read in record {
      call = h.call;
      doubt = h.doubt;
      clean = λ now. (
        (c.in_ok-letters.letters.items, (h.clean now).0, c.in-Ok.ensures ∙ rw c.as_slice.ensures.value refl),
        (h.clean now).1,
      );
    }

pub returns-clause-read : goal.returns-clause-read
returns-clause-read g c =
    let h = c.in_ok-letters.ensures.read in record { call = h.call; doubt = h.doubt; clean = λ now. (h.clean now).1 }
