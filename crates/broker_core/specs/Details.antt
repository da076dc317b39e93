-- What was wrong with a frame, beside the name of its refusal.
use Rattle.std.specs.Prelude.{ℕ, if◌then◌else◌, List, Option, Some, None, is_some}
use Rattle.std.specs.List.{find}
use Rattle.stomp_frame.specs.Frames.{Content}
use Rattle.stomp_session.specs.Headers.{has_none, required}

-- the name, where a frame has no header of it
abbrev pub missing_name : Content → List ℕ → Option (List ℕ)
missing_name f name = if has_none f name then Some name else None

-- the first of two names of which a frame has no header
abbrev pub missing_among : Content → List ℕ → List ℕ → Option (List ℕ)
missing_among f first second = if has_none f first then Some first else missing_name f second

-- the first header that a frame lacks of those that its command requires
abbrev pub missing_in : Content → Option (List ℕ)
missing_in f = find (has_none f) (required f.command)
