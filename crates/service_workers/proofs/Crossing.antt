-- What threads of a run take with them, or share, may cross threads. The prover finds that by itself of types without snapshots.
use mathlib.Core.List.{◌∷◌, []}
use denote.RattleType.{RattleType}
use denote.Struct.Tuple.{Tuple}
use denote.Struct.Field.{row_field}
use denote.Param.{number}
use denote.Param.Send.{IsSend, sendable, view_send}
use denote.Param.SendFields.{declared_send, as_row_send}
use Rattle.std.proofs.Crossing as std
use Rattle.std.specs.contracts.snapshot.Snapshot as snapshot
use Rattle.std.specs.contracts.option.Option as option
use Rattle.std.specs.contracts.marker.PhantomData as phantom
use Rattle.stomp_wire.specs.declared.link.Link as link
use Rattle.stomp_frame.proofs.frame.Frame.TheSendSync as frame_laws
use Rattle.activities.specs.declared.handler.Handler as handler
use Rattle.activities.specs.declared.parts.Parts as parts
use Rattle.keep.specs.declared.store.Keep as keep
use Rattle.channel.proofs.channel.Channel.TheSendSync as channel_laws
use Rattle.relay.proofs.relay.Relay.TheSendSync as relay_laws
use Rattle.intake.specs.contracts.intake.IntakeReader as reader
use Rattle.intake.proofs.intake.IntakeReader.TheSendSync as reader_laws
use Rattle.shared_endpoint.proofs.tokens.Witness.TheSendSync as witness_laws
use Rattle.service_workers.specs.declared.naming.Naming as naming
use Rattle.service_workers.specs.declared.naming.RunNaming as run_naming
use Rattle.service_workers.specs.contracts.arrival.Arrival as arrival
use Rattle.service_workers.specs.contracts.arrival.Arrival.TheInside as arrival_inside
use Rattle.service_workers.specs.contracts.conn.Conn as conn
use Rattle.service_workers.specs.contracts.line.Line as line
use Rattle.service_workers.specs.contracts.line.Line.TheInside as inside
use Rattle.service_workers.specs.contracts.line.RunLine as run_line
use Rattle.service_workers.specs.contracts.line.RunLine.TheInside as run_inside
use Rattle.service_workers.specs.contracts.past.Past as past
use Rattle.service_workers.specs.contracts.past.Past.TheInside as past_inside

snapshot_send : (L : RattleType) → IsSend (snapshot.the_row L)
snapshot_send L = search (std.crosses) depth 20

conn_send : (L : RattleType) → IsSend L → IsSend (conn.the_row L)
conn_send L l = declared_send (conn.the_type L) (
  as_row_send (row_field L) l,
  (
    snapshot_send L,
    (
      channel_laws.the_send,
      (
        relay_laws.the_send,
        (
          search (std.crosses, sendable) depth 20,
          (
            search (std.crosses, sendable) depth 20,
            (
              search (std.crosses, sendable) depth 20,
              (
                search (std.crosses, sendable) depth 20,
                tt,
              ),
            ),
          ),
        ),
      ),
    ),
  ),
)

module _ (N M L K : RattleType) (n : naming.Ghosts N.Denot K.Denot L.Denot) (m : run_naming.Ghosts M.Denot L.Denot)
    (l : link.Ghosts L.Denot) where
  arrival_send : IsSend (arrival.the_row N M L K n m l)
  arrival_send = view_send _ _ _ _ _ (declared_send (arrival_inside.the_type N M L K n m l) (
    search (std.crosses, sendable) depth 20,
    (
      frame_laws.the_send (number 1048576),
      (declared_send (phantom.the_type (Tuple (N ∷ (M ∷ (L ∷ (K ∷ [])))))) tt, tt),
    ),
  ))

  pub reader_send : IsSend (reader.the_row (arrival.the_row N M L K n m l))
  reader_send = reader_laws.the_send (arrival.the_row N M L K n m l) arrival_send

module _ (N L H K S C : RattleType) (n : naming.Ghosts N.Denot K.Denot L.Denot) (l : link.Ghosts L.Denot)
    (h : handler.Ghosts H.Denot S.Denot C.Denot) (p : parts.Ghosts S.Denot) (k : keep.Ghosts K.Denot S.Denot C.Denot) where
  conn_if : IsSend (conn.the_row L) → IsSend (option.the_row (conn.the_row L))
  conn_if c = search (std.crosses, sendable) depth 60 fits 20000

  -- it has no parts, whatever it's of
  phantom_send : IsSend (phantom.the_row N)
  phantom_send = declared_send (phantom.the_type N) tt

  pub line_send : IsSend L → IsSend (line.the_row N L H K S C n l h p k)
  line_send sl = view_send _ _ _ _ _ (declared_send (inside.the_type N L H K S C n l h p k) (
    conn_if (conn_send L sl),
    (
      snapshot_send (option.the_row (conn.the_row L)),
      (
        witness_laws.the_send H K S C h p k,
        (
          search (std.crosses, sendable) depth 20,
          (phantom_send, tt),
        ),
      ),
    ),
  ))

  pub run_line_send : (M : RattleType) (m : run_naming.Ghosts M.Denot L.Denot) → IsSend L
      → IsSend (run_line.the_row N M L H K S C n m l h p k)
  run_line_send M m sl = view_send _ _ _ _ _ (declared_send (run_inside.the_type N M L H K S C n m l h p k) (
    conn_if (conn_send L sl),
    (
      snapshot_send (option.the_row (conn.the_row L)),
      (
        witness_laws.the_send H K S C h p k,
        (
          search (std.crosses, sendable) depth 20,
          (
            search (std.crosses, sendable) depth 20,
            (declared_send (phantom.the_type (Tuple (N ∷ (M ∷ [])))) tt, tt),
          ),
        ),
      ),
    ),
  ))

  pub past_send : IsSend (past.the_row N L H K S C n l h p k)
  past_send = view_send _ _ _ _ _ (declared_send (past_inside.the_type N L H K S C n l h p k) (
    search (snapshot_send, std.crosses, sendable) depth 20,
    (
      witness_laws.the_send H K S C h p k,
      (phantom_send, tt),
    ),
  ))
