use Rattle.std.proofs.Common.{refl}
use Rattle.sqlite.specs.Held.{state}
use Rattle.keep.specs.Tables.{empty, changed, ArePlaced}
use Rattle.keep_sqlite.specs.Law.{seen_of}
use Rattle.keep_files.proofs.Reopenings.{write_by}
use Rattle.keep_files.proofs.files.FileKeepKeep.apply_steps.Goals as goal

pub returns-in-Open : goal.returns-in-Open
returns-in-Open g c =
    write_by (λ k. seen_of g.H.Filed.filing (state g.S.Store k.conn) k.is_usable k.failures) empty
    (λ f. f.is_told) (λ f. f.failures) (λ f. f.access) c.args.self.now _ c.in-Open.keep c.apply_steps.new.self
    c.in-Open.is refl refl
    (ArePlaced c.args.changes.items) (changed c.args.changes.items) c.apply_steps.result c.apply_steps.ensures

pub apply_steps-requires-clause-steps : goal.apply_steps-requires-clause-steps
apply_steps-requires-clause-steps g c = rw (c.if-not-self.false, c.in-Open.is) at c.requires.steps
