use Rattle.std.proofs.Common.{◌≡◌, ◌-◌, take, drop, refl}
use Rattle.sqlite.specs.Held.{state}
use Rattle.keep.specs.Tables.{empty}
use Rattle.keep_sqlite.specs.Law.{seen_of}
use Rattle.keep_files.proofs.Reopenings.{read_by}
use Rattle.keep_files.proofs.files.FileKeepKeep.journal.Goals as goal

pub returns-in-Open : goal.returns-in-Open
returns-in-Open g c =
    read_by (λ k. seen_of g.H.Filed.filing (state g.S.Store k.conn) k.is_usable k.failures) empty
    (λ f. f.is_told) (λ f. f.failures) (λ f. f.access) c.args.self.now _ c.in-Open.keep c.journal.new.self
    c.in-Open.is refl refl
    (λ t rows. rows.items ≡ take c.args.limit (drop (c.args.from - 1) t.journal)) c.journal.result c.journal.ensures
