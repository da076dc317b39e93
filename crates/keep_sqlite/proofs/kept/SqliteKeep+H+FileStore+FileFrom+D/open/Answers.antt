use Rattle.sqlite.specs.Files.{file_state}
use Rattle.sqlite.specs.WalFiles.{image_at}
use Rattle.keep_sqlite.proofs.Abouts.{found_opened}
use Rattle.keep_sqlite.proofs.Blanks.{new_found}
use Rattle.keep_sqlite.proofs.kept.«SqliteKeep+H+FileStore+FileFrom+D».open.Goals as goal

pub returns-clause-found : goal.returns-clause-found
returns-clause-found g c =
    found_opened g.H.Filed.filing _ _ (image_at g.D.Start) file_state c.open_from.result c.adopt_opened.result
    c.adopt_opened.ensures.clean c.adopt_opened.ensures.found c.open_from.ensures.opened
    c.open_from.ensures.found

pub returns-clause-new : goal.returns-clause-new
returns-clause-new g c =
    new_found g.H.Filed.filing _ _ (image_at g.D.Start) c.adopt_opened.result (returns-clause-found g c)
