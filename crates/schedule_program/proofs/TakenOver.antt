-- Lines that tell which files were taken over.
use Rattle.std.proofs.Common.{◌≡◌, ℕ, List, Option, Result, Ok, Err, ap, subst, sym, ◌∙◌}
use Rattle.std.proofs.lemmas.Result.{err_from_is_err_and}
use Rattle.std.specs.Io.KnownBytes.{Appends}
use Rattle.std.specs.Prelude.{codes, IfErr, OnOk, IsErrAnd}
use Rattle.schedule_io.specs.declared.fault.RunFault.{RunFault}
use Rattle.schedule_io.specs.declared.fault.RunFault.TheVariants.{Device}
use Rattle.schedule_program.specs.Migration.{IsTakenOverWith, Versions, all_lines, first_line, line_of, two_lines}
use Rattle.streams.proofs.Writes.{appends_then, part_first, part_then}
use Rattle.streams.specs.Written.{AppendsPart}

-- the writer failed, within the lines of all three
pub is_cut : (old new : Option (List ℕ)) (v : Versions) → AppendsPart old new (all_lines v) → (fault : RunFault)
    → fault ≡ Device → (r : Result Unit RunFault) → IsErrAnd r (λ told. told ≡ fault) → IsTakenOverWith old new r
is_cut old new v part fault is r err =
    let found = err_from_is_err_and r err in
    subst (IsTakenOverWith old new) (sym (found.1 ∙ ap (λ f. Err f) (found.2 ∙ is))) (v, part)

module _ (v : Versions) where
  -- within the first line, or the second
  pub first_cut : (old new : Option (List ℕ)) → AppendsPart old new (first_line v) → AppendsPart old new (all_lines v)
  first_cut old new part = part_first old new (two_lines v) _ (part_first old new (first_line v) _ part)

  pub second_cut : (old mid new : Option (List ℕ)) → Appends old mid (first_line v)
      → AppendsPart mid new (line_of (codes "migrated warehouse 1 2\n") v.warehouse)
      → AppendsPart old new (all_lines v)
  second_cut old mid new first part =
      part_first old new (two_lines v) _ (part_then old mid new (first_line v) _ first part)

  -- the third line was told, or a beginning of it
  pub third_told : (old mid new : Option (List ℕ)) → Appends old mid (two_lines v) → (r : Result Unit RunFault)
      → OnOk r (Appends mid new (line_of (codes "migrated billing 1 2\n") v.billing))
      → IfErr r (λ fault. (fault ≡ Device) × AppendsPart mid new (line_of (codes "migrated billing 1 2\n") v.billing))
      → IsTakenOverWith old new r
  third_told old mid new two (Ok done) ok err = (v, appends_then old mid new (two_lines v) _ two ok)
  third_told old mid new two (Err fault) ok err = subst (λ f. IsTakenOverWith old new (Err f)) (sym err.0)
      (v, part_then old mid new (two_lines v) _ two err.1)
