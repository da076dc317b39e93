use Rattle.service_workers.proofs.run.Run.put.Goals as goal

pub keep-requires : goal.keep-requires
keep-requires g c = record {
  message = c.into_parts-number.ensures.message;
  came = λ s. (c.into_parts-number.ensures.came s).0;
}
