use Rattle.std.proofs.Common.{inl, inr, refl, map, string_bytes}
use Rattle.gr_main.proofs.running.answer.Goals as goal

pub returns-in-Ok : goal.returns-in-Ok
returns-in-Ok g c = inl (record {
  words = map (λ word. string_bytes word) c.in-Ok.words.items;
  words_are = c.in-Ok.ensures;
  answered = rw c.as_slice.ensures.value at c.program-status.ensures;
})

pub returns-in-Err : goal.returns-in-Err
returns-in-Err g c = inr (record {
  status_is = c.conclude-status.ensures.status;
  source_is = record { bytes = refl; faults = refl };
  sink_is = record { bytes = refl; faults = refl };
  told = c.conclude-status.ensures.told;
})
