use Rattle.gr_value.proofs.FieldsRead.{HasRead}
use Rattle.gr_value.proofs.reading.fields_of.Given as goal

abbrev pub invariant-loop-name : goal.invariant-loop-name
invariant-loop-name l = record {
  can_next : (goal.iterator-loop-name).can_next l.name-iterator;
  is_finite : (goal.iterator-loop-name).is_finite l.name-iterator;
  so_far : HasRead l.fn.members.entries l.fields l.place l.name-iterator;
}
