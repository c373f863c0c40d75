use Rattle.gr_value.proofs.FieldsTaken.{lone_taken}
use Rattle.gr_value.proofs.lone.lone_number.Goals as goal

pub returns : goal.returns
returns c = (
  lone_taken c.args.bytes.now c.in_ok-inside.inside.now c.in_ok-name.rest.now c.in_ok-behind.field-0.now c.in_ok-scalar.rest.now
      c.in_ok-rest.rest.now (record { name = c.in_ok-name.name; scalar = c.in_ok-scalar.scalar }) c.in_ok-inside.ensures
      c.in_ok-name.ensures.0 c.in_ok-behind.ensures c.in_ok-scalar.ensures.0 c.in_ok-rest.ensures,
  (c.in_ok-name.ensures.1, c.in_ok-scalar.ensures.1),
)
