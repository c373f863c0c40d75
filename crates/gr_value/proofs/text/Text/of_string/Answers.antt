use Rattle.gr_value.proofs.Utf8.{is_utf8-string_bytes}
use Rattle.gr_value.proofs.text.Text.of_string.Goals as goal

pub invariant_of-result : goal.invariant_of-result
invariant_of-result c = rw (c.in-Some.ensures, c.as_bytes.ensures.value) (is_utf8-string_bytes c.args.text)

pub returns-in-Some-clause-utf8 : goal.returns-in-Some-clause-utf8
returns-in-Some-clause-utf8 c = rw (c.in-Some.ensures, c.as_bytes.ensures.value) (is_utf8-string_bytes c.args.text)

pub far-requires : goal.far-requires
far-requires c = rw c.into_bytes.ensures.value (is_utf8-string_bytes c.args.text)
