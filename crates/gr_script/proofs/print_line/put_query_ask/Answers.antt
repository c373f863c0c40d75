use Rattle.gr_script.proofs.print_line.put_query_ask.Goals as goal

pub returns-in_ok-put_query_field-in-Enrol-clause-kept : goal.returns-in_ok-put_query_field-in-Enrol-clause-kept
returns-in_ok-put_query_field-in-Enrol-clause-kept c =
    rw c.in-Enrol.is (
      c.in_ok-put_word-in-Enrol.ensures.kept,
      c.in_ok-put_query_field-in-Enrol.ensures.spelled,
      c.in_ok-put_query_field-in-Enrol.ensures.readable,
    )
