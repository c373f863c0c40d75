use Rattle.std.proofs.Common.{◌≡◌, ◌∙◌, ap, arith, inr, Some}
use Rattle.std.specs.List.{AllByRecursion}
use Rattle.std.proofs.lemmas.Bool.{false≢true}
use Rattle.std.proofs.lemmas.Result.{err_from_is_err_and}
use Rattle.serde_json.specs.View.{view}
use Rattle.gr_value.specs.ValueText.{value_text}
use Rattle.gr_value.specs.Values.{HasAscendingNames, IsField}
use Rattle.gr_value.proofs.Shorter.{few_members, text_shorter}
use Rattle.gr_value.proofs.ValueRead.{by_json, not_json, printed}
use Rattle.gr_value.proofs.reading.fields_of_bytes.Goals as goal

pub returns-in-Some-clause-value : goal.returns-in-Some-clause-value
returns-in-Some-clause-value c =
    let fields = c.in-Some.fields in
    let text : c.args.bytes.now ≡ value_text fields = rw c.in-Some.is at c.in_ok-fields.ensures.text in
    let ascending : HasAscendingNames fields = rw c.in-Some.is at c.in_ok-fields.ensures.ascending in
    let readable : AllByRecursion IsField fields = rw c.in-Some.is at c.in_ok-fields.ensures.readable in
    printed c.args.bytes.now fields c.requires text ascending readable

pub fields_of_json-requires : goal.fields_of_json-requires
fields_of_json-requires c = record {
  few = λ found e. omega (arith, few_members c.args.bytes.now found (c.in-Ok.ensures.ok.1 ∙ ap Some e), c.requires);
}

pub returns-in_err-fields_of_json-in-Ok-clause-value : goal.returns-in_err-fields_of_json-in-Ok-clause-value
returns-in_err-fields_of_json-in-Ok-clause-value c =
    let p = err_from_is_err_and c.from_residual-in_err-fields_of_json-in-Ok.result c.from_residual-in_err-fields_of_json-in-Ok.ensures.1 in
    let read = by_json c.args.bytes.now (view c.in-Ok.json) c.requires c.in-Ok.ensures.ok.0 c.in-Ok.ensures.ok.1 in
    rw (p.1, p.2, read) c.in_err-fields_of_json-in-Ok.ensures.value

pub returns-in_ok-fields_of_json-in-Ok-clause-value : goal.returns-in_ok-fields_of_json-in-Ok-clause-value
returns-in_ok-fields_of_json-in-Ok-clause-value c =
    by_json c.args.bytes.now (view c.in-Ok.json) c.requires c.in-Ok.ensures.ok.0 c.in-Ok.ensures.ok.1
    ∙ c.in_ok-fields_of_json-in-Ok.ensures.value

pub returns-in_ok-fields_of_json-in-Ok-clause-kept : goal.returns-in_ok-fields_of_json-in-Ok-clause-kept
returns-in_ok-fields_of_json-in-Ok-clause-kept c = record {
  ascending = c.in_ok-fields_of_json-in-Ok.ensures.ascending;
  readable = c.in_ok-fields_of_json-in-Ok.ensures.readable;
  short = omega (
    arith,
    text_shorter c.args.bytes.now
        (view c.in-Ok.json) _ c.in-Ok.ensures.ok.1 c.in_ok-fields_of_json-in-Ok.ensures.value,
    c.requires,
  );
}

pub returns-in_ok-fields_of_json-in-Ok-clause-shorter : goal.returns-in_ok-fields_of_json-in-Ok-clause-shorter
returns-in_ok-fields_of_json-in-Ok-clause-shorter c =
    text_shorter c.args.bytes.now (view c.in-Ok.json) _ c.in-Ok.ensures.ok.1 c.in_ok-fields_of_json-in-Ok.ensures.value

pub returns-else-is_memory-clause-value : goal.returns-else-is_memory-clause-value
returns-else-is_memory-clause-value c =
    inr (not_json c.args.bytes.now c.requires (c.in-Err.ensures.err (λ memory. false≢true (c.if-is_memory.ensures.1 memory))))
