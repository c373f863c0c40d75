use Rattle.std.proofs.Common.{[], ◌∷◌, arith}
use Rattle.std.proofs.lemmas.Result.{err_from_is_err_and}
use Rattle.gr_value.proofs.FieldsRead.{HasRead, read_none, read_more, read_fault, read_all}
use Rattle.gr_value.proofs.reading.fields_of.Goals as goal

pub loop-name-init : goal.loop-name-init
loop-name-init c = record {
  can_next = tt;
  is_finite = tt;
  so_far = rw (c.in_ok-fields.ensures, c.into_iter-name-iterator.ensures.into_iter_gives.0) (read_none _);
}

pub overflow_add-place : goal.overflow_add-place
overflow_add-place c =
    let so_far : HasRead c.args.members.entries c.loop-name.fields c.loop-name.place ((c.in-Some.name, c.in-Some.json) ∷ c.next.new.self) =
    rw c.in-Some.ensures.steps at c.loop-name.invariant.so_far in
    omega (arith, so_far.count)

pub loop-name-preserved : goal.loop-name-preserved
loop-name-preserved c = record {
  can_next = tt;
  is_finite = tt;
  so_far =
      let so_far : HasRead c.args.members.entries c.loop-name.fields c.loop-name.place
      ((c.in-Some.name, c.in-Some.json) ∷ c.next.new.self) =
      rw c.in-Some.ensures.steps at c.loop-name.invariant.so_far in
      rw c.in_ok-push.ensures.ok (read_more _ _ _ (c.in-Some.name, c.in-Some.json) _
      (record { name = c.in_ok-name.name; scalar = c.in_ok-scalar.scalar }) so_far c.in_ok-name.ensures.text
      c.in_ok-scalar.ensures.value (c.in_ok-name.ensures.utf8, c.in_ok-scalar.ensures.scalar));
}

pub returns-in_err-scalar : goal.returns-in_err-scalar
returns-in_err-scalar c =
    let so_far : HasRead c.args.members.entries c.loop-name.fields c.loop-name.place ((c.in-Some.name, c.in-Some.json) ∷ c.next.new.self) =
    rw c.in-Some.ensures.steps at c.loop-name.invariant.so_far in
    let p = err_from_is_err_and c.from_residual-in_err-scalar.result c.from_residual-in_err-scalar.ensures.1 in
    rw (p.1, p.2) (record {
      value = read_fault _ _ _ _ _ _ so_far c.in_err-scalar.ensures.value;
      readable = tt;
      ascending =
          tt;
    })

pub returns : goal.returns
returns c =
    let so_far : HasRead c.args.members.entries c.loop-name.fields c.loop-name.place [] =
    rw c.in-None.ensures.steps.0 at c.loop-name.invariant.so_far in
    let all = read_all _ _ _ so_far c.len.ensures.ordered in
    rw (c.of_vec.ensures, c.into_vec.ensures) (record { value = all.value; readable = all.readable; ascending = all.ascending })
