-- What is so where a call went well, of one that did.
use Rattle.std.proofs.Common.{Result, Ok, Err, IsOk, OnOk}

pub on_ok : {T E P : Type 0} (r : Result T E) → IsOk r → OnOk r P → P
on_ok (Ok x) is p = p
on_ok (Err e) is p = cc

-- what is so, is so where a call went well
pub so_on_ok : {T E P : Type 0} (r : Result T E) → P → OnOk r P
so_on_ok (Ok x) p = p
so_on_ok (Err e) p = tt
