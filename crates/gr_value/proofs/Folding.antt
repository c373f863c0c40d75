-- The eights of a key, one after the other.
use Rattle.std.proofs.Common.{◌≡◌, ◌∙◌, ap, sym, refl, subst, ℕ, suc, ◌+◌, ◌*◌, ◌%◌, ◌^◌, List, drop, arith}
use Rattle.gr_value.specs.KeyFront.{front_of}
use Rattle.gr_value.specs.KeyHash.{folded}

pub one_more : (count : ℕ) (bytes : List ℕ)
    → folded (count + 1) bytes ≡ (folded count bytes * 14029467366897019727 + front_of (drop (count * 8) bytes)) % 2 ^ 64
one_more count bytes =
    let next : suc count ≡ count + 1 = omega arith in
    let eights : 8 * count ≡ count * 8 = omega arith in
    subst (λ n. folded n bytes ≡ (folded count bytes * 14029467366897019727 + front_of (drop (count * 8) bytes)) % 2 ^ 64) next
    (ap (λ n. (folded count bytes * 14029467366897019727 + front_of (drop n bytes)) % 2 ^ 64) eights)
