-- Readings that were not refused.
use Rattle.std.proofs.Common.{◌≡◌, ℕ, Bool, true, false, ltb, ◌||◌, Option, Some, None, Result, Ok, Err, refl}
use Rattle.std.specs.Option.{ok_or}
use Rattle.std.proofs.lemmas.Bool.{or_parts, ltb-false}
use Rattle.gr_script.specs.declared.reason.Reason.{Reason}
use Rattle.gr_script.specs.declared.reason.Reason.TheVariants.{Range}
use Rattle.gr_script.specs.Halts.{◌>>=◌, unless}
use Rattle.gr_script.specs.Items.{within}
use Rattle.gr_script.specs.Rules.{IsWithin}

abbrev pub done : {A : Type 0} → A → Result A Reason
done x = Ok x

pub done_is : {A : Type 0} (x y : A) → done x ≡ done y → x ≡ y
done_is x y e = cc

-- what was read first
pub bind_ok : {A B : Type 0} (r : Result A Reason) (f : A → Result B Reason) (y : B) → (r >>= f) ≡ Ok y → (x : A) × (r ≡ Ok x)
    × (f x ≡ Ok y)
bind_ok (Ok x) f y e = (x, refl, e)
bind_ok (Err why) f y e = absurd cc

pub unless_ok : {A : Type 0} (test : Bool) (why : Reason) (x y : A) → unless test why x ≡ Ok y → (test ≡ false) × (x ≡ y)
unless_ok true why x y e = absurd cc
unless_ok false why x y e = (refl, cc)

pub some_ok : {A : Type 0} (found : Option A) (why : Reason) (x : A) → ok_or found why ≡ Ok x → found ≡ Some x
some_ok None why x e = absurd cc
some_ok (Some y) why x e = cc

pub within_ok : (least most number read : ℕ) → within least most number ≡ Ok read → (number ≡ read) × IsWithin least most number
within_ok least most number read e =
    let parts = unless_ok (ltb number least || ltb most number) Range number read e in
    let sides = or_parts (ltb number least) (ltb most number) parts.0 in
    (parts.1, (ltb-false number least sides.0, ltb-false most number sides.1))
